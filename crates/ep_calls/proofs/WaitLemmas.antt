-- A wait that isn't refused, as the machine makes it.
use Rattle.std.proofs.Common.{get_or, slice_index_or, ◌≡◌, ◌&&◌, ◌++◌, ◌<◌, ◌==◌, ◌⊎◌, ℕ, ℤ, Bool, false, true, List, [], ◌∷◌, Option, None, Some, IsSome, Result, Ok, Err, IfOk, OnErr, All, arith, cond, filter, if◌then◌else◌, inl, inr, length, map, negsuc, not, pos, suc, zero, unwrap_or, refl, ap, sym, ◌∙◌, subst}
use Rattle.std.proofs.lemmas.Bool.{false≢true}
use Rattle.std.proofs.lemmas.Bool.Decides.{nat_tests}
use Rattle.std.proofs.lemmas.List.{map-append}
use Rattle.std.proofs.lemmas.List.Elements.{All-append, All-cons, All-nil}
use Rattle.ep_base.specs.declared.answer.Answer.{Answer}
use Rattle.ep_base.specs.declared.answer.Answer.TheVariants.{Parked}
use Rattle.ep_base.specs.declared.errno.Errno.{Errno}
use Rattle.ep_base.specs.declared.errno.Errno.TheVariants.{Ebadf, Einval}
use Rattle.ep_base.specs.declared.ids.DescId.{DescId}
use Rattle.ep_interest.specs.Registrations.{Registrations}
use Rattle.ep_interest.specs.declared.entry.Entry.{Entry}
use Rattle.ep_machine.specs.Effect.{first}
use Rattle.ep_base.specs.declared.call.Event.TheVariants.{Resume}
use Rattle.ep_machine.specs.Deaths.{named_in_tables}
use Rattle.ep_machine.specs.Files.{Files, is_live, named_by, names_nothing, object_under, under}
use Rattle.ep_view.specs.KernelView.{at_number}
use Rattle.ep_machine.specs.Refusal.{refusals, wait_refusals}
use Rattle.ep_machine.specs.Files.{object_of}
use Rattle.ep_view.specs.AtRest.{can_be_watched}
use Rattle.ep_machine.specs.Objects.{is_instance, plain}
use Rattle.ep_machine.specs.Step.{call_change}
use Rattle.std.proofs.lemmas.List.Elements.{All-map, All-weaker}
use Rattle.ep_calls.specs.Does.{DoesCallIf, DoesEventIf}
use Rattle.ep_calls.specs.Parts.{AreCoherent, AreWatched}
use Rattle.ep_calls.specs.Moves.{MovesIf}
use Rattle.ep_calls.specs.Raising.{IsRaising}
use Rattle.ep_calls.specs.Stands.{AreHeld, KeepsKeys}
use Rattle.ep_calls.specs.Wait.{wait_call}
use Rattle.ep_calls.specs.declared.outcome.Outcome.{Outcome}
use Rattle.ep_calls.specs.declared.raising.Raising.{Raising}
use Rattle.ep_calls.specs.declared.raising.Raising.TheVariants.{Nowhere}
use Rattle.ep_calls.proofs.NothingRaisedLemmas.{nowhere_raises, resume_raises}
use Rattle.ep_machine.specs.State.{Change, State, Waiter}
use Rattle.ep_machine.specs.Waits.{is_positive, parked, resume, wait, wait_for}
use Rattle.ep_machine.specs.Bits.{ONESHOT, has_bit}
use Rattle.ep_machine.specs.Lists.{is_among}
use Rattle.ep_machine.specs.Watches.{is_legal, links, number_in}
use Rattle.ep_nest.specs.declared.link.Link.{Link}
use Rattle.ep_calls.specs.Climb.{KeepsLinks, is_nested, link_of}
use Rattle.ep_calls.proofs.GraphLemmas.{links_by_keys, links_mapped}
use Rattle.ep_calls.specs.Moves.{Goes, StandFor}
use Rattle.ep_calls.specs.Parts.{Parts}
use Rattle.ep_calls.specs.Reports.{Reports}
use Rattle.ep_calls.specs.Stands.{AreLinked, ArePlaced, IsLinked, IsPlaced, Stands, number_at, waiters_at, watch_at}
use Rattle.ep_calls.specs.Wait.{AreKeyed, IsPick, Waits, deadline_of, with_report, numbers_of, wait_tests}
use Rattle.ep_calls.specs.declared.wait.Reportable.{Reportable}
use Rattle.ep_calls.specs.declared.wait.Wait.{Wait}
use Rattle.ep_calls.proofs.OutcomeLemmas.{goes_made}
use Rattle.ep_calls.proofs.KeyLemmas.{under_key}
use Rattle.ep_calls.proofs.ReportLemmas.{after, linked_noted, no_numbers, told_change, waits, waits_now}
use Rattle.ep_table.specs.Value.{Seen, Sound as SoundTables, content_of, holds_of, number_of, number_under}
use Rattle.ep_table.proofs.UnnameLemmas.{under_named}

-- the first test does not hold
past_test : (b : Bool) (e : Errno) (rest : List (Bool × Errno)) → first ((b, e) ∷ rest) ≡ None → first rest ≡ None
past_test true e rest h = cc
past_test false e rest h = h

past_one : (a : Bool) (e : Errno) (rest : List (Bool × Errno)) → first ((not a, e) ∷ rest) ≡ None → a ≡ true
past_one true e rest h = refl
past_one false e rest h = absurd cc

-- a report leaves links as they are
link_noted : (r : Registrations) (n : ℕ) (ks : List ℕ) (x : Entry) → link_of r (with_report n ks x) ≡ link_of r x
link_noted r n ks x = elim (is_among ks x.number) as (λ b. link_of r (cond b (record x { armed = x.armed && not (has_bit x.mask.0 ONESHOT); fresh = false; reported_in = n }) x) ≡ link_of r x) [ true ↦ refl | false ↦ refl ]

nested_noted : (v : Seen) (n : ℕ) (ks : List ℕ) (x : Entry) → is_nested v (with_report n ks x) ≡ is_nested v x
nested_noted v n ks x = elim (is_among ks x.number) as (λ b. is_nested v (cond b (record x { armed = x.armed && not (has_bit x.mask.0 ONESHOT); fresh = false; reported_in = n }) x) ≡ is_nested v x) [ true ↦ refl | false ↦ refl ]

links_noted : (r : Registrations) (v : Seen) (n : ℕ) (ks : List ℕ) (xs : List Entry) → map (link_of r) (filter (is_nested v) (map (with_report n ks) xs)) ≡ map (link_of r) (filter (is_nested v) xs)
links_noted r v n ks xs = links_mapped r (is_nested v) (with_report n ks) (link_noted r n ks) (nested_noted v n ks) xs

-- what is reported leaves the rest of a registration
module _ (v : Seen) (old new : Registrations) (n : ℕ) (chosen : List Reportable) (answer : Answer) (picked : List ℕ) (is : Reports old new n chosen answer picked) where
  pub still_linked : AreLinked v old → AreLinked v new
  still_linked linked = subst (λ (xs : List Entry). All (IsLinked v.keys) xs) (sym is.entries) (linked_noted v.keys n (numbers_of chosen) old.entries linked)

  abbrev IsShown : Entry → Type 0
  IsShown x = can_be_watched (object_of v.files (number_at v.keys x.desc)) ≡ true

  noted_shown : (ks : List ℕ) (x : Entry) → IsShown x → IsShown (with_report n ks x)
  noted_shown ks x h = elim (is_among ks x.number) as (λ b. IsShown (cond b (record x { armed = x.armed && not (has_bit x.mask.0 ONESHOT); fresh = false; reported_in = n }) x)) [ true ↦ h | false ↦ h ]

  pub still_watched : AreWatched v old → AreWatched v new
  still_watched watched =
      let ks = numbers_of chosen in
      subst (All IsShown) (sym is.entries) (All-map IsShown (with_report n ks) old.entries (All-weaker IsShown (λ x. IsShown (with_report n ks x)) (noted_shown ks) old.entries watched))

  pub still_nested : (graph : List Link) → KeepsLinks old graph new graph
  still_nested graph = λ tables nested.
      nested
      ∙ (sym (links_noted old tables n (numbers_of chosen) old.entries)
      ∙ (ap (λ (xs : List Entry). map (link_of old) (filter (is_nested tables) xs)) (sym is.entries) ∙ sym (links_by_keys old new (is_nested tables) new.entries is.keys)))

pub coherent_reported : (p : Parts) (r : Registrations) (n : ℕ) (chosen : List Reportable) (answer : Answer) (picked : List ℕ) → AreCoherent p → Reports p.interest r n chosen answer picked → AreCoherent (record p { interest = r })
coherent_reported p r n chosen answer picked h is = record {
  linked = still_linked p.tables p.interest r n chosen answer picked is h.linked;
  watched = still_watched p.tables p.interest r n chosen answer picked is h.watched;
  nested = still_nested p.tables p.interest r n chosen answer picked is p.graph p.tables h.nested;
  placed = h.placed;
  held = h.held;
  clock = h.clock;
}

-- the same whether or not there was memory for the report
pub stays_reported : {E : Type 0} (p : Parts) (r : Registrations) (n : ℕ) (chosen : List Reportable) (made : Result Outcome E) → AreCoherent p
    → IfOk made (λ o. Reports p.interest r n chosen o.answer o.picked) → OnErr made (r ≡ p.interest) → AreCoherent (record p { interest = r })
stays_reported p r n chosen (Ok o) h is left = coherent_reported p r n chosen o.answer o.picked h is
stays_reported p r n chosen (Err e) h is left = subst (λ (x : Registrations). AreCoherent (record p { interest = x })) (sym left) h

-- two facts of what a call made
pub both_ok : {X E : Type 0} (made : Result X E) (P Q : X → Type 0) → IfOk made P → IfOk made Q → IfOk made (λ x. P x × Q x)
both_ok (Ok x) P Q p q = (p, q)
both_ok (Err e) P Q p q = tt

-- what parks or leaves a waiter keeps files and keys
pub coherent_parked : (p : Parts) (v : Seen) (us : List Waiter) → AreCoherent p → v.files ≡ p.tables.files → v.keys ≡ p.tables.keys → ArePlaced p.tables us → AreHeld v us → AreCoherent (record p { tables = v; parked = us })
coherent_parked p v us h files keys placed held =
    let P : List (Option ℕ) → Type 0 = λ ks. All (IsLinked ks) p.interest.entries in
    let Q : List (Option ℕ) → Type 0 = λ ks. All (IsPlaced ks) us in
    record {
      linked = subst P (sym keys) h.linked;
      watched = λ k d lt. (λ i. can_be_watched (object_of (files i) (number_at (keys i) (get_or p.interest.entries k d).desc))) ∙ h.watched k d lt;
      nested = h.nested ∙ (λ i. map (link_of p.interest) (filter (λ x. is_instance (unwrap_or (object_of (sym files i) (number_at (sym keys i) x.desc)) plain)) p.interest.entries));
      placed = subst Q (sym keys) placed;
      held = held;
      clock = h.clock;
    }

-- a wait raises nothing, and leaves files and keys
module _ (Also : State → Type 0) (n caller : ℕ) (outcome : Outcome) (p new : Parts) (raising : outcome.raising ≡ Nowhere) (files : new.tables.files ≡ p.tables.files) (keys : new.tables.keys ≡ p.tables.keys)
    (limits : new.tables.limits ≡ p.tables.limits) where
  kept : KeepsKeys p.tables new.tables
  kept = λ key d h. ap (λ (ks : List (Option ℕ)). slice_index_or ks key.0 None) keys ∙ h

  pub wait_does : (args : Wait)
      → MovesIf Also n p (λ s. Goes (wait_refusals s args.pid.0 args.epfd.0 args.max) (call_change p.tables.limits s caller args.pid.0 (wait_call args) outcome.picked) s outcome.answer outcome.picked new)
      → DoesCallIf Also n caller args.pid.0 (wait_call args) outcome p new
  wait_does args moves = record {
    moves = moves;
    raises = λ s at sound quiet legal stands also.
        nowhere_raises p.tables.limits n caller args.pid.0 (wait_call args) outcome.picked outcome.raising p new.tables new.clock raising refl (λ t there allowed. refl) s at sound quiet legal stands;
    raising = subst (λ (r : Raising). IsRaising r new.tables) (sym raising) tt;
    limits = limits;
    keys = kept;
  }

  pub resume_does : MovesIf Also n p (λ s. Goes (refusals p.tables.limits s caller Resume) (resume s caller outcome.picked) s outcome.answer outcome.picked new) → DoesEventIf Also n caller Resume outcome p new
  resume_does moves = record {
    moves = moves;
    raises = λ s at sound quiet legal stands also. resume_raises p.tables.limits s caller outcome.picked outcome.raising new.tables new.clock raising;
    raising = subst (λ (r : Raising). IsRaising r new.tables) (sym raising) tt;
    limits = limits;
    keys = kept;
  }

-- a number of reports that is asked for
pub some_asked : (max : ℤ) → is_positive max ≡ true → 0 < number_in max
some_asked (pos (suc k)) h = omega arith
some_asked (pos zero) h = absurd (false≢true h)
some_asked (negsuc k) h = absurd (false≢true h)

pub asked_some : (max : ℤ) → 0 < number_in max → is_positive max ≡ true
asked_some (pos (suc k)) h = grind (arith, nat_tests)
asked_some (pos zero) h = absurd (omega (arith, h))
asked_some (negsuc k) h = absurd (omega (arith, h))

-- a wait that has time parks
wait_parks : (s : State) (caller p e most : ℕ) (timeout : ℤ) → (timeout ≡ pos 0 → ⊥) → wait_for s caller p e most timeout ≡ parked s caller p e most (deadline_of s.now timeout)
wait_parks s caller p e most (pos zero) some = absurd (some refl)
wait_parks s caller p e most (pos (suc k)) some = refl
wait_parks s caller p e most (negsuc k) some = refl

-- what a caller waits for
abbrev pub waiting : ℕ → Wait → DescId → ℕ → Waiter
waiting caller args instance now = record { caller = caller; process = args.pid.0; instance = instance.0; most = number_in args.max; deadline = deadline_of now args.timeout; marked = false }

pub parked_waiting : (ws us : List Waiter) (caller : ℕ) (args : Wait) (instance : DescId) (now : ℕ) (max timeout : ℤ) (deadline : Option ℕ) → max ≡ args.max → timeout ≡ args.timeout → deadline ≡ deadline_of now timeout
    → us ≡ ws ++ record { caller = caller; process = args.pid.0; instance = instance.0; most = number_in max; deadline = deadline; marked = false } ∷ [] → us ≡ ws ++ waiting caller args instance now ∷ []
parked_waiting ws us caller args instance now max timeout deadline same_max same_timeout told more =
    let until = told ∙ ap (deadline_of now) same_timeout in
    more ∙ λ i. ws ++ record { caller = caller; process = args.pid.0; instance = instance.0; most = number_in (same_max i); deadline = until i; marked = false } ∷ []

gone_where : (a b c : Bool) → b ≡ true → (a && (not b && c)) ≡ false
gone_where true true c h = refl
gone_where false b c h = refl
gone_where true false c h = absurd (false≢true h)

-- what a descriptor number names stays
pub not_dying : (v : Seen) (p : ℕ) (fd : ℤ) (key : DescId) → SoundTables v → number_under v key ≡ under v.files p fd → IsSome (number_under v key) → is_among v.dying (number_of v key) ≡ false
not_dying v p fd key sound named lives =
    let u = under_key v.keys key lives in
    let number : number_of v key ≡ u.number = ap (λ (o : Option ℕ). unwrap_or o 0) u.is in
    ap (is_among v.dying) number ∙ (sound.dying u.number ∙ gone_where (is_live v.files u.number) (is_among (named_in_tables v.files.tables) u.number) (holds_of v u.number == 0) (under_named v.files p u.number fd (sym u.is ∙ named)))

-- a caller that is parked waits at an instance that has a description
pub placed_waiting : (v : Seen) (ws us : List Waiter) (caller : ℕ) (args : Wait) (instance : DescId) (now : ℕ) → Waits v args instance → ArePlaced v ws → us ≡ ws ++ waiting caller args instance now ∷ [] → ArePlaced v us
placed_waiting v ws us caller args instance now of placed more =
    let one : IsPlaced v.keys (waiting caller args instance now) = record { instance = of.lives; most = some_asked args.max (past_one (is_positive args.max) Einval _ of.accepted) } in
    subst (λ (xs : List Waiter). All (IsPlaced v.keys) xs) (sym more)
    (All-append (IsPlaced v.keys) ws (waiting caller args instance now ∷ []) placed (All-cons (IsPlaced v.keys) (waiting caller args instance now) [] one (All-nil (IsPlaced v.keys))))

module _ (v : Seen) (args : Wait) (instance : DescId) (of : Waits v args instance) where
  abbrev p : ℕ
  p = args.pid.0

  -- what is waited for is an instance
  pub waits_at_instance : is_instance (content_of v.files (number_of v instance)) ≡ true
  waits_at_instance =
      let named : number_of v instance ≡ named_by v.files p args.epfd.0 = ap (λ (o : Option ℕ). unwrap_or o 0) of.named in
      ap (λ (d : ℕ). is_instance (content_of v.files d)) named
      ∙ past_one (is_instance (object_under v.files p args.epfd.0)) Einval [] (past_test (names_nothing v.files p args.epfd.0) Ebadf _ (past_test (not (is_positive args.max)) Einval _ of.accepted))

  pub positive : is_positive args.max ≡ true
  positive = past_one (is_positive args.max) Einval _ of.accepted

  abbrev most : ℕ
  most = number_in args.max

  abbrev e : ℕ
  e = number_at v.keys instance

  module _ {ws : List Waiter} (g : List Link) (now : ℕ) (old : Registrations) (n : ℕ) (chosen : List Reportable) (keyed : AreKeyed v now old chosen) (caller : ℕ) (s : State)
      (at : s.n ≡ n) (legal : is_legal (links s) ≡ true) (stands : Stands v old ws now s) (pick : IsPick v instance (number_in args.max) chosen s) where
    pub named : named_by s.files p args.epfd.0 ≡ e
    named = ap (λ (f : Files). named_by f p args.epfd.0) stands.files ∙ ap (λ (o : Option ℕ). unwrap_or o 0) (sym of.named)

    goes : (c : Change) (answer : Answer) (picked : List ℕ) (new : Parts) → wait s caller p e most args.timeout picked ≡ Some c → c.0 ≡ answer → StandFor new c.1
        → Goes (wait_refusals s p args.epfd.0 args.max) (wait s caller p (named_by s.files p args.epfd.0) most args.timeout picked) s answer picked new
    goes c answer picked new is answers stand =
        goes_made (wait_refusals s p args.epfd.0 args.max) (wait s caller p (named_by s.files p args.epfd.0) most args.timeout picked) s answer picked new (ap (λ (f : Files). first (wait_tests f args)) stands.files ∙ of.accepted)
        (record { made = c; is = ap (λ (d : ℕ). wait s caller p d most args.timeout picked) named ∙ is; answers = answers; stands = stand })

    abbrev told : Change
    told = told_change s chosen

    comes : wait s caller p e most args.timeout (numbers_of chosen) ≡ Some (if length chosen == 0 then wait_for s caller p e most args.timeout else told)
    comes = waits v now old s instance most chosen legal stands keyed pick caller p args.timeout (some_asked args.max positive)

    -- with something to report, or without time
    pub goes_reported : (new : Registrations) (answer : Answer) (picked : List ℕ) → Reports old new n chosen answer picked → ((length chosen == 0) ≡ false) ⊎ (args.timeout ≡ pos 0)
        → Goes (wait_refusals s p args.epfd.0 args.max) (wait s caller p (named_by s.files p args.epfd.0) most args.timeout picked) s answer picked (record { tables = v; interest = new; graph = g; parked = ws; clock = now })
    goes_reported new answer picked is why =
        let reports : wait s caller p e most args.timeout (numbers_of chosen) ≡ Some told = elim why [
          | inl some ↦ comes ∙ ap (λ (b : Bool). let o : Option Change = Some (if b then wait_for s caller p e most args.timeout else told) in o) some
          | inr none ↦
              ap (λ (t : ℤ). wait s caller p e most t (numbers_of chosen)) none
              ∙ waits_now v now old s instance most chosen legal stands keyed pick caller p (some_asked args.max positive)
        ] in
        goes told answer picked (record { tables = v; interest = new; graph = g; parked = ws; clock = now }) (ap (wait s caller p e most args.timeout) is.picks ∙ reports) (sym is.answers)
        (after v now old new s n chosen at stands is.entries is.added)

    -- with nothing to report, and with time: the caller is parked
    pub goes_parked : (t : Seen) (us : List Waiter) → (length chosen == 0) ≡ true → (args.timeout ≡ pos 0 → ⊥) → t.files ≡ v.files → t.keys ≡ v.keys → us ≡ ws ++ waiting caller args instance now ∷ []
        → Goes (wait_refusals s p args.epfd.0 args.max) (wait s caller p (named_by s.files p args.epfd.0) most args.timeout []) s Parked [] (record { tables = t; interest = old; graph = g; parked = us; clock = now })
    goes_parked t us none some files keys more =
        let number : ℕ → ℕ = λ k. number_at v.keys (record { 0 = k }) in
        let out : Change → Option Change = λ c. Some c in
        goes (parked s caller p e most (deadline_of now args.timeout)) Parked [] (record { tables = t; interest = old; graph = g; parked = us; clock = now })
        (ap (wait s caller p e most args.timeout) (sym (no_numbers chosen none))
        ∙ (comes
        ∙ (ap (λ (b : Bool). out (if b then wait_for s caller p e most args.timeout else told)) none
        ∙ (ap out (wait_parks s caller p e most args.timeout some) ∙ ap (λ (m : ℕ). out (parked s caller p e most (deadline_of m args.timeout))) stands.now)))) refl
        (record {
          now = stands.now;
          files = stands.files ∙ sym files;
          watches = stands.watches ∙ ap (λ (ks : List (Option ℕ)). map (watch_at ks) old.entries) (sym keys);
          added = stands.added;
          waiters = ap (λ (xs : List Waiter). xs ++ at_number number (waiting caller args instance now) ∷ []) stands.waiters ∙ (sym (map-append (at_number number) ws (waiting caller args instance now ∷ [])) ∙ λ i. waiters_at (sym keys i) (sym more i));
        })
