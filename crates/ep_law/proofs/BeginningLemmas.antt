-- What begins to hold at a description is in the event's spread, and what begins to be reportable passes on some of it.
use Rattle.std.proofs.Common.{◌≡◌, ℕ, zero, suc, ◌+◌, ◌<◌, ◌&&◌, ◌∙◌, Bool, true, false, List, [], ◌∷◌, None, Option, Some, MatchOption, not, cond, get_or, inl, inr, is_some, length, refl, ap, arith, subst, sym, unwrap_or}
use Rattle.std.specs.Int.{bit_at}
use Rattle.std.proofs.lemmas.Bool.{cases_Bool}
use Rattle.std.proofs.Math.Nat.{zero-add}
use Rattle.ep_facts.proofs.BoolFacts.{first_of_and, second_of_and}
use Rattle.ep_facts.proofs.NatFacts.{plus_none as start, shift}
use Rattle.ep_base.specs.Limits.{Limits}
use Rattle.ep_base.specs.declared.answer.Answer.{Answer}
use Rattle.ep_base.specs.declared.call.Event.{Event}
use Rattle.ep_base.specs.declared.counts.Counts.{Counts}
use Rattle.ep_base.specs.declared.errno.Errno.{Errno}
use Rattle.ep_base.specs.declared.object.End.{End}
use Rattle.ep_base.specs.declared.object.End.TheVariants.{First}
use Rattle.ep_base.specs.declared.record.Record.{Record}
use Rattle.ep_machine.specs.Counts.{counted, no_counts}
use Rattle.ep_machine.specs.Deaths.{buried, die, die_all, dying, is_kept}
use Rattle.ep_machine.specs.Effect.{first}
use Rattle.ep_machine.specs.Files.{Files, Place, is_live, object_of, opening_files, place_of, side_of}
use Rattle.ep_law.specs.Laws.{BeginningsAreSpread, EndsAreApart, HasCause, IsNoted, Member, ReportablesAreSpread, spread_of, has_instance}
use Rattle.ep_machine.specs.Lists.{is_among}
use Rattle.ep_machine.specs.Objects.{Object, instance, is_instance, object_present, plain}
use Rattle.ep_law.proofs.Present.{present_at}
use Rattle.ep_machine.specs.Readiness.{is_ready, is_ready_within, is_reportable, is_reportable_by, present, present_by, present_of}
use Rattle.ep_machine.specs.Refusal.{refusals}
use Rattle.ep_machine.specs.Run.{run}
use Rattle.ep_machine.specs.Settle.{came, reportable_numbers, settle}
use Rattle.ep_machine.specs.Spread.{arrived, counts_from, raised_alive, raised_of, spread}
use Rattle.ep_machine.specs.State.{Change, State, Watch, counts_of, opening}
use Rattle.ep_machine.specs.Step.{next_event, change, refused_or, settled, step}
use Rattle.ep_machine.specs.Watches.{is_legal, links}
use Rattle.ep_law.proofs.GraphLemmas.{member_of_map, Linked, linked_begun, linked_change, linked_left, linked_run}
use Rattle.ep_law.proofs.InstanceLemmas.{Narrows, narrows_deaths, narrows_self}
use Rattle.ep_law.proofs.ListLemmas.{filtered_member, filtered_passes}
use Rattle.ep_law.proofs.DeathLemmas.{raised_before}
use Rattle.ep_law.proofs.NamedLivesLemmas.{dying_distinct, dying_placed}
use Rattle.ep_law.proofs.MarkLemmas.{ready_same}
use Rattle.ep_law.proofs.StepLemmas.{run_keeps}
use Rattle.ep_object.specs.Law.{AdvanceLaw, ApplyLaw, CloseLaw, object_has}
use Rattle.ep_object.proofs.BitLemmas.{Covers, covers_more, covers_self, first_bit, from_bits, no_bit}
use Rattle.ep_law.proofs.ChangeLemmas.{Moves, kept_same, moves_change}
use Rattle.ep_law.proofs.EndLemmas.{Own, object_there, own_deaths}
use Rattle.ep_law.proofs.RaiseLemmas.{deaths_cover, live_place, lived_before, raised_first, raised_stays}
use Rattle.ep_law.proofs.ReachLemmas.{Leads, all_covered, instance_is, passes, reach}

place_below : (ds : List (Option Place)) (d : ℕ) (p : Place) → get_or ds d None ≡ Some p → d < length ds
place_below [] d p e = cc
place_below (x ∷ ds) zero p e = omega arith
place_below (x ∷ ds) (suc d) p e = let lt = place_below ds d p e in omega (arith, lt)

live_below : (f : Files) (d : ℕ) → is_live f d ≡ true → d < length f.descriptions
live_below f d h = let p = live_place f d h in place_below f.descriptions d p.0 p.1

-- each live description has its count
counts_at : (s : State) (raised : List (ℕ × ℕ)) (n : ℕ) (ds : List (Option Place)) (i : ℕ) → i < length ds → get_or (counts_from s raised n ds) i no_counts ≡ counted (spread s raised (n + i)) (counts_of s (n + i))
counts_at s raised n [] i lt = absurd (omega (arith, lt))
counts_at s raised n (p ∷ ps) zero lt = ap (λ (d : ℕ). counted (spread s raised d) (counts_of s d)) (start n)
counts_at s raised n (p ∷ ps) (suc i) lt = counts_at s raised (n + 1) ps i (omega (arith, lt)) ∙ ap (λ (d : ℕ). counted (spread s raised d) (counts_of s d)) (shift n i)

-- what is no instance shows its own bits, whatever is said of instances
pub present_other : (r : ℕ → Bool) (d : ℕ) (o : Option Object) (e : End) (now : ℕ) → is_instance (unwrap_or o plain) ≡ false → present_of r d o e now ≡ object_present (unwrap_or o plain) e now
present_other r d None e now h = refl
present_other r d (Some instance) e now h = cc
present_other r d o e now h = refl

before_other : (r : ℕ → Bool) (d : ℕ) (o : Option Object) (e : End) (now after raised : ℕ) → Covers (object_present (unwrap_or o plain) e now) after raised → Covers (present_of r d o e now) after raised
before_other r d None e now after raised c = c
before_other r d (Some instance) e now after raised c = λ i h. elim (c i h) [ inl was ↦ absurd (no_bit i was) | inr rises ↦ inr rises ]
before_other r d o e now after raised c = c

raised_kept : (f : Files) (r : List (ℕ × ℕ)) (xs : List (ℕ × Place)) (d i : ℕ) → bit_at (raised_of r d) i ≡ 1 → bit_at (raised_of (die_all (f, r) xs).1 d) i ≡ 1
raised_kept f r [] d i h = h
raised_kept f r (x ∷ xs) d i h = let now = die (f, r) x in raised_kept now.0 now.1 xs d i (raised_first r _ d i h)

-- Registrations at the end of an event.
noted : (b after : State) (raised : List (ℕ × ℕ)) (y : Watch) → Member y (settle b after raised).watches → (x : Watch) × Member x (buried after raised).0.watches × IsNoted x y
noted b after raised y m =
    let left = buried after raised in
    let mid = arrived left.0 left.1 in
    let earlier = reportable_numbers b in
    let w = member_of_map (came earlier mid) left.0.watches y m in
    let x = w.0 in
    let z : Watch = record x { from = mid.n } in
    let is : (f : ℕ) × (came earlier mid x ≡ record x { from = f }) = elim (not (is_among earlier x.number) && is_reportable mid x) as (λ c. (f : ℕ) × (cond c z x ≡ record x { from = f })) [ true ↦ (mid.n, refl) | false ↦ (x.from, refl) ] in
    (x, w.1, (is.0, sym w.2 ∙ is.1))

kept_left : (after : State) (raised : List (ℕ × ℕ)) (x : Watch) → Member x (buried after raised).0.watches → (is_live (buried after raised).0.files x.instance && is_live (buried after raised).0.files x.target) ≡ true
kept_left after raised x m =
    let files = (die_all (after.files, raised) (dying after)).0 in
    filtered_passes (is_kept (record after { files = files })) after.watches x m

was_left : (after : State) (raised : List (ℕ × ℕ)) (x : Watch) → Member x (buried after raised).0.watches → Member x after.watches
was_left after raised x m =
    let files = (die_all (after.files, raised) (dying after)).0 in
    filtered_member (is_kept (record after { files = files })) after.watches x m

-- One event.
module _ (close : CloseLaw) (b after : State) (rises : List (ℕ × ℕ)) (linked_b : Linked b) (linked : Linked after) (lives : (x : Watch) → Member x b.watches → is_live b.files x.target ≡ true) (moves : Moves b after rises) where
  abbrev left : State
  left = (buried after rises).0

  abbrev all : List (ℕ × ℕ)
  all = (buried after rises).1

  abbrev up : List (ℕ × ℕ)
  up = raised_alive left all

  abbrev t : State
  t = settle b after rises

  lived_after : (d : ℕ) → is_live t.files d ≡ true → is_live after.files d ≡ true
  lived_after d h = let p = live_place t.files d h in ap is_some (lived_before after.files rises (dying after) d p.0 p.1)

  in_spread : (d i : ℕ) → is_live t.files d ≡ true → bit_at (raised_of all d) i ≡ 1 → bit_at (spread left up d) i ≡ 1
  in_spread d i h r = first_bit _ _ i (raised_stays left all d i h r)

  -- from a state of which the change left the objects, or did what it raised
  module _ (u : State) (legal : is_legal (links u) ≡ true) (arrivals : after.arrivals ≡ u.arrivals) (narrows : Narrows u.files after.files)
      (shown : (d : ℕ) (p : Place) → place_of u.files d ≡ Some p → Covers (present_at u.files u.now d) (present_at after.files after.now d) (raised_of rises d)) where
    shows : (d : ℕ) (r : ℕ → Bool) → is_live u.files d ≡ true → is_live t.files d ≡ true → has_instance t.files d ≡ false → Covers (present u d) (present_by r t d) (spread left up d)
    shows d r before here plainly =
        let p = live_place u.files d before in
        let q = live_place t.files d here in
        let c = deaths_cover close after.now d (present_at u.files u.now d) q.0 after.files rises (dying after) (dying_distinct after) (dying_placed after) moves.own q.1 (shown d p.0 p.1) in
        let more = covers_more (present_at u.files u.now d) (present_at t.files t.now d) (raised_of all d) (spread left up d) (λ i. in_spread d i here) c in
        subst (λ (n : ℕ). Covers (present u d) n (spread left up d)) (sym (present_other r d (object_of t.files d) (side_of t.files d) t.now plainly))
        (before_other (is_ready u) d (object_of u.files d) (side_of u.files d) u.now (present_at t.files t.now d) (spread left up d) more)

    kinds : (d : ℕ) → is_live u.files d ≡ true → is_live t.files d ≡ true → object_of t.files d ≡ Some instance → object_of u.files d ≡ Some instance
    kinds d before here h =
        let deaths = narrows_deaths after.files rises (dying after) moves.own.made in
        let there = deaths.instances d (live_below after.files d (lived_after d here)) (ap (λ (o : Option Object). is_instance (unwrap_or o plain)) h) in
        instance_is (object_of u.files d) (narrows.instances d (live_below u.files d before) there)

    counts : (d : ℕ) → is_live t.files d ≡ true → counts_of t d ≡ counted (spread left up d) (counts_of u d)
    counts d here =
        counts_at left up 0 left.files.descriptions d (live_below left.files d here)
        ∙ (ap (λ (k : ℕ). counted (spread left up k) (counts_of left k)) (zero-add d)
        ∙ ap (λ (cs : List Counts). counted (spread left up d) (get_or cs d no_counts)) arrivals)

  leads_after : Leads after left t up
  leads_after = record {
    legal = linked.legal;
    legal_left = (linked_left after rises linked).legal;
    noted = noted b after rises;
    origin = λ x m. inl (kept_same after x (was_left after rises x m));
    lived = λ x m k. lived_after x.target (second_of_and _ _ (kept_left after rises x m));
    lives = λ x m. second_of_and _ _ (kept_left after rises x m);
    counts = counts after linked.legal refl (narrows_self after.files moves.own.made) (λ d p e. covers_self _ _);
    kinds = kinds after linked.legal refl (narrows_self after.files moves.own.made) (λ d p e. covers_self _ _);
    same = λ d. refl;
    shows = shows after linked.legal refl (narrows_self after.files moves.own.made) (λ d p e. covers_self _ _);
  }

  leads : Leads b left t up
  leads = record {
    legal = linked_b.legal;
    legal_left = (linked_left after rises linked).legal;
    noted = noted b after rises;
    origin = λ x m. elim (moves.comes x (was_left after rises x m)) [
      | inl kept ↦ inl kept
      | inr looked ↦
          inr (λ k shown. elim (cases_Bool (is_reportable after x)) [
            | inl holds ↦ inr (in_spread x.instance 0 (first_of_and _ _ (kept_left after rises x m)) (raised_kept after.files rises (dying after) x.instance 0 (looked holds)))
            | inr fails ↦ inl (passes after left t up leads_after (is_ready_within k t) (reach after left t up leads_after k) x m (kept_same after x (was_left after rises x m)) shown fails)
          ])
    ];
    lived = λ x m k. subst (λ (j : ℕ). is_live b.files j ≡ true) k.target (lives k.was k.there);
    lives = λ x m. second_of_and _ _ (kept_left after rises x m);
    counts = counts b linked_b.legal moves.arrivals moves.narrows moves.shows;
    kinds = kinds b linked_b.legal moves.arrivals moves.narrows moves.shows;
    same = λ d. refl;
    shows = shows b linked_b.legal moves.arrivals moves.narrows moves.shows;
  }

  -- an instance that begins to be ready has IN in the spread
  begins : (e : ℕ) → object_of t.files e ≡ Some instance → is_ready t e ≡ true → is_ready b e ≡ false → bit_at (spread left up e) 0 ≡ 1
  unfolding is_ready
  begins e here ready silent = reach b left t up leads 5 e here ready silent

  -- what is reportable at the end was so before, or passes on something of the spread
  has_cause : (answer : Answer) (y : Watch) → Member y t.watches → is_reportable t y ≡ true → HasCause b (answer, after, rises) y
  unfolding is_ready
  has_cause answer y m shown =
      let from = noted b after rises y m in
      let x = from.0 in
      let shows : is_reportable_by (is_ready_within 5 t) t x ≡ true = subst (λ (w : Watch). is_reportable t w ≡ true) from.2.1 shown in
      record {
        x = x;
        left = from.1;
        noted = from.2;
        changed = elim (cases_Bool (is_reportable after x)) [
          | inl holds ↦ inl holds
          | inr fails ↦ inr (passes after left t up leads_after (is_ready_within 5 t) (reach after left t up leads_after 5) x from.1 (kept_same after x (was_left after rises x from.1)) shows fails)
        ];
        kept = λ k. elim (cases_Bool (is_reportable b k.was)) [
          | inl holds ↦ inl holds
          | inr fails ↦ inr (passes b left t up leads (is_ready_within 5 t) (reach b left t up leads 5) x from.1 k shows fails)
        ];
      }

-- Each state of a run: descriptions have ends of their own, and targets live.
record Stands (s : State) : Type 0 where
  pub own : Own s.files
  pub lives : (x : Watch) → Member x s.watches → is_live s.files x.target ≡ true

stands_settle : (b after : State) (raised : List (ℕ × ℕ)) → Own after.files → Stands (settle b after raised)
stands_settle b after raised own = record {
  own = subst Own (sym (raised_before after.files raised (dying after))) (own_deaths after.files (dying after) (dying_distinct after) (dying_placed after) own);
  lives = λ y m.
      let x = noted b after raised y m in
      subst (λ (w : Watch). is_live (settle b after raised).files w.target ≡ true) (sym x.2.1) (second_of_and _ _ (kept_left after raised x.0 x.1));
}

module _ (apply : ApplyLaw) (close : CloseLaw) (clock : AdvanceLaw) (limits : Limits) where
  IsStep : Option (Answer × State) → Type 0
  IsStep o = MatchOption o (Unit {0}) (λ c. Stands c.1)

  stands_settled : (b : State) (o : Option Change) → ((c : Change) → o ≡ Some c → Own c.1.files) → IsStep (settled b o)
  unfolding IsStep
  stands_settled b None h = tt
  stands_settled b (Some c) h = stands_settle b c.1 c.2 (h c refl)

  stands_refused : (e : Option Errno) (b : State) (ks : List ℕ) (o : Option Change) → Stands b → (e ≡ None → (c : Change) → o ≡ Some c → Own c.1.files) → IsStep (refused_or e b ks o)
  unfolding IsStep
  stands_refused None b ks o h k = stands_settled b o (k refl)
  stands_refused (Some e) b [] o h k = h
  stands_refused (Some e) b (x ∷ ks) o h k = tt

  stands_step : (s t : State) (caller : ℕ) (event : Event) (picked : List ℕ) (a : Answer) → Stands s → step limits s caller event picked ≡ Some (a, t) → Stands t
  unfolding IsStep
  stands_step s t caller event picked a h e =
      let now = next_event s in
      let start : Stands now = record { own = h.own; lives = h.lives } in
      subst IsStep e (stands_refused (first (refusals limits now caller event)) now picked (change limits now caller event picked) start (λ allowed c is. (moves_change apply close clock limits now caller picked h.own event c allowed is).own))

stands_opening : Stands opening
stands_opening = record { own = own; lives = λ x m. absurd m } where
  place : (d : ℕ) (p : Place) → place_of opening_files d ≡ Some p → (d ≡ 0) × (p ≡ record { object = 0; side = First })
  place zero p e = let same : p ≡ record { object = 0; side = First } = cc in (refl, same)
  place (suc d) p e = cc

  own : Own opening_files
  own = record {
    made = λ d p e. subst (λ (q : Place). q.object < 1) (sym (place d p e).1) (omega arith);
    some = omega arith;
    first = refl;
    apart = λ d e p a c. (place d p a).0 ∙ sym (place e p c).0;
    ends = λ d p e. subst (λ (q : Place). object_has (object_there opening_files q.object) q.side ≡ true) (sym (place d p e).1) refl;
  }

pub ends_are_apart : ApplyLaw → CloseLaw → AdvanceLaw → EndsAreApart
ends_are_apart apply close clock limits past s is =
    let own = (run_keeps Stands limits (stands_step apply close clock limits) opening s past stands_opening is).own in
    record { made = own.made; first = (own.some, own.first); apart = own.apart; ends = own.ends }

present_begun : (s : State) (d : ℕ) → present (next_event s) d ≡ present s d
present_begun s d = λ i. present_of (λ e. ready_same s (s.n + 1) s.waiters e i) d (object_of s.files d) (side_of s.files d) s.now

-- An event of a run.
module _ (apply : ApplyLaw) (close : CloseLaw) (clock : AdvanceLaw) (limits : Limits) (past : List Record) (s : State) (caller : ℕ) (event : Event) (picked : List ℕ) (c : Change)
    (is : run limits opening past ≡ Some s) (allowed : first (refusals limits (next_event s) caller event) ≡ None) (made : change limits (next_event s) caller event picked ≡ Some c) where
  abbrev begun : State
  begun = next_event s

  stands_run : Stands s
  stands_run = run_keeps Stands limits (stands_step apply close clock limits) opening s past stands_opening is

  linked_before : Linked begun
  linked_before = linked_begun s (linked_run limits past s is)

  linked_after : Linked c.1
  linked_after = linked_change limits begun caller event picked c allowed made linked_before

  moves_run : Moves begun c.1 c.2
  moves_run = moves_change apply close clock limits begun caller picked stands_run.own event c allowed made

  pub instance_begins : (e : ℕ) → object_of (settle begun c.1 c.2).files e ≡ Some instance → is_ready (settle begun c.1 c.2) e ≡ true → is_ready begun e ≡ false → bit_at (spread_of c e) 0 ≡ 1
  instance_begins = begins close begun c.1 c.2 linked_before linked_after stands_run.lives moves_run

  cause_run : (y : Watch) → Member y (settle begun c.1 c.2).watches → is_reportable (settle begun c.1 c.2) y ≡ true → HasCause begun c y
  cause_run = has_cause close begun c.1 c.2 linked_before linked_after stands_run.lives moves_run c.0

  covered_run : (d : ℕ) → is_live s.files d ≡ true → is_live (settle begun c.1 c.2).files d ≡ true → Covers (present begun d) (present (settle begun c.1 c.2) d) (spread_of c d)
  covered_run d lived lives =
      let left = (buried c.1 c.2).0 in
      all_covered begun left (settle begun c.1 c.2) (raised_alive left (buried c.1 c.2).1) (leads close begun c.1 c.2 linked_before linked_after stands_run.lives moves_run) d lived lives

pub beginnings_are_spread : ApplyLaw → CloseLaw → AdvanceLaw → BeginningsAreSpread
beginnings_are_spread apply close clock limits past s caller event picked c d is allowed made lived lives =
    let t = settle (next_event s) c.1 c.2 in
    let covered = covered_run apply close clock limits past s caller event picked c is allowed made d lived lives in
    from_bits (present s d) (present t d) (spread_of c d) (subst (λ (n : ℕ). Covers n (present t d) (spread_of c d)) (present_begun s d) covered)

pub reportables_are_spread : ApplyLaw → CloseLaw → AdvanceLaw → ReportablesAreSpread
reportables_are_spread apply close clock limits past s caller event picked c y is allowed made = cause_run apply close clock limits past s caller event picked c is allowed made y
