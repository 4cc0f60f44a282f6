-- What holds at a description goes on holding there over an event that is no call on its object.
use Rattle.std.proofs.Common.{◌≡◌, ◌≢◌, ◌+◌, ◌++◌, ◌==◌, ◌∙◌, ℕ, zero, suc, Bool, true, false, List, [], ◌∷◌, MatchOption, None, Option, Some, ℤ, pos, negsuc, ap, arith, cond, get_or, if◌then◌else◌, is_none, is_some, map, refl, set, subst, sym, unwrap_or}
use Rattle.std.proofs.lemmas.Bool.{false≢true}
use Rattle.std.proofs.lemmas.List.{get_or_append_left}
use Rattle.ep_facts.proofs.NatFacts.{same_test, same_nat}
use Rattle.ep_base.specs.Limits.{Limits}
use Rattle.ep_base.specs.declared.answer.Answer.TheVariants.{Events}
use Rattle.ep_base.specs.declared.call.Call.{Call}
use Rattle.ep_base.specs.declared.call.Event.{Event}
use Rattle.ep_base.specs.declared.call.Event.TheVariants.{Call as CallOf, Resume, Tick}
use Rattle.ep_base.specs.declared.errno.Errno.{Errno}
use Rattle.ep_base.specs.declared.errno.Errno.TheVariants.{Ebadf, Ebusy, Esrch}
use Rattle.ep_base.specs.declared.ids.Fd.{Fd}
use Rattle.ep_base.specs.declared.ids.Pid.{Pid}
use Rattle.ep_law.specs.Laws.{HaveOwnEnds}
use Rattle.ep_law.proofs.DeathLemmas.{has_here}
use Rattle.ep_law.proofs.EndLemmas.{object_there, set_object, own_of, Own}
use Rattle.ep_law.proofs.InstanceLemmas.{AreMade, first_waits}
use Rattle.ep_law.proofs.RaiseLemmas.{lived_before}
use Rattle.ep_object.proofs.BitLemmas.{covers_self, covers_then}
use Rattle.ep_law.proofs.ShapeLemmas.{by_making, by_shape, by_joined}
use Rattle.ep_law.proofs.StepLemmas.{left_after, resumes}
use Rattle.ep_machine.specs.Deaths.{die, die_all, kept_object}
use Rattle.ep_machine.specs.Effect.{Effect, first, unless}
use Rattle.ep_machine.specs.Files.{Files, Place, named_by, names_nothing, object_at, object_number, object_under, place_of, side_in, side_under, table_of, with_object}
use Rattle.ep_machine.specs.FilesCalls.{files_call}
use Rattle.ep_machine.specs.Objects.{Object, ObjectCall, close_end, object_effect, object_present, object_refusals, plain, is_plain, asks}
use Rattle.ep_machine.specs.Readiness.{is_ready}
use Rattle.ep_machine.specs.Refusal.{call_refusals, on_object, refusals}
use Rattle.ep_machine.specs.Report.{is_pick, plainly, report, report_of, reported, watches_at}
use Rattle.ep_machine.specs.State.{Change, State}
use Rattle.ep_machine.specs.Step.{call_change, change, object_change, joined, files_change}
use Rattle.ep_machine.specs.Tables.{create_one, create_two}
use Rattle.ep_machine.specs.Waits.{has_parked, is_parked, leave_after, resume, tick, wait_for}
use Rattle.ep_machine.specs.Watches.{add, ctl, delete, is_add, is_del, modify, number_in}
use Rattle.ep_view.proofs.FilesLemmas.{Filed, named_lives}
use Rattle.ep_object.specs.Law.{object_has, ApplyLaw, CloseLaw, AdvanceLaw}
use Rattle.ep_order.specs.Ending.{is_called, is_object_of}
use Rattle.ep_object.proofs.OwnEndLemmas.{Shows, call_stays, clock_stays, close_stays}
use Rattle.ep_law.proofs.ReplaceLemmas.{Replaces, still, have_ends, one_at, found_listens, join_replaces}
use Rattle.ep_law.proofs.ChangeLemmas.{moves_object, under_is}
use Rattle.ep_base.specs.declared.call.Call.TheVariants.{Accept}
use Rattle.ep_law.proofs.ReplaceLemmas.{accept_replaces, abandoned_go, ends_same, HaveEnds}
use Rattle.ep_machine.specs.Connections.{first_waiting, pending_in, accept, accepted, without_pending}
use Rattle.ep_machine.specs.Files.{with_object, object_number, object_of}
use Rattle.ep_base.specs.declared.object.End.{End}
use Rattle.ep_base.specs.declared.object.End.TheVariants.{First}
use Rattle.ep_machine.specs.Objects.{is_waiting, Object, plain}
use Rattle.std.proofs.Common.{◌||◌, List, unwrap_or}
use Rattle.ep_object.specs.Connecting.{IsIdle, IsListener}
use Rattle.ep_object.proofs.ConnectionLemmas.{idle_plain, idle_first, listener_plain, listener_first, pending_listener}

-- description d stays at its place from files f to g, and what holds there goes on holding
pub record Holds (f g : Files) (old new d : ℕ) (p : Place) : Type 0 where
  pub place : place_of g d ≡ Some p
  pub shows : Shows (object_there f p.object) (object_there g p.object) p.side old new

holds_same : (f g : Files) (now d : ℕ) (p : Place) → place_of g d ≡ Some p → object_there g p.object ≡ object_there f p.object → Holds f g now now d p
holds_same f g now d p here same = record { place = here; shows = subst (λ (y : Object). Shows (object_there f p.object) y p.side now now) (sym same) (covers_self _ 0) }

holds_self : (f : Files) (now d : ℕ) (p : Place) → place_of f d ≡ Some p → Holds f f now now d p
holds_self f now d p here = record { place = here; shows = covers_self _ 0 }

pub holds_then : (f g h : Files) (old mid new d : ℕ) (p : Place) → Holds f g old mid d p → Holds g h mid new d p → Holds f h old new d p
holds_then f g h old mid new d p one two =
    let before = object_present (object_there f p.object) p.side old in
    let between = object_present (object_there g p.object) p.side mid in
    let after = object_present (object_there h p.object) p.side new in
    record { place = two.place; shows = covers_then after between before 0 0 0 (λ i at. at) (λ i at. at) two.shows one.shows }

-- New objects and descriptions.
still_there : (ds : List (Option Place)) (more : List (Option Place)) (d : ℕ) (p : Place) → get_or ds d None ≡ Some p → get_or (ds ++ more) d None ≡ Some p
still_there [] more d p e = cc
still_there (x ∷ ds) more zero p e = e
still_there (x ∷ ds) more (suc d) p e = still_there ds more d p e

module _ (f : Files) (made : AreMade f) (now p : ℕ) (x : Object) (cloexec : Bool) (d : ℕ) (q : Place) (here : place_of f d ≡ Some q) where
  old_object : unwrap_or (get_or (f.objects ++ Some x ∷ []) q.object None) plain ≡ object_there f q.object
  old_object = ap (λ (o : Option Object). unwrap_or o plain) (get_or_append_left f.objects (Some x ∷ []) None q.object (made d q here))

  holds_one : Holds f (create_one f p x cloexec) now now d q
  holds_one = holds_same f (create_one f p x cloexec) now d q (still_there f.descriptions _ d q here) old_object

  holds_two : Holds f (create_two f p x cloexec) now now d q
  holds_two = holds_same f (create_two f p x cloexec) now d q (still_there (create_one f p x cloexec).descriptions _ d q (still_there f.descriptions _ d q here)) old_object

-- A call on the object at another place.
module _ (f : Files) (ends : HaveOwnEnds f) (now d : ℕ) (q : Place) (here : place_of f d ≡ Some q) (asked : ObjectCall) where
  module _ (k : ℕ) (r : Place) (there : place_of f k ≡ Some r) (other : k ≢ d) where
    abbrev x : Object
    x = object_there f r.object

    abbrev made : Effect Object
    made = object_effect x r.side now asked

    -- of one object they are two ends
    other_side : q.object ≡ r.object → r.side ≢ q.side
    other_side at side = let same : q ≡ r = λ i. record { object = at i; side = sym side i } in other (ends.apart k d q (there ∙ ap Some (sym same)) here)

    shows_beside : first (object_refusals x r.side now asked) ≡ None → q.object ≡ r.object → Shows x made.1 q.side now now
    shows_beside allowed at =
        let has = subst (λ (j : ℕ). object_has (object_there f j) q.side ≡ true) at (ends.ends d q here) in
        subst (λ (e : Option Errno). Shows x (unless e x made).1 q.side now now) allowed (call_stays x r.side q.side now asked (other_side at) (ends.ends k r there) has)

    holds_beside : first (object_refusals x r.side now asked) ≡ None → Holds f (with_object f r.object made.1) now now d q
    holds_beside allowed =
        let y = made.1 in
        let called : q.object ≡ r.object → Shows (object_there f q.object) y q.side now now = λ at. subst (λ (j : ℕ). Shows (object_there f j) y q.side now now) (sym at) (shows_beside allowed at) in
        record { place = here; shows = set_object (λ z. Shows (object_there f q.object) z q.side now now) f.objects r.object q.object (Some y) called (covers_self _ 0) }

  abbrev object_in : Option Place → Object
  object_in o = unwrap_or (object_at f o) plain

  -- by what names the object
  holds_by : (k : ℕ) (o : Option Place) → place_of f k ≡ o → is_some o ≡ true → k ≢ d → first (object_refusals (object_in o) (side_in o) now asked) ≡ None
      → Holds f (with_object f (object_number o) (object_effect (object_in o) (side_in o) now asked).1) now now d q
  holds_by k None there lives other allowed = absurd (false≢true lives)
  holds_by k (Some r) there lives other allowed = holds_beside k r there other allowed

-- Deaths.
holds_death : (f : Files) (raised : List (ℕ × ℕ)) (x : ℕ × Place) (now d : ℕ) (p : Place) → place_of (die (f, raised) x).0 d ≡ Some p → Holds f (die (f, raised) x).0 now now d p
holds_death f raised x now d p here =
    let k = x.1.object in
    let gone = set f.descriptions x.0 None in
    let shut = (close_end (object_there f k) x.1.side).0 in
    let kept : p.object ≡ k → kept_object (record f { descriptions = gone }) k shut ≡ Some shut = λ at. ap (λ (b : Bool). if b || is_waiting shut then Some shut else None) (has_here k 0 d gone p here at) in
    record {
      place = here;
      shows = set_object (λ z. Shows (object_there f p.object) z p.side now now) f.objects k p.object (kept_object (record f { descriptions = gone }) k shut)
          (λ at.
          subst (λ (o : Option Object). Shows (object_there f p.object) (unwrap_or o plain) p.side now now) (sym (kept at))
          (subst (λ (j : ℕ). Shows (object_there f j) shut p.side now now) (sym at) (close_stays (object_there f k) x.1.side p.side now)))
          (covers_self _ 0);
    }

pub holds_deaths : (f : Files) (raised : List (ℕ × ℕ)) (xs : List (ℕ × Place)) (now d : ℕ) (p : Place) → place_of (die_all (f, raised) xs).0 d ≡ Some p → Holds f (die_all (f, raised) xs).0 now now d p
holds_deaths f raised [] now d p here = holds_self f now d p here
holds_deaths f raised (x ∷ xs) now d p here =
    let next = die (f, raised) x in
    let there = lived_before next.0 next.1 xs d p here in
    holds_then f next.0 (die_all next xs).0 now now now d p (holds_death f raised x now d p there) (holds_deaths next.0 next.1 xs now d p here)

-- Changes.
-- from state b, by an event, to state u
pub record Goes (b : State) (event : Event) (u : State) : Type 0 where
  pub arrivals : u.arrivals ≡ b.arrivals
  pub holds : (d : ℕ) (p : Place) → is_called b event d ≡ false → place_of b.files d ≡ Some p → Holds b.files u.files b.now u.now d p

module _ (b : State) (event : Event) where
  goes_files : (u : State) → u.arrivals ≡ b.arrivals → u.files ≡ b.files → u.now ≡ b.now → Goes b event u
  goes_files u arrivals files now = record {
    arrivals = arrivals;
    holds = λ d p uncalled here.
        subst (λ (g : Files). Holds b.files g b.now u.now d p) (sym files)
        (subst (λ (n : ℕ). Holds b.files b.files b.now n d p) (sym now) (holds_self b.files b.now d p here));
  }

  Fine : Option Change → Type 0
  Fine o = MatchOption o (Unit {0}) (λ c. Goes b event c.1)

  fine_plainly : (ks : List ℕ) (c : Change) → Goes b event c.1 → Fine (plainly ks c)
  unfolding Fine
  fine_plainly [] c g = g
  fine_plainly (k ∷ ks) c g = tt

  fine_if : (t : Bool) (c e : Option Change) → Fine c → Fine e → Fine (cond t c e)
  fine_if true c e g f = g
  fine_if false c e g f = f

  fine_same : (ks : List ℕ) (c : Change) → c.1.arrivals ≡ b.arrivals → c.1.files ≡ b.files → c.1.now ≡ b.now → Fine (plainly ks c)
  fine_same ks c arrivals files now = fine_plainly ks c (goes_files c.1 arrivals files now)

  fine_report : (e most : ℕ) (ks : List ℕ) → Fine (report b e most ks)
  unfolding Fine
  fine_report e most ks =
      let u : State = record b { watches = map (reported b ks) b.watches } in
      let c : Change = (Events (map (report_of b) (watches_at b.watches ks)), u, []) in
      elim (is_pick b e most ks) as (λ t. Fine (cond t (Some c) None)) [ true ↦ goes_files u refl refl refl | false ↦ tt ]

  fine_left : (caller : ℕ) (o : Option Change) → Fine o → Fine (leave_after caller o)
  unfolding Fine
  fine_left caller o g = left_after (Goes b event) (λ u ws h. record { arrivals = h.arrivals; holds = h.holds }) caller o g

  goes_wait_for : (caller p e most : ℕ) (timeout : ℤ) → Goes b event (wait_for b caller p e most timeout).1
  goes_wait_for caller p e most (pos zero) = goes_files _ refl refl refl
  goes_wait_for caller p e most (pos (suc i)) = goes_files _ refl refl refl
  goes_wait_for caller p e most (negsuc i) = goes_files _ refl refl refl

  fine_wait : (caller p e most : ℕ) (timeout : ℤ) (ks : List ℕ) → Fine (cond (is_ready b e) (report b e most ks) (plainly ks (wait_for b caller p e most timeout)))
  fine_wait caller p e most timeout ks = fine_if (is_ready b e) _ _ (fine_report e most ks) (fine_plainly ks _ (goes_wait_for caller p e most timeout))

  fine_resume : (caller : ℕ) (ks : List ℕ) → Fine (resume b caller ks)
  fine_resume caller ks =
      resumes Fine b caller ks (fine_same ks _ refl refl refl) (λ w. fine_left w.caller _ (fine_report w.instance w.most ks)) (λ w. fine_same ks _ refl refl refl) (λ w. fine_same ks _ refl refl refl)

  goes_if : (t : Bool) (c e : Change) → Goes b event c.1 → Goes b event e.1 → Goes b event (cond t c e).1
  goes_if true c e g f = g
  goes_if false c e g f = f

  goes_ctl : (p : ℕ) (epfd op fd : ℤ) (mask tag : ℕ) → Goes b event (ctl b p epfd op fd mask tag).1
  goes_ctl p epfd op fd mask tag =
      let e = named_by b.files p epfd in
      let d = named_by b.files p fd in
      let k = number_in fd in
      goes_if (is_add op) (add b e k d mask tag) _ (goes_files _ refl refl refl)
      (goes_if (is_del op) (delete b e k d) (modify b e k d mask tag) (goes_files _ refl refl refl) (goes_files _ refl refl refl))

first_passes : (t : Bool) (e : Errno) (rows : List (Bool × Errno)) → first ((t, e) ∷ rows) ≡ None → (t ≡ false) × (first rows ≡ None)
first_passes true e rows h = cc
first_passes false e rows h = (refl, h)

unlike : (a b : ℕ) → (a == b) ≡ false → a ≢ b
unlike a b h e = absurd (false≢true (sym h ∙ same_test a b e))

-- what gave way to its like goes on holding where nothing is called
holds_replaced : (called : ℕ → Bool) (now : ℕ) (f g : Files) (raised : List (ℕ × ℕ)) → Replaces called now f g raised → (d : ℕ) (p : Place) → called d ≡ false → place_of f d ≡ Some p → Holds f g now now d p
holds_replaced called now f g raised r d p uncalled here = record { place = still called now f g raised r d p here; shows = (r.like d p here).stays uncalled }

-- what shows no plain file has a place
placed : (f : Files) (o : Option Place) → is_plain (unwrap_or (object_at f o) plain) ≡ false → (q : Place) × (o ≡ Some q)
placed f None h = absurd (false≢true (sym h))
placed f (Some q) h = (q, refl)

called_object : (b : State) (p : Pid) (call : Call) (fd : Fd) (asked : ObjectCall) (d : ℕ) → asks b.files.objects call ≡ Some (fd, asked) → is_called b (CallOf p call) d ≡ (named_by b.files p.0 fd.0 == d)
called_object b p (Accept at cloexec) fd asked d h = cc
called_object b p call fd asked d h = ap (λ (o : Option (Fd × ObjectCall)). is_object_of b p.0 o d) h

module _ (apply : ApplyLaw) (close : CloseLaw) (clock : AdvanceLaw) (limits : Limits) (b : State) (ends : HaveOwnEnds b.files) (filed : Filed b.files) where
  abbrev own : Own b.files
  own = own_of b.files ends

  -- whoever is called through a descriptor has all descriptions of what that names, if that has one only
  all_called : (event : Event) (f : Files) (kept : HaveEnds f) (c m : ℕ) → is_plain (unwrap_or (object_of f c) plain) ≡ false → m ≡ object_number (place_of f c) → ((e : End) → object_has (object_there f m) e ≡ true → e ≡ First)
      → is_called b event c ≡ true → (d : ℕ) (p : Place) → place_of f d ≡ Some p → p.object ≡ m → is_called b event d ≡ true
  all_called event f kept c m shown at alone called d p here also =
      let q = placed f (place_of f c) shown in
      let there : q.0.object ≡ m = sym (at ∙ ap object_number q.1) in
      subst (λ (k : ℕ). is_called b event k ≡ true) (sym (one_at f kept m c q.0 alone q.1 there d p here also)) called

  -- a call on the object under a descriptor number, and a join
  fine_object : (p : Pid) (call : Call) (fd : Fd) (asked : ObjectCall) (ks : List ℕ) → asks b.files.objects call ≡ Some (fd, asked) → first (on_object b p.0 fd.0 asked) ≡ None
      → Fine b (CallOf p call) (plainly ks (joined limits p.0 call (object_change b p.0 fd.0 asked)))
  fine_object p call fd asked ks is allowed =
      let event = CallOf p call in
      let k = named_by b.files p.0 fd.0 in
      let rows = object_refusals (object_under b.files p.0 fd.0) (side_under b.files p.0 fd.0) b.now asked in
      let passes = first_passes (names_nothing b.files p.0 fd.0) Ebadf rows allowed in
      let through : (d : ℕ) → is_called b event d ≡ (k == d) = λ d. called_object b p call fd asked d is in
      let c = object_change b p.0 fd.0 asked in
      let g = c.1.files in
      let owned = (moves_object apply b p.0 fd.0 asked own passes.1).own in
      let one : Goes b event c.1 = record {
        arrivals = refl;
        holds = λ d q uncalled here. holds_by b.files ends b.now d q here asked k (place_of b.files k) refl (named_lives b.files p.0 fd.0 filed passes.0) (unlike k d (sym (through d) ∙ uncalled)) passes.1;
      } in
      fine_plainly b event ks _ (by_joined limits p.0 (λ (made : Change). Goes b event made.1) call c one (λ at name x m same under found unix.
      let o = place_of g (named_by g p.0 at.0) in
      let heard = found_listens g name m found in
      let is_idle : IsIdle (object_there g (object_number o)) x = sym (under_is g owned o) ∙ under in
      let called : is_called b event (named_by g p.0 at.0) ≡ true = ap (λ (of : Call). is_called b (CallOf p of) (named_by g p.0 at.0)) same ∙ same_nat (named_by b.files p.0 at.0) in
      let all = all_called event g (have_ends g owned) (named_by g p.0 at.0) (object_number o) (idle_plain (object_under g p.0 at.0) x under) refl (idle_first (object_there g (object_number o)) x is_idle) called in
      let r = join_replaces (is_called b event) b.now limits.sock_bytes g (have_ends g owned) (object_number o) m x heard.0 name is_idle heard.1 unix all in
      record {
        arrivals = refl;
        holds = λ d q uncalled here.
            let h = one.holds d q uncalled here in
            holds_then b.files g _ b.now b.now b.now d q h (holds_replaced (is_called b event) b.now g _ _ r d q uncalled h.place);
      }))

  -- an accept describes the second end
  holds_accept : (p : Pid) (fd : Fd) (cloexec : Bool) (k : ℕ) → first_waiting b.files (pending_in (object_under b.files p.0 fd.0)) ≡ Some k → (d : ℕ) (q : Place) → is_called b (CallOf p (Accept fd cloexec)) d ≡ false → place_of b.files d ≡ Some q
      → Holds b.files (accept b.files p.0 (object_number (place_of b.files (named_by b.files p.0 fd.0))) (Some k) cloexec) b.now b.now d q
  holds_accept p fd cloexec k is d q uncalled here =
      let event = CallOf p (Accept fd cloexec) in
      let f = b.files in
      let c = named_by f p.0 fd.0 in
      let m = object_number (place_of f c) in
      let found = pending_listener (object_under f p.0 fd.0) f k is in
      let is_listener : IsListener (object_there f m) found.0 = sym (under_is f own (place_of f c)) ∙ found.1 in
      let kept = have_ends f own in
      let all = all_called event f kept c m (listener_plain (object_under f p.0 fd.0) found.0 found.1) refl (listener_first (object_there f m) found.0 is_listener) (same_nat c) in
      let r = accept_replaces (is_called b event) b.now f kept m k found.0 is_listener (first_waits f _ k is) all in
      let made = with_object (with_object f m (without_pending k (object_there f m))) k (accepted (object_there f k)) in
      let h = holds_replaced (is_called b event) b.now f made [] r d q uncalled here in
      holds_then f made _ b.now b.now b.now d q h (holds_same made _ b.now d q (still_there made.descriptions _ d q h.place) refl)

  -- a call on the tables alone
  holds_after : (p : Pid) (call : Call) (d : ℕ) (q : Place) → is_called b (CallOf p call) d ≡ false → place_of b.files d ≡ Some q → Holds b.files (files_call limits b.files p.0 (has_parked b p.0) call).after b.now b.now d q
  holds_after p call d q uncalled here =
      by_making limits b.files p.0 (has_parked b p.0) (λ of g raised. is_called b (CallOf p of) d ≡ false → Holds b.files g b.now b.now d q)
      (λ of x cloexec has free. holds_one b.files ends.made b.now p.0 x cloexec d q here)
      (λ of x cloexec has also free. holds_two b.files ends.made b.now p.0 x cloexec d q here)
      (λ of g places objects free. holds_same b.files g b.now d q (ap (λ (ds : List (Option Place)). get_or ds d None) places ∙ here) (ap (λ (os : List (Option Object)). unwrap_or (get_or os q.object None) plain) objects))
      (λ of g places objects free.
      let event = CallOf p of in
      let there = ap (λ (ds : List (Option Place)). get_or ds d None) places ∙ here in
      let kept = ends_same b.files g places objects (have_ends b.files own) in
      let r = abandoned_go close (is_called b event) b.now g kept in
      holds_then b.files g _ b.now b.now b.now d q
      (holds_same b.files g b.now d q there (ap (λ (os : List (Option Object)). unwrap_or (get_or os q.object None) plain) objects))
      (holds_replaced (is_called b event) b.now g _ _ r d q free there))
      (λ fd cloexec k is free. holds_accept p fd cloexec k is d q free here)
      call uncalled

  goes_tables : (p : Pid) (call : Call) → Goes b (CallOf p call) (files_change b (files_call limits b.files p.0 (has_parked b p.0) call)).1
  goes_tables p call = record { arrivals = refl; holds = holds_after p call }

  fine_call : (caller : ℕ) (p : Pid) (call : Call) (ks : List ℕ) → first (call_refusals limits b p.0 call) ≡ None → Fine b (CallOf p call) (call_change limits b caller p.0 call ks)
  fine_call caller p call ks =
      by_shape limits b caller p.0 ks (λ on tests c. first tests ≡ None → Fine b (CallOf p on) c)
      (λ epfd op fd mask tag allowed. fine_plainly b _ ks _ (goes_ctl b _ p.0 epfd.0 op fd.0 mask.0 tag))
      (λ epfd most timeout allowed. fine_wait b _ caller p.0 (named_by b.files p.0 epfd.0) (number_in most) timeout ks)
      (λ on fd asked is allowed. fine_object p on fd asked ks is allowed)
      (λ on is allowed. fine_plainly b _ ks _ (goes_tables p on))
      call

  goes_tick : (k : ℕ) → Goes b (Tick k) (tick b k).1
  goes_tick k = record { arrivals = refl; holds = λ d p uncalled here. record { place = here; shows = clock_stays (object_there b.files p.object) p.side b.now (b.now + k) (omega arith) } }

  fine_change : (caller : ℕ) (event : Event) (ks : List ℕ) → first (refusals limits b caller event) ≡ None → Fine b event (change limits b caller event ks)
  fine_change caller (CallOf p call) ks allowed =
      let rows = call_refusals limits b p.0 call in
      let there = first_passes (is_none (table_of b.files p.0)) Esrch ((is_parked b caller, Ebusy) ∷ rows) allowed in
      fine_call caller p call ks (first_passes (is_parked b caller) Ebusy rows there.1).1
  fine_change caller Resume ks allowed = fine_resume b Resume caller ks
  fine_change caller (Tick k) ks allowed = fine_plainly b _ ks _ (goes_tick k)

  -- what an event's change leaves of what holds
  pub change_goes : (caller : ℕ) (event : Event) (ks : List ℕ) (c : Change) → first (refusals limits b caller event) ≡ None → change limits b caller event ks ≡ Some c → Goes b event c.1
  unfolding Fine
  change_goes caller event ks c allowed is = subst (Fine b event) is (fine_change caller event ks allowed)
