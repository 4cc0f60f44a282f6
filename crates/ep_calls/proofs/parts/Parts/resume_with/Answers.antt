use Rattle.std.proofs.Common.{◌≡◌, ◌∙◌, ◌==◌, ◌⊎◌, Err, IfOk, Ok, Result, Some, false, true, All, List, ap, inl, inr, length, map, not, refl, subst, sym, ℕ}
use Rattle.std.specs.Result.{is_ok}
use Rattle.std.proofs.lemmas.Bool.{false≢true}
use Rattle.std.proofs.lemmas.Result.{IfOk-at_ok}
use Rattle.std.specs.declared.alloc.AllocError.{AllocError}
use Rattle.std.specs.List.{find}
use Rattle.std.proofs.lemmas.List.Elements.{All-filter}
use Rattle.ep_base.specs.declared.answer.Answer.TheVariants.{Still}
use Rattle.ep_base.specs.declared.call.Event.TheVariants.{Resume}
use Rattle.ep_machine.specs.Refusal.{refusals}
use Rattle.ep_machine.specs.State.{Waiter}
use Rattle.ep_machine.specs.Waits.{is_due, resume}
use Rattle.ep_machine.specs.Watches.{number_in}
use Rattle.ep_view.proofs.WaiterLemmas.{unmarked_part}
use Rattle.ep_park.specs.Waiters.{is_caller, parked}
use Rattle.ep_calls.specs.Parts.{Parts}
use Rattle.ep_calls.specs.Stands.{IsPlaced}
use Rattle.ep_calls.specs.Does.{DoesResume}
use Rattle.ep_calls.specs.Reports.{Reports}
use Rattle.ep_calls.specs.Wait.{AreKeyed, IsPick, with_report}
use Rattle.ep_calls.specs.declared.outcome.Outcome.{Outcome}
use Rattle.ep_calls.specs.declared.raising.Raising.TheVariants.{Nowhere}
use Rattle.ep_calls.proofs.OutcomeLemmas.{goes_told}
use Rattle.ep_calls.proofs.HoldLemmas.{held_same, place, placed_same}
use Rattle.ep_calls.proofs.ParkLemmas.{found_all}
use Rattle.ep_calls.proofs.ResumeLemmas.{goes_left, goes_unmarked}
use Rattle.ep_calls.proofs.WaitLemmas.{coherent_parked, coherent_reported, resume_does}
use Rattle.ep_calls.proofs.PickLemmas.{noted_none}
use Rattle.ep_calls.proofs.ReportLemmas.{no_numbers}
use Rattle.ep_table.proofs.ProcessesLemmas.{on_err}
use Rattle.ep_calls.proofs.LastLemmas.{resume_last}
use Rattle.ep_calls.proofs.parts.Parts.resume_with.Goals as goal
use Rattle.ep_calls.proofs.parts.Parts.resume_with.Goals.{else-is_empty-via-then-is_empty+else-not-is_due, else-is_empty-via-else-is_empty}

pub invariant_of-self : goal.invariant_of-self
invariant_of-self c =
    let k = c.self.inside in
    let h = c.self.invariant in
    let same = ap (map place) c.unmark.ensures ∙ unmarked_part place (λ w b. refl) c.args.caller.0 k.waiters in
    record {
      linked = h.linked;
      watched = h.watched;
      nested = h.nested;
      placed = placed_same k.waiters c.unmark.new.self same k.tables.keys h.placed;
      held = held_same k.waiters c.unmark.new.self same k.tables h.held;
      clock = h.clock;
    }

pub returns-then-not-is_due-clause-ok : goal.returns-then-not-is_due-clause-ok
returns-then-not-is_due-clause-ok c =
    let k = c.self.inside in
    let p : Parts = record { tables = k.tables; interest = k.interest; graph = k.graph; parked = k.waiters; clock = k.clock } in
    let new : Parts = record p { parked = c.unmark.new.self } in
    let w = c.args.waiter in
    let caller = c.args.caller.0 in
    let chosen = c.args.chosen.now in
    let o = c.settled.ensures in
    let is = subst (λ (q : Parts). find (is_caller caller) q.parked ≡ Some (parked caller w)) (sym c.self.view_is) c.requires.parked in
    let keyed = subst (λ (q : Parts). AreKeyed q.tables q.clock q.interest chosen) (sym c.self.view_is) c.requires.keyed in
    let placed = found_all (IsPlaced p.tables.keys) caller p.parked (parked caller w) is c.self.invariant.placed in
    let none : (length chosen == 0) ≡ true = sym c.if-is_empty.ensures in
    let early : is_due p.clock w.deadline ≡ false = sym c.is_due.ensures ∙ c.if-not-is_due.true in
    rw (← c.self.view_is) (resume_does (IsPick p.tables w.instance (number_in w.max) chosen) c.args.step caller c.settled.result p new o.raising refl refl refl (λ s at sound quiet legal stands pick.
    goes_told (refusals p.tables.limits s caller Resume) (resume s caller) s c.settled.result.answer Still c.settled.result.picked new o.answer o.picked
    (goes_unmarked p.graph p.tables p.interest p.parked p.clock caller p.tables.limits s stands w is c.args.step chosen at legal placed keyed pick c.requires.marked new.parked none early c.unmark.ensures)))

-- the outcome of a report that was made
made : (r : Result Outcome AllocError) → is_ok r ≡ true → (o : Outcome) × (r ≡ Ok o)
made (Ok o) is = (o, refl)
made (Err e) is = absurd (false≢true is)

pub invariant_of-self-then-is_ok : goal.invariant_of-self-then-is_ok
invariant_of-self-then-is_ok c =
    let k = c.self.inside in
    let p : Parts = record { tables = k.tables; interest = k.interest; graph = k.graph; parked = k.waiters; clock = k.clock } in
    let m = made c.report-outcome.result (sym c.is_ok.ensures.value ∙ c.if-is_ok.true) in
    let o = m.0 in
    let e = c.leave.ensures in
    let mid : Parts = record p { interest = c.report-outcome.new.interest } in
    let gone = subst (λ (ws : List Waiter). All (IsPlaced k.tables.keys) ws) (sym e.left) (All-filter (λ u. not (is_caller c.args.caller.0 u)) (IsPlaced k.tables.keys) k.waiters c.self.invariant.placed) in
    let told = IfOk-at_ok (λ (x : Outcome). Reports k.interest c.report-outcome.new.interest c.args.step c.args.chosen.now x.answer x.picked) m.1 c.report-outcome.ensures.ok in
    coherent_parked mid c.leave.new.tables c.leave.new.waiters (coherent_reported p mid.interest c.args.step c.args.chosen.now o.answer o.picked c.self.invariant told) e.files e.keys gone e.held

-- what two promises of an outcome give
of_both : (r : Result Outcome AllocError) (P Q S : Outcome → Type 0) → ((o : Outcome) → P o → Q o → S o) → IfOk r P → IfOk r Q → IfOk r S
of_both (Ok o) P Q S f p q = f o p q
of_both (Err e) P Q S f p q = tt

pub returns-then-is_ok-clause-ok : goal.returns-then-is_ok-clause-ok
returns-then-is_ok-clause-ok c =
    let k = c.self.inside in
    let p : Parts = record { tables = k.tables; interest = k.interest; graph = k.graph; parked = k.waiters; clock = k.clock } in
    let new : Parts = record p { tables = c.leave.new.tables; interest = c.report-outcome.new.interest; parked = c.leave.new.waiters } in
    let w = c.args.waiter in
    let caller = c.args.caller.0 in
    let chosen = c.args.chosen.now in
    let e = c.leave.ensures in
    let is = subst (λ (q : Parts). find (is_caller caller) q.parked ≡ Some (parked caller w)) (sym c.self.view_is) c.requires.parked in
    let keyed = subst (λ (q : Parts). AreKeyed q.tables q.clock q.interest chosen) (sym c.self.view_is) c.requires.keyed in
    let placed = found_all (IsPlaced p.tables.keys) caller p.parked (parked caller w) is c.self.invariant.placed in
    let why : ((length chosen == 0) ≡ false) ⊎ (is_due p.clock w.deadline ≡ true) = elim c.else-is_empty.branch [
      | else-is_empty-via-then-is_empty+else-not-is_due b ↦ inr (sym b.is_due.ensures ∙ b.if-not-is_due.false)
      | else-is_empty-via-else-is_empty b ↦ inl (sym c.is_empty.ensures ∙ b.if-is_empty.false)
    ] in
    rw (← c.self.view_is) (of_both c.report-outcome.result (λ (o : Outcome). Reports p.interest new.interest c.args.step chosen o.answer o.picked) (λ (o : Outcome). o.raising ≡ Nowhere)
    (λ (o : Outcome). DoesResume c.args.step caller w chosen o p new)
    (λ o told raising.
    resume_does (IsPick p.tables w.instance (number_in w.max) chosen) c.args.step caller o p new raising e.files e.keys e.limits (λ s at sound quiet legal stands pick.
    goes_left p.graph p.tables p.interest p.parked p.clock caller p.tables.limits s stands w is c.args.step chosen at legal placed keyed pick c.requires.marked new.interest o.answer o.picked new.tables new.parked told why e.files e.keys e.left))
    c.report-outcome.ensures.ok c.report-outcome.ensures.raising)

pub returns-then-not-is_due-clause-entries : goal.returns-then-not-is_due-clause-entries
returns-then-not-is_due-clause-entries c =
    let xs = c.self.inside.interest.entries in
    rw (← c.self.view_is) (sym (noted_none c.args.step xs) ∙ ap (λ (ks : List ℕ). map (with_report c.args.step ks) xs) (sym c.settled.ensures.picked))

pub returns-then-not-is_due-clause-picked : goal.returns-then-not-is_due-clause-picked
returns-then-not-is_due-clause-picked c = c.settled.ensures.picked ∙ sym (no_numbers c.args.chosen.now (sym c.if-is_empty.ensures))

pub returns-else-is_ok-clause-last : goal.returns-else-is_ok-clause-last
returns-else-is_ok-clause-last c = on_err c.report-outcome.result _ (resume_last c.args.self.now c.args.caller.0 c.args.waiter c.requires.parked)
