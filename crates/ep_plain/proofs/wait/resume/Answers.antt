use Rattle.ep_alarms.proofs.ChangesLemmas.{nowhere_leaves}
use Rattle.std.proofs.Common.{◌≡◌, ◌∙◌, ℕ, ℤ, true, List, SFits, ap, map, refl, rules, subst, sym, w32}
use Rattle.std.proofs.lemmas.Int.{to_z-of_z}
use Rattle.std.proofs.lemmas.Result.{IfOk-weaker}
use Rattle.ep_facts.proofs.BoolFacts.{from_not}
use Rattle.ep_base.specs.declared.answer.Answer.TheVariants.{Refused, Still}
use Rattle.ep_base.specs.declared.call.Event.TheVariants.{Resume}
use Rattle.ep_base.specs.declared.errno.Errno.TheVariants.{Einval}
use Rattle.ep_machine.specs.Refusal.{refusals}
use Rattle.ep_machine.specs.State.{State}
use Rattle.ep_machine.specs.Step.{change}
use Rattle.ep_machine.specs.Waits.{is_positive, resume}
use Rattle.ep_machine.specs.Watches.{number_in}
use Rattle.ep_park.specs.Waiters.{parked}
use Rattle.ep_calls.specs.Moves.{MovesBy}
use Rattle.ep_calls.specs.Parts.{Parts}
use Rattle.ep_calls.specs.Stands.{IsPlaced}
use Rattle.ep_calls.specs.Wait.{AreKeyed, IsPick, with_report}
use Rattle.ep_plain.specs.Choose.{IsChosen}
use Rattle.ep_calls.specs.declared.outcome.Outcome.{Outcome}
use Rattle.ep_calls.specs.declared.wait.Reportable.{Reportable}
use Rattle.ep_calls.proofs.ActLemmas.{does_all}
use Rattle.ep_nest.proofs.AdjacentLemmas.{on_err}
use Rattle.ep_plain.proofs.ChooseLemmas.{chosen_is_pick}
use Rattle.ep_calls.proofs.LastLemmas.{resume_last}
use Rattle.ep_calls.proofs.OutcomeLemmas.{goes_told}
use Rattle.ep_calls.proofs.ParkLemmas.{found_all}
use Rattle.ep_calls.proofs.PickLemmas.{noted_none}
use Rattle.ep_calls.proofs.ResumeLemmas.{goes_still, goes_unparked}
use Rattle.ep_calls.proofs.WaitLemmas.{asked_some, resume_does}
use Rattle.ep_plain.proofs.wait.resume.Goals as goal

pub returns-in_default-clause-ok : goal.returns-in_default-clause-ok
returns-in_default-clause-ok c =
    let k = c.parts.inside in
    let p : Parts = record { tables = k.tables; interest = k.interest; graph = k.graph; parked = k.waiters; clock = k.clock } in
    let o = c.refused.ensures in
    let caller = c.args.request.caller.0 in
    let any : State → Type 0 = λ s. Unit {0} in
    rw (← c.parts.view_is) (does_all any c.args.request.step (λ s. refusals p.tables.limits s caller Resume) (λ s picked. change p.tables.limits s caller Resume picked) c.refused.result p p
    (resume_does any c.args.request.step caller c.refused.result p p o.raising refl refl refl (λ s at sound quiet legal stands u.
    goes_told (refusals p.tables.limits s caller Resume) (resume s caller) s c.refused.result.answer (Refused Einval) c.refused.result.picked p o.answer o.picked
    (goes_unparked p.graph p.tables p.interest p.parked p.clock caller p.tables.limits s stands (sym c.in_default.ensures)))) (λ s at sound quiet legal stands. tt))

pub returns-then-not-waiter-clause-ok : goal.returns-then-not-waiter-clause-ok
returns-then-not-waiter-clause-ok c =
    let k = c.parts.inside in
    let p : Parts = record { tables = k.tables; interest = k.interest; graph = k.graph; parked = k.waiters; clock = k.clock } in
    let o = c.settled.ensures in
    let caller = c.args.request.caller.0 in
    let any : State → Type 0 = λ s. Unit {0} in
    rw (← c.parts.view_is) (does_all any c.args.request.step (λ s. refusals p.tables.limits s caller Resume) (λ s picked. change p.tables.limits s caller Resume picked) c.settled.result p p
    (resume_does any c.args.request.step caller c.settled.result p p o.raising refl refl refl (λ s at sound quiet legal stands u.
    goes_told (refusals p.tables.limits s caller Resume) (resume s caller) s c.settled.result.answer Still c.settled.result.picked p o.answer o.picked
    (goes_still p.graph p.tables p.interest p.parked p.clock caller p.tables.limits s stands c.in-Some.waiter (sym c.in-Some.ensures) (from_not c.in-Some.waiter.marked c.if-not-waiter.true)))) (λ s at sound quiet legal stands. tt))

pub choose-requires-clause-positive : goal.choose-requires-clause-positive
choose-requires-clause-positive c =
    let w = c.in-Some.waiter in
    let k = c.parts.inside in
    let fits : SFits w32 w.max = search rules in
    let placed = found_all (IsPlaced k.tables.keys) c.args.request.caller.0 k.waiters (parked c.args.request.caller.0 w) (sym c.in-Some.ensures) c.parts.invariant.placed in
    subst (λ (z : ℤ). is_positive z ≡ true) (sym (to_z-of_z w32 w.max fits)) (asked_some w.max placed.most)

pub resume_with-requires-clause-keyed : goal.resume_with-requires-clause-keyed
resume_with-requires-clause-keyed c =
    let q = c.args.parts.now in
    subst (λ (xs : List Reportable). AreKeyed q.tables q.clock q.interest xs) (sym c.deref.ensures.value) c.in_ok-chosen.ensures.keyed

pub returns-clause-ok : goal.returns-clause-ok
returns-clause-ok c =
    let k = c.parts.inside in
    let p : Parts = record { tables = k.tables; interest = k.interest; graph = k.graph; parked = k.waiters; clock = k.clock } in
    let q = c.args.parts.now in
    let w = c.in-Some.waiter in
    let caller = c.args.request.caller.0 in
    let chosen = c.deref.result.now in
    let fits : SFits w32 w.max = search rules in
    let placed = found_all (IsPlaced k.tables.keys) caller k.waiters (parked caller w) (sym c.in-Some.ensures) c.parts.invariant.placed in
    let chooses = subst (λ (xs : List Reportable). IsChosen k.tables k.clock k.interest w.instance (number_in w.max) xs) (sym c.deref.ensures.value)
    (subst (λ (r : Parts). IsChosen r.tables r.clock r.interest w.instance (number_in w.max) c.in_ok-chosen.chosen.items) (sym c.parts.view_is)
    (subst (λ (z : ℤ). IsChosen q.tables q.clock q.interest w.instance (number_in z) c.in_ok-chosen.chosen.items) (to_z-of_z w32 w.max fits) c.in_ok-chosen.ensures)) in
    let pick : MovesBy c.args.request.step p (IsPick p.tables w.instance (number_in w.max) chosen) = λ s at sound quiet legal stands.
    chosen_is_pick k.tables k.clock k.interest s w.instance (number_in w.max) chosen sound stands c.parts.invariant.linked c.known.ensures placed.instance chooses in
    IfOk-weaker c.resume_with.result _ _ (λ (o : Outcome) done.
    does_all (IsPick q.tables w.instance (number_in w.max) chosen) c.args.request.step (λ s. refusals q.tables.limits s caller Resume) (λ s picked. change q.tables.limits s caller Resume picked) o q c.resume_with.new.self
    done (subst (λ (r : Parts). MovesBy c.args.request.step r (IsPick r.tables w.instance (number_in w.max) chosen)) c.parts.view_is pick))
    c.resume_with.ensures.ok

pub returns-in_err-chosen-clause-last : goal.returns-in_err-chosen-clause-last
returns-in_err-chosen-clause-last c =
    let k = c.parts.inside in
    let p : Parts = record { tables = k.tables; interest = k.interest; graph = k.graph; parked = k.waiters; clock = k.clock } in
    rw (← c.parts.view_is) (on_err c.from_residual.result (resume_last p c.args.request.caller.0 c.in-Some.waiter (sym c.in-Some.ensures)))

pub returns-in_default-clause-leaves : goal.returns-in_default-clause-leaves
returns-in_default-clause-leaves c = nowhere_leaves c.refused.result.raising c.args.parts.now c.refused.ensures.raising

pub returns-then-not-waiter-clause-leaves : goal.returns-then-not-waiter-clause-leaves
returns-then-not-waiter-clause-leaves c = nowhere_leaves c.settled.result.raising c.args.parts.now c.settled.ensures.raising

pub returns-clause-leaves : goal.returns-clause-leaves
returns-clause-leaves c = IfOk-weaker c.resume_with.result _ _ (λ (o : Outcome) clock. record { files = c.resume_with.ensures.files; clock = clock }) c.resume_with.ensures.clock

pub returns-in_default-clause-entries : goal.returns-in_default-clause-entries
returns-in_default-clause-entries c =
    let xs = c.args.parts.now.interest.entries in
    sym (ap (λ (ks : List ℕ). map (with_report c.args.request.step ks) xs) c.refused.ensures.picked ∙ noted_none c.args.request.step xs)

pub returns-then-not-waiter-clause-entries : goal.returns-then-not-waiter-clause-entries
returns-then-not-waiter-clause-entries c =
    let xs = c.args.parts.now.interest.entries in
    sym (ap (λ (ks : List ℕ). map (with_report c.args.request.step ks) xs) c.settled.ensures.picked ∙ noted_none c.args.request.step xs)
