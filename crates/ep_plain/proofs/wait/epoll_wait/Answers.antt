use Rattle.ep_alarms.proofs.ChangesLemmas.{nowhere_leaves}
use Rattle.std.proofs.Common.{◌∙◌, ℕ, ℤ, List, SFits, ap, map, rules, subst, sym, w32}
use Rattle.std.proofs.lemmas.Int.{to_z-of_z}
use Rattle.std.proofs.lemmas.Result.{IfOk-weaker}
use Rattle.ep_machine.specs.Refusal.{call_refusals}
use Rattle.ep_machine.specs.Step.{call_change}
use Rattle.ep_machine.specs.Watches.{number_in}
use Rattle.ep_calls.specs.Moves.{MovesBy}
use Rattle.ep_calls.specs.Parts.{Parts}
use Rattle.ep_calls.specs.Wait.{AreKeyed, IsPick, wait_call, with_report}
use Rattle.ep_plain.specs.Choose.{IsChosen}
use Rattle.ep_calls.specs.declared.outcome.Outcome.{Outcome}
use Rattle.ep_calls.specs.declared.wait.Reportable.{Reportable}
use Rattle.ep_calls.proofs.ActLemmas.{does_all}
use Rattle.ep_calls.proofs.PickLemmas.{noted_none}
use Rattle.ep_plain.proofs.ChooseLemmas.{chosen_is_pick}
use Rattle.ep_plain.proofs.wait.epoll_wait.Goals as goal

pub wait_with-requires-clause-keyed : goal.wait_with-requires-clause-keyed
wait_with-requires-clause-keyed c =
    let q = c.args.parts.now in
    subst (λ (xs : List Reportable). AreKeyed q.tables q.clock q.interest xs) (sym c.deref.ensures.value) c.in_ok-chosen.ensures.keyed

pub returns-clause-ok : goal.returns-clause-ok
returns-clause-ok c =
    let k = c.parts.inside in
    let p : Parts = record { tables = k.tables; interest = k.interest; graph = k.graph; parked = k.waiters; clock = k.clock } in
    let x = c.args.args in
    let q = c.args.parts.now in
    let chosen = c.deref.result.now in
    let instance = c.in-Ok.instance in
    let fits : SFits w32 x.max = search rules in
    let chooses = subst (λ (xs : List Reportable). IsChosen k.tables k.clock k.interest instance (number_in x.max) xs) (sym c.deref.ensures.value)
    (subst (λ (r : Parts). IsChosen r.tables r.clock r.interest instance (number_in x.max) c.in_ok-chosen.chosen.items) (sym c.parts.view_is)
    (subst (λ (z : ℤ). IsChosen q.tables q.clock q.interest instance (number_in z) c.in_ok-chosen.chosen.items) (to_z-of_z w32 x.max fits) c.in_ok-chosen.ensures)) in
    let pick : MovesBy c.args.request.step p (IsPick p.tables instance (number_in x.max) chosen) = λ s at sound quiet legal stands.
    chosen_is_pick k.tables k.clock k.interest s instance (number_in x.max) chosen sound stands c.parts.invariant.linked c.known.ensures c.in-Ok.ensures.lives chooses in
    IfOk-weaker c.wait_with.result _ _ (λ (o : Outcome) done.
    does_all (IsPick q.tables instance (number_in x.max) chosen) c.args.request.step (λ s. call_refusals q.tables.limits s x.pid.0 (wait_call x)) (λ s picked. call_change q.tables.limits s c.args.request.caller.0 x.pid.0 (wait_call x) picked) o q c.wait_with.new.self
    done (subst (λ (r : Parts). MovesBy c.args.request.step r (IsPick r.tables instance (number_in x.max) chosen)) c.parts.view_is pick))
    c.wait_with.ensures.ok

pub returns-in-Err-clause-leaves : goal.returns-in-Err-clause-leaves
returns-in-Err-clause-leaves c = nowhere_leaves c.refused.result.raising c.args.parts.now c.refused.ensures.raising

pub returns-clause-leaves : goal.returns-clause-leaves
returns-clause-leaves c = IfOk-weaker c.wait_with.result _ _ (λ (o : Outcome) clock. record { files = c.wait_with.ensures.files; clock = clock }) c.wait_with.ensures.clock

pub returns-in-Err-clause-entries : goal.returns-in-Err-clause-entries
returns-in-Err-clause-entries c =
    let xs = c.args.parts.now.interest.entries in
    sym (ap (λ (ks : List ℕ). map (with_report c.args.request.step ks) xs) c.refused.ensures.picked ∙ noted_none c.args.request.step xs)
