use Rattle.std.proofs.Common.{◌≡◌, ◌∙◌, List, ℕ, IsSome, ap, map, subst, sym}
use Rattle.std.proofs.lemmas.Result.{IfOk-weaker}
use Rattle.std.specs.List.{filter_map}
use Rattle.ep_calls.specs.Moves.{StandFor}
use Rattle.ep_calls.specs.Parts.{Parts}
use Rattle.ep_calls.specs.Stands.{number_at}
use Rattle.ep_calls.specs.Wait.{AreKeyed, IsPick, numbers_of, wait_call}
use Rattle.ep_calls.specs.declared.outcome.Outcome.{Outcome}
use Rattle.ep_calls.specs.declared.wait.Reportable.{Reportable}
use Rattle.ep_interest.specs.Registrations.{numbered}
use Rattle.ep_machine.specs.Refusal.{call_refusals}
use Rattle.ep_machine.specs.Report.{is_pick}
use Rattle.ep_machine.specs.State.{State}
use Rattle.ep_machine.specs.Step.{call_change}
use Rattle.ep_machine.specs.Watches.{number_in}
use Rattle.ep_plain.proofs.ActWithLemmas.{does_where}
use Rattle.ep_plain.proofs.TakeLemmas.{taken_numbers}
use Rattle.ep_plain.specs.Choose.{reportables_at}
use Rattle.ep_plain.specs.These.{MayPick}
use Rattle.ep_table.specs.Value.{number_under}
use Rattle.ep_plain.proofs.these.wait_these.Goals as goal

pub wait_with-requires-clause-keyed : goal.wait_with-requires-clause-keyed
wait_with-requires-clause-keyed c =
    let q = c.args.parts.now in
    subst (λ (xs : List Reportable). AreKeyed q.tables q.clock q.interest xs) (sym c.deref.ensures.value) c.in_ok-chosen.ensures.keyed

-- what is taken is what is given
taken : (c : goal.After-drop-chosen) (s : State) → StandFor c.args.parts.now s → MayPick c.args.parts.now c.args.instance (number_in c.args.args.max) c.args.picks.now s → numbers_of c.deref.result.now ≡ c.args.picks.now
taken c s stands may =
    let k = c.parts.inside in
    let p : Parts = record { tables = k.tables; interest = k.interest; graph = k.graph; parked = k.waiters; clock = k.clock } in
    let instance = c.args.instance in
    let most = number_in c.args.args.max in
    let ks = c.args.picks.now in
    taken_numbers k.tables k.clock k.interest s instance (subst (λ (q : Parts). StandFor q s) (sym c.parts.view_is) stands) c.parts.invariant.linked c.known.ensures
    (subst (λ (q : Parts). IsSome (number_under q.tables instance)) (sym c.parts.view_is) c.requires.waits.lives) most c.deref.result.now ks
    (subst (λ (q : Parts). MayPick q instance most ks s) (sym c.parts.view_is) may)
    (ap (λ (xs : List Reportable). map (λ x. x.entry) xs) c.deref.ensures.value
    ∙ (c.in_ok-chosen.ensures.entries ∙ ap (λ (q : Parts). filter_map (numbered (reportables_at q.tables q.clock q.interest instance)) ks) (sym c.parts.view_is)))

pub returns-clause-ok : goal.returns-clause-ok
returns-clause-ok c =
    let q = c.args.parts.now in
    let x = c.args.args in
    let instance = c.args.instance in
    let most = number_in x.max in
    IfOk-weaker c.wait_with.result _ _ (λ (outcome : Outcome) does.
    does_where (IsPick q.tables instance most c.deref.result.now) (MayPick q instance most c.args.picks.now) c.args.request.step (λ s. call_refusals q.tables.limits s x.pid.0 (wait_call x)) (λ s picked. call_change q.tables.limits s c.args.request.caller.0 x.pid.0 (wait_call x) picked)
    outcome q c.wait_with.new.self does
    (λ s at sound quiet legal stands may. ap (λ (ks : List ℕ). is_pick s (number_at q.tables.keys instance) most ks) (taken c s stands may) ∙ may)) c.wait_with.ensures.ok

pub returns-clause-picked : goal.returns-clause-picked
returns-clause-picked c = IfOk-weaker c.wait_with.result _ _ (λ (outcome : Outcome) told s sound legal stands may. told ∙ taken c s stands may) c.wait_with.ensures.picked

pub returns-clause-leaves : goal.returns-clause-leaves
returns-clause-leaves c = IfOk-weaker c.wait_with.result _ _ (λ (outcome : Outcome) clock. record { files = c.wait_with.ensures.files; clock = clock }) c.wait_with.ensures.clock
