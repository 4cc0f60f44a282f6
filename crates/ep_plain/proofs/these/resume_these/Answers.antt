use Rattle.std.proofs.Common.{◌≡◌, ◌∙◌, List, ℕ, Some, ap, find, map, subst, sym}
use Rattle.std.proofs.lemmas.Result.{IfOk-weaker}
use Rattle.std.specs.List.{filter_map}
use Rattle.ep_base.specs.declared.call.Event.TheVariants.{Resume}
use Rattle.ep_calls.proofs.LastLemmas.{resume_last}
use Rattle.ep_calls.proofs.ParkLemmas.{found_all}
use Rattle.ep_calls.specs.Moves.{StandFor}
use Rattle.ep_calls.specs.Parts.{Parts}
use Rattle.ep_calls.specs.Stands.{IsPlaced, number_at}
use Rattle.ep_calls.specs.Wait.{AreKeyed, IsPick, numbers_of}
use Rattle.ep_calls.specs.declared.outcome.Outcome.{Outcome}
use Rattle.ep_calls.specs.declared.wait.Reportable.{Reportable}
use Rattle.ep_interest.specs.Registrations.{numbered}
use Rattle.ep_machine.specs.Refusal.{refusals}
use Rattle.ep_machine.specs.Report.{is_pick}
use Rattle.ep_machine.specs.State.{State}
use Rattle.ep_machine.specs.Step.{change}
use Rattle.ep_machine.specs.Watches.{number_in}
use Rattle.ep_nest.proofs.AdjacentLemmas.{on_err}
use Rattle.ep_park.specs.Waiters.{is_caller, parked}
use Rattle.ep_plain.proofs.ActWithLemmas.{does_where}
use Rattle.ep_plain.proofs.TakeLemmas.{taken_numbers}
use Rattle.ep_plain.specs.Choose.{reportables_at}
use Rattle.ep_plain.specs.These.{MayPick}
use Rattle.ep_plain.proofs.these.resume_these.Goals as goal

pub resume_with-requires-clause-keyed : goal.resume_with-requires-clause-keyed
resume_with-requires-clause-keyed c =
    let q = c.args.parts.now in
    subst (λ (xs : List Reportable). AreKeyed q.tables q.clock q.interest xs) (sym c.deref.ensures.value) c.in_ok-chosen.ensures.keyed

-- what is taken is what is given
taken : (c : goal.After-drop-chosen) (s : State) → StandFor c.args.parts.now s → MayPick c.args.parts.now c.args.waiter.instance (number_in c.args.waiter.max) c.args.picks.now s → numbers_of c.deref.result.now ≡ c.args.picks.now
taken c s stands may =
    let k = c.parts.inside in
    let w = c.args.waiter in
    let most = number_in w.max in
    let ks = c.args.picks.now in
    let caller = c.args.request.caller.0 in
    let held = subst (λ (q : Parts). find (is_caller caller) q.parked ≡ Some (parked caller w)) (sym c.parts.view_is) c.requires.parked in
    let placed = found_all (IsPlaced k.tables.keys) caller k.waiters (parked caller w) held c.parts.invariant.placed in
    taken_numbers k.tables k.clock k.interest s w.instance (subst (λ (q : Parts). StandFor q s) (sym c.parts.view_is) stands) c.parts.invariant.linked c.known.ensures placed.instance most c.deref.result.now ks
    (subst (λ (q : Parts). MayPick q w.instance most ks s) (sym c.parts.view_is) may)
    (ap (λ (xs : List Reportable). map (λ x. x.entry) xs) c.deref.ensures.value
    ∙ (c.in_ok-chosen.ensures.entries ∙ ap (λ (q : Parts). filter_map (numbered (reportables_at q.tables q.clock q.interest w.instance)) ks) (sym c.parts.view_is)))

pub returns-clause-ok : goal.returns-clause-ok
returns-clause-ok c =
    let q = c.args.parts.now in
    let w = c.args.waiter in
    let caller = c.args.request.caller.0 in
    let most = number_in w.max in
    IfOk-weaker c.resume_with.result _ _ (λ (outcome : Outcome) does.
    does_where (IsPick q.tables w.instance most c.deref.result.now) (MayPick q w.instance most c.args.picks.now) c.args.request.step (λ s. refusals q.tables.limits s caller Resume) (λ s picked. change q.tables.limits s caller Resume picked)
    outcome q c.resume_with.new.self does
    (λ s at sound quiet legal stands may. ap (λ (ks : List ℕ). is_pick s (number_at q.tables.keys w.instance) most ks) (taken c s stands may) ∙ may)) c.resume_with.ensures.ok

pub returns-clause-picked : goal.returns-clause-picked
returns-clause-picked c = IfOk-weaker c.resume_with.result _ _ (λ (outcome : Outcome) told s sound legal stands may. told ∙ taken c s stands may) c.resume_with.ensures.picked

pub returns-in_err-chosen-clause-last : goal.returns-in_err-chosen-clause-last
returns-in_err-chosen-clause-last c = on_err c.from_residual.result (resume_last c.args.parts.now c.args.request.caller.0 c.args.waiter c.requires.parked)

pub returns-clause-leaves : goal.returns-clause-leaves
returns-clause-leaves c = IfOk-weaker c.resume_with.result _ _ (λ (outcome : Outcome) clock. record { files = c.resume_with.ensures.files; clock = clock }) c.resume_with.ensures.clock
