use Rattle.std.proofs.Common.{◌≡◌, IfOk, None, OnErr, Result, refl}
use Rattle.ep_kernel.proofs.EventLemmas.{leaves_by, leaves_stay, stays_by}
use Rattle.ep_kernel.proofs.StillSuitsLemmas.{loses_missed, suits_missed}
use Rattle.ep_alarms.proofs.ChangesLemmas.{controls_leave}
use Rattle.std.proofs.lemmas.Result.{IfOk-weaker, on_err_weaker}
use Rattle.ep_base.specs.declared.call.Event.TheVariants.{Call as CallOf}
use Rattle.ep_base.specs.declared.ids.Pid.{Pid}
use Rattle.ep_calls.specs.Control.{Changes, Controls, control_call}
use Rattle.ep_calls.specs.Parts.{Parts}
use Rattle.ep_calls.specs.declared.control.Control.{Control}
use Rattle.ep_calls.specs.declared.control.Operation.{Operation}
use Rattle.ep_calls.specs.declared.control.Operation.TheVariants.{Delete, Modify}
use Rattle.ep_calls.specs.declared.control.Plan.{Plan}
use Rattle.ep_calls.specs.declared.outcome.Outcome.{Outcome}
use Rattle.ep_kernel.proofs.ControlTurnsLemmas.{turns_missed}
use Rattle.ep_kernel.proofs.HopesGoLemmas.{either_way, hopes_missed}
use Rattle.ep_kernel.proofs.control.enter.Goals as goal
use Rattle.ep_kernel.specs.Event.{LeavesBeside}
use Rattle.ep_kernel.specs.Stands.{StandsBeside}
use Rattle.ep_kernel.specs.declared.beside.Beside.{Beside}

pub returns-in-Delete-clause-turns : goal.returns-in-Delete-clause-turns
returns-in-Delete-clause-turns c =
    IfOk-weaker c.control.result _ _ (λ outcome controls. turns_missed c.args.pid c.args.args c.args.plan outcome c.args.parts.now c.control.new.self c.args.beside.now.lists c.requires.stands.listed controls c.requires.found Delete c.in-Delete.is (λ h. h)) c.control.ensures.controls

pub returns-in-Modify-clause-turns : goal.returns-in-Modify-clause-turns
returns-in-Modify-clause-turns c =
    IfOk-weaker c.control-in-Modify.result _ _ (λ outcome controls. turns_missed c.args.pid c.args.args c.args.plan outcome c.args.parts.now c.control-in-Modify.new.self c.args.beside.now.lists c.requires.stands.listed controls c.requires.found Modify c.in-Modify.is (λ h. h)) c.control-in-Modify.ensures.controls

pub returns-in-Delete-clause-leaves : goal.returns-in-Delete-clause-leaves
returns-in-Delete-clause-leaves c = IfOk-weaker c.control.result _ _ (λ outcome controls. controls_leave c.args.plan c.args.args outcome c.args.parts.now c.control.new.self controls) c.control.ensures.controls

pub returns-in-Modify-clause-leaves : goal.returns-in-Modify-clause-leaves
returns-in-Modify-clause-leaves c = IfOk-weaker c.control-in-Modify.result _ _ (λ outcome controls. controls_leave c.args.plan c.args.args outcome c.args.parts.now c.control-in-Modify.new.self controls) c.control-in-Modify.ensures.controls

-- what is refused, since nothing is there, leaves what stands beside the parts
missed : {E : Type 0} (pid : Pid) (args : Control) (plan : Plan) (p q : Parts) (b : Beside) → StandsBeside p b → plan.found ≡ None → (op : Operation) → plan.operation ≡ op → (Changes op None plan.named args p.interest q.interest → ⊥)
    → (r : Result Outcome E) → IfOk r (λ outcome. Controls plan args outcome p q) → OnErr r (q ≡ p) → LeavesBeside (CallOf pid (control_call args)) p b q b
missed pid args plan p q b stands absent op of never r controls err =
    let event = CallOf pid (control_call args) in
    either_way r
    (IfOk-weaker r _ _ (λ outcome h.
    leaves_by event p q b b refl refl stands.room (hopes_missed pid args plan outcome p q b.asked.hopes stands.hopes h absent op of never) (suits_missed pid args plan outcome p q h absent op of never) (loses_missed pid args plan outcome p q h absent)) controls)
    (on_err_weaker r (λ same. leaves_stay event p q b b refl refl stands.room same stands.hopes) err)

pub returns-in-Delete-clause-goes : goal.returns-in-Delete-clause-goes
returns-in-Delete-clause-goes c = missed c.args.pid c.args.args c.args.plan c.args.parts.now c.control.new.self c.args.beside.now c.requires.stands c.requires.found Delete c.in-Delete.is (λ h. h) c.control.result c.control.ensures.controls c.control.ensures.err

pub returns-in-Modify-clause-goes : goal.returns-in-Modify-clause-goes
returns-in-Modify-clause-goes c =
    let did = c.control-in-Modify in
    missed c.args.pid c.args.args c.args.plan c.args.parts.now did.new.self c.args.beside.now c.requires.stands c.requires.found Modify c.in-Modify.is (λ h. h) did.result did.ensures.controls did.ensures.err

pub returns-in-Delete-clause-err : goal.returns-in-Delete-clause-err
returns-in-Delete-clause-err c = on_err_weaker c.control.result (stays_by c.args.parts.now c.control.new.self c.args.beside.now c.args.beside.now refl refl) c.control.ensures.err

pub returns-in-Modify-clause-err : goal.returns-in-Modify-clause-err
returns-in-Modify-clause-err c = on_err_weaker c.control-in-Modify.result (stays_by c.args.parts.now c.control-in-Modify.new.self c.args.beside.now c.args.beside.now refl refl) c.control-in-Modify.ensures.err
