use Rattle.std.proofs.Common.{◌∙◌, [], ap, refl, subst, sym}
use Rattle.ep_base.specs.declared.answer.Answer.TheVariants.{Refused}
use Rattle.ep_base.specs.declared.errno.Errno.TheVariants.{Einval}
use Rattle.ep_machine.specs.Effect.{first}
use Rattle.ep_machine.specs.Files.{Files}
use Rattle.ep_machine.specs.Refusal.{ctl_refusals}
use Rattle.ep_machine.specs.Step.{call_change}
use Rattle.ep_calls.specs.Parts.{Parts}
use Rattle.ep_calls.specs.Control.{control_call, naming_refusals}
use Rattle.ep_calls.specs.Raising.{IsRaising}
use Rattle.ep_calls.specs.declared.raising.Raising.{Raising}
use Rattle.ep_calls.proofs.EpollCtlLemmas.{goes_einval, is_deep, refused_name}
use Rattle.ep_calls.proofs.OutcomeLemmas.{goes_refused, raises_refused}
use Rattle.ep_calls.proofs.ControlLemmas.{ctl_does}
use Rattle.ep_calls.proofs.parts.Parts.plan.Goals as goal

pub returns-in-Err-clause-err : goal.returns-in-Err-clause-err
returns-in-Err-clause-err c = λ n caller.
    let k = c.self.inside in
    let p : Parts = record { tables = k.tables; interest = k.interest; graph = k.graph; parked = k.waiters; clock = k.clock } in
    let v = k.tables in
    let r = k.interest in
    let h = c.self.invariant in
    let a = c.args.args in
    let pid = c.args.pid.0 in
    let limits = v.limits in
    let e = c.refused.ensures in
    rw (← c.self.view_is) (ctl_does p r k.graph pid a (Refused c.in-Err.errno) c.refused.result e.answer e.picked (subst (λ (q : Raising). IsRaising q v) (sym e.raising) tt) n caller (λ s at sound quiet legal stands.
    let first_is = refused_name limits s pid a.epfd.0 a.op a.fd.0 a.mask.0 c.in-Err.errno (ap (λ (f : Files). first (naming_refusals f pid a.epfd.0 a.fd.0)) stands.files ∙ c.in-Err.ensures) in (
      goes_refused (ctl_refusals limits s pid a.epfd.0 a.op a.fd.0 a.mask.0) (call_change limits s caller pid (control_call a) []) s p c.in-Err.errno first_is stands,
      raises_refused (ctl_refusals limits s pid a.epfd.0 a.op a.fd.0 a.mask.0) (call_change limits s caller pid (control_call a) []) v k.clock c.in-Err.errno c.refused.result.raising first_is e.raising,
    )))

pub returns-in_default-clause-err : goal.returns-in_default-clause-err
returns-in_default-clause-err c = λ n caller.
    let k = c.self.inside in
    let p : Parts = record { tables = k.tables; interest = k.interest; graph = k.graph; parked = k.waiters; clock = k.clock } in
    let v = k.tables in
    let r = k.interest in
    let h = c.self.invariant in
    let a = c.args.args in
    let pid = c.args.pid.0 in
    let limits = v.limits in
    let e = c.refused-in_default.ensures in
    rw (← c.self.view_is) (ctl_does p r k.graph pid a (Refused Einval) c.refused-in_default.result e.answer e.picked (subst (λ (q : Raising). IsRaising q v) (sym e.raising) tt) n caller (λ s at sound quiet legal stands.
    let goes = goes_einval k.graph limits v r s pid a c.in-Ok.named c.in-Ok.ensures c.known.ensures k.clock stands h.linked (is_deep limits s pid a.epfd.0 a.op a.fd.0 a.mask.0) refl n caller c.in_default.ensures.none in
    (goes.0, goes.1 c.refused-in_default.result.raising e.raising)))
