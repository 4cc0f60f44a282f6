use Rattle.std.proofs.Common.{ap, sym, ◌∙◌, ◌≡◌}
use Rattle.ep_base.specs.declared.call.Call.{Call}
use Rattle.ep_machine.specs.Objects.{idle, listens}
use Rattle.ep_object.proofs.NamingLemmas.{listening_gained}
use Rattle.ep_object.proofs.object.Object.gains.Goals as goal
use Rattle.ep_object.specs.Asked.{asked_in, naming_call}
use Rattle.ep_object.specs.Content.{content_of}

pub returns-in-Listen-clause-gains : goal.returns-in-Listen-clause-gains
returns-in-Listen-clause-gains c =
    let i = c.in-Idle.idle in
    let view : idle i ≡ c.args.self.now = ap content_of (sym c.in-Idle.is) ∙ c.self.view_is in
    let asked : listens c.in-Listen.backlog c.call.inside.found ≡ c.args.call.now =
    ap (λ (call : Call). asked_in (naming_call c.call.inside.found c.call.inside.heard call)) (sym c.in-Listen.is) ∙ c.call.view_is in
    listening_gained _ _ i c.in-Listen.backlog c.call.inside.found c.gains_listening.result view asked (c.gains_listening.ensures.gains c.in-Listen.backlog)
