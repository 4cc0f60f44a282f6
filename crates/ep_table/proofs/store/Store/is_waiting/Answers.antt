use Rattle.std.proofs.Common.{ap, ◌∙◌}
use Rattle.ep_machine.specs.Objects.{is_waiting}
use Rattle.ep_table.proofs.LetGoLemmas.{at}
use Rattle.ep_table.proofs.LettingLemmas.{whether_waits}
use Rattle.ep_table.specs.Value.{Things}
use Rattle.ep_table.proofs.store.Store.is_waiting.Goals as goal

pub returns : goal.returns
returns g c =
    let k = c.self.inside in
    c.is_some.ensures
    ∙ (whether_waits k.waiting k.objects.slots k.made c.self.invariant.objects c.self.invariant.connected c.args.number c.waiting_at.result c.waiting_at.ensures.waits c.waiting_at.ensures.none
    ∙ ap (λ (v : Things). is_waiting (at v.objects c.args.number)) c.self.view_is)
