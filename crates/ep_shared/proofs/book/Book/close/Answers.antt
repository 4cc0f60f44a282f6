use Rattle.std.proofs.Common.{rules, ◌≡◌, ◌∙◌, List, ap, sym}
use Rattle.ep_base.specs.Limits.{Limits}
use Rattle.ep_base.specs.declared.record.Record.{Record}
use Rattle.ep_machine.specs.Run.{run}
use Rattle.ep_machine.specs.State.{opening}
use Rattle.ep_shared.proofs.book.Book.close.Goals as goal

pub returns-clause-replays : goal.returns-clause-replays
returns-clause-replays g c =
    let kernel = c.args.self.kernel in
    let bounds : g.K.Kernel.bounds kernel ≡ c.args.limits.now = search rules in
    let past : c.in-Ok.records.items ≡ g.K.Kernel.past kernel = search rules in
    ap (λ (l : Limits). run l opening c.in-Ok.records.items) (sym bounds)
    ∙ (ap (λ (rs : List Record). run (g.K.Kernel.bounds kernel) opening rs) past ∙ c.args.self.run)
