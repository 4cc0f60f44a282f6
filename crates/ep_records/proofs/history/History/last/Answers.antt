use Rattle.std.proofs.Common.{◌≡◌, ◌∙◌, ◌-◌, length, rules}
use Rattle.ep_records.proofs.KeptLemmas.{read_last}
use Rattle.ep_records.proofs.history.History.last.Goals as goal

pub returns-clause-last : goal.returns-clause-last
returns-clause-last c = λ before last e.
    let at : c.saturating_sub.result ≡ length c.args.self.now.items - 1 = search rules in
    c.get.ensures ∙ read_last before c.args.self.now.items last c.saturating_sub.result e at
