use Rattle.std.proofs.Common.{ap, length, rules, sym, ◌∙◌, ◌∷◌, ◌≡◌}
use Rattle.ep_table.specs.DyingKeys.{queued_keys}
use Rattle.ep_table.proofs.DyingKeysLemmas.{queued_last}
use Rattle.ep_table.proofs.dying_keys.DyingKeysIterator.next.Goals as goal

pub returns-in-Some-clause-steps : goal.returns-in-Some-clause-steps
returns-in-Some-clause-steps c = sym c.self.view_is ∙ (ap queued_keys c.in-Some.ensures.cases.0 ∙ queued_last c.in-Some.rest.now c.in-Some.last.now)

pub returns-in-Some-clause-goes : goal.returns-in-Some-clause-goes
returns-in-Some-clause-goes c =
    let shown : c.args.self.now ≡ c.in-Some.last.now.key ∷ queued_keys c.in-Some.rest.now = sym c.self.view_is ∙ (ap queued_keys c.in-Some.ensures.cases.0 ∙ queued_last c.in-Some.rest.now c.in-Some.last.now) in
    let less = ap length shown in
    search (rules, shown, less)
