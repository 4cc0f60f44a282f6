use Rattle.std.proofs.Common.{ap, arith, option_and_then, ◌∙◌}
use Rattle.ep_history.specs.Fields.{two_items}
use Rattle.ep_history.proofs.FieldLemmas.{two_items-other}
use Rattle.ep_history.proofs.fields.pair_of.Goals as goal

pub returns-then-len-ne2 : goal.returns-then-len-ne2
returns-then-len-ne2 c =
    two_items-other c.in_ok-items.items.now.items (λ e. omega (arith, c.in_ok-items.items.now.ok.0))
    ∙ ap (option_and_then two_items) c.in_ok-items.ensures
