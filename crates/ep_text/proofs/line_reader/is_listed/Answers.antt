use Rattle.std.proofs.Common.{sym, ◌∙◌}
use Rattle.ep_text.proofs.FlatLemmas.{among_numbered}
use Rattle.ep_text.proofs.line_reader.is_listed.Goals as goal

pub returns-then-number : goal.returns-then-number
returns-then-number c =
    λ answered. among_numbered c.args.keys.now c.loop-listed.listed-index c.args.key _ c.loop-listed-test.true (sym c.number.ensures ∙ c.if-number.true ∙ c.number-in-loop-listed.ensures)
