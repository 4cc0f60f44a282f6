use Rattle.ep_script.proofs.Pieces.{comes_at_hand, fits_at_hand}
use Rattle.ep_script.proofs.held.Gathered.read_line.Goals as goal

pub returns-in-Ok-true-clause-line : goal.returns-in-Ok-true-clause-line
returns-in-Ok-true-clause-line g c = λ _. comes_at_hand _ _ _ _ (c.in-Ok-true.ensures.whole c.in-Ok-true.field-0-test) (c.in-Ok-true.ensures.plain c.in-Ok-true.field-0-test)

pub returns-in-Ok-true-clause-short : goal.returns-in-Ok-true-clause-short
returns-in-Ok-true-clause-short g c = fits_at_hand c.args.input.now _ _ (c.in-Ok-true.ensures.whole c.in-Ok-true.field-0-test)
