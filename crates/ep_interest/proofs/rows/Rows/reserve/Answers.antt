use Rattle.ep_interest.specs.Rows.{circle_of}
use Rattle.ep_interest.proofs.rows.Rows.reserve.Goals as goal

pub returns-clause-kept : goal.returns-clause-kept
returns-clause-kept g c i = c.reserve.ensures.kept (circle_of c.args.self.now) i
