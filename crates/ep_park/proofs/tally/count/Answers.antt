use Rattle.std.proofs.Common.{rules}
use Rattle.ep_park.proofs.tally.count.Goals as goal

pub returns : goal.returns
returns g c = search rules
