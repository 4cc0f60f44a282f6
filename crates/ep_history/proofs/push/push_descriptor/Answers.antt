use Rattle.std.proofs.Common.{SFits, rules, w32}
use Rattle.ep_history.proofs.NumberLemmas.{widened}
use Rattle.ep_history.proofs.push.push_descriptor.Goals as goal

pub returns : goal.returns
returns c =
    let fits : SFits w32 c.args.fd.0 = search rules in
    rw (widened c.args.fd.0 c.from.result fits c.from.ensures) at c.push_integer.ensures
