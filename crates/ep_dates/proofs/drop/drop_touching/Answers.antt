use Rattle.ep_dates.proofs.DropLemmas.{touching_both}
use Rattle.ep_dates.proofs.drop.drop_touching.Goals as goal

pub returns : goal.returns
returns c = touching_both c.args.interest.now c.args.desc.0 c.args.dates.now c.drop_set.new.dates c.drop_watchers.new.dates c.drop_set.ensures c.drop_watchers.ensures
