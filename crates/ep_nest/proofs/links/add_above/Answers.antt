use Rattle.std.proofs.Common.{◌∙◌}
use Rattle.ep_nest.proofs.TurnLemmas.{put_last, undone}
use Rattle.ep_nest.proofs.links.add_above.Goals as goal

pub returns-in-Ok-clause-added : goal.returns-in-Ok-clause-added
returns-in-Ok-clause-added g c = record {
  above = c.in_ok-add.ensures.added;
  all = c.in-Ok.ensures.entries ∙ put_last c.args.ticket c.args.link c.args.turns.now.entries c.requires.last;
  rise = c.in-Ok.ensures.ordered;
}

pub returns-in-Err-clause-kept : goal.returns-in-Err-clause-kept
returns-in-Err-clause-kept g c =
    undone c.args.up.now c.add.new.self c.take.new.self c.args.link.inner.0 c.args.ticket c.args.link c.requires.last_above c.in_ok-add.ensures.added c.take.ensures
