use Rattle.std.proofs.Common.{None}
use Rattle.ep_facts.proofs.ListFacts.{map_set}
use Rattle.ep_table.specs.Processes.{items_of}
use Rattle.ep_table.proofs.processes.end.Goals as goal

pub returns-then-at-len : goal.returns-then-at-len
returns-then-at-len g c = map_set items_of c.args.processes.now.items c.args.pid.0 None
