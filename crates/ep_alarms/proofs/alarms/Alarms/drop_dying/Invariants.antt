use Rattle.std.proofs.Common.{◌≡◌, List, Some, map}
use Rattle.ep_base.specs.declared.ids.DescId.{DescId}
use Rattle.ep_alarms.proofs.DropLemmas.{Loses}
use Rattle.ep_alarms.proofs.alarms.Alarms.drop_dying.Given as goal
use Rattle.ep_table.specs.Value.{number_under}

abbrev pub invariant-loop-desc : goal.invariant-loop-desc
invariant-loop-desc l = (all : List DescId) × (map (number_under l.tables) all ≡ map Some l.tables.dying) × Loses all l.desc-iterator l.fn.self l.self
