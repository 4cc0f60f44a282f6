use Rattle.std.proofs.Common.{map}
use Rattle.ep_scenario.specs.Reading.{part_of}
use Rattle.ep_scenario.proofs.PutLemmas.{NoneUpTo}
use Rattle.ep_scenario.proofs.cast.line_of.Given as goal

abbrev pub invariant-loop-number : goal.invariant-loop-number
invariant-loop-number l = NoneUpTo l.caller (map part_of l.lines) l.number
