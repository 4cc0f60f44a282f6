use Rattle.std.proofs.Common.{◌≡◌, flat_map, string_bytes}
use Rattle.std.specs.List.{range_with_len, zip}
use Rattle.ep_scenario.specs.Outcomes.{told_all}
use Rattle.ep_scenario.proofs.outcome.outcome_of.Given as goal

abbrev pub invariant-loop-number : goal.invariant-loop-number
invariant-loop-number l = string_bytes l.text ≡ flat_map (told_all l.version (zip l.turns l.records)) (range_with_len 0 l.number)
