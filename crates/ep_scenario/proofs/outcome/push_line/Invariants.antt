use Rattle.std.proofs.Common.{◌≡◌, ◌++◌, drop, flat_map, string_bytes}
use Rattle.std.specs.List.{zip}
use Rattle.ep_scenario.specs.Outcomes.{told_to}
use Rattle.ep_scenario.proofs.outcome.push_line.Given as goal

abbrev pub invariant-loop-place : goal.invariant-loop-place
invariant-loop-place l =
    string_bytes l.text ++ flat_map (told_to l.version l.number) (drop l.place (zip l.turns l.records))
    ≡ string_bytes l.fn.text ++ flat_map (told_to l.version l.number) (zip l.turns l.records)
