use Rattle.std.proofs.Common.{◌≡◌, map, take}
use Rattle.ep_climb.proofs.ClimbLemmas.{fresh_on}
use Rattle.ep_climb.proofs.climbing.freshen_reached.Given as goal

abbrev pub invariant-loop-index : goal.invariant-loop-index
invariant-loop-index l = record {
  entries : l.interest.entries ≡ map (fresh_on l.tables (take l.index l.reached.reached)) l.fn.interest.entries;
  keys : l.interest.keys ≡ l.fn.interest.keys;
  added : l.interest.added ≡ l.fn.interest.added;
}
