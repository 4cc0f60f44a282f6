use Rattle.std.proofs.Common.{vec_capacity, ◌++◌, ◌≡◌, ◌≤◌}
use Rattle.std.specs.Map.{values_of}
use Rattle.ep_nest.specs.Adjacent.{turns_at}
use Rattle.ep_nest.proofs.adjacent.Adjacent.gather.Given as goal

abbrev pub invariant-loop-link : goal.invariant-loop-link
invariant-loop-link g l = record {
  filled : l.gathered.items ++ l.link-iterator ≡ values_of (turns_at l.self l.fn.instance.0);
  room : vec_capacity l.fn.gathered ≤ vec_capacity l.gathered;
}
