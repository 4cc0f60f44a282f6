use Rattle.std.proofs.Common.{List, length, take, vec_capacity, ℕ, ◌++◌, ◌≡◌, ◌≤◌, ◌||◌}
use Rattle.ep_base.specs.declared.ids.DescId.{DescId}
use Rattle.ep_machine.specs.Lists.{is_among}
use Rattle.ep_nest.specs.Links.{ends, keys}
use Rattle.ep_nest.specs.Marks.{AreNoted}
use Rattle.ep_nest.proofs.reach.note_each.Given as goal

abbrev pub invariant-loop-link : goal.invariant-loop-link
invariant-loop-link g l = record {
  noted : AreNoted l.marks (keys l.reached.items);
  exact : (x : ℕ) → is_among (keys l.reached.items) x ≡ (is_among (ends l.way (take l.link-index l.links)) x || is_among (keys l.fn.reached.items) x);
  grown : (more : List DescId) × (l.reached.items ≡ l.fn.reached.items ++ more);
  marks : length l.marks ≡ length l.initial.marks;
  capacity : vec_capacity l.fn.reached ≤ vec_capacity l.reached;
}
