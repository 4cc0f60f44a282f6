use Rattle.std.proofs.Common.{false, length, slice_index_or, take, ℕ, ◌≡◌}
use Rattle.std.specs.List.{All}
use Rattle.ep_nest.specs.Marks.{IsMarked}
use Rattle.ep_nest.proofs.reach.unmark.Given as goal

abbrev pub invariant-loop-desc : goal.invariant-loop-desc
invariant-loop-desc l = record {
  some : (x : ℕ) → IsMarked l.marks x → IsMarked l.initial.marks x;
  done : All (λ d. slice_index_or l.marks d.0 false ≡ false) (take l.desc-index l.reached);
  room : length l.marks ≡ length l.initial.marks;
}
