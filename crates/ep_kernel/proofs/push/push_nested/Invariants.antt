use Rattle.std.proofs.Common.{take}
use Rattle.std.specs.List.{list_any}
use Rattle.ep_kernel.specs.Beside.{Each}
use Rattle.ep_kernel.specs.Push.{Gains, comes_on}
use Rattle.ep_kernel.proofs.push.push_nested.Given as goal

abbrev pub invariant-loop-index : goal.invariant-loop-index
invariant-loop-index l = Each (Gains (λ k. list_any (λ i. comes_on l.parts (record { 0 = i }) k) (take l.index l.fn.beside.reached.reached))) l.fn.beside l.beside
