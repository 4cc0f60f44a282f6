use Rattle.std.proofs.Common.{take}
use Rattle.ep_choice.proofs.TargetLemmas.{Gone}
use Rattle.ep_choice.proofs.narrowing.reach_targets.Given as goal

abbrev pub invariant-loop-id : goal.invariant-loop-id
invariant-loop-id l = Gone l.interest (take l.id-index l.id-items) l.fn.targets l.targets
