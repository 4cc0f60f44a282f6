use Rattle.std.proofs.Common.{◌≡◌, false, take}
use Rattle.std.specs.List.{list_any}
use Rattle.ep_base.specs.declared.ids.DescId.{DescId}
use Rattle.ep_choice.specs.Guarded.{has_exclusive}
use Rattle.ep_choice.proofs.guarded.is_any_exclusive.Given as goal

abbrev pub invariant-loop-instance : goal.invariant-loop-instance
invariant-loop-instance l = list_any (λ (d : DescId). has_exclusive l.interest d) (take l.instance-index l.instances) ≡ false
