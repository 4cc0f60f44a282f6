use Rattle.std.proofs.Common.{◌≡◌, false, take}
use Rattle.std.specs.List.{list_any}
use Rattle.ep_choice.specs.Choose.{awaited_key}
use Rattle.ep_choice.proofs.choosing.is_any_awaited.Given as goal

abbrev pub invariant-loop-index : goal.invariant-loop-index
invariant-loop-index g l = record {
  vain : list_any (awaited_key l.parts.tables l.parts.clock l.parts.interest l.parts.parked) (take l.index l.reached.reached) ≡ false;
  knows : g.R.Readiness.knows l.ready l.parts.tables l.parts.clock l.parts.interest;
}
