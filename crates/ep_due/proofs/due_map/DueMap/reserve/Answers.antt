use Rattle.std.proofs.Common.{List, None, Option, arith, subst, sym, ℕ}
use Rattle.ep_due.proofs.MapLemmas.{free_dropped}
use Rattle.ep_due.specs.DueQueue.{HasFreePlace}
use Rattle.ep_due.proofs.due_map.DueMap.reserve.Goals as goal

pub returns-clause-room : goal.returns-clause-room
returns-clause-room g c = record {
  places = omega (arith, c.in_ok-reserve-2.ensures.ok);
  owners = omega (arith, c.in_ok-reserve.ensures.ok);
  queue = subst HasFreePlace (sym c.drop_place.ensures) (free_dropped c.make_place.new.self c.in_ok-place.place.0 None c.in_ok-place.ensures.made.here);
}
