use Rattle.std.proofs.Common.{rules}
use Rattle.ep_calls.specs.declared.wait.Reportable.{Reportable}
use Rattle.ep_calls.proofs.RoomLemmas.{room_for_next}
use Rattle.ep_calls.proofs.report.picked_of.Goals as goal

pub push_reserved-requires : goal.push_reserved-requires
push_reserved-requires c =
    let room =
    room_for_next (λ (x : Reportable). x.entry.number) c.args.chosen.now c.loop-x.picked.items c.loop-x.x-index c.loop-x.picked.capacity c.loop-x.invariant.0 c.loop-x.invariant.1 c.loop-x-test.true in
    search (rules, room)
