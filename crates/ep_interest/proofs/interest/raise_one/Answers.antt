use Rattle.std.proofs.Common.{ap, arith, sym, ◌∙◌}
use Rattle.ep_interest.specs.Passes.{passes_on}
use Rattle.ep_interest.proofs.PassesLemmas.{held_within, room_for}
use Rattle.ep_interest.proofs.interest.raise_one.Goals as goal

pub follow-requires-clause-room : goal.follow-requires-clause-room
follow-requires-clause-room g c off =
    let slots = c.args.slots.now.slots in
    let ids = c.args.passes.now.keys.items in
    let k = c.args.id.0 in
    let is = c.index_mut-entry.ensures.value in
    let fits = room_for slots ids k c.requires.passing (held_within slots k c.index_mut-entry.result.now is) (c.requires.passing.each k ∙ (ap passes_on is ∙ sym c.is_event.ensures ∙ off)) in
    omega (arith, fits, c.requires.room)
