use Rattle.std.proofs.Common.{Bool, List, ap, arith, length, subst, sym, ℕ, ◌<◌, ◌∙◌}
use Rattle.std.specs.List.{All}
use Rattle.ep_nest.proofs.KeptLemmas.{starting_few, starting_placed}
use Rattle.ep_nest.specs.Links.{ends_of}
use Rattle.ep_nest.proofs.longest.reach_ends.Goals as goal

pub gather-requires : goal.gather-requires
gather-requires g c = omega (arith, starting_few c.args.way c.args.start.0 c.args.links.now, c.requires.room.gathered)

pub note_each-requires-clause-places : goal.note_each-requires-clause-places
note_each-requires-clause-places g c =
    let ls = c.args.links.now in
    let table = c.args.walk.now.marks.items in
    let placed = starting_placed c.args.way c.args.start.0 (length table) ls c.requires.room.marks in
    let links = c.deref.ensures.value ∙ c.gather.ensures.links in
    let long = ap (λ (ms : List Bool). length ms) c.deref_mut.ensures.value in
    subst (λ (n : ℕ). All (λ l. (ends_of c.args.way l).1 < n) c.deref.result.now) (sym long)
    (subst (All (λ l. (ends_of c.args.way l).1 < length table)) (sym links) placed)
