use Rattle.std.proofs.Common.{Bool, List, ap, arith, length, subst, sym, ℕ, ◌<◌, ◌∙◌}
use Rattle.std.specs.List.{All}
use Rattle.ep_nest.proofs.KeptLemmas.{starting_few, starting_placed}
use Rattle.ep_nest.specs.Links.{ends_of}
use Rattle.ep_nest.specs.declared.link.Link.{Link}
use Rattle.ep_nest.specs.declared.link.Way.TheVariants.{Down}
use Rattle.ep_nest.proofs.descend.go_down.Goals as goal

pub gather-requires : goal.gather-requires
gather-requires g c = omega (arith, starting_few Down c.args.outer.0 c.args.links.now, c.requires.room.gathered)

pub note_each-requires-clause-places : goal.note_each-requires-clause-places
note_each-requires-clause-places g c =
    let table = c.args.walk.now.marks.items in
    let P : Link → Type 0 = λ l. (ends_of Down l).1 < length table in
    let placed = starting_placed Down c.args.outer.0 (length table) c.args.links.now c.requires.room.marks in
    let there = subst (All P) (sym (c.deref.ensures.value ∙ c.gather.ensures.links)) placed in
    let long = ap (λ (ms : List Bool). length ms) c.deref_mut.ensures.value in
    subst (λ (n : ℕ). All (λ l. (ends_of Down l).1 < n) c.deref.result.now) (sym long) there
