use Rattle.std.proofs.Common.{List, Option, Some, ap, arith, length, slice_set, ◌∙◌, ◌≡◌}
use Rattle.ep_machine.specs.Lists.{lowest_free, place_at}
use Rattle.ep_table.specs.declared.words.Descriptor.{Descriptor}
use Rattle.ep_table.proofs.PutLemmas.{grown_has, low_place, placed}
use Rattle.ep_table.proofs.table.Table.put.Given.{Over}
use Rattle.ep_table.proofs.table.Table.put.Goals as goal

pub set-requires : goal.set-requires
set-requires g c = let o = c.grow_to.new.slots.ok in omega (arith, o, ap (λ (r : List (Option Descriptor)). length r) c.in_ok-grow_to.ensures.ok, grown_has c.args.self.now.slots.items c.args.number)

placed_is : (g : Over) (c : goal.After-set g) → c.set.new.slots.items ≡ place_at c.args.self.now.slots.items c.args.number c.args.descriptor
placed_is g c = c.set.ensures ∙ (ap (λ (r : List (Option Descriptor)). slice_set r c.args.number (Some c.args.descriptor)) c.in_ok-grow_to.ensures.ok ∙ placed c.args.self.now.slots.items c.args.number c.args.descriptor)

pub invariant_of-self-2 : goal.invariant_of-self-2
invariant_of-self-2 g c = record { is_low = omega (arith, c.args.self.now.is_low, ap lowest_free (placed_is g c), low_place c.args.self.now.slots.items c.args.number c.args.descriptor) }

pub returns-clause-ok : goal.returns-clause-ok
returns-clause-ok g c = c.set.ensures ∙ (ap (λ (r : List (Option Descriptor)). slice_set r c.args.number (Some c.args.descriptor)) c.in_ok-grow_to.ensures.ok ∙ placed c.args.self.now.slots.items c.args.number c.args.descriptor)
