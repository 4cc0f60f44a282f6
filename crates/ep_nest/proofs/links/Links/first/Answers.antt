use Rattle.std.proofs.Common.{ap, refl, slice_get, ◌∙◌}
use Rattle.std.specs.Map.{values_of}
use Rattle.ep_nest.proofs.TurnLemmas.{placed_from}
use Rattle.ep_nest.specs.Adjacent.{turns_at}
use Rattle.ep_nest.specs.declared.link.Way.TheVariants.{Down, Up}
use Rattle.ep_nest.proofs.links.Links.first.Goals as goal

pub returns-in-Down : goal.returns-in-Down
returns-in-Down g c =
    let ls = c.self.inside in
    let k = c.args.instance.0 in
    c.first.ensures
    ∙ ap (λ ls. slice_get ls 0) (placed_from Down c.args.way k ls.turns.entries c.args.self.now (values_of (turns_at ls.down k)) ls.down c.self.invariant.down c.in-Down.is c.self.view_is refl)

pub returns-in-Up : goal.returns-in-Up
returns-in-Up g c =
    let ls = c.self.inside in
    let k = c.args.instance.0 in
    c.first-in-Up.ensures
    ∙ ap (λ ls. slice_get ls 0) (placed_from Up c.args.way k ls.turns.entries c.args.self.now (values_of (turns_at ls.up k)) ls.up c.self.invariant.up c.in-Up.is c.self.view_is refl)
