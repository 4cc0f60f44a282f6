use Rattle.std.proofs.Common.{ap, arith, length, refl, ℕ}
use Rattle.std.specs.Map.{values_of}
use Rattle.std.proofs.lemmas.List.{length-map}
use Rattle.ep_nest.proofs.TurnLemmas.{placed_from}
use Rattle.ep_nest.specs.Adjacent.{turns_at}
use Rattle.ep_nest.specs.declared.link.Link.{Link}
use Rattle.ep_nest.specs.declared.link.Way.TheVariants.{Down, Up}
use Rattle.ep_nest.proofs.links.Links.gather.Goals as goal

pub gather-requires : goal.gather-requires
gather-requires g c =
    let ls = c.self.inside in
    let k = c.args.instance.0 in
    let ts = turns_at ls.down k in
    let same = placed_from Down c.args.way k ls.turns.entries c.args.self.now (values_of ts) ls.down c.self.invariant.down c.in-Down.is c.self.view_is refl in
    omega (arith, c.requires, length-map ts (λ (t : ℕ × Link). t.1), ap length same)

pub gather-requires-in-Up : goal.gather-requires-in-Up
gather-requires-in-Up g c =
    let ls = c.self.inside in
    let k = c.args.instance.0 in
    let ts = turns_at ls.up k in
    let same = placed_from Up c.args.way k ls.turns.entries c.args.self.now (values_of ts) ls.up c.self.invariant.up c.in-Up.is c.self.view_is refl in
    omega (arith, c.requires, length-map ts (λ (t : ℕ × Link). t.1), ap length same)

pub returns-in-Down-clause-links : goal.returns-in-Down-clause-links
returns-in-Down-clause-links g c =
    let ls = c.self.inside in
    placed_from Down c.args.way c.args.instance.0 ls.turns.entries c.args.self.now c.gather.new.gathered.items ls.down c.self.invariant.down c.in-Down.is c.self.view_is c.gather.ensures.links

pub returns-in-Up-clause-links : goal.returns-in-Up-clause-links
returns-in-Up-clause-links g c =
    let ls = c.self.inside in
    placed_from Up c.args.way c.args.instance.0 ls.turns.entries c.args.self.now c.gather-in-Up.new.gathered.items ls.up c.self.invariant.up c.in-Up.is c.self.view_is c.gather-in-Up.ensures.links
