use Rattle.std.proofs.Common.{IfNone, List, None, Option, Some, refl, sym, ◌∙◌}
use Rattle.std.proofs.lemmas.Option.{IfSome_then}
use Rattle.std.specs.Map.{values_of}
use Rattle.ep_nest.proofs.TurnLemmas.{placed_from}
use Rattle.ep_nest.specs.Adjacent.{turns_at}
use Rattle.ep_nest.specs.declared.link.Link.{Link}
use Rattle.ep_nest.specs.declared.link.Way.TheVariants.{Down, Up}
use Rattle.ep_nest.proofs.links.Links.turns.Goals as goal

none_then : {X P Q : Type 0} (o : Option X) → IfNone o P → (P → Q) → IfNone o Q
none_then None h f = f h
none_then (Some x) h f = tt

pub returns-in-Down-clause-some : goal.returns-in-Down-clause-some
returns-in-Down-clause-some g c =
    let ls = c.self.inside in
    IfSome_then c.turns.result c.turns.ensures.some (λ (links : List Link) is. placed_from Down c.args.way c.args.instance.0 ls.turns.entries c.args.self.now links ls.down c.self.invariant.down c.in-Down.is c.self.view_is is)

pub returns-in-Down-clause-none : goal.returns-in-Down-clause-none
returns-in-Down-clause-none g c =
    let ls = c.self.inside in
    let same = placed_from Down c.args.way c.args.instance.0 ls.turns.entries c.args.self.now (values_of (turns_at ls.down c.args.instance.0)) ls.down c.self.invariant.down c.in-Down.is c.self.view_is refl in
    none_then c.turns.result c.turns.ensures.none (λ is. sym same ∙ is)

pub returns-in-Up-clause-some : goal.returns-in-Up-clause-some
returns-in-Up-clause-some g c =
    let ls = c.self.inside in
    IfSome_then c.turns-in-Up.result c.turns-in-Up.ensures.some (λ (links : List Link) is. placed_from Up c.args.way c.args.instance.0 ls.turns.entries c.args.self.now links ls.up c.self.invariant.up c.in-Up.is c.self.view_is is)

pub returns-in-Up-clause-none : goal.returns-in-Up-clause-none
returns-in-Up-clause-none g c =
    let ls = c.self.inside in
    let same = placed_from Up c.args.way c.args.instance.0 ls.turns.entries c.args.self.now (values_of (turns_at ls.up c.args.instance.0)) ls.up c.self.invariant.up c.in-Up.is c.self.view_is refl in
    none_then c.turns-in-Up.result c.turns-in-Up.ensures.none (λ is. sym same ∙ is)
