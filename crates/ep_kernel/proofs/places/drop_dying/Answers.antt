use Rattle.std.proofs.Common.{List, subst, sym}
use Rattle.ep_base.specs.declared.ids.DescId.{DescId}
use Rattle.ep_kernel.proofs.BesideLemmas.{each_map, each_start, each_then}
use Rattle.ep_kernel.proofs.PlacesLemmas.{LosesEach, each_all, each_first, each_more}
use Rattle.ep_kernel.proofs.places.drop_dying.Goals as goal
use Rattle.ep_kernel.specs.Beside.{Each}

pub loop-desc-init : goal.loop-desc-init
loop-desc-init c =
    let b = c.args.beside.now in
    let all : List DescId = c.dying-desc-items.result in
    let dying = c.dying-desc-items.ensures.exact in
    let r = c.parts.inside.interest in
    let is = sym c.into_iter-desc-iterator.ensures.into_iter_gives in
    rw (← c.parts.view_is) (all, dying, subst (λ (rest : List DescId). Each (LosesEach r all rest) b b) is (each_start (each_first r all)))

pub loop-desc-preserved : goal.loop-desc-preserved
loop-desc-preserved c =
    let i = c.loop-desc.invariant in
    let r = c.args.parts.now.interest in
    let left = subst (λ (rest : List DescId). Each (LosesEach r i.0 rest) c.args.beside.now c.loop-desc.beside) c.in-Some.ensures.steps i.2 in
    (i.0, i.1, each_then (each_more r i.0 c.in-Some.desc c.next.new.self) left (rw (← c.parts.view_is) c.drop_touching.ensures))

pub returns : goal.returns
returns c =
    let i = c.loop-desc.invariant in
    let r = c.args.parts.now.interest in
    each_map (λ l m left. record { descs = i.0; dying = i.1; places = each_all r i.0 l m left })
    (subst (λ (rest : List DescId). Each (LosesEach r i.0 rest) c.args.beside.now c.loop-desc.beside) c.in-None.ensures.steps.0 i.2)
