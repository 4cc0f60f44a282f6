use Rattle.std.proofs.Common.{◌∙◌, List, filter, subst, sym}
use Rattle.ep_base.specs.declared.ids.EntryId.{EntryId}
use Rattle.ep_interest.specs.Registrations.{ids, is_on}
use Rattle.ep_kernel.proofs.BesideLemmas.{each_map, each_start, each_then}
use Rattle.ep_kernel.proofs.PlacesLemmas.{Loses, loses_all, loses_first, loses_more}
use Rattle.ep_kernel.proofs.places.drop_watchers.Goals as goal
use Rattle.ep_kernel.specs.Beside.{Each}

pub loop-id-init : goal.loop-id-init
loop-id-init c =
    let all = ids c.args.interest.now (filter (is_on c.args.desc) c.args.interest.now.entries) in
    subst (λ (rest : List EntryId). Each (Loses all rest) c.args.beside.now c.args.beside.now) (sym (c.into_iter-id-iterator.ensures.into_iter_gives ∙ c.watchers-id-items.ensures.exact)) (each_start (loses_first all))

pub loop-id-preserved : goal.loop-id-preserved
loop-id-preserved c =
    let all = ids c.args.interest.now (filter (is_on c.args.desc) c.args.interest.now.entries) in
    each_then (loses_more all c.in-Some.id c.next.new.self) (subst (λ (rest : List EntryId). Each (Loses all rest) c.args.beside.now c.loop-id.beside) c.in-Some.ensures.steps c.loop-id.invariant) c.drop_places.ensures

pub returns : goal.returns
returns c =
    let all = ids c.args.interest.now (filter (is_on c.args.desc) c.args.interest.now.entries) in
    each_map (loses_all all) (subst (λ (rest : List EntryId). Each (Loses all rest) c.args.beside.now c.loop-id.beside) c.in-None.ensures.steps.0 c.loop-id.invariant)
