use Rattle.std.proofs.Common.{◌∙◌, List, ap, filter, subst, sym}
use Rattle.ep_base.specs.declared.ids.EntryId.{EntryId}
use Rattle.ep_interest.specs.Registrations.{ids, is_of}
use Rattle.ep_interest.specs.declared.entry.Entry.{Entry}
use Rattle.ep_kernel.proofs.BesideLemmas.{each_map, each_start, each_then}
use Rattle.ep_kernel.proofs.PlacesLemmas.{Loses, firsts, keys_with, loses_all, loses_first, loses_more}
use Rattle.ep_kernel.proofs.places.drop_set.Goals as goal
use Rattle.ep_kernel.specs.Beside.{Each}

pub loop-id-init : goal.loop-id-init
loop-id-init c =
    let r = c.args.interest.now in
    let of = filter (is_of c.args.instance) r.entries in
    let is = ap firsts (c.into_iter-id-iterator.ensures.into_iter_gives ∙ c.entries-id-items.ensures.exact) ∙ keys_with r of in
    subst (λ (rest : List EntryId). Each (Loses (ids r of) rest) c.args.beside.now c.args.beside.now) (sym is) (each_start (loses_first (ids r of)))

pub loop-id-preserved : goal.loop-id-preserved
loop-id-preserved c =
    let all = ids c.args.interest.now (filter (is_of c.args.instance) c.args.interest.now.entries) in
    each_then (loses_more all c.in-Some.id (firsts c.next.new.self))
    (subst (λ (rest : List (EntryId × Entry)). Each (Loses all (firsts rest)) c.args.beside.now c.loop-id.beside) c.in-Some.ensures.steps c.loop-id.invariant)
    c.drop_places.ensures

pub returns : goal.returns
returns c =
    let all = ids c.args.interest.now (filter (is_of c.args.instance) c.args.interest.now.entries) in
    each_map (loses_all all) (subst (λ (rest : List (EntryId × Entry)). Each (Loses all (firsts rest)) c.args.beside.now c.loop-id.beside) c.in-None.ensures.steps.0 c.loop-id.invariant)
