use Rattle.std.proofs.Common.{◌∙◌, ℕ, Bool, List, filter, subst, sym}
use Rattle.ep_base.specs.declared.ids.EntryId.{EntryId}
use Rattle.ep_interest.specs.Registrations.{entry_under, ids, is_on, lets_in}
use Rattle.ep_kernel.proofs.BesideLemmas.{both_then, each_map, each_start, each_then}
use Rattle.ep_kernel.proofs.PushLemmas.{GainsOver, have_still, over_all, over_first, over_more}
use Rattle.ep_kernel.proofs.push.push_watchers.Goals as goal
use Rattle.ep_kernel.specs.Beside.{Each}
use Rattle.ep_rings.specs.KeyWalk.{entry_id}

pub loop-id-init : goal.loop-id-init
loop-id-init c =
    let r = c.args.interest.now in
    let all = ids r (filter (is_on c.args.desc) r.entries) in
    let q : ℕ → Bool = λ k. lets_in (entry_under r (entry_id k)) in
    subst (λ (rest : List EntryId). Each (GainsOver q all rest) c.args.beside.now c.args.beside.now) (sym (c.into_iter-id-iterator.ensures.into_iter_gives ∙ c.watchers-id-items.ensures.exact)) (each_start (over_first q all))

pub push_if_letting-requires : goal.push_if_letting-requires
push_if_letting-requires c = both_then (λ l m have over. have_still c.args.interest.now _ l m have over.gains) c.requires c.loop-id.invariant.alike

pub loop-id-preserved : goal.loop-id-preserved
loop-id-preserved c =
    let r = c.args.interest.now in
    let all = ids r (filter (is_on c.args.desc) r.entries) in
    let q : ℕ → Bool = λ k. lets_in (entry_under r (entry_id k)) in
    each_then (over_more q all c.in-Some.id c.next.new.self) (subst (λ (rest : List EntryId). Each (GainsOver q all rest) c.args.beside.now c.loop-id.beside) c.in-Some.ensures.steps c.loop-id.invariant) c.push_if_letting.ensures

pub returns : goal.returns
returns c =
    let r = c.args.interest.now in
    let all = ids r (filter (is_on c.args.desc) r.entries) in
    let q : ℕ → Bool = λ k. lets_in (entry_under r (entry_id k)) in
    each_map (over_all q all) (subst (λ (rest : List EntryId). Each (GainsOver q all rest) c.args.beside.now c.loop-id.beside) c.in-None.ensures.steps.0 c.loop-id.invariant)
