use Rattle.std.proofs.Common.{◌≡◌, ◌++◌, ◌∙◌, ◌∷◌, [], List, ap, append-nil, append_assoc, filter, refl, subst, sym}
use Rattle.ep_base.specs.declared.ids.EntryId.{EntryId}
use Rattle.ep_dates.proofs.DropLemmas.{listed_all, listed_next, listed_none}
use Rattle.ep_dates.specs.Ask.{is_on, watches}
use Rattle.ep_dates.specs.Drop.{Drops}
use Rattle.ep_interest.specs.Passes.{has_id}
use Rattle.ep_interest.specs.Registrations.{ids, is_on as watches_at}
use Rattle.ep_dates.proofs.drop.drop_watchers.Goals as goal

pub loop-id-init : goal.loop-id-init
loop-id-init c = record { whole = refl; drops = listed_none c.args.interest.now c.args.dates.now c.requires }

pub drop_one-requires : goal.drop_one-requires
drop_one-requires c = c.loop-id.invariant.drops.kept

pub loop-id-preserved : goal.loop-id-preserved
loop-id-preserved c = record {
  whole = append_assoc c.loop-id.yielded (c.in-Some.id ∷ []) c.next.new.self ∙ (ap (λ (l : List EntryId). c.loop-id.yielded ++ l) (sym c.in-Some.ensures.steps) ∙ c.loop-id.invariant.whole);
  drops = listed_next c.args.interest.now c.loop-id.yielded c.in-Some.id c.args.dates.now c.loop-id.dates c.drop_one.new.dates c.loop-id.invariant.drops c.drop_one.ensures;
}

pub returns : goal.returns
returns c =
    let r = c.args.interest.now in
    let whole : c.loop-id.yielded ≡ c.into_iter-id-iterator.result =
    sym (append-nil c.loop-id.yielded) ∙ (ap (λ (l : List EntryId). c.loop-id.yielded ++ l) (sym c.in-None.ensures.steps.0) ∙ c.loop-id.invariant.whole) in
    let all : c.loop-id.yielded ≡ ids r (filter (watches_at c.args.desc) r.entries) = whole ∙ (c.into_iter-id-iterator.ensures.into_iter_gives ∙ c.watchers-id-items.ensures.exact) in
    listed_all r c.known.ensures (watches_at c.args.desc) (watches r c.args.desc.0) c.args.dates.now c.loop-id.dates (λ id x at. ap (is_on c.args.desc.0) at)
    (subst (λ (l : List EntryId). Drops r (has_id l) c.args.dates.now c.loop-id.dates) all c.loop-id.invariant.drops)
