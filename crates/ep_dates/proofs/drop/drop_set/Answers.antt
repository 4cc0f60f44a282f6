use Rattle.std.proofs.Common.{◌≡◌, ◌++◌, ◌∙◌, List, ap, append-nil, filter, refl, subst, sym}
use Rattle.ep_base.specs.declared.ids.EntryId.{EntryId}
use Rattle.ep_dates.proofs.DropLemmas.{firsts, firsts_on, keys_in_pairs, listed_all, listed_none, paired_next}
use Rattle.ep_dates.specs.Drop.{Drops, is_in, is_in_found}
use Rattle.ep_interest.specs.Passes.{has_id}
use Rattle.ep_interest.specs.Registrations.{ids, is_of}
use Rattle.ep_interest.specs.declared.entry.Entry.{Entry}
use Rattle.ep_dates.proofs.drop.drop_set.Goals as goal

pub loop-id-init : goal.loop-id-init
loop-id-init c = record { whole = refl; drops = listed_none c.args.interest.now c.args.dates.now c.requires }

pub drop_one-requires : goal.drop_one-requires
drop_one-requires c = c.loop-id.invariant.drops.kept

pub loop-id-preserved : goal.loop-id-preserved
loop-id-preserved c = record {
  whole = firsts_on c.args.interest.now c.loop-id.yielded (c.in-Some.id, c.in-Some.field-0-1) (firsts c.next.new.self) ∙ (ap (λ (l : List (EntryId × Entry)). firsts c.loop-id.yielded ++ firsts l) (sym c.in-Some.ensures.steps) ∙ c.loop-id.invariant.whole);
  drops = paired_next c.args.interest.now c.loop-id.yielded (c.in-Some.id, c.in-Some.field-0-1) c.args.dates.now c.loop-id.dates c.drop_one.new.dates c.loop-id.invariant.drops c.drop_one.ensures;
}

pub returns : goal.returns
returns c =
    let r = c.args.interest.now in
    let listed : List EntryId = ids r (filter (is_of c.args.instance) r.entries) in
    let whole : firsts c.loop-id.yielded ≡ firsts c.into_iter-id-iterator.result =
    sym (append-nil (firsts c.loop-id.yielded)) ∙ (ap (λ (l : List (EntryId × Entry)). firsts c.loop-id.yielded ++ firsts l) (sym c.in-None.ensures.steps.0) ∙ c.loop-id.invariant.whole) in
    let all : firsts c.loop-id.yielded ≡ listed = whole ∙ (ap (λ (l : List (EntryId × Entry)). firsts l) (c.into_iter-id-iterator.ensures.into_iter_gives ∙ c.entries-id-items.ensures.exact) ∙ keys_in_pairs r (filter (is_of c.args.instance) r.entries)) in
    listed_all r c.known.ensures (is_of c.args.instance) (is_in r c.args.instance.0) c.args.dates.now c.loop-id.dates (λ id x at. ap (is_in_found c.args.instance.0) at)
    (subst (λ (l : List EntryId). Drops r (has_id l) c.args.dates.now c.loop-id.dates) all c.loop-id.invariant.drops)
