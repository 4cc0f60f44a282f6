use Rattle.std.proofs.Common.{◌≡◌, ◌++◌, ◌∙◌, ◌∷◌, [], List, ap, append-nil, append_assoc, map, refl, sym}
use Rattle.std.proofs.lemmas.Bool.{false≢true}
use Rattle.ep_base.specs.declared.ids.EntryId.{EntryId}
use Rattle.ep_dates.proofs.PickLemmas.{all_flagged, first_is, flagged_next}
use Rattle.ep_dates.specs.Dates.{Dates}
use Rattle.ep_rings.specs.KeyWalk.{entry_id as key_of}
use Rattle.ep_rings.specs.PlacedRows.{keys_at}
use Rattle.ep_dates.proofs.pick.first_left.Goals as goal

pub loop-id-init : goal.loop-id-init
loop-id-init c = record { whole = refl; flagged = λ k t. absurd (false≢true t) }

pub loop-id-preserved : goal.loop-id-preserved
loop-id-preserved c = record {
  whole = append_assoc c.loop-id.yielded (c.in-Some.id ∷ []) c.next.new.self ∙ (ap (λ (l : List EntryId). c.loop-id.yielded ++ l) (sym c.in-Some.ensures.steps) ∙ c.loop-id.invariant.whole);
  flagged = flagged_next c.loop-id.yielded c.in-Some.id c.args.flags.now.reached c.loop-id.invariant.flagged (sym c.has.ensures ∙ c.if-not-has.false);
}

pub returns-then-not-has-clause-some : goal.returns-then-not-has-clause-some
returns-then-not-has-clause-some c =
    let row = keys_at c.args.dates.now.rows c.args.instance.0 in
    let seen : c.into_iter-id-iterator.result ≡ map key_of row = c.into_iter-id-iterator.ensures.into_iter_gives ∙ (c.keys-id-items.ensures.exact ∙ ap (λ (d : Dates). map key_of (keys_at d.rows c.args.instance.0)) c.dates.view_is) in
    first_is row c.loop-id.yielded c.next.new.self c.in-Some.id c.args.flags.now.reached (ap (λ (l : List EntryId). c.loop-id.yielded ++ l) (sym c.in-Some.ensures.steps) ∙ (c.loop-id.invariant.whole ∙ seen)) c.loop-id.invariant.flagged
    (sym c.has.ensures ∙ c.if-not-has.true)

pub returns-clause-none : goal.returns-clause-none
returns-clause-none c =
    let row = keys_at c.args.dates.now.rows c.args.instance.0 in
    let seen : c.into_iter-id-iterator.result ≡ map key_of row = c.into_iter-id-iterator.ensures.into_iter_gives ∙ (c.keys-id-items.ensures.exact ∙ ap (λ (d : Dates). map key_of (keys_at d.rows c.args.instance.0)) c.dates.view_is) in
    let whole : c.loop-id.yielded ≡ c.into_iter-id-iterator.result =
    sym (append-nil c.loop-id.yielded) ∙ (ap (λ (l : List EntryId). c.loop-id.yielded ++ l) (sym c.in-None.ensures.steps.0) ∙ c.loop-id.invariant.whole) in
    all_flagged row c.loop-id.yielded c.args.flags.now.reached (whole ∙ seen) c.loop-id.invariant.flagged
