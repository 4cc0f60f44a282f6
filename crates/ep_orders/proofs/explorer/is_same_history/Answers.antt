use Rattle.std.proofs.Common.{◌≡◌, ◌∙◌, Some, arith, slice_get, sym}
use Rattle.std.proofs.lemmas.List.{take_more_same}
use Rattle.std.proofs.lemmas.Option.{get_or_from_slice_get, slice_get_within}
use Rattle.ep_records.specs.Past.{whole}
use Rattle.ep_orders.proofs.ExplorerLemmas.{numbered_some}
use Rattle.ep_orders.proofs.explorer.is_same_history.Goals as goal

pub loop-place-preserved : goal.loop-place-preserved
loop-place-preserved c =
    let n = c.loop-place.place in
    let x = c.in-Some-Some.x in
    let y = c.in-Some-Some.y in
    let here : slice_get (whole c.args.a.now) n ≡ Some x = numbered_some c.args.a.now n x (sym c.numbered.ensures.here ∙ c.in-Some-Some.is-0) in
    let there : slice_get (whole c.args.b.now) n ≡ Some y = numbered_some c.args.b.now n y (sym c.numbered-in-loop-place.ensures.here ∙ c.in-Some-Some.is-1) in
    let same : x ≡ y = c.in_ok-same.ensures c.if-not-same.false in
    let below = slice_get_within (whole c.args.a.now) n x here in
    let under = slice_get_within (whole c.args.b.now) n y there in (
      take_more_same (whole c.args.a.now) (whole c.args.b.now) n x below under c.loop-place.invariant.0
          (get_or_from_slice_get (whole c.args.a.now) n x x here ∙ (same ∙ sym (get_or_from_slice_get (whole c.args.b.now) n y x there))),
      omega (arith, below),
      omega (arith, under),
    )
