use Rattle.std.proofs.Common.{rules, subst}
use Rattle.std.specs.BTreeMap.Range.{IsRangeOf}
use Rattle.std.specs.declared.ops.Bound.TheVariants.{Included}
use Rattle.ep_park.specs.Queue.{place_at, place_cmp}
use Rattle.ep_park.specs.declared.place.Place.{Place}
use Rattle.ep_park.proofs.place.places_of.Goals as goal

pub returns : goal.returns
returns g c =
    let m = c.args.places.now in
    let r = c.range.result in
    let end = place_at c.args.instance.0 c.args.last in
    subst (λ (p : Place). IsRangeOf place_cmp (Included p) (Included end) m r) c.new-first.ensures
    (subst (λ (p : Place). IsRangeOf place_cmp (Included c.new-first.result) (Included p) m r) c.new-end.ensures
    (subst (λ (p : Place). IsRangeOf place_cmp (Included p) (Included c.new-end.result) m r) c.new.ensures.start
    (subst (λ (p : Place). IsRangeOf place_cmp (Included c.new.result.start) (Included p) m r) c.new.ensures.end (c.range.ensures.in_range (search rules)))))
