use Rattle.std.proofs.Common.{List, MatchOption, Option, ◌≡◌, ◌<◌, length, ap, sym, subst, arith, ℕ}
use Rattle.std.proofs.lemmas.List.{get_or_read}
use Rattle.ep_due.specs.declared.heap.Item.{Item}
use Rattle.ep_due.specs.Heap.{item_at}
use Rattle.ep_due.specs.DueQueue.{HasNoMoments, IsLeastMoment}
use Rattle.ep_due.proofs.FirstLemmas.{earliest_top, has_none_empty}
use Rattle.ep_due.proofs.due.DueQueue.earliest.Goals as goal

pub returns-then-self-eq0 : goal.returns-then-self-eq0
returns-then-self-eq0 g c = subst HasNoMoments c.self.view_is (has_none_empty c.self.inside.live c.self.inside.heap.items c.self.inside.places.items c.self.invariant c.if-self-eq0.true)

pub returns : goal.returns
returns g c =
    let P : List (Option (Option ℕ)) → Type 0 = λ v. MatchOption c.index-top.result.now.moment (HasNoMoments v) (λ m. IsLeastMoment v m) in
    let some : 0 < c.self.inside.live = omega arith in
    let within = c.self.invariant.within in
    let inside : 0 < length c.self.inside.heap.items = omega arith in
    let is : c.index-top.result.now ≡ item_at c.self.inside.heap.items 0 = get_or_read _ _ _ inside c.index-top.ensures _ in
    subst P c.self.view_is (earliest_top c.self.inside.live c.self.inside.heap.items c.self.inside.places.items c.self.invariant some c.index-top.result.now.moment (ap (λ (t : Item). t.moment) (sym is)))
