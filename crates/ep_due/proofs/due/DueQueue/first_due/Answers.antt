use Rattle.std.proofs.Common.{◌≡◌, ◌<◌, length, ap, sym, subst, ◌∙◌, arith}
use Rattle.std.proofs.lemmas.List.{get_or_read}
use Rattle.ep_due.specs.declared.heap.Item.{Item}
use Rattle.ep_due.specs.Heap.{item_at}
use Rattle.ep_due.specs.DueQueue.{HasNoneDue, IsLeastDue}
use Rattle.ep_due.proofs.FirstLemmas.{none_due_empty, none_due_top, has_none_due, is_least_due}
use Rattle.ep_due.proofs.due.DueQueue.first_due.Goals as goal

pub returns-then-self-eq0 : goal.returns-then-self-eq0
returns-then-self-eq0 g c = subst (λ v. HasNoneDue v c.args.now) c.self.view_is (none_due_empty c.self.inside.live c.self.inside.heap.items c.self.inside.places.items c.args.now c.self.invariant c.if-self-eq0.true)

pub returns-in-Some : goal.returns-in-Some
returns-in-Some g c =
    let some : 0 < c.self.inside.live = omega arith in
    let within = c.self.invariant.within in
    let inside : 0 < length c.self.inside.heap.items = omega arith in
    let is : c.index-first.result.now ≡ item_at c.self.inside.heap.items 0 = get_or_read _ _ _ inside c.index-first.ensures _ in
    subst (λ (t : Item). IsLeastDue c.args.self.now c.args.now t.place) (sym is) (subst (λ v. IsLeastDue v c.args.now (item_at c.self.inside.heap.items 0).place) c.self.view_is (is_least_due c.self.inside.live c.self.inside.heap.items c.self.inside.places.items c.args.now c.in-Some.moment c.self.invariant some (ap (λ (t : Item). t.moment) (sym is) ∙ c.in-Some.is) c.if-moment-now.true))

pub returns-in_default : goal.returns-in_default
returns-in_default g c =
    let some : 0 < c.self.inside.live = omega arith in
    let within = c.self.invariant.within in
    let inside : 0 < length c.self.inside.heap.items = omega arith in
    let is : c.index-first.result.now ≡ item_at c.self.inside.heap.items 0 = get_or_read _ _ _ inside c.index-first.ensures _ in
    subst (λ v. HasNoneDue v c.args.now) c.self.view_is (has_none_due c.self.inside.live c.self.inside.heap.items c.self.inside.places.items c.args.now c.in-Some.moment c.self.invariant (ap (λ (t : Item). t.moment) (sym is) ∙ c.in-Some.is) c.if-moment-now.false)

pub returns-in_default-2 : goal.returns-in_default-2
returns-in_default-2 g c =
    let some : 0 < c.self.inside.live = omega arith in
    let within = c.self.invariant.within in
    let inside : 0 < length c.self.inside.heap.items = omega arith in
    let is : c.index-first.result.now ≡ item_at c.self.inside.heap.items 0 = get_or_read _ _ _ inside c.index-first.ensures _ in
    subst (λ v. HasNoneDue v c.args.now) c.self.view_is (none_due_top c.self.inside.live c.self.inside.heap.items c.self.inside.places.items c.args.now c.self.invariant (ap (λ (t : Item). t.moment) (sym is) ∙ c.in_default.is))
