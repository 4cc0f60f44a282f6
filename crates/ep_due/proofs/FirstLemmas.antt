-- The top of a heap is its least.
use Rattle.std.proofs.Common.{◌≡◌, ℕ, zero, suc, ◌/◌, ◌<◌, ◌≤◌, List, length, MatchOption, Option, Some, None, sym, ap, ◌∙◌, subst, arith}
use Rattle.ep_due.specs.declared.heap.Item.{Item}
use Rattle.ep_due.specs.Order.{NoLater}
use Rattle.ep_due.specs.Heap.{item_at, key, index_of, IsOrdered}
use Rattle.ep_due.specs.DueQueue.{moment_in_use, moments, moment_at, IsHeap, IsLeastDue, IsLeastMoment, HasNoMoments, HasNoneDue}
use Rattle.ep_due.proofs.OrderLemmas.{no_later_same, no_later_over, some_before}
use Rattle.ep_due.proofs.ViewLemmas.{used, moments_in, in_use}

least_by : (live : ℕ) (heap : List Item) → IsOrdered live heap → (fuel i : ℕ) → i ≤ fuel → i < live → NoLater (key heap 0) (key heap i)
least_by live heap o fuel zero le l = no_later_same (key heap 0)
least_by live heap o zero (suc i) le l = absurd (omega arith)
least_by live heap o (suc fuel) (suc i) le l = no_later_over _ _ _ (least_by live heap o fuel (i / 2) (omega arith) (omega arith)) (o.order i l)

-- where a place has a moment, the top has one that is no later
pub top_before : (live : ℕ) (heap : List Item) (places : List ℕ) → IsHeap live heap places → (q m : ℕ) → moment_at (moments live heap places) q ≡ Some (Some m) → (0 < live) × ((n : ℕ) × (key heap 0 ≡ Some n) × (n ≤ m))
top_before live heap places h q m e =
    let u = used live heap places q (Some m) e in
    let inner = u.1 in
    let o : NoLater (key heap 0) (Some m) = subst (λ (v : Option ℕ). NoLater (key heap 0) v) u.2 (least_by live heap h.ordered (index_of places q) (index_of places q) (omega arith) inner) in
    (omega (arith, inner), some_before (key heap 0) m o)

pub has_none_empty : (live : ℕ) (heap : List Item) (places : List ℕ) → IsHeap live heap places → live ≡ 0 → HasNoMoments (moments live heap places)
has_none_empty live heap places h none q m e = let t = (top_before live heap places h q m e).0 in absurd (omega arith)

has_none_top : (live : ℕ) (heap : List Item) (places : List ℕ) → IsHeap live heap places → key heap 0 ≡ None → HasNoMoments (moments live heap places)
has_none_top live heap places h none q m e =
    let t = (top_before live heap places h q m e).1 in
    let f : None ≡ Some t.0 = sym none ∙ t.1 in
    absurd (cc)

top_is : (live : ℕ) (heap : List Item) (places : List ℕ) (m : ℕ) → IsHeap live heap places → 0 < live → key heap 0 ≡ Some m → moment_at (moments live heap places) (item_at heap 0).place ≡ Some (Some m)
top_is live heap places m h pos top =
    let inside : 0 < length heap = let w = h.within in omega arith in
    let own = h.paired.back 0 inside in
    moments_in live heap places (item_at heap 0).place own.0 ∙ (ap (moment_in_use live heap) own.1 ∙ (in_use live heap 0 pos ∙ ap (λ (v : Option ℕ). Some v) top))

top_least : (live : ℕ) (heap : List Item) (places : List ℕ) (m : ℕ) → IsHeap live heap places → key heap 0 ≡ Some m → (q n : ℕ) → moment_at (moments live heap places) q ≡ Some (Some n) → m ≤ n
top_least live heap places m h top q n e =
    let t = (top_before live heap places h q n e).1 in
    let f : Some t.0 ≡ Some m = sym t.1 ∙ top in
    let g : t.0 ≡ m = cc in
    omega (arith, g, t.2)

pub is_least_due : (live : ℕ) (heap : List Item) (places : List ℕ) (now m : ℕ) → IsHeap live heap places → 0 < live → key heap 0 ≡ Some m → m ≤ now → IsLeastDue (moments live heap places) now (item_at heap 0).place
is_least_due live heap places now m h pos top le = record {
  moment = m;
  its = top_is live heap places m h pos top;
  due = le;
  least = top_least live heap places m h top;
}

pub has_none_due : (live : ℕ) (heap : List Item) (places : List ℕ) (now m : ℕ) → IsHeap live heap places → key heap 0 ≡ Some m → now < m → HasNoneDue (moments live heap places) now
has_none_due live heap places now m h top late q n e =
    let t = (top_before live heap places h q n e).1 in
    let f : Some t.0 ≡ Some m = sym t.1 ∙ top in
    let g : t.0 ≡ m = cc in
    omega (arith, g, t.2, late)

pub none_due_empty : (live : ℕ) (heap : List Item) (places : List ℕ) (now : ℕ) → IsHeap live heap places → live ≡ 0 → HasNoneDue (moments live heap places) now
none_due_empty live heap places now h none q m e = absurd (has_none_empty live heap places h none q m e)

pub none_due_top : (live : ℕ) (heap : List Item) (places : List ℕ) (now : ℕ) → IsHeap live heap places → key heap 0 ≡ None → HasNoneDue (moments live heap places) now
none_due_top live heap places now h none q m e = absurd (has_none_top live heap places h none q m e)

-- the top has the least moment, and none where no place has one
pub earliest_top : (live : ℕ) (heap : List Item) (places : List ℕ) → IsHeap live heap places → 0 < live → (o : Option ℕ) → key heap 0 ≡ o → MatchOption o (HasNoMoments (moments live heap places)) (λ m. IsLeastMoment (moments live heap places) m)
earliest_top live heap places h pos None top = has_none_top live heap places h top
earliest_top live heap places h pos (Some m) top = record {
  place = (item_at heap 0).place;
  its = top_is live heap places m h pos top;
  least = top_least live heap places m h top;
}
