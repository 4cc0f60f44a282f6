-- What stands in the view at a place.
use Rattle.std.proofs.Common.{◌≡◌, ◌≢◌, ℕ, ◌<◌, ◌≤◌, List, length, get_or, set, Option, Some, None, sym, ap, ◌∙◌, inl, inr, arith, length-set, if◌then◌else◌}
use Rattle.std.proofs.lemmas.Bool.{cases_eq, cases_lt, lt-ltb, le-ltb}
use Rattle.std.proofs.lemmas.List.{get_or-map, length-map, get_or_past, get_or-set_same, get_or-set_other, ext_get_or}
use Rattle.ep_due.specs.declared.heap.Item.{Item}
use Rattle.ep_due.specs.Heap.{key, index_of}
use Rattle.ep_due.specs.DueQueue.{moment_in_use, moments, moment_at}

pub in_use : (live : ℕ) (heap : List Item) (i : ℕ) → i < live → moment_in_use live heap i ≡ Some (key heap i)
in_use live heap i l = ap (λ b. if b then Some (key heap i) else None) (lt-ltb i live l)

pub out_of_use : (live : ℕ) (heap : List Item) (i : ℕ) → live ≤ i → moment_in_use live heap i ≡ None
out_of_use live heap i l = ap (λ b. if b then Some (key heap i) else None) (le-ltb i live l)

-- the view of an item depends on its moment and on whether it is in use
pub same_in_use : (live live' : ℕ) (heap heap' : List Item) (i : ℕ) → (i < live → i < live') → (i < live' → i < live) → key heap' i ≡ key heap i → moment_in_use live' heap' i ≡ moment_in_use live heap i
same_in_use live live' heap heap' i f g e = elim (cases_lt i live) [
  | inl l ↦ in_use live' heap' i (f l) ∙ (ap (λ (o : Option ℕ). Some o) e ∙ sym (in_use live heap i l))
  | inr n ↦ elim (cases_lt i live') [
    | inl l' ↦ let u = g l' in absurd (omega (arith, u, n))
    | inr n' ↦ out_of_use live' heap' i n' ∙ sym (out_of_use live heap i n)
  ]
]

pub moments_in : (live : ℕ) (heap : List Item) (places : List ℕ) (p : ℕ) → p < length places → moment_at (moments live heap places) p ≡ moment_in_use live heap (index_of places p)
moments_in live heap places p l = get_or-map (moment_in_use live heap) places p 0 None l

pub length-moments : (live : ℕ) (heap : List Item) (places : List ℕ) → length (moments live heap places) ≡ length places
length-moments live heap places = length-map places (moment_in_use live heap)

pub moments_out : (live : ℕ) (heap : List Item) (places : List ℕ) (p : ℕ) → length places ≤ p → moment_at (moments live heap places) p ≡ None
moments_out live heap places p l = get_or_past (moments live heap places) p None (omega (arith, l, length-moments live heap places))

-- a place with a state has an item in use
pub used : (live : ℕ) (heap : List Item) (places : List ℕ) (p : ℕ) (x : Option ℕ) → moment_at (moments live heap places) p ≡ Some x → (p < length places) × (index_of places p < live) × (key heap (index_of places p) ≡ x)
used live heap places p x e = elim (cases_lt p (length places)) [
  | inl l ↦ elim (cases_lt (index_of places p) live) [
    | inl u ↦ let f : Some (key heap (index_of places p)) ≡ Some x = sym (in_use live heap (index_of places p) u) ∙ (sym (moments_in live heap places p l) ∙ e) in (l, u, cc)
    | inr n ↦ absurd (let f : None ≡ Some x = sym (out_of_use live heap (index_of places p) n) ∙ (sym (moments_in live heap places p l) ∙ e) in cc)
  ]
  | inr n ↦ absurd (let f : None ≡ Some x = sym (moments_out live heap places p n) ∙ e in cc)
]

pub moments_same : (live live' : ℕ) (heap heap' : List Item) (places places' : List ℕ) → length places' ≡ length places → ((p : ℕ) → p < length places → moment_in_use live' heap' (index_of places' p) ≡ moment_in_use live heap (index_of places p)) → moments live' heap' places' ≡ moments live heap places
moments_same live live' heap heap' places places' long same =
    let n = length-moments live heap places in
    let n' = length-moments live' heap' places' in
    ext_get_or None (moments live' heap' places') (moments live heap places) (n' ∙ (long ∙ sym n)) (λ p l.
    let here : p < length places = omega (arith, l, n', long) in
    moments_in live' heap' places' p (omega (arith, here, long)) ∙ (same p here ∙ sym (moments_in live heap places p here)))

pub moments_set : (live live' : ℕ) (heap heap' : List Item) (places places' : List ℕ) (p : ℕ) (x : Option (Option ℕ)) → p < length places → length places' ≡ length places → moment_in_use live' heap' (index_of places' p) ≡ x → ((q : ℕ) → q < length places → q ≢ p → moment_in_use live' heap' (index_of places' q) ≡ moment_in_use live heap (index_of places q)) → moments live' heap' places' ≡ set (moments live heap places) p x
moments_set live live' heap heap' places places' p x within long here others =
    let n = length-moments live heap places in
    let n' = length-moments live' heap' places' in
    ext_get_or None (moments live' heap' places') (set (moments live heap places) p x) (n' ∙ (long ∙ (sym n ∙ sym (length-set (moments live heap places) p x)))) (λ q l.
    let inside : q < length places = omega (arith, l, n', long) in
    moments_in live' heap' places' q (omega (arith, inside, long)) ∙ elim (cases_eq q p) [
      | inl is ↦ ap (λ k. moment_in_use live' heap' (index_of places' k)) is ∙ (here ∙ (sym (get_or-set_same (moments live heap places) p x None (omega (arith, within, n))) ∙ ap (λ k. get_or (set (moments live heap places) p x) k None) (sym is)))
      | inr ne ↦ others q inside ne ∙ (sym (moments_in live heap places q inside) ∙ sym (get_or-set_other (moments live heap places) p q x None ne))
    ])
