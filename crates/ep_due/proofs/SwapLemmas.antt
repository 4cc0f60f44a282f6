-- Two items change places.
use Rattle.std.proofs.Common.{◌≡◌, ◌≢◌, ℕ, ◌<◌, List, length, set, Some, sym, ap, ◌∙◌, subst, inl, inr, arith, length-set}
use Rattle.std.proofs.lemmas.Bool.{cases_eq}
use Rattle.std.proofs.lemmas.List.{get_or-set_same, get_or-set_other}
use Rattle.ep_due.specs.declared.heap.Item.{Item}
use Rattle.ep_due.specs.Heap.{item_at, index_of, ArePaired}
use Rattle.ep_due.specs.DueQueue.{moment_in_use, moments}
use Rattle.ep_due.proofs.ViewLemmas.{in_use, same_in_use, moments_same}

-- an item of the same place is the same
pub one_spot : (heap : List Item) (places : List ℕ) → ArePaired heap places → (i j : ℕ) → i < length heap → j < length heap → (item_at heap i).place ≡ (item_at heap j).place → i ≡ j
one_spot heap places h i j li lj same = sym (h.back i li).1 ∙ (ap (index_of places) same ∙ (h.back j lj).1)

module _ (heap : List Item) (places : List ℕ) (h : ArePaired heap places) (i j : ℕ) (li : i < length heap) (lj : j < length heap) (a b : Item) (a_is : a ≡ item_at heap i) (b_is : b ≡ item_at heap j) where
  pub place_a_within : a.place < length places
  place_a_within = subst (λ (t : Item). t.place < length places) (sym a_is) (h.back i li).0

  pub place_b_within : b.place < length places
  place_b_within = subst (λ (t : Item). t.place < length places) (sym b_is) (h.back j lj).0

  spot_a : index_of places a.place ≡ i
  spot_a = ap (λ (t : Item). index_of places t.place) a_is ∙ (h.back i li).1

  spot_b : index_of places b.place ≡ j
  spot_b = ap (λ (t : Item). index_of places t.place) b_is ∙ (h.back j lj).1

  abbrev heap' : List Item
  heap' = set (set heap i b) j a

  abbrev places' : List ℕ
  places' = set (set places b.place i) a.place j

  len' : length heap' ≡ length heap
  len' = length-set (set heap i b) j a ∙ length-set heap i b

  long' : length places' ≡ length places
  long' = length-set (set places b.place i) a.place j ∙ length-set places b.place i

  item_j : item_at heap' j ≡ a
  item_j = get_or-set_same (set heap i b) j a _ (omega (arith, lj, length-set heap i b))

  item_i : i ≢ j → item_at heap' i ≡ b
  item_i ne = get_or-set_other (set heap i b) j i a _ ne ∙ get_or-set_same heap i b _ li

  item_k : (k : ℕ) → k ≢ i → k ≢ j → item_at heap' k ≡ item_at heap k
  item_k k ni nj = get_or-set_other (set heap i b) j k a _ nj ∙ get_or-set_other heap i k b _ ni

  at_a : index_of places' a.place ≡ j
  at_a = get_or-set_same (set places b.place i) a.place j 0 (omega (arith, place_a_within, length-set places b.place i))

  at_b : b.place ≢ a.place → index_of places' b.place ≡ i
  at_b ne = get_or-set_other (set places b.place i) a.place b.place j 0 ne ∙ get_or-set_same places b.place i 0 place_b_within

  at_p : (p : ℕ) → p ≢ a.place → p ≢ b.place → index_of places' p ≡ index_of places p
  at_p p na nb = get_or-set_other (set places b.place i) a.place p j 0 na ∙ get_or-set_other places b.place p i 0 nb

  apart : i ≢ j → b.place ≢ a.place
  apart ne same = ne (sym spot_a ∙ (ap (index_of places) (sym same) ∙ spot_b))

  apart' : b.place ≢ a.place → i ≢ j
  apart' ne same = ne (ap (λ (t : Item). t.place) (b_is ∙ (ap (item_at heap) (sym same) ∙ sym a_is)))

  spot_not_i : (p : ℕ) → p < length places → p ≢ a.place → index_of places p ≢ i
  spot_not_i p l na same = na (sym (h.forth p l).1 ∙ (ap (λ n. (item_at heap n).place) same ∙ ap (λ (t : Item). t.place) (sym a_is)))

  spot_not_j : (p : ℕ) → p < length places → p ≢ b.place → index_of places p ≢ j
  spot_not_j p l nb same = nb (sym (h.forth p l).1 ∙ (ap (λ n. (item_at heap n).place) same ∙ ap (λ (t : Item). t.place) (sym b_is)))

  back_at : (k : ℕ) (t : Item) → item_at heap' k ≡ t → t.place < length places → index_of places' t.place ≡ k → ((item_at heap' k).place < length places') × (index_of places' (item_at heap' k).place ≡ k)
  back_at k t e w s = subst (λ (u : Item). (u.place < length places') × (index_of places' u.place ≡ k)) (sym e) (omega (arith, w, long'), s)

  forth_at : (p k : ℕ) (t : Item) → index_of places' p ≡ k → k < length heap → item_at heap' k ≡ t → t.place ≡ p → (index_of places' p < length heap') × ((item_at heap' (index_of places' p)).place ≡ p)
  forth_at p k t e l is s = subst (λ (n : ℕ). (n < length heap') × ((item_at heap' n).place ≡ p)) (sym e) (omega (arith, l, len'), ap (λ (u : Item). u.place) is ∙ s)

  pub swap_paired : ArePaired heap' places'
  swap_paired = record {
    same = len' ∙ (h.same ∙ sym long');
    back = λ k l. elim (cases_eq k j) [
      | inl is ↦ back_at k a (ap (item_at heap') is ∙ item_j) place_a_within (at_a ∙ sym is)
      | inr nj ↦ elim (cases_eq k i) [
        | inl is ↦ let ne : i ≢ j = (λ same. nj (is ∙ same)) in back_at k b (ap (item_at heap') is ∙ item_i ne) place_b_within (at_b (apart ne) ∙ sym is)
        | inr ni ↦
            let lk : k < length heap = omega (arith, l, len') in
            let own = h.back k lk in
            let na : (item_at heap k).place ≢ a.place = (λ same. ni (one_spot heap places h k i lk li (same ∙ ap (λ (t : Item). t.place) a_is))) in
            let nb : (item_at heap k).place ≢ b.place = (λ same. nj (one_spot heap places h k j lk lj (same ∙ ap (λ (t : Item). t.place) b_is))) in
            back_at k (item_at heap k) (item_k k ni nj) own.0 (at_p (item_at heap k).place na nb ∙ own.1)
      ]
    ];
    forth = λ p l. elim (cases_eq p a.place) [
      | inl is ↦ forth_at p j a (ap (index_of places') is ∙ at_a) lj item_j (sym is)
      | inr na ↦ elim (cases_eq p b.place) [
        | inl is ↦
            let ne : b.place ≢ a.place = (λ same. na (is ∙ same)) in
            forth_at p i b (ap (index_of places') is ∙ at_b ne) li (item_i (apart' ne)) (sym is)
        | inr nb ↦
            let lp : p < length places = omega (arith, l, long') in
            let own = h.forth p lp in
            forth_at p (index_of places p) (item_at heap (index_of places p)) (at_p p na nb) own.0 (item_k (index_of places p) (spot_not_i p lp na) (spot_not_j p lp nb)) own.1
      ]
    ];
  }

  module _ (live : ℕ) (ui : i < live) (uj : j < live) where
    moved : (p : ℕ) → p < length places → moment_in_use live heap' (index_of places' p) ≡ moment_in_use live heap (index_of places p)
    moved p l = elim (cases_eq p a.place) [
      | inl is ↦
          ap (λ k. moment_in_use live heap' (index_of places' k)) is
          ∙ (ap (moment_in_use live heap') at_a
          ∙ (in_use live heap' j uj
          ∙ (ap (λ (t : Item). Some t.moment) (item_j ∙ a_is)
          ∙ (sym (in_use live heap i ui)
          ∙ (ap (moment_in_use live heap) (sym spot_a)
          ∙ ap (λ k. moment_in_use live heap (index_of places k)) (sym is))))))
      | inr na ↦ elim (cases_eq p b.place) [
        | inl is ↦
            let ne : b.place ≢ a.place = (λ same. na (is ∙ same)) in
            ap (λ k. moment_in_use live heap' (index_of places' k)) is
            ∙ (ap (moment_in_use live heap') (at_b ne)
            ∙ (in_use live heap' i ui
            ∙ (ap (λ (t : Item). Some t.moment) (item_i (apart' ne) ∙ b_is)
            ∙ (sym (in_use live heap j uj)
            ∙ (ap (moment_in_use live heap) (sym spot_b)
            ∙ ap (λ k. moment_in_use live heap (index_of places k)) (sym is))))))
        | inr nb ↦ ap (moment_in_use live heap') (at_p p na nb) ∙ same_in_use live live heap heap' (index_of places p) (λ u. u) (λ u. u) (ap (λ (t : Item). t.moment) (item_k (index_of places p) (spot_not_i p l na) (spot_not_j p l nb)))
      ]
    ]

    pub swap_moments : moments live heap' places' ≡ moments live heap places
    swap_moments = moments_same live live heap heap' places places' long' moved
