-- A written item, a place that ends and a place that begins.
use Rattle.std.proofs.Common.{◌≡◌, ◌≢◌, ℕ, ◌+◌, ◌<◌, ◌≤◌, List, [], ◌∷◌, ◌++◌, length, get_or, set, Option, Some, None, refl, sym, ap, ◌∙◌, subst, inl, inr, arith, length-append, IsSome, if◌then◌else◌}
use Rattle.std.proofs.lemmas.Bool.{cases_eq, cases_lt, lt-ltb, le-ltb}
use Rattle.std.proofs.lemmas.List.{get_or-set_same, get_or-set_other, get_or_append_left, ext_get_or}
use Rattle.std.proofs.Math.Seq.{get_or-append_seam}
use Rattle.ep_due.specs.declared.heap.Item.{Item}
use Rattle.ep_due.specs.Heap.{item_at, key, index_of, ArePaired, SwapsItems}
use Rattle.ep_due.specs.DueQueue.{moment_in_use, moments, moment_at, IsHeap, HasFreePlace}
use Rattle.ep_due.proofs.MapLemmas.{Extends}
use Rattle.ep_due.proofs.ViewLemmas.{used, in_use, out_of_use, same_in_use, moments_in, moments_out, moments_set, length-moments}

some_of : (o : Option (Option ℕ)) → IsSome o → (x : Option ℕ) × (o ≡ Some x)
some_of None h = absurd (cc)
some_of (Some x) h = (x, refl)

-- two places have two items
pub one_place : (heap : List Item) (places : List ℕ) → ArePaired heap places → (p q : ℕ) → p < length places → q < length places → index_of places p ≡ index_of places q → p ≡ q
one_place heap places h p q lp lq same = sym (h.forth p lp).1 ∙ (ap (λ n. (item_at heap n).place) same ∙ (h.forth q lq).1)

-- an item is another of the same place
module _ (heap : List Item) (places : List ℕ) (h : ArePaired heap places) (at : ℕ) (la : at < length heap) (t : Item) (own : t.place ≡ (item_at heap at).place) where
  abbrev with_t : List Item
  with_t = set heap at t

  t_at : item_at with_t at ≡ t
  t_at = get_or-set_same heap at t _ la

  pub other_item : (k : ℕ) → k ≢ at → item_at with_t k ≡ item_at heap k
  other_item k ne = get_or-set_other heap at k t _ ne

  pub write_moments : (live : ℕ) → at < live → moments live with_t places ≡ set (moments live heap places) t.place (Some t.moment)
  write_moments live u =
      let own_spot : index_of places t.place ≡ at = ap (index_of places) own ∙ (h.back at la).1 in
      let within : t.place < length places = subst (λ (p : ℕ). p < length places) (sym own) (h.back at la).0 in
      moments_set live live heap with_t places places t.place (Some t.moment) within refl (ap (moment_in_use live with_t) own_spot ∙ (in_use live with_t at u ∙ ap (λ (v : Item). Some v.moment) t_at)) (λ q lq ne. same_in_use live live heap with_t (index_of places q) (λ x. x) (λ x. x) (ap (λ (v : Item). v.moment) (other_item (index_of places q) (λ same. ne (one_place heap places h q t.place lq within (same ∙ sym own_spot))))))

-- the last item in use goes
pub cut_moments : (last : ℕ) (heap : List Item) (places : List ℕ) (p : ℕ) → ArePaired heap places → p < length places → index_of places p ≡ last → moments last heap places ≡ set (moments (last + 1) heap places) p None
cut_moments last heap places p h within is =
    moments_set (last + 1) last heap heap places places p None within refl (ap (moment_in_use last heap) is ∙ out_of_use last heap last (omega arith)) (λ q lq ne.
    let far : index_of places q ≢ last = (λ same. ne (one_place heap places h q p lq within (same ∙ sym is))) in
    same_in_use (last + 1) last heap heap (index_of places q) (λ u. omega (arith, u, far)) (λ u. omega (arith, u)) refl)

-- where a place's item stands after a swap
pub swapped_spot : (heap heap' : List Item) (places places' : List ℕ) (at last p : ℕ) → ArePaired heap places → ArePaired heap' places' → SwapsItems heap heap' at last → last < length heap → p < length places → at ≡ index_of places p → index_of places' p ≡ last
swapped_spot heap heap' places places' at last p h h' s l within is =
    let mine : (item_at heap' last).place ≡ p = ap (λ (t : Item). t.place) s.right ∙ (ap (λ n. (item_at heap n).place) is ∙ (h.forth p within).1) in
    ap (index_of places') (sym mine) ∙ (h'.back last (omega (arith, l, s.same))).1

pub withdraw_moments : (heap heap' : List Item) (places places' : List ℕ) (at last p : ℕ) → ArePaired heap places → ArePaired heap' places' → SwapsItems heap heap' at last → last < length heap → p < length places → at ≡ index_of places p → moments (last + 1) heap' places' ≡ moments (last + 1) heap places → moments last heap' places' ≡ set (moments (last + 1) heap places) p None
withdraw_moments heap heap' places places' at last p h h' s l within is same =
    let inside : p < length places' = omega (arith, within, l, h.same, h'.same, s.same) in
    cut_moments last heap' places' p h' inside (swapped_spot heap heap' places places' at last p h h' s l within is) ∙ ap (λ v. set v p None) same

-- an item that is not in use begins
module _ (live : ℕ) (heap : List Item) (places : List ℕ) (h : IsHeap live heap places) (room : live < length heap) (t : Item) (own : t.place ≡ (item_at heap live).place) (none : t.moment ≡ None) where
  own_spot : index_of places t.place ≡ live
  own_spot = ap (index_of places) own ∙ (h.paired.back live room).1

  within : t.place < length places
  within = subst (λ (p : ℕ). p < length places) (sym own) (h.paired.back live room).0

  reused : moments (live + 1) (set heap live t) places ≡ set (moments live heap places) t.place (Some None)
  reused = moments_set live (live + 1) heap (set heap live t) places places t.place (Some None) within refl (ap (moment_in_use (live + 1) (set heap live t)) own_spot ∙ (in_use (live + 1) (set heap live t) live (omega arith) ∙ ap (λ (o : Option ℕ). Some o) (ap (λ (v : Item). v.moment) (get_or-set_same heap live t _ room) ∙ none))) (λ q lq ne.
      let far : index_of places q ≢ live = (λ same. ne (one_place heap places h.paired q t.place lq within (same ∙ sym own_spot))) in
      same_in_use live (live + 1) heap (set heap live t) (index_of places q) (λ u. omega (arith, u)) (λ u. omega (arith, u, far)) (ap (λ (v : Item). v.moment) (get_or-set_other heap live (index_of places q) t _ far)))

  pub reuse_made : Extends (moments live heap places) (moments (live + 1) (set heap live t) places) t.place
  reuse_made =
      let n = length-moments live heap places in
      let inside : t.place < length (moments live heap places) = omega (arith, within, n) in
      record {
        free = moments_in live heap places t.place within ∙ (ap (moment_in_use live heap) own_spot ∙ out_of_use live heap live (omega arith));
        near = omega arith;
        value = reused ∙ sym (ap (λ b. if b then set (moments live heap places) t.place (Some None) else moments live heap places ++ Some None ∷ []) (lt-ltb t.place (length (moments live heap places)) inside));
      }

-- a new item of a new place
module _ (live : ℕ) (heap : List Item) (places : List ℕ) (h : IsHeap live heap places) (full : length heap ≤ live) (t : Item) (own : t.place ≡ length heap) (none : t.moment ≡ None) where
  abbrev more : List Item
  more = heap ++ t ∷ []

  abbrev longer : List ℕ
  longer = places ++ t.place ∷ []

  all : live ≡ length heap
  all = let w = h.within in omega arith

  old_item : (k : ℕ) → k < length heap → item_at more k ≡ item_at heap k
  old_item k l = get_or_append_left heap (t ∷ []) _ k l

  new_item : (k : ℕ) → k ≡ length heap → item_at more k ≡ t
  new_item k is = ap (item_at more) is ∙ get_or-append_seam heap t [] _

  old_spot : (p : ℕ) → p < length places → index_of longer p ≡ index_of places p
  old_spot p l = get_or_append_left places (t.place ∷ []) 0 p l

  new_spot : (p : ℕ) → p ≡ length places → index_of longer p ≡ t.place
  new_spot p is = ap (index_of longer) is ∙ get_or-append_seam places t.place [] 0

  view_length : length (moments live heap places) ≡ t.place
  view_length = length-moments live heap places ∙ (sym h.paired.same ∙ sym own)

  grown_in : (p : ℕ) → p < length places → moment_at (moments (live + 1) more longer) p ≡ moment_at (moments live heap places) p
  grown_in p old =
      let mine = h.paired.forth p old in
      let len' = length-append places (t.place ∷ []) in
      let a = all in
      moments_in (live + 1) more longer p (omega (arith, old, len'))
      ∙ (ap (moment_in_use (live + 1) more) (old_spot p old)
      ∙ (same_in_use live (live + 1) heap more (index_of places p) (λ u. omega (arith, u)) (λ u. omega (arith, mine.0, a)) (ap (λ (v : Item). v.moment) (old_item (index_of places p) mine.0))
      ∙ sym (moments_in live heap places p old)))

  grown_at : (p : ℕ) → p ≡ length places → moment_at (moments (live + 1) more longer) p ≡ Some None
  grown_at p is =
      let len' = length-append places (t.place ∷ []) in
      let a = all in
      moments_in (live + 1) more longer p (omega (arith, is, len'))
      ∙ (ap (moment_in_use (live + 1) more) (new_spot p is)
      ∙ (in_use (live + 1) more t.place (omega (arith, own, a))
      ∙ ap (λ (o : Option ℕ). Some o) (ap (λ (v : Item). v.moment) (new_item t.place own) ∙ none)))

  grown : moments (live + 1) more longer ≡ moments live heap places ++ Some None ∷ []
  grown =
      let n = length-moments live heap places in
      let n' = length-moments (live + 1) more longer in
      let len' = length-append places (t.place ∷ []) in
      let m' = length-append (moments live heap places) (Some None ∷ []) in
      ext_get_or None (moments (live + 1) more longer) (moments live heap places ++ Some None ∷ []) (omega (arith, n, n', len', m')) (λ p l. elim (cases_lt p (length places)) [
        | inl old ↦ grown_in p old ∙ sym (get_or_append_left (moments live heap places) (Some None ∷ []) None p (omega (arith, old, n)))
        | inr new ↦
            let is : p ≡ length places = omega (arith, new, l, n', len') in
            grown_at p is ∙ (sym (get_or-append_seam (moments live heap places) (Some None) [] None) ∙ ap (λ k. get_or (moments live heap places ++ Some None ∷ []) k None) (n ∙ sym is))
      ])

  pub grow_made : Extends (moments live heap places) (moments (live + 1) more longer) t.place
  grow_made =
      let n = view_length in
      record {
        free = moments_out live heap places t.place (let s = h.paired.same in omega arith);
        near = omega arith;
        value = grown ∙ sym (ap (λ b. if b then set (moments live heap places) t.place (Some None) else moments live heap places ++ Some None ∷ []) (le-ltb t.place (length (moments live heap places)) (omega arith)));
      }

-- a place that has a state has an item in use
pub used_by : (live : ℕ) (heap : List Item) (places : List ℕ) (p : ℕ) → IsSome (moment_at (moments live heap places) p) → (p < length places) × (index_of places p < live)
used_by live heap places p h =
    let s = some_of (moment_at (moments live heap places) p) h in
    let u = used live heap places p s.0 s.1 in
    (u.0, u.1)

-- the same, where the two lists are known by equations
pub grow_made_by : (live : ℕ) (heap heap' : List Item) (places places' : List ℕ) (p : ℕ) → IsHeap live heap places → length heap ≤ live → p ≡ length heap → heap' ≡ heap ++ record { moment = None; place = p } ∷ [] → places' ≡ places ++ p ∷ [] → Extends (moments live heap places) (moments (live + 1) heap' places') p
grow_made_by live heap heap' places places' p h full own eh ep =
    subst (λ (xs : List Item). Extends (moments live heap places) (moments (live + 1) xs places') p) (sym eh)
    (subst (λ (ys : List ℕ). Extends (moments live heap places) (moments (live + 1) (heap ++ record { moment = None; place = p } ∷ []) ys) p) (sym ep)
    (grow_made live heap places h full (record { moment = None; place = p }) own refl))

pub put_moments : (live : ℕ) (heap : List Item) (places : List ℕ) (p at : ℕ) (m : Option ℕ) → ArePaired heap places → live ≤ length heap → p < length places → index_of places p < live → at ≡ index_of places p → moments live (set heap at (record { moment = m; place = p })) places ≡ set (moments live heap places) p (Some m)
put_moments live heap places p at m h within known inner is =
    write_moments heap places h at (omega arith) (record { moment = m; place = p }) (sym (ap (λ n. (item_at heap n).place) is ∙ (h.forth p known).1)) live (omega arith)

-- where each item is in use, no place is free
pub none_free : (live : ℕ) (heap : List Item) (places : List ℕ) → IsHeap live heap places → length heap ≤ live → HasFreePlace (moments live heap places) → ⊥
none_free live heap places h full f =
    let n = length-moments live heap places in
    let inside : f.0 < length places = omega (arith, f.1, n) in
    let mine = (h.paired.forth f.0 inside).0 in
    let inner : index_of places f.0 < live = omega (arith, mine) in
    let e : Some (key heap (index_of places f.0)) ≡ None = sym (in_use live heap (index_of places f.0) inner) ∙ (sym (moments_in live heap places f.0 inside) ∙ f.2) in
    absurd (cc)
