-- A description dies.
use Rattle.std.proofs.Common.{Bool, List, None, Option, Some, [], ap, arith, false, get_or, inl, inr, is_some, length, refl, slice_set, suc, sym, true, zero, ℕ, ◌+◌, ◌==◌, ◌∙◌, ◌∷◌, ◌≡◌, ◌≢◌, ◌⊎◌, ◌||◌, if◌then◌else◌}
use Rattle.std.specs.List.{list_any}
use Rattle.std.proofs.lemmas.Bool.{cases_Bool}
use Rattle.std.proofs.lemmas.List.{get_or_past}
use Rattle.std.proofs.lemmas.List.FromFn.{get_or-map-range_with_len}
use Rattle.ep_facts.proofs.ListFacts.{set_set}
use Rattle.ep_facts.proofs.NatFacts.{below_or, same_or_not, same_test, test_apart}
use Rattle.ep_base.specs.declared.ids.DescId.{DescId}
use Rattle.ep_base.specs.declared.object.End.{End}
use Rattle.ep_base.specs.declared.object.End.TheVariants.{First, Second}
use Rattle.ep_machine.specs.Files.{Place}
use Rattle.ep_machine.specs.Lists.{numbered}
use Rattle.ep_machine.specs.Objects.{Object, close_end, is_waiting}
use Rattle.ep_table.specs.ByNumber.{NumberedBy, with_by}
use Rattle.ep_table.specs.Closing.{closed_in, closed_slot, kept_if, other_key, opposite, remains}
use Rattle.ep_table.specs.Stored.{AllBacked, AllOwned, Backs, Owns, key_at as end_key, number_in, object_in, object_number_in, objects, place_in, places}
use Rattle.ep_table.specs.declared.words.Description.{Description}
use Rattle.ep_table.specs.declared.words.Shared.{Shared}
use Rattle.ep_table.proofs.ByNumberLemmas.{Has, content_there, contents_length, contents_next, has_or, next_here, next_other, numbered_next, value_in, with_found, with_none}

-- Lists with their numbers.
pub any_numbered : (f : Place → Bool) (j i : ℕ) (xs : List (Option Place)) (p : Place) → get_or xs i None ≡ Some p → f p ≡ true → list_any (λ y. f y.1) (numbered j xs) ≡ true
any_numbered f j i [] p h t = absurd cc
any_numbered f j zero (None ∷ xs) p h t = absurd cc
any_numbered f j zero (Some x ∷ xs) p h t = let e : x ≡ p = cc in rw (ap f e ∙ t)
any_numbered f j (suc i) (None ∷ xs) p h t = any_numbered f (j + 1) i xs p h t
any_numbered f j (suc i) (Some x ∷ xs) p h t = let r = any_numbered f (j + 1) i xs p h t in elim (cases_Bool (f x)) [ inl e ↦ rw e | inr e ↦ rw (e, r) ]

pub none_numbered : (f : Place → Bool) (j : ℕ) (xs : List (Option Place)) → ((i : ℕ) (p : Place) → get_or xs i None ≡ Some p → f p ≡ false) → list_any (λ y. f y.1) (numbered j xs) ≡ false
none_numbered f j [] h = refl
none_numbered f j (None ∷ xs) h = none_numbered f (j + 1) xs (λ i p e. h (suc i) p e)
none_numbered f j (Some x ∷ xs) h = rw (h zero x refl) (none_numbered f (j + 1) xs (λ i p e. h (suc i) p e))

pub less_numbered : {A : Type 0} (j i : ℕ) (xs : List (Option A)) (p : A) → get_or xs i None ≡ Some p → length (numbered j (slice_set xs i None)) + 1 ≡ length (numbered j xs)
less_numbered j i [] p h = absurd cc
less_numbered j zero (None ∷ xs) p h = absurd cc
less_numbered j zero (Some x ∷ xs) p h = omega arith
less_numbered j (suc i) (None ∷ xs) p h = less_numbered (j + 1) i xs p h
less_numbered j (suc i) (Some x ∷ xs) p h = omega (arith, less_numbered (j + 1) i xs p h)

-- what stands under a number stands under a key
pub contents_has : (slots : List (Option Description)) (n : ℕ) → NumberedBy number_in slots n → (i : ℕ) (p : Place) → get_or (places slots n) i None ≡ Some p → (h : Has number_in place_in slots i) × (place_in h.it ≡ p)
contents_has slots n num i p e = elim (below_or i n) [
  | inl lt ↦
      let at = get_or-map-range_with_len (with_by number_in place_in slots) 0 n i i None lt (omega arith) in
      elim (has_or number_in place_in slots i) [
        | inl h ↦
            let f = with_found number_in place_in slots num.one h.key h.it h.is in
            let g : with_by number_in place_in slots i ≡ Some (place_in h.it) = ap (λ (k : ℕ). with_by number_in place_in slots k) (sym h.num) ∙ f in
            let q : Some p ≡ Some (place_in h.it) = sym e ∙ (at ∙ g) in
            (h, cc)
        | inr l ↦ let g = with_none number_in place_in slots i l in let q : Some p ≡ None = sym e ∙ (at ∙ g) in absurd cc
      ]
  | inr le ↦ let g = get_or_past (places slots n) i None (omega (arith, contents_length number_in place_in slots n)) in absurd (let q : Some p ≡ None = sym e ∙ g in cc)
]

end_or : (a b : End) → (b ≡ a) ⊎ (b ≡ opposite a)
end_or First First = inl refl
end_or First Second = inr refl
end_or Second First = inr refl
end_or Second Second = inl refl

pub opposite_apart : (a : End) → opposite a ≡ a → ⊥
opposite_apart First h = cc
opposite_apart Second h = cc

pub other_is : (s : Shared) (e : End) → end_key s (opposite e) ≡ other_key s e
other_is s First = refl
other_is s Second = refl

closed_other : (s : Shared) (e : End) → end_key (closed_in s e) (opposite e) ≡ end_key s (opposite e)
closed_other s First = refl
closed_other s Second = refl

closed_own : (s : Shared) (e : End) → end_key (closed_in s e) e ≡ None
closed_own s First = refl
closed_own s Second = refl

pub closed_number : (s : Shared) (e : End) → (closed_in s e).number ≡ s.number
closed_number s First = refl
closed_number s Second = refl

pub closed_object : (s : Shared) (e : End) → (closed_in s e).object ≡ (close_end s.object e).0
closed_object s First = refl
closed_object s Second = refl

pub kept_number : (b : Bool) (s : Shared) (e : End) (t : Shared) → kept_if b (closed_in s e) ≡ Some t → object_number_in t ≡ object_number_in s
kept_number false s e t h = absurd cc
kept_number true s e t h = let q : closed_in s e ≡ t = cc in sym (ap object_number_in q) ∙ closed_number s e

pub kept_value : (b : Bool) (s : Shared) (e : End) → value_in object_number_in object_in (kept_if b (closed_in s e)) ≡ (if b then Some (close_end s.object e).0 else None)
kept_value false s e = refl
kept_value true s e = ap (λ (x : Object). Some x) (closed_object s e)

pub kept_is : (b : Bool) (t x : Shared) → kept_if b t ≡ Some x → x ≡ t
kept_is false t x h = absurd cc
kept_is true t x h = let e : t ≡ x = cc in sym e

-- it stays where the other end has a key
kept_some : (s : Shared) (e : End) (k : DescId) → other_key s e ≡ Some k → kept_if (remains s e) (closed_in s e) ≡ Some (closed_in s e)
kept_some s e k h = ap (λ (p : Option DescId). kept_if (is_some p || is_waiting (closed_in s e).object) (closed_in s e)) h

module _ (ds : List (Option Description)) (os : List (Option Shared)) (n m : ℕ) (nd : NumberedBy number_in ds n) (no : NumberedBy object_number_in os m) (backed : AllBacked ds os) (owned : AllOwned ds os)
    (key : DescId) (d : Description) (is : get_or ds key.0 None ≡ Some d) where
  abbrev b : Backs os key.0 d
  b = backed key.0 d is

  abbrev s : Shared
  s = b.it

  abbrev o : Option Shared
  o = closed_slot (Some s) d.end

  abbrev pub ds1 : List (Option Description)
  ds1 = slice_set ds key.0 None

  abbrev pub os1 : List (Option Shared)
  os1 = slice_set os d.object o

  none_keeps : (t : Description) → None ≡ Some t → number_in t ≡ number_in d
  none_keeps t h = absurd cc

  keeps : (t : Shared) → o ≡ Some t → object_number_in t ≡ object_number_in s
  keeps t h = kept_number (remains s d.end) s d.end t h

  -- what is left was there, under another key
  pub left_apart : (k : ℕ) (x : Description) → get_or ds1 k None ≡ Some x → k ≢ key.0
  left_apart k x h at = let y = next_here number_in place_in ds key.0 d is n nd None none_keeps in let z = ap (λ (i : ℕ). get_or ds1 i None) at in absurd cc

  pub left_was : (k : ℕ) (x : Description) → get_or ds1 k None ≡ Some x → get_or ds k None ≡ Some x
  left_was k x h = sym (next_other number_in place_in ds key.0 d is n nd None none_keeps k (left_apart k x h)) ∙ h

  pub stays : (k : ℕ) (x : Description) → k ≢ key.0 → get_or ds k None ≡ Some x → get_or ds1 k None ≡ Some x
  stays k x ne h = next_other number_in place_in ds key.0 d is n nd None none_keeps k ne ∙ h

  -- another description of the object is one of the other end
  pub shares : (k : ℕ) (x : Description) → get_or ds k None ≡ Some x → k ≢ key.0 → x.object ≡ d.object → (x.end ≡ opposite d.end) × (other_key s d.end ≡ Some (record { 0 = k }))
  shares k x h ne at =
      let w = backed k x h in
      let same : w.it ≡ s = (let y = w.is in let z = b.is in let u = ap (λ (i : ℕ). get_or os i None) at in cc) in
      let e : end_key s x.end ≡ Some (record { 0 = k }) = ap (λ (t : Shared). end_key t x.end) (sym same) ∙ w.key_is in
      elim (end_or d.end x.end) [
        | inl q ↦ absurd (ne (let r : Some (record { 0 = k }) ≡ Some (record { 0 = key.0 }) = sym e ∙ (ap (λ (y : End). end_key s y) q ∙ b.key_is) in ap (λ (i : DescId). i.0) (let z : record { 0 = k } ≡ record { 0 = key.0 } = cc in z)))
        | inr q ↦ (q, sym (other_is s d.end) ∙ (ap (λ (y : End). end_key s y) (sym q) ∙ e))
      ]

  closed_here : get_or os1 d.object None ≡ o
  closed_here = next_here object_number_in object_in os d.object s b.is m no o keeps

  pub backed_left : AllBacked ds1 os1
  backed_left k x h = let w = backed k x (left_was k x h) in elim (same_or_not x.object d.object) [
    | inl at ↦
        let p = shares k x (left_was k x h) (left_apart k x h) at in
        let same : w.it ≡ s = (let y = w.is in let z = b.is in let u = ap (λ (i : ℕ). get_or os i None) at in cc) in
        record {
          it = closed_in s d.end;
          is = ap (λ (i : ℕ). get_or os1 i None) at ∙ (closed_here ∙ kept_some s d.end (record { 0 = k }) p.1);
          number = closed_number s d.end ∙ (ap object_number_in (sym same) ∙ w.number);
          key_is = ap (λ (y : End). end_key (closed_in s d.end) y) p.0 ∙ (closed_other s d.end ∙ (other_is s d.end ∙ p.1));
        }
    | inr ne ↦ record { it = w.it; is = next_other object_number_in object_in os d.object s b.is m no o keeps x.object ne ∙ w.is; number = w.number; key_is = w.key_is }
  ]

  owns_left : (i : ℕ) (e : End) (k : DescId) → (w : Owns ds i e k) → k.0 ≢ key.0 → Owns ds1 i e k
  owns_left i e k w ne = record { it = w.it; is = stays k.0 w.it ne w.is; object = w.object; end = w.end }

  pub owned_left : AllOwned ds1 os1
  owned_left i x e k h has = elim (same_or_not i d.object) [
    | inl at ↦
        let q = kept_is (remains s d.end) (closed_in s d.end) x (sym closed_here ∙ (ap (λ (j : ℕ). get_or os1 j None) (sym at) ∙ h)) in
        let has1 : end_key (closed_in s d.end) e ≡ Some k = ap (λ (y : Shared). end_key y e) (sym q) ∙ has in
        elim (end_or d.end e) [
          | inl own ↦ absurd (let r : None ≡ Some k = sym (closed_own s d.end) ∙ (ap (λ (y : End). end_key (closed_in s d.end) y) (sym own) ∙ has1) in cc)
          | inr opp ↦
              let has2 : end_key s e ≡ Some k = ap (λ (y : End). end_key s y) opp ∙ (sym (closed_other s d.end) ∙ (ap (λ (y : End). end_key (closed_in s d.end) y) (sym opp) ∙ has1)) in
              let w = owned d.object s e k b.is has2 in
              let ne : k.0 ≢ key.0 = λ to. (let y : w.it ≡ d = (let u = w.is in let v = ap (λ (j : ℕ). get_or ds j None) to in cc) in opposite_apart d.end (sym opp ∙ (sym w.end ∙ ap (λ (z : Description). z.end) y))) in
              let l = owns_left d.object e k w ne in
              record { it = l.it; is = l.is; object = l.object ∙ sym at; end = l.end }
        ]
    | inr ne ↦
        let w = owned i x e k (sym (next_other object_number_in object_in os d.object s b.is m no o keeps i ne) ∙ h) has in
        let apart : k.0 ≢ key.0 = λ to. ne (sym w.object ∙ ap (λ (z : Description). z.object) (let u = w.is in let v = ap (λ (j : ℕ). get_or ds j None) to in let y : w.it ≡ d = cc in y)) in
        owns_left i e k w apart
  ]

  pub numbered_left : NumberedBy number_in ds1 n
  numbered_left = numbered_next number_in place_in ds key.0 d is n nd None none_keeps

  pub objects_left : NumberedBy object_number_in os1 m
  objects_left = numbered_next object_number_in object_in os d.object s b.is m no o keeps

  pub places_left : places ds1 n ≡ slice_set (places ds n) d.number None
  places_left = contents_next number_in place_in ds key.0 d is n nd None none_keeps

  pub counted_left : (u v : ℕ) → u ≡ length (numbered 0 (places ds n)) → v + 1 ≡ u → v ≡ length (numbered 0 (places ds1 n))
  counted_left u v e f = omega (arith, less_numbered 0 d.number (places ds n) (place_in d) (content_there number_in place_in ds n nd key.0 d is), ap (λ (xs : List (Option Place)). length (numbered 0 xs)) places_left)

  abbrev same_object : Place → Bool
  same_object y = y.object == d.object_number

  -- the object has another description exactly where the other end has a key
  any_other : (k : Option DescId) → other_key s d.end ≡ k → list_any (λ y. same_object y.1) (numbered 0 (places ds1 n)) ≡ is_some k
  any_other (Some k) e =
      let w = owned d.object s (opposite d.end) k b.is (other_is s d.end ∙ e) in
      let ne : k.0 ≢ key.0 = λ to. (let y : w.it ≡ d = (let u = w.is in let v = ap (λ (j : ℕ). get_or ds j None) to in cc) in opposite_apart d.end (sym w.end ∙ ap (λ (z : Description). z.end) y)) in
      let x = backed k.0 w.it w.is in
      let same : x.it ≡ s = (let u = x.is in let v = b.is in let t = ap (λ (j : ℕ). get_or os j None) w.object in cc) in
      let num : w.it.object_number ≡ d.object_number = sym x.number ∙ (ap object_number_in same ∙ b.number) in
      any_numbered same_object 0 w.it.number (places ds1 n) (place_in w.it) (content_there number_in place_in ds1 n numbered_left k.0 w.it (stays k.0 w.it ne w.is)) (same_test w.it.object_number d.object_number num)
  any_other None e = none_numbered same_object 0 (places ds1 n) (λ i p h.
      let g = contents_has ds1 n numbered_left i p h in
      let x = g.0.it in
      let was = left_was g.0.key x g.0.is in
      let w = backed g.0.key x was in
      let apart : x.object_number ≢ d.object_number = λ q.
      (let at : x.object ≡ d.object = no.one x.object d.object w.it s w.is b.is (w.number ∙ (q ∙ sym b.number)) in
      let r : None ≡ Some (record { 0 = g.0.key }) = sym e ∙ (shares g.0.key x was (left_apart g.0.key x g.0.is) at).1 in absurd cc) in
      ap same_object (sym g.1) ∙ test_apart x.object_number d.object_number apart)

  pub objects_shut : objects os1 m ≡ slice_set (objects os m) s.number (if remains s d.end then Some (close_end s.object d.end).0 else None)
  objects_shut = contents_next object_number_in object_in os d.object s b.is m no o keeps ∙ ap (λ (x : Option Object). slice_set (objects os m) s.number x) (kept_value (remains s d.end) s d.end)

  pub objects_closed : objects os1 m ≡ slice_set (objects os m) d.object_number (if list_any (λ y. y.1.object == d.object_number) (numbered 0 (slice_set (places ds n) d.number None)) || is_waiting (close_end s.object d.end).0 then Some (close_end s.object d.end).0 else None)
  objects_closed =
      let a : is_some (other_key s d.end) ≡ list_any (λ y. y.1.object == d.object_number) (numbered 0 (slice_set (places ds n) d.number None)) =
      sym (any_other (other_key s d.end) refl) ∙ ap (λ (xs : List (Option Place)). list_any (λ y. y.1.object == d.object_number) (numbered 0 xs)) places_left in
      let both : remains s d.end ≡ (list_any (λ y. y.1.object == d.object_number) (numbered 0 (slice_set (places ds n) d.number None)) || is_waiting (close_end s.object d.end).0) =
      (λ i. a i || is_waiting (closed_object s d.end i)) in
      objects_shut ∙ (ap (λ (k : ℕ). slice_set (objects os m) k (if remains s d.end then Some (close_end s.object d.end).0 else None)) b.number ∙ ap (λ (c : Bool). slice_set (objects os m) d.object_number (if c then Some (close_end s.object d.end).0 else None)) both)

closed_other_key : (s : Shared) (e : End) → other_key (closed_in s e) e ≡ other_key s e
closed_other_key s First = refl
closed_other_key s Second = refl

-- whether it stays is told by the object with the end closed
pub remains_by : (s t : Shared) (e : End) → t ≡ closed_in s e → (is_some (other_key t e) || is_waiting t.object) ≡ remains s e
remains_by s t e h = ap (λ (x : Shared). is_some (other_key x e) || is_waiting x.object) h ∙ ap (λ (o : Option DescId). is_some o || is_waiting (closed_in s e).object) (closed_other_key s e)

-- the slot is empty where it doesn't stay
pub gone : (slots new : List (Option Shared)) (at : ℕ) (s t : Shared) (e : End) → get_or slots at None ≡ Some s → new ≡ slice_set (slice_set slots at (Some t)) at None → remains s e ≡ false
    → new ≡ slice_set slots at (closed_slot (get_or slots at None) e)
gone slots new at s t e is f h =
    let g : closed_slot (get_or slots at None) e ≡ None = ap (λ (q : Option Shared). closed_slot q e) is ∙ ap (λ (b : Bool). kept_if b (closed_in s e)) h in
    f ∙ (set_set slots at (Some t) None ∙ ap (λ (q : Option Shared). slice_set slots at q) (sym g))
