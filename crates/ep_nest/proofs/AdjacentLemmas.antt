-- The maps of instances, by their keys.
use Rattle.ep_nest.specs.Adjacent.{entries_at}
use Rattle.ep_nest.specs.declared.link.Link.{Link}
use Rattle.std.specs.BTreeMap.{BTreeMap, insert_entry, is_at}
use Rattle.std.specs.Map.{keys_of, remove_entry}
use Rattle.std.specs.Ordering.{nat_cmp}
use Rattle.ep_nest.proofs.TurnLemmas.{AreBelow, put_last, ticket_test}
use Rattle.std.proofs.Common.{Bool, Err, List, Ok, OnErr, Result, [], ap, append-nil, arith, eq-eqb, false, get_or, if◌then◌else◌, inl, inr, length, map, nat_eq, refl, set, subst, suc, sym, true, zero, ℕ, ◌++◌, ◌-◌, ◌<◌, ◌==◌, ◌∙◌, ◌∷◌, ◌≡◌, ◌≤◌}
use Rattle.std.proofs.lemmas.Bool.{cases_eq, cases_lt, ne_eqb}
use Rattle.std.proofs.lemmas.List.{get_or-append_right, get_or-map, get_or-set_other, get_or-set_same, get_or_append_left, get_or_past, length-map, map-append}

abbrev Turns : Type 0
Turns = List (ℕ × Link)

abbrev one_empty : List Turns
one_empty = [] ∷ []

at_empty : (n : ℕ) → get_or one_empty n [] ≡ []
at_empty zero = refl
at_empty (suc n) = refl

entries_past : (maps : List (BTreeMap ℕ Link)) (k : ℕ) → length maps ≤ k → entries_at maps k ≡ []
entries_past maps k le = get_or_past (map (λ m. m.entries) maps) k [] (let long = length-map maps (λ (m : BTreeMap ℕ Link). m.entries) in omega (arith, long, le))

entries_at_place : (maps : List (BTreeMap ℕ Link)) (k : ℕ) (d : BTreeMap ℕ Link) → k < length maps → entries_at maps k ≡ (get_or maps k d).entries
entries_at_place maps k d lt = get_or-map (λ (m : BTreeMap ℕ Link). m.entries) maps k d [] lt

-- an empty map at the end
pub opened : (maps : List (BTreeMap ℕ Link)) (m : BTreeMap ℕ Link) (k : ℕ) → m.entries ≡ [] → entries_at (maps ++ m ∷ []) k ≡ entries_at maps k
opened maps m k none =
    let before = map (λ (m : BTreeMap ℕ Link). m.entries) maps in
    ap (λ (xs : List Turns). get_or xs k []) (map-append (λ (m : BTreeMap ℕ Link). m.entries) maps (m ∷ []) ∙ ap (λ (es : Turns). before ++ es ∷ []) none)
    ∙ elim (cases_lt k (length before)) [
      | inl lt ↦ get_or_append_left before ([] ∷ []) [] k lt
      | inr le ↦ get_or-append_right before ([] ∷ []) (length before) k [] refl le ∙ (at_empty (k - length before) ∙ sym (get_or_past before k [] le))
    ]

map_set : (maps : List (BTreeMap ℕ Link)) (k : ℕ) (m : BTreeMap ℕ Link) → map (λ m. m.entries) (set maps k m) ≡ set (map (λ m. m.entries) maps) k m.entries
map_set [] k m = refl
map_set (w ∷ maps) zero m = refl
map_set (w ∷ maps) (suc k) m = ap (λ (xs : List Turns). w.entries ∷ xs) (map_set maps k m)

set_here : (maps : List (BTreeMap ℕ Link)) (k : ℕ) (m : BTreeMap ℕ Link) → k < length maps → entries_at (set maps k m) k ≡ m.entries
set_here maps k m lt =
    ap (λ (xs : List Turns). get_or xs k []) (map_set maps k m)
    ∙ get_or-set_same (map (λ m. m.entries) maps) k m.entries [] (let long = length-map maps (λ (m : BTreeMap ℕ Link). m.entries) in omega (arith, long, lt))

set_there : (maps : List (BTreeMap ℕ Link)) (k j : ℕ) (m : BTreeMap ℕ Link) → (j ≡ k → ⊥) → entries_at (set maps k m) j ≡ entries_at maps j
set_there maps k j m apart =
    ap (λ (xs : List Turns). get_or xs j []) (map_set maps k m)
    ∙ get_or-set_other (map (λ m. m.entries) maps) k j m.entries [] apart

own_entries : (maps : List (BTreeMap ℕ Link)) (i : ℕ) (m : BTreeMap ℕ Link) → i < length maps → m ≡ get_or maps i m → m.entries ≡ entries_at maps i
own_entries maps i m lt own = ap (λ (m : BTreeMap ℕ Link). m.entries) own ∙ sym (entries_at_place maps i m lt)

module _ (maps : List (BTreeMap ℕ Link)) (i : ℕ) (old new : BTreeMap ℕ Link) (lt : i < length maps) (own : old ≡ get_or maps i old) where
  -- a map that is as it was
  pub map_kept : new.entries ≡ old.entries → (k : ℕ) → entries_at (set maps i new) k ≡ entries_at maps k
  map_kept same k = elim (cases_eq k i) [
    | inl here ↦ subst (λ (k : ℕ). entries_at (set maps i new) k ≡ entries_at maps k) (sym here) (set_here maps i new lt ∙ (same ∙ own_entries maps i old lt own))
    | inr apart ↦ set_there maps i k new apart
  ]

  -- a link more in one of them
  pub map_more : (t : ℕ) (l : Link) → AreBelow t (keys_of (entries_at maps i)) → new.entries ≡ insert_entry nat_cmp old.entries t l → (k : ℕ) → entries_at (set maps i new) k ≡ entries_at maps k ++ (if i == k then (t, l) ∷ [] else [])
  map_more t l under more k =
      let before = own_entries maps i old lt own in
      let last = put_last t l old.entries (subst (λ (ts : Turns). AreBelow t (keys_of ts)) (sym before) under) in
      elim (cases_eq k i) [
        | inl here ↦
            let yes : (i == k) ≡ true = eq-eqb i k (sym here) in
            subst (λ (k : ℕ). entries_at (set maps i new) k ≡ entries_at maps k ++ (t, l) ∷ []) (sym here)
            (set_here maps i new lt ∙ (more ∙ (last ∙ ap (λ (ts : Turns). ts ++ (t, l) ∷ []) before)))
            ∙ ap (λ (b : Bool). entries_at maps k ++ (if b then (t, l) ∷ [] else [])) (sym yes)
        | inr apart ↦
            let off : (i == k) ≡ false = ne_eqb i k (λ e. apart (sym e)) in
            set_there maps i k new apart
            ∙ (sym (append-nil (entries_at maps k)) ∙ ap (λ (b : Bool). entries_at maps k ++ (if b then (t, l) ∷ [] else [])) (sym off))
      ]

  -- a link less in one of them
  pub map_less : (t : ℕ) → new.entries ≡ remove_entry (is_at (nat_cmp t)) old.entries → (k : ℕ) → entries_at (set maps i new) k ≡ (if i == k then remove_entry (nat_eq t) (entries_at maps k) else entries_at maps k)
  map_less t less k =
      let by_number = ap (λ (f : ℕ → Bool). remove_entry f old.entries) (ticket_test t) in
      elim (cases_eq k i) [
        | inl here ↦
            let yes : (i == k) ≡ true = eq-eqb i k (sym here) in
            subst (λ (k : ℕ). entries_at (set maps i new) k ≡ remove_entry (nat_eq t) (entries_at maps k)) (sym here)
            (set_here maps i new lt ∙ (less ∙ (by_number ∙ ap (remove_entry (nat_eq t)) (own_entries maps i old lt own))))
            ∙ ap (λ (b : Bool). if b then remove_entry (nat_eq t) (entries_at maps k) else entries_at maps k) (sym yes)
        | inr apart ↦
            let off : (i == k) ≡ false = ne_eqb i k (λ e. apart (sym e)) in
            set_there maps i k new apart ∙ ap (λ (b : Bool). if b then remove_entry (nat_eq t) (entries_at maps k) else entries_at maps k) (sym off)
      ]

-- an instance without a map has nothing to lose
pub none_less : (maps : List (BTreeMap ℕ Link)) (i t : ℕ) → length maps ≤ i → (k : ℕ) → entries_at maps k ≡ (if i == k then remove_entry (nat_eq t) (entries_at maps k) else entries_at maps k)
none_less maps i t le k = elim (cases_eq k i) [
  | inl here ↦
      let yes : (i == k) ≡ true = eq-eqb i k (sym here) in
      let none : entries_at maps k ≡ [] = ap (entries_at maps) here ∙ entries_past maps i le in
      rw yes (none ∙ sym (ap (remove_entry (nat_eq t)) none))
  | inr apart ↦ let off : (i == k) ≡ false = ne_eqb i k (λ e. apart (sym e)) in rw off refl
]

-- what holds of each result
pub on_err : {T E X : Type 0} (r : Result T E) → X → OnErr r X
on_err (Ok v) h = tt
on_err (Err e) h = h
