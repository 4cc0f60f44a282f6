-- The keys of one owner's registrations.
use Rattle.std.proofs.Common.{◌≡◌, ◌≢◌, ℕ, ◌==◌, ◌+◌, ◌≤◌, suc, zero, Bool, true, false, not, All, Contains, List, [], ◌∷◌, ◌++◌, length, map, filter, count_by, get_or, nat_eq, Option, Some, None, is_some, refl, ap, sym, subst, ◌∙◌, arith, inl, inr, if◌then◌else◌}
use Rattle.std.proofs.lemmas.Bool.{cases_Bool}
use Rattle.std.proofs.lemmas.List.{append-nil, length-map, map-append}
use Rattle.std.proofs.lemmas.List.Elements.{All-filter, All-head, All-map, All-tail, All-weaker, filter-append}
use Rattle.std.proofs.lemmas.List.Sums.{count_by-le-length, length-filter}
use Rattle.std.specs.List.{range_with_len}
use Rattle.ep_facts.proofs.NatFacts.{same_or_not, same_test, test_apart}
use Rattle.ep_interest.specs.ByNumber.{NumberedBy, found_by, in_order}
use Rattle.ep_interest.specs.Registrations.{numbered, place_among}
use Rattle.ep_interest.specs.Rows.{IsRows, row}
use Rattle.ep_interest.specs.View.{HasRows, is_owned, key_in, keys_with, number_in}
use Rattle.ep_interest.specs.declared.entry.Entry.{Entry}
use Rattle.ep_interest.specs.declared.rows.Rows.{Rows}
use Rattle.ep_interest.proofs.NumberLemmas.{has}
use Rattle.ep_interest.proofs.InOrderLemmas.{held, length_held, place_is}
use Rattle.ep_interest.proofs.KeyLemmas.{all_given}
use Rattle.ep_interest.proofs.AddLemmas.{Inserted, entries_more, numbers_more}
use Rattle.ep_interest.proofs.RemoveLemmas.{Emptied, held_less, numbered_less}
use Rattle.ep_interest.proofs.RowLemmas.{left_again}

-- it stands under its key
abbrev pub IsAtKey : List (Option Entry) → Entry → Type 0
IsAtKey slots x = get_or slots (key_in slots x) None ≡ Some x

map_on : {X Y : Type 0} (f g : X → Y) (xs : List X) → All (λ x. f x ≡ g x) xs → map f xs ≡ map g xs
map_on f g [] h = refl
map_on f g (x ∷ xs) h =
    let first = All-head (λ x. f x ≡ g x) x xs h in
    let rest = map_on f g xs (All-tail (λ x. f x ≡ g x) x xs h) in
    λ i. first i ∷ rest i

-- what passes a test is among what the numbers of those give
there : (p : Entry → Bool) (f : Entry → ℕ) (xs : List Entry) (n : ℕ) (x : Entry) → numbered xs n ≡ Some x → p x ≡ true → Contains (map f (filter p xs)) (f x)
there p f [] n x h t = absurd cc
there p f (y ∷ ys) n x h t = elim (same_or_not y.number n) [
  | inl e ↦
      let g = (let s = same_test y.number n e in rw s at h) in let same : y ≡ x = cc in
      let u : p y ≡ true = ap p same ∙ t in
      rw u (zero, omega arith, ap f same)
  | inr ne ↦
      let r = there p f ys n x (let s = test_apart y.number n ne in rw s at h) t in
      elim (cases_Bool (p y)) [ inl u ↦ rw u (suc r.0, omega (arith, r.1), r.2) | inr u ↦ rw u r ]
]

module _ (slots : List (Option Entry)) (n : ℕ) (num : NumberedBy slots n) where
  pub at_keys : All (IsAtKey slots) (in_order slots n)
  at_keys = all_given (IsAtKey slots) (found_by slots) (λ m x e. let h = has slots m x e in ap (λ (k : ℕ). get_or slots k None) (place_is slots num.one h.key x h.is) ∙ h.is) (range_with_len 1 n)

  module _ (who : Entry → ℕ) where
    -- what holds of each key that has a registration
    pub keys_hold : (i : ℕ) (P : ℕ → Type 0) → ((k : ℕ) (x : Entry) → get_or slots k None ≡ Some x → P k) → All P (keys_with who slots n i)
    keys_hold i P h =
        All-map P (key_in slots) (filter (is_owned who i) (in_order slots n))
        (All-filter (is_owned who i) (λ x. P (key_in slots x)) (in_order slots n)
        (All-weaker (IsAtKey slots) (λ x. P (key_in slots x)) (λ x e. h (key_in slots x) x e) (in_order slots n) at_keys))

    pub keys_fresh : (i k : ℕ) → get_or slots k None ≡ None → All (λ j. j ≢ k) (keys_with who slots n i)
    keys_fresh i k none = keys_hold i (λ j. j ≢ k) (λ j x e same. let g = ap (λ (z : ℕ). get_or slots z None) same in absurd cc)

    pub key_there : (k : ℕ) (x : Entry) → get_or slots k None ≡ Some x → Contains (keys_with who slots n (who x)) k
    key_there k x is = subst (λ (j : ℕ). Contains (keys_with who slots n (who x)) j) (place_is slots num.one k x is) (there (is_owned who (who x)) (key_in slots) (in_order slots n) x.number x (held slots n num k x is) (same_test (who x) (who x) refl))

    pub keys_few : (i : ℕ) → length (keys_with who slots n i) ≤ count_by is_some slots
    keys_few i =
        let a = length-map (filter (is_owned who i) (in_order slots n)) (key_in slots) in
        let b = length-filter (is_owned who i) (in_order slots n) in
        let c = count_by-le-length (is_owned who i) (in_order slots n) in
        let d = length_held slots n num in
        omega (arith, a, b, c, d)

-- one registration more
module _ (old new : List (Option Entry)) (at : ℕ) (x : Entry) (ins : Inserted old new at x) (n : ℕ) (is : x.number ≡ n + 1) (num : NumberedBy old n) where
  same_keys : All (λ y. key_in new y ≡ key_in old y) (in_order old n)
  same_keys = All-weaker (IsAtKey old) (λ y. key_in new y ≡ key_in old y) (λ y e.
      let ne : key_in old y ≢ at = (λ same. let g = ap (λ (z : ℕ). get_or old z None) same in let f = ins.was in absurd cc) in
      place_is new (numbers_more old new at x ins n is num).one (key_in old y) y (ins.others (key_in old y) ne ∙ e)) (in_order old n) (at_keys old n num)

  module _ (who : Entry → ℕ) (i : ℕ) where
    abbrev mine : List Entry
    mine = filter (is_owned who i) (in_order old n)

    old_keys : map (key_in new) mine ≡ keys_with who old n i
    old_keys = map_on (key_in new) (key_in old) mine (All-filter (is_owned who i) (λ y. key_in new y ≡ key_in old y) (in_order old n) same_keys)

    split : keys_with who new (n + 1) i ≡ map (key_in new) mine ++ map (key_in new) (filter (is_owned who i) (x ∷ []))
    split =
        ap (λ (xs : List Entry). map (key_in new) (filter (is_owned who i) xs)) (entries_more old new at x ins n is num)
        ∙ (ap (map (key_in new)) (filter-append (is_owned who i) (in_order old n) (x ∷ [])) ∙ map-append (key_in new) mine (filter (is_owned who i) (x ∷ [])))

    pub keys_with_more : keys_with who new (n + 1) i ≡ (if nat_eq (who x) i then keys_with who old n i ++ at ∷ [] else keys_with who old n i)
    keys_with_more = elim (same_or_not (who x) i) [
      | inl e ↦
          let t = same_test (who x) i e in
          let one : filter (is_owned who i) (x ∷ []) ≡ x ∷ [] = rw t refl in
          let key : key_in new x ≡ at = place_is new (numbers_more old new at x ins n is num).one at x ins.here in
          rw t (split ∙ ((λ j. old_keys j ++ map (key_in new) (one j)) ∙ ap (λ (k : ℕ). keys_with who old n i ++ k ∷ []) key))
      | inr ne ↦
          let t = test_apart (who x) i ne in
          let none : filter (is_owned who i) (x ∷ []) ≡ [] = rw t refl in
          rw t (split ∙ ((λ j. old_keys j ++ map (key_in new) (none j)) ∙ append-nil (keys_with who old n i)))
    ]

-- one registration less
module _ (old new : List (Option Entry)) (key : ℕ) (x : Entry) (e : Emptied old new key x) (n : ℕ) (num : NumberedBy old n) (one : (j k : ℕ) (y z : Entry) → get_or new j None ≡ Some y → get_or new k None ≡ Some z → y.number ≡ z.number → j ≡ k) (who : Entry → ℕ) (i : ℕ) where
  left : (xs : List Entry) → All (IsAtKey old) xs → map (key_in new) (filter (is_owned who i) (filter (λ y. not (y.number == x.number)) xs)) ≡ filter (λ k. not (k == key)) (map (key_in old) (filter (is_owned who i) xs))
  left [] h = refl
  left (y ∷ ys) h =
      let r = left ys (All-tail (IsAtKey old) y ys h) in
      let at : get_or old (key_in old y) None ≡ Some y = All-head (IsAtKey old) y ys h in
      elim (same_or_not (key_in old y) key) [
        | inl same ↦
            let it : y ≡ x = (let g = ap (λ (k : ℕ). get_or old k None) same in let w = e.was in cc) in
            let t = same_test y.number x.number (ap (λ (z : Entry). z.number) it) in
            let k = same_test (key_in old y) key same in
            elim (cases_Bool (who y == i)) [ inl u ↦ rw (t, u, k) r | inr u ↦ rw (t, u) r ]
        | inr ne ↦
            let t = test_apart y.number x.number (λ g. ne (num.one (key_in old y) key y x at e.was g)) in
            let k = test_apart (key_in old y) key ne in
            let now : key_in new y ≡ key_in old y = place_is new one (key_in old y) y (e.others (key_in old y) ne ∙ at) in
            elim (cases_Bool (who y == i)) [ inl u ↦ rw (t, u, k) (λ j. now j ∷ r j) | inr u ↦ rw (t, u) r ]
      ]

  pub keys_with_less : keys_with who new n i ≡ filter (λ k. not (k == key)) (keys_with who old n i)
  keys_with_less = ap (λ (xs : List Entry). map (key_in new) (filter (is_owned who i) xs)) (held_less old new key x e n num) ∙ left (in_order old n) (at_keys old n num)

-- registrations changed in place
module _ (old new : List (Option Entry)) (n : ℕ) (f : Entry → Entry) (keys : map number_in new ≡ map number_in old) (entries : in_order new n ≡ map f (in_order old n)) (number : (x : Entry) → (f x).number ≡ x.number) (who : Entry → ℕ) (same : (x : Entry) → who (f x) ≡ who x) (i : ℕ) where
  changed : (xs : List Entry) → map (key_in new) (filter (is_owned who i) (map f xs)) ≡ map (key_in old) (filter (is_owned who i) xs)
  changed [] = refl
  changed (y ∷ ys) =
      let r = changed ys in
      let key : key_in new (f y) ≡ key_in old y = (λ j. place_among (keys j) (number y j)) in
      elim (cases_Bool (who y == i)) [
        | inl t ↦ let u : (who (f y) == i) ≡ true = ap (λ (w : ℕ). w == i) (same y) ∙ t in rw (t, u) (λ j. key j ∷ r j)
        | inr t ↦ let u : (who (f y) == i) ≡ false = ap (λ (w : ℕ). w == i) (same y) ∙ t in rw (t, u) r
      ]

  pub keys_with_changed : keys_with who new n i ≡ keys_with who old n i
  keys_with_changed = ap (λ (xs : List Entry). map (key_in new) (filter (is_owned who i) xs)) entries ∙ changed (in_order old n)

pub rows_changed : (old new : List (Option Entry)) (n : ℕ) (f : Entry → Entry) → map number_in new ≡ map number_in old → in_order new n ≡ map f (in_order old n) → ((x : Entry) → (f x).number ≡ x.number) → (who : Entry → ℕ) → ((x : Entry) → who (f x) ≡ who x) → {A : Type 0} (v : Rows A) → HasRows who old n v → HasRows who new n v
rows_changed old new n f keys entries number who same v h = record { sound = h.sound; rows = λ i. h.rows i ∙ sym (keys_with_changed old new n f keys entries number who same i) }

pub rows_less : (old new : List (Option Entry)) (key : ℕ) (x : Entry) → Emptied old new key x → (n : ℕ) → NumberedBy old n → (who : Entry → ℕ) → {A : Type 0} (v w : Rows A) → HasRows who old n v → IsRows w → ((i : ℕ) → row w i ≡ filter (λ k. not (k == key)) (row v i)) → HasRows who new n w
rows_less old new key x e n num who v w h sound rows = record {
  sound = sound;
  rows = λ i. rows i ∙ (ap (λ (ks : List ℕ). filter (λ k. not (k == key)) ks) (h.rows i) ∙ sym (keys_with_less old new key x e n num (numbered_less old new key x e n num).one who i));
}

pub rows_more : (old new : List (Option Entry)) (at : ℕ) (x : Entry) → Inserted old new at x → (n : ℕ) → x.number ≡ n + 1 → NumberedBy old n → (who : Entry → ℕ) → {A : Type 0} (v u w : Rows A) → HasRows who old n v → ((i : ℕ) → row u i ≡ row v i) → IsRows w → ((i : ℕ) → row w i ≡ (if nat_eq (who x) i then row u i ++ at ∷ [] else row u i)) → HasRows who new (n + 1) w
rows_more old new at x ins n is num who v u w h kept sound rows = record {
  sound = sound;
  rows = λ i. rows i ∙ (ap (λ (ks : List ℕ). if nat_eq (who x) i then ks ++ at ∷ [] else ks) (kept i ∙ h.rows i) ∙ sym (keys_with_more old new at x ins n is num who i));
}

-- what joined a row and left it again
pub rows_again : (slots : List (Option Entry)) (n : ℕ) (who : Entry → ℕ) (o k : ℕ) {A : Type 0} (v u w x : Rows A) → HasRows who slots n v → ((i : ℕ) → row u i ≡ row v i) → ((i : ℕ) → All (λ j. j ≢ k) (row u i)) → ((i : ℕ) → row w i ≡ (if nat_eq o i then row u i ++ k ∷ [] else row u i)) → IsRows x → ((i : ℕ) → row x i ≡ filter (λ j. not (j == k)) (row w i)) → HasRows who slots n x
rows_again slots n who o k v u w x h kept fresh joined sound left = record {
  sound = sound;
  rows = λ i. left i ∙ (ap (λ (ks : List ℕ). filter (λ j. not (j == k)) ks) (joined i) ∙ (left_again (row u i) o i k (fresh i) ∙ (kept i ∙ h.rows i)));
}

pub rows_there : (slots : List (Option Entry)) (n : ℕ) → NumberedBy slots n → (who : Entry → ℕ) (k : ℕ) (x : Entry) → get_or slots k None ≡ Some x → {A : Type 0} (v : Rows A) → HasRows who slots n v → Contains (row v (who x)) k
rows_there slots n num who k x is v h = subst (λ (ks : List ℕ). Contains ks k) (sym (h.rows (who x))) (key_there slots n num who k x is)

-- a key without a registration is in no row, and no row is longer than the registrations are many
pub rows_fresh : (slots : List (Option Entry)) (n : ℕ) → NumberedBy slots n → (who : Entry → ℕ) (k : ℕ) → get_or slots k None ≡ None → {A : Type 0} (v u : Rows A) → HasRows who slots n v → ((i : ℕ) → row u i ≡ row v i) → (i : ℕ) → All (λ j. j ≢ k) (row u i)
rows_fresh slots n num who k none v u h kept i = subst (λ (ks : List ℕ). All (λ j. j ≢ k) ks) (sym (kept i ∙ h.rows i)) (keys_fresh slots n num who i k none)

pub rows_few : (slots : List (Option Entry)) (n : ℕ) → NumberedBy slots n → (who : Entry → ℕ) → {A : Type 0} (v u : Rows A) → HasRows who slots n v → ((i : ℕ) → row u i ≡ row v i) → (i : ℕ) → length (row u i) ≤ count_by is_some slots
rows_few slots n num who v u h kept i = subst (λ (ks : List ℕ). length ks ≤ count_by is_some slots) (sym (kept i ∙ h.rows i)) (keys_few slots n num who i)
