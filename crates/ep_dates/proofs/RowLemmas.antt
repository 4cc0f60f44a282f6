-- What rows hold once a key joined or left one of them.
use Rattle.std.proofs.Common.{◌≡◌, ◌≢◌, ◌<◌, ◌==◌, ◌∙◌, ℕ, true, false, not, filter, length, List, [], ◌∷◌, ap, inl, inr, is_some, refl, rules, sym}
use Rattle.std.proofs.lemmas.Bool.{cases_Bool, cases_eq, false≢true}
use Rattle.std.proofs.lemmas.List.{get_or-set_other, get_or-set_same}
use Rattle.ep_machine.specs.Lists.{is_among}
use Rattle.ep_rings.proofs.AmongLemmas.{among_gone}
use Rattle.ep_rings.specs.PlacedRows.{AreApart, PlacedRows, first_in, keys_at, with_row, without_key}

pub row_here : (v : PlacedRows) (i : ℕ) (ks : List ℕ) → i < length v.rows → keys_at (with_row v i ks) i ≡ ks
row_here v i ks lt = get_or-set_same v.rows i ks [] lt

pub row_else : (v : PlacedRows) (i j : ℕ) (ks : List ℕ) → j ≢ i → keys_at (with_row v i ks) j ≡ keys_at v j
row_else v i j ks apart = get_or-set_other v.rows i j ks [] apart

-- A key in row i leaves it, and stands in none.
module _ (v : PlacedRows) (apart : AreApart v) (i k : ℕ) (lt : i < length v.rows) (there : is_among (keys_at v i) k ≡ true) where
  pub gone : (j : ℕ) → is_among (keys_at (without_key v i k) j) k ≡ false
  gone j = elim (cases_eq j i) [
    | inl e ↦
        ap (λ (n : ℕ). is_among (keys_at (without_key v i k) n) k) e
        ∙ (ap (λ (ks : List ℕ). is_among ks k) (row_here v i (filter (λ x. not (x == k)) (keys_at v i)) lt) ∙ among_gone (keys_at v i) k)
    | inr ne ↦
        ap (λ (ks : List ℕ). is_among ks k) (row_else v i j (filter (λ x. not (x == k)) (keys_at v i)) ne)
        ∙ elim (cases_Bool (is_among (keys_at v j) k)) [ inl t ↦ absurd (ne (apart.apart j i k t there)) | inr f ↦ f ]
  ]

-- The first of a row.
pub some_first : (ks : List ℕ) (k : ℕ) → is_among ks k ≡ true → is_some (first_in ks) ≡ true
some_first [] k h = absurd (false≢true h)
some_first (x ∷ ks) k h = refl

pub has_first : (ks : List ℕ) → is_some (first_in ks) ≡ true → (k : ℕ) × (is_among ks k ≡ true)
has_first [] h = absurd (false≢true h)
has_first (x ∷ ks) h = (x, search rules)

-- Row i has other keys: those beside k are what they were.
pub row_other : (v : PlacedRows) (i k : ℕ) (ks : List ℕ) → i < length v.rows → ((m : ℕ) → m ≢ k → is_among ks m ≡ is_among (keys_at v i) m) → (j m : ℕ) → m ≢ k → is_among (keys_at (with_row v i ks) j) m ≡ is_among (keys_at v j) m
row_other v i k ks lt same j m apart = elim (cases_eq j i) [
  | inl e ↦
      ap (λ (n : ℕ). is_among (keys_at (with_row v i ks) n) m) e
      ∙ (ap (λ (l : List ℕ). is_among l m) (row_here v i ks lt) ∙ (same m apart ∙ ap (λ (n : ℕ). is_among (keys_at v n) m) (sym e)))
  | inr ne ↦ ap (λ (l : List ℕ). is_among l m) (row_else v i j ks ne)
]

-- and only row i can have k, if only it had
pub row_home : (v : PlacedRows) (i k : ℕ) (ks : List ℕ) → ((j : ℕ) → is_among (keys_at v j) k ≡ true → j ≡ i) → (j : ℕ) → is_among (keys_at (with_row v i ks) j) k ≡ true → j ≡ i
row_home v i k ks home j t = elim (cases_eq j i) [ inl e ↦ e | inr ne ↦ home j (ap (λ (l : List ℕ). is_among l k) (sym (row_else v i j ks ne)) ∙ t) ]
