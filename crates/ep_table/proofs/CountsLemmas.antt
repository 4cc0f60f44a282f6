-- The counts of a description change.
use Rattle.std.proofs.Common.{List, None, Option, Some, [], ap, arith, get_or, inl, inr, length, map, refl, slice_set, subst, suc, sym, zero, ℕ, ◌+◌, ◌∙◌, ◌∷◌, ◌≡◌, ◌≢◌, ◌≤◌}
use Rattle.std.proofs.lemmas.List.{get_or-set_other}
use Rattle.ep_facts.proofs.NatFacts.{same_or_not}
use Rattle.ep_facts.proofs.ListFacts.{map_set}
use Rattle.ep_table.specs.ByNumber.{NumberedBy, contents_by}
use Rattle.ep_table.specs.Stored.{AllBacked, AllFewer, AllOwned, Backs, count_in, counts, holds_in, key_number, names_in, number_in, place_in, places}
use Rattle.ep_table.specs.Value.{count_at}
use Rattle.ep_table.specs.declared.words.Description.{Description}
use Rattle.ep_table.specs.declared.words.Shared.{Shared}
use Rattle.ep_table.proofs.ByNumberLemmas.{content_there, contents_length, contents_next, next_here, next_other, numbered_next}
use Rattle.ep_table.proofs.QueueLemmas.{set_same}
use Rattle.ep_table.proofs.StoreLemmas.{key_at}

module _ (count : Description → ℕ) where
  pub counts_at : (xs : List (Option ℕ)) (m : ℕ) → count_at (map count_in xs) m ≡ count_in (get_or xs m None)
  counts_at [] m = refl
  counts_at (x ∷ xs) zero = refl
  counts_at (x ∷ xs) (suc m) = counts_at xs m

  pub count_there : (ds : List (Option Description)) (n : ℕ) → NumberedBy number_in ds n → (key : ℕ) (d : Description) → get_or ds key None ≡ Some d → count_at (counts count ds n) d.number ≡ count d
  count_there ds n num key d is = counts_at (contents_by number_in count ds n) d.number ∙ ap count_in (content_there number_in count ds n num key d is)

length_map : {A B : Type 0} (f : A → B) (xs : List A) → length (map f xs) ≡ length xs
length_map f [] = refl
length_map f (x ∷ xs) = ap suc (length_map f xs)

pub counts_length : (count : Description → ℕ) (ds : List (Option Description)) (n : ℕ) → length (counts count ds n) ≡ n
counts_length count ds n = length_map count_in (contents_by number_in count ds n) ∙ contents_length number_in count ds n

module _ (ds : List (Option Description)) (n key : ℕ) (d : Description) (is : get_or ds key None ≡ Some d) (num : NumberedBy number_in ds n) (a b : ℕ) where
  abbrev e : Description
  e = record d { names = a; holds = b }

  keeps : (x : Description) → Some e ≡ Some x → number_in x ≡ number_in d
  keeps x h = let y : e ≡ x = cc in sym (ap number_in y)

  abbrev pub recounted : List (Option Description)
  recounted = slice_set ds key (Some e)

  pub here : get_or recounted key None ≡ Some e
  here = next_here number_in place_in ds key d is n num (Some e) keeps

  apart : (k : ℕ) → k ≢ key → get_or recounted k None ≡ get_or ds k None
  apart k ne = next_other number_in place_in ds key d is n num (Some e) keeps k ne

  pub numbered_counted : NumberedBy number_in recounted n
  numbered_counted = numbered_next number_in place_in ds key d is n num (Some e) keeps

  pub backed_counted : (os : List (Option Shared)) → AllBacked ds os → AllBacked recounted os
  backed_counted os h k x at = elim (same_or_not k key) [
    | inl to ↦
        let b0 = h key d is in
        let b1 : Backs os key e = record { it = b0.it; is = b0.is; number = b0.number; key_is = b0.key_is } in
        let same : e ≡ x = (let y = ap (λ (i : ℕ). get_or recounted i None) to in let z = here in cc) in
        subst (λ (i : ℕ). Backs os i x) (sym to) (subst (λ (y : Description). Backs os key y) same b1)
    | inr ne ↦ h k x (sym (apart k ne) ∙ at)
  ]

  pub owned_counted : (os : List (Option Shared)) → AllOwned ds os → AllOwned recounted os
  owned_counted os h i s end k q has =
      let o = h i s end k q has in
      elim (same_or_not k.0 key) [
        | inl to ↦
            let same : o.it ≡ d = (let y = ap (λ (j : ℕ). get_or ds j None) to in let z = o.is in cc) in
            record { it = e; is = ap (λ (j : ℕ). get_or recounted j None) to ∙ here; object = sym (ap (λ (x : Description). x.object) same) ∙ o.object; end = sym (ap (λ (x : Description). x.end) same) ∙ o.end }
        | inr ne ↦ record { it = o.it; is = apart k.0 ne ∙ o.is; object = o.object; end = o.end }
      ]

  pub places_counted : places recounted n ≡ places ds n
  places_counted = contents_next number_in place_in ds key d is n num (Some e) keeps ∙ set_same (places ds n) d.number (Some (place_in d)) None (content_there number_in place_in ds n num key d is)

  pub keys_counted : map key_number recounted ≡ map key_number ds
  keys_counted = map_set key_number ds key (Some e) ∙ set_same (map key_number ds) key (Some d.number) None (key_at ds key ∙ ap key_number is)

  pub names_counted : counts names_in recounted n ≡ slice_set (counts names_in ds n) d.number a
  names_counted = ap (map count_in) (contents_next number_in names_in ds key d is n num (Some e) keeps) ∙ map_set count_in (contents_by number_in names_in ds n) d.number (Some a)

  pub holds_counted : counts holds_in recounted n ≡ slice_set (counts holds_in ds n) d.number b
  holds_counted = ap (map count_in) (contents_next number_in holds_in ds key d is n num (Some e) keeps) ∙ map_set count_in (contents_by number_in holds_in ds n) d.number (Some b)

  pub names_kept : a ≡ d.names → counts names_in recounted n ≡ counts names_in ds n
  names_kept f = names_counted ∙ set_same (counts names_in ds n) d.number a 0 (count_there names_in ds n num key d is ∙ sym f)

  pub holds_kept : b ≡ d.holds → counts holds_in recounted n ≡ counts holds_in ds n
  holds_kept f = holds_counted ∙ set_same (counts holds_in ds n) d.number b 0 (count_there holds_in ds n num key d is ∙ sym f)

  pub fewer_counted : (m l : ℕ) → AllFewer ds m → m ≤ l → a ≤ l + 1 → AllFewer recounted l
  fewer_counted m l h lt g k x at = elim (same_or_not k key) [
    | inl to ↦ let same : e ≡ x = (let y = ap (λ (i : ℕ). get_or recounted i None) to in let z = here in cc) in omega (arith, g, ap (λ (y : Description). y.names) same)
    | inr ne ↦ omega (arith, lt, h k x (sym (apart k ne) ∙ at))
  ]

  -- what the counts are now
  pub names_here : count_at (counts names_in recounted n) d.number ≡ a
  names_here = count_there names_in recounted n numbered_counted key e here

  pub holds_here : count_at (counts holds_in recounted n) d.number ≡ b
  holds_here = count_there holds_in recounted n numbered_counted key e here

  pub names_apart : (m : ℕ) → m ≢ d.number → count_at (counts names_in recounted n) m ≡ count_at (counts names_in ds n) m
  names_apart m ne = ap (λ (xs : List ℕ). count_at xs m) names_counted ∙ get_or-set_other (counts names_in ds n) d.number m a 0 ne

  pub holds_apart : (m : ℕ) → m ≢ d.number → count_at (counts holds_in recounted n) m ≡ count_at (counts holds_in ds n) m
  holds_apart m ne = ap (λ (xs : List ℕ). count_at xs m) holds_counted ∙ get_or-set_other (counts holds_in ds n) d.number m b 0 ne
