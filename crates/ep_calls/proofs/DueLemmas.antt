-- What the clock raises, at one live description after another.
use Rattle.std.proofs.Common.{true, false, ◌≡◌, ◌≢◌, ◌∙◌, ◌+◌, ℕ, suc, All, Bool, IsSome, List, [], ◌∷◌, None, Option, Some, ap, cond, get_or, map, refl, rules, slice_index_or, subst, sym}
use Rattle.std.proofs.lemmas.List.Elements.{All-cons}
use Rattle.std.proofs.Math.Nat.{add-zero, zero-add}
use Rattle.ep_facts.proofs.NatFacts.{shift}
use Rattle.ep_base.specs.declared.ids.DescId.{DescId}
use Rattle.ep_base.specs.declared.mask.Mask.{Mask}
use Rattle.ep_interest.specs.Registrations.{is_on, raised_on}
use Rattle.ep_interest.specs.declared.entry.Entry.{Entry}
use Rattle.ep_calls.proofs.OtherEndLemmas.{noted, zero_noted}
use Rattle.ep_calls.specs.Raising.{raised_there}
use Rattle.ep_table.specs.Live.{key_of, live_from, live_ids}

abbrev HasNumber : List (Option ℕ) → DescId → Type 0
HasNumber keys id = IsSome (slice_index_or keys id.0 None)

-- nothing is raised
either_same : (b : Bool) (x : Entry) → cond b x x ≡ x
either_same true x = refl
either_same false x = refl

one_none : (desc : DescId) (bits : Mask) (n : ℕ) (x : Entry) → bits.0 ≡ 0 → raised_on desc bits n x ≡ x
one_none desc bits n x h = ap (λ (y : Entry). cond (is_on desc x) y x) (ap (λ (k : ℕ). noted n k x) h ∙ zero_noted n x) ∙ either_same (is_on desc x) x

pub raised_none : (desc : DescId) (bits : Mask) (n : ℕ) (xs : List Entry) → bits.0 ≡ 0 → xs ≡ map (raised_on desc bits n) xs
raised_none desc bits n [] h = refl
raised_none desc bits n (x ∷ xs) h = let rest = raised_none desc bits n xs h in λ i. sym (one_none desc bits n x h) i ∷ rest i

pub raised_nowhere : (o : Option DescId) (bits : Mask) (n : ℕ) (xs : List Entry) → ((k : DescId) → o ≢ Some k) → xs ≡ map (raised_there o bits n) xs
raised_nowhere o bits n [] h = refl
raised_nowhere None bits n (x ∷ xs) h = ap (λ (ys : List Entry). x ∷ ys) (raised_nowhere None bits n xs h)
raised_nowhere (Some k) bits n (x ∷ xs) h = absurd (h k refl)

-- each key from one on that has a number
module _ (all : List (Option ℕ)) where
  abbrev IsRest : ℕ → List (Option ℕ) → Type 0
  IsRest j rest = (i : ℕ) → slice_index_or all (j + i) None ≡ get_or rest i None

  next_rest : (j : ℕ) (o : Option ℕ) (rest : List (Option ℕ)) → IsRest j (o ∷ rest) → IsRest (j + 1) rest
  next_rest j o rest h = λ i. ap (λ (n : ℕ). slice_index_or all n None) (shift j i) ∙ h (suc i)

  live_after : (j : ℕ) (rest : List (Option ℕ)) → IsRest j rest → All (HasNumber all) (live_from j rest)
  live_after j [] h = search rules
  live_after j (None ∷ rest) h = live_after (j + 1) rest (next_rest j None rest h)
  live_after j (Some n ∷ rest) h =
      let P : Option ℕ → Type 0 = λ o. IsSome o in
      All-cons (HasNumber all) (key_of j) (live_from (j + 1) rest)
      (subst P (sym (ap (λ (k : ℕ). slice_index_or all k None) (sym (add-zero j)) ∙ h 0)) refl)
      (live_after (j + 1) rest (next_rest j (Some n) rest h))

pub live_all : (keys : List (Option ℕ)) → All (HasNumber keys) (live_ids keys)
live_all keys = live_after keys 0 keys (λ i. ap (λ (n : ℕ). slice_index_or keys n None) (zero-add i))
