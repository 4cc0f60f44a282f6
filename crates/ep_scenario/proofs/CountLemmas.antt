-- Orders are counted.
use Rattle.std.proofs.Common.{List, [], ap, arith, false, get_or, inl, inr, length, map, refl, set, subst, suc, sym, true, zero, ℕ, ◌+◌, ◌++◌, ◌<◌, ◌≡◌, ◌∷◌}
use Rattle.std.proofs.lemmas.Bool.{cases_lt}
use Rattle.std.specs.Prelude.{bytes_eq}
use Rattle.ep_scenario.specs.declared.step.Step.{Step}
use Rattle.ep_scenario.specs.declared.tally.Outcome.{Outcome}
use Rattle.ep_scenario.specs.Outcomes.{Seen, counted, first_of, no_outcome, one_more, seen_of}

-- none of the first so many is it
abbrev pub NoneUpTo : List ℕ → List Seen → ℕ → Type 0
NoneUpTo told seen n = (k : ℕ) → k < n → k < length seen → bytes_eq (get_or seen k no_outcome).told told ≡ false

pub none_more : (told : List ℕ) (seen : List Seen) (n : ℕ) → NoneUpTo told seen n → bytes_eq (get_or seen n no_outcome).told told ≡ false → NoneUpTo told seen (n + 1)
none_more told seen n none here k less within =
    elim (cases_lt k n) [
      | inl lt ↦ none k lt within
      | inr ge ↦ let same : n ≡ k = omega (arith, less, ge) in subst (λ m. bytes_eq (get_or seen m no_outcome).told told ≡ false) same here
    ]

pub counted_here : (told : List ℕ) (steps : List Step) (number : ℕ) (seen : List Seen) (n : ℕ) → n < length seen → NoneUpTo told seen n
    → bytes_eq (get_or seen n no_outcome).told told ≡ true → counted told steps number seen ≡ set seen n (one_more (get_or seen n no_outcome))
counted_here told steps number [] n within none here = absurd (omega (arith, within))
counted_here told steps number (s ∷ ss) zero within none here = rw here refl
counted_here told steps number (s ∷ ss) (suc n) within none here =
    rw (none 0 (omega arith) (omega arith)) (ap (λ xs. s ∷ xs) (counted_here told steps number ss n (omega (arith, within)) (λ k less inside. none (suc k) (omega (arith, less)) (omega (arith, inside))) here))

pub counted_new : (told : List ℕ) (steps : List Step) (number : ℕ) (seen : List Seen) → NoneUpTo told seen (length seen)
    → counted told steps number seen ≡ seen ++ first_of told steps number ∷ []
counted_new told steps number [] none = refl
counted_new told steps number (s ∷ ss) none =
    rw (none 0 (omega arith) (omega arith)) (ap (λ xs. s ∷ xs) (counted_new told steps number ss (λ k less inside. none (suc k) (omega (arith, less)) (omega (arith, inside)))))

-- what stands at a place of the outcomes
pub seen_at : (outcomes : List Outcome) (n : ℕ) (o : Outcome) → n < length outcomes → o ≡ get_or outcomes n o → get_or (map seen_of outcomes) n no_outcome ≡ seen_of o
seen_at [] n o within e = absurd (omega (arith, within))
seen_at (x ∷ xs) zero o within e = ap seen_of (sym e)
seen_at (x ∷ xs) (suc n) o within e = seen_at xs n o (omega (arith, within)) e
