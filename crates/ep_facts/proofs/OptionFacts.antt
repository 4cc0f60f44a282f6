-- What is there, or isn't.
use Rattle.std.proofs.Common.{◌≡◌, ◌∙◌, ℕ, true, false, IsSome, None, Option, Some, ap, is_none, is_some, refl, sym, unwrap_or}
use Rattle.std.specs.Option.{option_map}
use Rattle.std.proofs.lemmas.Bool.{false≢true}
use Rattle.std.proofs.lemmas.Option.{none-some}

pub some_same : {A : Type 0} (a b : A) → Some a ≡ Some b → a ≡ b
some_same a b h = ap (λ o. unwrap_or o a) h

pub some_is : {A : Type 0} (o : Option A) (a : A) → o ≡ Some a → IsSome o
some_is None a e = absurd (none-some a e)
some_is (Some b) a e = refl

pub value_of : {A : Type 0} (o : Option A) → IsSome o → (a : A) × (o ≡ Some a)
value_of None h = absurd (false≢true h)
value_of (Some a) h = (a, refl)

pub number_of : (o : Option ℕ) → IsSome o → o ≡ Some (unwrap_or o 0)
number_of None h = absurd (false≢true h)
number_of (Some n) h = refl

pub number_unless_none : (o : Option ℕ) → is_none o ≡ false → o ≡ Some (unwrap_or o 0)
number_unless_none None h = absurd (false≢true (sym h))
number_unless_none (Some n) h = refl

pub none_is_some : {A : Type 0} (a : A) (o : Option A) → o ≡ None → o ≡ Some a → ⊥
none_is_some a o h k = none-some a (sym h ∙ k)

pub some_not_none : {A : Type 0} (o : Option A) → is_some o ≡ true → is_none o ≡ false
some_not_none None h = sym h
some_not_none (Some a) h = refl

pub some_mapped : {A B : Type 0} (f : A → B) (o : Option A) → is_some (option_map f o) ≡ is_some o
some_mapped f None = refl
some_mapped f (Some a) = refl
