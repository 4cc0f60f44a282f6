-- Keys and the numbers of their descriptions.
use Rattle.std.proofs.Common.{◌≡◌, ◌≢◌, ◌==◌, ℕ, List, Option, Some, None, IsSome, slice_index_or, unwrap_or, refl, ap, sym, ◌∙◌, arith, subst, inl, inr}
use Rattle.std.proofs.lemmas.Bool.{false≢true}
use Rattle.std.proofs.lemmas.Bool.Decides.{nat_tests}
use Rattle.ep_facts.proofs.NatFacts.{same_or_not}
use Rattle.ep_base.specs.declared.ids.DescId.{DescId}
use Rattle.ep_machine.specs.Files.{object_of}
use Rattle.ep_calls.specs.Stands.{KeepsKeys, number_at}
use Rattle.ep_table.specs.Value.{Seen, Sound, number_of, number_under}

-- what stands under a key that has a number
pub record Under (keys : List (Option ℕ)) (key : DescId) : Type 0 where
  pub number : ℕ
  pub is : slice_index_or keys key.0 None ≡ Some number

some_of : (o : Option ℕ) → IsSome o → (d : ℕ) × (o ≡ Some d)
some_of None h = absurd (false≢true h)
some_of (Some d) h = (d, refl)

pub under_key : (keys : List (Option ℕ)) (key : DescId) → IsSome (slice_index_or keys key.0 None) → Under keys key
under_key keys key h = let p = some_of (slice_index_or keys key.0 None) h in record { number = p.0; is = p.1 }

-- two tests with the same meaning answer alike
pub same_tests : (a b c d : ℕ) → (a ≡ b → c ≡ d) → (c ≡ d → a ≡ b) → (a == b) ≡ (c == d)
same_tests a b c d f g = elim (same_or_not a b) [
  | inl e ↦ let h = f e in grind (arith, nat_tests)
  | inr n ↦ let k : c ≢ d = λ x. n (g x) in grind (arith, nat_tests)
]

-- keys are the same where their numbers are
pub same_keys : (v : Seen) (j k : DescId) → Sound v → IsSome (number_under v j) → IsSome (number_under v k) → (number_at v.keys j == number_at v.keys k) ≡ (j.0 == k.0)
same_keys v j k sound h i =
    let p = under_key v.keys j h in
    let q = under_key v.keys k i in
    same_tests _ _ _ _
    (λ e. sound.one j k q.number (p.is ∙ ap (λ (n : ℕ). Some n) (sym (ap (λ (o : Option ℕ). unwrap_or o 0) p.is) ∙ (e ∙ ap (λ (o : Option ℕ). unwrap_or o 0) q.is))) q.is)
    (λ e. ap (λ (n : ℕ). unwrap_or (slice_index_or v.keys n None) 0) e)

-- a key that keeps its number
pub number_kept : (old new : Seen) (key : DescId) → KeepsKeys old new → IsSome (slice_index_or old.keys key.0 None) → number_at new.keys key ≡ number_at old.keys key
number_kept old new key keeps h =
    let p = under_key old.keys key h in
    ap (λ (o : Option ℕ). unwrap_or o 0) (keeps key p.number p.is ∙ sym p.is)

pub some_kept : (old new : Seen) (key : DescId) → KeepsKeys old new → IsSome (slice_index_or old.keys key.0 None) → IsSome (slice_index_or new.keys key.0 None)
some_kept old new key keeps h =
    let p = under_key old.keys key h in
    let P : Option ℕ → Type 0 = λ o. IsSome o in subst P (sym (keeps key p.number p.is)) refl

-- a live description has an object
pub object_there : (v : Seen) (key : DescId) → Sound v → IsSome (number_under v key) → IsSome (object_of v.files (number_of v key))
object_there v key sound h =
    let p = under_key v.keys key h in
    subst (λ (o : Option ℕ). IsSome (object_of v.files (unwrap_or o 0))) (sym p.is) (sound.object key p.number p.is)
