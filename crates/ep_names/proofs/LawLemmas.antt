-- What the machine gives is the lowest free number.
use Rattle.std.proofs.Common.{Bool, None, Option, Some, ap, arith, subst, if◌then◌else◌, inl, inr, refl, suc, sym, true, zero, ℕ, ◌+◌, ◌≡◌, ◌≤◌, ◌∙◌}
use Rattle.std.proofs.lemmas.Bool.{both_ways, cases_Bool, cases_eq}
use Rattle.std.specs.Option.{MatchOption}
use Rattle.ep_base.specs.declared.socket.Name.{Name}
use Rattle.ep_base.specs.declared.socket.Space.{Space}
use Rattle.ep_machine.specs.Names.{free_from, given}
use Rattle.ep_names.specs.Law.{GivenIsLowest, IsLowestFree, TakenBelow}
use Rattle.ep_names.specs.Names.{named}

module _ (taken : Name → Bool) (space : Space) where
  one_more : (k : ℕ) → TakenBelow taken space k → taken (named space k) ≡ true → TakenBelow taken space (k + 1)
  one_more k below here n a b = elim (cases_eq n k) [
    | inl is ↦ ap (λ m. taken (named space m)) is ∙ here
    | inr ne ↦ below n a (omega (arith, b, ne))
  ]

  abbrev IsGiven : Option Name → Type 0
  IsGiven found = MatchOption found (TakenBelow taken space 61000) (IsLowestFree taken space)

  from_here : (left k : ℕ) → k + left ≡ 61000 → 32768 ≤ k → TakenBelow taken space k → IsGiven (free_from taken left k space)
  from_here zero k e a below = λ n b c. below n b (omega (arith, e, c))
  from_here (suc left) k e a below = elim (cases_Bool (taken (named space k))) [
    | inl in_use ↦
        subst IsGiven (ap (λ (b : Bool). if b then free_from taken left (k + 1) space else Some (named space k)) (sym in_use))
        (from_here left (k + 1) (omega (arith, e)) (omega (arith, a)) (one_more k below in_use))
    | inr unused ↦
        subst IsGiven (ap (λ (b : Bool). if b then free_from taken left (k + 1) space else Some (named space k)) (sym unused))
        (record { in_space = refl; from = a; before = omega (arith, e); free = unused; lowest = below })
  ]

  none_if : (found : Option Name) → IsGiven found → TakenBelow taken space 61000 → found ≡ None
  none_if None is all = refl
  none_if (Some name) is all =
      absurd (both_ways (taken name) is.free (ap (λ s. taken (named s name.number)) is.in_space ∙ all name.number is.from is.before))

pub given_is_lowest : GivenIsLowest
given_is_lowest taken space =
    let is = from_here taken space 28232 32768 refl (omega arith) (λ k a b. absurd (omega (arith, a, b))) in
    (is, none_if taken space (given taken space) is)
