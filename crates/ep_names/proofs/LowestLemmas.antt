-- The lowest number that isn't taken, as the machine gives it.
use Rattle.std.proofs.Common.{Bool, None, Some, ap, arith, if◌then◌else◌, inl, inr, nat_lt, refl, suc, sym, zero, ℕ, ◌+◌, ◌<◌, ◌≡◌, ◌≢◌, ◌≤◌, ◌∙◌}
use Rattle.std.proofs.lemmas.Bool.{both_ways, cases_Bool, cases_lt, le-ltb, lt-ltb}
use Rattle.ep_base.specs.declared.socket.Name.{Name}
use Rattle.ep_base.specs.declared.socket.Space.{Space}
use Rattle.ep_machine.specs.Names.{free_from, given}
use Rattle.ep_names.specs.Names.{named}
use Rattle.ep_names.specs.Numbers.{IsLowest}

-- the machine's first free name is that of the lowest number
pub free_from_is : (taken : Name → Bool) (space : Space) (left k lowest : ℕ) → k + left ≡ 61000 → IsLowest (λ n. taken (named space n)) k lowest
    → free_from taken left k space ≡ (if nat_lt lowest 61000 then Some (named space lowest) else None)
free_from_is taken space zero k lowest e l =
    let a = l.reached in
    ap (λ (b : Bool). if b then Some (named space lowest) else None) (sym (le-ltb lowest 61000 (omega (arith, a, e))))
free_from_is taken space (suc left) k lowest e l = elim (cases_Bool (taken (named space k))) [
  | inl in_use ↦
      let a = l.reached in
      let apart : k ≢ lowest = λ same. both_ways (taken (named space k)) (ap (λ n. taken (named space n)) same ∙ l.free (omega (arith, same, e))) in_use in
      ap (λ (b : Bool). if b then free_from taken left (k + 1) space else Some (named space k)) in_use ∙ free_from_is taken space left (k + 1) lowest (omega (arith, e)) (record {
        reached = omega (arith, a, apart);
        within = l.within;
        below = λ n c d. l.below n (omega (arith, c)) d;
        free = l.free;
      })
  | inr unused ↦
      let a = l.reached in
      let b = l.within in
      let is : k ≡ lowest = elim (cases_lt k lowest) [ inl under ↦ absurd (both_ways (taken (named space k)) unused (l.below k (omega arith) under)) | inr over ↦ omega (arith, a, over) ] in
      ap (λ (t : Bool). if t then free_from taken left (k + 1) space else Some (named space k)) unused
      ∙ (ap (λ n. Some (named space n)) is ∙ ap (λ (t : Bool). if t then Some (named space lowest) else None) (sym (lt-ltb lowest 61000 (omega (arith, e, is)))))
]

module _ (taken : Name → Bool) (space : Space) (lowest : ℕ) (l : IsLowest (λ n. taken (named space n)) 32768 lowest) where
  pub given_some : lowest < 61000 → Some (named space lowest) ≡ given taken space
  given_some a =
      let is = free_from_is taken space 28232 32768 lowest refl l in
      sym (is ∙ ap (λ (b : Bool). if b then Some (named space lowest) else None) (lt-ltb lowest 61000 a))

  pub given_none : 61000 ≤ lowest → None ≡ given taken space
  given_none a =
      let is = free_from_is taken space 28232 32768 lowest refl l in
      sym (is ∙ ap (λ (b : Bool). if b then Some (named space lowest) else None) (le-ltb lowest 61000 a))
