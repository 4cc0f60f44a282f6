-- The value as a map, after a place is made.
use Rattle.std.proofs.Common.{◌≡◌, ◌≢◌, ℕ, ◌<◌, ◌≤◌, List, [], ◌∷◌, ◌++◌, length, set, Option, Some, None, sym, ap, ◌∙◌, inl, inr, arith, length-append, length-set, if◌then◌else◌, nat_lt}
use Rattle.std.proofs.lemmas.Bool.{cases_lt, lt-ltb, le-ltb}
use Rattle.std.proofs.lemmas.List.{get_or_past, get_or-set_same, get_or-set_other, get_or_append_left}
use Rattle.std.proofs.Math.Seq.{get_or-append_seam}
use Rattle.ep_due.specs.DueQueue.{moment_at, GainsPlace, HasFreePlace}

-- the place with no moment, beside the others
abbrev pub with_place : List (Option (Option ℕ)) → ℕ → List (Option (Option ℕ))
with_place v p = if nat_lt p (length v) then set v p (Some None) else v ++ Some None ∷ []

-- a place is added within the list, or at its end
pub record Extends (old new : List (Option (Option ℕ))) (p : ℕ) : Type 0 where
  pub free : moment_at old p ≡ None
  pub near : p ≤ length old
  pub value : new ≡ with_place old p

module _ (v : List (Option (Option ℕ))) (p : ℕ) where
  over : p < length v → with_place v p ≡ set v p (Some None)
  over l = ap (λ b. if b then set v p (Some None) else v ++ Some None ∷ []) (lt-ltb p (length v) l)

  beyond : length v ≤ p → with_place v p ≡ v ++ Some None ∷ []
  beyond l = ap (λ b. if b then set v p (Some None) else v ++ Some None ∷ []) (le-ltb p (length v) l)

  made_at : p ≤ length v → moment_at (with_place v p) p ≡ Some None
  made_at near = elim (cases_lt p (length v)) [
    | inl l ↦ ap (λ w. moment_at w p) (over l) ∙ get_or-set_same v p (Some None) None l
    | inr g ↦
        let is : p ≡ length v = omega arith in
        ap (λ w. moment_at w p) (beyond g) ∙ (ap (moment_at (v ++ Some None ∷ [])) is ∙ get_or-append_seam v (Some None) [] None)
  ]

  kept_at : p ≤ length v → (q : ℕ) → q ≢ p → moment_at (with_place v p) q ≡ moment_at v q
  kept_at near q ne = elim (cases_lt p (length v)) [
    | inl l ↦ ap (λ w. moment_at w q) (over l) ∙ get_or-set_other v p q (Some None) None ne
    | inr g ↦ ap (λ w. moment_at w q) (beyond g) ∙ elim (cases_lt q (length v)) [
      | inl old ↦ get_or_append_left v (Some None ∷ []) None q old
      | inr far ↦
          let long = length-append v (Some None ∷ []) in
          get_or_past (v ++ Some None ∷ []) q None (omega (arith, long)) ∙ sym (get_or_past v q None far)
    ]
  ]

-- the place has no moment, and the others are as they were
pub gains_place : (old new : List (Option (Option ℕ))) (p : ℕ) → Extends old new p → GainsPlace old new p
gains_place old new p e = record {
  free = e.free;
  here = ap (λ w. moment_at w p) e.value ∙ made_at old p e.near;
  others = λ q ne. ap (λ w. moment_at w q) e.value ∙ kept_at old p e.near q ne;
}

-- a place that was dropped is free
pub free_dropped : (v : List (Option (Option ℕ))) (p : ℕ) (x : Option ℕ) → moment_at v p ≡ Some x → HasFreePlace (set v p None)
free_dropped v p x e = elim (cases_lt p (length v)) [
  | inl l ↦ (p, omega (arith, l, length-set v p None), get_or-set_same v p None None l)
  | inr g ↦ absurd (let f : None ≡ Some x = sym (get_or_past v p None g) ∙ e in cc)
]
