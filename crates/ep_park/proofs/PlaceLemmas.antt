-- Places of one instance, and the first of them.
use Rattle.std.proofs.Common.{◌≡◌, ℕ, true, false, ◌<◌, refl, sym, ap, ◌∙◌, inl, inr, nat_eq, eqb, nat_lt, arith}
use Rattle.std.proofs.lemmas.Bool.{eq-eqb, ltb-true}
use Rattle.std.proofs.lemmas.Bool.Decides.{eqb_tells}
use Rattle.std.proofs.lemmas.Map.Lookups.{exact_unsigned}
use Rattle.std.specs.Ordering.{is_eq, nat_cmp, ordering_then}
use Rattle.std.specs.declared.cmp.Ordering.{Ordering}
use Rattle.std.specs.declared.cmp.Ordering.TheVariants.{Equal, Greater, Less}
use Rattle.ep_park.proofs.ViewLemmas.{either}
use Rattle.ep_park.specs.Queue.{place_cmp}
use Rattle.ep_park.specs.declared.place.Place.{Place}

pub cmp_self : (n : ℕ) → nat_cmp n n ≡ Equal
cmp_self n =
    let lt : nat_lt n n ≡ false = elim (either (nat_lt n n)) [ inl y ↦ let l = ltb-true n n y in absurd (omega (arith, l)) | inr off ↦ off ] in
    let eq : eqb n n ≡ true = eq-eqb n n refl in
    rw (lt, eq) refl

pub cmp_below : (a b : ℕ) → a < b → nat_cmp b a ≡ Greater
cmp_below a b l =
    let lt : nat_lt b a ≡ false = elim (either (nat_lt b a)) [ inl y ↦ let k = ltb-true b a y in absurd (omega (arith, l, k)) | inr off ↦ off ] in
    let eq : eqb b a ≡ false = elim (eqb_tells b a) [ inl p ↦ let e = p.1 in absurd (omega (arith, l, e)) | inr p ↦ p.0 ] in
    rw (lt, eq) refl

-- the test of a key is that of the number
pub key_test : (a b : ℕ) → is_eq (nat_cmp a b) ≡ nat_eq a b
key_test a b = elim (eqb_tells a b) [
  | inl p ↦ ap (λ n. is_eq (nat_cmp a n)) (sym p.1) ∙ (ap is_eq (cmp_self a) ∙ sym p.0)
  | inr p ↦ rw p.0 (elim (either (nat_lt a b)) [ inl y ↦ rw y refl | inr n ↦ rw n refl ])
]

then_equal : (o p : Ordering) → is_eq (ordering_then o p) ≡ true → (o ≡ Equal) × (p ≡ Equal)
then_equal Equal Equal e = (refl, refl)
then_equal Equal Less e = absurd (cc)
then_equal Equal Greater e = absurd (cc)
then_equal Less p e = absurd (cc)
then_equal Greater p e = absurd (cc)

pub same_place : (a b : Place) → is_eq (place_cmp a b) ≡ true → (a.instance ≡ b.instance) × (a.ticket ≡ b.ticket)
same_place a b e =
    let both = then_equal (nat_cmp a.instance b.instance) (nat_cmp a.ticket b.ticket) e in
    (exact_unsigned a.instance b.instance both.0, exact_unsigned a.ticket b.ticket both.1)

pub own_place : (a : Place) → is_eq (place_cmp a a) ≡ true
own_place a = rw (cmp_self a.instance, cmp_self a.ticket) refl

pub other_place : (a b : Place) → (a.instance ≡ b.instance → a.ticket ≡ b.ticket → ⊥) → is_eq (place_cmp a b) ≡ false
other_place a b apart = elim (either (is_eq (place_cmp a b))) [
  | inl y ↦ let s = same_place a b y in absurd (apart s.0 s.1)
  | inr n ↦ n
]
