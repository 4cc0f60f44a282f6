-- What an event reaches.
use Rattle.std.proofs.Common.{◌≡◌, ◌<◌, ℕ, zero, suc, ◌==◌, ◌&&◌, ◌⊎◌, ◌∙◌, Bool, List, [], ◌∷◌, true, false, ap, arith, filter, get_or, inl, inr, length, nat_lt, refl, subst, sym}
use Rattle.std.specs.List.{Contains}
use Rattle.ep_facts.proofs.NatFacts.{from_test, same_test}
use Rattle.ep_facts.proofs.BoolFacts.{first_of_and, or_cases, or_left, or_right, second_of_and}
use Rattle.ep_machine.specs.Bits.{IN, asked}
use Rattle.ep_machine.specs.Files.{Files}
use Rattle.ep_view.specs.KernelView.{KernelWatch, carries, reached_now, reached_within, watches_instance}
use Rattle.ep_law.specs.Laws.{Member}
use Rattle.ep_law.proofs.GraphLemmas.{member_of_map}
use Rattle.ep_law.proofs.ListLemmas.{any_has, any_member, filtered_member, filtered_passes, member_filter, member_map}
use Rattle.ep_nest.specs.Chains.{IsAbove, IsShort, LeadsBy}
use Rattle.ep_order.specs.Reach.{IsReachedFrom, ReachedIsAbove, lets_by, open_links}

pub to_contains : (es : List (ℕ × ℕ)) (p : ℕ × ℕ) → Member p es → Contains es p
to_contains [] p m = absurd m
to_contains (q ∷ es) p (inl e) = (0, omega arith, sym e)
to_contains (q ∷ es) p (inr m) = let r = to_contains es p m in (suc r.0, let lt = r.1 in omega (arith, lt), r.2)

pub from_contains : (es : List (ℕ × ℕ)) (p : ℕ × ℕ) (i : ℕ) → i < length es → (d : ℕ × ℕ) → get_or es i d ≡ p → Member p es
from_contains [] p i lt d e = absurd (omega (arith, lt))
from_contains (q ∷ es) p zero lt d e = inl (sym e)
from_contains (q ∷ es) p (suc i) lt d e = inr (from_contains es p i (omega (arith, lt)) d e)

-- the first links of a chain
abbrev pub longer : ℕ → ℕ → ℕ
longer zero k = k
longer (suc m) k = suc (longer m k)

pub starts : (es : List (ℕ × ℕ)) (m k : ℕ) (x y : ℕ) → LeadsBy es (longer m k) x y → (z : ℕ) × LeadsBy es m x z
starts es zero k x y c = (x, refl)
starts es (suc m) k x y c = let r = starts es m k c.0 y c.2 in (r.0, (c.0, c.1, r.1))

module _ (files : Files) (n : ℕ) (xs : List KernelWatch) where
  abbrev es : List (ℕ × ℕ)
  es = open_links files xs

  four : (a w r t : Bool) → (a && w && r && t) ≡ true → ((a && w && t) ≡ true) × (r ≡ true)
  four true true true true h = (refl, refl)
  four true true true false h = cc
  four true true false t h = cc
  four true false r t h = cc
  four false w r t h = cc

  four_of : (a w r t : Bool) → (a && w && t) ≡ true → r ≡ true → (a && w && r && t) ≡ true
  four_of true true true true h k = refl
  four_of true true true false h k = cc
  four_of true true false t h k = cc
  four_of true false r t h k = cc
  four_of false w r t h k = cc

  links_down : (k e : ℕ) → reached_within k files n xs e ≡ true → (m : ℕ) × (x : KernelWatch) × Member x xs × ((x.passes_in == n) ≡ true) × LeadsBy es m e x.instance
  links_down zero e h = cc
  links_down (suc k) e h =
      let r = reached_within k files n xs in
      let some = any_member (λ x. x.instance == e && carries r files n x) xs h in
      let x = some.0 in
      let at : x.instance ≡ e = from_test x.instance e (first_of_and _ _ some.2) in
      elim (or_cases (x.passes_in == n) (x.armed && watches_instance files x && r x.target && nat_lt 0 (asked x.mask IN)) (second_of_and (x.instance == e) _ some.2)) [
        | inl direct ↦ (0, x, some.1, direct, sym at)
        | inr passes ↦
            let both = four x.armed (watches_instance files x) (r x.target) (nat_lt 0 (asked x.mask IN)) passes in
            let below = links_down k x.target both.1 in
            let link : Member (e, x.target) es = subst (λ (i : ℕ). Member (i, x.target) es) at (member_map (λ y. (y.instance, y.target)) x (filter (lets_by files) xs) (member_filter (lets_by files) x xs some.1 both.0)) in
            (suc below.0, below.1, below.2, below.3, (x.target, to_contains es (e, x.target) link, below.4))
      ]

  links_up : (m k e : ℕ) (x : KernelWatch) → m < k → Member x xs → (x.passes_in == n) ≡ true → LeadsBy es m e x.instance → reached_within k files n xs e ≡ true
  links_up m zero e x lt there passes c = absurd (omega (arith, lt))
  links_up zero (suc k) e x lt there passes c =
      any_has (λ y. y.instance == e && carries (reached_within k files n xs) files n y) xs x there
      (let a = same_test x.instance e (sym c) in let b = or_left (x.passes_in == n) (x.armed && watches_instance files x && reached_within k files n xs x.target && nat_lt 0 (asked x.mask IN)) passes in λ i. a i && b i)
  links_up (suc m) (suc k) e x lt there passes c =
      let rest = links_up m k c.0 x (omega (arith, lt)) there passes c.2 in
      let w = member_of_map (λ (y : KernelWatch). (y.instance, y.target)) (filter (lets_by files) xs) (e, c.0) (from_contains es (e, c.0) c.1.0 c.1.1 (e, c.0) c.1.2) in
      let y = w.0 in
      let at : y.instance ≡ e = ap (λ (p : ℕ × ℕ). p.0) w.2 in
      let to : y.target ≡ c.0 = ap (λ (p : ℕ × ℕ). p.1) w.2 in
      any_has (λ y. y.instance == e && carries (reached_within k files n xs) files n y) xs y (filtered_member (lets_by files) xs y w.1)
      (let a = same_test y.instance e at in
      let b = or_right (y.passes_in == n) _ (four_of y.armed (watches_instance files y) (reached_within k files n xs y.target) (nat_lt 0 (asked y.mask IN)) (filtered_passes (lets_by files) xs y w.1) (ap (reached_within k files n xs) to ∙ rest)) in λ i. a i && b i)

  pub reached_is_above : (e : ℕ) → IsShort es → ((reached_now files n xs e ≡ true) → IsReachedFrom files n xs e) × (IsReachedFrom files n xs e → (reached_now files n xs e ≡ true))
  unfolding reached_now
  reached_is_above e short = (down, up) where
    down : (reached_within 5 files n xs e ≡ true) → IsReachedFrom files n xs e
    down h = let r = links_down 5 e h in (r.1, r.2, r.3, by r.0 r.4) where
      by : {y : ℕ} (m : ℕ) → LeadsBy es m e y → (e ≡ y) ⊎ IsAbove es e y
      by zero c = inl c
      by (suc m) c = inr (m, c)

    up : IsReachedFrom files n xs e → (reached_within 5 files n xs e ≡ true)
    up h = elim h.3 [ inl here ↦ links_up 0 5 e h.0 (omega arith) h.1 h.2 here | inr above ↦ by above.0 above.1 ] where
      by : (m : ℕ) → LeadsBy es (suc m) e h.0.instance → reached_within 5 files n xs e ≡ true
      by zero c = links_up 1 5 e h.0 (omega arith) h.1 h.2 c
      by (suc zero) c = links_up 2 5 e h.0 (omega arith) h.1 h.2 c
      by (suc (suc zero)) c = links_up 3 5 e h.0 (omega arith) h.1 h.2 c
      by (suc (suc (suc zero))) c = links_up 4 5 e h.0 (omega arith) h.1 h.2 c
      by (suc (suc (suc (suc m)))) c = let s = starts es 5 m e h.0.instance c in absurd (short e s.0 s.1)

pub all_reached : ReachedIsAbove
all_reached files n xs e short = reached_is_above files n xs e short
