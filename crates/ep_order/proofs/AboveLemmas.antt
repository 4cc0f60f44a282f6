-- What is above an instance, and what is guarded, as chains of links.
use Rattle.std.proofs.Common.{◌≡◌, ◌<◌, ℕ, zero, suc, ◌==◌, ◌&&◌, ◌||◌, ◌⊎◌, ◌∙◌, Bool, List, true, false, ap, arith, filter, inl, inr, map, nat_lt, refl, subst, sym}
use Rattle.std.proofs.lemmas.Bool.{false≢true}
use Rattle.ep_facts.proofs.NatFacts.{from_test, same_test}
use Rattle.ep_facts.proofs.BoolFacts.{first_of_and, or_cases, or_left, or_right, second_of_and}
use Rattle.ep_machine.specs.Bits.{IN, asked}
use Rattle.ep_machine.specs.Files.{Files}
use Rattle.ep_law.specs.Laws.{Member, has_instance}
use Rattle.ep_law.proofs.GraphLemmas.{member_of_map}
use Rattle.ep_law.proofs.ListLemmas.{any_has, any_member, any_same, filtered_member, filtered_passes, member_filter, member_map}
use Rattle.ep_nest.specs.Chains.{IsAbove, IsShort, LeadsBy}
use Rattle.ep_order.specs.Reach.{AboveIsAbove, GuardedIsAbove, IsGuardedBy, all_links, lets_by, open_links}
use Rattle.ep_order.proofs.ReachLemmas.{from_contains, starts, to_contains}
use Rattle.ep_view.specs.KernelView.{KernelWatch, any_within, watches_instance}
use Rattle.ep_view.specs.Marking.{above_now, guarded_now, guards, is_guard, lets_up}

-- A test that some registrations pass by themselves, and others if the instance that they watch does.
module _ (direct link : KernelWatch → Bool) (xs : List KernelWatch) where
  abbrev passes : (ℕ → Bool) → KernelWatch → Bool
  passes r x = direct x || link x && r x.target

  abbrev es : List (ℕ × ℕ)
  es = map (λ x. (x.instance, x.target)) (filter link xs)

  abbrev pub IsFrom : ℕ → Type 0
  IsFrom e = (x : KernelWatch) × Member x xs × (direct x ≡ true) × ((e ≡ x.instance) ⊎ IsAbove es e x.instance)

  down : (k e : ℕ) → any_within passes k xs e ≡ true → (m : ℕ) × (x : KernelWatch) × Member x xs × (direct x ≡ true) × LeadsBy es m e x.instance
  down zero e h = absurd (false≢true h)
  down (suc k) e h =
      let some = any_member (λ x. x.instance == e && passes (any_within passes k xs) x) xs h in
      let x = some.0 in
      let at : x.instance ≡ e = from_test x.instance e (first_of_and _ _ some.2) in
      elim (or_cases (direct x) (link x && any_within passes k xs x.target) (second_of_and (x.instance == e) _ some.2)) [
        | inl here ↦ (0, x, some.1, here, sym at)
        | inr through ↦
            let below = down k x.target (second_of_and (link x) _ through) in
            let edge : Member (e, x.target) es = subst (λ (i : ℕ). Member (i, x.target) es) at (member_map (λ y. (y.instance, y.target)) x (filter link xs) (member_filter link x xs some.1 (first_of_and (link x) _ through))) in
            (suc below.0, below.1, below.2, below.3, (x.target, to_contains es (e, x.target) edge, below.4))
      ]

  up : (m k e : ℕ) (x : KernelWatch) → m < k → Member x xs → direct x ≡ true → LeadsBy es m e x.instance → any_within passes k xs e ≡ true
  up m zero e x lt there here c = absurd (omega (arith, lt))
  up zero (suc k) e x lt there here c =
      any_has (λ y. y.instance == e && passes (any_within passes k xs) y) xs x there
      (let a = same_test x.instance e (sym c) in let b = or_left (direct x) (link x && any_within passes k xs x.target) here in λ i. a i && b i)
  up (suc m) (suc k) e x lt there here c =
      let rest = up m k c.0 x (omega (arith, lt)) there here c.2 in
      let w = member_of_map (λ (y : KernelWatch). (y.instance, y.target)) (filter link xs) (e, c.0) (from_contains es (e, c.0) c.1.0 c.1.1 (e, c.0) c.1.2) in
      let y = w.0 in
      let at : y.instance ≡ e = ap (λ (p : ℕ × ℕ). p.0) w.2 in
      let to : y.target ≡ c.0 = ap (λ (p : ℕ × ℕ). p.1) w.2 in
      let passed = filtered_passes link xs y w.1 in
      let below : any_within passes k xs y.target ≡ true = ap (any_within passes k xs) to ∙ rest in
      any_has (λ y. y.instance == e && passes (any_within passes k xs) y) xs y (filtered_member link xs y w.1)
      (let a = same_test y.instance e at in let b = or_right (direct y) (link y && any_within passes k xs y.target) (λ i. passed i && below i) in λ i. a i && b i)

  pub within_is_from : (e : ℕ) → IsShort es → ((any_within passes 5 xs e ≡ true) → IsFrom e) × (IsFrom e → (any_within passes 5 xs e ≡ true))
  within_is_from e short = (to, from) where
    to : (any_within passes 5 xs e ≡ true) → IsFrom e
    to h = let r = down 5 e h in (r.1, r.2, r.3, by r.0 r.4) where
      by : {y : ℕ} (m : ℕ) → LeadsBy es m e y → (e ≡ y) ⊎ IsAbove es e y
      by zero c = inl c
      by (suc m) c = inr (m, c)

    from : IsFrom e → (any_within passes 5 xs e ≡ true)
    from h = elim h.3 [ inl here ↦ up 0 5 e h.0 (omega arith) h.1 h.2 here | inr above ↦ by above.0 above.1 ] where
      by : (m : ℕ) → LeadsBy es (suc m) e h.0.instance → any_within passes 5 xs e ≡ true
      by zero c = up 1 5 e h.0 (omega arith) h.1 h.2 c
      by (suc zero) c = up 2 5 e h.0 (omega arith) h.1 h.2 c
      by (suc (suc zero)) c = up 3 5 e h.0 (omega arith) h.1 h.2 c
      by (suc (suc (suc zero))) c = up 4 5 e h.0 (omega arith) h.1 h.2 c
      by (suc (suc (suc (suc m)))) c = let s = starts es 5 m e h.0.instance c in absurd (short e s.0 s.1)

-- two tests of levels that agree
same_within : (s t : (ℕ → Bool) → KernelWatch → Bool) (xs : List KernelWatch) → ((k : ℕ) (x : KernelWatch) → Member x xs → s (any_within s k xs) x ≡ t (any_within s k xs) x) → (k e : ℕ) → any_within s k xs e ≡ any_within t k xs e
same_within s t xs h zero e = refl
same_within s t xs h (suc k) e =
    any_same (λ x. x.instance == e && s (any_within s k xs) x) (λ x. x.instance == e && t (any_within t k xs) x) xs
    (λ x m. ap (λ (b : Bool). x.instance == e && b) (h k x m ∙ ap (λ (r : ℕ → Bool). t r x) (λ i d. same_within s t xs h k d i)))

-- Above an instance.
module _ (files : Files) (xs : List KernelWatch) (below : ℕ) where
  abbrev starts_up : KernelWatch → Bool
  starts_up x = x.armed && below == x.target && nat_lt 0 (asked x.mask IN)

  split : (a b w r q : Bool) → (a && (b || w && r) && q) ≡ ((a && b && q) || (a && w && q) && r)
  split false b w r q = refl
  split true true true true true = refl
  split true true true true false = refl
  split true true true false true = refl
  split true true true false false = refl
  split true true false r true = refl
  split true true false r false = refl
  split true false true true true = refl
  split true false true true false = refl
  split true false true false true = refl
  split true false true false false = refl
  split true false false r true = refl
  split true false false r false = refl

  above_by : (e : ℕ) → above_now files xs below e ≡ any_within (passes starts_up (lets_by files) xs) 5 xs e
  unfolding above_now
  above_by e = same_within (lets_up files below) (passes starts_up (lets_by files) xs) xs (λ k x m. split x.armed (below == x.target) (watches_instance files x) (any_within (lets_up files below) k xs x.target) (nat_lt 0 (asked x.mask IN))) 5 e

  three : (a b q w : Bool) → (a && b && q) ≡ true → w ≡ true → (a && w && q) ≡ true
  three true true true w h k = ap (λ (b : Bool). b && true) k
  three true true false w h k = absurd (false≢true h)
  three true false q w h k = absurd (false≢true h)
  three false b q w h k = absurd (false≢true h)

  parts : (a w q b : Bool) → (a && w && q) ≡ true → b ≡ true → (a && b && q) ≡ true
  parts true true true b h k = ap (λ (c : Bool). c && true) k
  parts true true false b h k = absurd (false≢true h)
  parts true false q b h k = absurd (false≢true h)
  parts false w q b h k = absurd (false≢true h)

  middle : (a b q : Bool) → (a && b && q) ≡ true → b ≡ true
  middle true true q h = refl
  middle true false q h = absurd (false≢true h)
  middle false b q h = absurd (false≢true h)

  module _ (holds : has_instance files below ≡ true) where
    abbrev links_up : List (ℕ × ℕ)
    links_up = open_links files xs

    -- one that starts is the last link of a chain
    last_link : (x : KernelWatch) → Member x xs → starts_up x ≡ true → Member (x.instance, below) links_up
    last_link x m h =
        let at : below ≡ x.target = from_test below x.target (middle x.armed (below == x.target) (nat_lt 0 (asked x.mask IN)) h) in
        let lets : lets_by files x ≡ true = three x.armed (below == x.target) (nat_lt 0 (asked x.mask IN)) (watches_instance files x) h (ap (has_instance files) (sym at) ∙ holds) in
        subst (λ (d : ℕ). Member (x.instance, d) links_up) (sym at) (member_map (λ y. (y.instance, y.target)) x (filter (lets_by files) xs) (member_filter (lets_by files) x xs m lets))

    longer_by : (n : ℕ) (e y z : ℕ) → LeadsBy links_up n e y → Member (y, z) links_up → LeadsBy links_up (suc n) e z
    longer_by zero e y z c l = (z, to_contains links_up (e, z) (subst (λ (d : ℕ). Member (d, z) links_up) (sym c) l), refl)
    longer_by (suc n) e y z c l = (c.0, c.1, longer_by n c.0 y z c.2 l)

    -- a chain's last link is of one that starts
    first_from : (n : ℕ) (e : ℕ) → LeadsBy links_up (suc n) e below → (x : KernelWatch) × Member x xs × (starts_up x ≡ true) × LeadsBy links_up n e x.instance
    first_from zero e c =
        let w = member_of_map (λ (y : KernelWatch). (y.instance, y.target)) (filter (lets_by files) xs) (e, c.0) (from_contains links_up (e, c.0) c.1.0 c.1.1 (e, c.0) c.1.2) in
        let y = w.0 in
        let to : y.target ≡ below = ap (λ (p : ℕ × ℕ). p.1) w.2 ∙ c.2 in
        (y, filtered_member (lets_by files) xs y w.1, parts y.armed (watches_instance files y) (nat_lt 0 (asked y.mask IN)) (below == y.target) (filtered_passes (lets_by files) xs y w.1) (same_test below y.target (sym to)), sym (ap (λ (p : ℕ × ℕ). p.0) w.2))
    first_from (suc n) e c = let r = first_from n c.0 c.2 in (r.0, r.1, r.2, (c.0, c.1, r.3))

    above_both : (e : ℕ) → IsShort links_up → ((above_now files xs below e ≡ true) → IsAbove links_up e below) × (IsAbove links_up e below → (above_now files xs below e ≡ true))
    above_both e short =
        let both = within_is_from starts_up (lets_by files) xs e short in (
          λ h. let f = both.0 (sym (above_by e) ∙ h) in elim f.3 [
            | inl here ↦ (0, longer_by 0 e f.0.instance below here (last_link f.0 f.1 f.2))
            | inr above ↦ (suc above.0, longer_by (suc above.0) e f.0.instance below above.1 (last_link f.0 f.1 f.2))
          ],
          λ up. above_by e ∙ both.1 (by up.0 (first_from up.0 e up.1)),
        ) where
          by : (n : ℕ) → ((x : KernelWatch) × Member x xs × (starts_up x ≡ true) × LeadsBy links_up n e x.instance) → IsFrom starts_up (lets_by files) xs e
          by zero r = (r.0, r.1, r.2, inl r.3)
          by (suc n) r = (r.0, r.1, r.2, inr (n, r.3))

pub above_is_above : AboveIsAbove
above_is_above files xs below e short holds = above_both files xs below holds e short

-- What is guarded.
module _ (files : Files) (xs : List KernelWatch) (instances : (x : KernelWatch) → Member x xs → has_instance files x.instance ≡ true) where
  guarded_instance : (k e : ℕ) → any_within guards k xs e ≡ true → has_instance files e ≡ true
  guarded_instance zero e h = absurd (false≢true h)
  guarded_instance (suc k) e h =
      let some = any_member (λ x. x.instance == e && guards (any_within guards k xs) x) xs h in
      ap (has_instance files) (sym (from_test some.0.instance e (first_of_and _ _ some.2))) ∙ instances some.0 some.1

  with_link : (g w r : Bool) → (r ≡ true → w ≡ true) → (g || r) ≡ (g || w && r)
  with_link true w r h = refl
  with_link false w true h = ap (λ (b : Bool). b && true) (sym (h refl))
  with_link false true false h = refl
  with_link false false false h = refl

  guarded_by : (e : ℕ) → guarded_now xs e ≡ any_within (passes is_guard (watches_instance files) xs) 5 xs e
  unfolding guarded_now
  guarded_by e = same_within guards (passes is_guard (watches_instance files) xs) xs (λ k x m. with_link (is_guard x) (watches_instance files x) (any_within guards k xs x.target) (guarded_instance k x.target)) 5 e

  guarded_both : (e : ℕ) → IsShort (all_links files xs) → ((guarded_now xs e ≡ true) → IsGuardedBy files xs e) × (IsGuardedBy files xs e → (guarded_now xs e ≡ true))
  guarded_both e short =
      let both = within_is_from is_guard (watches_instance files) xs e short in (λ h. both.0 (sym (guarded_by e) ∙ h), λ h. guarded_by e ∙ both.1 h)

pub guarded_is_above : GuardedIsAbove
guarded_is_above files xs e short instances = guarded_both files xs instances e short
