-- The longest unreported may be picked.
use Rattle.std.proofs.Common.{◌≡◌, ℕ, zero, suc, ◌<◌, ◌≤◌, ◌==◌, ◌&&◌, Bool, true, false, List, [], ◌∷◌, length, Some, get_or, take, refl, ap, sym, ◌∙◌, arith, map, inl, inr, cond, filter, nat_le, nat_lt, nat_eq, min, All}
use Rattle.std.specs.List.{IsDistinct, AllByRecursion, list_all, Contains, cons_option}
use Rattle.std.specs.List.Sorted.{IsPermutation, IsNonDecreasingBy}
use Rattle.std.proofs.lemmas.List.{length-take, take-map}
use Rattle.std.proofs.lemmas.List.Elements.{All-take, All-filter}
use Rattle.std.proofs.lemmas.List.Sorted.{IsPermutation-map, All-permutation, length_permutation, Contains-permutation}
use Rattle.std.proofs.lemmas.Map.Keys.{IsDistinct-IsPermutation}
use Rattle.std.proofs.lemmas.Bool.{cases_Bool}
use Rattle.std.proofs.lemmas.Bool.Decides.{nat_tests}
use Rattle.ep_facts.proofs.BoolFacts.{or_right}
use Rattle.ep_facts.proofs.AmongFacts.{none_apart}
use Rattle.ep_facts.proofs.NatFacts.{le_test, same_nat, test_turned}
use Rattle.ep_machine.specs.Lists.{are_distinct, is_among}
use Rattle.ep_machine.specs.Readiness.{is_reportable, reportables}
use Rattle.ep_machine.specs.Report.{find_watch, is_fair_to, is_pick, watches_at}
use Rattle.ep_law.specs.Sound.{Sound}
use Rattle.ep_machine.specs.State.{State, Watch}

abbrev pub numbers : List Watch → List ℕ
numbers xs = map (λ x. x.number) xs

apart_at : (n : ℕ) (ws : List Watch) (k : ℕ) (d : Watch) → AllByRecursion (λ y. nat_eq n y ≡ false) (numbers ws) → k < length ws → nat_eq n (get_or ws k d).number ≡ false
apart_at n [] k d h lt = absurd (omega arith)
apart_at n (w ∷ ws) zero d h lt = h.0
apart_at n (w ∷ ws) (suc k) d h lt = apart_at n ws k d h.1 (omega arith)

find_at : (ws : List Watch) (k : ℕ) (d : Watch) → IsDistinct nat_eq (numbers ws) → k < length ws → find_watch ws (get_or ws k d).number ≡ Some (get_or ws k d)
unfolding IsDistinct
find_at [] k d h lt = absurd (omega arith)
find_at (w ∷ ws) zero d h lt = rw (same_nat w.number)
find_at (w ∷ ws) (suc k) d h lt = rw (apart_at w.number ws k d h.0 (omega arith)) (find_at ws k d h.1 (omega arith))

watches_at_all : (ws chosen : List Watch) → All (λ w. find_watch ws w.number ≡ Some w) chosen → watches_at ws (numbers chosen) ≡ chosen
watches_at_all ws [] h = refl
watches_at_all ws (c ∷ chosen) h =
    let rest = watches_at_all ws chosen (λ k d lt. h (suc k) d (omega arith)) in
    let one : find_watch ws c.number ≡ Some c = h 0 c (omega arith) in
    λ i. cons_option (one i) (rest i)

distinct_test : (ks : List ℕ) → IsDistinct nat_eq ks → are_distinct ks ≡ true
unfolding IsDistinct
distinct_test [] h = refl
distinct_test (k ∷ ks) h = rw (none_apart k ks h.0) (distinct_test ks h.1)

pub apart_filter : (n : ℕ) (p : Watch → Bool) (ws : List Watch) → AllByRecursion (λ y. nat_eq n y ≡ false) (numbers ws) → AllByRecursion (λ y. nat_eq n y ≡ false) (numbers (filter p ws))
apart_filter n p [] h = h
apart_filter n p (w ∷ ws) h = elim (p w) as (λ b. AllByRecursion (λ y. nat_eq n y ≡ false) (numbers (cond b (w ∷ filter p ws) (filter p ws)))) [ true ↦ (h.0, apart_filter n p ws h.1) | false ↦ apart_filter n p ws h.1 ]

pub distinct_filter : (p : Watch → Bool) (ws : List Watch) → IsDistinct nat_eq (numbers ws) → IsDistinct nat_eq (numbers (filter p ws))
unfolding IsDistinct
distinct_filter p [] h = h
distinct_filter p (w ∷ ws) h = elim (p w) as (λ b. IsDistinct nat_eq (numbers (cond b (w ∷ filter p ws) (filter p ws)))) [ true ↦ (apart_filter w.number p ws h.0, distinct_filter p ws h.1) | false ↦ distinct_filter p ws h.1 ]

apart_take : (n : ℕ) (k : ℕ) (ks : List ℕ) → AllByRecursion (λ y. nat_eq n y ≡ false) ks → AllByRecursion (λ y. nat_eq n y ≡ false) (take k ks)
apart_take n zero ks h = tt
apart_take n (suc k) [] h = h
apart_take n (suc k) (x ∷ ks) h = (h.0, apart_take n k ks h.1)

distinct_take : (k : ℕ) (ks : List ℕ) → IsDistinct nat_eq ks → IsDistinct nat_eq (take k ks)
unfolding IsDistinct
distinct_take zero ks h = tt
distinct_take (suc k) [] h = h
distinct_take (suc k) (x ∷ ks) h = (apart_take x k ks h.0, distinct_take k ks h.1)

list_all_is : (p : Watch → Bool) (ws : List Watch) → All (λ w. p w ≡ true) ws → list_all p ws ≡ true
list_all_is p [] h = refl
list_all_is p (w ∷ ws) h = let one : p w ≡ true = h 0 w (omega arith) in rw one (list_all_is p ws (λ k d lt. h (suc k) d (omega arith)))

has_take : (ws : List Watch) (most j : ℕ) (d : Watch) → j < most → j < length ws → is_among (numbers (take most ws)) (get_or ws j d).number ≡ true
has_take [] most j d m lt = absurd (omega arith)
has_take (w ∷ ws) zero j d m lt = absurd (omega arith)
has_take (w ∷ ws) (suc most) zero d m lt = rw (same_nat w.number)
has_take (w ∷ ws) (suc most) (suc j) d m lt =
    let rest = has_take ws most j d (omega arith) (omega arith) in or_right _ _ rest

get_take : (ws : List Watch) (most k : ℕ) (d : Watch) → k < length (take most ws) → (get_or (take most ws) k d ≡ get_or ws k d) × (k < most) × (k < length ws)
get_take ws zero k d lt = absurd (omega arith)
get_take [] (suc most) k d lt = absurd (omega arith)
get_take (w ∷ ws) (suc most) zero d lt = (refl, omega arith, omega arith)
get_take (w ∷ ws) (suc most) (suc k) d lt = let r = get_take ws most k d (omega arith) in (r.0, omega (arith, r.1), omega (arith, r.2))

same_at : (ws : List Watch) (k : ℕ) (d e : Watch) → k < length ws → get_or ws k d ≡ get_or ws k e
same_at [] k d e lt = absurd (omega arith)
same_at (w ∷ ws) zero d e lt = refl
same_at (w ∷ ws) (suc k) d e lt = same_at ws k d e (omega arith)

fair_one : (found : List Watch) (most : ℕ) (y : Watch) → IsNonDecreasingBy (λ w. w.rep) found → y.rep ≤ y.from → Contains found y → is_fair_to (take most found) (numbers (take most found)) y ≡ true
fair_one found most y sorted fair c = elim (cases_Bool (nat_lt c.0 most)) [
  | inl lt ↦
      let m : c.0 < most = grind (arith, nat_tests, lt) in
      let t : is_among (numbers (take most found)) y.number ≡ true = ap (λ (w : Watch). is_among (numbers (take most found)) w.number) (sym c.2) ∙ has_take found most c.0 y m c.1 in
      rw t
  | inr ge ↦
      let m : most ≤ c.0 = grind (arith, nat_tests, ge) in
      or_right _ _ (list_all_is (λ x. nat_le x.rep y.from) (take most found) (λ k d lt.
      let g = get_take found most k d lt in
      let le : (get_or found k d).rep ≤ (get_or found c.0 d).rep = sorted k c.0 d (omega (arith, g.1)) c.1 in
      let same : get_or found c.0 d ≡ y = same_at found c.0 d y c.1 ∙ c.2 in
      le_test _ _ (omega (arith, ap (λ (w : Watch). w.rep) g.0, le, ap (λ (w : Watch). w.rep) same, fair))))
]

-- a list of registrations of distinct numbers, some of them, and these in another order
module _ (ws : List Watch) (p : Watch → Bool) (found : List Watch) (distinct : IsDistinct nat_eq (numbers ws)) (moved : IsPermutation (filter p ws) found) where
  found_in : (xs : List Watch) → All (λ w. find_watch xs w.number ≡ Some w) (filter p ws) → (most : ℕ) → watches_at xs (numbers (take most found)) ≡ take most found
  found_in xs each most = watches_at_all xs (take most found) (All-take (λ w. find_watch xs w.number ≡ Some w) most found (All-permutation (λ w. find_watch xs w.number ≡ Some w) _ found moved each))

  found_among : (most : ℕ) → watches_at (filter p ws) (numbers (take most found)) ≡ take most found
  found_among = found_in (filter p ws) (λ k d lt. find_at (filter p ws) k d (distinct_filter p ws distinct) lt)

  distinct_found : (most : ℕ) → are_distinct (numbers (take most found)) ≡ true
  distinct_found most =
      ap are_distinct (sym (take-map (λ (w : Watch). w.number) most found)) ∙ distinct_test _ (distinct_take most (numbers found) (IsDistinct-IsPermutation nat_eq test_turned (numbers (filter p ws)) (numbers found) (IsPermutation-map (λ (w : Watch). w.number) _ found moved) (distinct_filter p ws distinct)))

length_numbers : (ws : List Watch) → length (numbers ws) ≡ length ws
length_numbers [] = refl
length_numbers (w ∷ ws) = ap suc (length_numbers ws)

pub pick_sorted : (s : State) (e most : ℕ) (found : List Watch) → Sound s → IsPermutation (reportables s e) found → IsNonDecreasingBy (λ x. x.rep) found → is_pick s e most (numbers (take most found)) ≡ true
pick_sorted s e most found sound moved sorted =
    let p : Watch → Bool = λ x. x.instance == e && is_reportable s x in
    let ready = filter p s.watches in
    let ks = numbers (take most found) in
    let told = found_among s.watches p found sound.numbers moved most in
    let dist = distinct_found s.watches p found sound.numbers moved most in
    let long : (length ks == min most (length ready)) ≡ true = ap (λ (n : ℕ). n == min most (length ready)) (length_numbers (take most found) ∙ (length-take most found ∙ ap (min most) (length_permutation _ found moved))) ∙ same_nat _ in
    let all : (length (take most found) == length ks) ≡ true = ap (λ (n : ℕ). length (take most found) == n) (length_numbers (take most found)) ∙ same_nat _ in
    let fair : list_all (is_fair_to (take most found) ks) ready ≡ true = list_all_is (is_fair_to (take most found) ks) ready (λ k d lt.
    fair_one found most (get_or ready k d) sorted (All-filter p (λ w. w.rep ≤ w.from) s.watches sound.fair k d lt)
    (Contains-permutation ready found (get_or ready k d) moved (k, lt, same_at ready k (get_or ready k d) d lt))) in
    ap (λ (xs : List Watch). are_distinct ks && length xs == length ks && length ks == min most (length ready) && list_all (is_fair_to xs ks) ready) told ∙ rw (dist, all, long, fair)
