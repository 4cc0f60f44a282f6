-- What is first in a list is a pick of the machine.
use Rattle.std.proofs.Common.{◌≡◌, ◌≤◌, ◌+◌, ◌∙◌, ◌&&◌, ◌==◌, ℕ, zero, suc, Bool, true, false, not, List, [], ◌∷◌, None, Option, Some, ap, arith, cond, filter, inl, inr, is_some, length, map, min, nat_eq, nat_le, refl, subst, sym, take, unwrap_or}
use Rattle.std.specs.List.{IsDistinct, cons_option, filter_map, list_all}
use Rattle.std.specs.Option.{option_map}
use Rattle.std.proofs.lemmas.Bool.{cases_Bool, false_from_ne_true, false≢true}
use Rattle.std.proofs.lemmas.Bool.Decides.{nat_tests}
use Rattle.std.proofs.lemmas.List.{length-take}
use Rattle.ep_facts.proofs.NatFacts.{le_test, same_test}
use Rattle.ep_facts.proofs.OptionFacts.{value_of}
use Rattle.ep_facts.proofs.AmongFacts.{none_apart}
use Rattle.ep_facts.proofs.BoolFacts.{not_and, or_left, or_right, second_of_and}
use Rattle.ep_law.specs.Laws.{Member, is_reportable_in}
use Rattle.ep_machine.specs.Lists.{are_distinct, is_among}
use Rattle.ep_machine.specs.Readiness.{is_reportable, reportables}
use Rattle.ep_machine.specs.Report.{find_watch, is_fair_to, watches_at}
use Rattle.ep_law.specs.Sound.{Sound}
use Rattle.ep_machine.specs.State.{State, Watch}
use Rattle.ep_law.proofs.ListLemmas.{among, among_member, distinct_filtered, filtered_member, filtered_passes, find_member, mapped_member, member_filter, member_map, one_number, taken_member}
use Rattle.ep_law.proofs.PickLemmas.{distinct_filter, numbers}
use Rattle.ep_order.specs.Pick.{FirstArePick, of_number, turns_of}
use Rattle.ep_order.proofs.OrderLemmas.{first_are_fair}

is_not : (a b : Bool) → (not a && b) ≡ true → a ≡ false
is_not true b h = cc
is_not false b h = refl

distinct_taken : (n : ℕ) (xs : List ℕ) → are_distinct xs ≡ true → are_distinct (take n xs) ≡ true
distinct_taken zero xs h = refl
distinct_taken (suc n) [] h = refl
distinct_taken (suc n) (x ∷ xs) h =
    let rest = distinct_taken n xs (second_of_and (not (is_among xs x)) (are_distinct xs) h) in
    let new = is_not (is_among xs x) (are_distinct xs) h in
    not_and _ _ (false_from_ne_true _ (λ t. false≢true (sym new ∙ among x xs (taken_member n xs x (among_member (take n xs) x t))))) rest

-- without one that is there
abbrev without : ℕ → List ℕ → List ℕ
without x ys = filter (λ y. not (y == x)) ys

fewer : (x : ℕ) (ys : List ℕ) → length (without x ys) ≤ length ys
fewer x [] = omega arith
fewer x (y ∷ ys) = let rest = fewer x ys in elim (y == x) as (λ b. length (cond (not b) (y ∷ without x ys) (without x ys)) ≤ length (y ∷ ys)) [ true ↦ omega (arith, rest) | false ↦ omega (arith, rest) ]

one_less : (x : ℕ) (ys : List ℕ) → is_among ys x ≡ true → length (without x ys) + 1 ≤ length ys
one_less x [] h = cc
one_less x (y ∷ ys) h = elim (cases_Bool (y == x)) [
  | inl t ↦
      let le = fewer x ys in
      let is : length (without x (y ∷ ys)) ≡ length (without x ys) = ap (λ (b : Bool). length (cond (not b) (y ∷ without x ys) (without x ys))) t in
      omega (arith, le, is)
  | inr f ↦
      let there : is_among ys x ≡ true = elim (among_member (y ∷ ys) x h) [ inl e ↦ absurd (false≢true (sym f ∙ same_test y x (sym e))) | inr m ↦ among x ys m ] in
      let rest = one_less x ys there in
      let is : length (without x (y ∷ ys)) ≡ suc (length (without x ys)) = ap (λ (b : Bool). length (cond (not b) (y ∷ without x ys) (without x ys))) f in
      omega (arith, rest, is)
]

differs : (a b : ℕ) → (a ≡ b → ⊥) → not (a == b) ≡ true
differs a b h = grind (arith, nat_tests, h)

-- distinct numbers, each of which is among others, are no more than these
no_more : (xs ys : List ℕ) → are_distinct xs ≡ true → ((k : ℕ) → Member k xs → is_among ys k ≡ true) → length xs ≤ length ys
no_more [] ys d h = omega arith
no_more (x ∷ xs) ys d h =
    let new = is_not (is_among xs x) (are_distinct xs) d in
    let rest = no_more xs (without x ys) (second_of_and (not (is_among xs x)) (are_distinct xs) d)
    (λ k m. among k (without x ys) (member_filter (λ y. not (y == x)) k ys (among_member ys k (h k (inr m))) (differs k x (λ e. false≢true (sym new ∙ among x xs (subst (λ (j : ℕ). Member j xs) e m)))))) in
    let less = one_less x ys (h x (inl refl)) in
    omega (arith, rest, less)

same_many : (a b : ℕ) → a ≤ b → b ≤ a → a ≡ b
same_many a b h k = omega (arith, h, k)

distinct_test : (ks : List ℕ) → IsDistinct nat_eq ks → are_distinct ks ≡ true
unfolding IsDistinct
distinct_test [] h = refl
distinct_test (k ∷ ks) h = rw (none_apart k ks h.0) (distinct_test ks h.1)

same_length : (xs : List Watch) → length (numbers xs) ≡ length xs
same_length [] = refl
same_length (x ∷ xs) = ap suc (same_length xs)

-- each is found
pub found_one : (xs : List Watch) (x : Watch) → Member x xs → is_some (find_watch xs x.number) ≡ true
found_one [] x m = absurd m
found_one (y ∷ ys) x m = elim (cases_Bool (y.number == x.number)) [
  | inl t ↦ ap (λ (b : Bool). is_some (cond b (Some y) (find_watch ys x.number))) t
  | inr f ↦
      let there : Member x ys = elim m [ inl e ↦ absurd (false≢true (sym f ∙ same_test y.number x.number (ap (λ (w : Watch). w.number) (sym e)))) | inr n ↦ n ] in
      ap (λ (b : Bool). is_some (cond b (Some y) (find_watch ys x.number))) f ∙ found_one ys x there
]

-- as many are found as are sought, if each is there
pub all_found : (h : ℕ → Option Watch) (ks : List ℕ) → ((k : ℕ) → Member k ks → is_some (h k) ≡ true) → length (filter_map h ks) ≡ length ks
all_found h [] each = refl
all_found h (k ∷ ks) each =
    let rest = all_found h ks (λ j m. each j (inr m)) in
    let one : (o : Option Watch) → is_some o ≡ true → length (cons_option o (filter_map h ks)) ≡ suc (length ks) = λ o. elim o as (λ p. is_some p ≡ true → length (cons_option p (filter_map h ks)) ≡ suc (length ks)) [ None ↦ λ t. cc | Some y ↦ λ t. ap suc rest ] in
    one (h k) (each k (inl refl))

-- and what is found was sought
pub sought : (h : ℕ → Option Watch) (ks : List ℕ) (x : Watch) → Member x (filter_map h ks) → (k : ℕ) × Member k ks × (h k ≡ Some x)
sought h [] x m = absurd m
sought h (k ∷ ks) x m =
    let Q : Option Watch → Type 0 = λ o. h k ≡ o → Member x (cons_option o (filter_map h ks)) → (j : ℕ) × Member j (k ∷ ks) × (h j ≡ Some x) in
    let one : (o : Option Watch) → Q o = λ o. elim o as Q [
      | None ↦ λ is n. let r = sought h ks x n in (r.0, inr r.1, r.2)
      | Some y ↦ λ is n. elim n [ inl e ↦ (k, inl refl, is ∙ ap (λ (w : Watch). Some w) (sym e)) | inr a ↦ let r = sought h ks x a in (r.0, inr r.1, r.2) ]
    ] in
    one (h k) refl m

pub list_all_of : (p : Watch → Bool) (xs : List Watch) → ((x : Watch) → Member x xs → p x ≡ true) → list_all p xs ≡ true
list_all_of p [] h = refl
list_all_of p (x ∷ xs) h = let one = h x (inl refl) in let rest = list_all_of p xs (λ y m. h y (inr m)) in λ i. one i && rest i

-- by the number of a registration that is there
pub by_number : (s : State) (f : Watch → ℕ) (x : Watch) → Sound s → Member x s.watches → of_number s f x.number ≡ f x
by_number s f x sound m =
    let got = value_of (find_watch s.watches x.number) (found_one s.watches x m) in
    let is = find_member s.watches x.number got.0 got.1 in
    ap (λ (o : Option Watch). unwrap_or (option_map f o) 0) got.1 ∙ ap f (one_number s.watches got.0 x sound.numbers is.0 m is.1)

pub first_are_pick : FirstArePick
first_are_pick s e most order sound apart fair complete =
    let p : Watch → Bool = λ x. x.instance == e && is_reportable s x in
    let there = reportables s e in
    let ready = is_reportable_in s e in
    let firsts = filter ready order in
    let ks = take most firsts in
    let picked = watches_at there ks in
    let ready_of : (k : ℕ) → Member k ks → ready k ≡ true = λ k m. filtered_passes ready order k (taken_member most firsts k m) in
    let each : (k : ℕ) → Member k ks → is_some (find_watch there k) ≡ true = λ k m.
    let w = mapped_member (λ x. x.number) there k (among_member (map (λ x. x.number) there) k (ready_of k m)) in
    subst (λ (j : ℕ). is_some (find_watch there j) ≡ true) w.2 (found_one there w.0 w.1) in
    let long : length picked ≡ length ks = all_found (find_watch there) ks each in
    let names : are_distinct (numbers there) ≡ true = distinct_test (numbers there) (distinct_filter p s.watches sound.numbers) in
    let less : length firsts ≤ length (numbers there) = no_more firsts (numbers there) (distinct_filtered ready order apart) (λ k m. filtered_passes ready order k m) in
    let more : length (numbers there) ≤ length firsts = no_more (numbers there) firsts names (λ k m.
    let r : ready k ≡ true = among k (numbers there) m in among k firsts (member_filter ready k order (among_member order k (complete k r)) r)) in
    let many : length ks ≡ min most (length there) = length-take most firsts ∙ ap (min most) (same_many _ _ less more ∙ same_length there) in
    let just : list_all (is_fair_to picked ks) there ≡ true = list_all_of (is_fair_to picked ks) there (λ y my. elim (cases_Bool (is_among ks y.number)) [
      | inl inside ↦ or_left _ _ inside
      | inr outside ↦
          or_right _ _ (list_all_of (λ x. nat_le x.rep y.from) picked (λ x mx.
          let k = sought (find_watch there) ks x mx in
          let w = find_member there k.0 x k.2 in
          let ry : ready y.number ≡ true = among y.number (numbers there) (member_map (λ w. w.number) y there my) in
          let le = first_are_fair (turns_of s e) most order fair complete k.0 y.number k.1 ry outside in
          let rep : of_number s (λ z. z.rep) k.0 ≡ x.rep = ap (of_number s (λ z. z.rep)) (sym w.1) ∙ by_number s (λ z. z.rep) x sound (filtered_member p s.watches x w.0) in
          let from : of_number s (λ z. z.from) y.number ≡ y.from = by_number s (λ z. z.from) y sound (filtered_member p s.watches y my) in
          le_test _ _ (omega (arith, le, rep, from))))
    ]) in
    let d = distinct_taken most firsts (distinct_filtered ready order apart) in
    let l = same_test (length picked) (length ks) long in
    let m = same_test (length ks) (min most (length there)) many in
    λ i. d i && l i && m i && just i
