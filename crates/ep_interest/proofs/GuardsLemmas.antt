-- How many registrations are exclusive.
use Rattle.std.proofs.Common.{◌≡◌, ◌≢◌, ◌≤◌, ◌<◌, ◌+◌, ◌∙◌, ℕ, zero, suc, Bool, cond, List, [], ◌∷◌, Option, None, Some, ap, arith, count_by, filter, get_or, inl, inr, length, map, refl, set, sym}
use Rattle.std.proofs.lemmas.List.{get_or-set_other, get_or-set_same}
use Rattle.std.proofs.lemmas.List.Sums.{length-filter, sum_by-cons, sum_by-set}
use Rattle.std.specs.List.{cons_option, filter_map, range_with_len}
use Rattle.std.specs.Option.{option_map}
use Rattle.ep_facts.proofs.NatFacts.{below_or, same_or_not, same_test, test_apart}
use Rattle.ep_machine.specs.Bits.{EXCLUSIVE, has_bit}
use Rattle.ep_interest.specs.ByNumber.{NumberedBy, found_by, in_order}
use Rattle.ep_interest.specs.Exclusive.{is_exclusive, is_exclusive_slot}
use Rattle.ep_interest.specs.declared.entry.Entry.{Entry}
use Rattle.ep_interest.proofs.InOrderLemmas.{not_later, rest_numbered}
use Rattle.ep_interest.proofs.RangeLemmas.{same_on}
use Rattle.ep_interest.proofs.CountLemmas.{count_alike}

abbrev pub one : Bool → ℕ
one b = cond b 1 0

-- without the one under a key
cleared : (xs : List (Option Entry)) (key : ℕ) → count_by is_exclusive_slot (set xs key None) + one (is_exclusive_slot (get_or xs key None)) ≡ count_by is_exclusive_slot xs
cleared xs key = elim (below_or key (length xs)) [
  | inl lt ↦ let s = sum_by-set (λ (o : Option Entry). cond (is_exclusive_slot o) 1 0) xs key None None lt in omega (arith, s)
  | inr past ↦ past_all xs key past
] where
  past_all : (ys : List (Option Entry)) (k : ℕ) → length ys ≤ k → count_by is_exclusive_slot (set ys k None) + one (is_exclusive_slot (get_or ys k None)) ≡ count_by is_exclusive_slot ys
  past_all [] k le = refl
  past_all (y ∷ ys) zero le = absurd (omega (arith, le))
  past_all (y ∷ ys) (suc k) le =
      let rest = past_all ys k (omega (arith, le)) in
      let a = sum_by-cons (λ (o : Option Entry). cond (is_exclusive_slot o) 1 0) y ys in
      let b = sum_by-cons (λ (o : Option Entry). cond (is_exclusive_slot o) 1 0) y (set ys k None) in
      omega (arith, rest, a, b)

none_cleared : (xs : List (Option Entry)) (key : ℕ) → get_or (set xs key None) key None ≡ None
none_cleared xs key = elim (below_or key (length xs)) [
  | inl lt ↦ get_or-set_same xs key None None lt
  | inr past ↦ past_none xs key past
] where
  past_none : (ys : List (Option Entry)) (k : ℕ) → length ys ≤ k → get_or (set ys k None) k None ≡ None
  past_none [] k le = refl
  past_none (y ∷ ys) zero le = absurd (omega (arith, le))
  past_none (y ∷ ys) (suc k) le = past_none ys k (omega (arith, le))

-- slots that differ under one key
pub count_but : (old new : List (Option Entry)) (key : ℕ) → ((k : ℕ) → k ≢ key → get_or new k None ≡ get_or old k None)
    → count_by is_exclusive_slot new + one (is_exclusive_slot (get_or old key None)) ≡ count_by is_exclusive_slot old + one (is_exclusive_slot (get_or new key None))
count_but old new key others =
    let a = cleared old key in
    let b = cleared new key in
    let same = count_alike is_exclusive_slot refl (set old key None) (set new key None) alike in
    omega (arith, a, b, same) where
      alike : (k : ℕ) → is_exclusive_slot (get_or (set old key None) k None) ≡ is_exclusive_slot (get_or (set new key None) k None)
      alike k = elim (same_or_not k key) [
        | inl at ↦ ap (λ (j : ℕ). is_exclusive_slot (get_or (set old key None) j None)) at ∙ (ap is_exclusive_slot (none_cleared old key ∙ sym (none_cleared new key)) ∙ sym (ap (λ (j : ℕ). is_exclusive_slot (get_or (set new key None) j None)) at))
        | inr ne ↦ ap is_exclusive_slot (get_or-set_other old key k None None ne ∙ (sym (others k ne) ∙ sym (get_or-set_other new key k None None ne)))
      ]

-- a change that leaves each mask
pub count_changed : (f : Entry → Entry) → ((x : Entry) → (f x).mask ≡ x.mask) → (slots : List (Option Entry)) → count_by is_exclusive_slot (map (option_map f) slots) ≡ count_by is_exclusive_slot slots
count_changed f keeps [] = refl
count_changed f keeps (None ∷ slots) =
    let rest = count_changed f keeps slots in
    let a = sum_by-cons (λ (o : Option Entry). cond (is_exclusive_slot o) 1 0) None slots in
    let b = sum_by-cons (λ (o : Option Entry). cond (is_exclusive_slot o) 1 0) None (map (option_map f) slots) in
    omega (arith, rest, a, b)
count_changed f keeps (Some x ∷ slots) =
    let rest = count_changed f keeps slots in
    let a = sum_by-cons (λ (o : Option Entry). cond (is_exclusive_slot o) 1 0) (Some x) slots in
    let b = sum_by-cons (λ (o : Option Entry). cond (is_exclusive_slot o) 1 0) (Some (f x)) (map (option_map f) slots) in
    let same : one (is_exclusive (f x)) ≡ one (is_exclusive x) = one_of (f x) x (keeps x) in
    omega (arith, rest, a, b, same) where
      one_of : (y x : Entry) → y.mask ≡ x.mask → one (is_exclusive y) ≡ one (is_exclusive x)
      one_of y x e = ap (λ m. one (has_bit m.0 EXCLUSIVE)) e

-- In order of registration.
count_cons : (o : Option Entry) (xs ys : List Entry) (m : ℕ) → count_by is_exclusive xs ≡ count_by is_exclusive ys + m → count_by is_exclusive (cons_option o xs) ≡ count_by is_exclusive (cons_option o ys) + m
count_cons None xs ys m e = e
count_cons (Some x) xs ys m e =
    let a = sum_by-cons (λ (y : Entry). cond (is_exclusive y) 1 0) x xs in
    let b = sum_by-cons (λ (y : Entry). cond (is_exclusive y) 1 0) x ys in
    omega (arith, e, a, b)

one_found : (f g : ℕ → Option Entry) (x : Entry) (k : ℕ) → f k ≡ Some x → g k ≡ None → ((m : ℕ) → m ≢ k → f m ≡ g m)
    → (a n : ℕ) → a ≤ k → k < a + n → count_by is_exclusive (filter_map f (range_with_len a n)) ≡ count_by is_exclusive (filter_map g (range_with_len a n)) + one (is_exclusive x)
one_found f g x k e none same a zero l u = absurd (omega (arith, l, u))
one_found f g x k e none same a (suc n) l u = elim (same_or_not a k) [
  | inl at ↦
      let here : f a ≡ Some x = ap f at ∙ e in
      let gone : g a ≡ None = ap g at ∙ none in
      let left = filter_map g (range_with_len (a + 1) n) in
      let rest = same_on f g (a + 1) n (λ m low up. same m (omega (arith, low, at))) in
      let c : count_by is_exclusive (cons_option (f a) (filter_map f (range_with_len (a + 1) n))) ≡ count_by is_exclusive (x ∷ left) = (λ i. count_by is_exclusive (cons_option (here i) (rest i))) in
      let d : count_by is_exclusive (cons_option (g a) left) ≡ count_by is_exclusive left = (λ i. count_by is_exclusive (cons_option (gone i) left)) in
      let s = sum_by-cons (λ (y : Entry). cond (is_exclusive y) 1 0) x left in
      omega (arith, c, d, s)
  | inr ne ↦
      let r = one_found f g x k e none same (a + 1) n (omega (arith, l, ne)) (omega (arith, u)) in
      ap (λ (o : Option Entry). count_by is_exclusive (cons_option o (filter_map f (range_with_len (a + 1) n)))) (same a ne)
      ∙ count_cons (g a) (filter_map f (range_with_len (a + 1) n)) (filter_map g (range_with_len (a + 1) n)) (one (is_exclusive x)) r
]

none_found : (a n : ℕ) → count_by is_exclusive (filter_map (found_by []) (range_with_len a n)) ≡ 0
none_found a zero = refl
none_found a (suc n) = none_found (a + 1) n

count_held : (slots : List (Option Entry)) (n : ℕ) → NumberedBy slots n → count_by is_exclusive (in_order slots n) ≡ count_by is_exclusive_slot slots
count_held [] n num = none_found 1 n
count_held (None ∷ slots) n num =
    let r = count_held slots n (rest_numbered None slots n num) in
    let s = sum_by-cons (λ (o : Option Entry). cond (is_exclusive_slot o) 1 0) None slots in
    omega (arith, r, s)
count_held (Some x ∷ slots) n num =
    let r = count_held slots n (rest_numbered (Some x) slots n num) in
    let s = sum_by-cons (λ (o : Option Entry). cond (is_exclusive_slot o) 1 0) (Some x) slots in
    let a = num.above zero x refl in
    let b = num.below zero x refl in
    let first : found_by (Some x ∷ slots) x.number ≡ Some x = rw (same_test x.number x.number refl) refl in
    let m = one_found (found_by (Some x ∷ slots)) (found_by slots) x x.number first (not_later x slots n num) (λ m ne. rw (test_apart x.number m (λ e. ne (sym e))) refl) 1 n (omega (arith, a)) (omega (arith, b)) in
    omega (arith, r, s, m)

-- so this is how many of the registrations are exclusive
pub guards_are : (slots : List (Option Entry)) (n : ℕ) → NumberedBy slots n → count_by is_exclusive_slot slots ≡ length (filter is_exclusive (in_order slots n))
guards_are slots n num = sym (length-filter is_exclusive (in_order slots n) ∙ count_held slots n num)
