-- How often tables name descriptions.
use Rattle.std.proofs.Common.{Bool, IsSome, List, None, Option, Some, [], ap, arith, false, filter_map, get_or, if◌then◌else◌, inl, inr, length, nat_lt, refl, slice_set, suc, sym, true, zero, zero-add, ℕ, ◌++◌, ◌+◌, ◌-◌, ◌<◌, ◌==◌, ◌∙◌, ◌∷◌, ◌≡◌, ◌≢◌, ◌||◌}
use Rattle.std.proofs.lemmas.List.{get_or-set_other, get_or-set_same, get_or_past}
use Rattle.ep_facts.proofs.NatFacts.{below_or, same_or_not, same_test, suc_same, suc_zero, test_apart, zero_suc}
use Rattle.ep_machine.specs.Deaths.{named_in, named_in_tables}
use Rattle.ep_machine.specs.Files.{Slot, Table, description_in}
use Rattle.ep_machine.specs.Lists.{enter, is_among, place_at}
use Rattle.ep_table.specs.Value.{count_at, less_at, more_at, times}

pub times_append : (d : ℕ) (xs ys : List ℕ) → times d (xs ++ ys) ≡ times d xs + times d ys
times_append d [] ys = omega arith
times_append d (x ∷ xs) ys = omega (arith, times_append d xs ys)

any_times : (b c : Bool) (n : ℕ) → c ≡ nat_lt 0 n → (b || c) ≡ nat_lt 0 ((if b then 1 else 0) + n)
any_times true c n h = grind arith
any_times false c n h = h ∙ ap (λ (m : ℕ). nat_lt 0 m) (sym (zero-add n))

pub among_times : (d : ℕ) (xs : List ℕ) → is_among xs d ≡ nat_lt 0 (times d xs)
among_times d [] = refl
among_times d (x ∷ xs) = any_times (d == x) (is_among xs d) (times d xs) (among_times d xs)

-- once where the slot names it
abbrev pub slot_times : ℕ → Option Slot → ℕ
slot_times d None = 0
slot_times d (Some x) = if d == x.description then 1 else 0

abbrev pub table_times : ℕ → Table → ℕ
table_times d t = times d (filter_map description_in t)

table_cons : (d : ℕ) (x : Option Slot) (t : Table) → table_times d (x ∷ t) ≡ slot_times d x + table_times d t
table_cons d None t = omega arith
table_cons d (Some x) t = refl

pub table_unset : (d : ℕ) (t : Table) (i : ℕ) → table_times d (slice_set t i None) + slot_times d (get_or t i None) ≡ table_times d t
table_unset d [] i = omega arith
table_unset d (x ∷ t) zero = omega (arith, table_cons d x t)
table_unset d (x ∷ t) (suc i) = omega (arith, table_cons d x t, table_cons d x (slice_set t i None), table_unset d t i)

pub table_enter : (d : ℕ) (t : Table) (s : Slot) → table_times d (enter t s) ≡ table_times d t + slot_times d (Some s)
table_enter d [] s = omega arith
table_enter d (None ∷ t) s = omega arith
table_enter d (Some x ∷ t) s = omega (arith, table_cons d (Some x) t, table_cons d (Some x) (enter t s), table_enter d t s)

pub table_place : (d : ℕ) (t : Table) (k : ℕ) (s : Slot) → table_times d (place_at t k s) + slot_times d (get_or t k None) ≡ table_times d t + slot_times d (Some s)
table_place d [] zero s = omega arith
table_place d [] (suc k) s = omega (arith, table_place d [] k s)
table_place d (x ∷ t) zero s = omega (arith, table_cons d x t)
table_place d (x ∷ t) (suc k) s = omega (arith, table_cons d x t, table_cons d x (place_at t k s), table_place d t k s)

abbrev pub all_times : ℕ → List (Option Table) → ℕ
all_times d ts = times d (named_in_tables ts)

abbrev pub process_times : ℕ → Option Table → ℕ
process_times d t = times d (named_in t)

pub all_set : (d : ℕ) (ts : List (Option Table)) (p : ℕ) (y : Option Table) → IsSome (get_or ts p None) → all_times d (slice_set ts p y) + process_times d (get_or ts p None) ≡ all_times d ts + process_times d y
all_set d [] p y h = absurd cc
all_set d (x ∷ ts) zero y h = omega (arith, times_append d (named_in x) (named_in_tables ts), times_append d (named_in y) (named_in_tables ts))
all_set d (x ∷ ts) (suc p) y h = omega (arith, times_append d (named_in x) (named_in_tables ts), times_append d (named_in x) (named_in_tables (slice_set ts p y)), all_set d ts p y h)

pub all_push : (d : ℕ) (ts : List (Option Table)) (y : Option Table) → all_times d (ts ++ y ∷ []) ≡ all_times d ts + process_times d y
all_push d [] y = omega (arith, times_append d (named_in y) [])
all_push d (x ∷ ts) y = omega (arith, times_append d (named_in x) (named_in_tables ts), times_append d (named_in x) (named_in_tables (ts ++ y ∷ [])), all_push d ts y)

-- counts
in_range : (names : List ℕ) (n : ℕ) → 0 < count_at names n → n < length names
in_range names n h = elim (below_or n (length names)) [ inl l ↦ l | inr le ↦ absurd (let e : count_at names n ≡ 0 = get_or_past names n 0 le in omega (arith, h, e)) ]

abbrev pub once : ℕ → ℕ → ℕ
once d n = if d == n then 1 else 0

once_same : (d n : ℕ) → d ≡ n → once d n ≡ 1
once_same d n e = rw (same_test d n e) refl

once_apart : (d n : ℕ) → d ≢ n → once d n ≡ 0
once_apart d n e = rw (test_apart d n e) refl

set_at : (names : List ℕ) (n x d : ℕ) → n < length names → d ≡ n → count_at (slice_set names n x) d ≡ x
set_at names n x d l e = ap (λ (i : ℕ). count_at (slice_set names n x) i) e ∙ get_or-set_same names n x 0 l

pub count_more : (names : List ℕ) (n d : ℕ) → 0 < count_at names n → count_at (more_at names n) d ≡ count_at names d + once d n
count_more names n d h = elim (same_or_not d n) [
  | inl e ↦ omega (arith, set_at names n (count_at names n + 1) d (in_range names n h) e, once_same d n e, ap (count_at names) e)
  | inr ne ↦ omega (arith, get_or-set_other names n d (count_at names n + 1) 0 ne, once_apart d n ne)
]

pub count_less : (names : List ℕ) (n d : ℕ) → 0 < count_at names n → count_at (less_at names n) d + once d n ≡ count_at names d
count_less names n d h = elim (same_or_not d n) [
  | inl e ↦ omega (arith, h, set_at names n (count_at names n - 1) d (in_range names n h) e, once_same d n e, ap (count_at names) e)
  | inr ne ↦ omega (arith, get_or-set_other names n d (count_at names n - 1) 0 ne, once_apart d n ne)
]

pub count_push : (names : List ℕ) (n d : ℕ) → length names ≡ n → count_at (names ++ 1 ∷ []) d ≡ count_at names d + once d n
count_push [] n zero e = omega (arith, once_same zero n e)
count_push [] n (suc d) e = omega (arith, once_apart (suc d) n (λ f. suc_zero d (f ∙ sym e)))
count_push (x ∷ names) n zero e = omega (arith, once_apart zero n (λ f. zero_suc (length names) (f ∙ sym e)))
count_push (x ∷ names) zero (suc d) e = absurd (suc_zero (length names) e)
count_push (x ∷ names) (suc n) (suc d) e = elim (same_or_not d n) [
  | inl f ↦ omega (arith, count_push names n d (suc_same (length names) n e), once_same d n f, once_same (suc d) (suc n) (ap suc f))
  | inr ne ↦ omega (arith, count_push names n d (suc_same (length names) n e), once_apart d n ne, once_apart (suc d) (suc n) (λ f. ne (suc_same d n f)))
]
