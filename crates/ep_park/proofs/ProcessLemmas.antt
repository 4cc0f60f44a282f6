-- The numbers of parked callers stay those of the list.
use Rattle.std.proofs.Common.{◌≡◌, ℕ, Bool, true, ◌+◌, ◌-◌, ◌<◌, List, [], ◌∷◌, ◌++◌, Some, IsSome, refl, sym, ap, ◌∙◌, inl, inr, nat_eq, eqb, is_some, arith, length, nat_lt, if◌then◌else◌, unwrap_or}
use Rattle.std.proofs.lemmas.Bool.{eq-eqb, lt-ltb, ltb-false, ltb-true}
use Rattle.std.proofs.lemmas.Bool.Decides.{eqb_tells}
use Rattle.std.proofs.lemmas.List.{length-map, map-append}
use Rattle.std.proofs.lemmas.List.Sums.{count_by-le-length}
use Rattle.std.specs.List.{count_by, list_any}
use Rattle.std.specs.Map.{lookup, remove_entry}
use Rattle.ep_park.proofs.ViewLemmas.{either}
use Rattle.ep_park.proofs.TallyLemmas.{any_counted, counted_last, mark_count, removed_count}
use Rattle.ep_park.specs.Processes.{IsCounted, one_less, one_more, positive}
use Rattle.ep_park.specs.Queue.{marked_in}
use Rattle.ep_park.specs.Tallies.{Rewrites, bit}
use Rattle.ep_park.specs.Waiters.{is_of, listed, parked}
use Rattle.ep_park.specs.declared.waiter.Waiter.{Waiter}

number_is : (k : ℕ) → unwrap_or (positive k) 0 ≡ k
number_is k = elim (either (nat_lt 0 k)) [
  | inl y ↦ rw y refl
  | inr n ↦ let le = ltb-false 0 k n in rw n (omega (arith, le))
]

more_is : (k : ℕ) → one_more (positive k) ≡ positive (k + 1)
more_is k =
    let yes : nat_lt 0 (k + 1) ≡ true = lt-ltb 0 (k + 1) (omega arith) in
    rw yes (ap (λ n. Some (n + 1)) (number_is k))

less_is : (k : ℕ) → one_less (k + 1) ≡ positive k
less_is k = elim (either (nat_lt 0 k)) [
  | inl y ↦
      let lt = ltb-true 0 k y in
      let yes : nat_lt 1 (k + 1) ≡ true = lt-ltb 1 (k + 1) (omega (arith, lt)) in
      let same : (k + 1) - 1 ≡ k = omega arith in
      rw (y, yes) (ap Some same)
  | inr n ↦
      let le = ltb-false 0 k n in
      let none : k ≡ 0 = omega (arith, le) in
      rw none refl
]

some_positive : (k : ℕ) → is_some (positive k) ≡ nat_lt 0 k
some_positive k = elim (either (nat_lt 0 k)) [ inl y ↦ rw y refl | inr n ↦ rw n refl ]

-- whether a process has a parked caller
pub any_counted_of : (p : ℕ) (es : List (ℕ × Waiter)) (ps : List (ℕ × ℕ)) → IsCounted es ps → is_some (lookup (nat_eq p) ps) ≡ list_any (is_of p) (listed es)
any_counted_of p es ps h = ap is_some (h.of p) ∙ (some_positive (count_by (is_of p) (listed es)) ∙ any_counted (is_of p) (listed es))

pub few_counted : (p m : ℕ) (es : List (ℕ × Waiter)) (ps : List (ℕ × ℕ)) → IsCounted es ps → length es < m → unwrap_or (lookup (nat_eq p) ps) 0 < m
few_counted p m es ps h few =
    let is : unwrap_or (lookup (nat_eq p) ps) 0 ≡ count_by (is_of p) (listed es) = ap (λ o. unwrap_or o 0) (h.of p) ∙ number_is (count_by (is_of p) (listed es)) in
    omega (arith, is, few, count_by-le-length (is_of p) (listed es), length-map es (λ (e : ℕ × Waiter). parked e.0 e.1))

-- a waiter more
pub counts_last : (es : List (ℕ × Waiter)) (ps ps' : List (ℕ × ℕ)) (c : ℕ) (w : Waiter) → IsCounted es ps → Rewrites ps ps' w.process.0 (one_more (lookup (nat_eq w.process.0) ps)) → IsCounted (es ++ (c, w) ∷ []) ps'
counts_last es ps ps' c w h r = record { of = λ p. r p ∙ both p }
  where
    last : (p : ℕ) → count_by (is_of p) (listed (es ++ (c, w) ∷ [])) ≡ count_by (is_of p) (listed es) + bit (eqb w.process.0 p)
    last p = ap (count_by (is_of p)) (map-append (λ (e : ℕ × Waiter). parked e.0 e.1) es ((c, w) ∷ [])) ∙ counted_last (is_of p) (parked c w) (listed es)

    both : (p : ℕ) → (if eqb w.process.0 p then one_more (lookup (nat_eq w.process.0) ps) else lookup (nat_eq p) ps) ≡ positive (count_by (is_of p) (listed (es ++ (c, w) ∷ [])))
    both p = elim (eqb_tells w.process.0 p) [
      | inl q ↦
          let count : count_by (is_of p) (listed (es ++ (c, w) ∷ [])) ≡ count_by (is_of p) (listed es) + 1 = rw q.0 at (last p) in
          rw q.0 (ap one_more (ap (λ k. lookup (nat_eq k) ps) q.1 ∙ h.of p) ∙ (more_is (count_by (is_of p) (listed es)) ∙ ap positive (sym count)))
      | inr q ↦
          let plus : count_by (is_of p) (listed (es ++ (c, w) ∷ [])) ≡ count_by (is_of p) (listed es) + 0 = rw q.0 at (last p) in
          let count : count_by (is_of p) (listed (es ++ (c, w) ∷ [])) ≡ count_by (is_of p) (listed es) = omega (arith, plus) in
          rw q.0 (h.of p ∙ ap positive (sym count))
    ]

-- a waiter less
own_count : (c : ℕ) (w : Waiter) (es : List (ℕ × Waiter)) → lookup (nat_eq c) es ≡ Some w → count_by (is_of w.process.0) (listed es) ≡ count_by (is_of w.process.0) (listed (remove_entry (nat_eq c) es)) + 1
own_count c w es at =
    let p = w.process.0 in
    let yes : eqb p p ≡ true = eq-eqb p p refl in
    sym (rw yes at (removed_count (is_of p) c w es at))

pub has_count : (c : ℕ) (w : Waiter) (es : List (ℕ × Waiter)) (ps : List (ℕ × ℕ)) → IsCounted es ps → lookup (nat_eq c) es ≡ Some w → IsSome (lookup (nat_eq w.process.0) ps)
has_count c w es ps h at =
    let rest = count_by (is_of w.process.0) (listed (remove_entry (nat_eq c) es)) in
    ap is_some (h.of w.process.0 ∙ ap positive (own_count c w es at)) ∙ (some_positive (rest + 1) ∙ lt-ltb 0 (rest + 1) (omega arith))

pub counts_less : (es : List (ℕ × Waiter)) (ps ps' : List (ℕ × ℕ)) (c : ℕ) (w : Waiter) → IsCounted es ps → lookup (nat_eq c) es ≡ Some w → Rewrites ps ps' w.process.0 (one_less (unwrap_or (lookup (nat_eq w.process.0) ps) 0)) → IsCounted (remove_entry (nat_eq c) es) ps'
counts_less es ps ps' c w h at r = record { of = λ p. r p ∙ both p }
  where
    number : unwrap_or (lookup (nat_eq w.process.0) ps) 0 ≡ count_by (is_of w.process.0) (listed (remove_entry (nat_eq c) es)) + 1
    number = ap (λ o. unwrap_or o 0) (h.of w.process.0) ∙ (number_is (count_by (is_of w.process.0) (listed es)) ∙ own_count c w es at)

    both : (p : ℕ) → (if eqb w.process.0 p then one_less (unwrap_or (lookup (nat_eq w.process.0) ps) 0) else lookup (nat_eq p) ps) ≡ positive (count_by (is_of p) (listed (remove_entry (nat_eq c) es)))
    both p = elim (eqb_tells w.process.0 p) [
      | inl q ↦ rw q.0 (ap one_less number ∙ (less_is _ ∙ ap (λ k. positive (count_by (is_of k) (listed (remove_entry (nat_eq c) es)))) q.1))
      | inr q ↦
          let plus : count_by (is_of p) (listed (remove_entry (nat_eq c) es)) + 0 ≡ count_by (is_of p) (listed es) = rw q.0 at (removed_count (is_of p) c w es at) in
          let count : count_by (is_of p) (listed (remove_entry (nat_eq c) es)) ≡ count_by (is_of p) (listed es) = omega (arith, plus) in
          rw q.0 (h.of p ∙ ap positive (sym count))
    ]

-- a waiter's mark changes
pub counts_marked : (c : ℕ) (w : Waiter) (b : Bool) (es : List (ℕ × Waiter)) (ps : List (ℕ × ℕ)) → IsCounted es ps → lookup (nat_eq c) es ≡ Some w → IsCounted (marked_in c b es) ps
counts_marked c w b es ps h at = record {
  of = λ p.
      let count : count_by (is_of p) (listed es) ≡ count_by (is_of p) (listed (marked_in c b es)) =
      omega (arith, mark_count (is_of p) (eqb w.process.0 p) (eqb w.process.0 p) c w b es at (λ k. refl) (λ k. refl)) in
      h.of p ∙ ap positive count;
}
