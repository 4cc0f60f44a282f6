-- The queue of the descriptions that nothing names or holds.
use Rattle.std.proofs.Common.{Bool, List, None, Option, Some, [], ap, arith, false, get_or, inl, inr, is_some, length, length-append, not, refl, slice_set, suc, sym, true, zero, ℕ, ◌&&◌, ◌++◌, ◌==◌, ◌∙◌, ◌∷◌, ◌≡◌, ◌≢◌, ◌≤◌, ◌||◌}
use Rattle.std.proofs.lemmas.List.{get_or-set_other}
use Rattle.std.proofs.lemmas.Bool.{or_parts}
use Rattle.ep_facts.proofs.AmongFacts.{among_append}
use Rattle.ep_facts.proofs.OptionFacts.{value_of}
use Rattle.ep_facts.proofs.BoolFacts.{first_of_and, from_not, second_of_and}
use Rattle.ep_facts.proofs.NatFacts.{same_or_not, same_test, test_apart, zero_test}
use Rattle.ep_base.specs.declared.ids.DescId.{DescId}
use Rattle.ep_machine.specs.Files.{Place}
use Rattle.ep_machine.specs.Lists.{are_distinct, is_among, numbered}
use Rattle.ep_table.specs.Stored.{AllKeyed, queued}
use Rattle.ep_table.specs.Value.{AddsKey, Queue, count_at, is_unused, number_at}
use Rattle.ep_table.specs.declared.words.Dying.{Dying}
use Rattle.ep_table.proofs.CloseLemmas.{less_numbered}

pub set_same : {A : Type 0} (xs : List A) (i : ℕ) (x y : A) → get_or xs i y ≡ x → slice_set xs i x ≡ xs
set_same [] i x y h = refl
set_same (z ∷ xs) zero x y h = ap (λ r. r ∷ xs) (sym h)
set_same (z ∷ xs) (suc i) x y h = ap (λ r. z ∷ r) (set_same xs i x y h)

none_there : (xs : List (Option Place)) (i : ℕ) → get_or (slice_set xs i None) i None ≡ None
none_there [] i = refl
none_there (x ∷ xs) zero = refl
none_there (x ∷ xs) (suc i) = none_there xs i

-- no more distinct numbers than there are live ones
pigeons : (xs : List ℕ) (ds : List (Option Place)) → are_distinct xs ≡ true → ((d : ℕ) → is_among xs d ≡ true → is_some (get_or ds d None) ≡ true) → length xs ≤ length (numbered 0 ds)
pigeons [] ds h l = omega arith
pigeons (x ∷ xs) ds h l =
    let first : is_among xs x ≡ false = from_not (is_among xs x) (first_of_and (not (is_among xs x)) (are_distinct xs) h) in
    let at = value_of (get_or ds x None) (l x (rw (same_test x x refl) refl)) in
    let rest : (d : ℕ) → is_among xs d ≡ true → is_some (get_or (slice_set ds x None) d None) ≡ true = λ d m.
    (let ne : d ≢ x = λ e. (let a : is_among xs d ≡ false = ap (is_among xs) e ∙ first in absurd cc) in
    ap is_some (get_or-set_other ds x d None None ne) ∙ l d (rw (test_apart d x ne) m)) in
    omega (arith, pigeons xs (slice_set ds x None) (second_of_and (not (is_among xs x)) (are_distinct xs) h) rest, less_numbered 0 x ds at.0 at.1)

module _ (ds : List (Option Place)) (names holds dying : List ℕ) (q : Queue ds names holds dying) where
  pub queue_fits : length dying ≤ length (numbered 0 ds)
  queue_fits = pigeons dying ds q.distinct (λ d h. first_of_and (is_some (get_or ds d None)) (count_at names d == 0 && count_at holds d == 0) (sym (q.law d) ∙ h))

  -- the counts of one description change
  module _ (n : ℕ) (names1 holds1 : List ℕ) (a : (d : ℕ) → d ≢ n → count_at names1 d ≡ count_at names d) (b : (d : ℕ) → d ≢ n → count_at holds1 d ≡ count_at holds d) where
    apart : (d : ℕ) → d ≢ n → is_unused ds names1 holds1 d ≡ is_unused ds names holds d
    apart d ne = let x = a d ne in let y = b d ne in λ i. is_some (get_or ds d None) && (x i == 0 && y i == 0)

    pub queue_kept : is_unused ds names1 holds1 n ≡ is_unused ds names holds n → Queue ds names1 holds1 dying
    queue_kept h = record {
      distinct = q.distinct;
      law = λ d. q.law d ∙ elim (same_or_not d n) [ inl e ↦ ap (is_unused ds names holds) e ∙ (sym h ∙ ap (is_unused ds names1 holds1) (sym e)) | inr ne ↦ sym (apart d ne) ];
    }

    pub queue_put : is_unused ds names holds n ≡ false → is_unused ds names1 holds1 n ≡ true → Queue ds names1 holds1 (n ∷ dying)
    queue_put h k = record {
      distinct = rw (q.law n ∙ h) q.distinct;
      law = λ d. elim (same_or_not d n) [
        | inl e ↦ rw (same_test d n e) (sym (ap (is_unused ds names1 holds1) e ∙ k))
        | inr ne ↦ rw (test_apart d n ne) (q.law d ∙ sym (apart d ne))
      ];
    }

-- a description that is named is new
unused_more : (ds : List (Option Place)) (names holds : List ℕ) (p : Place) (d : ℕ) → length names ≡ length ds → length holds ≡ length ds
    → is_unused (ds ++ Some p ∷ []) (names ++ 1 ∷ []) (holds ++ 0 ∷ []) d ≡ is_unused ds names holds d
unused_more [] [] [] p zero e f = refl
unused_more [] [] [] p (suc d) e f = refl
unused_more [] (a ∷ names) holds p d e f = absurd (omega (arith, e))
unused_more [] [] (b ∷ holds) p d e f = absurd (omega (arith, f))
unused_more (x ∷ ds) [] holds p d e f = absurd (omega (arith, e))
unused_more (x ∷ ds) (a ∷ names) [] p d e f = absurd (omega (arith, f))
unused_more (x ∷ ds) (a ∷ names) (b ∷ holds) p zero e f = refl
unused_more (x ∷ ds) (a ∷ names) (b ∷ holds) p (suc d) e f = unused_more ds names holds p d (omega (arith, e)) (omega (arith, f))

pub queue_more : (ds : List (Option Place)) (names holds dying : List ℕ) (p : Place) → length names ≡ length ds → length holds ≡ length ds → Queue ds names holds dying → Queue (ds ++ Some p ∷ []) (names ++ 1 ∷ []) (holds ++ 0 ∷ []) dying
queue_more ds names holds dying p e f q = record { distinct = q.distinct; law = λ d. q.law d ∙ sym (unused_more ds names holds p d e f) }

-- the first one dies
module _ (ds : List (Option Place)) (names holds dying : List ℕ) (n : ℕ) (q : Queue ds names holds (n ∷ dying)) where
  pub others_differ : is_among dying n ≡ false
  others_differ = from_not (is_among dying n) (first_of_and (not (is_among dying n)) (are_distinct dying) q.distinct)

  unused : is_unused ds names holds n ≡ true
  unused = sym (q.law n) ∙ rw (same_test n n refl) refl

  zero_counts : (count_at names n == 0 && count_at holds n == 0) ≡ true
  zero_counts = second_of_and (is_some (get_or ds n None)) (count_at names n == 0 && count_at holds n == 0) unused

  pub no_names : count_at names n ≡ 0
  no_names = zero_test (count_at names n) (first_of_and (count_at names n == 0) (count_at holds n == 0) zero_counts)

  pub no_holds : count_at holds n ≡ 0
  no_holds = zero_test (count_at holds n) (second_of_and (count_at names n == 0) (count_at holds n == 0) zero_counts)

  pub queue_less : Queue (slice_set ds n None) names holds dying
  queue_less = record {
    distinct = second_of_and (not (is_among dying n)) (are_distinct dying) q.distinct;
    law = λ d. elim (same_or_not d n) [
      | inl e ↦
          let g : get_or (slice_set ds n None) d None ≡ None = ap (λ (i : ℕ). get_or (slice_set ds n None) i None) e ∙ none_there ds n in
          ap (is_among dying) e ∙ (others_differ ∙ sym (ap (λ (o : Option Place). is_some o && (count_at names d == 0 && count_at holds d == 0)) g))
      | inr ne ↦
          let l : is_among dying d ≡ is_unused ds names holds d = (let t = q.law d in let u = test_apart d n ne in sym (ap (λ (b : Bool). b || is_among dying d) u) ∙ t) in
          l ∙ sym (ap (λ (o : Option Place). is_some o && (count_at names d == 0 && count_at holds d == 0)) (get_or-set_other ds n d None None ne))
    ];
  }

-- the list of those on it
pub queued_push : (xs : List Dying) (x : Dying) → queued (xs ++ x ∷ []) ≡ x.number ∷ queued xs
queued_push [] x = refl
queued_push (y ∷ xs) x = ap (λ (r : List ℕ). r ++ y.number ∷ []) (queued_push xs x)

pub queued_length : (xs : List Dying) → length (queued xs) ≡ length xs
queued_length [] = refl
queued_length (x ∷ xs) = omega (arith, length-append (queued xs) (x.number ∷ []), queued_length xs)

pub keyed_push : (keys : List (Option ℕ)) (xs : List Dying) (x : Dying) → AllKeyed keys xs → number_at keys x.key ≡ Some x.number → AllKeyed keys (xs ++ x ∷ [])
keyed_push keys [] x h k = (k, tt)
keyed_push keys (y ∷ xs) x h k = (h.0, keyed_push keys xs x h.1 k)

pub keyed_last : (keys : List (Option ℕ)) (xs : List Dying) (x : Dying) → AllKeyed keys (xs ++ x ∷ []) → number_at keys x.key ≡ Some x.number
keyed_last keys [] x h = h.0
keyed_last keys (y ∷ xs) x h = keyed_last keys xs x h.1

pub keyed_rest : (keys : List (Option ℕ)) (xs : List Dying) (x : Dying) → AllKeyed keys (xs ++ x ∷ []) → AllKeyed keys xs
keyed_rest keys [] x h = tt
keyed_rest keys (y ∷ xs) x h = (h.0, keyed_rest keys xs x h.1)

pub keyed_more : (old new : List (Option ℕ)) (key : DescId) (n : ℕ) → AddsKey old new key n → (xs : List Dying) → AllKeyed old xs → AllKeyed new xs
keyed_more old new key n adds [] h = tt
keyed_more old new key n adds (x ∷ xs) h =
    let ne : x.key.0 ≢ key.0 = λ e. (let a = ap (λ (i : ℕ). get_or old i None) e in let b = adds.free in let c = h.0 in absurd cc) in
    (adds.others x.key ne ∙ h.0, keyed_more old new key n adds xs h.1)

pub keyed_less : (keys : List (Option ℕ)) (key : DescId) (n : ℕ) → number_at keys key ≡ Some n → (xs : List Dying) → is_among (queued xs) n ≡ false → AllKeyed keys xs → AllKeyed (slice_set keys key.0 None) xs
keyed_less keys key n is [] m h = tt
keyed_less keys key n is (x ∷ xs) m h =
    let split = or_parts (is_among (queued xs) n) (is_among (x.number ∷ []) n) (sym (among_append (queued xs) (x.number ∷ []) n) ∙ m) in
    let ne : x.key.0 ≢ key.0 = λ e.
    (let a = ap (λ (i : ℕ). get_or keys i None) e in let b = h.0 in let s : n ≡ x.number = cc in
    let t : is_among (x.number ∷ []) n ≡ true = rw (same_test n x.number s) refl in let u = split.1 in absurd cc) in
    (get_or-set_other keys key.0 x.key.0 None None ne ∙ h.0, keyed_less keys key n is xs split.0 h.1)
