-- What reports leave of registrations.
use Rattle.std.proofs.Common.{◌≡◌, ◌==◌, ◌&&◌, ◌||◌, ◌++◌, ℕ, Bool, false, true, List, [], ◌∷◌, cond, map, not, refl, ap, sym, ◌∙◌}
use Rattle.std.proofs.Math.Bool.{or-false}
use Rattle.ep_facts.proofs.BoolFacts.{or_assoc}
use Rattle.ep_interest.specs.Registrations.{reported}
use Rattle.ep_interest.specs.declared.entry.Entry.{Entry}
use Rattle.ep_machine.specs.Bits.{ONESHOT, has_bit}
use Rattle.ep_machine.specs.Lists.{is_among}
use Rattle.ep_calls.specs.Wait.{with_report}

among_more : (ks : List ℕ) (k n : ℕ) → is_among (ks ++ k ∷ []) n ≡ (is_among ks n || (n == k))
among_more [] k n = or-false (n == k)
among_more (x ∷ ks) k n = ap (λ (b : Bool). n == x || b) (among_more ks k n) ∙ or_assoc (n == x) (is_among ks n) (n == k)

abbrev disarmed : ℕ → Entry → Entry
disarmed n x = record x { armed = x.armed && not (has_bit x.mask.0 ONESHOT); fresh = false; reported_in = n }

-- a one-shot that is disarmed stays so
twice : (a b : Bool) → ((a && not b) && not b) ≡ (a && not b)
twice true true = refl
twice true false = refl
twice false b = refl

-- one registration noted after others
noted_one : (n : ℕ) (b c : Bool) (x : Entry) → cond c (disarmed n (cond b (disarmed n x) x)) (cond b (disarmed n x) x) ≡ cond (b || c) (disarmed n x) x
noted_one n true true x = ap (λ (a : Bool). let y : Entry = record x { armed = a; fresh = false; reported_in = n } in y) (twice x.armed (has_bit x.mask.0 ONESHOT))
noted_one n true false x = refl
noted_one n false true x = refl
noted_one n false false x = refl

number_noted : (n : ℕ) (b : Bool) (x : Entry) → (cond b (disarmed n x) x).number ≡ x.number
number_noted n true x = refl
number_noted n false x = refl

pub noted_more : (n k : ℕ) (ks : List ℕ) (xs : List Entry) → map (with_report n (k ∷ [])) (map (with_report n ks) xs) ≡ map (with_report n (ks ++ k ∷ [])) xs
noted_more n k ks [] = refl
noted_more n k ks (x ∷ xs) =
    let y = with_report n ks x in
    let a : ((y.number == k) || false) ≡ (x.number == k) = or-false (y.number == k) ∙ ap (λ (m : ℕ). m == k) (number_noted n (is_among ks x.number) x) in
    let one : with_report n (k ∷ []) y ≡ with_report n (ks ++ k ∷ []) x =
    ap (λ (c : Bool). cond c (disarmed n y) y) a
    ∙ (noted_one n (is_among ks x.number) (x.number == k) x
    ∙ ap (λ (b : Bool). cond b (disarmed n x) x) (sym (among_more ks k x.number))) in
    λ i. one i ∷ noted_more n k ks xs i

-- a report of the registration with a number
pub reported_one : (n k : ℕ) (xs : List Entry) → map (reported k n) xs ≡ map (with_report n (k ∷ [])) xs
reported_one n k [] = refl
reported_one n k (x ∷ xs) =
    let one : reported k n x ≡ with_report n (k ∷ []) x = ap (λ (b : Bool). cond b (disarmed n x) x) (sym (or-false (x.number == k))) in
    let rest = reported_one n k xs in
    λ i. one i ∷ rest i

pub noted_none : (n : ℕ) (xs : List Entry) → map (with_report n []) xs ≡ xs
noted_none n [] = refl
noted_none n (x ∷ xs) = ap (λ (ys : List Entry). x ∷ ys) (noted_none n xs)
