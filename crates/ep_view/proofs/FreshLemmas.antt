-- What is raised in parts, and which registrations that makes fresh.
use Rattle.std.proofs.Common.{◌≡◌, ℕ, zero, suc, ◌+◌, ◌≤◌, ◌==◌, ◌&&◌, ◌||◌, ◌∙◌, Bool, true, false, List, [], ◌∷◌, None, Option, Some, ap, arith, bit_or, cond, filter, get_or, inl, inr, is_some, nat_lt, refl, subst, sym, ◌<◌, ◌++◌, append_assoc, append-nil, bit_and, map, max, min, not}
use Rattle.std.proofs.lemmas.Bool.{cases_Bool, false≢true}
use Rattle.std.proofs.lemmas.Bool.Decides.{nat_tests}
use Rattle.ep_base.specs.declared.counts.Counts.{Counts}
use Rattle.ep_machine.specs.Bits.{ERR, HUP, IN, OUT, RDHUP, asked, has_bit, when, union}
use Rattle.ep_machine.specs.Counts.{arrived_since, brings, counted, every_shown_bit, holds_wanted, no_counts}
use Rattle.ep_machine.specs.Files.{Files, Place, is_live, live}
use Rattle.ep_view.specs.AtRest.{HasSeen, IsPast}
use Rattle.ep_machine.specs.Readiness.{is_fresh, is_fresh_since}
use Rattle.ep_machine.specs.Spread.{arrived, counts_from, raised_alive, raised_of, spread}
use Rattle.ep_machine.specs.State.{State, Watch, counts_of}
use Rattle.std.specs.Int.{bit_at}
use Rattle.std.specs.Int.Bits.{or_zero_r}
use Rattle.std.proofs.lemmas.Nat.{le_or_l, le_or_r}
use Rattle.std.proofs.lemmas.Nat.Bits.{bit_at_and, bit_at_or, same_from_bits}
use Rattle.std.proofs.Math.Bool.{or-false, or-true}
use Rattle.std.proofs.Math.Nat.{add-zero, add-zero as here, zero-add, zero-add as from_zero}
use Rattle.ep_facts.proofs.BoolFacts.{both_true, same_bools}
use Rattle.ep_facts.proofs.RaisedFacts.{raised_parts}
use Rattle.ep_facts.proofs.NatFacts.{above_test, from_test, positive, same_nat, shift as next, zero_test}
use Rattle.ep_machine.specs.Deaths.{die, die_all}
use Rattle.ep_machine.specs.Lists.{numbered}
use Rattle.ep_view.specs.KernelView.{KernelWatch, freshened, stays_in, stirred}

-- When a registration is fresh after the settling of a change.

-- one more arrival is above what was seen
one_more : (old now : ℕ) (b : Bool) → old ≤ now → nat_lt old (now + when b 1) ≡ (nat_lt old now || b)
one_more old now true le = (grind (arith, nat_tests, le)) ∙ sym (or-true (nat_lt old now))
one_more old now false le = ap (nat_lt old) (add-zero now) ∙ sym (or-false (nat_lt old now))

-- tests of several bits, each of what is over and of what is new
apart_one : (p l b : Bool) → (p && (l || b)) ≡ (p && l || p && b)
apart_one false l b = refl
apart_one true l b = refl

apart_next : (x y p l b : Bool) → ((x || y) || p && (l || b)) ≡ ((x || p && l) || (y || p && b))
apart_next true y p l b = refl
apart_next false true p l b = sym (or-true (p && l))
apart_next false false p l b = apart_one p l b

arrived_counted : (wanted bits : ℕ) (old now : Counts) → IsPast old now → arrived_since wanted old (counted bits now) ≡ (arrived_since wanted old now || holds_wanted wanted bits)
arrived_counted wanted bits old now past =
    let a = one_more old.of_in now.of_in (has_bit bits IN) past.of_in in
    let b = one_more old.of_out now.of_out (has_bit bits OUT) past.of_out in
    let c = one_more old.of_err now.of_err (has_bit bits ERR) past.of_err in
    let d = one_more old.of_hup now.of_hup (has_bit bits HUP) past.of_hup in
    let e = one_more old.of_rdhup now.of_rdhup (has_bit bits RDHUP) past.of_rdhup in
    (λ i. has_bit wanted IN && a i || has_bit wanted OUT && b i || has_bit wanted ERR && c i || has_bit wanted HUP && d i || has_bit wanted RDHUP && e i)
    ∙ five (has_bit wanted IN) (nat_lt old.of_in now.of_in) (has_bit bits IN) (has_bit wanted OUT) (nat_lt old.of_out now.of_out) (has_bit bits OUT) (has_bit wanted ERR) (nat_lt old.of_err now.of_err) (has_bit bits ERR) (has_bit wanted HUP) (nat_lt old.of_hup now.of_hup) (has_bit bits HUP) (has_bit wanted RDHUP) (nat_lt old.of_rdhup now.of_rdhup) (has_bit bits RDHUP)
  where
    five : (p l b q m c r n d s o e t u f : Bool) → (p && (l || b) || q && (m || c) || r && (n || d) || s && (o || e) || t && (u || f))
        ≡ ((p && l || q && m || r && n || s && o || t && u) || (p && b || q && c || r && d || s && e || t && f))
    five p l b q m c r n d s o e t u f =
        let second = ap (λ (x : Bool). x || q && (m || c)) (apart_one p l b) ∙ apart_next (p && l) (p && b) q m c in
        let third = ap (λ (x : Bool). x || r && (n || d)) second ∙ apart_next (p && l || q && m) (p && b || q && c) r n d in
        let fourth = ap (λ (x : Bool). x || s && (o || e)) third ∙ apart_next (p && l || q && m || r && n) (p && b || q && c || r && d) s o e in
        ap (λ (x : Bool). x || t && (u || f)) fourth ∙ apart_next (p && l || q && m || r && n || s && o) (p && b || q && c || r && d || s && e) t u f

pub fresh_counted : (seen : Option Counts) (wanted bits : ℕ) (now : Counts) → HasSeen seen now → is_fresh_since seen wanted (counted bits now) ≡ (is_fresh_since seen wanted now || holds_wanted wanted bits)
fresh_counted None wanted bits now h = refl
fresh_counted (Some old) wanted bits now h = arrived_counted wanted bits old now h

more : (old now : ℕ) (b : Bool) → old ≤ now → old ≤ now + when b 1
more old now b le = omega (arith, le)

pub past_counted : (seen : Option Counts) (bits : ℕ) (now : Counts) → HasSeen seen now → HasSeen seen (counted bits now)
past_counted None bits now h = tt
past_counted (Some old) bits now h = record {
  of_in = more old.of_in now.of_in (has_bit bits IN) h.of_in;
  of_out = more old.of_out now.of_out (has_bit bits OUT) h.of_out;
  of_err = more old.of_err now.of_err (has_bit bits ERR) h.of_err;
  of_hup = more old.of_hup now.of_hup (has_bit bits HUP) h.of_hup;
  of_rdhup = more old.of_rdhup now.of_rdhup (has_bit bits RDHUP) h.of_rdhup;
}

pub past_itself : (c : Counts) → IsPast c c
past_itself c = record { of_in = omega arith; of_out = omega arith; of_err = omega arith; of_hup = omega arith; of_rdhup = omega arith }

-- The counts of a live description after arrivals.
counts_at : (s : State) (raised : List (ℕ × ℕ)) (k i : ℕ) (ps : List (Option Place)) → is_some (get_or ps i None) ≡ true → get_or (counts_from s raised k ps) i no_counts ≡ counted (spread s raised (k + i)) (counts_of s (k + i))
counts_at s raised k i [] h = absurd (false≢true h)
counts_at s raised k zero (p ∷ ps) h = ap (λ (d : ℕ). counted (spread s raised d) (counts_of s d)) (sym (add-zero k))
counts_at s raised k (suc i) (p ∷ ps) h = counts_at s raised (k + 1) i ps h ∙ ap (λ (d : ℕ). counted (spread s raised d) (counts_of s d)) (next k i)

-- what is raised at dead descriptions is raised at no live one
pub alive_raised : (f : Files) (raised : List (ℕ × ℕ)) (d : ℕ) → is_live f d ≡ true → raised_of (filter (λ r. is_live f r.0) raised) d ≡ raised_of raised d
alive_raised f [] d h = refl
alive_raised f (r ∷ rest) d h =
    let same = alive_raised f rest d h in
    elim (cases_Bool (is_live f r.0)) [
      | inl lives ↦ ap (λ (b : Bool). raised_of (cond b (r ∷ filter (λ x. is_live f x.0) rest) (filter (λ x. is_live f x.0) rest)) d) lives ∙ ap (bit_or (when (r.0 == d) r.1)) same
      | inr dead ↦
          ap (λ (b : Bool). raised_of (cond b (r ∷ filter (λ x. is_live f x.0) rest) (filter (λ x. is_live f x.0) rest)) d) dead
          ∙ (same ∙ ap (λ (b : Bool). bit_or (when b r.1) (raised_of rest d)) (sym (apart_from dead)))
    ] where
      apart_from : is_live f r.0 ≡ false → (r.0 == d) ≡ false
      apart_from dead = elim (cases_Bool (r.0 == d)) [
        | inl e ↦ absurd (false≢true (sym dead ∙ (ap (is_live f) (from_test r.0 d e) ∙ h)))
        | inr e ↦ e
      ]

module _ (s : State) (raised : List (ℕ × ℕ)) (d : ℕ) (lives : is_live s.files d ≡ true) where
  abbrev bits : ℕ
  bits = spread s (raised_alive s raised) d

  counts_arrived : counts_of (arrived s raised) d ≡ counted bits (counts_of s d)
  counts_arrived =
      let live = raised_alive s raised in
      counts_at s live 0 d s.files.descriptions lives ∙ ap (λ (k : ℕ). counted (spread s live k) (counts_of s k)) (zero-add d)

  -- a registration on it is fresh where it was, or where something that it asks for arrives
  pub fresh_arrived : (x : Watch) → x.target ≡ d → HasSeen x.seen (counts_of s x.target) → is_fresh (arrived s raised) x ≡ (is_fresh s x || brings x.mask (spread s (raised_alive s raised) x.target))
  fresh_arrived x at seen =
      let wanted = asked x.mask every_shown_bit in
      ap (λ (k : ℕ). is_fresh_since x.seen wanted (counts_of (arrived s raised) k)) at
      ∙ (ap (is_fresh_since x.seen wanted) counts_arrived
      ∙ (fresh_counted x.seen wanted bits (counts_of s d) (subst (λ (k : ℕ). HasSeen x.seen (counts_of s k)) at seen)
      ∙ ap (λ (k : ℕ). is_fresh_since x.seen wanted (counts_of s k) || holds_wanted wanted (spread s (raised_alive s raised) k)) (sym at)))

  pub seen_arrived : (x : Watch) → x.target ≡ d → HasSeen x.seen (counts_of s x.target) → HasSeen x.seen (counts_of (arrived s raised) x.target)
  seen_arrived x at seen =
      subst (λ (k : ℕ). HasSeen x.seen (counts_of (arrived s raised) k)) (sym at)
      (subst (λ (c : Counts). HasSeen x.seen c) (sym counts_arrived)
      (past_counted x.seen bits (counts_of s d) (subst (λ (k : ℕ). HasSeen x.seen (counts_of s k)) at seen)))

-- What is raised in parts, and what that freshens.

-- Bits of unions.
max_min : (a b c : ℕ) → min (max a b) c ≡ max (min a c) (min b c)
max_min a b c = omega arith

pub and_or : (a b k : ℕ) → bit_and (bit_or a b) k ≡ bit_or (bit_and a k) (bit_and b k)
and_or a b k =
    same_from_bits (bit_and (bit_or a b) k) (bit_or (bit_and a k) (bit_and b k)) (λ i.
    bit_at_and (bit_or a b) k i
    ∙ (ap (λ (n : ℕ). min n (bit_at k i)) (bit_at_or a b i)
    ∙ (max_min (bit_at a i) (bit_at b i) (bit_at k i)
    ∙ sym (bit_at_or (bit_and a k) (bit_and b k) i ∙ (λ j. max (bit_at_and a k i j) (bit_at_and b k i j))))))

is_zero_test : (n : ℕ) → n ≡ 0 → (n == 0) ≡ true
is_zero_test n h = grind (arith, nat_tests, h)

or_is_zero : (a b : ℕ) → (bit_or a b == 0) ≡ ((a == 0) && (b == 0))
or_is_zero a b =
    same_bools (bit_or a b == 0) ((a == 0) && (b == 0))
    (λ h.
    let none = zero_test (bit_or a b) h in
    let l = le_or_l a b in
    let r = le_or_r a b in λ i. is_zero_test a (omega (arith, none, l)) i && is_zero_test b (omega (arith, none, r)) i)
    (λ h. let both = both_true (a == 0) (b == 0) h in is_zero_test (bit_or a b) (λ i. bit_or (zero_test a both.0 i) (zero_test b both.1 i)))

not_and : (a b : Bool) → not (a && b) ≡ (not a || not b)
not_and true b = refl
not_and false b = refl

pub has_either : (a b k : ℕ) → has_bit (bit_or a b) k ≡ (has_bit a k || has_bit b k)
has_either a b k = ap (λ (n : ℕ). not (n == 0)) (and_or a b k) ∙ (ap not (or_is_zero (bit_and a k) (bit_and b k)) ∙ not_and (bit_and a k == 0) (bit_and b k == 0))

-- tests of several bits, each of one set and of another
join_one : (p a b : Bool) → (p && (a || b)) ≡ (p && a || p && b)
join_one true a b = refl
join_one false a b = refl

join_next : (x y p a b : Bool) → ((x || y) || p && (a || b)) ≡ ((x || p && a) || (y || p && b))
join_next true y p a b = refl
join_next false true true true b = refl
join_next false true true false b = refl
join_next false true false a b = refl
join_next false false p a b = join_one p a b

wanted_either : (w a b : ℕ) → holds_wanted w (bit_or a b) ≡ (holds_wanted w a || holds_wanted w b)
wanted_either w a b =
    let p = has_bit w IN in
    let q = has_bit w OUT in
    let r = has_bit w ERR in
    let s = has_bit w HUP in
    let t = has_bit w RDHUP in
    let one = ap (λ (x : Bool). p && x) (has_either a b IN) ∙ join_one p (has_bit a IN) (has_bit b IN) in
    let two = (λ i. one i || q && has_either a b OUT i) ∙ join_next (p && has_bit a IN) (p && has_bit b IN) q (has_bit a OUT) (has_bit b OUT) in
    let three = (λ i. two i || r && has_either a b ERR i) ∙ join_next (p && has_bit a IN || q && has_bit a OUT) (p && has_bit b IN || q && has_bit b OUT) r (has_bit a ERR) (has_bit b ERR) in
    let four = (λ i. three i || s && has_either a b HUP i) ∙ join_next (p && has_bit a IN || q && has_bit a OUT || r && has_bit a ERR) (p && has_bit b IN || q && has_bit b OUT || r && has_bit b ERR) s (has_bit a HUP) (has_bit b HUP) in
    (λ i. four i || t && has_either a b RDHUP i) ∙ join_next (p && has_bit a IN || q && has_bit a OUT || r && has_bit a ERR || s && has_bit a HUP) (p && has_bit b IN || q && has_bit b OUT || r && has_bit b ERR || s && has_bit b HUP) t (has_bit a RDHUP) (has_bit b RDHUP)

pub brings_either : (mask a b : ℕ) → brings mask (bit_or a b) ≡ (brings mask a || brings mask b)
brings_either mask a b = wanted_either (asked mask every_shown_bit) a b

-- What is raised by parts.
joined : (n : ℕ) (a b p q : Bool) (x : KernelWatch) → stirred n (a || b) (p || q) x ≡ stirred n b q (stirred n a p x)
joined n true true true true x = refl
joined n true true true false x = refl
joined n true true false true x = refl
joined n true true false false x = refl
joined n true false true true x = refl
joined n true false true false x = refl
joined n true false false true x = refl
joined n true false false false x = refl
joined n false b true true x = refl
joined n false b true false x = refl
joined n false b false q x = refl

-- some bit that is asked for is among those of a union
pub asked_either : (mask a b : ℕ) → nat_lt 0 (asked mask (bit_or a b)) ≡ (nat_lt 0 (asked mask a) || nat_lt 0 (asked mask b))
asked_either mask a b =
    let u = union (mask ∷ ERR ∷ HUP ∷ []) in
    ap (nat_lt 0) (and_or a b u)
    ∙ (positive (bit_or (bit_and a u) (bit_and b u))
    ∙ (ap not (or_is_zero (bit_and a u) (bit_and b u))
    ∙ (not_and (bit_and a u == 0) (bit_and b u == 0)
    ∙ (λ i. sym (positive (bit_and a u)) i || sym (positive (bit_and b u)) i))))

and_either : (p a b : Bool) → (p && (a || b)) ≡ (p && a || p && b)
and_either true a b = refl
and_either false a b = refl

-- what is noted of one part, then of the other
pub fresh_parts : (n : ℕ) (rs qs : List (ℕ × ℕ)) (xs : List KernelWatch) → map (freshened n (rs ++ qs)) xs ≡ map (freshened n qs) (map (freshened n rs) xs)
fresh_parts n rs qs [] = refl
fresh_parts n rs qs (x ∷ xs) =
    let a = raised_of rs x.target in
    let b = raised_of qs x.target in
    let both = raised_parts rs qs x.target in
    let arrives : brings x.mask (raised_of (rs ++ qs) x.target) ≡ (brings x.mask a || brings x.mask b) = ap (brings x.mask) both ∙ brings_either x.mask a b in
    let passes : (x.armed && nat_lt 0 (asked x.mask (raised_of (rs ++ qs) x.target))) ≡ (x.armed && nat_lt 0 (asked x.mask a) || x.armed && nat_lt 0 (asked x.mask b)) =
    ap (λ (k : ℕ). x.armed && nat_lt 0 (asked x.mask k)) both ∙ (ap (λ (t : Bool). x.armed && t) (asked_either x.mask a b) ∙ and_either x.armed (nat_lt 0 (asked x.mask a)) (nat_lt 0 (asked x.mask b))) in
    let one : freshened n (rs ++ qs) x ≡ freshened n qs (freshened n rs x) =
    (λ i. stirred n (arrives i) (passes i) x) ∙ joined n (brings x.mask a) (brings x.mask b) (x.armed && nat_lt 0 (asked x.mask a)) (x.armed && nat_lt 0 (asked x.mask b)) x in
    λ i. one i ∷ fresh_parts n rs qs xs i

-- which registrations stay has nothing to do with what is noted
pub fresh_filter : (n : ℕ) (f : Files) (rs : List (ℕ × ℕ)) (xs : List KernelWatch) → filter (stays_in f) (map (freshened n rs) xs) ≡ map (freshened n rs) (filter (stays_in f) xs)
fresh_filter n f rs [] = refl
fresh_filter n f rs (x ∷ xs) =
    let rest = fresh_filter n f rs xs in
    elim (stays_in f x) as (λ b. cond b (freshened n rs x ∷ filter (stays_in f) (map (freshened n rs) xs)) (filter (stays_in f) (map (freshened n rs) xs)) ≡ map (freshened n rs) (cond b (x ∷ filter (stays_in f) xs) (filter (stays_in f) xs))) [
      | true ↦ ap (λ (ys : List KernelWatch). freshened n rs x ∷ ys) rest
      | false ↦ rest
    ]

-- Deaths add what they raise to what was raised.
pub deaths_raise : (f : Files) (rs : List (ℕ × ℕ)) (xs : List (ℕ × Place)) → (die_all (f, rs) xs).1 ≡ rs ++ (die_all (f, []) xs).1
deaths_raise f rs [] = sym (append-nil rs)
deaths_raise f rs (x ∷ xs) =
    let next = die (f, []) x in
    deaths_raise next.0 (rs ++ next.1) xs
    ∙ (append_assoc rs next.1 (die_all (next.0, []) xs).1
    ∙ ap (λ (qs : List (ℕ × ℕ)). rs ++ qs) (sym (deaths_raise next.0 next.1 xs)))
