-- Whose turn may be next.
use Rattle.std.proofs.Common.{◌≡◌, ◌≢◌, ◌++◌, ◌∷◌, ◌+◌, ◌-◌, ◌<◌, ◌≤◌, ◌==◌, ◌&&◌, ◌∙◌, [], Bool, Contains, List, None, Option, Some, ap, ap₂, arith, eq-eqb, eqb-true, slice_index, false, filter, flat_map, if◌then◌else◌, inl, inr, is_some, length, not, refl, subst, suc, sym, true, zero, ℕ}
use Rattle.std.specs.List.{AllByRecursion, list_any, range_with_len, slice_get}
use Rattle.std.proofs.lemmas.Bool.{cases_order}
use Rattle.std.proofs.lemmas.Grind.{flat_map-append}
use Rattle.std.proofs.lemmas.List.{append-nil, append_assoc}
use Rattle.std.proofs.lemmas.List.Elements.{Contains-append_left, Contains-append_right, filter-append}
use Rattle.std.proofs.lemmas.List.Folds.{list_any_none}
use Rattle.std.proofs.Math.Bool.{and-false}
use Rattle.ep_facts.proofs.NatFacts.{same_nat}
use Rattle.ep_facts.proofs.BoolFacts.{both_true}
use Rattle.ep_orders.specs.declared.scenario.Line.{Line as Script}
use Rattle.ep_orders.specs.declared.turn.ClockTurns.{ClockTurns}
use Rattle.ep_orders.specs.declared.turn.ClockTurns.TheVariants.{Any, Idle}
use Rattle.ep_orders.specs.declared.turn.Turn.{Turn}
use Rattle.ep_orders.specs.declared.turn.Turn.TheVariants.{Clock, Line}
use Rattle.ep_machine.specs.State.{State}
use Rattle.ep_calls.specs.Driver.{HasNoEffect, IsNextEffect, TellsNext, has_effect}
use Rattle.ep_orders.specs.Orders.{HasEnded}
use Rattle.ep_orders.specs.Place.{Place, World, affords, again, can_again, can_any_go, can_go, candidates, is_last, is_preemption, may_go, may_pass, next_at, next_in, other, others, ways_at}
use Rattle.ep_orders.proofs.ListLemmas.{Apart, all_append, apart_append, apart_filter, contains_filter, contains_flat_map, contains_head, contains_nothing, contains_range, range_next}

-- ---- the others, one by one

pub others_next : (last : Option ℕ) (n : ℕ) → others last (n + 1) ≡ others last n ++ other last n
others_next last n =
    ap (flat_map (other last)) (range_next n)
    ∙ (flat_map-append (other last) (range_with_len 0 n) (n ∷ []) ∙ ap (λ ts. others last n ++ ts) (append-nil (other last n)))

pub others_more : (may : Turn → Bool) (last : Option ℕ) (n : ℕ) (first ways more : List Turn) → ways ≡ first ++ filter may (others last n)
    → more ≡ ways ++ filter may (other last n) → more ≡ first ++ filter may (others last (n + 1))
others_more may last n first ways more before adds =
    adds ∙ (ap (λ ts. ts ++ filter may (other last n)) before
    ∙ (append_assoc first (filter may (others last n)) (filter may (other last n))
    ∙ ap (λ ts. first ++ ts) (sym (filter-append may (others last n) (other last n)) ∙ ap (filter may) (sym (others_next last n)))))

-- ---- each turn that may be is among them

in_other : (b : Bool) (n : ℕ) → b ≡ false → Contains (if b then [] else Line n ∷ []) (Line n)
in_other true n e = absurd (cc)
in_other false n e = contains_head (Line n) []

in_others : (last : Option ℕ) (count n : ℕ) → n < count → is_last last n ≡ false → Contains (others last count) (Line n)
in_others last count n lt differs =
    contains_flat_map (other last) (range_with_len 0 count) n (Line n) (in_other (is_last last n) n differs) (subst (Contains (range_with_len 0 count)) (omega arith) (contains_range 0 count n lt))

line_by : (last : Option ℕ) (count n : ℕ) (b : Bool) → is_last last n ≡ b → n < count → Contains (again last ++ others last count) (Line n)
line_by last count n false e lt = Contains-append_right (again last) (others last count) (Line n) (in_others last count n lt e)
line_by None count n true e lt = absurd (cc)
line_by (Some l) count n true e lt =
    let same : l ≡ n = eqb-true l n e in
    Contains-append_left (Line l ∷ []) (others (Some l) count) (Line n) (subst (λ k. Contains (Line l ∷ []) (Line k)) same (contains_head (Line l) []))

get_within : {X : Type 0} (xs : List X) (n : ℕ) → is_some (slice_get xs n) ≡ true → n < length xs
get_within [] n e = absurd (cc)
get_within (x ∷ xs) zero e = omega arith
get_within (x ∷ xs) (suc n) e = omega (arith, get_within xs n e)

next_is_some : (s : State) (done : ℕ) (line : Option Script) → is_some (next_in s done line) ≡ true → is_some line ≡ true
next_is_some s done None e = e
next_is_some s done (Some l) e = refl

can_within : (w : World) (p : Place) (n : ℕ) → can_go w p n ≡ true → n < length w.lines
can_within w p n can = get_within w.lines n (next_is_some p.state (slice_index p.done n) (slice_get w.lines n) can)

may_line : (w : World) (p : Place) (moment : Option ℕ) (n : ℕ) → may_go w p moment (Line n) ≡ true → can_go w p n ≡ true
may_line w p moment n may = (both_true (can_go w p n) _ may).0

-- each turn that may be is among the ways
pub way_there : (w : World) (p : Place) (moment : Option ℕ) (t : Turn) → may_go w p moment t ≡ true → Contains (ways_at w p moment) t
way_there w p moment (Line n) may =
    let lt = can_within w p n (may_line w p moment n may) in
    contains_filter (may_go w p moment) (candidates p.last (length w.lines)) (Line n) may
    (Contains-append_left (again p.last ++ others p.last (length w.lines)) (Clock ∷ []) (Line n) (line_by p.last (length w.lines) n (is_last p.last n) refl lt))
way_there w p moment Clock may =
    contains_filter (may_go w p moment) (candidates p.last (length w.lines)) Clock may
    (Contains-append_right (again p.last ++ others p.last (length w.lines)) (Clock ∷ []) Clock (contains_head Clock []))

-- ---- if nobody may go, nobody can

affords_none : (bound : Option ℕ) (spent : ℕ) → affords bound spent false ≡ true
affords_none None spent = refl
affords_none (Some b) spent = refl

nobody : (w : World) (p : Place) (moment : Option ℕ) → ways_at w p moment ≡ [] → (t : Turn) → may_go w p moment t ≡ true → ⊥
nobody w p moment none t may = contains_nothing t (subst (λ ts. Contains ts t) none (way_there w p moment t may))

may_by : (w : World) (p : Place) (moment : Option ℕ) (n : ℕ) → can_go w p n ≡ true → is_preemption w p (Line n) ≡ false → may_go w p moment (Line n) ≡ true
may_by w p moment n can free =
    ap₂ (λ a b. a && affords w.rules.bound p.spent b) can free ∙ affords_none w.rules.bound p.spent

last_may : (w : World) (p : Place) (moment : Option ℕ) (last : Option ℕ) → p.last ≡ last → can_again w p last ≡ true → (n : ℕ) × (may_go w p moment (Line n) ≡ true)
last_may w p moment None is can = absurd (cc)
last_may w p moment (Some l) is can =
    let itself : is_last p.last l ≡ true = ap (λ o. is_last o l) is ∙ same_nat l in
    (l, may_by w p moment l can (ap (λ b. can_again w p p.last && not b) itself ∙ and-false (can_again w p p.last)))

cannot_by : (w : World) (p : Place) (moment : Option ℕ) → ways_at w p moment ≡ [] → (n : ℕ) (b c : Bool) → can_go w p n ≡ b → can_again w p p.last ≡ c → b ≡ false
cannot_by w p moment none n false c can again_is = refl
cannot_by w p moment none n true true can again_is =
    let l = last_may w p moment p.last refl again_is in
    absurd (nobody w p moment none (Line l.0) l.1)
cannot_by w p moment none n true false can again_is =
    absurd (nobody w p moment none (Line n) (may_by w p moment n can (ap (λ b. b && not (is_last p.last n)) again_is)))

cannot : (w : World) (p : Place) (moment : Option ℕ) → ways_at w p moment ≡ [] → (n : ℕ) → can_go w p n ≡ false
cannot w p moment none n = cannot_by w p moment none n (can_go w p n) (can_again w p p.last) refl refl

none_of : (f : ℕ → Bool) (n : ℕ) → ((i : ℕ) → f i ≡ false) → list_any f (range_with_len 0 n) ≡ false
none_of f n each = list_any_none f (range_with_len 0 n) (λ k d lt. each _)

is_none_of : {X : Type 0} (o : Option X) → is_some o ≡ false → o ≡ None
is_none_of None e = refl
is_none_of (Some x) e = absurd (cc)

may_tick_by : (w : World) (p : Place) (m : ℕ) (clock : ClockTurns) → w.rules.clock ≡ clock → can_any_go w p ≡ false → may_go w p (Some m) Clock ≡ true
may_tick_by w p m Idle is nobody_can =
    ap₂ (λ a b. may_pass a b && affords w.rules.bound p.spent b) is nobody_can ∙ affords_none w.rules.bound p.spent
may_tick_by w p m Any is nobody_can =
    ap₂ (λ a b. may_pass a b && affords w.rules.bound p.spent b) is nobody_can ∙ affords_none w.rules.bound p.spent

still : (w : World) (p : Place) (moment : Option ℕ) → TellsNext p.state moment → ways_at w p moment ≡ [] → can_any_go w p ≡ false → HasNoEffect p.state
still w p None tells none nobody_can = tells
still w p (Some m) tells none nobody_can =
    absurd (nobody w p (Some m) none Clock (may_tick_by w p m w.rules.clock refl nobody_can))

pub has_ended : (w : World) (p : Place) (moment : Option ℕ) → TellsNext p.state moment → ways_at w p moment ≡ [] → HasEnded w p
has_ended w p moment tells none =
    let each = cannot w p moment none in
    record {
      callers = λ n. is_none_of (next_at w p n) (each n);
      clock = still w p moment tells none (none_of (can_go w p) (length w.lines) each);
    }

-- ---- no turn is there twice

line_differs : (a b : ℕ) → a < b → Line a ≢ Line b
line_differs a b lt e = let same : a ≡ b = cc in absurd (omega (arith, same))

line_is_not_clock : (n : ℕ) → Line n ≢ Clock
line_is_not_clock n e = cc

other_by : (P : Turn → Type 0) (b : Bool) (n : ℕ) → P (Line n) → AllByRecursion P (if b then [] else Line n ∷ [])
other_by P true n here = tt
other_by P false n here = (here, tt)

other_all : (P : Turn → Type 0) (b : Bool) (n : ℕ) {c : Bool} → c ≡ b → (c ≡ false → P (Line n)) → AllByRecursion P (if b then [] else Line n ∷ [])
other_all P true n e here = tt
other_all P false n e here = (here e, tt)

not_last : (l k : ℕ) → 0 ≤ k → is_last (Some l) k ≡ false → Line l ≢ Line k
not_last l k le differs e =
    let same : l ≡ k = cc in
    let one : (l == k) ≡ true = eq-eqb l k same in
    absurd (cc)

others_all : (P : Turn → Type 0) (last : Option ℕ) (a n : ℕ) → ((k : ℕ) → a ≤ k → is_last last k ≡ false → P (Line k)) → AllByRecursion P (flat_map (other last) (range_with_len a n))
others_all P last a zero each = tt
others_all P last a (suc n) each =
    all_append P (other last a) (flat_map (other last) (range_with_len (a + 1) n)) (other_all P (is_last last a) a refl (each a (omega arith)))
    (others_all P last (a + 1) n (λ k le. each k (omega arith)))

other_apart : (b : Bool) (n : ℕ) → Apart (if b then [] else Line n ∷ [])
other_apart true n = tt
other_apart false n = (tt, tt)

others_apart : (last : Option ℕ) (a n : ℕ) → Apart (flat_map (other last) (range_with_len a n))
others_apart last a zero = tt
others_apart last a (suc n) =
    apart_append (other last a) (flat_map (other last) (range_with_len (a + 1) n)) (other_apart (is_last last a) a) (others_apart last (a + 1) n)
    (other_by (λ x. AllByRecursion (λ y. x ≢ y) (flat_map (other last) (range_with_len (a + 1) n))) (is_last last a) a
    (others_all (λ y. Line a ≢ y) last (a + 1) n (λ k le no. line_differs a k (omega arith))))

again_apart : (last : Option ℕ) (n : ℕ) → Apart (again last ++ others last n)
again_apart None n = others_apart None 0 n
again_apart (Some l) n = (others_all (λ y. Line l ≢ y) (Some l) 0 n (not_last l), others_apart (Some l) 0 n)

front_is_not_clock : (last : Option ℕ) (n : ℕ) → AllByRecursion (λ x. AllByRecursion (λ y. x ≢ y) (Clock ∷ [])) (again last ++ others last n)
front_is_not_clock None n = others_all (λ x. AllByRecursion (λ y. x ≢ y) (Clock ∷ [])) None 0 n (λ k le no. (line_is_not_clock k, tt))
front_is_not_clock (Some l) n =
    ((line_is_not_clock l, tt), others_all (λ x. AllByRecursion (λ y. x ≢ y) (Clock ∷ [])) (Some l) 0 n (λ k le no. (line_is_not_clock k, tt)))

pub ways_apart : (w : World) (p : Place) (moment : Option ℕ) → Apart (ways_at w p moment)
ways_apart w p moment =
    apart_filter (may_go w p moment) (candidates p.last (length w.lines))
    (apart_append (again p.last ++ others p.last (length w.lines)) (Clock ∷ []) (again_apart p.last (length w.lines)) (tt, tt) (front_is_not_clock p.last (length w.lines)))

-- ---- the next moment is one

next_differs : (s : State) (m k : ℕ) → IsNextEffect s m → IsNextEffect s k → m < k → ⊥
next_differs s m k first second lt =
    let none : has_effect s (m - s.now) ≡ false = second.first (m - s.now) (omega (arith, first.later, lt)) in
    let one = first.effect in
    absurd (cc)

none_differs : (s : State) (m : ℕ) → HasNoEffect s → IsNextEffect s m → ⊥
none_differs s m none next =
    let no : has_effect s (m - s.now) ≡ false = none (m - s.now) (omega (arith, next.later, next.comes)) in
    let one = next.effect in
    absurd (cc)

pub one_moment : (s : State) (a b : Option ℕ) → TellsNext s a → TellsNext s b → a ≡ b
one_moment s None None p q = refl
one_moment s None (Some m) p q = absurd (none_differs s m p q)
one_moment s (Some m) None p q = absurd (none_differs s m q p)
one_moment s (Some m) (Some k) p q =
    elim (cases_order m k) [
      | inl e ↦ ap (λ n. Some n) e
      | inr h ↦ elim h [ inl lt ↦ absurd (next_differs s m k p q lt) | inr lt ↦ absurd (next_differs s k m q p lt) ]
    ]
