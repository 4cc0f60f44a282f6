-- Waiters that come and go, and the instances that are held for them.
use Rattle.std.proofs.Common.{◌≡◌, ◌≢◌, ◌∙◌, ◌==◌, ◌++◌, ◌+◌, ◌-◌, ◌<◌, ℕ, zero, suc, Bool, true, false, All, IsSome, List, [], ◌∷◌, None, Option, Some, ap, arith, cond, filter, if◌then◌else◌, inl, inr, length, map, nat_eq, not, refl, slice_index_or, subst, sym, unwrap_or}
use Rattle.std.specs.List.{AllByRecursion, IsDistinct, find, list_any}
use Rattle.std.proofs.lemmas.Bool.{cases_Bool, false≢true, or_parts}
use Rattle.std.proofs.lemmas.Bool.Decides.{nat_tests}
use Rattle.std.proofs.lemmas.List.{get_or-set_other, get_or-set_same}
use Rattle.std.proofs.lemmas.List.Elements.{All-head, All-tail}
use Rattle.ep_facts.proofs.NatFacts.{from_test, plus_none, same_nat}
use Rattle.ep_base.specs.declared.ids.DescId.{DescId}
use Rattle.ep_machine.specs.Files.{Place}
use Rattle.ep_machine.specs.State.{Waiter}
use Rattle.ep_park.specs.Waiters.{is_caller, parked, without}
use Rattle.ep_park.specs.declared.waiter.Waiter.{Waiter as ParkedWaiter}
use Rattle.ep_calls.specs.Stands.{AreHeld}
use Rattle.ep_calls.specs.Stands.{ArePlaced, IsPlaced, number_at, waiters_at}
use Rattle.ep_calls.proofs.KeyLemmas.{under_key}
use Rattle.ep_table.specs.Value.{Seen, Sound, count_at, holds_of, less_at, more_at, number_of, number_under}

apart : (a b : ℕ) → (a == b) ≡ false → b ≢ a
apart a b e = λ h. grind (arith, nat_tests, e, h)

some_is : (v w : Waiter) → Some v ≡ Some w → v ≡ w
some_is v w h = ap (λ (o : Option Waiter). unwrap_or o v) h

-- the one that is found is one of them
pub found_all : (P : Waiter → Type 0) (c : ℕ) (ws : List Waiter) (u : Waiter) → find (is_caller c) ws ≡ Some u → All P ws → P u
found_all P c [] u is h = absurd cc
found_all P c (w ∷ ws) u is h = elim (cases_Bool (w.caller == c)) [
  | inl e ↦ subst P (some_is w u (sym (ap (λ (b : Bool). cond b (Some w) (find (is_caller c) ws)) e) ∙ is)) (All-head P w ws h)
  | inr e ↦ found_all P c ws u (sym (ap (λ (b : Bool). cond b (Some w) (find (is_caller c) ws)) e) ∙ is) (All-tail P w ws h)
]

-- a caller that is not parked leaves nothing
pub none_left : (c : ℕ) (ws : List Waiter) → find (is_caller c) ws ≡ None → without c ws ≡ ws
none_left c [] none = refl
none_left c (w ∷ ws) none = elim (cases_Bool (w.caller == c)) [
  | inl e ↦ let here : Some w ≡ None = sym (ap (λ (b : Bool). cond b (Some w) (find (is_caller c) ws)) e) ∙ none in absurd cc
  | inr e ↦
      ap (λ (b : Bool). cond (not b) (w ∷ without c ws) (without c ws)) e
      ∙ ap (λ (xs : List Waiter). w ∷ xs) (none_left c ws (sym (ap (λ (b : Bool). cond b (Some w) (find (is_caller c) ws)) e) ∙ none))
]

-- one that parked and leaves again
pub left_parked : (c : ℕ) (ws : List Waiter) (w : ParkedWaiter) → list_any (is_caller c) ws ≡ false → without c (ws ++ parked c w ∷ []) ≡ ws
left_parked c [] w free = ap (λ (b : Bool). cond (not b) (parked c w ∷ []) []) (same_nat c)
left_parked c (v ∷ ws) w free =
    let r = or_parts (v.caller == c) (list_any (is_caller c) ws) free in
    ap (λ (b : Bool). cond (not b) (v ∷ without c (ws ++ parked c w ∷ [])) (without c (ws ++ parked c w ∷ []))) r.0
    ∙ ap (λ (xs : List Waiter). v ∷ xs) (left_parked c ws w r.1)

-- How many wait at a description.
abbrev times : List (Option ℕ) → List Waiter → ℕ → ℕ
times keys ws d = length (filter (λ k. k == d) (map (λ w. w.instance) (waiters_at keys ws)))

abbrev at_key : List (Option ℕ) → Waiter → ℕ
at_key keys w = number_at keys (record { 0 = w.instance })

abbrev once : Bool → ℕ
once b = if b then 1 else 0

one_more : (b : Bool) (k : ℕ) (ks : List ℕ) → length (cond b (k ∷ ks) ks) ≡ length ks + once b
one_more true k ks = omega arith
one_more false k ks = omega arith

times_first : (keys : List (Option ℕ)) (w : Waiter) (ws : List Waiter) (d : ℕ) → times keys (w ∷ ws) d ≡ times keys ws d + once (at_key keys w == d)
times_first keys w ws d = one_more (at_key keys w == d) (at_key keys w) (filter (λ k. k == d) (map (λ v. v.instance) (waiters_at keys ws)))

around : (a b c x y : ℕ) → a ≡ b + x → b ≡ c + y → a ≡ (c + x) + y
around a b c x y e f = omega arith

times_last : (keys : List (Option ℕ)) (ws : List Waiter) (w : Waiter) (d : ℕ) → times keys (ws ++ w ∷ []) d ≡ times keys ws d + once (at_key keys w == d)
times_last keys [] w d = times_first keys w [] d
times_last keys (v ∷ ws) w d =
    around (times keys (v ∷ ws ++ w ∷ []) d) (times keys (ws ++ w ∷ []) d) (times keys ws d) (once (at_key keys v == d)) (once (at_key keys w == d))
    (times_first keys v (ws ++ w ∷ []) d) (times_last keys ws w d)
    ∙ ap (λ (n : ℕ). n + once (at_key keys w == d)) (sym (times_first keys v ws d))

-- no other waiter has the caller of one that is parked
apart_left : (c : ℕ) (ws : List Waiter) → AllByRecursion (λ k. nat_eq c k ≡ false) (map (λ w. w.caller) ws) → without c ws ≡ ws
apart_left c [] h = refl
apart_left c (w ∷ ws) h =
    let e : (w.caller == c) ≡ false = grind (arith, nat_tests, h.0) in
    ap (λ (b : Bool). cond (not b) (w ∷ without c ws) (without c ws)) e ∙ ap (λ (xs : List Waiter). w ∷ xs) (apart_left c ws h.1)

times_left : (keys : List (Option ℕ)) (c : ℕ) (u : Waiter) (ws : List Waiter) (d : ℕ) → IsDistinct nat_eq (map (λ w. w.caller) ws) → find (is_caller c) ws ≡ Some u → times keys ws d ≡ times keys (without c ws) d + once (at_key keys u == d)
unfolding IsDistinct
times_left keys c u [] d h is = absurd cc
times_left keys c u (w ∷ ws) d h is = elim (cases_Bool (w.caller == c)) [
  | inl e ↦
      let same = some_is w u (sym (ap (λ (b : Bool). cond b (Some w) (find (is_caller c) ws)) e) ∙ is) in
      let others : AllByRecursion (λ k. nat_eq c k ≡ false) (map (λ v. v.caller) ws) = subst (λ (n : ℕ). AllByRecursion (λ k. nat_eq n k ≡ false) (map (λ v. v.caller) ws)) (from_test w.caller c e) h.0 in
      let gone : without c (w ∷ ws) ≡ ws = ap (λ (b : Bool). cond (not b) (w ∷ without c ws) (without c ws)) e ∙ apart_left c ws others in
      times_first keys w ws d ∙ (λ i. times keys (sym gone i) d + once (at_key keys (same i) == d))
  | inr e ↦
      let rest = times_left keys c u ws d h.1 (sym (ap (λ (b : Bool). cond b (Some w) (find (is_caller c) ws)) e) ∙ is) in
      let kept : without c (w ∷ ws) ≡ w ∷ without c ws = ap (λ (b : Bool). cond (not b) (w ∷ without c ws) (without c ws)) e in
      around (times keys (w ∷ ws) d) (times keys ws d) (times keys (without c ws) d) (once (at_key keys w == d)) (once (at_key keys u == d)) (times_first keys w ws d) rest
      ∙ ap (λ (n : ℕ). n + once (at_key keys u == d)) (sym (times_first keys w (without c ws) d) ∙ ap (λ (xs : List Waiter). times keys xs d) (sym kept))
]

-- How often a description is held.
in_range : (xs : List (Option Place)) (n : ℕ) → IsSome (slice_index_or xs n None) → n < length xs
in_range [] n h = absurd (false≢true h)
in_range (x ∷ xs) zero h = omega arith
in_range (x ∷ xs) (suc n) h = let r = in_range xs n h in omega (arith, r)

counted : (v : Seen) (key : DescId) → Sound v → IsSome (number_under v key) → number_of v key < length v.holds
counted v key sound lives =
    let u = under_key v.keys key lives in
    let within = in_range v.files.descriptions u.number (sound.place key u.number u.is) in
    let is = ap (λ (o : Option ℕ). unwrap_or o 0) u.is in
    omega (arith, within, is, sound.holds_length)

holds_more : (hs : List ℕ) (n d : ℕ) → n < length hs → count_at (more_at hs n) d ≡ count_at hs d + once (n == d)
holds_more hs n d l = elim (cases_Bool (n == d)) [
  | inl e ↦
      let is = from_test n d e in
      ap (count_at (more_at hs n)) (sym is) ∙ (get_or-set_same hs n (count_at hs n + 1) 0 l ∙ λ i. count_at hs (is i) + once (sym e i))
  | inr e ↦ get_or-set_other hs n d (count_at hs n + 1) 0 (apart n d e) ∙ (plus_none (count_at hs d) ∙ ap (λ (b : Bool). count_at hs d + once b) (sym e))
]

holds_less : (hs : List ℕ) (n d : ℕ) → n < length hs → 0 < count_at hs n → count_at (less_at hs n) d + once (n == d) ≡ count_at hs d
holds_less hs n d l some = elim (cases_Bool (n == d)) [
  | inl e ↦
      let is = from_test n d e in
      (λ i. count_at (less_at hs n) (sym is i) + once (e i)) ∙ (ap (λ (a : ℕ). a + 1) (get_or-set_same hs n (count_at hs n - 1) 0 l) ∙ (back (count_at hs n) some ∙ ap (count_at hs) is))
  | inr e ↦ (λ i. get_or-set_other hs n d (count_at hs n - 1) 0 (apart n d e) i + once (e i)) ∙ sym (plus_none (count_at hs d))
] where
  back : (a : ℕ) → 0 < a → (a - 1) + 1 ≡ a
  back a h = omega arith

less_one : (a b o : ℕ) → a + o ≡ b + o → a ≡ b
less_one a b o e = omega arith

-- a waiter more, for which its instance is held
pub held_parked : (v new : Seen) (ws us : List Waiter) (caller : ℕ) (w : ParkedWaiter) → Sound v → IsSome (number_under v w.instance) → AreHeld v ws → new ≡ record v { holds = more_at v.holds (number_of v w.instance) } → us ≡ ws ++ parked caller w ∷ [] → AreHeld new us
held_parked v new ws us caller w sound lives held is more = λ d.
    let n = number_of v w.instance in
    ap (λ (t : Seen). holds_of t d) is
    ∙ (holds_more v.holds n d (counted v w.instance sound lives)
    ∙ (ap (λ (a : ℕ). a + once (n == d)) (held d)
    ∙ (sym (times_last v.keys ws (parked caller w) d) ∙ λ i. times (sym is i).keys (sym more i) d)))

module _ (v : Seen) (ws : List Waiter) (caller : ℕ) (w : ParkedWaiter) (sound : Sound v) (distinct : IsDistinct nat_eq (map (λ u. u.caller) ws)) (placed : ArePlaced v ws) (held : AreHeld v ws) (there : find (is_caller caller) ws ≡ Some (parked caller w)) where
  abbrev n : ℕ
  n = number_of v w.instance

  pub found_placed : IsPlaced v.keys (parked caller w)
  found_placed = found_all (IsPlaced v.keys) caller ws (parked caller w) there placed

  once_held : (d : ℕ) → holds_of v d ≡ times v.keys (without caller ws) d + once (n == d)
  once_held d = held d ∙ times_left v.keys caller (parked caller w) ws d distinct there

  -- its instance is held
  pub held_found : 0 < holds_of v n
  held_found = subst (λ (a : ℕ). 0 < a) (sym (once_held n ∙ ap (λ (b : Bool). times v.keys (without caller ws) n + once b) (same_nat n))) (omega arith)

  -- one waiter less
  pub held_left : (new : Seen) (us : List Waiter) → new.holds ≡ less_at v.holds n → new.keys ≡ v.keys → us ≡ without caller ws → AreHeld new us
  held_left new us less keys gone = λ d.
      ap (λ (hs : List ℕ). count_at hs d) less
      ∙ (less_one (count_at (less_at v.holds n) d) (times v.keys (without caller ws) d) (once (n == d)) (holds_less v.holds n d (counted v w.instance sound found_placed.instance) held_found ∙ once_held d)
      ∙ λ i. times (sym keys i) (sym gone i) d)
