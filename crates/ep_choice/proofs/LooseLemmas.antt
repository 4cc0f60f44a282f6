-- What is above by all links, and marks there.
use Rattle.std.proofs.Common.{◌≡◌, ◌∙◌, ◌+◌, ◌<◌, ◌&&◌, ◌||◌, ◌==◌, ◌⊎◌, Bool, List, [], ◌∷◌, Some, ap, false, filter, get_or, if◌then◌else◌, inl, inr, length, not, refl, slice_get, subst, sym, take, true, ℕ}
use Rattle.std.proofs.lemmas.Bool.{cases_Bool, false≢true}
use Rattle.std.proofs.lemmas.List.{take_more}
use Rattle.std.proofs.lemmas.List.Recursion.{or_push}
use Rattle.std.proofs.Math.Bool.{and-false}
use Rattle.ep_facts.proofs.NatFacts.{from_test, same_nat}
use Rattle.ep_facts.proofs.BoolFacts.{first_of_and, or_cases, or_left, or_right, second_of_and}
use Rattle.ep_calls.specs.Parts.{Parts}
use Rattle.ep_choice.proofs.WalkLemmas.{at_place}
use Rattle.ep_choice.specs.Choose.{awaited_key}
use Rattle.ep_choice.specs.Guarded.{guarded_key}
use Rattle.ep_choice.specs.Lost.{AreAbove, is_loose, marked_loose}
use Rattle.ep_climb.proofs.MarkLemmas.{ready_in, turn_next, unwaited, with_parked}
use Rattle.ep_climb.specs.Reach.{Ascends, IsFrom}
use Rattle.ep_machine.specs.Lists.{is_among}
use Rattle.ep_machine.specs.State.{Waiter}
use Rattle.ep_machine.specs.Waits.{is_marked_at, waits_at}
use Rattle.ep_nest.specs.Links.{admitted_by}
use Rattle.ep_nest.specs.declared.link.Link.{Link}
use Rattle.ep_park.specs.Turns.{marked_in_turn}
use Rattle.ep_park.specs.Waiters.{first_marked, longest_marked}
use Rattle.ep_walk.specs.Walk.{Walk}

pub admitted_all : (ls : List Link) → admitted_by (λ k. true) ls ≡ ls
admitted_all [] = refl
admitted_all (l ∷ ls) = ap (λ (ks : List Link). l ∷ ks) (admitted_all ls)

-- What is above these, once some were gone through.
module _ (es : List (ℕ × ℕ)) where
  pub above_next : (ks : List ℕ) (i k : ℕ) (mid new : Walk) → i < length ks → slice_get ks i ≡ Some k → AreAbove es (take i ks) mid.reached → Ascends es k mid new → AreAbove es (take (i + 1) ks) new.reached
  above_next ks i k mid new lt is above a e = (λ t. to ((a.exact e).0 t), from) where
    among_more : (j : ℕ) → is_among (take (i + 1) ks) j ≡ (is_among (take i ks) j || j == k)
    among_more j =
        ap (λ (xs : List ℕ). is_among xs j) (take_more ks i 0 lt)
        ∙ (or_push (λ (xs : List ℕ). is_among xs j) (λ x. j == x) refl (λ x xs. refl) (take i ks) (get_or ks i 0)
        ∙ ap (λ (m : ℕ). is_among (take i ks) j || j == m) (at_place ks i k is))

    to : (is_among mid.reached e ≡ true) ⊎ IsFrom es e k → (j : ℕ) × (is_among (take (i + 1) ks) j ≡ true) × IsFrom es e j
    to (inl old) = let h = (above e).0 old in (h.0, among_more h.0 ∙ or_left (is_among (take i ks) h.0) (h.0 == k) h.1, h.2)
    to (inr up) = (k, among_more k ∙ or_right (is_among (take i ks) k) (k == k) (same_nat k), up)

    from : (j : ℕ) × (is_among (take (i + 1) ks) j ≡ true) × IsFrom es e j → is_among new.reached e ≡ true
    from h = elim (or_cases (is_among (take i ks) h.0) (h.0 == k) (sym (among_more h.0) ∙ h.1)) [
      | inl before ↦ (a.exact e).1 (inl ((above e).1 (h.0, before, h.2)))
      | inr here ↦ (a.exact e).1 (inr (subst (λ (n : ℕ). IsFrom es e n) (from_test h.0 k here) h.2))
    ]

-- A guarded instance is not loose, and another is where it is ready.

pub guarded_still : (p : Parts) (e : ℕ) → guarded_key p.tables p.interest e ≡ true → p ≡ with_parked p (marked_loose p e p.parked)
guarded_still p e h = ap (λ (b : Bool). with_parked p (if b then longest_marked e p.parked else p.parked)) (sym (ap (λ (b : Bool). ready_in p e && not b) h ∙ and-false (ready_in p e)))

-- where no marked one is missing
unmarked : (r g m : Bool) (us ws : List Waiter) → (r && true && not m) ≡ false → (if r && g then (if m then ws else us) else ws) ≡ ws
unmarked true true true us ws h = refl
unmarked true true false us ws h = absurd (false≢true (sym h))
unmarked true false m us ws h = refl
unmarked false g m us ws h = refl

abbrev awaited_in : Parts → ℕ → Bool
awaited_in p e = awaited_key p.tables p.clock p.interest p.parked e

pub unawaited_still : (p : Parts) (e : ℕ) → awaited_in p e ≡ false → p ≡ with_parked p (marked_loose p e p.parked)
unawaited_still p e h = ap (with_parked p) (sym (elim (cases_Bool (waits_at p.parked e)) [
  | inl waits ↦ unmarked (ready_in p e) (not (guarded_key p.tables p.interest e)) (is_marked_at p.parked e) (first_marked e p.parked) p.parked (ap (λ (b : Bool). ready_in p e && b && not (is_marked_at p.parked e)) (sym waits) ∙ h)
  | inr none ↦ unwaited (is_loose p) p.parked e none
]))

pub awaited_waits : (p : Parts) (e : ℕ) → awaited_in p e ≡ true → waits_at p.parked e ≡ true
awaited_waits p e h = second_of_and (ready_in p e) (waits_at p.parked e) (first_of_and (ready_in p e && waits_at p.parked e) _ h)

pub awaited_marked : (p mid : Parts) (e : ℕ) → mid ≡ p → awaited_in p e ≡ true → guarded_key p.tables p.interest e ≡ false → with_parked mid (longest_marked e mid.parked) ≡ with_parked p (marked_loose p e p.parked)
awaited_marked p mid e same awaited free =
    let ready : ready_in p e ≡ true = first_of_and (ready_in p e) (waits_at p.parked e) (first_of_and (ready_in p e && waits_at p.parked e) _ awaited) in
    ap (λ (q : Parts). with_parked q (longest_marked e q.parked)) same
    ∙ (λ i. with_parked p (if sym ready i && not (sym free i) then longest_marked e p.parked else p.parked))

-- once the first i of these had their turn
pub record HadLoose (old : Parts) (ks : List ℕ) (i : ℕ) (new : Parts) : Type 0 where
  pub is : new ≡ with_parked old (marked_in_turn (filter (is_loose old) (take i ks)) old.parked)

pub loose_on : (old : Parts) (ks : List ℕ) (i e : ℕ) (mid new : Parts) → HadLoose old ks i mid → i < length ks → slice_get ks i ≡ Some e → new ≡ with_parked mid (marked_loose mid e mid.parked) → HadLoose old ks (i + 1) new
loose_on old ks i e mid new h lt at is = record {
  is = is
      ∙ (ap (λ (p : Parts). with_parked p (marked_loose p e p.parked)) h.is
      ∙ ap (with_parked old) (sym (turn_next (is_loose old) ks i e old.parked lt at)));
}
