-- Marks at the end of an event, at the instances that it reached.
use Rattle.std.proofs.Common.{◌≡◌, ◌∙◌, ◌+◌, ◌<◌, ◌==◌, ◌||◌, ◌++◌, ℕ, Bool, true, false, IsSome, List, [], ◌∷◌, None, Option, Some, ap, cond, filter, if◌then◌else◌, inl, inr, length, map, refl, slice_get, slice_index_or, subst, sym, take}
use Rattle.std.proofs.lemmas.Bool.{cases_Bool, false≢true}
use Rattle.std.proofs.lemmas.List.{append-nil}
use Rattle.std.proofs.lemmas.Option.{get_or_from_slice_get}
use Rattle.std.proofs.lemmas.List.Elements.{All-head, All-tail, filter-append, filter_more}
use Rattle.ep_facts.proofs.NatFacts.{from_test}
use Rattle.ep_base.specs.declared.ids.DescId.{DescId}
use Rattle.ep_calls.proofs.HoldLemmas.{held_same, place, placed_same}
use Rattle.ep_calls.proofs.WaitLemmas.{coherent_parked}
use Rattle.ep_calls.specs.Parking.{ready_key}
use Rattle.ep_calls.specs.Parts.{AreCoherent, Parts}
use Rattle.ep_calls.specs.Stands.{ArePlaced, IsPlaced}
use Rattle.ep_machine.specs.State.{Waiter}
use Rattle.ep_machine.specs.Waits.{is_marked_at, marked_if_due, waits_at}
use Rattle.ep_park.specs.Turns.{marked_in_turn}
use Rattle.ep_park.specs.Waiters.{first_marked, longest_marked, with_mark}
use Rattle.ep_climb.specs.Mark.{attended, marked_where}
use Rattle.ep_table.specs.Value.{Seen}

abbrev pub with_parked : Parts → List Waiter → Parts
with_parked p ws = record p { parked = ws }

-- Marks leave the rest of a waiter.
first_places : (e : ℕ) (ws : List Waiter) → map place (first_marked e ws) ≡ map place ws
first_places e [] = refl
first_places e (w ∷ ws) =
    let rest = first_places e ws in
    elim (w.instance == e) as (λ b. map place (if b then with_mark w ∷ ws else w ∷ first_marked e ws) ≡ map place (w ∷ ws)) [
      | true ↦ refl
      | false ↦ ap (λ (ps : List (ℕ × ℕ)). place w ∷ ps) rest
    ]

longest_places : (e : ℕ) (ws : List Waiter) → map place (longest_marked e ws) ≡ map place ws
longest_places e ws = elim (is_marked_at ws e) as (λ b. map place (if b then ws else first_marked e ws) ≡ map place ws) [ true ↦ refl | false ↦ first_places e ws ]

due_places : (now : ℕ) (ws : List Waiter) → map place (map (marked_if_due now) ws) ≡ map place ws
due_places now [] = refl
due_places now (w ∷ ws) = ap (λ (ps : List (ℕ × ℕ)). place w ∷ ps) (due_places now ws)

-- what holds of the parts holds if waiters are parked at the same places
same_places : (p : Parts) (ws : List Waiter) → map place ws ≡ map place p.parked → AreCoherent p → AreCoherent (with_parked p ws)
same_places p ws same h = coherent_parked p p.tables ws h refl refl (placed_same p.parked ws same p.tables.keys h.placed) (held_same p.parked ws same p.tables h.held)

pub coherent_due : (p : Parts) (ws : List Waiter) → ws ≡ map (marked_if_due p.clock) p.parked → AreCoherent p → AreCoherent (with_parked p ws)
coherent_due p ws is h = same_places p ws (ap (map place) is ∙ due_places p.clock p.parked) h

pub coherent_longest : (p : Parts) (e : ℕ) (ws : List Waiter) → ws ≡ longest_marked e p.parked → AreCoherent p → AreCoherent (with_parked p ws)
coherent_longest p e ws is h = same_places p ws (ap (map place) is ∙ longest_places e p.parked) h

-- At one instance.
-- somebody waits at it, so it has a description
pub lives_where : (v : Seen) (ws : List Waiter) (e : ℕ) → ArePlaced v ws → waits_at ws e ≡ true → IsSome (slice_index_or v.keys e None)
lives_where v [] e h t = absurd (false≢true t)
lives_where v (w ∷ ws) e h t = elim (cases_Bool (w.instance == e)) [
  | inl here ↦ subst (λ (k : ℕ). IsSome (slice_index_or v.keys k None)) (from_test w.instance e here) (All-head (IsPlaced v.keys) w ws h).instance
  | inr other ↦ lives_where v ws e (All-tail (IsPlaced v.keys) w ws h) (sym (ap (λ (b : Bool). b || waits_at ws e) other) ∙ t)
]

-- if nobody waits there is nobody to mark
nobody : (ws : List Waiter) (e : ℕ) → waits_at ws e ≡ false → first_marked e ws ≡ ws
nobody [] e h = refl
nobody (w ∷ ws) e h = elim (cases_Bool (w.instance == e)) [
  | inl here ↦ absurd (false≢true (sym h ∙ ap (λ (b : Bool). b || waits_at ws e) here))
  | inr other ↦
      ap (λ (b : Bool). if b then with_mark w ∷ ws else w ∷ first_marked e ws) other
      ∙ ap (λ (us : List Waiter). w ∷ us) (nobody ws e (sym (ap (λ (b : Bool). b || waits_at ws e) other) ∙ h))
]

same_either : (b c : Bool) (us vs ws : List Waiter) → us ≡ ws → vs ≡ ws → (if b then (if c then us else vs) else ws) ≡ ws
same_either true true us vs ws h k = h
same_either true false us vs ws h k = k
same_either false c us vs ws h k = refl

pub unwaited : (ready : ℕ → Bool) (ws : List Waiter) (e : ℕ) → waits_at ws e ≡ false → marked_where ready e ws ≡ ws
unwaited ready ws e h = same_either (ready e) (is_marked_at ws e) ws (first_marked e ws) ws refl (nobody ws e h)

-- One instance after another.
module _ (ready : ℕ → Bool) where
  -- one instance more
  turn_more : (es : List ℕ) (e : ℕ) (ws : List Waiter) → marked_in_turn (es ++ e ∷ []) ws ≡ longest_marked e (marked_in_turn es ws)
  turn_more [] e ws = refl
  turn_more (x ∷ es) e ws = turn_more es e (longest_marked x ws)

  pub turn_both : (es fs : List ℕ) (ws : List Waiter) → marked_in_turn (es ++ fs) ws ≡ marked_in_turn fs (marked_in_turn es ws)
  turn_both [] fs ws = refl
  turn_both (e ∷ es) fs ws = turn_both es fs (longest_marked e ws)

  by_test : (es : List ℕ) (e : ℕ) (ws : List Waiter) (b : Bool) → marked_in_turn (es ++ cond b (e ∷ []) []) ws ≡ (if b then longest_marked e (marked_in_turn es ws) else marked_in_turn es ws)
  by_test es e ws true = turn_more es e ws
  by_test es e ws false = ap (λ (ks : List ℕ). marked_in_turn ks ws) (append-nil es)

  -- the next one's turn
  pub turn_next : (ks : List ℕ) (i e : ℕ) (ws : List Waiter) → i < length ks → slice_get ks i ≡ Some e
      → marked_in_turn (filter ready (take (i + 1) ks)) ws ≡ marked_where ready e (marked_in_turn (filter ready (take i ks)) ws)
  turn_next ks i e ws lt is =
      let before = filter ready (take i ks) in
      ap (λ (es : List ℕ). marked_in_turn es ws) (filter_more ready ks i 0 lt)
      ∙ (ap (λ (k : ℕ). marked_in_turn (before ++ cond (ready k) (k ∷ []) []) ws) (get_or_from_slice_get ks i e 0 is)
      ∙ by_test before e ws (ready e))

-- The parts while marks are set.
abbrev pub ready_in : Parts → ℕ → Bool
ready_in p = ready_key p.tables p.clock p.interest

-- the first i of the reached instances had their turn
pub record HadTurns (old : Parts) (ks : List ℕ) (i : ℕ) (new : Parts) : Type 0 where
  pub is : new ≡ with_parked old (marked_in_turn (filter (ready_in old) (take i ks)) old.parked)

pub turns_on : (old : Parts) (ks : List ℕ) (i e : ℕ) (mid new : Parts) → HadTurns old ks i mid → i < length ks → slice_get ks i ≡ Some e → new ≡ with_parked mid (marked_where (ready_in mid) e mid.parked) → HadTurns old ks (i + 1) new
turns_on old ks i e mid new h lt at is = record {
  is = is
      ∙ (ap (λ (p : Parts). with_parked p (marked_where (ready_in p) e p.parked)) h.is
      ∙ ap (with_parked old) (sym (turn_next (ready_in old) ks i e old.parked lt at)));
}

-- those that were reached, and the one that is attended
pub marked_both : (p b c : Parts) (reached : List ℕ) (attend : Option DescId) → b ≡ with_parked p (marked_in_turn (filter (ready_in p) reached) p.parked)
    → c ≡ with_parked b (marked_in_turn (filter (ready_in b) (attended attend)) b.parked)
    → c ≡ with_parked p (marked_in_turn (filter (ready_in p) (reached ++ attended attend)) p.parked)
marked_both p b c reached attend each more =
    let ready = ready_in p in
    let ws = p.parked in
    let c_is : c ≡ with_parked p (marked_in_turn (filter ready (attended attend)) (marked_in_turn (filter ready reached) ws)) = more ∙ ap (λ (q : Parts). with_parked q (marked_in_turn (filter (ready_in q) (attended attend)) q.parked)) each in
    c_is
    ∙ ap (with_parked p)
    (sym (turn_both ready (filter ready reached) (filter ready (attended attend)) ws)
    ∙ ap (λ (es : List ℕ). marked_in_turn es ws) (sym (filter-append ready reached (attended attend))))
