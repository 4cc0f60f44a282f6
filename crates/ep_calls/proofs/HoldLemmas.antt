-- Instances that are held for waiters.
use Rattle.std.proofs.Common.{◌≡◌, ◌∙◌, ◌==◌, ◌||◌, ◌<◌, ℕ, Bool, true, false, All, IsSome, List, [], ◌∷◌, None, Option, ap, arith, cond, filter, get_or, length, map, not, refl, slice_index_or, subst, suc, sym, inl, inr}
use Rattle.std.proofs.lemmas.Bool.Decides.{nat_tests}
use Rattle.std.proofs.lemmas.List.Elements.{All-head, All-tail}
use Rattle.std.proofs.Math.ListN.{get_or-map, length-map}
use Rattle.ep_facts.proofs.NatFacts.{test_turned}
use Rattle.ep_law.specs.Laws.{Member}
use Rattle.ep_machine.specs.Lists.{is_among}
use Rattle.ep_machine.specs.State.{Waiter}
use Rattle.ep_view.proofs.WaiterLemmas.{AreApart}
use Rattle.ep_calls.specs.Stands.{AreHeld}
use Rattle.ep_calls.specs.Stands.{ArePlaced, IsPlaced, number_at, waiters_at}
use Rattle.ep_calls.proofs.KeyLemmas.{same_keys}
use Rattle.ep_table.specs.Value.{Seen, Sound}

not_none : (n : ℕ) → false ≡ (suc n == 0)
not_none n = grind (arith, nat_tests)

-- nobody waits at it where it is held no time
pub not_held : (ks : List ℕ) (d : ℕ) → not (is_among ks d) ≡ (length (filter (λ k. k == d) ks) == 0)
not_held [] d = refl
not_held (k ∷ ks) d =
    let rest = not_held ks d in
    ap (λ (b : Bool). not (b || is_among ks d)) (test_turned d k)
    ∙ elim (k == d) as (λ b. not (b || is_among ks d) ≡ (length (cond b (k ∷ filter (λ j. j == d) ks) (filter (λ j. j == d) ks)) == 0)) [
      | true ↦ not_none (length (filter (λ j. j == d) ks))
      | false ↦ rest
    ]

lives_at : (keys : List (Option ℕ)) (a : ℕ) (ws : List Waiter) → All (IsPlaced keys) ws → Member a (map (λ w. w.instance) ws) → IsSome (slice_index_or keys a None)
lives_at keys a [] h m = absurd m
lives_at keys a (w ∷ ws) h (inl e) = subst (λ (k : ℕ). IsSome (slice_index_or keys k None)) (sym e) (All-head (IsPlaced keys) w ws h).instance
lives_at keys a (w ∷ ws) h (inr m) = lives_at keys a ws (All-tail (IsPlaced keys) w ws h) m

-- keys at which somebody waits have numbers of their own
pub numbers_apart_at : (v : Seen) → Sound v → (ws : List Waiter) → ArePlaced v ws → AreApart (λ k. number_at v.keys (record { 0 = k })) ws
numbers_apart_at v sound ws placed = λ a b m n. same_keys v (record { 0 = a }) (record { 0 = b }) sound (lives_at v.keys a ws placed m) (lives_at v.keys b ws placed n)

-- where a waiter waits, and for how many reports
abbrev pub place : Waiter → ℕ × ℕ
place w = (w.instance, w.most)

placed_one : (keys : List (Option ℕ)) (v w : Waiter) → place v ≡ place w → IsPlaced keys w → IsPlaced keys v
placed_one keys v w e h = record {
  instance = subst (λ (k : ℕ). IsSome (slice_index_or keys k None)) (sym (ap (λ (p : ℕ × ℕ). p.0) e)) h.instance;
  most = subst (λ (k : ℕ). 0 < k) (sym (ap (λ (p : ℕ × ℕ). p.1) e)) h.most;
}

-- waiters that wait where others do
module _ (old new : List Waiter) (same : map place new ≡ map place old) where
  pub as_many : length new ≡ length old
  as_many = sym (length-map new place) ∙ (ap (λ (ps : List (ℕ × ℕ)). length ps) same ∙ length-map old place)

  same_at : (k : ℕ) (d : Waiter) → place (get_or new k d) ≡ place (get_or old k d)
  same_at k d = sym (get_or-map place new k d) ∙ (ap (λ (ps : List (ℕ × ℕ)). get_or ps k (place d)) same ∙ get_or-map place old k d)

  pub placed_same : (keys : List (Option ℕ)) → All (IsPlaced keys) old → All (IsPlaced keys) new
  placed_same keys h = λ k d lt. placed_one keys (get_or new k d) (get_or old k d) (same_at k d) (h k d (omega (arith, as_many, lt)))

  pub instances_same : map (λ w. w.instance) new ≡ map (λ w. w.instance) old
  instances_same = sym (firsts new) ∙ (ap (map (λ (p : ℕ × ℕ). p.0)) same ∙ firsts old) where
    firsts : (ws : List Waiter) → map (λ (p : ℕ × ℕ). p.0) (map place ws) ≡ map (λ w. w.instance) ws
    firsts [] = refl
    firsts (w ∷ ws) = ap (λ (ks : List ℕ). w.instance ∷ ks) (firsts ws)

  numbers_same : (keys : List (Option ℕ)) → map (λ w. w.instance) (waiters_at keys new) ≡ map (λ w. w.instance) (waiters_at keys old)
  numbers_same keys = numbered new ∙ (ap (map (λ (k : ℕ). number_at keys (record { 0 = k }))) instances_same ∙ sym (numbered old)) where
    numbered : (ws : List Waiter) → map (λ w. w.instance) (waiters_at keys ws) ≡ map (λ (k : ℕ). number_at keys (record { 0 = k })) (map (λ w. w.instance) ws)
    numbered [] = refl
    numbered (w ∷ ws) = ap (λ (ks : List ℕ). number_at keys (record { 0 = w.instance }) ∷ ks) (numbered ws)

  pub held_same : (v : Seen) → AreHeld v old → AreHeld v new
  held_same v h = λ d. h d ∙ ap (λ (ks : List ℕ). length (filter (λ k. k == d) ks)) (sym (numbers_same v.keys))
