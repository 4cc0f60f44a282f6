-- An owner's circle, from its second key on.
use Rattle.std.proofs.Common.{◌≡◌, ◌≢◌, ℕ, ◌<◌, true, false, cond, All, List, [], ◌∷◌, ◌++◌, length, nat_eq, Option, Some, sym, ap, subst, ◌∙◌, inl, inr, arith, if◌then◌else◌}
use Rattle.std.proofs.lemmas.Bool.{cases_eq}
use Rattle.std.proofs.lemmas.List.{length_push}
use Rattle.std.proofs.lemmas.List.Elements.{All-head, All-push, All-tail, All-weaker}
use Rattle.ep_facts.proofs.NatFacts.{same_test, test_apart}
use Rattle.ep_rings.specs.Circles.{AreCircles, AreRows, IsCircle, Whose, own_head, row_of, turned, with_head}
use Rattle.ep_rings.specs.Links.{next_of, prev_of}
use Rattle.ep_rings.specs.PlacedRows.{rotation_of}
use Rattle.ep_rings.specs.Ring.{IsRing}
use Rattle.ep_rings.specs.declared.circle.Circle.{Circle}
use Rattle.ep_rings.specs.declared.link.Link.{Link}
use Rattle.ep_rings.proofs.CircleLemmas.{rotated}
use Rattle.ep_rings.proofs.OwnerLemmas.{rows_are, rows_walked}

-- what holds of each key, the first one at the end
All_turned : (P : ℕ → Type 0) (xs : List ℕ) → All P xs → All P (rotation_of xs)
All_turned P [] h = h
All_turned P (x ∷ xs) h = All-push P xs x (All-tail P x xs h) (All-head P x xs h)

-- the ring from its second key on
ring_turned : (next prev : ℕ → ℕ) (t : Circle) (rest : List ℕ) → IsRing next prev t.first rest → t.len ≡ length (t.first ∷ rest) → IsCircle next prev (Some (turned next t)) (rest ++ t.first ∷ [])
ring_turned next prev t [] r long =
    let same : next t.first ≡ t.first = r.nexts 0 (omega arith) in
    ([], ap (λ (k : ℕ). k ∷ []) (sym same), long, subst (λ (k : ℕ). IsRing next prev k []) (sym same) r)
ring_turned next prev t (b ∷ ys) r long =
    let same : next t.first ≡ b = r.nexts 0 (omega arith) in (
      ys ++ t.first ∷ [],
      ap (λ (k : ℕ). k ∷ ys ++ t.first ∷ []) (sym same),
      omega (arith, long, length_push (b ∷ ys) t.first),
      subst (λ (k : ℕ). IsRing next prev k (ys ++ t.first ∷ [])) (sym same) (rotated next prev t.first b ys r),
    )

circle_turned : (next prev : ℕ → ℕ) (t : Circle) (xs : List ℕ) → IsCircle next prev (Some t) xs → IsCircle next prev (Some (turned next t)) (rotation_of xs)
circle_turned next prev t xs h =
    subst (λ (ys : List ℕ). IsCircle next prev (Some (turned next t)) (rotation_of ys)) (sym h.1) (ring_turned next prev t h.0 h.3 (h.2 ∙ ap length h.1))

-- One owner's circle is turned, and the others are as they were.
module _ (s : List Link) (w : Whose) (t : Circle) (sound : AreCircles s w.heads) (own : own_head w ≡ Some t) where
  abbrev after : ℕ → Option Circle
  after = with_head w.heads w.owner (Some (turned (next_of s) t))

  abbrev row : ℕ → List ℕ
  row = row_of s w.heads

  abbrev row' : ℕ → List ℕ
  row' i = if nat_eq w.owner i then rotation_of (row i) else row i

  each : (P : ℕ → Type 0) (i : ℕ) → All P (row i) → All P (row' i)
  each P i h = elim (nat_eq w.owner i) as (λ b. All P (cond b (rotation_of (row i)) (row i))) [ true ↦ All_turned P (row i) h | false ↦ h ]

  circles : (i : ℕ) → IsCircle (next_of s) (prev_of s) (after i) (row' i)
  circles i = elim (cases_eq w.owner i) [
    | inl e ↦
        let here : IsCircle (next_of s) (prev_of s) (Some t) (row i) = subst (λ (c : Option Circle). IsCircle (next_of s) (prev_of s) c (row i)) (ap w.heads (sym e) ∙ own) (sound.circles i) in
        rw (same_test w.owner i e) (circle_turned (next_of s) (prev_of s) t (row i) here)
    | inr ne ↦ rw (test_apart w.owner i ne) (sound.circles i)
  ]

  rows_turned : AreRows (next_of s) (prev_of s) after (length s) row'
  rows_turned = record {
    circles = circles;
    within = λ i. each (λ k. k < length s) i (sound.within i);
    apart = λ i j ne. each (λ k. All (λ l. l ≢ k) (row' j)) i
        (All-weaker (λ k. All (λ l. l ≢ k) (row j)) (λ k. All (λ l. l ≢ k) (row' j)) (λ k g. each (λ l. l ≢ k) j g) (row i) (sound.apart i j ne));
  }

  pub circles_after : AreCircles s after
  circles_after = rows_walked (next_of s) (prev_of s) after (length s) row' rows_turned

  pub rows_after : (i : ℕ) → row_of s after i ≡ (if nat_eq w.owner i then rotation_of (row_of s w.heads i) else row_of s w.heads i)
  rows_after = rows_are (next_of s) (prev_of s) after (length s) row' rows_turned
