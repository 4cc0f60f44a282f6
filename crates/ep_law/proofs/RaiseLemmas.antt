-- What deaths raise: each bit that begins to hold where an end is closed.
use Rattle.std.proofs.Common.{◌≡◌, ℕ, zero, suc, ◌+◌, ◌<◌, ◌==◌, ◌++◌, ◌∙◌, Bool, true, false, List, [], ◌∷◌, None, Option, Some, cond, get_or, inl, inr, is_some, length, refl, ap, set, subst, sym, unwrap_or}
use Rattle.std.specs.Int.{bit_at}
use Rattle.std.proofs.lemmas.Bool.{false≢true}
use Rattle.std.proofs.lemmas.List.{get_or-set_same}
use Rattle.std.proofs.Math.Nat.{add-zero, zero-add}
use Rattle.ep_facts.proofs.NatFacts.{from_test, same_nat, same_or_not, same_test, shift}
use Rattle.ep_base.specs.declared.object.Raised.{Raised}
use Rattle.ep_machine.specs.Bits.{at_end, when}
use Rattle.ep_machine.specs.Deaths.{die, die_all, kept_object}
use Rattle.ep_machine.specs.Files.{Files, Place, is_live, live, object_at, place_of, raised_at, side_in}
use Rattle.ep_law.specs.Laws.{Member}
use Rattle.ep_machine.specs.Lists.{are_distinct, numbered}
use Rattle.ep_machine.specs.Objects.{Object, close_end, object_present, plain}
use Rattle.ep_law.proofs.Present.{present_at}
use Rattle.ep_machine.specs.Spread.{raised_alive, raised_of}
use Rattle.ep_machine.specs.State.{State}
use Rattle.ep_law.proofs.DeathLemmas.{ArePlaced, after_all, apart_from_rest, get_other, numbers, still_placed}
use Rattle.ep_law.proofs.ListLemmas.{member_filter, member_map}
use Rattle.ep_object.specs.Law.{CloseLaw, object_has}
use Rattle.ep_object.proofs.BitLemmas.{Covers, covers_more, covers_self, covers_then, either_bit, first_bit, last_bit, no_bit, to_bits}
use Rattle.ep_object.proofs.KindLemmas.{close_has}
use Rattle.ep_law.proofs.EndLemmas.{Own, object_there, other_end, own_death, shut_there, was_place}

-- What is raised at a description.
pub raised_first : (xs ys : List (ℕ × ℕ)) (d i : ℕ) → bit_at (raised_of xs d) i ≡ 1 → bit_at (raised_of (xs ++ ys) d) i ≡ 1
raised_first [] ys d i h = absurd (no_bit i h)
raised_first (x ∷ xs) ys d i h = elim (either_bit (when (x.0 == d) x.1) (raised_of xs d) i h) [ inl a ↦ first_bit _ _ i a | inr b ↦ last_bit _ _ i (raised_first xs ys d i b) ]

pub raised_last : (xs ys : List (ℕ × ℕ)) (d i : ℕ) → bit_at (raised_of ys d) i ≡ 1 → bit_at (raised_of (xs ++ ys) d) i ≡ 1
raised_last [] ys d i h = h
raised_last (x ∷ xs) ys d i h = last_bit _ _ i (raised_last xs ys d i h)

pub raised_member : (xs : List (ℕ × ℕ)) (d n i : ℕ) → Member (d, n) xs → bit_at n i ≡ 1 → bit_at (raised_of xs d) i ≡ 1
raised_member [] d n i m h = absurd m
raised_member (x ∷ xs) d n i (inl e) h =
    first_bit _ _ i (subst (λ (q : ℕ × ℕ). bit_at (when (q.0 == d) q.1) i ≡ 1) e (ap (λ (b : Bool). bit_at (when b n) i) (same_nat d) ∙ h))
raised_member (x ∷ xs) d n i (inr m) h = last_bit _ _ i (raised_member xs d n i m h)

when_true : (b : Bool) (n i : ℕ) → bit_at (when b n) i ≡ 1 → b ≡ true
when_true true n i h = refl
when_true false n i h = absurd (no_bit i h)

-- what is raised at what lives is not dropped
pub raised_stays : (s : State) (xs : List (ℕ × ℕ)) (d i : ℕ) → is_live s.files d ≡ true → bit_at (raised_of xs d) i ≡ 1 → bit_at (raised_of (raised_alive s xs) d) i ≡ 1
raised_stays s [] d i lives h = h
raised_stays s (x ∷ xs) d i lives h = elim (either_bit (when (x.0 == d) x.1) (raised_of xs d) i h) [
  | inl a ↦
      let at = from_test x.0 d (when_true (x.0 == d) x.1 i a) in
      let kept : is_live s.files x.0 ≡ true = ap (is_live s.files) at ∙ lives in
      subst (λ (b : Bool). bit_at (raised_of (cond b (x ∷ raised_alive s xs) (raised_alive s xs)) d) i ≡ 1) (sym kept) (first_bit _ _ i a)
  | inr b ↦
      let rest = raised_stays s xs d i lives b in
      elim (is_live s.files x.0) as (λ c. bit_at (raised_of (cond c (x ∷ raised_alive s xs) (raised_alive s xs)) d) i ≡ 1) [ true ↦ last_bit _ _ i rest | false ↦ rest ]
]

numbered_member : (n : ℕ) (ds : List (Option Place)) (i : ℕ) (p : Place) → get_or ds i None ≡ Some p → Member (n + i, p) (numbered n ds)
numbered_member n [] i p e = cc
numbered_member n (None ∷ ds) zero p e = cc
numbered_member n (None ∷ ds) (suc i) p e = subst (λ (k : ℕ). Member (k, p) (numbered (n + 1) ds)) (shift n i) (numbered_member (n + 1) ds i p e)
numbered_member n (Some q ∷ ds) zero p e = let same : q ≡ p = cc in inl (λ j. (add-zero n j, sym same j))
numbered_member n (Some q ∷ ds) (suc i) p e = inr (subst (λ (k : ℕ). Member (k, p) (numbered (n + 1) ds)) (shift n i) (numbered_member (n + 1) ds i p e))

pub live_member : (f : Files) (d : ℕ) (p : Place) → place_of f d ≡ Some p → Member (d, p) (live f)
live_member f d p e = subst (λ (k : ℕ). Member (k, p) (live f)) (zero-add d) (numbered_member 0 f.descriptions d p e)

pub raised_there : (f : Files) (k : ℕ) (r : Raised) (d : ℕ) (p : Place) (i : ℕ) → place_of f d ≡ Some p → p.object ≡ k → bit_at (at_end r p.side) i ≡ 1 → bit_at (raised_of (raised_at f k r) d) i ≡ 1
raised_there f k r d p i here at h =
    let kept = member_filter (λ (x : ℕ × Place). x.1.object == k) (d, p) (live f) (live_member f d p here) (same_test p.object k at) in
    raised_member (raised_at f k r) d (at_end r p.side) i (member_map (λ (x : ℕ × Place). (x.0, at_end r x.1.side)) (d, p) _ kept) h

-- the bits at what is at a place
pub present_place : (f : Files) (now d : ℕ) (p : Place) → place_of f d ≡ Some p → present_at f now d ≡ object_present (object_there f p.object) p.side now
present_place f now d p e = ap (λ (o : Option Place). object_present (unwrap_or (object_at f o) plain) (side_in o) now) e

pub live_place : (f : Files) (d : ℕ) → is_live f d ≡ true → (p : Place) × (place_of f d ≡ Some p)
live_place f d h = at (place_of f d) refl h where
  at : (o : Option Place) → place_of f d ≡ o → is_some o ≡ true → (p : Place) × (place_of f d ≡ Some p)
  at None e l = absurd (false≢true l)
  at (Some p) e l = (p, e)

-- One death.
module _ (close : CloseLaw) (f : Files) (x : ℕ × Place) (is : place_of f x.0 ≡ Some x.1) (own : Own f) (now : ℕ) where
  abbrev k : ℕ
  k = x.1.object

  abbrev rest : Files
  rest = record f { descriptions = set f.descriptions x.0 None }

  abbrev closed : Object × Raised
  closed = close_end (object_there f k) x.1.side

  abbrev g : Files
  g = after_all f (x ∷ [])

  at_place : (d : ℕ) (p : Place) → place_of g d ≡ Some p → Covers (object_present (object_there f p.object) p.side now) (object_present (object_there g p.object) p.side now) (raised_of (raised_at rest k closed.1) d)
  at_place d p here =
      let before = was_place f.descriptions x.0 d p here in
      elim (same_or_not p.object k) [
        | inl at ↦
            let kept = shut_there f x is own d p here at in
            let lt : k < length f.objects = subst (λ (j : ℕ). j < length f.objects) at (own.made d p before) in
            let new : closed.0 ≡ object_there g p.object =
            sym (ap (λ (j : ℕ). object_there g j) at ∙ (ap (λ (o : Option Object). unwrap_or (get_or (set f.objects k o) k None) plain) kept ∙ ap (λ (o : Option Object). unwrap_or o plain) (get_or-set_same f.objects k (Some closed.0) None lt))) in
            let old : object_there f k ≡ object_there f p.object = ap (object_there f) (sym at) in
            let there = subst (λ (j : ℕ). object_has (object_there f j) p.side ≡ true) at (own.ends d p before) in
            let law = to_bits _ _ _ (close (object_there f k) x.1.side now p.side there (close_has (object_there f k) x.1.side p.side (other_end f x is own d p here at) there)) in
            subst (λ (y : Object). Covers (object_present y p.side now) (object_present (object_there g p.object) p.side now) (raised_of (raised_at rest k closed.1) d)) old
            (subst (λ (y : Object). Covers (object_present (object_there f k) p.side now) (object_present y p.side now) (raised_of (raised_at rest k closed.1) d)) new
            (covers_more _ _ (at_end closed.1 p.side) _ (λ i. raised_there rest k closed.1 d p i here at) law))
        | inr other ↦
            let same : object_there f p.object ≡ object_there g p.object = ap (λ (o : Option Object). unwrap_or o plain) (sym (get_other f.objects k p.object (kept_object rest k closed.0) (λ e. other (sym e)))) in
            subst (λ (y : Object). Covers (object_present (object_there f p.object) p.side now) (object_present y p.side now) (raised_of (raised_at rest k closed.1) d)) same (covers_self _ _)
      ]

  pub death_covers : (d : ℕ) (p : Place) → place_of g d ≡ Some p → Covers (present_at f now d) (present_at g now d) (raised_of (raised_at rest k closed.1) d)
  death_covers d p here =
      subst (λ (n : ℕ). Covers n (present_at g now d) (raised_of (raised_at rest k closed.1) d)) (sym (present_place f now d p (was_place f.descriptions x.0 d p here)))
      (subst (λ (n : ℕ). Covers (object_present (object_there f p.object) p.side now) n (raised_of (raised_at rest k closed.1) d)) (sym (present_place g now d p here)) (at_place d p here))

-- what lives once some are dead lived
pub lived_before : (f : Files) (raised : List (ℕ × ℕ)) (xs : List (ℕ × Place)) (d : ℕ) (p : Place) → place_of (die_all (f, raised) xs).0 d ≡ Some p → place_of f d ≡ Some p
lived_before f raised [] d p e = e
lived_before f raised (x ∷ xs) d p e = let now = die (f, raised) x in was_place f.descriptions x.0 d p (lived_before now.0 now.1 xs d p e)

pub deaths_cover : CloseLaw → (now d a : ℕ) (p : Place) (f : Files) (raised : List (ℕ × ℕ)) (xs : List (ℕ × Place)) → are_distinct (numbers xs) ≡ true → ArePlaced f xs → Own f
    → place_of (die_all (f, raised) xs).0 d ≡ Some p → Covers a (present_at f now d) (raised_of raised d) → Covers a (present_at (die_all (f, raised) xs).0 now d) (raised_of (die_all (f, raised) xs).1 d)
deaths_cover close now d a p f raised [] apart placed own here h = h
deaths_cover close now d a p f raised (x ∷ xs) apart placed own here h =
    let left = apart_from_rest x xs apart in
    let next = die (f, raised) x in
    let more = raised_at (record f { descriptions = set f.descriptions x.0 None }) x.1.object (close_end (object_there f x.1.object) x.1.side).1 in
    let there = lived_before next.0 next.1 xs d p here in
    deaths_cover close now d a p next.0 next.1 xs left.1 (still_placed f x xs left.0 placed.1) (own_death f x placed.0 own) here
    (covers_then a (present_at f now d) (present_at next.0 now d) (raised_of raised d) (raised_of more d) (raised_of next.1 d) (raised_first raised more d) (raised_last raised more d) h (death_covers close f x placed.0 own now d p there))
