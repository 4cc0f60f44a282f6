-- What is raised at an instance: deaths raise nothing there, so IN in its spread comes from below, or the change raised
-- it.
use Rattle.std.proofs.Common.{◌≡◌, ◌∙◌, ◌⊎◌, ◌<◌, ◌==◌, ℕ, zero, suc, Bool, true, false, List, [], ◌∷◌, None, Option, Some, ap, arith, get_or, inl, inr, is_some, length, refl, set, subst, sym, unwrap_or}
use Rattle.std.specs.Int.{bit_at}
use Rattle.std.proofs.lemmas.Bool.{false≢true}
use Rattle.ep_facts.proofs.NatFacts.{from_test}
use Rattle.ep_facts.proofs.BoolFacts.{same_bools}
use Rattle.ep_base.specs.declared.object.End.{End}
use Rattle.ep_base.specs.declared.object.End.TheVariants.{First, Second}
use Rattle.ep_base.specs.declared.object.Raised.{Raised}
use Rattle.ep_law.proofs.EndLemmas.{set_object}
use Rattle.ep_law.proofs.InstanceLemmas.{AreMade, kept_instance, narrows_death, narrows_deaths}
use Rattle.ep_law.specs.Laws.{has_instance}
use Rattle.ep_law.proofs.NarrowLemmas.{has_in, in_has}
use Rattle.ep_law.proofs.RaiseLemmas.{lived_before}
use Rattle.ep_object.proofs.BitLemmas.{either_bit, first_bit, no_bit}
use Rattle.ep_machine.specs.Bits.{IN, at_end, has_bit, nothing, when}
use Rattle.ep_machine.specs.Deaths.{buried, die, die_all, dying, kept_object}
use Rattle.ep_machine.specs.Files.{Files, Place, is_live, object_at, object_of, place_of, raised_at}
use Rattle.ep_machine.specs.Objects.{Object, close_end, instance, is_instance, plain}
use Rattle.ep_object.proofs.KindLemmas.{close_keeps_instance, instance_is}
use Rattle.ep_machine.specs.Spread.{is_reached, raised_alive, raised_of, reaching_of, spread}
use Rattle.ep_machine.specs.State.{State}
use Rattle.ep_facts.proofs.RaisedFacts.{raised_live, raised_parts, raised_place}
use Rattle.ep_view.proofs.FreshLemmas.{alive_raised}

-- An end that closes.
close_raises : (x : Object) (e : End) → is_instance (close_end x e).0 ≡ true → (close_end x e).1 ≡ nothing
close_raises x e h = ap (λ (y : Object). (close_end y e).1) (instance_is x (sym (close_keeps_instance x e) ∙ h))

close_stays : (x : Object) (e : End) → is_instance x ≡ true → is_instance (close_end x e).0 ≡ true
close_stays x e h = close_keeps_instance x e ∙ h

no_end : (e : End) → at_end nothing e ≡ 0
no_end First = refl
no_end Second = refl

when_true : (b : Bool) (n i : ℕ) → bit_at (when b n) i ≡ 1 → b ≡ true
when_true true n i h = refl
when_true false n i h = absurd (no_bit i h)

-- One death.
module _ (f : Files) (x : ℕ × Place) where
  abbrev k : ℕ
  k = x.1.object

  abbrev closed : Object × Raised
  closed = close_end (unwrap_or (get_or f.objects k None) plain) x.1.side

  abbrev rest : Files
  rest = record f { descriptions = set f.descriptions x.0 None }

  abbrev g : Files
  g = (die (f, []) x).0

  was_instance : is_instance (unwrap_or (get_or g.objects k None) plain) ≡ true → is_instance closed.0 ≡ true
  was_instance = set_object (λ y. is_instance y ≡ true → is_instance closed.0 ≡ true) f.objects k k (kept_object rest k closed.0) (λ e. kept_instance _ closed.0) (close_stays (unwrap_or (get_or f.objects k None) plain) x.1.side)

  no_bit_there : (i : ℕ) (o : Option Place) → is_instance (unwrap_or (object_at g o) plain) ≡ true → bit_at (raised_place (λ q. q.object == k) (λ q. at_end closed.1 q.side) o) i ≡ 1 → ⊥
  no_bit_there i None here h = no_bit i h
  no_bit_there i (Some q) here h =
      let at : q.object ≡ k = from_test q.object k (when_true (q.object == k) (at_end closed.1 q.side) i h) in
      let shut = was_instance (subst (λ (j : ℕ). is_instance (unwrap_or (get_or g.objects j None) plain) ≡ true) at here) in
      let none : at_end closed.1 q.side ≡ 0 = ap (λ (r : Raised). at_end r q.side) (close_raises (unwrap_or (get_or f.objects k None) plain) x.1.side shut) ∙ no_end q.side in
      no_bit i (ap (λ (n : ℕ). bit_at n i) (sym (ap (when (q.object == k)) none ∙ nothing_when (q.object == k))) ∙ h) where
        nothing_when : (b : Bool) → when b 0 ≡ 0
        nothing_when true = refl
        nothing_when false = refl

  raises_nothing : (d i : ℕ) → has_instance g d ≡ true → bit_at (raised_of (raised_at rest k closed.1) d) i ≡ 1 → ⊥
  raises_nothing d i here h = no_bit_there i (place_of g d) here (ap (λ (n : ℕ). bit_at n i) (sym (raised_live (λ q. q.object == k) (λ q. at_end closed.1 q.side) rest d)) ∙ h)

-- All deaths.
place_below : (ds : List (Option Place)) (d : ℕ) (p : Place) → get_or ds d None ≡ Some p → d < length ds
place_below [] d p e = cc
place_below (x ∷ ds) zero p e = omega arith
place_below (x ∷ ds) (suc d) p e = let lt = place_below ds d p e in omega (arith, lt)

instance_place : (f : Files) (d : ℕ) → has_instance f d ≡ true → (p : Place) × (place_of f d ≡ Some p)
instance_place f d h = by (place_of f d) refl h where
  by : (o : Option Place) → place_of f d ≡ o → is_instance (unwrap_or (object_at f o) plain) ≡ true → (p : Place) × (place_of f d ≡ Some p)
  by None e h = absurd (false≢true h)
  by (Some p) e h = (p, e)

raised_by_change : (f : Files) (raised : List (ℕ × ℕ)) (xs : List (ℕ × Place)) (d i : ℕ) → AreMade f → has_instance (die_all (f, raised) xs).0 d ≡ true → bit_at (raised_of (die_all (f, raised) xs).1 d) i ≡ 1 → bit_at (raised_of raised d) i ≡ 1
raised_by_change f raised [] d i made here h = h
raised_by_change f raised (x ∷ xs) d i made here h =
    let now = die (f, raised) x in
    let more = raised_at (record f { descriptions = set f.descriptions x.0 None }) x.1.object (close_end (unwrap_or (get_or f.objects x.1.object None) plain) x.1.side).1 in
    let still = (narrows_death f x made).made in
    let p = instance_place (die_all now xs).0 d here in
    let lt = place_below now.0.descriptions d p.0 (lived_before now.0 now.1 xs d p.0 p.1) in
    let then_here : has_instance now.0 d ≡ true = (narrows_deaths now.0 now.1 xs still).instances d lt here in
    let bit = raised_by_change now.0 now.1 xs d i still here h in
    elim (either_bit (raised_of raised d) (raised_of more d) i (ap (λ (n : ℕ). bit_at n i) (sym (raised_parts raised more d)) ∙ bit)) [
      | inl before ↦ before
      | inr closes ↦ absurd (raises_nothing f x d i then_here closes)
    ]

raised_stays : (f : Files) (raised : List (ℕ × ℕ)) (xs : List (ℕ × Place)) (d i : ℕ) → bit_at (raised_of raised d) i ≡ 1 → bit_at (raised_of (die_all (f, raised) xs).1 d) i ≡ 1
raised_stays f raised [] d i h = h
raised_stays f raised (x ∷ xs) d i h =
    let now = die (f, raised) x in
    let more = raised_at (record f { descriptions = set f.descriptions x.0 None }) x.1.object (close_end (unwrap_or (get_or f.objects x.1.object None) plain) x.1.side).1 in
    raised_stays now.0 now.1 xs d i (ap (λ (n : ℕ). bit_at n i) (raised_parts raised more d) ∙ first_bit (raised_of raised d) (raised_of more d) i h)

-- so deaths raise no IN at an instance that is left
pub raised_in_same : (f : Files) (raised : List (ℕ × ℕ)) (xs : List (ℕ × Place)) (d : ℕ) → AreMade f → has_instance (die_all (f, raised) xs).0 d ≡ true → has_bit (raised_of (die_all (f, raised) xs).1 d) IN ≡ has_bit (raised_of raised d) IN
raised_in_same f raised xs d made here = same_bools _ _
    (λ h. in_has (raised_of raised d) (raised_by_change f raised xs d 0 made here (has_in (raised_of (die_all (f, raised) xs).1 d) h)))
    (λ h. in_has (raised_of (die_all (f, raised) xs).1 d) (raised_stays f raised xs d 0 (has_in (raised_of raised d) h)))

-- The spread at an instance.
module _ (after : State) (raised : List (ℕ × ℕ)) (made : AreMade after.files) (e : ℕ) where
  abbrev left : State
  left = (buried after raised).0

  abbrev up : List (ℕ × ℕ)
  up = raised_alive left (buried after raised).1

  pub in_spread_at_instance : object_of left.files e ≡ Some instance → bit_at (spread left up e) 0 ≡ 1 → (is_reached left up e ≡ true) ⊎ (bit_at (raised_of raised e) 0 ≡ 1)
  in_spread_at_instance here h =
      let there : has_instance left.files e ≡ true = ap (λ (o : Option Object). is_instance (unwrap_or o plain)) here in
      let lives : is_live left.files e ≡ true = ap is_some (instance_place left.files e there).1 in
      elim (either_bit (raised_of up e) (reaching_of (is_reached left up) e (object_of left.files e)) 0 h) [
        | inl rises ↦ inr (raised_by_change after.files raised (dying after) e 0 made there (ap (λ (n : ℕ). bit_at n 0) (sym (alive_raised left.files (buried after raised).1 e lives)) ∙ rises))
        | inr comes ↦ inl (when_true (is_reached left up e) IN 0 (ap (λ (o : Option Object). bit_at (reaching_of (is_reached left up) e o) 0) (sym here) ∙ comes))
      ]
