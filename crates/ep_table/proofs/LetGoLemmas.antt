-- What waits is let go, in whatever order: of each connection it matters only whether it is among those.
use Rattle.std.proofs.Common.{Bool, List, None, Option, Some, [], ap, append-nil, append_assoc, bit_or, false, get_or, inl, inr, length, refl, slice_set, subst, sym, true, unwrap_or, ℕ, ◌&&◌, ◌++◌, ◌<◌, ◌==◌, ◌∙◌, ◌∷◌, ◌≡◌, ◌≢◌, ◌||◌, if◌then◌else◌}
use Rattle.std.specs.List.{list_any}
use Rattle.std.specs.Int.Bits.{or_zero_r}
use Rattle.std.proofs.lemmas.Bool.{false≢true}
use Rattle.std.proofs.Math.Bool.{and-false}
use Rattle.std.proofs.lemmas.List.{ext_get_or, get_or-set_other, get_or-set_same, get_or_past, length-set}
use Rattle.ep_base.specs.declared.object.End.TheVariants.{Second}
use Rattle.ep_facts.proofs.NatFacts.{below_or, same_or_not, same_nat, same_test, test_apart}
use Rattle.ep_facts.proofs.RaisedFacts.{raised_live, raised_parts, raised_place}
use Rattle.ep_machine.specs.Bits.{at_end, when}
use Rattle.ep_machine.specs.Connections.{let_all_go, let_go, pending_in}
use Rattle.ep_machine.specs.Deaths.{kept_object}
use Rattle.ep_machine.specs.Files.{Files, Place, live, object_at, place_of, raised_at}
use Rattle.ep_machine.specs.Lists.{is_among}
use Rattle.ep_machine.specs.Objects.{Object, close_end, instance, is_instance, is_waiting, listener, plain}
use Rattle.ep_machine.specs.Spread.{raised_of}
use Rattle.ep_object.proofs.KindLemmas.{close_keeps_instance}
use Rattle.ep_object.proofs.PendingLemmas.{close_keeps_pending, second_closes_waiting}
use Rattle.ep_table.specs.Value.{content_of, unwrapped}

abbrev pub at : List (Option Object) → ℕ → Object
at os k = unwrap_or (get_or os k None) plain

waiting_instance : (x : Object) → is_waiting x ≡ true → is_instance x ≡ false
waiting_instance instance h = absurd (false≢true h)
waiting_instance plain h = refl
waiting_instance x h = refl

and_right : (a b : Bool) → (a && b) ≡ true → b ≡ true
and_right true b h = h
and_right false b h = absurd (false≢true h)

waits_there : (o : Option Object) → is_waiting (unwrap_or o plain) ≡ true → (x : Object) × (o ≡ Some x)
waits_there None h = absurd (false≢true h)
waits_there (Some x) h = (x, refl)

pub waiting_pends_none : (x : Object) → is_waiting x ≡ true → pending_in x ≡ []
waiting_pends_none (listener l) h = absurd (false≢true h)
waiting_pends_none plain h = refl
waiting_pends_none x h = refl

module _ (s : Files) where
  -- the files with these objects
  abbrev pub holding : List (Option Object) → Files
  holding os = record s { objects = os }

  -- what becomes of a connection that waits
  abbrev pub gone : List (Option Object) → ℕ → Option Object
  gone os k = kept_object s k (close_end (at os k) Second).0

  abbrev tell : List (Option Object) → ℕ → List (ℕ × ℕ)
  tell os k = raised_at s k (close_end (at os k) Second).1

  abbrev pub step : List (Option Object) → ℕ → List (Option Object)
  step os k = if is_waiting (at os k) then slice_set os k (gone os k) else os

  abbrev pub told : List (Option Object) → ℕ → List (ℕ × ℕ)
  told os k = if is_waiting (at os k) then tell os k else []

  abbrev pub steps : List (Option Object) → List ℕ → List (Option Object)
  steps os [] = os
  steps os (k ∷ ks) = steps (step os k) ks

  abbrev pub all_told : List (Option Object) → List ℕ → List (ℕ × ℕ)
  all_told os [] = []
  all_told os (k ∷ ks) = told os k ++ all_told (step os k) ks

  of_one : (b : Bool) (os ps : List (Option Object)) (r q : List (ℕ × ℕ))
      → ◌≡◌ {A = Files × List (ℕ × ℕ)} (if b then (holding ps, r ++ q) else (holding os, r)) (holding (if b then ps else os), r ++ (if b then q else []))
  of_one true os ps r q = refl
  of_one false os ps r q = λ i. (holding os, sym (append-nil r) i)

  pub one_goes : (os : List (Option Object)) (r : List (ℕ × ℕ)) (k : ℕ) → let_go (holding os, r) k ≡ (holding (step os k), r ++ told os k)
  one_goes os r k = of_one (is_waiting (at os k)) os (slice_set os k (gone os k)) r (tell os k)

  pub all_go : (os : List (Option Object)) (r : List (ℕ × ℕ)) (ks : List ℕ) → let_all_go (holding os, r) ks ≡ (holding (steps os ks), r ++ all_told os ks)
  all_go os r [] = λ i. (holding os, sym (append-nil r) i)
  all_go os r (k ∷ ks) =
      ap (λ (now : Files × List (ℕ × ℕ)). let_all_go now ks) (one_goes os r k)
      ∙ (all_go (step os k) (r ++ told os k) ks
      ∙ (λ i. (holding (steps (step os k) ks), append_assoc r (told os k) (all_told (step os k) ks) i)))

  steps_length : (os : List (Option Object)) (ks : List ℕ) → length (steps os ks) ≡ length os
  steps_length os [] = refl
  steps_length os (k ∷ ks) = steps_length (step os k) ks ∙ of_step (is_waiting (at os k)) where
    of_step : (b : Bool) → length (if b then slice_set os k (gone os k) else os) ≡ length os
    of_step true = length-set os k (gone os k)
    of_step false = refl

  -- A connection at its own number, and at another.
  module _ (os : List (Option Object)) (k : ℕ) where
    stays_if : (b : Bool) (j : ℕ) → j ≢ k → get_or (if b then slice_set os k (gone os k) else os) j None ≡ get_or os j None
    stays_if true j ne = get_or-set_other os k j (gone os k) None ne
    stays_if false j ne = refl

    pub stays : (j : ℕ) → j ≢ k → get_or (step os k) j None ≡ get_or os j None
    stays j ne = stays_if (is_waiting (at os k)) j ne

    there : is_waiting (at os k) ≡ true → k < length os
    there h = elim (below_or k (length os)) [ inl l ↦ l | inr l ↦ let w = waits_there (get_or os k None) h in let e : None ≡ Some w.0 = sym (get_or_past os k None l) ∙ w.1 in absurd cc ]

    pub goes : is_waiting (at os k) ≡ true → get_or (step os k) k None ≡ gone os k
    goes h = ap (λ (b : Bool). get_or (if b then slice_set os k (gone os k) else os) k None) h ∙ get_or-set_same os k (gone os k) None (there h)

    pub rests : is_waiting (at os k) ≡ false → step os k ≡ os
    rests h = ap (λ (b : Bool). if b then slice_set os k (gone os k) else os) h

    kept_waits : (b : Bool) → is_waiting (unwrap_or (if b then Some (close_end (at os k) Second).0 else None) plain) ≡ false
    kept_waits true = second_closes_waiting (at os k)
    kept_waits false = refl

    -- none waits there afterwards
    pub waits_no_more : is_waiting (at (step os k) k) ≡ false
    waits_no_more = by_test (is_waiting (at os k)) refl where
      by_test : (b : Bool) → is_waiting (at os k) ≡ b → is_waiting (at (step os k) k) ≡ false
      by_test true h = ap (λ (o : Option Object). is_waiting (unwrap_or o plain)) (goes h) ∙ kept_waits (list_any (λ y. y.1.object == k) (live s) || is_waiting (close_end (at os k) Second).0)
      by_test false h = ap (λ (ps : List (Option Object)). is_waiting (at ps k)) (rests h) ∙ h

  -- Each object afterwards.
  abbrev pub is_lost : List (Option Object) → List ℕ → ℕ → Bool
  is_lost os ks j = is_among ks j && is_waiting (at os j)

  abbrev Left : List (Option Object) → List ℕ → ℕ → Type 0
  Left os ks j = get_or (steps os ks) j None ≡ (if is_lost os ks j then gone os j else get_or os j None)

  left_next : (os : List (Option Object)) (k : ℕ) (ks : List ℕ) → ((i : ℕ) → Left (step os k) ks i) → (j : ℕ) → Left os (k ∷ ks) j
  left_next os k ks later j = elim (same_or_not j k) [ inl e ↦ own e | inr ne ↦ other ne ] where
    now : (m : ℕ) → is_waiting (at (step os k) m) ≡ false → get_or (steps (step os k) ks) m None ≡ get_or (step os k) m None
    now m h = later m ∙ ap (λ (b : Bool). if b then gone (step os k) m else get_or (step os k) m None) ((λ i. is_among ks m && h i) ∙ and-false (is_among ks m))

    at_k : (b : Bool) → is_waiting (at os k) ≡ b → Left os (k ∷ ks) k
    at_k true h = now k (waits_no_more os k) ∙ (goes os k h ∙ sym ((λ i. if (same_nat k i || is_among ks k) && h i then gone os k else get_or os k None)))
    at_k false h =
        now k (waits_no_more os k)
        ∙ (ap (λ (ps : List (Option Object)). get_or ps k None) (rests os k h)
        ∙ sym (ap (λ (b : Bool). if b then gone os k else get_or os k None) ((λ i. is_among (k ∷ ks) k && h i) ∙ and-false (is_among (k ∷ ks) k))))

    own : j ≡ k → Left os (k ∷ ks) j
    own e = subst (Left os (k ∷ ks)) (sym e) (at_k (is_waiting (at os k)) refl)

    other : j ≢ k → Left os (k ∷ ks) j
    other ne =
        let same = stays os k j ne in
        later j
        ∙ (λ i. if (is_among ks j && is_waiting (unwrap_or (same i) plain)) then kept_object s j (close_end (unwrap_or (same i) plain) Second).0 else same i)
        ∙ ap (λ (b : Bool). if ((b || is_among ks j) && is_waiting (at os j)) then gone os j else get_or os j None) (sym (test_apart j k ne))

  pub left_at : (os : List (Option Object)) (ks : List ℕ) (j : ℕ) → get_or (steps os ks) j None ≡ (if is_lost os ks j then gone os j else get_or os j None)
  left_at os [] j = refl
  left_at os (k ∷ ks) j = left_next os k ks (λ i. left_at (step os k) ks i) j

  -- so their order makes no difference
  pub any_order : (os : List (Option Object)) (ks ls : List ℕ) → ((j : ℕ) → is_among ks j ≡ is_among ls j) → steps os ks ≡ steps os ls
  any_order os ks ls same =
      ext_get_or None (steps os ks) (steps os ls) (steps_length os ks ∙ sym (steps_length os ls))
      (λ j lt. left_at os ks j ∙ (ap (λ (b : Bool). if b && is_waiting (at os j) then gone os j else get_or os j None) (same j) ∙ sym (left_at os ls j)))

  -- What waits at an object stays the same.
  pub pending_left : (os : List (Option Object)) (ks : List ℕ) (j : ℕ) → pending_in (at (steps os ks) j) ≡ pending_in (at os j)
  pending_left os ks j = ap (λ (o : Option Object). pending_in (unwrap_or o plain)) (left_at os ks j) ∙ by_test (is_among ks j) (is_waiting (at os j)) refl where
    of_gone : (b : Bool) → is_waiting (at os j) ≡ true → pending_in (unwrap_or (if b then Some (close_end (at os j) Second).0 else None) plain) ≡ pending_in (at os j)
    of_gone true h = close_keeps_pending (at os j) Second
    of_gone false h = sym (waiting_pends_none (at os j) h)

    by_test : (a b : Bool) → is_waiting (at os j) ≡ b → pending_in (unwrap_or (if (a && b) then gone os j else get_or os j None) plain) ≡ pending_in (at os j)
    by_test true true h = of_gone (list_any (λ y. y.1.object == j) (live s) || is_waiting (close_end (at os j) Second).0) h
    by_test true false h = refl
    by_test false b h = refl

  -- What is told at each description.
  abbrev pub loss_at : List (Option Object) → List ℕ → Option Place → ℕ
  loss_at os ks None = 0
  loss_at os ks (Some p) = when (is_lost os ks p.object) (at_end (close_end (at os p.object) Second).1 p.side)

  abbrev one_loss : List (Option Object) → ℕ → Option Place → ℕ
  one_loss os k None = 0
  one_loss os k (Some p) = when (p.object == k) (at_end (close_end (at os k) Second).1 p.side)

  tell_at : (os : List (Option Object)) (k d : ℕ) → raised_of (tell os k) d ≡ one_loss os k (place_of s d)
  tell_at os k d = raised_live (λ p. p.object == k) (λ p. at_end (close_end (at os k) Second).1 p.side) s d ∙ by_place (place_of s d) where
    by_place : (o : Option Place) → raised_place (λ p. p.object == k) (λ p. at_end (close_end (at os k) Second).1 p.side) o ≡ one_loss os k o
    by_place None = refl
    by_place (Some p) = refl

  told_next : (os : List (Option Object)) (k : ℕ) (ks : List ℕ) (d : ℕ) → bit_or (raised_of (told os k) d) (loss_at (step os k) ks (place_of s d)) ≡ loss_at os (k ∷ ks) (place_of s d)
  told_next os k ks d = by_test (is_waiting (at os k)) refl where
    -- nothing more is told where none waits
    none_told : (p : Place) → is_waiting (at (step os k) p.object) ≡ false → loss_at (step os k) ks (Some p) ≡ 0
    none_told p h = ap (λ (b : Bool). when b (at_end (close_end (at (step os k) p.object) Second).1 p.side)) ((λ i. is_among ks p.object && h i) ∙ and-false (is_among ks p.object))

    elsewhere : (p : Place) → p.object ≢ k → loss_at (step os k) ks (Some p) ≡ loss_at os (k ∷ ks) (Some p)
    elsewhere p ne =
        let same = stays os k p.object ne in
        (λ i. when (is_among ks p.object && is_waiting (unwrap_or (same i) plain)) (at_end (close_end (unwrap_or (same i) plain) Second).1 p.side))
        ∙ ap (λ (b : Bool). when ((b || is_among ks p.object) && is_waiting (at os p.object)) (at_end (close_end (at os p.object) Second).1 p.side)) (sym (test_apart p.object k ne))

    waiting_at : (o : Option Place) → is_waiting (at os k) ≡ true → bit_or (one_loss os k o) (loss_at (step os k) ks o) ≡ loss_at os (k ∷ ks) o
    waiting_at None h = refl
    waiting_at (Some p) h = elim (same_or_not p.object k) [
      | inl e ↦
          let rest = none_told p (ap (λ (j : ℕ). is_waiting (at (step os k) j)) e ∙ waits_no_more os k) in
          let own : loss_at os (k ∷ ks) (Some p) ≡ at_end (close_end (at os k) Second).1 p.side =
          ap (λ (j : ℕ). when ((j == k || is_among ks j) && is_waiting (at os j)) (at_end (close_end (at os j) Second).1 p.side)) e
          ∙ (λ i. when ((same_nat k i || is_among ks k) && h i) (at_end (close_end (at os k) Second).1 p.side)) in
          (λ i. bit_or (when (same_test p.object k e i) (at_end (close_end (at os k) Second).1 p.side)) (rest i))
          ∙ (or_zero_r (at_end (close_end (at os k) Second).1 p.side) ∙ sym own)
      | inr ne ↦ (λ i. bit_or (when (test_apart p.object k ne i) (at_end (close_end (at os k) Second).1 p.side)) (loss_at (step os k) ks (Some p))) ∙ elsewhere p ne
    ]

    by_test : (b : Bool) → is_waiting (at os k) ≡ b → bit_or (raised_of (if b then tell os k else []) d) (loss_at (step os k) ks (place_of s d)) ≡ loss_at os (k ∷ ks) (place_of s d)
    by_test true h = (λ i. bit_or (tell_at os k d i) (loss_at (step os k) ks (place_of s d))) ∙ waiting_at (place_of s d) h
    by_test false h = quiet (place_of s d) where
      quiet : (o : Option Place) → loss_at (step os k) ks o ≡ loss_at os (k ∷ ks) o
      quiet None = refl
      quiet (Some p) = elim (same_or_not p.object k) [
        | inl e ↦
            let w : is_waiting (at os p.object) ≡ false = ap (λ (j : ℕ). is_waiting (at os j)) e ∙ h in
            none_told p (ap (λ (ps : List (Option Object)). is_waiting (at ps p.object)) (rests os k h) ∙ w)
            ∙ sym (ap (λ (b : Bool). when b (at_end (close_end (at os p.object) Second).1 p.side)) ((λ i. is_among (k ∷ ks) p.object && w i) ∙ and-false (is_among (k ∷ ks) p.object)))
        | inr ne ↦ elsewhere p ne
      ]

  pub told_at : (os : List (Option Object)) (ks : List ℕ) (d : ℕ) → raised_of (all_told os ks) d ≡ loss_at os ks (place_of s d)
  told_at os [] d = by_place (place_of s d) where
    by_place : (o : Option Place) → 0 ≡ loss_at os [] o
    by_place None = refl
    by_place (Some p) = refl
  told_at os (k ∷ ks) d = raised_parts (told os k) (all_told (step os k) ks) d ∙ ((λ i. bit_or (raised_of (told os k) d) (told_at (step os k) ks d i)) ∙ told_next os k ks d)

  pub any_order_told : (os : List (Option Object)) (ks ls : List ℕ) → ((j : ℕ) → is_among ks j ≡ is_among ls j) → (d : ℕ) → raised_of (all_told os ks) d ≡ raised_of (all_told os ls) d
  any_order_told os ks ls same d = told_at os ks d ∙ (by_place (place_of s d) ∙ sym (told_at os ls d)) where
    by_place : (o : Option Place) → loss_at os ks o ≡ loss_at os ls o
    by_place None = refl
    by_place (Some p) = ap (λ (b : Bool). when (b && is_waiting (at os p.object)) (at_end (close_end (at os p.object) Second).1 p.side)) (same p.object)

  -- Nothing is told of what is an instance afterwards.
  abbrev pub placed_at : List (Option Object) → Option Place → Object
  placed_at os None = plain
  placed_at os (Some p) = at os p.object

  pub content_left : (os : List (Option Object)) (d : ℕ) → content_of (holding os) d ≡ placed_at os (place_of s d)
  content_left os d = by_place (place_of s d) where
    by_place : (o : Option Place) → unwrapped (object_at (holding os) o) ≡ placed_at os o
    by_place None = refl
    by_place (Some p) = refl

  gone_instance : (b : Bool) (x : Object) → is_waiting x ≡ true → is_instance (unwrap_or (if b then Some (close_end x Second).0 else None) plain) ≡ false
  gone_instance true x h = close_keeps_instance x Second ∙ waiting_instance x h
  gone_instance false x h = refl

  pub untold : (os : List (Option Object)) (ks : List ℕ) (o : Option Place) → is_instance (placed_at (steps os ks) o) ≡ true → loss_at os ks o ≡ 0
  untold os ks None h = refl
  untold os ks (Some p) h = by_lost (is_lost os ks p.object) refl where
    by_lost : (b : Bool) → is_lost os ks p.object ≡ b → loss_at os ks (Some p) ≡ 0
    by_lost false free = ap (λ (b : Bool). when b (at_end (close_end (at os p.object) Second).1 p.side)) free
    by_lost true lost =
        let left = left_at os ks p.object ∙ ap (λ (b : Bool). if b then gone os p.object else get_or os p.object None) lost in
        let none = gone_instance (list_any (λ y. y.1.object == p.object) (live s) || is_waiting (close_end (at os p.object) Second).0) (at os p.object) (and_right (is_among ks p.object) (is_waiting (at os p.object)) lost) in
        absurd (false≢true (sym none ∙ (ap (λ (x : Option Object). is_instance (unwrap_or x plain)) (sym left) ∙ h)))
