-- What waits at listeners that no table names goes, and it is what waits at the objects of the dying.
use Rattle.std.proofs.Common.{Bool, List, None, Option, Some, [], ap, arith, cond, false, filter, get_or, inl, inr, is_none, is_some, not, refl, subst, suc, sym, true, zero, ℕ, ℤ, ◌&&◌, ◌+◌, ◌++◌, ◌<◌, ◌==◌, ◌∙◌, ◌∷◌, ◌≡◌}
use Rattle.std.proofs.lemmas.Bool.{false≢true}
use Rattle.std.proofs.Math.Nat.{add-zero, zero-add}
use Rattle.ep_facts.proofs.AmongFacts.{among_append}
use Rattle.ep_facts.proofs.BoolFacts.{both_true, or_cases, or_left, or_right}
use Rattle.ep_facts.proofs.NatFacts.{from_test, same_nat, shift}
use Rattle.ep_base.specs.declared.answer.Answer.{Answer}
use Rattle.ep_base.specs.declared.errno.Errno.{Errno}
use Rattle.ep_base.specs.declared.errno.Errno.TheVariants.{Ebadf}
use Rattle.ep_machine.specs.Effect.{first}
use Rattle.ep_machine.specs.FilesCalls.{letting_go}
use Rattle.ep_table.proofs.DoesLemmas.{does_done}
use Rattle.ep_machine.specs.Connections.{abandoned, let_all_go, pending_at, pending_in, without_abandoned}
use Rattle.ep_machine.specs.Deaths.{named_in_tables}
use Rattle.ep_machine.specs.Files.{Files, Place, Table, content_at, is_live, names_nothing, object_at, place_of, under}
use Rattle.ep_machine.specs.Lists.{is_among, numbered}
use Rattle.ep_machine.specs.Objects.{Object, instance, is_instance, plain}
use Rattle.ep_machine.specs.Spread.{raised_of}
use Rattle.ep_table.proofs.LetGoLemmas.{all_go, all_told, any_order, any_order_told, content_left, holding, step, steps, told, told_at, untold}
use Rattle.ep_table.specs.LettingGo.{LetsGo, pending_of}
use Rattle.ep_table.specs.Value.{AreLive, AreTold, Does, Leaves, Seen, Sound, SoundThings, Things, content_of, files_in, holds_of, is_dying, losses_of, number_under, unwrapped}
use Rattle.ep_table.specs.View.{IsTables, value_of}
use Rattle.ep_table.specs.declared.tables.Tables.TheInside.{Inside}

-- Who waits, at the objects of descriptions, and at their places.
has_pending : (s : Files) (ds : List ℕ) (n : ℕ) → is_among (pending_of s ds) n ≡ true → (d : ℕ) × ((is_among ds d ≡ true) × (is_among (pending_in (content_of s d)) n ≡ true))
has_pending s [] n h = cc
has_pending s (d ∷ ds) n h = elim (or_cases (is_among (pending_in (content_of s d)) n) (is_among (pending_of s ds) n) (sym (among_append (pending_in (content_of s d)) (pending_of s ds) n) ∙ h)) [
  | inl here ↦ (d, (or_left (d == d) (is_among ds d) (same_nat d), here))
  | inr rest ↦ let w = has_pending s ds n rest in (w.0, (or_right (w.0 == d) (is_among ds w.0) w.1.0, w.1.1))
]

is_pending : (s : Files) (ds : List ℕ) (n d : ℕ) → is_among ds d ≡ true → is_among (pending_in (content_of s d)) n ≡ true → is_among (pending_of s ds) n ≡ true
is_pending s [] n d h at = cc
is_pending s (e ∷ ds) n d h at = among_append (pending_in (content_of s e)) (pending_of s ds) n ∙ elim (or_cases (d == e) (is_among ds d) h) [
  | inl here ↦ or_left (is_among (pending_in (content_of s e)) n) (is_among (pending_of s ds) n) (ap (λ (j : ℕ). is_among (pending_in (content_of s j)) n) (sym (from_test d e here)) ∙ at)
  | inr rest ↦ or_right (is_among (pending_in (content_of s e)) n) (is_among (pending_of s ds) n) (is_pending s ds n d rest at)
]

module _ (s : Files) (chosen : ℕ → Bool) (n : ℕ) where
  abbrev some_of : ℕ → List (Option Place) → List (ℕ × Place)
  some_of k ds = filter (λ x. chosen x.0) (numbered k ds)

  -- one of these has it
  pub record Has (k : ℕ) (ds : List (Option Place)) : Type 0 where
    pub i : ℕ
    pub p : Place
    pub is : get_or ds i None ≡ Some p
    pub chosen_is : chosen (k + i) ≡ true
    pub has : is_among (pending_in (content_at s p.object)) n ≡ true

  later : (k : ℕ) (o : Option Place) (ds : List (Option Place)) → Has (k + 1) ds → Has k (o ∷ ds)
  later k o ds h = record { i = suc h.i; p = h.p; is = h.is; chosen_is = ap chosen (sym (shift k h.i)) ∙ h.chosen_is; has = h.has }

  has_place : (k : ℕ) (ds : List (Option Place)) → is_among (pending_at s (some_of k ds)) n ≡ true → Has k ds
  has_place k [] h = cc
  has_place k (None ∷ ds) h = later k None ds (has_place (k + 1) ds h)
  has_place k (Some p ∷ ds) h = by_test (chosen k) refl (has_place (k + 1) ds) h where
    by_test : (b : Bool) → chosen k ≡ b → (is_among (pending_at s (some_of (k + 1) ds)) n ≡ true → Has (k + 1) ds)
        → is_among (pending_at s (cond b ((k, p) ∷ some_of (k + 1) ds) (some_of (k + 1) ds))) n ≡ true → Has k (Some p ∷ ds)
    by_test true c rest g = elim (or_cases (is_among (pending_in (content_at s p.object)) n) (is_among (pending_at s (some_of (k + 1) ds)) n) (sym (among_append (pending_in (content_at s p.object)) (pending_at s (some_of (k + 1) ds)) n) ∙ g)) [
      | inl here ↦ record { i = 0; p = p; is = refl; chosen_is = ap chosen (add-zero k) ∙ c; has = here }
      | inr there ↦ later k (Some p) ds (rest there)
    ]
    by_test false c rest g = later k (Some p) ds (rest g)

  is_placed : (k i : ℕ) (ds : List (Option Place)) (p : Place) → get_or ds i None ≡ Some p → chosen (k + i) ≡ true → is_among (pending_in (content_at s p.object)) n ≡ true → is_among (pending_at s (some_of k ds)) n ≡ true
  is_placed k i [] p is c h = cc
  is_placed k zero (None ∷ ds) p is c h = cc
  is_placed k (suc i) (None ∷ ds) p is c h = is_placed (k + 1) i ds p is (ap chosen (shift k i) ∙ c) h
  is_placed k zero (Some q ∷ ds) p is c h =
      let e : q ≡ p = cc in
      let now : chosen k ≡ true = ap chosen (sym (add-zero k)) ∙ c in
      ap (λ (b : Bool). is_among (pending_at s (cond b ((k, q) ∷ some_of (k + 1) ds) (some_of (k + 1) ds))) n) now
      ∙ (among_append (pending_in (content_at s q.object)) (pending_at s (some_of (k + 1) ds)) n
      ∙ or_left (is_among (pending_in (content_at s q.object)) n) (is_among (pending_at s (some_of (k + 1) ds)) n) (ap (λ (r : Place). is_among (pending_in (content_at s r.object)) n) e ∙ h))
  is_placed k (suc i) (Some q ∷ ds) p is c h = by_test (chosen k) (is_placed (k + 1) i ds p is (ap chosen (shift k i) ∙ c) h) where
    by_test : (b : Bool) → is_among (pending_at s (some_of (k + 1) ds)) n ≡ true → is_among (pending_at s (cond b ((k, q) ∷ some_of (k + 1) ds) (some_of (k + 1) ds))) n ≡ true
    by_test true rest = among_append (pending_in (content_at s q.object)) (pending_at s (some_of (k + 1) ds)) n ∙ or_right (is_among (pending_in (content_at s q.object)) n) (is_among (pending_at s (some_of (k + 1) ds)) n) rest
    by_test false rest = rest

-- an instance has none
instance_alone : (x : Object) → is_instance x ≡ true → pending_in x ≡ []
instance_alone instance h = refl
instance_alone plain h = cc
instance_alone x h = cc

same_truth : (a b : Bool) → (a ≡ true → b ≡ true) → (b ≡ true → a ≡ true) → a ≡ b
same_truth true b f g = sym (f refl)
same_truth false true f g = g refl
same_truth false false f g = refl

none_or_some : (m : ℕ) → (0 < m → ⊥) → (m == 0) ≡ true
none_or_some zero h = refl
none_or_some (suc m) h = absurd (h (omega arith))

module _ (v : Seen) (sound : Sound v) (instances : (d : ℕ) → 0 < holds_of v d → is_instance (content_of v.files d) ≡ true) where
  abbrev unnamed : ℕ → Bool
  unnamed d = not (is_among (named_in_tables v.files.tables) d)

  to_abandoned : (n : ℕ) → is_among (pending_of v.files v.dying) n ≡ true → is_among (abandoned v.files) n ≡ true
  to_abandoned n h =
      let w = has_pending v.files v.dying n h in
      let dies = sym (sound.dying w.0) ∙ w.1.0 in
      let both = both_true (is_live v.files w.0) (unnamed w.0 && holds_of v w.0 == 0) dies in
      by_place w.0 (place_of v.files w.0) refl both.0 (both_true (unnamed w.0) (holds_of v w.0 == 0) both.1).0 w.1.1 where
        by_place : (d : ℕ) (o : Option Place) → place_of v.files d ≡ o → is_some o ≡ true → unnamed d ≡ true → is_among (pending_in (content_of v.files d)) n ≡ true → is_among (abandoned v.files) n ≡ true
        by_place d None e lives free at = cc
        by_place d (Some p) e lives free at =
            is_placed v.files unnamed n 0 d v.files.descriptions p e (ap unnamed (zero-add d) ∙ free) (ap (λ (o : Option Place). is_among (pending_in (unwrapped (object_at v.files o))) n) (sym e) ∙ at)

  to_dying : (n : ℕ) → is_among (abandoned v.files) n ≡ true → is_among (pending_of v.files v.dying) n ≡ true
  to_dying n h =
      let w = has_place v.files unnamed n 0 v.files.descriptions h in
      let chosen : unnamed w.i ≡ true = ap unnamed (sym (zero-add w.i)) ∙ w.chosen_is in
      let at : is_among (pending_in (content_of v.files w.i)) n ≡ true = ap (λ (o : Option Place). is_among (pending_in (unwrapped (object_at v.files o))) n) w.is ∙ w.has in
      let free : (holds_of v w.i == 0) ≡ true = none_or_some (holds_of v w.i) (λ held. false≢true (ap (λ (ks : List ℕ). is_among ks n) (sym (instance_alone (content_of v.files w.i) (instances w.i held))) ∙ at)) in
      let dies : is_dying v w.i ≡ true = (λ j. is_some (w.is j) && (chosen j && free j)) in
      is_pending v.files v.dying n w.i (sound.dying w.i ∙ dies) at

  pub same_pending : (n : ℕ) → is_among (pending_of v.files v.dying) n ≡ is_among (abandoned v.files) n
  same_pending n = same_truth (is_among (pending_of v.files v.dying) n) (is_among (abandoned v.files) n) (to_abandoned n) (to_dying n)

-- Tables have nothing to do with what goes.
module _ (s : Files) (ts : List (Option Table)) where
  abbrev with : Files
  with = record s { tables = ts }

  content_with : (d : ℕ) → content_of with d ≡ content_of s d
  content_with d = by_place (place_of s d) where
    by_place : (o : Option Place) → unwrapped (object_at with o) ≡ unwrapped (object_at s o)
    by_place None = refl
    by_place (Some p) = refl

  pub pending_with : (ds : List ℕ) → pending_of with ds ≡ pending_of s ds
  pending_with [] = refl
  pending_with (d ∷ ds) = λ i. pending_in (content_with d i) ++ pending_with ds i

  pub steps_with : (os : List (Option Object)) (ks : List ℕ) → steps with os ks ≡ steps s os ks
  steps_with os [] = refl
  steps_with os (k ∷ ks) = steps_with (step s os k) ks

  pub told_with : (os : List (Option Object)) (ks : List ℕ) → all_told with os ks ≡ all_told s os ks
  told_with os [] = refl
  told_with os (k ∷ ks) = ap (λ (rs : List (ℕ × ℕ)). told s os k ++ rs) (told_with (step s os k) ks)

-- The tables with the store that let go.
module _ {A : Type 0} (k : Inside A) (v : Seen) (inv : IsTables k) (same : value_of k ≡ v) (sound : Sound v) (things : SoundThings k.store) (t : Things) (goes : LetsGo (record k.store { losses = [] }) t (pending_of (files_in k.store) k.store.dying)) where
  abbrev s : Files
  s = files_in k.store

  abbrev f : Files
  f = (value_of k).files

  abbrev ks : List ℕ
  ks = pending_of s k.store.dying

  abbrev after : Inside A
  after = record k { store = t }

  pub still_leaving : IsTables after
  still_leaving = subst (λ (u : Things). IsTables (record k { store = u })) (sym goes.rest) (record { live = inv.live; counts = inv.counts; living = inv.living })

  sound_here : Sound (value_of k)
  sound_here = subst (λ (w : Seen). Sound w) (sym same) sound

  instances_here : (d : ℕ) → 0 < holds_of (value_of k) d → is_instance (content_of f d) ≡ true
  instances_here d h = ap is_instance (content_with s f.tables d) ∙ things.instances d h

  as_abandoned : (n : ℕ) → is_among ks n ≡ is_among (abandoned f) n
  as_abandoned n = ap (λ (xs : List ℕ). is_among xs n) (sym (pending_with s f.tables k.store.dying)) ∙ same_pending (value_of k) sound_here instances_here n

  -- the machine lets go in its order
  machine : without_abandoned f ≡ (holding f (steps f f.objects (abandoned f)), all_told f f.objects (abandoned f))
  machine = all_go f f.objects [] (abandoned f)

  kernel : let_all_go (s, []) ks ≡ (holding s (steps s s.objects ks), all_told s s.objects ks)
  kernel = all_go s s.objects [] ks

  objects_left : (let_all_go (s, []) ks).0.objects ≡ (without_abandoned f).0.objects
  objects_left =
      ap (λ (now : Files × List (ℕ × ℕ)). now.0.objects) kernel
      ∙ (any_order s s.objects ks (abandoned f) as_abandoned
      ∙ (sym (steps_with s f.tables s.objects (abandoned f))
      ∙ sym (ap (λ (now : Files × List (ℕ × ℕ)). now.0.objects) machine)))

  told_left : (d : ℕ) → raised_of (let_all_go (s, []) ks).1 d ≡ raised_of (without_abandoned f).1 d
  told_left d =
      ap (λ (now : Files × List (ℕ × ℕ)). raised_of now.1 d) kernel
      ∙ (any_order_told s s.objects ks (abandoned f) as_abandoned d
      ∙ (ap (λ (rs : List (ℕ × ℕ)). raised_of rs d) (sym (told_with s f.tables s.objects (abandoned f)))
      ∙ sym (ap (λ (now : Files × List (ℕ × ℕ)). raised_of now.1 d) machine)))

  value_left : value_of after ≡ record (value_of k) { files = record f { objects = (without_abandoned f).0.objects }; losses = t.losses }
  value_left =
      (λ i. value_of (record k { store = goes.rest i }))
      ∙ (λ i. record (value_of k) { files = record f { objects = objects_left i }; losses = t.losses })

  files_left : (value_of after).files ≡ (without_abandoned f).0
  files_left =
      ap (λ (w : Seen). w.files) value_left
      ∙ (ap (λ (now : Files × List (ℕ × ℕ)). record f { objects = now.0.objects }) machine ∙ sym (ap (λ (now : Files × List (ℕ × ℕ)). now.0) machine))

  bits_left : (d : ℕ) → raised_of (without_abandoned f).1 d ≡ raised_of (losses_of k.store.keys t.losses) d
  bits_left d = sym (told_left d) ∙ sym (goes.raised d)

  keys_left : (value_of after).keys ≡ k.store.keys
  keys_left = ap (λ (u : Things). u.keys) goes.rest

  -- nothing is told of an instance
  untold_left : (d : ℕ) → is_instance (content_of (value_of after).files d) ≡ true → raised_of (losses_of (value_of after).keys t.losses) d ≡ 0
  untold_left d is =
      let none = untold f f.objects (abandoned f) (place_of f d)
      (ap (λ (x : Object). is_instance x) (sym (content_left f (steps f f.objects (abandoned f)) d)) ∙ (ap (λ (g : Files). is_instance (content_of g d)) (sym (files_left ∙ ap (λ (now : Files × List (ℕ × ℕ)). now.0) machine)) ∙ is)) in
      ap (λ (keys : List (Option ℕ)). raised_of (losses_of keys t.losses) d) keys_left
      ∙ (sym (bits_left d)
      ∙ (ap (λ (now : Files × List (ℕ × ℕ)). raised_of now.1 d) machine
      ∙ (told_at f f.objects (abandoned f) d ∙ none)))

  here : Leaves (value_of k) (value_of after) f
  here = record {
    files = files_left;
    rest = value_left ∙ (λ i. record (value_of k) { files = sym (ap (λ (w : Seen). w.files) value_left) i; dying = sym (ap (λ (w : Seen). w.dying) value_left) i; losses = t.losses });
    told = record {
      bits = λ d. bits_left d ∙ ap (λ (keys : List (Option ℕ)). raised_of (losses_of keys t.losses) d) (sym keys_left);
      live = subst (λ (keys : List (Option ℕ)). AreLive keys t.losses) (sym keys_left) (goes.live tt);
      instances = untold_left;
    };
  }

  pub leaves_here : Leaves v (value_of after) v.files
  leaves_here = subst (λ (w : Seen). Leaves w (value_of after) w.files) same here

-- after names went
pub leaves_after : (old mid new : Seen) (after : Files) → mid ≡ record old { files = after; dying = mid.dying } → Leaves mid new mid.files → Leaves old new after
leaves_after old mid new after is h =
    let files : mid.files ≡ after = ap (λ (w : Seen). w.files) is in
    record {
      files = h.files ∙ ap (λ (g : Files). (without_abandoned g).0) files;
      rest = h.rest ∙ (λ i. record (is i) { files = new.files; dying = new.dying; losses = new.losses });
      told = subst (λ (g : Files). AreTold (without_abandoned g).1 new) files h.told;
    }

-- a call that does so
pub does_leaving : (refusals : List (Bool × Errno)) (made answer : Answer) (after : Files) (old new : Seen) → first refusals ≡ None → answer ≡ made → Leaves old new after → Does (letting_go refusals made after) answer old new
does_leaving refusals made answer after old new none is h =
    does_done (letting_go refusals made after) answer old new none (record {
      answers = is;
      files = h.files;
      limits = ap (λ (w : Seen). w.limits) h.rest;
      keys = λ key d at. ap (λ (w : Seen). number_under w key) h.rest ∙ at;
      holds = λ d. ap (λ (w : Seen). holds_of w d) h.rest;
    })

-- where the descriptor names something
pub named_none : (v : Seen) (p d : ℕ) (fd : ℤ) (rest : List (Bool × Errno)) → Some d ≡ under v.files p fd → first ((names_nothing v.files p fd, Ebadf) ∷ rest) ≡ first rest
named_none v p d fd rest h = ap (λ (o : Option ℕ). first ((is_none o, Ebadf) ∷ rest)) (sym h)
