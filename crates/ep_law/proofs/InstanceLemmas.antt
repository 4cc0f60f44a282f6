-- Where instances are: no description comes to be an instance.
use Rattle.std.proofs.Common.{◌≡◌, ℕ, zero, suc, Bool, true, List, [], ◌∷◌, inl, inr, refl, sym, subst, unwrap_or, ◌<◌, ◌≤◌, ◌++◌, ◌∙◌, false, None, Option, Some, ℤ, get_or, if◌then◌else◌, length, ap, arith, set, ◌==◌, ◌+◌, is_some}
use Rattle.std.specs.List.{list_any}
use Rattle.ep_law.proofs.DeathLemmas.{get_other}
use Rattle.ep_machine.specs.Files.{Files, is_live, object_of, Place, named_by, object_at, object_number, object_under, place_of, side_under, with_object}
use Rattle.ep_machine.specs.Lists.{numbered}
use Rattle.ep_machine.specs.Objects.{is_instance, plain, Object, ObjectCall, close_end, is_plain, object_effect, is_waiting}
use Rattle.ep_object.proofs.KindLemmas.{call_keeps_instance, close_keeps_instance}
use Rattle.std.proofs.lemmas.Bool.{cases_Bool, false_from_ne_true, false≢true}
use Rattle.std.proofs.lemmas.List.{get_or_append_left, length_push, length-set}
use Rattle.ep_facts.proofs.BoolFacts.{or_left, or_right}
use Rattle.ep_facts.proofs.NatFacts.{same_or_not, same_test}
use Rattle.ep_base.specs.declared.object.End.{End}
use Rattle.ep_base.specs.declared.object.End.TheVariants.{First, Second}
use Rattle.ep_machine.specs.Deaths.{die, die_all, kept_object}
use Rattle.ep_machine.specs.Tables.{affected, create_one, create_two, describe, new_object}
use Rattle.ep_machine.specs.Effect.{first}
use Rattle.ep_law.specs.Laws.{has_instance}
use Rattle.ep_machine.specs.Connections.{with_pending, without_pending, accepted, accept, join, let_go, let_all_go, first_waiting}
use Rattle.ep_machine.specs.Unconnected.{Idle}
use Rattle.ep_base.specs.declared.socket.Name.{Name}
use Rattle.std.proofs.Common.{◌||◌}
use Rattle.ep_object.proofs.ConnectionLemmas.{instance_by_kind, without_kind, accepted_kind, pending_kind, waiting_instance, waiting_plain, by_test}
use Rattle.ep_object.specs.Connecting.{connection}

-- each place is of an object that was made
abbrev pub AreMade : Files → Type 0
AreMade f = (d : ℕ) (p : Place) → place_of f d ≡ Some p → p.object < length f.objects

-- what has an object was made
some_below : (ds : List (Option Place)) (d : ℕ) (p : Place) → get_or ds d None ≡ Some p → d < length ds
some_below [] d p e = cc
some_below (x ∷ ds) zero p e = omega arith
some_below (x ∷ ds) (suc d) p e = let lt = some_below ds d p e in omega (arith, lt)

pub instance_below : (f : Files) (d : ℕ) → has_instance f d ≡ true → d < length f.descriptions
instance_below f d h = at (place_of f d) refl h where
  at : (o : Option Place) → place_of f d ≡ o → is_instance (unwrap_or (object_at f o) plain) ≡ true → d < length f.descriptions
  at None e h = absurd (false≢true h)
  at (Some p) e h = some_below f.descriptions d p e

-- the object of number 0, for which a number that names nothing stands, is no instance
abbrev pub FirstIsNone : Files → Type 0
FirstIsNone f = (0 < length f.objects) × (is_instance (unwrap_or (get_or f.objects 0 None) plain) ≡ false)

-- From f to g the objects that were made stay so, no description of f comes to be an instance, none lives again, and
-- what is an instance stays one while it lives.
pub record Narrows (f g : Files) : Type 0 where
  pub longer : length f.descriptions ≤ length g.descriptions
  pub made : AreMade g
  pub instances : (d : ℕ) → d < length f.descriptions → has_instance g d ≡ true → has_instance f d ≡ true
  pub dead : (d : ℕ) → d < length f.descriptions → is_live f d ≡ false → is_live g d ≡ false
  pub stays : (d : ℕ) → has_instance f d ≡ true → is_live g d ≡ true → has_instance g d ≡ true
  pub first : FirstIsNone f → FirstIsNone g

pub narrows_self : (f : Files) → AreMade f → Narrows f f
narrows_self f b = record { longer = omega arith; made = b; instances = λ d lt h. h; dead = λ d lt h. h; stays = λ d h l. h; first = λ h. h }

pub narrows_trans : (f g h : Files) → Narrows f g → Narrows g h → Narrows f h
narrows_trans f g h a b =
    let first = a.longer in
    let second = b.longer in
    record {
      longer = omega (arith, first, second);
      made = b.made;
      instances = λ d lt i. a.instances d lt (b.instances d (omega (arith, lt, first)) i);
      dead = λ d lt i. b.dead d (omega (arith, lt, first)) (a.dead d lt i);
      stays = λ d i l. let lt = instance_below f d i in elim (cases_Bool (is_live g d)) [
        | inl lives ↦ b.stays d (a.stays d i lives) l
        | inr died ↦ absurd (false≢true (sym (b.dead d (omega (arith, lt, first)) died) ∙ l))
      ];
      first = λ i. b.first (a.first i);
    }

-- Objects.
abbrev pub is_instance_at : List (Option Object) → ℕ → Bool
is_instance_at os k = is_instance (unwrap_or (get_or os k None) plain)

-- what gives way to an instance was one
set_instance : (os : List (Option Object)) (k j : ℕ) (o : Option Object) → (is_instance (unwrap_or o plain) ≡ true → is_instance_at os k ≡ true) → is_instance_at (set os k o) j ≡ true → is_instance_at os j ≡ true
set_instance [] k j o keep h = h
set_instance (x ∷ os) zero zero o keep h = keep h
set_instance (x ∷ os) zero (suc j) o keep h = h
set_instance (x ∷ os) (suc k) zero o keep h = h
set_instance (x ∷ os) (suc k) (suc j) o keep h = set_instance os k j o keep h

-- what gives way to one is one
set_stays : (os : List (Option Object)) (k j : ℕ) (o : Option Object) → (is_instance_at os k ≡ true → is_instance (unwrap_or o plain) ≡ true) → is_instance_at os j ≡ true → is_instance_at (set os k o) j ≡ true
set_stays [] k j o keep h = h
set_stays (x ∷ os) zero zero o keep h = keep h
set_stays (x ∷ os) zero (suc j) o keep h = h
set_stays (x ∷ os) (suc k) zero o keep h = h
set_stays (x ∷ os) (suc k) (suc j) o keep h = set_stays os k j o keep h

-- at one place, under other objects
place_instance : (f g : Files) (o : Option Place) → ((k : ℕ) → is_instance_at g.objects k ≡ true → is_instance_at f.objects k ≡ true) → is_instance (unwrap_or (object_at g o) plain) ≡ true → is_instance (unwrap_or (object_at f o) plain) ≡ true
place_instance f g None keep h = h
place_instance f g (Some p) keep h = keep p.object h

-- an object in the place of one
pub narrows_with_object : (f : Files) (k : ℕ) (x : Object) → AreMade f → (is_instance x ≡ true → is_instance_at f.objects k ≡ true) → (is_instance_at f.objects k ≡ true → is_instance x ≡ true) → Narrows f (with_object f k x)
narrows_with_object f k x b keep stay =
    let same = length-set f.objects k (Some x) in
    record {
      longer = omega arith;
      made = λ d p e. let lt = b d p e in omega (arith, same, lt);
      instances = λ d lt h. place_instance f (with_object f k x) (place_of f d) (λ j. set_instance f.objects k j (Some x) keep) h;
      dead = λ d lt h. h;
      stays = λ d h l. place_instance (with_object f k x) f (place_of f d) (λ j. set_stays f.objects k j (Some x) stay) h;
      first = λ h. let some = h.0 in (omega (arith, same, some), false_from_ne_true _ (λ t. false≢true (sym h.1 ∙ set_instance f.objects k 0 (Some x) keep t)));
    }

-- what gives way to another, and neither is an instance
pub narrows_unlike : (f : Files) (k : ℕ) (o : Option Object) → AreMade f → is_instance_at f.objects k ≡ false → is_instance (unwrap_or o plain) ≡ false → Narrows f (record f { objects = set f.objects k o })
narrows_unlike f k o b was is =
    let g : Files = record f { objects = set f.objects k o } in
    let same = length-set f.objects k o in
    let none : is_instance (unwrap_or o plain) ≡ true → is_instance_at f.objects k ≡ true = λ h. absurd (false≢true (sym is ∙ h)) in
    record {
      longer = omega arith;
      made = λ d p e. let lt = b d p e in omega (arith, same, lt);
      instances = λ d lt h. place_instance f g (place_of f d) (λ j. set_instance f.objects k j o none) h;
      dead = λ d lt h. h;
      stays = λ d h l. place_instance g f (place_of f d) (λ j. set_stays f.objects k j o (λ t. absurd (false≢true (sym was ∙ t)))) h;
      first = λ h. let some = h.0 in (omega (arith, same, some), false_from_ne_true _ (λ t. false≢true (sym h.1 ∙ set_instance f.objects k 0 o none t)));
    }

-- A new object.
pub narrows_new_object : (f : Files) (x : Object) → AreMade f → Narrows f (new_object f x)
narrows_new_object f x b =
    let more = length_push f.objects (Some x) in
    record {
      longer = omega arith;
      made = λ d p e. let lt = b d p e in omega (arith, more, lt);
      instances = λ d lt h. before d (place_of f d) refl h;
      dead = λ d lt h. h;
      stays = λ d h l. after d (place_of f d) refl h;
      first = λ h. let some = h.0 in (omega (arith, more, some), ap (λ (o : Option Object). is_instance (unwrap_or o plain)) (get_or_append_left f.objects (Some x ∷ []) None 0 some) ∙ h.1);
    } where
      before : (d : ℕ) (o : Option Place) → place_of f d ≡ o → is_instance (unwrap_or (object_at (new_object f x) o) plain) ≡ true → is_instance (unwrap_or (object_at f o) plain) ≡ true
      before d None e h = h
      before d (Some p) e h = ap (λ (o : Option Object). is_instance (unwrap_or o plain)) (sym (get_or_append_left f.objects (Some x ∷ []) None p.object (b d p e))) ∙ h

      after : (d : ℕ) (o : Option Place) → place_of f d ≡ o → is_instance (unwrap_or (object_at f o) plain) ≡ true → is_instance (unwrap_or (object_at (new_object f x) o) plain) ≡ true
      after d None e h = h
      after d (Some p) e h = ap (λ (o : Option Object). is_instance (unwrap_or o plain)) (get_or_append_left f.objects (Some x ∷ []) None p.object (b d p e)) ∙ h

-- A description of an object that was made.
push_made : (ds : List (Option Place)) (new : Place) (m : ℕ) → new.object < m → ((d : ℕ) (p : Place) → get_or ds d None ≡ Some p → p.object < m) → (d : ℕ) (p : Place) → get_or (ds ++ Some new ∷ []) d None ≡ Some p → p.object < m
push_made [] new m lt b zero p e = let same : new ≡ p = cc in subst (λ (q : Place). q.object < m) same lt
push_made [] new m lt b (suc d) p e = cc
push_made (x ∷ ds) new m lt b zero p e = b 0 p e
push_made (x ∷ ds) new m lt b (suc d) p e = push_made ds new m lt (λ j q. b (suc j) q) d p e

pub narrows_describe : (f : Files) (p k : ℕ) (e : End) (cloexec : Bool) → k < length f.objects → AreMade f → Narrows f (describe f p k e cloexec)
narrows_describe f p k e cloexec lt b =
    let place : Place = record { object = k; side = e } in
    let more = length_push f.descriptions (Some place) in
    record {
      longer = omega (arith, more);
      made = push_made f.descriptions place (length f.objects) lt b;
      instances = λ d l h. ap (λ (o : Option Place). is_instance (unwrap_or (object_at f o) plain)) (sym (get_or_append_left f.descriptions (Some place ∷ []) None d l)) ∙ h;
      dead = λ d l h. ap is_some (get_or_append_left f.descriptions (Some place ∷ []) None d l) ∙ h;
      stays = λ d h l. ap (λ (o : Option Place). is_instance (unwrap_or (object_at f o) plain)) (get_or_append_left f.descriptions (Some place ∷ []) None d (instance_below f d h)) ∙ h;
      first = λ h. h;
    }

pub narrows_one : (f : Files) (p : ℕ) (x : Object) (cloexec : Bool) → AreMade f → Narrows f (create_one f p x cloexec)
narrows_one f p x cloexec b =
    let one = narrows_new_object f x b in
    let more = length_push f.objects (Some x) in
    narrows_trans f (new_object f x) (create_one f p x cloexec) one (narrows_describe (new_object f x) p (length f.objects) First cloexec (omega (arith, more)) one.made)

pub narrows_two : (f : Files) (p : ℕ) (x : Object) (cloexec : Bool) → AreMade f → Narrows f (create_two f p x cloexec)
narrows_two f p x cloexec b =
    let one = narrows_one f p x cloexec b in
    let more = length_push f.objects (Some x) in
    narrows_trans f (create_one f p x cloexec) (create_two f p x cloexec) one (narrows_describe (create_one f p x cloexec) p (length f.objects) Second cloexec (omega (arith, more)) one.made)

-- Effects keep the kind of an object.
at_number : (f : Files) (o : Option Place) → is_instance (unwrap_or (object_at f o) plain) ≡ true → is_instance_at f.objects (object_number o) ≡ true
at_number f None h = absurd (false≢true h)
at_number f (Some p) h = h

pub from_number : (f : Files) (o : Option Place) → FirstIsNone f → is_instance_at f.objects (object_number o) ≡ true → is_instance (unwrap_or (object_at f o) plain) ≡ true
from_number f None first h = absurd (false≢true (sym first.1 ∙ h))
from_number f (Some p) first h = h

pub narrows_affected : (f : Files) (p : ℕ) (fd : ℤ) (now : ℕ) (asked : ObjectCall) → AreMade f → FirstIsNone f → Narrows f (affected f (named_by f p fd) (object_effect (object_under f p fd) (side_under f p fd) now asked))
narrows_affected f p fd now asked b first =
    let x = object_under f p fd in
    let e = side_under f p fd in
    let o = place_of f (named_by f p fd) in
    let same = call_keeps_instance x e now asked in
    narrows_with_object f (object_number o) (object_effect x e now asked).1 b (λ h. at_number f o (sym same ∙ h)) (λ h. same ∙ from_number f o first h)

-- Connections make no instances.
-- what isn't plain was made
pub made_below : (os : List (Option Object)) (k : ℕ) → is_plain (unwrap_or (get_or os k None) plain) ≡ false → k < length os
made_below [] k h = absurd (false≢true (sym h))
made_below (x ∷ os) zero h = omega arith
made_below (x ∷ os) (suc k) h = let lt = made_below os k h in omega (arith, lt)

abbrev content : Files → ℕ → Object
content f k = unwrap_or (get_or f.objects k None) plain

-- x stands at k, and gives way to another that is an instance if x is
narrows_alike : (f : Files) (k : ℕ) (y : Object) → AreMade f → is_instance y ≡ is_instance (content f k) → Narrows f (with_object f k y)
narrows_alike f k y b same = narrows_with_object f k y b (λ h. sym same ∙ h) (λ h. same ∙ h)

-- one that waits is let go
closed_instance : (b : Bool) (x : Object) → is_instance x ≡ false → is_instance (unwrap_or (if b then Some (close_end x Second).0 else None) plain) ≡ false
closed_instance true x h = close_keeps_instance x Second ∙ h
closed_instance false x h = refl

narrows_let_go : (f : Files) (raised : List (ℕ × ℕ)) (k : ℕ) → AreMade f → Narrows f (let_go (f, raised) k).0
narrows_let_go f raised k b =
    by_test (λ (now : Files × List (ℕ × ℕ)). Narrows f now.0) (is_waiting (content f k)) _ (f, raised)
    (λ w. let none = waiting_instance (content f k) w in narrows_unlike f k _ b none (closed_instance _ (content f k) none))
    (λ w. narrows_self f b)

pub narrows_all_go : (f : Files) (raised : List (ℕ × ℕ)) (ks : List ℕ) → AreMade f → Narrows f (let_all_go (f, raised) ks).0
narrows_all_go f raised [] b = narrows_self f b
narrows_all_go f raised (k ∷ ks) b =
    let one = narrows_let_go f raised k b in
    let next = let_go (f, raised) k in
    narrows_trans f next.0 (let_all_go next ks).0 one (narrows_all_go next.0 next.1 ks one.made)

-- one is accepted
pub first_waits : (f : Files) (ks : List ℕ) (k : ℕ) → first_waiting f ks ≡ Some k → is_waiting (content f k) ≡ true
first_waits f [] k h = cc
first_waits f (j ∷ ks) k h =
    by_test (λ (o : Option ℕ). o ≡ Some k → is_waiting (content f k) ≡ true) (is_waiting (content f j)) (Some j) (first_waiting f ks)
    (λ w e. let same : j ≡ k = cc in subst (λ (n : ℕ). is_waiting (content f n) ≡ true) same w)
    (λ w e. first_waits f ks k e) h

pub narrows_accept : (f : Files) (p m k : ℕ) (cloexec : Bool) → AreMade f → is_waiting (content f k) ≡ true → Narrows f (accept f p m (Some k) cloexec)
narrows_accept f p m k cloexec b waits =
    let left = with_object f m (without_pending k (content f m)) in
    let made = with_object left k (accepted (content f k)) in
    let one = narrows_alike f m (without_pending k (content f m)) b (instance_by_kind (content f m) (without_pending k (content f m)) (without_kind k (content f m))) in
    let none = waiting_instance (content f k) waits in
    let two = narrows_unlike left k (Some (accepted (content f k))) one.made
    (false_from_ne_true _ (λ h. false≢true (sym none ∙ set_instance f.objects m k (Some (without_pending k (content f m))) (λ i. sym (instance_by_kind (content f m) (without_pending k (content f m)) (without_kind k (content f m))) ∙ i) h)))
    (instance_by_kind (content f k) (accepted (content f k)) (accepted_kind (content f k)) ∙ none) in
    let lt = made_below f.objects k (waiting_plain (content f k) waits) in
    let same = length-set f.objects m (Some (without_pending k (content f m))) in
    let more = length-set left.objects k (Some (accepted (content f k))) in
    narrows_trans f made (accept f p m (Some k) cloexec) (narrows_trans f left made one two) (narrows_describe made p k Second cloexec (omega (arith, lt, same, more)) two.made)

-- one joins who listens
pub narrows_join : (capacity : ℕ) (f : Files) (k m : ℕ) (x : Idle) (name : Name) → AreMade f → is_instance_at f.objects k ≡ false → Narrows f (join capacity f k x name m).0
narrows_join capacity f k m x name b none =
    let joins = connection capacity x name in
    let connected = with_object f k joins in
    let one = narrows_unlike f k (Some joins) b none refl in
    let there : is_instance (with_pending k (content f m)) ≡ true → is_instance_at connected.objects m ≡ true = λ h.
    set_stays f.objects k m (Some joins) (λ t. absurd (false≢true (sym none ∙ t))) (sym (instance_by_kind (content f m) (with_pending k (content f m)) (pending_kind k (content f m))) ∙ h) in
    let back : is_instance_at connected.objects m ≡ true → is_instance (with_pending k (content f m)) ≡ true = λ h.
    instance_by_kind (content f m) (with_pending k (content f m)) (pending_kind k (content f m)) ∙ set_instance f.objects k m (Some joins) (λ t. absurd (false≢true t)) h in
    narrows_trans f connected (join capacity f k x name m).0 one (narrows_with_object connected m (with_pending k (content f m)) one.made there back)

-- Deaths.
-- an object that a description names is kept
still_named : (k : ℕ) (ds : List (Option Place)) (d : ℕ) (p : Place) → get_or ds d None ≡ Some p → list_any (λ y. y.1.object == p.object) (numbered k ds) ≡ true
still_named k [] d p e = cc
still_named k (None ∷ ds) zero p e = cc
still_named k (None ∷ ds) (suc d) p e = still_named (k + 1) ds d p e
still_named k (Some q ∷ ds) zero p e = let same : q ≡ p = cc in or_left _ _ (same_test q.object p.object (ap (λ (x : Place). x.object) same))
still_named k (Some q ∷ ds) (suc d) p e = or_right _ _ (still_named (k + 1) ds d p e)

pub kept_instance : (b : Bool) (x : Object) → is_instance (unwrap_or (if b then Some x else None) plain) ≡ true → is_instance x ≡ true
kept_instance true x h = h
kept_instance false x h = absurd (false≢true h)

was_there : (ds : List (Option Place)) (k d : ℕ) (p : Place) → get_or (set ds k None) d None ≡ Some p → get_or ds d None ≡ Some p
was_there [] k d p e = e
was_there (x ∷ ds) zero zero p e = cc
was_there (x ∷ ds) zero (suc d) p e = e
was_there (x ∷ ds) (suc k) zero p e = e
was_there (x ∷ ds) (suc k) (suc d) p e = was_there ds k d p e

died : (ds : List (Option Place)) (k d : ℕ) → is_some (get_or ds d None) ≡ false → is_some (get_or (set ds k None) d None) ≡ false
died [] k d h = h
died (x ∷ ds) zero zero h = refl
died (x ∷ ds) zero (suc d) h = h
died (x ∷ ds) (suc k) zero h = h
died (x ∷ ds) (suc k) (suc d) h = died ds k d h

module _ (f : Files) (x : ℕ × Place) (b : AreMade f) where
  abbrev k : ℕ
  k = x.1.object

  abbrev shut : Object
  shut = (close_end (unwrap_or (get_or f.objects k None) plain) x.1.side).0

  abbrev rest : Files
  rest = record f { descriptions = set f.descriptions x.0 None }

  abbrev g : Files
  g = (die (f, []) x).0

  objects_after : (j : ℕ) → is_instance_at g.objects j ≡ true → is_instance_at f.objects j ≡ true
  objects_after j = set_instance f.objects k j (kept_object rest k shut) (λ h.
      sym (close_keeps_instance (unwrap_or (get_or f.objects k None) plain) x.1.side) ∙ kept_instance _ shut h)

  instance_before : (d : ℕ) (o : Option Place) → place_of g d ≡ o → is_instance (unwrap_or (object_at f o) plain) ≡ true → has_instance f d ≡ true
  instance_before d None e h = absurd (false≢true h)
  instance_before d (Some p) e h = ap (λ (o : Option Place). is_instance (unwrap_or (object_at f o) plain)) (was_there f.descriptions x.0 d p e) ∙ h

  -- if d lives on, its object is kept
  on : (d : ℕ) (p : Place) → place_of g d ≡ Some p → is_instance_at f.objects p.object ≡ true → is_instance_at g.objects p.object ≡ true
  on d p e h = elim (same_or_not k p.object) [
    | inl same ↦
        let named : list_any (λ y. y.1.object == k) (numbered 0 rest.descriptions) ≡ true = subst (λ (i : ℕ). list_any (λ y. y.1.object == i) (numbered 0 rest.descriptions) ≡ true) (sym same) (still_named 0 rest.descriptions d p e) in
        set_stays f.objects k p.object (kept_object rest k shut) (λ t.
        ap (λ (b : Bool). is_instance (unwrap_or (if b || is_waiting shut then Some shut else None) plain)) named ∙ (close_keeps_instance (unwrap_or (get_or f.objects k None) plain) x.1.side ∙ t)) h
    | inr apart ↦ ap (λ (o : Option Object). is_instance (unwrap_or o plain)) (get_other f.objects k p.object (kept_object rest k shut) apart) ∙ h
  ]

  lives_on : (d : ℕ) (o : Option Place) → place_of g d ≡ o → is_some o ≡ true → has_instance f d ≡ true → is_instance (unwrap_or (object_at g o) plain) ≡ true
  lives_on d None e s h = absurd (false≢true s)
  lives_on d (Some p) e s h =
      let was : is_instance_at f.objects p.object ≡ true = ap (λ (o : Option Place). is_instance (unwrap_or (object_at f o) plain)) (sym (was_there f.descriptions x.0 d p e)) ∙ h in
      on d p e was

  pub narrows_death : Narrows f g
  narrows_death =
      let places = length-set f.descriptions x.0 None in
      let objects = length-set f.objects k (kept_object rest k shut) in
      record {
        longer = omega (arith, places);
        made = λ d p e. let lt = b d p (was_there f.descriptions x.0 d p e) in omega (arith, objects, lt);
        instances = λ d lt h. instance_before d (place_of g d) refl (place_instance f g (place_of g d) objects_after h);
        dead = λ d lt h. died f.descriptions x.0 d h;
        stays = λ d h l. lives_on d (place_of g d) refl l h;
        first = λ h. let some = h.0 in (omega (arith, objects, some), false_from_ne_true _ (λ t. false≢true (sym h.1 ∙ objects_after 0 t)));
      }

pub narrows_deaths : (f : Files) (raised : List (ℕ × ℕ)) (xs : List (ℕ × Place)) → AreMade f → Narrows f (die_all (f, raised) xs).0
narrows_deaths f raised [] b = narrows_self f b
narrows_deaths f raised (x ∷ xs) b =
    let one = narrows_death f x b in
    let now = die (f, raised) x in
    narrows_trans f now.0 (die_all now xs).0 one (narrows_deaths now.0 now.1 xs one.made)

-- what is not plain was made
pub watched_below : (f : Files) (d : ℕ) → is_plain (unwrap_or (object_of f d) plain) ≡ false → d < length f.descriptions
watched_below f d h = at (place_of f d) refl h where
  at : (o : Option Place) → place_of f d ≡ o → is_plain (unwrap_or (object_at f o) plain) ≡ false → d < length f.descriptions
  at None e h = absurd (false≢true (sym h))
  at (Some p) e h = some_below f.descriptions d p e
