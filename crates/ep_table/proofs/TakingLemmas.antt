-- Which names of sockets are taken, as objects come, change and go.
use Rattle.std.proofs.Common.{Err, Ok, Result, ℤ, ◌≡◌, ◌≢◌, ◌<◌, ◌≤◌, ◌&&◌, ◌++◌, ◌∙◌, ◌∷◌, ◌||◌, [], Bool, List, None, Option, Some, ap, arith, false, get_or, inl, inr, is_some, length, min, not, refl, slice_set, subst, suc, sym, true, zero, ℕ}
use Rattle.std.proofs.Math.Bool.{or-true}
use Rattle.std.proofs.Math.Nat.{lt_of_not-le}
use Rattle.std.specs.List.{list_any}
use Rattle.std.specs.Prelude.{IfOk, IfSome, IsOk, OnErr, if◌then◌else◌}
use Rattle.std.specs.declared.alloc.AllocError.{AllocError}
use Rattle.ep_base.specs.declared.answer.Answer.{Answer}
use Rattle.ep_base.specs.declared.object.Raised.{Raised}
use Rattle.std.proofs.lemmas.Bool.{false≢true}
use Rattle.std.proofs.lemmas.List.{get_or-set_other, get_or-set_same, get_or_past}
use Rattle.ep_facts.proofs.BoolFacts.{first_of_or as first_false, or_cases, second_of_or as rest_false}
use Rattle.ep_facts.proofs.NatFacts.{below_or, same_or_not}
use Rattle.ep_names.proofs.NameLemmas.{same_is}
use Rattle.ep_base.specs.declared.socket.Hearing.TheVariants.{Nobody}
use Rattle.ep_base.specs.declared.socket.Name.{Name}
use Rattle.ep_machine.specs.Names.{is_there, same_name}
use Rattle.ep_machine.specs.Effect.{Effect, attempt, first, unless}
use Rattle.ep_machine.specs.Objects.{Object, ObjectCall, close_end, found_for, has_name, heard_by, hearing, hearing_in, is_taken, listener, listens_at, name_in, object_effect, object_refusals}
use Rattle.ep_names.specs.Names.{Taken, holds, owner_of}
use Rattle.ep_object.specs.Asked.{found_in, takes_name}
use Rattle.ep_object.proofs.AnswerLemmas.{waiting_is_given}
use Rattle.ep_object.specs.Memory.{asked_of, object_waiting}
use Rattle.ep_object.specs.Naming.{Gains, NamesNobody, called}
use Rattle.ep_base.specs.declared.call.Call.{Call}
use Rattle.ep_base.specs.declared.call.Call.TheVariants.{Bind, Connect, Listen}
use Rattle.ep_base.specs.declared.errno.Errno.{Errno}
use Rattle.ep_base.specs.declared.ids.Fd.{Fd}
use Rattle.ep_base.specs.declared.object.End.{End}
use Rattle.ep_object.proofs.NamingLemmas.{close_keeps_or_frees, nobody_named}
use Rattle.ep_table.proofs.CloseLemmas.{closed_object}
use Rattle.ep_table.specs.Closing.{closed_in, remains}
use Rattle.ep_table.specs.declared.words.Shared.{Shared}
use Rattle.ep_table.specs.Taking.{FindsFree, IsFree, Taking, freed_if}

-- A list in which a place changes.
module _ {X : Type 0} (p : X → Bool) where
  -- a place that tests as before
  pub any_same : (xs : List X) (k : ℕ) (y d : X) → k < length xs → p y ≡ p (get_or xs k d) → list_any p (slice_set xs k y) ≡ list_any p xs
  any_same [] k y d l h = absurd (omega (arith, l))
  any_same (x ∷ xs) zero y d l h = ap (λ (b : Bool). b || list_any p xs) h
  any_same (x ∷ xs) (suc k) y d l h = ap (λ (b : Bool). p x || b) (any_same xs k y d (omega (arith, l)) h)

  more_there : (a b c : Bool) → (a || (b || c)) ≡ (b || (a || c))
  more_there true true c = refl
  more_there true false c = refl
  more_there false b c = refl

  -- one that tested false
  pub any_more : (xs : List X) (k : ℕ) (y d : X) → k < length xs → p (get_or xs k d) ≡ false → list_any p (slice_set xs k y) ≡ (p y || list_any p xs)
  any_more [] k y d l h = absurd (omega (arith, l))
  any_more (x ∷ xs) zero y d l h = ap (λ (b : Bool). p y || (b || list_any p xs)) (sym h)
  any_more (x ∷ xs) (suc k) y d l h =
      ap (λ (b : Bool). p x || b) (any_more xs k y d (omega (arith, l)) h) ∙ more_there (p x) (p y) (list_any p xs)

  pub any_end : (xs : List X) (y : X) → p y ≡ false → list_any p (xs ++ y ∷ []) ≡ list_any p xs
  any_end [] y h = ap (λ (b : Bool). b || false) h
  any_end (x ∷ xs) y h = ap (λ (b : Bool). p x || b) (any_end xs y h)

  -- who passes stands somewhere
  pub any_at : (xs : List X) (d : X) → list_any p xs ≡ true → (i : ℕ) × (p (get_or xs i d) ≡ true)
  any_at [] d h = absurd (false≢true h)
  any_at (x ∷ xs) d h = elim (or_cases (p x) (list_any p xs) h) [ inl here ↦ (0, here) | inr rest ↦ let w = any_at xs d rest in (suc w.0, w.1) ]

  pub passes_there : (xs : List X) (i : ℕ) (d : X) → p d ≡ false → p (get_or xs i d) ≡ true → list_any p xs ≡ true
  passes_there [] i d none a = absurd (false≢true (sym none ∙ a))
  passes_there (x ∷ xs) zero d none a = ap (λ (b : Bool). b || list_any p xs) a
  passes_there (x ∷ xs) (suc i) d none a = ap (λ (b : Bool). p x || b) (passes_there xs i d none a) ∙ or-true (p x)

  pub none_pass : (xs : List X) (d : X) → ((i : ℕ) → p (get_or xs i d) ≡ true → ⊥) → list_any p xs ≡ false
  none_pass xs d h = is_false (list_any p xs) (λ e. let w = any_at xs d e in h w.0 w.1) where
    is_false : (b : Bool) → (b ≡ true → ⊥) → b ≡ false
    is_false true h = absurd (h refl)
    is_false false h = refl

  pub end_passes : (xs : List X) (y d : X) (i : ℕ) → p y ≡ false → p d ≡ false → p (get_or (xs ++ y ∷ []) i d) ≡ true → p (get_or xs i d) ≡ true
  end_passes [] y d zero h g a = absurd (false≢true (sym h ∙ a))
  end_passes [] y d (suc i) h g a = absurd (false≢true (sym g ∙ a))
  end_passes (x ∷ xs) y d zero h g a = a
  end_passes (x ∷ xs) y d (suc i) h g a = end_passes xs y d i h g a

module _ (names : Taken) (os : List (Option Object)) (t : Taking names os) where
  -- an object more, without a name
  pub taking_push : (x : Object) → name_in x ≡ None → Taking names (os ++ Some x ∷ [])
  taking_push x none =
      let nameless = λ (n : Name). ap (is_there n) none in record {
        agree = λ n. t.agree n ∙ sym (any_end (has_name n) os (Some x) (nameless n));
        apart = λ i j n a b. t.apart i j n (end_passes (has_name n) os (Some x) None i (nameless n) refl a) (end_passes (has_name n) os (Some x) None j (nameless n) refl b);
      }

  module _ (k : ℕ) (x : Object) (is : get_or os k None ≡ Some x) where
    within : k < length os
    within = elim (below_or k (length os)) [ inl l ↦ l | inr l ↦ let e : None ≡ Some x = sym (get_or_past os k None l) ∙ is in absurd cc ]

    here : (y : Option Object) → get_or (slice_set os k y) k None ≡ y
    here y = get_or-set_same os k y None within

    -- the object changes, and not its name
    pub taking_kept : (y : Object) → name_in y ≡ name_in x → Taking names (slice_set os k (Some y))
    taking_kept y same =
        let as_before = λ (n : Name). ap (is_there n) same ∙ ap (has_name n) (sym is) in
        let was = λ (n : Name) (i : ℕ) (a : has_name n (get_or (slice_set os k (Some y)) i None) ≡ true).
        elim (same_or_not i k) as (λ w. has_name n (get_or os i None) ≡ true) [
          | inl e ↦ ap (λ (j : ℕ). has_name n (get_or os j None)) e ∙ (sym (as_before n) ∙ (ap (has_name n) (sym (here (Some y)) ∙ ap (λ (j : ℕ). get_or (slice_set os k (Some y)) j None) (sym e)) ∙ a))
          | inr ne ↦ ap (has_name n) (sym (get_or-set_other os k i (Some y) None ne)) ∙ a
        ] in record {
          agree = λ n. t.agree n ∙ sym (any_same (has_name n) os k (Some y) None within (as_before n));
          apart = λ i j n a b. t.apart i j n (was n i a) (was n j b);
        }

    -- it gets a name that was free
    pub taking_named : (y : Object) (name : Name) (new : Taken) → name_in x ≡ None → name_in y ≡ Some name → is_taken os name ≡ false
        → ((n : Name) → holds new n ≡ (same_name name n || holds names n)) → Taking new (slice_set os k (Some y))
    taking_named y name new nameless gets free more =
        let none = λ (n : Name). ap (has_name n) is ∙ ap (is_there n) nameless in
        let is_new = λ (n : Name). ap (is_there n) gets in
        let other = λ (n : Name) (i : ℕ) (ne : i ≢ k) (a : has_name n (get_or (slice_set os k (Some y)) i None) ≡ true). ap (has_name n) (sym (get_or-set_other os k i (Some y) None ne)) ∙ a in
        let clash = λ (n : Name) (i j : ℕ) (e : i ≡ k) (ne : j ≢ k) (a : has_name n (get_or (slice_set os k (Some y)) i None) ≡ true) (b : has_name n (get_or (slice_set os k (Some y)) j None) ≡ true).
        (let at_k : has_name n (Some y) ≡ true = ap (has_name n) (sym (here (Some y)) ∙ ap (λ (m : ℕ). get_or (slice_set os k (Some y)) m None) (sym e)) ∙ a in
        let it : name ≡ n = same_is name n (sym (is_new n) ∙ at_k) in
        let no : has_name n (get_or os j None) ≡ false = none_there (has_name n) os (ap (is_taken os) (sym it) ∙ free) j refl in
        false≢true (sym no ∙ other n j ne b)) in record {
          agree = λ n. more n ∙ (ap (λ (b : Bool). same_name name n || b) (t.agree n) ∙ sym (any_more (has_name n) os k (Some y) None within (none n) ∙ ap (λ (b : Bool). b || is_taken os n) (is_new n)));
          apart = λ i j n a b. elim (same_or_not i k) [
            | inl e ↦ elim (same_or_not j k) [ inl f ↦ e ∙ sym f | inr f ↦ absurd (clash n i j e f a b) ]
            | inr e ↦ elim (same_or_not j k) [ inl f ↦ absurd (clash n j i f e b a) | inr f ↦ t.apart i j n (other n i e a) (other n j f b) ]
          ];
        } where
          none_there : (p : Option Object → Bool) (xs : List (Option Object)) → list_any p xs ≡ false → (j : ℕ) → p None ≡ false → p (get_or xs j None) ≡ false
          none_there p [] h j g = g
          none_there p (x ∷ xs) h zero g = first_false (p x) (list_any p xs) h
          none_there p (x ∷ xs) h (suc j) g = none_there p xs (rest_false (p x) (list_any p xs) h) j g

    -- its name goes, or it goes with its name
    pub taking_gone : (o : Option Object) (new : Taken) → ((n : Name) → has_name n o ≡ false) → ((n : Name) → holds new n ≡ (not (is_there n (name_in x)) && holds names n))
        → Taking new (slice_set os k o)
    taking_gone o new nameless less = record {
      agree = λ n. less n ∙ (ap (λ (b : Bool). not (is_there n (name_in x)) && b) (t.agree n) ∙ by_test n (is_there n (name_in x)) (ap (has_name n) is));
      apart = λ i j n a b. t.apart i j n (was n i a) (was n j b);
    } where
      not_here : (n : Name) (i : ℕ) → has_name n (get_or (slice_set os k o) i None) ≡ true → i ≡ k → ⊥
      not_here n i a e = false≢true (sym (nameless n) ∙ (ap (has_name n) (sym (here o) ∙ ap (λ (m : ℕ). get_or (slice_set os k o) m None) (sym e)) ∙ a))

      was : (n : Name) (i : ℕ) → has_name n (get_or (slice_set os k o) i None) ≡ true → has_name n (get_or os i None) ≡ true
      was n i a = elim (same_or_not i k) as (λ w. has_name n (get_or os i None) ≡ true) [
        | inl e ↦ absurd (not_here n i a e)
        | inr ne ↦ ap (has_name n) (sym (get_or-set_other os k i o None ne)) ∙ a
      ]

      by_test : (n : Name) (b : Bool) → has_name n (get_or os k None) ≡ b → (not b && is_taken os n) ≡ is_taken (slice_set os k o) n
      by_test n true h = sym (none_pass (has_name n) (slice_set os k o) None (λ i a. not_here n i a (t.apart i k n (was n i a) h)))
      by_test n false h = sym (any_same (has_name n) os k o None within (nameless n ∙ sym h))

    -- what a call makes of the object
    pub taking_called : (y : Object) (gained : Option Name) (new : Taken) → Gains x y gained → IsFree os gained
        → ((n : Name) → holds new n ≡ (is_there n gained || holds names n)) → Taking new (slice_set os k (Some y))
    taking_called y None new gains free more =
        let kept = taking_kept y gains in record { agree = λ n. more n ∙ kept.agree n; apart = kept.apart }
    taking_called y (Some name) new gains free more = taking_named y name new gains.0 gains.1 free more

-- what is held, by who owns it
pub more_held : (names new : Taken) (gained : Option Name) (at : ℕ) → ((n : Name) → owner_of new n ≡ (if is_there n gained then Some at else owner_of names n))
    → (n : Name) → holds new n ≡ (is_there n gained || holds names n)
more_held names new gained at more n = ap is_some (more n) ∙ by_test (is_there n gained) (owner_of names n) where
  by_test : (b : Bool) (o : Option ℕ) → is_some (if b then Some at else o) ≡ (b || is_some o)
  by_test true o = refl
  by_test false o = refl

pub less_held : (names new : Taken) (freed : Option Name) → ((n : Name) → owner_of new n ≡ (if is_there n freed then None else owner_of names n))
    → (n : Name) → holds new n ≡ (not (is_there n freed) && holds names n)
less_held names new freed less n = ap is_some (less n) ∙ by_test (is_there n freed) (owner_of names n) where
  by_test : (b : Bool) (o : Option ℕ) → is_some (if b then None else o) ≡ (not b && is_some o)
  by_test true o = refl
  by_test false o = refl

-- A call on an object, and the name that it gets by it.
pub gained_is_free : (os : List (Option Object)) (asked : ObjectCall) (gained : Option Name) → IfSome gained (λ name. found_in asked ≡ Some name) → FindsFree os asked → IsFree os gained
gained_is_free os asked None found free = tt
gained_is_free os asked (Some name) found free = subst (IsFree os) found free

pub none_gained : (asked : ObjectCall) (gained : Option Name) → IfSome gained (λ name. found_in asked ≡ Some name) → takes_name asked ≡ false → gained ≡ None
none_gained asked None found h = refl
none_gained asked (Some name) found h = absurd (false≢true (sym h ∙ ap is_some found))

-- one by which nobody gets a name leaves the name, made or not
pub name_left : (r : Result (Answer × Raised) AllocError) (x y : Object) (e : End) (now : ℕ) (asked : ObjectCall) → NamesNobody asked
    → IfOk r (λ p. (p.0, y, p.1) ≡ attempt (object_refusals x e now asked) x (object_effect x e now asked)) → OnErr r (y ≡ x) → name_in y ≡ name_in x
name_left (Ok p) x y e now asked nobody ok err = ap (λ (f : Effect Object). name_in f.1) ok ∙ nobody_named x e now asked nobody
name_left (Err p) x y e now asked nobody ok err = ap name_in err

-- An end of an object closes, and the object goes where that was the last. A name that stays isn't freed.
pub stays_named : (was now : Option Name) → now ≡ was → (if is_some now then None else was) ≡ None
stays_named None now same = ap (λ (o : Option Name). if is_some o then None else None) same
stays_named (Some name) now same = ap (λ (o : Option Name). if is_some o then None else Some name) same

pub taking_closed : (names new : Taken) (os : List (Option Object)) → Taking names os → (k : ℕ) (s : Shared) (e : End) → get_or os k None ≡ Some s.object → (freed : Option Name)
    → freed ≡ freed_if (remains s e) s.object (closed_in s e).object
    → ((n : Name) → holds new n ≡ (not (is_there n freed) && holds names n)) → Taking new (slice_set os k (if remains s e then Some (close_end s.object e).0 else None))
taking_closed names new os t k s e is freed f less = by_test (remains s e) f where
  left : name_in (closed_in s e).object ≡ name_in (close_end s.object e).0
  left = ap name_in (closed_object s e)

  without : (n : Name) (m : Option Name) → freed ≡ m → holds new n ≡ (not (is_there n m) && holds names n)
  without n m h = less n ∙ ap (λ (o : Option Name). not (is_there n o) && holds names n) h

  gone : (o : Option Object) → ((n : Name) → has_name n o ≡ false) → freed ≡ name_in s.object → Taking new (slice_set os k o)
  gone o nameless h = taking_gone names os t k s.object is o new nameless (λ n. without n (name_in s.object) h)

  by_test : (b : Bool) → freed ≡ freed_if b s.object (closed_in s e).object → Taking new (slice_set os k (if b then Some (close_end s.object e).0 else None))
  by_test false h = gone None (λ n. refl) h
  by_test true h = elim (close_keeps_or_frees s.object e) [
    | inl same ↦
        let kept = taking_kept names os t k s.object is (close_end s.object e).0 same in
        record { agree = λ n. without n None (h ∙ stays_named (name_in s.object) (name_in (closed_in s e).object) (left ∙ same)) ∙ kept.agree n; apart = kept.apart }
    | inr none ↦
        gone (Some (close_end s.object e).0) (λ n. ap (is_there n) none) (h ∙ ap (λ (o : Option Name). if is_some o then None else name_in s.object) (left ∙ none))
  ]

-- want of memory comes last
last_if : (o : Option Errno) (x : Object) (f : Effect Object) (name : Name) → name_in x ≡ None → name_in (unless o x f).1 ≡ Some name → o ≡ None
last_if None x f name none some = refl
last_if (Some e) x f name none some = let clash : None ≡ Some name = sym none ∙ some in absurd cc

pub named_is_last : (x : Object) (e : End) (now : ℕ) (asked : ObjectCall) (gained : Option Name) → Gains x (called x e now asked) gained → (gained ≡ None → ⊥) → first (object_refusals x e now asked) ≡ None
named_is_last x e now asked None gains some = absurd (some refl)
named_is_last x e now asked (Some name) gains some = last_if (first (object_refusals x e now asked)) x (object_effect x e now asked) name gains.0 gains.1

pub long_is_last : (r : Result (Answer × Raised) AllocError) (x : Object) (e : End) (now : ℕ) (asked : ObjectCall) → (min (asked_of asked) (object_waiting x e asked) ≤ 16 → IsOk r) → OnErr r (first (object_refusals x e now asked) ≡ None)
long_is_last (Ok p) x e now asked inline = tt
long_is_last (Err p) x e now asked inline =
    let long = lt_of_not-le (λ h. false≢true (inline h)) in waiting_is_given x e now asked (omega (arith, long))

-- any other call gives no name
pub none_found : (taken : Name → Bool) (call : Call) → ((fd : Fd) (name : Name) → call ≡ Bind fd name → ⊥) → ((fd : Fd) (backlog : ℤ) → call ≡ Listen fd backlog → ⊥)
    → ((fd : Fd) (name : Name) → call ≡ Connect fd name → ⊥) → None ≡ found_for taken call
none_found taken (Bind fd name) b l c = absurd (b fd name refl)
none_found taken (Listen fd backlog) b l c = absurd (l fd backlog refl)
none_found taken (Connect fd name) b l c = absurd (c fd name refl)
none_found taken call b l c = refl

-- nor is any other heard
pub none_heard : (objects : List (Option Object)) (call : Call) → ((fd : Fd) (name : Name) → call ≡ Connect fd name → ⊥) → Nobody ≡ hearing objects call
none_heard objects (Connect fd name) c = absurd (c fd name refl)
none_heard objects call c = refl

-- Who hears at a name: its owner, or nobody.
module _ (name : Name) where
  abbrev hears : Option Object → Bool
  hears o = listens_at name o

  pub nobody_hears : (os : List (Option Object)) → ((j : ℕ) → hears (get_or os j None) ≡ true → ⊥) → hearing_in os name ≡ Nobody
  nobody_hears [] none = refl
  nobody_hears (o ∷ os) none = by_test (nobody_hears os (λ j. none (suc j))) (hears o) refl where
    by_test : hearing_in os name ≡ Nobody → (b : Bool) → hears o ≡ b → (if b then heard_by o else hearing_in os name) ≡ Nobody
    by_test later true h = absurd (none 0 h)
    by_test later false h = later

  one_hears : (os : List (Option Object)) (i : ℕ) → hears (get_or os i None) ≡ true → ((j : ℕ) → hears (get_or os j None) ≡ true → j ≡ i) → hearing_in os name ≡ heard_by (get_or os i None)
  one_hears [] i h one = absurd cc
  one_hears (o ∷ os) zero h one = ap (λ (b : Bool). if b then heard_by o else hearing_in os name) h
  one_hears (o ∷ os) (suc i) h one = by_test (one_hears os i h (λ j k. let e = one (suc j) k in omega (arith, e))) (hears o) refl where
    by_test : hearing_in os name ≡ heard_by (get_or os i None) → (b : Bool) → hears o ≡ b → (if b then heard_by o else hearing_in os name) ≡ heard_by (get_or os i None)
    by_test later true first = let e = one 0 first in absurd (omega (arith, e))
    by_test later false other = later

  -- who listens has the name
  named_there : (o : Option Object) → hears o ≡ true → has_name name o ≡ true
  named_there (Some (listener l)) h = h
  named_there o h = cc

  -- who has it and doesn't listen, hears nobody
  deaf : (x : Object) → is_there name (name_in x) ≡ true → hears (Some x) ≡ false → heard_by (Some x) ≡ Nobody
  deaf (listener l) has h = absurd (false≢true (sym h ∙ has))
  deaf x has h = refl

  module _ (names : Taken) (os : List (Option Object)) (t : Taking names os) where
    pub owner_hears : (i : ℕ) (x : Object) → get_or os i None ≡ Some x → has_name name (Some x) ≡ true → heard_by (Some x) ≡ hearing_in os name
    owner_hears i x is has = by_own (hears (Some x)) refl where
      its_own : (j : ℕ) → hears (get_or os j None) ≡ true → j ≡ i
      its_own j a = t.apart j i name (named_there (get_or os j None) a) (ap (has_name name) is ∙ has)

      by_own : (b : Bool) → hears (Some x) ≡ b → heard_by (Some x) ≡ hearing_in os name
      by_own true h = sym (one_hears os i (ap hears is ∙ h) its_own ∙ ap heard_by is)
      by_own false h =
          deaf x has h ∙ sym (nobody_hears os (λ j a.
          false≢true (sym h ∙ (ap hears (sym is ∙ ap (λ (m : ℕ). get_or os m None) (sym (its_own j a))) ∙ a))))

    pub nobody_listens : owner_of names name ≡ None → Nobody ≡ hearing_in os name
    nobody_listens none = sym (nobody_hears os (λ j a.
        let taken : is_taken os name ≡ true = passes_there (has_name name) os j None refl (named_there (get_or os j None) a) in
        false≢true (sym (ap is_some none) ∙ (t.agree name ∙ taken))))
