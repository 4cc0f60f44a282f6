-- What tables name, and what descriptions and objects are there after a creation or a change of an object.
use Rattle.std.proofs.Common.{nat_lt, ◌<◌, ◌≡◌, ◌≢◌, ℕ, zero, suc, ◌==◌, ◌||◌, ◌⊎◌, ◌++◌, ◌∙◌, Bool, List, [], ◌∷◌, None, Option, Some, ℤ, pos, negsuc, true, false, ap, arith, get_or, if◌then◌else◌, inl, inr, is_none, is_some, length, map, refl, set, subst, sym, unwrap_or}
use Rattle.std.specs.List.{filter_map}
use Rattle.std.proofs.lemmas.Bool.{false≢true}
use Rattle.ep_facts.proofs.NatFacts.{from_test, same_nat, same_or_not, suc_is_not_zero}
use Rattle.ep_facts.proofs.BoolFacts.{or_cases, or_left, or_right}
use Rattle.ep_facts.proofs.AmongFacts.{among_append}
use Rattle.ep_base.specs.declared.object.End.{End}
use Rattle.ep_machine.specs.Deaths.{named_in, named_in_tables, kept_object}
use Rattle.ep_machine.specs.Files.{Files, Place, Slot, Table, description_in, is_live, named_by, names_nothing, numbers_of, object_at, object_of, opening_files, place_of, slot_under, table_of, with_object}
use Rattle.ep_machine.specs.Lists.{enter, is_among, place_at}
use Rattle.ep_machine.specs.Objects.{Object, plain, is_plain, is_waiting, close_end}
use Rattle.ep_view.specs.AtRest.{can_be_watched, is_backed, kind_of}
use Rattle.ep_machine.specs.State.{Waiter}
use Rattle.ep_machine.specs.Tables.{close, create_one, create_two, describe, dup, dup2, exec, exit, fork, kept_by_exec, new_object, same_number, slot, with_table}
use Rattle.ep_machine.specs.Connections.{with_pending, without_pending, accepted, let_go, let_all_go, without_abandoned, abandoned, accept, join}
use Rattle.ep_base.specs.declared.object.End.TheVariants.{Second}
use Rattle.ep_law.proofs.DeathLemmas.{has_here, get_other}
use Rattle.ep_view.proofs.KindLemmas.{closed_kind, kind_of_number, same_kind}
use Rattle.ep_machine.specs.Unconnected.{Idle}
use Rattle.ep_machine.specs.Listening.{Listener}
use Rattle.ep_base.specs.declared.socket.Name.{Name}
use Rattle.ep_machine.specs.Files.{object_of}
use Rattle.std.proofs.Common.{sym, ap, unwrap_or, set, nat_lt}
use Rattle.ep_object.specs.Kinds.{kind_number}
use Rattle.ep_object.proofs.ConnectionLemmas.{waiting_kind, accepted_kind, without_kind, pending_kind, idle_kind, listener_kind, idle_plain, listener_plain}
use Rattle.ep_object.specs.Connecting.{IsIdle, IsListener, connection}
use Rattle.ep_object.proofs.ConnectionLemmas.{by_test}

-- the part of a changed state that is about its files
pub record Filed (f : Files) : Type 0 where
  pub placed : (d : ℕ) → is_backed f (place_of f d) ≡ true
  pub lives : (d : ℕ) → is_among (named_in_tables f.tables) d ≡ true → is_live f d ≡ true

-- what lives stays so, and what can be watched keeps its kind
pub record Extends (f g : Files) : Type 0 where
  pub lives : (d : ℕ) → is_live f d ≡ true → is_live g d ≡ true
  pub shows : (d : ℕ) → can_be_watched (object_of f d) ≡ true → kind_of (object_of g d) ≡ kind_of (object_of f d)

pub watched_same : (o p : Option Object) → kind_of p ≡ kind_of o → can_be_watched o ≡ true → can_be_watched p ≡ true
watched_same o p same h = ap (nat_lt 0) same ∙ h

pub extends_trans : (f g h : Files) → Extends f g → Extends g h → Extends f h
extends_trans f g h a b = record { lives = λ d e. b.lives d (a.lives d e); shows = λ d e. let same = a.shows d e in b.shows d (watched_same _ _ same e) ∙ same }

-- Bools.
or_comm : (a b : Bool) → (a || b) ≡ (b || a)
or_comm true true = refl
or_comm true false = refl
or_comm false true = refl
or_comm false false = refl

or_assoc : (a b c : Bool) → ((a || b) || c) ≡ (a || (b || c))
or_assoc true b c = refl
or_assoc false b c = refl

-- Names in tables.

among_enter : (t : Table) (x : Slot) (d : ℕ) → is_among (filter_map description_in (enter t x)) d ≡ (is_among (filter_map description_in t) d || (d == x.description))
among_enter [] x d = or_comm (d == x.description) false
among_enter (None ∷ t) x d = or_comm (d == x.description) (is_among (filter_map description_in t) d)
among_enter (Some y ∷ t) x d = ap (λ (b : Bool). (d == y.description) || b) (among_enter t x d) ∙ sym (or_assoc (d == y.description) (is_among (filter_map description_in t) d) (d == x.description))

or_last : (a b c : Bool) → ((a || b) || c) ≡ ((a || c) || b)
or_last a b c = or_assoc a b c ∙ (ap (λ (x : Bool). a || x) (or_comm b c) ∙ sym (or_assoc a c b))

among_set : (ts : List (Option Table)) (p : ℕ) (x : Slot) (d : ℕ) → is_none (get_or ts p None) ≡ false
    → is_among (named_in_tables (set ts p (Some (enter (unwrap_or (get_or ts p None) []) x)))) d ≡ (is_among (named_in_tables ts) d || (d == x.description))
among_set [] p x d h = cc
among_set (None ∷ ts) zero x d h = cc
among_set (Some t ∷ ts) zero x d h =
    among_append (named_in (Some (enter t x))) (named_in_tables ts) d
    ∙ (ap (λ (b : Bool). b || is_among (named_in_tables ts) d) (among_enter t x d)
    ∙ (or_last (is_among (named_in (Some t)) d) (d == x.description) (is_among (named_in_tables ts) d)
    ∙ ap (λ (b : Bool). b || (d == x.description)) (sym (among_append (named_in (Some t)) (named_in_tables ts) d))))
among_set (u ∷ ts) (suc p) x d h =
    let new = set ts p (Some (enter (unwrap_or (get_or ts p None) []) x)) in
    among_append (named_in u) (named_in_tables new) d
    ∙ (ap (λ (b : Bool). is_among (named_in u) d || b) (among_set ts p x d h)
    ∙ (sym (or_assoc (is_among (named_in u) d) (is_among (named_in_tables ts) d) (d == x.description))
    ∙ ap (λ (b : Bool). b || (d == x.description)) (sym (among_append (named_in u) (named_in_tables ts) d))))

-- what a descriptor number names is among the names of its table
named_at : (t : Table) (k : ℕ) → is_none (description_in (get_or t k None)) ≡ false → is_among (filter_map description_in t) (unwrap_or (description_in (get_or t k None)) 0) ≡ true
named_at [] k h = cc
named_at (None ∷ t) zero h = cc
named_at (Some x ∷ t) zero h = or_left _ _ (same_nat x.description)
named_at (None ∷ t) (suc k) h = named_at t k h
named_at (Some x ∷ t) (suc k) h = or_right _ _ (named_at t k h)

named_slot : (t : Table) (fd : ℤ) → is_none (description_in (slot_under t fd)) ≡ false → is_among (filter_map description_in t) (unwrap_or (description_in (slot_under t fd)) 0) ≡ true
named_slot t (pos k) h = named_at t k h
named_slot t (negsuc k) h = cc

names_none : (fd : ℤ) (A : Type 0) → is_none (description_in (slot_under [] fd)) ≡ false → A
names_none (pos k) A h = cc
names_none (negsuc k) A h = cc

named_table : (ts : List (Option Table)) (p : ℕ) (fd : ℤ) → is_none (description_in (slot_under (unwrap_or (get_or ts p None) []) fd)) ≡ false
    → is_among (named_in_tables ts) (unwrap_or (description_in (slot_under (unwrap_or (get_or ts p None) []) fd)) 0) ≡ true
named_table [] p fd h = names_none fd _ h
named_table (None ∷ ts) zero fd h = names_none fd _ h
named_table (Some t ∷ ts) zero fd h = let d = unwrap_or (description_in (slot_under t fd)) 0 in among_append (named_in (Some t)) (named_in_tables ts) d ∙ or_left _ _ (named_slot t fd h)
named_table (u ∷ ts) (suc p) fd h =
    let d = unwrap_or (description_in (slot_under (unwrap_or (get_or ts p None) []) fd)) 0 in
    among_append (named_in u) (named_in_tables ts) d ∙ or_right _ _ (named_table ts p fd h)

-- Places.
some_append : {X : Type 0} (xs ys : List (Option X)) (j : ℕ) → is_some (get_or xs j None) ≡ true → get_or (xs ++ ys) j None ≡ get_or xs j None
some_append [] ys j h = cc
some_append (x ∷ xs) ys zero h = refl
some_append (x ∷ xs) ys (suc j) h = some_append xs ys j h

some_push : {X : Type 0} (xs : List (Option X)) (x : X) → get_or (xs ++ Some x ∷ []) (length xs) None ≡ Some x
some_push [] x = refl
some_push (y ∷ xs) x = some_push xs x

pub some_set : {X : Type 0} (xs : List (Option X)) (k j : ℕ) (x : X) → is_some (get_or xs j None) ≡ true → is_some (get_or (set xs k (Some x)) j None) ≡ true
some_set [] k j x h = cc
some_set (y ∷ xs) zero zero x h = refl
some_set (y ∷ xs) zero (suc j) x h = h
some_set (y ∷ xs) (suc k) zero x h = h
some_set (y ∷ xs) (suc k) (suc j) x h = some_set xs k j x h

-- an object that can be watched gives way to one of its kind
pub watched_set : (xs : List (Option Object)) (k j : ℕ) (x : Object) → (can_be_watched (get_or xs k None) ≡ true → kind_of (Some x) ≡ kind_of (get_or xs k None)) → can_be_watched (get_or xs j None) ≡ true → kind_of (get_or (set xs k (Some x)) j None) ≡ kind_of (get_or xs j None)
watched_set [] k j x keep h = refl
watched_set (y ∷ xs) zero zero x keep h = keep h
watched_set (y ∷ xs) zero (suc j) x keep h = refl
watched_set (y ∷ xs) (suc k) zero x keep h = refl
watched_set (y ∷ xs) (suc k) (suc j) x keep h = watched_set xs k j x keep h

watched_is_some : (o : Option Object) → can_be_watched o ≡ true → is_some o ≡ true
watched_is_some None h = cc
watched_is_some (Some x) h = refl

watched_lives : (f : Files) (p : Option Place) → can_be_watched (object_at f p) ≡ true → is_some p ≡ true
watched_lives f None h = cc
watched_lives f (Some p) h = refl

-- what is named in one of two lists
pub among_either : (xs ys : List ℕ) (d : ℕ) → is_among (xs ++ ys) d ≡ true → (is_among xs d ≡ true) ⊎ (is_among ys d ≡ true)
among_either xs ys d h = or_cases (is_among xs d) (is_among ys d) (sym (among_append xs ys d) ∙ h)

pub among_first : (xs ys : List ℕ) (d : ℕ) → is_among xs d ≡ true → is_among (xs ++ ys) d ≡ true
among_first xs ys d h = among_append xs ys d ∙ or_left (is_among xs d) (is_among ys d) h

pub among_second : (xs ys : List ℕ) (d : ℕ) → is_among ys d ≡ true → is_among (xs ++ ys) d ≡ true
among_second xs ys d h = among_append xs ys d ∙ or_right (is_among xs d) (is_among ys d) h

-- what each waiter waits at is named
pub among_waits : (ws : List Waiter) (k : ℕ) (w : Waiter) → k < length ws → is_among (map (λ v. v.instance) ws) (get_or ws k w).instance ≡ true
among_waits [] k w lt = absurd (omega (arith, lt))
among_waits (v ∷ ws) zero w lt = or_left _ _ (same_nat v.instance)
among_waits (v ∷ ws) (suc k) w lt = or_right _ _ (among_waits ws k w (omega (arith, lt)))

-- an instance stays one
pub instance_stays : (f g : Files) → Extends f g → (e : ℕ) → kind_of (object_of f e) ≡ 1 → kind_of (object_of g e) ≡ 1
instance_stays f g x e one = x.shows e (ap (nat_lt 0) one) ∙ one

-- A new object.
pub extends_new_object : (f : Files) (x : Object) → Extends f (new_object f x)
extends_new_object f x = record { lives = λ d e. e; shows = λ d e. shows_at (place_of f d) e } where
  shows_at : (p : Option Place) → can_be_watched (object_at f p) ≡ true → kind_of (object_at (new_object f x) p) ≡ kind_of (object_at f p)
  shows_at None e = refl
  shows_at (Some p) e = ap kind_of (some_append f.objects (Some x ∷ []) p.object (watched_is_some _ e))

pub filed_new_object : (f : Files) (x : Object) → Filed f → Filed (new_object f x)
filed_new_object f x h = record { placed = λ d. placed_at (place_of f d) (h.placed d); lives = h.lives } where
  placed_at : (p : Option Place) → is_backed f p ≡ true → is_backed (new_object f x) p ≡ true
  placed_at None e = e
  placed_at (Some p) e = ap is_some (some_append f.objects (Some x ∷ []) p.object e) ∙ e

-- A description of an object that is there.
pub extends_describe : (f : Files) (p k : ℕ) (e : End) (cloexec : Bool) → Extends f (describe f p k e cloexec)
extends_describe f p k e cloexec =
    let new : List (Option Place) = Some (record { object = k; side = e }) ∷ [] in
    record {
      lives = λ d h. ap is_some (some_append f.descriptions new d h) ∙ h;
      shows = λ d h. ap (λ (q : Option Place). kind_of (object_at f q)) (some_append f.descriptions new d (watched_lives f (place_of f d) h));
    }

push_other : (ds : List (Option Place)) (p : Option Place) (d : ℕ) → d ≢ length ds → get_or (ds ++ p ∷ []) d None ≡ get_or ds d None
push_other [] p zero h = absurd (h refl)
push_other [] p (suc d) h = refl
push_other (q ∷ ds) p zero h = refl
push_other (q ∷ ds) p (suc d) h = push_other ds p d (λ e. h (ap suc e))

pub filed_describe : (f : Files) (p k : ℕ) (e : End) (cloexec : Bool) → is_none (table_of f p) ≡ false → is_some (get_or f.objects k None) ≡ true → Filed f → Filed (describe f p k e cloexec)
filed_describe f p k e cloexec there object h =
    let n = length f.descriptions in
    let place : Place = record { object = k; side = e } in
    let here : is_live (describe f p k e cloexec) n ≡ true = ap is_some (some_push f.descriptions place) in
    record {
      placed = λ d. elim (same_or_not d n) [
        | inl same ↦ subst (λ (m : ℕ). is_backed f (get_or (f.descriptions ++ Some place ∷ []) m None) ≡ true) (sym same) (ap (is_backed f) (some_push f.descriptions place) ∙ object)
        | inr other ↦ ap (is_backed f) (push_other f.descriptions (Some place) d other) ∙ h.placed d
      ];
      lives = λ d named. elim (or_cases _ _ (sym (among_set f.tables p (slot n cloexec) d there) ∙ named)) [
        | inl before ↦ ap is_some (some_append f.descriptions (Some place ∷ []) d (h.lives d before)) ∙ h.lives d before
        | inr new ↦ subst (λ (m : ℕ). is_live (describe f p k e cloexec) m ≡ true) (sym (from_test d n new)) here
      ];
    }

table_after : (ts : List (Option Table)) (p : ℕ) (t : Table) → is_none (get_or ts p None) ≡ false → is_none (get_or (set ts p (Some t)) p None) ≡ false
table_after [] p t h = h
table_after (u ∷ ts) zero t h = refl
table_after (u ∷ ts) (suc p) t h = table_after ts p t h

-- The two creations.
pub extends_one : (f : Files) (p : ℕ) (x : Object) (cloexec : Bool) → Extends f (create_one f p x cloexec)
extends_one f p x cloexec = extends_trans f (new_object f x) (create_one f p x cloexec) (extends_new_object f x) (extends_describe (new_object f x) p (length f.objects) _ cloexec)

pub filed_one : (f : Files) (p : ℕ) (x : Object) (cloexec : Bool) → is_none (table_of f p) ≡ false → Filed f → Filed (create_one f p x cloexec)
filed_one f p x cloexec there h = filed_describe (new_object f x) p (length f.objects) _ cloexec there (ap is_some (some_push f.objects x)) (filed_new_object f x h)

pub extends_two : (f : Files) (p : ℕ) (x : Object) (cloexec : Bool) → Extends f (create_two f p x cloexec)
extends_two f p x cloexec = extends_trans f (create_one f p x cloexec) (create_two f p x cloexec) (extends_one f p x cloexec) (extends_describe (create_one f p x cloexec) p (length f.objects) _ cloexec)

pub filed_two : (f : Files) (p : ℕ) (x : Object) (cloexec : Bool) → is_none (table_of f p) ≡ false → Filed f → Filed (create_two f p x cloexec)
filed_two f p x cloexec there h = filed_describe (create_one f p x cloexec) p (length f.objects) _ cloexec (table_after f.tables p _ there) (ap is_some (some_push f.objects x)) (filed_one f p x cloexec there h)

-- Another object in the place of one.
pub extends_with_object : (f : Files) (k : ℕ) (x : Object) → (can_be_watched (get_or f.objects k None) ≡ true → kind_of (Some x) ≡ kind_of (get_or f.objects k None)) → Extends f (with_object f k x)
extends_with_object f k x keep = record { lives = λ d e. e; shows = λ d e. shows_at (place_of f d) e } where
  shows_at : (p : Option Place) → can_be_watched (object_at f p) ≡ true → kind_of (object_at (with_object f k x) p) ≡ kind_of (object_at f p)
  shows_at None e = refl
  shows_at (Some p) e = watched_set f.objects k p.object x keep e

pub filed_with_object : (f : Files) (k : ℕ) (x : Object) → Filed f → Filed (with_object f k x)
filed_with_object f k x h = record { placed = λ d. placed_at (place_of f d) (h.placed d); lives = h.lives } where
  placed_at : (p : Option Place) → is_backed f p ≡ true → is_backed (with_object f k x) p ≡ true
  placed_at None e = e
  placed_at (Some p) e = some_set f.objects k p.object x e

-- What connections change of objects that others have.
abbrev content : Files → ℕ → Object
content f k = unwrap_or (get_or f.objects k None) plain

-- what connects or listens can be watched, and so can what waits
shows_two : (o : Option Object) → is_plain (unwrap_or o plain) ≡ false → kind_number (unwrap_or o plain) ≡ 6 → kind_of o ≡ 2
shows_two None shown is = absurd (false≢true (sym shown))
shows_two (Some x) shown is = kind_of_number x 6 is

waiting_shows : (x : Object) → is_waiting x ≡ true → kind_of (Some x) ≡ 2
waiting_shows x w = kind_of_number x 2 (waiting_kind x w)

accepted_shows : (x : Object) → is_waiting x ≡ true → kind_of (Some (accepted x)) ≡ 2
accepted_shows x w = kind_of_number (accepted x) 2 (accepted_kind x ∙ waiting_kind x w)

waits_there : (o : Option Object) → is_waiting (unwrap_or o plain) ≡ true → kind_of o ≡ 2
waits_there None w = absurd (false≢true w)
waits_there (Some x) w = waiting_shows x w

-- One that waits is let go.
module _ (f : Files) (k : ℕ) (waits : is_waiting (content f k) ≡ true) where
  abbrev shut : Object
  shut = (close_end (content f k) Second).0

  abbrev left : Files
  left = record f { objects = set f.objects k (kept_object f k shut) }

  kept : (d : ℕ) (p : Place) → place_of f d ≡ Some p → p.object ≡ k → kept_object f k shut ≡ Some shut
  kept d p here at = ap (λ (b : Bool). if b || is_waiting shut then Some shut else None) (has_here k 0 d f.descriptions p here at)

  there : kind_of (get_or f.objects k None) ≡ 2
  there = waits_there (get_or f.objects k None) waits

  shut_kind : kind_of (Some shut) ≡ 2
  shut_kind = closed_kind (content f k) Second ∙ waiting_shows (content f k) waits

  same_kind_there : (d : ℕ) (p : Place) → place_of f d ≡ Some p → kind_of (get_or (set f.objects k (kept_object f k shut)) p.object None) ≡ kind_of (get_or f.objects p.object None)
  same_kind_there d p here = elim (same_or_not p.object k) [
    | inl at ↦
        ap (λ (q : Option Object). kind_of (get_or (set f.objects k q) p.object None)) (kept d p here at)
        ∙ watched_set f.objects k p.object shut (λ w. shut_kind ∙ sym there) (ap (λ (j : ℕ). can_be_watched (get_or f.objects j None)) at ∙ ap (nat_lt 0) there)
    | inr other ↦ ap kind_of (get_other f.objects k p.object (kept_object f k shut) (λ e. other (sym e)))
  ]

  backed_there : (d : ℕ) (p : Place) → place_of f d ≡ Some p → is_some (get_or f.objects p.object None) ≡ true → is_some (get_or (set f.objects k (kept_object f k shut)) p.object None) ≡ true
  backed_there d p here h = elim (same_or_not p.object k) [
    | inl at ↦ ap (λ (q : Option Object). is_some (get_or (set f.objects k q) p.object None)) (kept d p here at) ∙ some_set f.objects k p.object shut h
    | inr other ↦ ap is_some (get_other f.objects k p.object (kept_object f k shut) (λ e. other (sym e))) ∙ h
  ]

  waiting_extends : Extends f left
  waiting_extends = record { lives = λ d e. e; shows = λ d e. at d (place_of f d) refl } where
    at : (d : ℕ) (o : Option Place) → place_of f d ≡ o → kind_of (object_of left d) ≡ kind_of (object_of f d)
    at d None is = ap (λ (o : Option Place). kind_of (object_at left o)) is ∙ sym (ap (λ (o : Option Place). kind_of (object_at f o)) is)
    at d (Some p) is = ap (λ (o : Option Place). kind_of (object_at left o)) is ∙ (same_kind_there d p is ∙ sym (ap (λ (o : Option Place). kind_of (object_at f o)) is))

  waiting_filed : Filed f → Filed left
  waiting_filed h = record { placed = λ d. at d (place_of f d) refl (h.placed d); lives = h.lives } where
    at : (d : ℕ) (o : Option Place) → place_of f d ≡ o → is_backed f (place_of f d) ≡ true → is_backed left (place_of f d) ≡ true
    at d None is e = ap (is_backed left) is
    at d (Some p) is e = ap (is_backed left) is ∙ backed_there d p is (sym (ap (is_backed f) is) ∙ e)

-- the files afterwards
record Grows (f g : Files) : Type 0 where
  pub extends : Extends f g
  pub filed : Filed f → Filed g

grows_self : (f : Files) → Grows f f
grows_self f = record { extends = record { lives = λ d e. e; shows = λ d e. refl }; filed = λ h. h }

grows_go : (f : Files) (raised : List (ℕ × ℕ)) (k : ℕ) → Grows f (let_go (f, raised) k).0
grows_go f raised k =
    by_test (λ (now : Files × List (ℕ × ℕ)). Grows f now.0) (is_waiting (content f k)) _ (f, raised)
    (λ waits. record { extends = waiting_extends f k waits; filed = waiting_filed f k waits }) (λ waits. grows_self f)

grows_all_go : (f : Files) (raised : List (ℕ × ℕ)) (ks : List ℕ) → Grows f (let_all_go (f, raised) ks).0
grows_all_go f raised [] = grows_self f
grows_all_go f raised (k ∷ ks) =
    let one = grows_go f raised k in
    let next = let_go (f, raised) k in
    let rest = grows_all_go next.0 next.1 ks in
    record { extends = extends_trans f next.0 (let_all_go next ks).0 one.extends rest.extends; filed = λ h. rest.filed (one.filed h) }

pub extends_abandoned : (f : Files) → Extends f (without_abandoned f).0
extends_abandoned f = (grows_all_go f [] (abandoned f)).extends

pub filed_abandoned : (f : Files) → Filed f → Filed (without_abandoned f).0
filed_abandoned f h = (grows_all_go f [] (abandoned f)).filed h

-- One is accepted.
module _ (f : Files) (m k : ℕ) (waits : is_waiting (content f k) ≡ true) where
  abbrev listens : Object
  listens = without_pending k (content f m)

  abbrev without : Files
  without = with_object f m listens

  abbrev taken : Files
  taken = with_object without k (accepted (content f k))

  keeps_listener : can_be_watched (get_or f.objects m None) ≡ true → kind_of (Some listens) ≡ kind_of (get_or f.objects m None)
  keeps_listener = at (get_or f.objects m None) where
    at : (o : Option Object) → can_be_watched o ≡ true → kind_of (Some (without_pending k (unwrap_or o plain))) ≡ kind_of o
    at None w = absurd (false≢true w)
    at (Some x) w = same_kind x (without_pending k x) (without_kind k x)

  two_there : kind_of (get_or f.objects k None) ≡ 2
  two_there = waits_there (get_or f.objects k None) waits

  two_without : kind_of (get_or without.objects k None) ≡ 2
  two_without = watched_set f.objects m k listens keeps_listener (ap (nat_lt 0) two_there) ∙ two_there

  taken_extends : Extends f taken
  taken_extends =
      extends_trans f without taken (extends_with_object f m listens keeps_listener)
      (extends_with_object without k (accepted (content f k)) (λ w. accepted_shows (content f k) waits ∙ sym two_without))

  taken_there : is_some (get_or taken.objects k None) ≡ true
  taken_there = some_set without.objects k k (accepted (content f k)) (some_set f.objects m k listens (watched_is_some _ (ap (nat_lt 0) two_there)))

  pub extends_accept : (p : ℕ) (cloexec : Bool) → Extends f (accept f p m (Some k) cloexec)
  extends_accept p cloexec = extends_trans f taken (accept f p m (Some k) cloexec) taken_extends (extends_describe taken p k Second cloexec)

  pub filed_accept : (p : ℕ) (cloexec : Bool) → is_none (table_of f p) ≡ false → Filed f → Filed (accept f p m (Some k) cloexec)
  filed_accept p cloexec there h =
      filed_describe taken p k Second cloexec there taken_there (filed_with_object without k (accepted (content f k)) (filed_with_object f m listens h))

-- One joins who listens.
module _ (capacity : ℕ) (f : Files) (k m : ℕ) (x : Idle) (l : Listener) (name : Name) (is_idle : IsIdle (content f k) x) (is : IsListener (content f m) l) where
  abbrev made_pair : Object
  made_pair = connection capacity x name

  abbrev connected : Files
  connected = with_object f k made_pair

  idle_there : can_be_watched (get_or f.objects k None) ≡ true → kind_of (Some made_pair) ≡ kind_of (get_or f.objects k None)
  idle_there w = sym (shows_two (get_or f.objects k None) (idle_plain (content f k) x is_idle) (idle_kind (content f k) x is_idle))

  listener_there : kind_of (get_or f.objects m None) ≡ 2
  listener_there = shows_two (get_or f.objects m None) (listener_plain (content f m) l is) (listener_kind (content f m) l is)

  listener_still : kind_of (get_or connected.objects m None) ≡ 2
  listener_still = watched_set f.objects k m made_pair idle_there (ap (nat_lt 0) listener_there) ∙ listener_there

  pub extends_join : Extends f (join capacity f k x name m).0
  extends_join =
      extends_trans f connected (join capacity f k x name m).0 (extends_with_object f k made_pair idle_there)
      (extends_with_object connected m (with_pending k (content f m)) (λ w. kind_of_number (with_pending k (content f m)) 6 (pending_kind k (content f m) ∙ listener_kind (content f m) l is) ∙ sym listener_still))

  pub filed_join : Filed f → Filed (join capacity f k x name m).0
  filed_join h = filed_with_object connected m (with_pending k (content f m)) (filed_with_object f k made_pair h)

-- What a descriptor number names lives.
pub named_lives : (f : Files) (p : ℕ) (fd : ℤ) → Filed f → names_nothing f p fd ≡ false → is_live f (named_by f p fd) ≡ true
named_lives f p fd h there = h.lives (named_by f p fd) (named_table f.tables p fd there)

-- Another table in the place of one: what it names is named before, or lives.
in_first : (t : Option Table) (ts : List (Option Table)) (d : ℕ) → is_among (named_in t) d ≡ true → is_among (named_in_tables (t ∷ ts)) d ≡ true
in_first t ts d h = among_append (named_in t) (named_in_tables ts) d ∙ or_left (is_among (named_in t) d) (is_among (named_in_tables ts) d) h

in_others : (t : Option Table) (ts : List (Option Table)) (d : ℕ) → is_among (named_in_tables ts) d ≡ true → is_among (named_in_tables (t ∷ ts)) d ≡ true
in_others t ts d h = among_append (named_in t) (named_in_tables ts) d ∙ or_right (is_among (named_in t) d) (is_among (named_in_tables ts) d) h

in_either : (t : Option Table) (ts : List (Option Table)) (d : ℕ) → is_among (named_in_tables (t ∷ ts)) d ≡ true → (is_among (named_in t) d ≡ true) ⊎ (is_among (named_in_tables ts) d ≡ true)
in_either t ts d h = or_cases (is_among (named_in t) d) (is_among (named_in_tables ts) d) (sym (among_append (named_in t) (named_in_tables ts) d) ∙ h)

among_set_any : (ts : List (Option Table)) (p : ℕ) (u : Option Table) (d : ℕ) → is_among (named_in_tables (set ts p u)) d ≡ true → (is_among (named_in_tables ts) d ≡ true) ⊎ (is_among (named_in u) d ≡ true)
among_set_any [] p u d h = inl h
among_set_any (t ∷ ts) zero u d h = elim (in_either u ts d h) [ inl new ↦ inr new | inr old ↦ inl (in_others t ts d old) ]
among_set_any (t ∷ ts) (suc p) u d h = elim (in_either t (set ts p u) d h) [
  | inl first ↦ inl (in_first t ts d first)
  | inr rest ↦ elim (among_set_any ts p u d rest) [ inl old ↦ inl (in_others t ts d old) | inr new ↦ inr new ]
]

pub filed_table : (f : Files) (p : ℕ) (u : Option Table) → Filed f → ((d : ℕ) → is_among (named_in u) d ≡ true → is_live f d ≡ true) → Filed (record f { tables = set f.tables p u })
filed_table f p u h new = record {
  placed = h.placed;
  lives = λ d named. elim (among_set_any f.tables p u d named) [ inl old ↦ h.lives d old | inr e ↦ new d e ];
}

-- the names of a process are among all names
in_numbers : (ts : List (Option Table)) (p d : ℕ) → is_among (filter_map description_in (unwrap_or (get_or ts p None) [])) d ≡ true → is_among (named_in_tables ts) d ≡ true
in_numbers [] p d h = h
in_numbers (None ∷ ts) zero d h = absurd (false≢true h)
in_numbers (Some t ∷ ts) zero d h = among_append (named_in (Some t)) (named_in_tables ts) d ∙ or_left _ _ h
in_numbers (u ∷ ts) (suc p) d h = among_append (named_in u) (named_in_tables ts) d ∙ or_right _ _ (in_numbers ts p d h)

pub numbers_live : (f : Files) (p : ℕ) → Filed f → (d : ℕ) → is_among (filter_map description_in (numbers_of f p)) d ≡ true → is_live f d ≡ true
numbers_live f p h d e = h.lives d (in_numbers f.tables p d e)

-- What the tables of each call name.
pub among_entered : (t : Table) (x : Slot) (d : ℕ) → is_among (filter_map description_in (enter t x)) d ≡ true → (is_among (filter_map description_in t) d ≡ true) ⊎ (d ≡ x.description)
among_entered t x d h = elim (or_cases _ _ (sym (among_enter t x d) ∙ h)) [ inl old ↦ inl old | inr new ↦ inr (from_test d x.description new) ]

among_more : (y : Option Slot) (ys : Table) (d : ℕ) → is_among (filter_map description_in ys) d ≡ true → is_among (filter_map description_in (y ∷ ys)) d ≡ true
among_more None ys d h = h
among_more (Some z) ys d h = or_right _ _ h

pub among_placed : (t : Table) (k : ℕ) (x : Slot) (d : ℕ) → is_among (filter_map description_in (place_at t k x)) d ≡ true → (is_among (filter_map description_in t) d ≡ true) ⊎ (d ≡ x.description)
among_placed [] zero x d h = elim (or_cases (d == x.description) false h) [ inl new ↦ inr (from_test d x.description new) | inr none ↦ absurd (false≢true none) ]
among_placed [] (suc k) x d h = among_placed [] k x d h
among_placed (y ∷ ys) zero x d h = elim (or_cases (d == x.description) (is_among (filter_map description_in ys) d) h) [ inl new ↦ inr (from_test d x.description new) | inr old ↦ inl (among_more y ys d old) ]
among_placed (None ∷ ys) (suc k) x d h = among_placed ys k x d h
among_placed (Some z ∷ ys) (suc k) x d h = elim (or_cases (d == z.description) (is_among (filter_map description_in (place_at ys k x)) d) h) [
  | inl first ↦ inl (or_left _ _ first)
  | inr rest ↦ elim (among_placed ys k x d rest) [ inl old ↦ inl (or_right _ _ old) | inr new ↦ inr new ]
]

pub among_unset : (t : Table) (k d : ℕ) → is_among (filter_map description_in (set t k None)) d ≡ true → is_among (filter_map description_in t) d ≡ true
among_unset [] k d h = h
among_unset (y ∷ ys) zero d h = among_more y ys d h
among_unset (None ∷ ys) (suc k) d h = among_unset ys k d h
among_unset (Some z ∷ ys) (suc k) d h = elim (or_cases (d == z.description) (is_among (filter_map description_in (set ys k None)) d) h) [ inl first ↦ or_left _ _ first | inr rest ↦ or_right _ _ (among_unset ys k d rest) ]

pub among_kept : (t : Table) (d : ℕ) → is_among (filter_map description_in (map kept_by_exec t)) d ≡ true → is_among (filter_map description_in t) d ≡ true
among_kept [] d h = h
among_kept (None ∷ ys) d h = among_kept ys d h
among_kept (Some z ∷ ys) d h = of_flag z.cloexec (λ e. among_kept ys d e) h where
  of_flag : (b : Bool) → (is_among (filter_map description_in (map kept_by_exec ys)) d ≡ true → is_among (filter_map description_in ys) d ≡ true)
      → is_among (filter_map description_in ((if b then None else Some z) ∷ map kept_by_exec ys)) d ≡ true → is_among (filter_map description_in (Some z ∷ ys)) d ≡ true
  of_flag true rest e = among_more (Some z) ys d (rest e)
  of_flag false rest e = elim (or_cases (d == z.description) (is_among (filter_map description_in (map kept_by_exec ys)) d) e) [
    | inl first ↦ or_left (d == z.description) (is_among (filter_map description_in ys) d) first
    | inr more ↦ among_more (Some z) ys d (rest more)
  ]

among_last : (ts : List (Option Table)) (u : Option Table) (d : ℕ) → is_among (named_in_tables (ts ++ u ∷ [])) d ≡ true → (is_among (named_in_tables ts) d ≡ true) ⊎ (is_among (named_in u) d ≡ true)
among_last [] u d h = elim (in_either u [] d h) [ inl new ↦ inr new | inr none ↦ absurd (false≢true none) ]
among_last (t ∷ ts) u d h = elim (in_either t (ts ++ u ∷ []) d h) [
  | inl first ↦ inl (in_first t ts d first)
  | inr rest ↦ elim (among_last ts u d rest) [ inl old ↦ inl (in_others t ts d old) | inr new ↦ inr new ]
]

-- The calls on tables alone.
pub same_tables : (f : Files) (ts : List (Option Table)) → Extends f (record f { tables = ts })
same_tables f ts = record { lives = λ d e. e; shows = λ d e. refl }

pub filed_dup : (f : Files) (p d : ℕ) → Filed f → is_live f d ≡ true → Filed (dup f p d)
filed_dup f p d h lives = filed_table f p (Some (enter (numbers_of f p) (slot d false))) h (λ e named. elim (among_entered (numbers_of f p) (slot d false) e named) [
  | inl old ↦ numbers_live f p h e old
  | inr new ↦ subst (λ (m : ℕ). is_live f m ≡ true) (sym new) lives
])

filed_placed : (f : Files) (p k d : ℕ) → Filed f → is_live f d ≡ true → Filed (with_table f p (place_at (numbers_of f p) k (slot d false)))
filed_placed f p k d h lives = filed_table f p (Some (place_at (numbers_of f p) k (slot d false))) h (λ e named. elim (among_placed (numbers_of f p) k (slot d false) e named) [
  | inl old ↦ numbers_live f p h e old
  | inr new ↦ subst (λ (m : ℕ). is_live f m ≡ true) (sym new) lives
])

filed_if : (b : Bool) (f g : Files) → Filed f → Filed g → Filed (if b then f else g)
filed_if true f g h k = h
filed_if false f g h k = k

pub filed_dup2 : (f : Files) (p : ℕ) (fd to : ℤ) (d : ℕ) → Filed f → is_live f d ≡ true → Filed (dup2 f p fd to d)
filed_dup2 f p fd (pos k) d h lives = filed_if (same_number fd (pos k)) f (with_table f p (place_at (numbers_of f p) k (slot d false))) h (filed_placed f p k d h lives)
filed_dup2 f p fd (negsuc k) d h lives = h

extends_if : (b : Bool) (f g : Files) → Extends f g → Extends f (if b then f else g)
extends_if true f g h = record { lives = λ d e. e; shows = λ d e. refl }
extends_if false f g h = h

pub extends_dup2 : (f : Files) (p : ℕ) (fd to : ℤ) (d : ℕ) → Extends f (dup2 f p fd to d)
extends_dup2 f p fd (pos k) d = extends_if (same_number fd (pos k)) f (with_table f p (place_at (numbers_of f p) k (slot d false))) (same_tables f (set f.tables p (Some (place_at (numbers_of f p) k (slot d false)))))
extends_dup2 f p fd (negsuc k) d = record { lives = λ e live. live; shows = λ e shown. refl }

pub filed_close : (f : Files) (p : ℕ) (fd : ℤ) → Filed f → Filed (close f p fd)
filed_close f p (pos k) h = filed_table f p (Some (set (numbers_of f p) k None)) h (λ e named. numbers_live f p h e (among_unset (numbers_of f p) k e named))
filed_close f p (negsuc k) h = filed_table f p (Some (numbers_of f p)) h (λ e named. numbers_live f p h e named)

pub filed_exec : (f : Files) (p : ℕ) → Filed f → Filed (exec f p)
filed_exec f p h = filed_table f p (Some (map kept_by_exec (numbers_of f p))) h (λ e named. numbers_live f p h e (among_kept (numbers_of f p) e named))

pub filed_exit : (f : Files) (p : ℕ) → Filed f → Filed (exit f p)
filed_exit f p h = filed_table f p None h (λ e named. absurd (false≢true named))

pub filed_fork : (f : Files) (p : ℕ) → Filed f → Filed (fork f p)
filed_fork f p h = record {
  placed = h.placed;
  lives = λ d named. elim (among_last f.tables (Some (numbers_of f p)) d named) [ inl old ↦ h.lives d old | inr new ↦ numbers_live f p h d new ];
}

same_thrice : (b : Bool) → (b || (b || (b || false))) ≡ b
same_thrice true = refl
same_thrice false = refl

only_zero : (d : ℕ) → (d == 0) ≡ is_live opening_files d
only_zero zero = refl
only_zero (suc d) = suc_is_not_zero d

pub named_opening : (d : ℕ) → is_among (named_in_tables opening_files.tables) d ≡ is_live opening_files d
named_opening d = same_thrice (d == 0) ∙ only_zero d

pub filed_opening : Filed opening_files
filed_opening = record { placed = backed; lives = λ d e. sym (named_opening d) ∙ e } where
  backed : (d : ℕ) → is_backed opening_files (place_of opening_files d) ≡ true
  backed zero = refl
  backed (suc d) = refl
