-- The first connection that waits at a listener, and the listener without it.
use Rattle.std.proofs.Common.{Bool, List, None, Option, Some, [], ap, arith, drop, false, filter, if◌then◌else◌, inl, inr, not, get_or, IsSome, is_some, length, refl, slice_get, slice_set, subst, suc, sym, unwrap_or, true, zero, ℕ, ◌&&◌, ◌+◌, ◌<◌, ◌==◌, ◌∙◌, ◌∷◌, ◌≡◌, ◌≢◌, ◌||◌, cond}
use Rattle.std.specs.List.{remove}
use Rattle.std.proofs.lemmas.Bool.{cases_Bool, false≢true}
use Rattle.ep_facts.proofs.BoolFacts.{first_of_and, first_of_or as first_false, from_not, or_left, or_right, second_of_and, second_of_or as rest_false}
use Rattle.ep_facts.proofs.NatFacts.{below_or, same_nat, test_apart, test_turned}
use Rattle.std.proofs.lemmas.List.{get_or-set_other, get_or_past}
use Rattle.std.proofs.Math.ListN.{get_or-append}
use Rattle.std.proofs.lemmas.Option.{none-some}
use Rattle.ep_base.specs.declared.ids.DescId.{DescId}
use Rattle.ep_facts.proofs.OptionFacts.{number_of as some_is}
use Rattle.ep_table.proofs.DoesLemmas.{keeps_gained}
use Rattle.ep_table.proofs.LetGoLemmas.{waiting_pends_none}
use Rattle.ep_table.specs.Accepting.{Accepts, Describes}
use Rattle.ep_table.specs.Value.{Things, content_of, files_in, number_at, thing_number, unwrapped}
use Rattle.ep_machine.specs.Connections.{accepted, first_waiting, pending_in, without_pending}
use Rattle.ep_machine.specs.Files.{Files, Place, content_at, object_at, object_number, place_of}
use Rattle.ep_machine.specs.Lists.{are_distinct, is_among}
use Rattle.ep_machine.specs.Objects.{Object, is_waiting, listener, plain}
use Rattle.ep_object.proofs.NamingLemmas.{removed_name}
use Rattle.ep_object.proofs.PendingLemmas.{removed_waits}
use Rattle.ep_object.specs.Connecting.{without_nth}
use Rattle.ep_object.specs.Kinds.{kind_number}
use Rattle.ep_table.proofs.ConnectedLemmas.{Follows}
use Rattle.ep_table.specs.declared.words.Shared.{Shared}

-- One that is next, and the others.
pub drop_next : {X : Type 0} (xs : List X) (i : ℕ) (x : X) → slice_get xs i ≡ Some x → drop i xs ≡ x ∷ drop (i + 1) xs
drop_next [] i x h = cc
drop_next {X} (y ∷ xs) zero x h = let e : y ≡ x = cc in ap (λ (z : X). z ∷ xs) e
drop_next {X} (y ∷ xs) (suc i) x h =
    let e : suc i + 1 ≡ suc (i + 1) = omega arith in
    drop_next xs i x h ∙ ap (λ (n : ℕ). x ∷ drop n (y ∷ xs)) (sym e)

pub drop_past : {X : Type 0} (xs : List X) (i : ℕ) → slice_get xs i ≡ None → drop i xs ≡ []
drop_past [] zero h = refl
drop_past [] (suc i) h = refl
drop_past (y ∷ xs) zero h = cc
drop_past (y ∷ xs) (suc i) h = drop_past xs i h

module _ (s : Files) (ks : List ℕ) (i n : ℕ) (so_far : first_waiting s ks ≡ first_waiting s (drop i ks)) (at : slice_get ks i ≡ Some n) where
  pub found_here : is_waiting (content_at s n) ≡ true → first_waiting s ks ≡ Some n
  found_here h = so_far ∙ (ap (first_waiting s) (drop_next ks i n at) ∙ ap (λ (b : Bool). if b then Some n else first_waiting s (drop (i + 1) ks)) h)

  pub not_here : is_waiting (content_at s n) ≡ false → first_waiting s ks ≡ first_waiting s (drop (i + 1) ks)
  not_here h = so_far ∙ (ap (first_waiting s) (drop_next ks i n at) ∙ ap (λ (b : Bool). if b then Some n else first_waiting s (drop (i + 1) ks)) h)

-- The one that is removed is the one that is filtered out, where no two are the same.
none_filtered : (n : ℕ) (ks : List ℕ) → is_among ks n ≡ false → filter (λ j. not (j == n)) ks ≡ ks
none_filtered n [] h = refl
none_filtered n (k ∷ ks) h =
    let first : (k == n) ≡ false = test_turned k n ∙ first_false (n == k) (is_among ks n) h in
    ap (λ (b : Bool). cond (not b) (k ∷ filter (λ j. not (j == n)) ks) (filter (λ j. not (j == n)) ks)) first
    ∙ ap (λ (r : List ℕ). k ∷ r) (none_filtered n ks (rest_false (n == k) (is_among ks n) h))

among_at : (ks : List ℕ) (i n : ℕ) → slice_get ks i ≡ Some n → is_among ks n ≡ true
among_at [] i n h = cc
among_at (k ∷ ks) zero n h = let e : k ≡ n = cc in or_left (n == k) (is_among ks n) (ap (λ (j : ℕ). n == j) e ∙ same_nat n)
among_at (k ∷ ks) (suc i) n h = or_right (n == k) (is_among ks n) (among_at ks i n h)

pub removed_is : (ks : List ℕ) (i n : ℕ) → are_distinct ks ≡ true → slice_get ks i ≡ Some n → remove ks i ≡ filter (λ j. not (j == n)) ks
removed_is [] i n d h = cc
removed_is (k ∷ ks) zero n d h =
    let e : k ≡ n = cc in
    let none : is_among ks n ≡ false = ap (is_among ks) (sym e) ∙ from_not (is_among ks k) (first_of_and (not (is_among ks k)) (are_distinct ks) d) in
    sym (ap (λ (b : Bool). cond (not b) (k ∷ filter (λ j. not (j == n)) ks) (filter (λ j. not (j == n)) ks)) (ap (λ (j : ℕ). j == n) e ∙ same_nat n) ∙ none_filtered n ks none)
removed_is (k ∷ ks) (suc i) n d h =
    let rest = second_of_and (not (is_among ks k)) (are_distinct ks) d in
    let apart : k ≢ n = λ e. false≢true (sym (from_not (is_among ks k) (first_of_and (not (is_among ks k)) (are_distinct ks) d)) ∙ (ap (is_among ks) e ∙ among_at ks i n h)) in
    ap (λ (r : List ℕ). k ∷ r) (removed_is ks i n rest h)
    ∙ sym (ap (λ (b : Bool). cond (not b) (k ∷ filter (λ j. not (j == n)) ks) (filter (λ j. not (j == n)) ks)) (test_apart k n apart))

pub without_is : (x : Object) (i n : ℕ) → are_distinct (pending_in x) ≡ true → slice_get (pending_in x) i ≡ Some n → without_nth i x ≡ without_pending n x
without_is (listener l) i n d h = ap (λ (ks : List ℕ). listener (record l { pending = ks })) (removed_is l.pending i n d h)
without_is plain i n d h = refl
without_is x i n d h = refl

-- What is left was there, and still no two are the same.
pub remove_among : (ks : List ℕ) (i n : ℕ) → is_among (remove ks i) n ≡ true → is_among ks n ≡ true
remove_among [] zero n h = h
remove_among [] (suc i) n h = h
remove_among (k ∷ ks) zero n h = or_right (n == k) (is_among ks n) h
remove_among (k ∷ ks) (suc i) n h = elim (cases_Bool (n == k)) [
  | inl here ↦ or_left (n == k) (is_among ks n) here
  | inr off ↦ or_right (n == k) (is_among ks n) (remove_among ks i n (sym (ap (λ (b : Bool). b || is_among (remove ks i) n) off) ∙ h))
]

pub remove_distinct : (ks : List ℕ) (i : ℕ) → are_distinct ks ≡ true → are_distinct (remove ks i) ≡ true
remove_distinct [] zero h = h
remove_distinct [] (suc i) h = h
remove_distinct (k ∷ ks) zero h = second_of_and (not (is_among ks k)) (are_distinct ks) h
remove_distinct (k ∷ ks) (suc i) h =
    let none = from_not (is_among ks k) (first_of_and (not (is_among ks k)) (are_distinct ks) h) in
    let rest = remove_distinct ks i (second_of_and (not (is_among ks k)) (are_distinct ks) h) in
    let still : is_among (remove ks i) k ≡ false = elim (cases_Bool (is_among (remove ks i) k)) [ inl yet ↦ absurd (false≢true (sym none ∙ remove_among ks i k yet)) | inr out ↦ out ] in
    (λ j. not (still j) && rest j)

pub without_among : (i : ℕ) (x : Object) (n : ℕ) → is_among (pending_in (without_nth i x)) n ≡ true → is_among (pending_in x) n ≡ true
without_among i (listener l) n h = remove_among l.pending i n h
without_among i plain n h = h
without_among i x n h = h

pub without_distinct : (i : ℕ) (x : Object) → are_distinct (pending_in x) ≡ true → are_distinct (pending_in (without_nth i x)) ≡ true
without_distinct i (listener l) h = remove_distinct l.pending i h
without_distinct i plain h = h
without_distinct i x h = h

-- so the listener follows itself
pub without_follows : (i : ℕ) (s : Shared) → Follows s (record s { object = without_nth i s.object })
without_follows i s = record {
  number = refl;
  kind = without_kind_nth i s.object;
  pending = without_among i s.object;
  distinct = without_distinct i s.object;
  waits = λ w. sym (removed_waits i s.object) ∙ w;
  alone = λ w h. h;
  nameless = λ w h f. removed_name i s.object ∙ h f;
} where
  without_kind_nth : (i : ℕ) (x : Object) → kind_number (without_nth i x) ≡ kind_number x
  without_kind_nth i (listener l) = refl
  without_kind_nth i plain = refl
  without_kind_nth i x = refl

-- What is found waits, and is another object than the listener.
pub first_waits : (s : Files) (ks : List ℕ) (n : ℕ) → first_waiting s ks ≡ Some n → is_waiting (content_at s n) ≡ true
first_waits s [] n h = cc
first_waits s (k ∷ ks) n h = elim (cases_Bool (is_waiting (content_at s k))) [
  | inl here ↦
      let e : Some k ≡ Some n = sym (ap (λ (b : Bool). if b then Some k else first_waiting s ks) here) ∙ h in
      let same : k ≡ n = cc in
      ap (λ (j : ℕ). is_waiting (content_at s j)) (sym same) ∙ here
  | inr off ↦ first_waits s ks n (sym (ap (λ (b : Bool). if b then Some k else first_waiting s ks) off) ∙ h)
]

pub listener_apart : (s : Files) (m n i : ℕ) → is_waiting (content_at s n) ≡ true → slice_get (pending_in (content_at s m)) i ≡ Some n → m ≢ n
listener_apart s m n i waits place e =
    let none = ap (λ (j : ℕ). pending_in (content_at s j)) e ∙ waiting_pends_none (content_at s n) waits in
    let clash : None ≡ Some n = sym (slice_get_none i) ∙ (ap (λ (ks : List ℕ). slice_get ks i) (sym none) ∙ place) in
    none-some n clash where
      slice_get_none : (i : ℕ) → slice_get {X = ℕ} [] i ≡ None
      slice_get_none zero = refl
      slice_get_none (suc i) = refl

-- The listener, once the connection has its description.
module _ (old mid : Things) (number i : ℕ) (listener key : DescId) (live : IsSome (number_at old.keys listener)) (there : IsSome (place_of (files_in old) (thing_number old listener)))
    (waits : is_waiting (content_at (files_in old) number) ≡ true) (place : slice_get (pending_in (content_of (files_in old) (thing_number old listener))) i ≡ Some number) (h : Describes old mid number key) where
  abbrev d : ℕ
  d = thing_number old listener

  number_same : thing_number mid listener ≡ d
  number_same = ap (λ (o : Option ℕ). unwrap_or o 0) (keeps_gained old.keys mid.keys key (length old.descriptions) h.keys listener d (some_is (number_at old.keys listener) live))

  place_same : place_of (files_in mid) d ≡ place_of (files_in old) d
  place_same =
      let within : d < length old.descriptions = elim (below_or d (length old.descriptions)) [
        | inl l ↦ l
        | inr l ↦ absurd (false≢true (sym (ap is_some (get_or_past old.descriptions d None l)) ∙ there))
      ] in
      ap (λ (ds : List (Option Place)). get_or ds d None) h.descriptions ∙ get_or-append old.descriptions _ None d within

  content_same : (o : Option Place) → place_of (files_in old) d ≡ o → unwrapped (object_at (files_in mid) o) ≡ unwrapped (object_at (files_in old) o)
  content_same None e = refl
  content_same (Some p) e =
      let at = ap (λ (o : Option Place). slice_get (pending_in (unwrapped (object_at (files_in old) o))) i) (sym e) ∙ place in
      let apart = listener_apart (files_in old) p.object number i waits at in
      ap (λ (os : List (Option Object)). unwrapped (get_or os p.object None)) h.objects
      ∙ ap unwrapped (get_or-set_other old.objects number p.object (Some (accepted (content_at (files_in old) number))) None apart)

  listener_same : content_of (files_in mid) (thing_number mid listener) ≡ content_of (files_in old) d
  listener_same =
      ap (λ (n : ℕ). content_of (files_in mid) n) number_same
      ∙ (ap (λ (o : Option Place). unwrapped (object_at (files_in mid) o)) place_same
      ∙ content_same (place_of (files_in old) d) refl)

  pub accepts : (new : Things)
      → ((n : ℕ) → slice_get (pending_in (content_of (files_in mid) (thing_number mid listener))) i ≡ Some n
      → new ≡ record mid { objects = slice_set mid.objects (object_number (place_of (files_in mid) (thing_number mid listener))) (Some (without_pending n (content_of (files_in mid) (thing_number mid listener)))) })
      → Accepts old new listener number key
  accepts new left = record {
    middle = mid;
    described = h;
    left =
        left number (ap (λ (x : Object). slice_get (pending_in x) i) listener_same ∙ place)
        ∙ (λ j. record mid { objects = slice_set mid.objects (object_number ((ap (place_of (files_in mid)) number_same ∙ place_same) j)) (Some (without_pending number (listener_same j))) });
  }

  pub listener_lives : IsSome (number_at mid.keys listener)
  listener_lives = subst (λ (o : Option ℕ). IsSome o) (sym (keeps_gained old.keys mid.keys key (length old.descriptions) h.keys listener d (some_is (number_at old.keys listener) live))) refl
