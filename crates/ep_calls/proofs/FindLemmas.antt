-- The registration under a key, by its number.
use Rattle.std.proofs.Common.{◌≡◌, ◌==◌, ◌&&◌, ◌||◌, ◌<◌, ℕ, ℤ, Bool, true, false, not, List, [], ◌∷◌, Option, Some, None, IsSome, All, cond, filter, find, map, refl, ap, sym, ◌∙◌, arith, inl, inr, pos, subst}
use Rattle.std.specs.List.{AllByRecursion, list_any}
use Rattle.std.specs.Ordering.{int_eq}
use Rattle.std.proofs.lemmas.Bool.{cases_Bool, false≢true}
use Rattle.std.proofs.lemmas.Bool.Decides.{Decides-int_eq, nat_tests}
use Rattle.std.proofs.lemmas.List.Elements.{All-cons, All-head, All-tail}
use Rattle.std.proofs.Math.Bool.{or-false}
use Rattle.ep_facts.proofs.NatFacts.{above_test, from_test, same_nat}
use Rattle.ep_facts.proofs.BoolFacts.{same_bools}
use Rattle.ep_facts.proofs.OptionFacts.{some_same}
use Rattle.ep_base.specs.declared.ids.DescId.{DescId}
use Rattle.ep_base.specs.declared.ids.Fd.{Fd}
use Rattle.ep_base.specs.declared.mask.Mask.{Mask}
use Rattle.ep_interest.specs.Registrations.{IsSound, Registrations, RisesFrom, has_key, is_other, modified, numbered}
use Rattle.ep_interest.specs.declared.entry.Entry.{Entry}
use Rattle.ep_view.specs.KernelView.{KernelWatch, is_at, kernel_modified, kernel_watches, kernel_watch}
use Rattle.ep_machine.specs.State.{State, Watch}
use Rattle.ep_machine.specs.Watches.{has_key as has_numbers, modified as modified_watch, number_in}
use Rattle.ep_calls.specs.Control.{is_exclusive_entry}
use Rattle.ep_calls.specs.Stands.{IsLinked, number_at, watch_at}
use Rattle.ep_interest.specs.Exclusive.{is_exclusive}
use Rattle.ep_calls.proofs.RegistrationLemmas.{same_key_test}
use Rattle.ep_table.specs.Value.{Seen, Sound, number_under}

-- two facts about each give a third
both_of : (P Q R : Entry → Type 0) → ((x : Entry) → P x → Q x → R x) → (xs : List Entry) → AllByRecursion P xs → AllByRecursion Q xs → AllByRecursion R xs
both_of P Q R f [] h k = tt
both_of P Q R f (x ∷ xs) h k = (f x h.0 k.0, both_of P Q R f xs h.1 k.1)

above : (m n : ℕ) (xs : List Entry) → m < n → AllByRecursion (λ x. n < x.number) xs → AllByRecursion (λ x. m < x.number) xs
above m n [] lt h = tt
above m n (x ∷ xs) lt h = (omega (arith, lt, h.0), above m n xs lt h.1)

pub rises_above : (m : ℕ) (xs : List Entry) → RisesFrom m xs → AllByRecursion (λ x. m < x.number) xs
rises_above m [] h = tt
rises_above m (x ∷ xs) h = (h.0, above m x.number xs h.0 (rises_above x.number xs h.1))

apart_test : (a b : ℕ) → a < b → (a == b) ≡ false
apart_test a b h = grind (arith, nat_tests, h)

-- each is the one that its number finds
pub each_numbered : (m : ℕ) (xs : List Entry) → RisesFrom m xs → AllByRecursion (λ x. numbered xs x.number ≡ Some x) xs
each_numbered m [] h = tt
each_numbered m (x ∷ xs) h = (
  ap (λ (b : Bool). cond b (Some x) (numbered xs x.number)) (same_nat x.number),
  both_of (λ y. x.number < y.number) (λ y. numbered xs y.number ≡ Some y) (λ y. numbered (x ∷ xs) y.number ≡ Some y)
      (λ y lt is. ap (λ (b : Bool). cond b (Some x) (numbered xs y.number)) (apart_test x.number y.number lt) ∙ is) xs (rises_above x.number xs h.1) (each_numbered x.number xs h.1),
)

-- where some passes a test, one is found
pub found_by_test : (p : Entry → Bool) (xs : List Entry) → list_any p xs ≡ true → (y : Entry) × (find p xs ≡ Some y) × (p y ≡ true)
found_by_test p [] h = absurd (false≢true h)
found_by_test p (x ∷ xs) h = elim (cases_Bool (p x)) [
  | inl e ↦ (x, ap (λ (b : Bool). cond b (Some x) (find p xs)) e, e)
  | inr e ↦
      let rest = found_by_test p xs (ap (λ (b : Bool). b || list_any p xs) (sym e) ∙ h) in (rest.0, ap (λ (b : Bool). cond b (Some x) (find p xs)) e ∙ rest.1, rest.2)
]

and_all : (a b c : Bool) → (a && b && c) ≡ true → (a ≡ true) × (b ≡ true) × (c ≡ true)
and_all true true true h = (refl, refl, refl)
and_all true true false h = absurd (false≢true h)
and_all true false c h = absurd (false≢true h)
and_all false b c h = absurd (false≢true h)

module _ (r : Registrations) (instance : DescId) (fd : Fd) (desc : DescId) (k : ℕ) (sound : IsSound r) (there : list_any (has_key instance fd desc) r.entries ≡ true) (is : numbered r.entries k ≡ find (has_key instance fd desc) r.entries) where
  found : (y : Entry) × (find (has_key instance fd desc) r.entries ≡ Some y) × (has_key instance fd desc y ≡ true)
  found = found_by_test (has_key instance fd desc) r.entries there

  has : (x : Entry) → numbered r.entries x.number ≡ Some x → has_key instance fd desc x ≡ (x.number == k)
  has x own =
      let y = found.0 in
      let at_k : numbered r.entries k ≡ Some y = is ∙ found.1 in
      same_bools (has_key instance fd desc x) (x.number == k)
      (λ e.
      let parts = and_all (x.instance.0 == instance.0) (int_eq x.fd.0 fd.0) (x.desc.0 == desc.0) e in
      let a = from_test x.instance.0 instance.0 parts.0 in
      let b = same_integer x.fd.0 fd.0 parts.1 in
      let c = from_test x.desc.0 desc.0 parts.2 in
      let same : has_key x.instance x.fd x.desc y ≡ true = (λ i. y.instance.0 == a i && int_eq y.fd.0 (b i) && y.desc.0 == c i) ∙ found.2 in
      let n = sound.apart x.number k x y own at_k same in ap (λ (m : ℕ). m == k) n ∙ same_nat k)
      (λ e. let one : x ≡ y = some_same x y (sym own ∙ (ap (numbered r.entries) (from_test x.number k e) ∙ at_k)) in ap (has_key instance fd desc) one ∙ found.2)
    where
      same_integer : (a b : ℤ) → int_eq a b ≡ true → a ≡ b
      same_integer a b e = (Decides-int_eq a b).0 e

  -- the test of the key is the test of the number
  pub has_number : AllByRecursion (λ x. has_key instance fd desc x ≡ (x.number == k)) r.entries
  has_number = each (each_numbered 0 r.entries sound.rises) where
    each : AllByRecursion (λ x. numbered r.entries x.number ≡ Some x) r.entries → AllByRecursion (λ x. has_key instance fd desc x ≡ (x.number == k)) r.entries
    each h = both_of (λ x. numbered r.entries x.number ≡ Some x) (λ x. numbered r.entries x.number ≡ Some x) (λ x. has_key instance fd desc x ≡ (x.number == k)) (λ x a b. has x a) r.entries h h

-- Of a number there is one at most.
none_numbered : (k : ℕ) (q : Entry → Bool) (xs : List Entry) → AllByRecursion (λ x. k < x.number) xs → list_any (λ x. x.number == k && q x) xs ≡ false
none_numbered k q [] h = refl
none_numbered k q (x ∷ xs) h = let rest = none_numbered k q xs h.1 in let other = above_test k x.number h.0 in λ i. other i && q x || rest i

one_numbered : (m k : ℕ) (xs : List Entry) → RisesFrom m xs → list_any (λ x. x.number == k && is_exclusive x) xs ≡ is_exclusive_entry (numbered xs k)
one_numbered m k [] h = refl
one_numbered m k (x ∷ xs) h = elim (cases_Bool (x.number == k)) [
  | inl e ↦
      let none = none_numbered k is_exclusive xs (subst (λ (n : ℕ). AllByRecursion (λ y. n < y.number) xs) (from_test x.number k e) (rises_above x.number xs h.1)) in
      (λ i. e i && is_exclusive x || none i) ∙ (or-false (is_exclusive x) ∙ sym (ap (λ (b : Bool). is_exclusive_entry (cond b (Some x) (numbered xs k))) e))
  | inr e ↦
      let rest = one_numbered x.number k xs h.1 in
      (λ i. e i && is_exclusive x || rest i) ∙ sym (ap (λ (b : Bool). is_exclusive_entry (cond b (Some x) (numbered xs k))) e)
]

-- what has a key is exclusive if the one of its number is
pub exclusive_numbered : (instance : DescId) (fd : Fd) (desc : DescId) (k : ℕ) (xs : List Entry) → AllByRecursion (λ x. has_key instance fd desc x ≡ (x.number == k)) xs → RisesFrom 0 xs
    → list_any (λ x. has_key instance fd desc x && is_exclusive x) xs ≡ is_exclusive_entry (numbered xs k)
exclusive_numbered instance fd desc k xs has rises = by_number xs has ∙ one_numbered 0 k xs rises where
  by_number : (ys : List Entry) → AllByRecursion (λ x. has_key instance fd desc x ≡ (x.number == k)) ys → list_any (λ x. has_key instance fd desc x && is_exclusive x) ys ≡ list_any (λ x. x.number == k && is_exclusive x) ys
  by_number [] h = refl
  by_number (y ∷ ys) h = let one = h.0 in let rest = by_number ys h.1 in λ i. one i && is_exclusive y || rest i

-- The machine's registrations without the one of a key, and with it modified.
module _ (v : Seen) (instance : DescId) (fd : ℤ) (desc : DescId) (k : ℕ) (sound : Sound v) (instance_lives : IsSome (number_under v instance)) (desc_lives : IsSome (number_under v desc)) (descriptor : fd ≡ pos (number_in fd)) where
  abbrev tests : KernelWatch → Bool
  tests = is_at (number_at v.keys instance) (number_in fd) (number_at v.keys desc)

  same : (x : Entry) → IsLinked v.keys x → has_key instance (record { 0 = fd }) desc x ≡ (x.number == k) → tests (watch_at v.keys x) ≡ (x.number == k)
  same x link h = same_key_test v instance desc fd sound instance_lives desc_lives descriptor x link ∙ h

  pub without : (xs : List Entry) → All (IsLinked v.keys) xs → AllByRecursion (λ x. has_key instance (record { 0 = fd }) desc x ≡ (x.number == k)) xs → filter (λ w. not (tests w)) (map (watch_at v.keys) xs) ≡ map (watch_at v.keys) (filter (is_other k) xs)
  without [] linked h = refl
  without (x ∷ xs) linked h =
      let rest = without xs (All-tail (IsLinked v.keys) x xs linked) h.1 in
      let e = same x (All-head (IsLinked v.keys) x xs linked) h.0 in
      (λ i. cond (not (e i)) (watch_at v.keys x ∷ rest i) (rest i))
      ∙ elim (x.number == k) as (λ b. cond (not b) (watch_at v.keys x ∷ map (watch_at v.keys) (filter (is_other k) xs)) (map (watch_at v.keys) (filter (is_other k) xs)) ≡ map (watch_at v.keys) (cond (not b) (x ∷ filter (is_other k) xs) (filter (is_other k) xs))) [
        | true ↦ refl
        | false ↦ refl
      ]

  one_modified : (mask : Mask) (tag : ℕ) (x : Entry) (b : Bool) → cond b (record (watch_at v.keys x) { mask = mask.0; tag = tag; armed = true; fresh = true }) (watch_at v.keys x) ≡ watch_at v.keys (cond b (record x { mask = mask; tag = tag; armed = true; fresh = true }) x)
  one_modified mask tag x true = refl
  one_modified mask tag x false = refl

  pub changed : (mask : Mask) (tag : ℕ) (xs : List Entry) → All (IsLinked v.keys) xs → AllByRecursion (λ x. has_key instance (record { 0 = fd }) desc x ≡ (x.number == k)) xs
      → map (kernel_modified (number_at v.keys instance) (number_in fd) (number_at v.keys desc) mask.0 tag) (map (watch_at v.keys) xs) ≡ map (watch_at v.keys) (map (modified k mask tag) xs)
  changed mask tag [] linked h = refl
  changed mask tag (x ∷ xs) linked h =
      let rest = changed mask tag xs (All-tail (IsLinked v.keys) x xs linked) h.1 in
      let e = same x (All-head (IsLinked v.keys) x xs linked) h.0 in
      let one = (λ i. cond (e i) (record (watch_at v.keys x) { mask = mask.0; tag = tag; armed = true; fresh = true }) (watch_at v.keys x)) ∙ one_modified mask tag x (x.number == k) in
      λ i. one i ∷ rest i

-- what MOD does, by registrations as they are kept
kept_modified : (s : State) (e fd d mask tag : ℕ) (x : Watch) → kernel_watch s (modified_watch e fd d mask tag x) ≡ kernel_modified e fd d mask tag (kernel_watch s x)
kept_modified s e fd d mask tag x =
    elim (has_numbers e fd d x) as (λ b. kernel_watch s (cond b (record x { mask = mask; tag = tag; armed = true; seen = None }) x) ≡ cond b (record (kernel_watch s x) { mask = mask; tag = tag; armed = true; fresh = true }) (kernel_watch s x)) [
      | true ↦ refl
      | false ↦ refl
    ]

pub all_modified : (s : State) (e fd d mask tag : ℕ) (xs : List Watch) → kernel_watches s (map (modified_watch e fd d mask tag) xs) ≡ map (kernel_modified e fd d mask tag) (kernel_watches s xs)
all_modified s e fd d mask tag [] = refl
all_modified s e fd d mask tag (x ∷ xs) = let one = kept_modified s e fd d mask tag x in let rest = all_modified s e fd d mask tag xs in λ i. one i ∷ rest i

-- what is modified stays linked
link_modified : (keys : List (Option ℕ)) (k : ℕ) (mask : Mask) (tag : ℕ) (x : Entry) → IsLinked keys x → IsLinked keys (modified k mask tag x)
link_modified keys k mask tag x h =
    elim (x.number == k) as (λ b. IsLinked keys (cond b (record x { mask = mask; tag = tag; armed = true; fresh = true }) x)) [
      | true ↦ record { instance = h.instance; desc = h.desc; fd = h.fd }
      | false ↦ h
    ]

pub linked_modified : (keys : List (Option ℕ)) (k : ℕ) (mask : Mask) (tag : ℕ) (xs : List Entry) → All (IsLinked keys) xs → All (IsLinked keys) (map (modified k mask tag) xs)
linked_modified keys k mask tag [] h = h
linked_modified keys k mask tag (x ∷ xs) h =
    All-cons (IsLinked keys) (modified k mask tag x) (map (modified k mask tag) xs) (link_modified keys k mask tag x (All-head (IsLinked keys) x xs h)) (linked_modified keys k mask tag xs (All-tail (IsLinked keys) x xs h))
