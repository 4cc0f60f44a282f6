-- What is told of registrations, over the parts of a kernel and in the machine.
use Rattle.std.proofs.Common.{◌≡◌, ◌≤◌, ◌∙◌, ◌+◌, ◌==◌, ◌∷◌, [], All, Bool, Err, IsSome, List, MatchOption, None, Ok, Option, Result, Some, ap, arith, cond, false, filter, find, length, map, refl, slice_set, suc, subst, sym, true, unwrap_or, ℕ, ℤ}
use Rattle.std.specs.Option.{option_map}
use Rattle.std.proofs.lemmas.List.{length-map}
use Rattle.std.proofs.lemmas.List.Elements.{All-head, All-tail}
use Rattle.ep_base.specs.declared.errno.Errno.{Errno}
use Rattle.ep_base.specs.declared.errno.Errno.TheVariants.{Einval}
use Rattle.ep_base.specs.declared.ids.DescId.{DescId}
use Rattle.ep_base.specs.declared.ids.EntryId.{EntryId}
use Rattle.ep_calls.proofs.KeyLemmas.{same_keys}
use Rattle.ep_calls.proofs.ResumeLemmas.{found as waits_found, there as waits_there}
use Rattle.ep_calls.specs.Moves.{StandFor}
use Rattle.ep_calls.specs.Parts.{AreCoherent, Parts}
use Rattle.ep_calls.specs.Readiness.{readiness}
use Rattle.ep_calls.specs.Stands.{IsLinked, number_at, watch_at}
use Rattle.ep_interest.specs.Registrations.{is_of}
use Rattle.ep_interest.specs.declared.entry.Entry.{Entry}
use Rattle.ep_kernel.specs.Asked.{Knows}
use Rattle.ep_kernel.specs.Watches.{IsNamed, Tells, TellsNone, laid_over, refused_with, told, told_at, told_entries, told_entry, told_view}
use Rattle.ep_kernel.specs.declared.asked.Asked.{Asked}
use Rattle.ep_kernel.specs.declared.watches.Watch.{Watch}
use Rattle.ep_machine.specs.Files.{Files, named_by}
use Rattle.ep_machine.specs.State.{State, Waiter, Watch as Registration}
use Rattle.ep_machine.specs.Waits.{waiter_of}
use Rattle.ep_park.specs.Waiters.{is_caller, parked}
use Rattle.ep_park.specs.declared.waiter.Waiter.{Waiter as ParkedWaiter}
use Rattle.ep_table.specs.Value.{Sound as SoundTables, number_under}
use Rattle.ep_view.proofs.KernelViewLemmas.{kept_filter, ready_kept, readiness as machine_readiness}
use Rattle.ep_view.specs.KernelView.{KernelWatch, at_number, kernel_watch, kernel_watches, ready_now}

-- Room that is written in order.

-- each in its place, from place i on; what has no place is let be
abbrev pub put_from : ℕ → List Watch → List Watch → List Watch
put_from i [] room = room
put_from i (x ∷ xs) room = put_from (suc i) xs (slice_set room i x)

put_nowhere : (i : ℕ) (xs : List Watch) → put_from i xs [] ≡ []
put_nowhere i [] = refl
put_nowhere i (x ∷ xs) = put_nowhere (suc i) xs

put_behind : (i : ℕ) (xs : List Watch) (y : Watch) (room : List Watch) → put_from (suc i) xs (y ∷ room) ≡ y ∷ put_from i xs room
put_behind i [] y room = refl
put_behind i (x ∷ xs) y room = put_behind (suc i) xs y (slice_set room i x)

pub put_all : (xs room : List Watch) → put_from 0 xs room ≡ laid_over xs room
put_all [] [] = refl
put_all [] (y ∷ room) = refl
put_all (x ∷ xs) [] = put_nowhere 1 xs
put_all (x ∷ xs) (y ∷ room) = put_behind 0 xs x room ∙ ap (λ (ys : List Watch). x ∷ ys) (put_all xs room)

-- What a loop over the registrations of an instance has told.
pub filter_few : (p : Entry → Bool) (xs : List Entry) → length (filter p xs) ≤ length xs
filter_few p [] = omega arith
filter_few p (x ∷ xs) =
    let rest = filter_few p xs in
    elim (p x) as (λ b. length (cond b (x ∷ filter p xs) (filter p xs)) ≤ suc (length xs)) [ true ↦ omega (arith, rest) | false ↦ omega (arith, rest) ]

abbrev pub entries_of : List (EntryId × Entry) → List Entry
entries_of ps = map (λ p. p.1) ps

pub record Lays (p : Parts) (all : List Entry) (before : List Watch) (asked : Asked) (count : ℕ) (room : List Watch) (rest : List (EntryId × Entry)) : Type 0 where
  pub told : put_from count (map (told_entry (readiness p.tables p.clock p.interest) p.tables p.clock) (entries_of rest)) room
      ≡ put_from 0 (map (told_entry (readiness p.tables p.clock p.interest) p.tables p.clock) all) before
  pub left : count + length rest ≡ length all
  pub linked : All (IsLinked p.tables.keys) (entries_of rest)
  pub knows : Knows p asked

module _ (p : Parts) (all : List Entry) (before : List Watch) where
  abbrev tell : Entry → Watch
  tell x = told_entry (readiness p.tables p.clock p.interest) p.tables p.clock x

  pub lays_first : (asked : Asked) (rest : List (EntryId × Entry)) → entries_of rest ≡ all → All (IsLinked p.tables.keys) all → Knows p asked → Lays p all before asked 0 before rest
  lays_first asked rest is linked knows = record {
    told = ap (λ (xs : List Entry). put_from 0 (map tell xs) before) is;
    left = let same : length rest ≡ length all = sym (length-map rest (λ (q : EntryId × Entry). q.1)) ∙ ap (λ (xs : List Entry). length xs) is in omega (arith, same);
    linked = subst (All (IsLinked p.tables.keys)) (sym is) linked;
    knows = knows;
  }

  module _ (asked : Asked) (count : ℕ) (room : List Watch) (id : EntryId) (x : Entry) (rest : List (EntryId × Entry)) (l : Lays p all before asked count room ((id, x) ∷ rest)) where
    pub first_linked : IsLinked p.tables.keys x
    first_linked = All-head (IsLinked p.tables.keys) x (entries_of rest) l.linked

    pub lays_more : (asked_now : Asked) (room_now : List Watch) (watch : Watch) → watch ≡ tell x → room_now ≡ slice_set room count watch → Knows p asked_now → Lays p all before asked_now (count + 1) room_now rest
    lays_more asked_now room_now watch told_it put_it knows =
        let number : count + 1 ≡ suc count = omega arith in
        let was = l.left in record {
          told = ap (λ (n : ℕ). put_from n (map tell (entries_of rest)) room_now) number
              ∙ ap (λ (ys : List Watch). put_from (suc count) (map tell (entries_of rest)) ys) (put_it ∙ ap (λ (w : Watch). slice_set room count w) told_it)
              ∙ l.told;
          left = omega (arith, was);
          linked = All-tail (IsLinked p.tables.keys) x (entries_of rest) l.linked;
          knows = knows;
        }

  pub lays_all : (asked : Asked) (count : ℕ) (room : List Watch) (rest : List (EntryId × Entry)) → Lays p all before asked count room rest → rest ≡ [] → room ≡ laid_over (map tell all) before
  lays_all asked count room rest l none =
      sym (ap (λ (qs : List (EntryId × Entry)). put_from count (map tell (entries_of qs)) room) none) ∙ (l.told ∙ put_all (map tell all) before)

  pub lays_count : (asked : Asked) (count : ℕ) (room : List Watch) (rest : List (EntryId × Entry)) → Lays p all before asked count room rest → rest ≡ [] → count ≡ length all
  lays_count asked count room rest l none =
      let len : length rest ≡ 0 = ap length none in
      let was = l.left in omega (arith, len, was)

-- In the machine.

-- what is told is told of the registration as it is kept
told_kept : (s : State) (x : Registration) → told s x ≡ told_view (machine_readiness s) s.files s.now (kernel_watch s x)
told_kept s x = λ i. told_view (λ e. ready_kept s e i) s.files s.now (kernel_watch s x)

told_each : (s : State) (xs : List Registration) → map (told s) xs ≡ map (told_view (machine_readiness s) s.files s.now) (kernel_watches s xs)
told_each s [] = refl
told_each s (x ∷ xs) = let one = told_kept s x in let rest = told_each s xs in λ i. one i ∷ rest i

abbrev at_instance : ℕ → KernelWatch → Bool
at_instance e x = x.instance == e

-- over all of a list of registrations as they are kept
abbrev told_views : Files → ℕ → List KernelWatch → ℕ → List Watch
told_views files now xs e = map (told_view (ready_now files now xs) files now) (filter (at_instance e) xs)

told_at_kept : (s : State) (e : ℕ) → told_at s e ≡ told_views s.files s.now (kernel_watches s s.watches) e
told_at_kept s e =
    told_each s (filter (λ x. x.instance == e) s.watches)
    ∙ ap (map (told_view (machine_readiness s) s.files s.now)) (kept_filter s (at_instance e) s.watches)

module _ (p : Parts) (i : DescId) (tables : SoundTables p.tables) (lives : IsSome (number_under p.tables i)) where
  abbrev at_key : ℕ
  at_key = number_at p.tables.keys i

  -- the registrations of a key's instance
  of_instance : (xs : List Entry) → All (IsLinked p.tables.keys) xs → filter (at_instance at_key) (map (watch_at p.tables.keys) xs) ≡ map (watch_at p.tables.keys) (filter (is_of i) xs)
  of_instance [] linked = refl
  of_instance (x ∷ xs) linked =
      let same = same_keys p.tables x.instance i tables (All-head (IsLinked p.tables.keys) x xs linked).instance lives in
      let rest = of_instance xs (All-tail (IsLinked p.tables.keys) x xs linked) in
      (λ j. cond (same j) (watch_at p.tables.keys x ∷ rest j) (rest j))
      ∙ elim (is_of i x) as (λ b. cond b (watch_at p.tables.keys x ∷ map (watch_at p.tables.keys) (filter (is_of i) xs)) (map (watch_at p.tables.keys) (filter (is_of i) xs)) ≡ map (watch_at p.tables.keys) (cond b (x ∷ filter (is_of i) xs) (filter (is_of i) xs))) [ true ↦ refl | false ↦ refl ]

  told_map : (r : ℕ → Bool) (xs : List Entry) → map (told_view r p.tables.files p.clock) (map (watch_at p.tables.keys) xs) ≡ map (told_entry r p.tables p.clock) xs
  told_map r [] = refl
  told_map r (x ∷ xs) = ap (λ (ws : List Watch). told_entry r p.tables p.clock x ∷ ws) (told_map r xs)

  -- what is told over the parts is told in each state for which they stand
  pub told_stands : AreCoherent p → (s : State) → StandFor p s → told_at s at_key ≡ told_entries p i
  told_stands coherent s stands =
      let r = readiness p.tables p.clock p.interest in
      told_at_kept s at_key
      ∙ ((λ j. told_views (stands.files j) (stands.now j) (stands.watches j) at_key)
      ∙ (ap (map (told_view r p.tables.files p.clock)) (of_instance p.interest.entries coherent.linked)
      ∙ told_map r (filter (is_of i) p.interest.entries)))

pub told_length : (p : Parts) (i : DescId) → length (told_entries p i) ≡ length (filter (is_of i) p.interest.entries)
told_length p i = length-map (filter (is_of i) p.interest.entries) (told_entry (readiness p.tables p.clock p.interest) p.tables p.clock)

-- What a question answers.
module _ (p : Parts) (i : DescId) (coherent : AreCoherent p) (tables : SoundTables p.tables) (lives : IsSome (number_under p.tables i)) (s : State) (stands : StandFor p s) (count : ℕ) (before after : List Watch)
    (is : count ≡ length (filter (is_of i) p.interest.entries)) (laid : after ≡ laid_over (told_entries p i) before) where
  -- of an instance by its number
  tells_at : (e : ℕ) → e ≡ number_at p.tables.keys i → Tells (told_at s e) (Ok count) before after
  tells_at e number =
      let told : told_at s e ≡ told_entries p i = ap (told_at s) number ∙ told_stands p i tables lives coherent s stands in (
        ap (λ (n : ℕ). let r : Result ℕ Errno = Ok n in r) (is ∙ (sym (told_length p i) ∙ ap (λ (ws : List Watch). length ws) (sym told))),
        laid ∙ ap (λ (ws : List Watch). laid_over ws before) (sym told),
      )

  -- by a descriptor number
  pub tells_named : (pid : ℕ) (fd : ℤ) → IsNamed p.tables pid fd i
      → MatchOption (refused_with s.files pid fd) (Tells (told_at s (named_by s.files pid fd)) (Ok count) before after) (λ e. TellsNone e (Ok count) before after)
  tells_named pid fd named =
      let none : refused_with s.files pid fd ≡ None = ap (λ (f : Files). refused_with f pid fd) stands.files ∙ named.accepted in
      let number : named_by s.files pid fd ≡ number_at p.tables.keys i = ap (λ (f : Files). named_by f pid fd) stands.files ∙ sym (ap (λ (o : Option ℕ). unwrap_or o 0) named.named) in
      subst (λ (o : Option Errno). MatchOption o (Tells (told_at s (named_by s.files pid fd)) (Ok count) before after) (λ e. TellsNone e (Ok count) before after)) (sym none) (tells_at (named_by s.files pid fd) number)

  -- by who is parked at it
  pub tells_awaited : (caller : ℕ) (w : ParkedWaiter) → find (is_caller caller) p.parked ≡ Some (parked caller w) → w.instance ≡ i
      → MatchOption (waiter_of s caller) (TellsNone Einval (Ok count) before after) (λ w. Tells (told_at s w.instance) (Ok count) before after)
  tells_awaited caller w found own =
      let there = waits_there p.graph p.tables p.interest p.parked p.clock caller p.tables.limits s stands w found in
      subst (λ (o : Option Waiter). MatchOption o (TellsNone Einval (Ok count) before after) (λ w. Tells (told_at s w.instance) (Ok count) before after)) (sym there)
      (tells_at (number_at p.tables.keys w.instance) (ap (λ (d : DescId). number_at p.tables.keys d) own))

-- Refusals.
pub tells_refused : (p : Parts) (s : State) (stands : StandFor p s) (pid : ℕ) (fd : ℤ) (e : Errno) (room : List Watch) → refused_with p.tables.files pid fd ≡ Some e
    → MatchOption (refused_with s.files pid fd) (Tells (told_at s (named_by s.files pid fd)) (Err e) room room) (λ f. TellsNone f (Err e) room room)
tells_refused p s stands pid fd e room some =
    let is : refused_with s.files pid fd ≡ Some e = ap (λ (f : Files). refused_with f pid fd) stands.files ∙ some in
    subst (λ (o : Option Errno). MatchOption o (Tells (told_at s (named_by s.files pid fd)) (Err e) room room) (λ f. TellsNone f (Err e) room room)) (sym is) (refl, refl)

pub tells_unparked : (p : Parts) (s : State) (stands : StandFor p s) (caller : ℕ) (room : List Watch) → find (is_caller caller) p.parked ≡ None
    → MatchOption (waiter_of s caller) (TellsNone Einval (Err Einval) room room) (λ w. Tells (told_at s w.instance) (Err Einval) room room)
tells_unparked p s stands caller room none =
    let is : waiter_of s caller ≡ None = waits_found p.graph p.tables p.interest p.parked p.clock caller p.tables.limits s stands ∙ ap (option_map (at_number (λ k. number_at p.tables.keys (record { 0 = k })))) none in
    subst (λ (o : Option Waiter). MatchOption o (TellsNone Einval (Err Einval) room room) (λ w. Tells (told_at s w.instance) (Err Einval) room room)) (sym is) (refl, refl)
