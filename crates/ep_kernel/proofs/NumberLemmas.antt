-- Lists of keys, and the lists of numbers that the machine knows them by.
use Rattle.ep_calls.proofs.EntryLemmas.{holds_under}
use Rattle.std.proofs.Common.{◌≡◌, ◌≤◌, ◌<◌, ◌∙◌, ◌==◌, ◌&&◌, ◌||◌, ℕ, Bool, true, false, IsSome, List, [], ◌∷◌, None, Option, Some, ap, arith, cond, filter, inl, inr, map, refl, slice_index_or, subst, sym, unwrap_or}
use Rattle.std.specs.Option.{option_map}
use Rattle.std.proofs.lemmas.Bool.{cases_Bool, false_from_ne_true, false≢true}
use Rattle.std.proofs.lemmas.Bool.Decides.{nat_tests}
use Rattle.ep_facts.proofs.NatFacts.{from_test, same_nat, same_test}
use Rattle.ep_facts.proofs.BoolFacts.{both_true, from_not_and, not_and}
use Rattle.ep_facts.proofs.OptionFacts.{number_of}
use Rattle.ep_base.specs.declared.ids.DescId.{DescId}
use Rattle.ep_base.specs.declared.ids.EntryId.{EntryId}
use Rattle.ep_calls.proofs.KeyLemmas.{same_keys}
use Rattle.ep_calls.specs.Parts.{Parts}
use Rattle.ep_calls.specs.Readiness.{entry_shows, readiness}
use Rattle.ep_calls.specs.Stands.{AreLinked, IsLinked, Stands, number_at, watch_at}
use Rattle.ep_interest.specs.Registrations.{IsSound, Registrations, RisesFrom, entry_found, entry_under, number_under, numbered}
use Rattle.ep_interest.specs.declared.entry.Entry.{Entry}
use Rattle.ep_kernel.proofs.EntryLemmas.{is_under}
use Rattle.ep_kernel.specs.Listed.{HasReportables, HavePlaces, key_shows, order_at, shows_found}
use Rattle.ep_law.proofs.ListLemmas.{among, among_member, filtered_member, filtered_passes, member_filter, member_map}
use Rattle.ep_law.specs.Laws.{Member, is_reportable_in}
use Rattle.ep_machine.specs.Lists.{are_distinct, is_among}
use Rattle.ep_machine.specs.Readiness.{reportables}
use Rattle.ep_machine.specs.State.{State, Watch}
use Rattle.ep_order.specs.Order.{IsComplete}
use Rattle.ep_order.specs.Pick.{turns_of}
use Rattle.ep_rings.specs.KeyWalk.{entry_id}
use Rattle.ep_ready.specs.ReadyLists.{IsSound as AreSoundLists, Lists, instance_at, list_at, stands, stands_by}
use Rattle.ep_table.specs.Value.{Sound as SoundTables, number_under as desc_number}
use Rattle.ep_view.proofs.KernelViewLemmas.{reportables_kept}
use Rattle.ep_view.specs.KernelView.{KernelWatch, kernel_watches, ready_now, shows_in}

-- Lists of keys.

-- the numbers of the registrations under keys
abbrev pub numbers_at : Registrations → List ℕ → List ℕ
numbers_at r ks = map (λ k. unwrap_or (number_under r (entry_id k)) 0) ks

abbrev pub AreNumbered : Registrations → List ℕ → Type 0
AreNumbered r ks = (k : ℕ) → Member k ks → IsSome (number_under r (entry_id k))

pub number_member : (r : Registrations) (ks : List ℕ) (n : ℕ) → Member n (numbers_at r ks) → (k : ℕ) × Member k ks × (unwrap_or (number_under r (entry_id k)) 0 ≡ n)
number_member r [] n m = absurd m
number_member r (k ∷ ks) n (inl e) = (k, inl refl, sym e)
number_member r (k ∷ ks) n (inr m) = let w = number_member r ks n m in (w.0, inr w.1, w.2)

-- a registration that stands on one stands on the other
pub among_numbers : (r : Registrations) (ks : List ℕ) (k n : ℕ) → number_under r (entry_id k) ≡ Some n → is_among ks k ≡ true → is_among (numbers_at r ks) n ≡ true
among_numbers r ks k n is there =
    let f = λ (j : ℕ). unwrap_or (number_under r (entry_id j)) 0 in
    subst (λ (m : ℕ). is_among (numbers_at r ks) m ≡ true) (ap (λ (o : Option ℕ). unwrap_or o 0) is)
    (among (f k) (numbers_at r ks) (member_map f k ks (among_member ks k there)))

-- keys that keep their numbers
pub same_numbers : (old new : Registrations) (ks : List ℕ) → ((k : ℕ) → Member k ks → number_under new (entry_id k) ≡ number_under old (entry_id k)) → numbers_at new ks ≡ numbers_at old ks
same_numbers old new [] h = refl
same_numbers old new (k ∷ ks) h =
    let one = h k (inl refl) in
    let rest = same_numbers old new ks (λ j m. h j (inr m)) in
    λ i. unwrap_or (one i) 0 ∷ rest i

-- what keys are left out by their test, numbers are by theirs
pub filter_numbers : (r : Registrations) (by_key by_number : ℕ → Bool) (ks : List ℕ) → ((k : ℕ) → Member k ks → by_key k ≡ by_number (unwrap_or (number_under r (entry_id k)) 0)) → numbers_at r (filter by_key ks) ≡ filter by_number (numbers_at r ks)
filter_numbers r by_key by_number [] h = refl
filter_numbers r by_key by_number (k ∷ ks) h =
    let n = unwrap_or (number_under r (entry_id k)) 0 in
    let rest = filter_numbers r by_key by_number ks (λ j m. h j (inr m)) in
    let one : numbers_at r (filter by_key (k ∷ ks)) ≡ cond (by_key k) (n ∷ numbers_at r (filter by_key ks)) (numbers_at r (filter by_key ks)) =
    elim (by_key k) as (λ b. numbers_at r (cond b (k ∷ filter by_key ks) (filter by_key ks)) ≡ cond b (n ∷ numbers_at r (filter by_key ks)) (numbers_at r (filter by_key ks))) [ true ↦ refl | false ↦ refl ] in
    one ∙ (λ i. cond (h k (inl refl) i) (n ∷ rest i) (rest i))

module _ (r : Registrations) (sound : IsSound r) where
  -- a number has one key
  pub one_key : (j k : ℕ) → IsSome (number_under r (entry_id j)) → unwrap_or (number_under r (entry_id j)) 0 ≡ unwrap_or (number_under r (entry_id k)) 0 → IsSome (number_under r (entry_id k)) → j ≡ k
  one_key j k at same here =
      let n = unwrap_or (number_under r (entry_id k)) 0 in
      let first : number_under r (entry_id j) ≡ Some n = number_of _ at ∙ ap (λ (m : ℕ). Some m) same in
      ap (λ (id : EntryId). id.0) (sound.one_key (entry_id j) (entry_id k) n first (number_of _ here))

  -- and the other way
  pub among_keys : (ks : List ℕ) (k n : ℕ) → AreNumbered r ks → number_under r (entry_id k) ≡ Some n → is_among (numbers_at r ks) n ≡ true → is_among ks k ≡ true
  among_keys ks k n numbered is there =
      let w = number_member r ks n (among_member (numbers_at r ks) n there) in
      let some : IsSome (number_under r (entry_id k)) = subst (λ (o : Option ℕ). IsSome o) (sym is) refl in
      let same = one_key w.0 k (numbered w.0 w.1) (w.2 ∙ ap (λ (o : Option ℕ). unwrap_or o 0) (sym is)) some in
      among k ks (subst (λ (j : ℕ). Member j ks) same w.1)

  pub distinct_numbers : (ks : List ℕ) → AreNumbered r ks → are_distinct ks ≡ true → are_distinct (numbers_at r ks) ≡ true
  distinct_numbers [] numbered h = refl
  distinct_numbers (k ∷ ks) numbered h =
      let n = unwrap_or (number_under r (entry_id k)) 0 in
      let apart = from_not_and (is_among ks k) (are_distinct ks) h in
      let rest = distinct_numbers ks (λ j m. numbered j (inr m)) apart.1 in
      let new : is_among (numbers_at r ks) n ≡ false = false_from_ne_true _ (λ t. false≢true (sym apart.0 ∙ among_keys ks k n (λ j m. numbered j (inr m)) (number_of _ (numbered k (inl refl))) t)) in
      not_and _ _ new rest

  filtered_numbered : (by_key : ℕ → Bool) (ks : List ℕ) → AreNumbered r ks → AreNumbered r (filter by_key ks)
  filtered_numbered by_key ks numbered k m = numbered k (filtered_member by_key ks k m)

  -- the numbers of the keys that stay
  abbrev pub stays_by : (ℕ → Bool) → List ℕ → ℕ → Bool
  stays_by by_key ks n = is_among (numbers_at r (filter by_key ks)) n

  pub stays_is : (by_key : ℕ → Bool) (ks : List ℕ) (k n : ℕ) → AreNumbered r ks → is_among ks k ≡ true → number_under r (entry_id k) ≡ Some n → stays_by by_key ks n ≡ by_key k
  stays_is by_key ks k n numbered there is = elim (cases_Bool (by_key k)) [
    | inl t ↦
        let kept = among k (filter by_key ks) (member_filter by_key k ks (among_member ks k there) t) in
        among_numbers r (filter by_key ks) k n is kept ∙ sym t
    | inr f ↦
        false_from_ne_true _ (λ t.
        let kept = among_keys (filter by_key ks) k n (filtered_numbered by_key ks numbered) is t in
        false≢true (sym f ∙ filtered_passes by_key ks k (among_member (filter by_key ks) k kept))) ∙ sym f
  ]

  -- what is left by keys is what is left by numbers
  pub kept_numbers : (by_key : ℕ → Bool) (ks : List ℕ) → AreNumbered r ks → numbers_at r (filter by_key ks) ≡ filter (stays_by by_key ks) (numbers_at r ks)
  kept_numbers by_key ks numbered =
      filter_numbers r by_key (stays_by by_key ks) ks
      (λ k m. sym (stays_is by_key ks k (unwrap_or (number_under r (entry_id k)) 0) numbered (among k ks m) (number_of _ (numbered k m))))

-- Registrations as the machine has them.

watch_numbers : (s : State) (xs : List Watch) → map (λ x. x.number) xs ≡ map (λ w. w.number) (kernel_watches s xs)
watch_numbers s [] = refl
watch_numbers s (x ∷ xs) = ap (λ (ks : List ℕ). x.number ∷ ks) (watch_numbers s xs)

apart_test : (a b : ℕ) → a < b → (a == b) ≡ false
apart_test a b lt = grind (arith, nat_tests, lt)

module _ (keys : List (Option ℕ)) (test : KernelWatch → Bool) where
  -- the numbers of the registrations that pass a test
  abbrev shown_numbers : List Entry → List ℕ
  shown_numbers xs = map (λ w. w.number) (filter test (map (watch_at keys) xs))

  shown_with : (b : Bool) (y : Entry) (ys : List Entry) → test (watch_at keys y) ≡ b → shown_numbers (y ∷ ys) ≡ cond b (y.number ∷ shown_numbers ys) (shown_numbers ys)
  shown_with true y ys h = ap (λ (b : Bool). map (λ (w : KernelWatch). w.number) (cond b (watch_at keys y ∷ filter test (map (watch_at keys) ys)) (filter test (map (watch_at keys) ys)))) h
  shown_with false y ys h = ap (λ (b : Bool). map (λ (w : KernelWatch). w.number) (cond b (watch_at keys y ∷ filter test (map (watch_at keys) ys)) (filter test (map (watch_at keys) ys)))) h

  -- another's number tells nothing
  among_other : (y : Entry) (ys : List Entry) (n : ℕ) → (n == y.number) ≡ false → is_among (shown_numbers (y ∷ ys)) n ≡ is_among (shown_numbers ys) n
  among_other y ys n other = elim (cases_Bool (test (watch_at keys y))) [
    | inl t ↦ ap (λ (ks : List ℕ). is_among ks n) (shown_with true y ys t) ∙ ap (λ (b : Bool). b || is_among (shown_numbers ys) n) other
    | inr f ↦ ap (λ (ks : List ℕ). is_among ks n) (shown_with false y ys f)
  ]

  none_low : (xs : List Entry) (b n : ℕ) → RisesFrom b xs → n ≤ b → is_among (shown_numbers xs) n ≡ false
  none_low [] b n h le = refl
  none_low (y ∷ ys) b n h le =
      let lt = h.0 in
      among_other y ys n (apart_test n y.number (omega (arith, lt, le))) ∙ none_low ys y.number n h.1 (omega (arith, lt, le))

  among_shown : (xs : List Entry) (b n : ℕ) → RisesFrom b xs → (x : Entry) → numbered xs n ≡ Some x → is_among (shown_numbers xs) n ≡ test (watch_at keys x)
  among_shown [] b n h x is = absurd (cc)
  among_shown (y ∷ ys) b n h x is = elim (cases_Bool (y.number == n)) [
    | inl here ↦
        let found : Some y ≡ Some x = sym (ap (λ (c : Bool). cond c (Some y) (numbered ys n)) here) ∙ is in
        let same : y ≡ x = cc in
        let number = from_test y.number n here in
        elim (cases_Bool (test (watch_at keys y))) [
          | inl t ↦
              ap (λ (ks : List ℕ). is_among ks n) (shown_with true y ys t)
              ∙ (ap (λ (c : Bool). c || is_among (shown_numbers ys) n) (same_test n y.number (sym number))
              ∙ (sym t ∙ ap (λ (z : Entry). test (watch_at keys z)) same))
          | inr f ↦
              ap (λ (ks : List ℕ). is_among ks n) (shown_with false y ys f)
              ∙ (none_low ys y.number n h.1 (omega (arith, number)) ∙ (sym f ∙ ap (λ (z : Entry). test (watch_at keys z)) same))
        ]
    | inr other ↦
        let later : numbered ys n ≡ Some x = sym (ap (λ (c : Bool). cond c (Some y) (numbered ys n)) other) ∙ is in
        among_other y ys n (false_from_ne_true _ (λ t. false≢true (sym other ∙ same_test y.number n (sym (from_test n y.number t))))) ∙ among_shown ys y.number n h.1 x later
  ]

  among_none : (xs : List Entry) (n : ℕ) → numbered xs n ≡ None → is_among (shown_numbers xs) n ≡ false
  among_none [] n is = refl
  among_none (y ∷ ys) n is = elim (cases_Bool (y.number == n)) [
    | inl here ↦ let found : Some y ≡ None = sym (ap (λ (c : Bool). cond c (Some y) (numbered ys n)) here) ∙ is in absurd (cc)
    | inr other ↦
        let later : numbered ys n ≡ None = sym (ap (λ (c : Bool). cond c (Some y) (numbered ys n)) other) ∙ is in
        among_other y ys n (false_from_ne_true _ (λ t. false≢true (sym other ∙ same_test y.number n (sym (from_test n y.number t))))) ∙ among_none ys n later
  ]

-- a registration of the instance with a number that is reportable
pub record IsShown (p : Parts) (e n : ℕ) : Type 0 where
  pub x : Entry
  pub there : numbered p.interest.entries n ≡ Some x
  pub instance : number_at p.tables.keys x.instance ≡ e
  pub shows : entry_shows (readiness p.tables p.clock p.interest) p.tables p.clock x ≡ true

module _ (p : Parts) (s : State) (stands_for : Stands p.tables p.interest p.parked p.clock s) (sound : IsSound p.interest) where
  abbrev ready : ℕ → Bool
  ready = readiness p.tables p.clock p.interest

  reportable_numbers : (e n : ℕ) → is_reportable_in s e n ≡ is_among (shown_numbers p.tables.keys (shows_in ready p.tables.files p.clock e) p.interest.entries) n
  reportable_numbers e n =
      ap (λ (ks : List ℕ). is_among ks n) (watch_numbers s (reportables s e) ∙ ap (map (λ (w : KernelWatch). w.number)) (reportables_kept s e))
      ∙ (λ i. is_among (map (λ (w : KernelWatch). w.number) (filter (shows_in (ready_now (stands_for.files i) (stands_for.now i) (stands_for.watches i)) (stands_for.files i) (stands_for.now i) e) (stands_for.watches i))) n)

  -- a registration is reportable in the parts where it is in the machine
  pub shown_number : (e : ℕ) (x : Entry) → numbered p.interest.entries x.number ≡ Some x → is_reportable_in s e x.number ≡ (number_at p.tables.keys x.instance == e && entry_shows ready p.tables p.clock x)
  shown_number e x there = reportable_numbers e x.number ∙ among_shown p.tables.keys (shows_in ready p.tables.files p.clock e) p.interest.entries 0 x.number sound.rises x there

  pub entry_is : (x : Entry) → numbered p.interest.entries x.number ≡ Some x → entry_shows ready p.tables p.clock x ≡ is_reportable_in s (number_at p.tables.keys x.instance) x.number
  entry_is x there =
      let e = number_at p.tables.keys x.instance in
      sym (shown_number e x there ∙ ap (λ (b : Bool). b && entry_shows ready p.tables p.clock x) (same_nat e))

  -- what the machine has reportable is a registration of the parts
  pub shown_of : (e n : ℕ) → is_reportable_in s e n ≡ true → IsShown p e n
  shown_of e n r =
      let test = shows_in ready p.tables.files p.clock e in
      let told : is_among (shown_numbers p.tables.keys test p.interest.entries) n ≡ true = sym (reportable_numbers e n) ∙ r in
      by (numbered p.interest.entries n) refl told where
        by : (o : Option Entry) → numbered p.interest.entries n ≡ o → is_among (shown_numbers p.tables.keys (shows_in ready p.tables.files p.clock e) p.interest.entries) n ≡ true → IsShown p e n
        by None is t = absurd (false≢true (sym (among_none p.tables.keys (shows_in ready p.tables.files p.clock e) p.interest.entries n is) ∙ t))
        by (Some x) is t =
            let passes = both_true _ _ (sym (among_shown p.tables.keys (shows_in ready p.tables.files p.clock e) p.interest.entries 0 n sound.rises x is) ∙ t) in
            record { x = x; there = is; instance = from_test _ _ passes.0; shows = passes.1 }

  pub key_is : (k : ℕ) (x : Entry) → entry_under p.interest (entry_id k) ≡ Some x → key_shows p k ≡ is_reportable_in s (number_at p.tables.keys x.instance) x.number
  key_is k x is = ap (shows_found p) is ∙ entry_is x (is_under p.interest (entry_id k) x is).there

  -- Lists that fit the registrations.
  module _ (linked : AreLinked p.tables p.interest) (tables : SoundTables p.tables) (l : Lists) (places : HavePlaces p.interest l) where
    link_of : (k : ℕ) (x : Entry) → entry_under p.interest (entry_id k) ≡ Some x → IsLinked p.tables.keys x
    link_of k x is = holds_under (IsLinked p.tables.keys) p.interest (entry_id k) x linked is

    place_of : (k : ℕ) (x : Entry) → entry_under p.interest (entry_id k) ≡ Some x → instance_at l (entry_id k) ≡ Some x.instance.0
    place_of k x is = places (entry_id k) ∙ ap (option_map (λ (y : Entry). y.instance.0)) is

    pub complete_order : HasReportables p l → (i : DescId) → IsSome (desc_number p.tables i) → IsComplete (turns_of s (number_at p.tables.keys i)) (order_at p.interest l i.0)
    complete_order has i lives n r =
        let w = shown_of (number_at p.tables.keys i) n r in
        let key = sound.has_one n w.x w.there in
        let k = key.0.0 in
        let under : entry_under p.interest (entry_id k) ≡ Some w.x = ap (entry_found p.interest.entries) key.1 ∙ w.there in
        let stood = has k (ap (shows_found p) under ∙ w.shows) in
        let on : is_among (list_at l w.x.instance.0) k ≡ true = sym (ap (stands_by l k) (place_of k w.x under)) ∙ stood in
        let same = from_test w.x.instance.0 i.0 (sym (same_keys p.tables w.x.instance i tables (link_of k w.x under).instance lives) ∙ same_test _ _ w.instance) in
        among_numbers p.interest (list_at l i.0) k n key.1 (subst (λ (j : ℕ). is_among (list_at l j) k ≡ true) same on)

    -- No list has two of one registration, and what stands on one is of its instance.
    module _ (lists : AreSoundLists l) where
      pub entry_at : (i k : ℕ) → Member k (list_at l i) → (x : Entry) × (entry_under p.interest (entry_id k) ≡ Some x) × (x.instance.0 ≡ i)
      entry_at i k m = by (entry_under p.interest (entry_id k)) refl where
        at : instance_at l (entry_id k) ≡ Some i
        at = lists.own i (entry_id k) (among k (list_at l i) m)

        by : (o : Option Entry) → entry_under p.interest (entry_id k) ≡ o → (x : Entry) × (entry_under p.interest (entry_id k) ≡ Some x) × (x.instance.0 ≡ i)
        by None is = let none : None ≡ Some i = sym (places (entry_id k) ∙ ap (option_map (λ (y : Entry). y.instance.0)) is) ∙ at in absurd (cc)
        by (Some x) is = let one : Some x.instance.0 ≡ Some i = sym (place_of k x is) ∙ at in (x, is, cc)

      pub list_numbered : (i : ℕ) → AreNumbered p.interest (list_at l i)
      list_numbered i k m =
          let w = entry_at i k m in
          subst (λ (o : Option ℕ). IsSome o) (sym (is_under p.interest (entry_id k) w.0 w.1).number) refl

      pub distinct_order : (i : ℕ) → are_distinct (order_at p.interest l i) ≡ true
      distinct_order i = distinct_numbers p.interest sound (list_at l i) (list_numbered i) (lists.once i)

      -- on the list of an instance a key shows where its number does
      pub shows_at : (i : DescId) (k : ℕ) → Member k (list_at l i.0) → key_shows p k ≡ is_reportable_in s (number_at p.tables.keys i) (unwrap_or (number_under p.interest (entry_id k)) 0)
      shows_at i k m =
          let w = entry_at i.0 k m in
          let number = (is_under p.interest (entry_id k) w.0 w.1).number in
          key_is k w.0 w.1
          ∙ (λ j. is_reportable_in s (unwrap_or (slice_index_or p.tables.keys (w.2 j) None) 0) (unwrap_or (sym number j) 0))

      -- complete lists of the machine's numbers have each reportable key
      pub has_reportables : ((i : DescId) → IsSome (desc_number p.tables i) → IsComplete (turns_of s (number_at p.tables.keys i)) (order_at p.interest l i.0)) → HasReportables p l
      has_reportables complete k shown = by (entry_under p.interest (entry_id k)) refl where
        by : (o : Option Entry) → entry_under p.interest (entry_id k) ≡ o → stands l (entry_id k) ≡ true
        by None is = absurd (false≢true (sym (ap (shows_found p) is) ∙ shown))
        by (Some x) is =
            let number = (is_under p.interest (entry_id k) x is).number in
            let on = complete x.instance (link_of k x is).instance x.number (sym (key_is k x is) ∙ shown) in
            ap (stands_by l k) (place_of k x is) ∙ among_keys p.interest sound (list_at l x.instance.0) k x.number (list_numbered x.instance.0) number on
