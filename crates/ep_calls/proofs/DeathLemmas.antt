-- The parts once the dead are gone: they are coherent, and stand for the state of the machine after settling.
use Rattle.std.proofs.Common.{nat_lt, ◌≡◌, ◌∙◌, ◌==◌, ◌&&◌, ◌||◌, ◌≤◌, ℕ, All, Bool, true, false, IsSome, List, [], ◌∷◌, ◌++◌, None, Option, Some, ap, cond, filter, if◌then◌else◌, is_some, length, map, not, refl, slice_index_or, subst, sym, unwrap_or}
use Rattle.std.proofs.lemmas.Bool.{false≢true}
use Rattle.std.proofs.lemmas.List.{append-nil}
use Rattle.std.proofs.lemmas.List.Elements.{All-cons, All-head, All-map, All-nil, All-tail, All-weaker}
use Rattle.ep_facts.proofs.NatFacts.{same_nat}
use Rattle.ep_facts.proofs.AmongFacts.{among_append}
use Rattle.ep_facts.proofs.OptionFacts.{value_of}
use Rattle.ep_facts.proofs.BoolFacts.{both_true, or_right}
use Rattle.ep_base.specs.declared.ids.DescId.{DescId}
use Rattle.ep_machine.specs.Bits.{IN, asked, has_bit}
use Rattle.ep_machine.specs.Counts.{brings}
use Rattle.ep_machine.specs.Deaths.{die_all, dying, named_in_tables}
use Rattle.ep_machine.specs.Files.{Files, Place, is_live, object_at, object_of, place_of}
use Rattle.ep_law.specs.Laws.{Member}
use Rattle.ep_machine.specs.Marks.{marked_by}
use Rattle.ep_machine.specs.Waits.{marked_if_due}
use Rattle.ep_view.proofs.MarkingLemmas.{marks_same}
use Rattle.ep_view.specs.KernelView.{KernelWatch, climbed_all, climbing_all, freshened, kernel_watches, reached_now, ready_now, settled_watches, stays_in, stirred}
use Rattle.ep_view.specs.Marking.{gets_mark_now, guarded_now, left_now, narrowed_now}
use Rattle.ep_machine.specs.Lists.{are_distinct, is_among}
use Rattle.ep_view.specs.AtRest.{Remains, Settles, can_be_watched, is_backed, kind_of, standing}
use Rattle.ep_machine.specs.Spread.{raised_of}
use Rattle.ep_machine.specs.State.{State, Waiter}
use Rattle.ep_machine.specs.Timer.{last_moment}
use Rattle.ep_view.proofs.FreshLemmas.{deaths_raise, fresh_filter, fresh_parts}
use Rattle.ep_view.proofs.DeathLemmas.{Buried, all_buried, Apart, same_raised}
use Rattle.ep_law.proofs.DeathLemmas.{ArePlaced, after_all, numbers, same_dead}
use Rattle.ep_law.proofs.NamedLivesLemmas.{dying_distinct, dying_placed}
use Rattle.ep_view.proofs.FilesLemmas.{watched_same}
use Rattle.ep_view.proofs.SettleLemmas.{dying_test}
use Rattle.ep_interest.specs.declared.entry.Entry.{Entry}
use Rattle.ep_calls.specs.Burial.{Burial, is_untouched}
use Rattle.ep_calls.specs.Climb.{KeepsLinks}
use Rattle.ep_calls.specs.Moves.{StandsBuried, StandsRaised}
use Rattle.ep_calls.specs.Stands.{IsLinked, IsPlaced, number_at, waiters_at, watch_at}
use Rattle.ep_calls.proofs.HoldLemmas.{not_held}
use Rattle.ep_calls.proofs.KeyLemmas.{under_key}
use Rattle.ep_calls.proofs.KindLemmas.{KeepKinds, nested_left}
use Rattle.ep_calls.specs.Parts.{AreCoherent, Parts}
use Rattle.ep_table.specs.Value.{Sound, count_at, holds_of}

module _ (n : ℕ) (mid new : Parts) (coherent : AreCoherent mid) (burial : Burial n mid.tables mid.interest new.tables new.interest) (left_parked : new.parked ≡ mid.parked) (clock : new.clock ≡ mid.clock) (sound_new : Sound new.tables) where
  abbrev dead : List (ℕ × Place)
  dead = burial.buries.dead

  abbrev sound : Sound mid.tables
  sound = burial.sound

  queue : numbers dead ≡ mid.tables.dying
  queue = sym (append-nil (numbers dead)) ∙ (ap (λ (ks : List ℕ). numbers dead ++ ks) (sym burial.none) ∙ burial.buries.numbers)

  distinct : are_distinct (numbers dead) ≡ true
  distinct = ap are_distinct queue ∙ sound.distinct

  -- what lives has its object
  to_true : {X : Type 0} (o : Option X) → IsSome o → is_some o ≡ true
  to_true None e = absurd (false≢true e)
  to_true (Some x) e = refl

  backed_by : (d : ℕ) (o : Option Place) → place_of mid.tables.files d ≡ o → is_backed mid.tables.files o ≡ true
  backed_by d None e = refl
  backed_by d (Some q) e =
      let key = sound.keyed d (ap (λ (o : Option Place). is_some o) e) in
      to_true (slice_index_or mid.tables.files.objects q.object None) (subst (λ (o : Option Place). IsSome (object_at mid.tables.files o)) e (sound.object key.0 d key.1))

  left : Buried mid.tables.files (after_all mid.tables.files dead) dead
  left = all_buried mid.tables.files dead distinct burial.buries.placed (λ d. backed_by d (place_of mid.tables.files d) refl)

  live_or : (b : Bool) (o : Option Place) → is_some o ≡ true → is_some (if b then None else o) ≡ not b
  live_or true o h = refl
  live_or false o h = h

  live_left : (d : ℕ) → is_live mid.tables.files d ≡ true → is_live new.tables.files d ≡ not (is_among (numbers dead) d)
  live_left d h = ap (λ (f : Files). is_live f d) burial.buries.files ∙ (ap is_some (left.places d) ∙ live_or (is_among (numbers dead) d) (place_of mid.tables.files d) h)

  key_lives : (key : DescId) → IsSome (slice_index_or mid.tables.keys key.0 None) → is_live mid.tables.files (number_at mid.tables.keys key) ≡ true
  key_lives key h =
      let u = under_key mid.tables.keys key h in
      let e : number_at mid.tables.keys key ≡ u.number = ap (λ (o : Option ℕ). unwrap_or o 0) u.is in
      ap (λ (n : ℕ). is_live mid.tables.files n) e ∙ to_true (place_of mid.tables.files u.number) (sound.place key u.number u.is)

  abbrev waited : List ℕ
  waited = map (λ w. w.instance) (waiters_at mid.tables.keys mid.parked)

  not_dead : (a b c : Bool) → c ≡ false → (a && (not b && c)) ≡ false
  not_dead true true c h = refl
  not_dead true false c h = h
  not_dead false b c h = refl

  -- an instance at which somebody waits does not die
  waited_stays : (d : ℕ) → is_among waited d ≡ true → is_among (numbers dead) d ≡ false
  waited_stays d h =
      let held_there : (holds_of mid.tables d == 0) ≡ not true = ap (λ (k : ℕ). k == 0) (coherent.held d) ∙ (sym (not_held waited d) ∙ ap not h) in
      ap (λ (ks : List ℕ). is_among ks d) queue ∙ (sound.dying d ∙ not_dead (is_live mid.tables.files d) (is_among (named_in_tables mid.tables.files.tables) d) (holds_of mid.tables d == 0) held_there)

  -- and keeps its key
  waiter_left : (w : Waiter) → IsPlaced mid.tables.keys w → is_among waited (number_at mid.tables.keys (record { 0 = w.instance })) ≡ true → slice_index_or new.tables.keys w.instance None ≡ Some (number_at mid.tables.keys (record { 0 = w.instance }))
  waiter_left w placed h =
      let key : DescId = record { 0 = w.instance } in
      let d = number_at mid.tables.keys key in
      let u = under_key mid.tables.keys key placed.instance in
      let is : slice_index_or mid.tables.keys w.instance None ≡ Some d = u.is ∙ ap (λ (k : ℕ). Some k) (sym (ap (λ (o : Option ℕ). unwrap_or o 0) u.is)) in
      let lives : is_live new.tables.files d ≡ true = live_left d (key_lives key placed.instance) ∙ ap not (waited_stays d h) in
      let other = sound_new.keyed d lives in
      let same : other.0.0 ≡ w.instance = sound.one other.0 key d (burial.buries.keys other.0 d other.1) is in
      ap (λ (k : ℕ). slice_index_or new.tables.keys k None) (sym same) ∙ other.1

  waiters_left_of : (ws : List Waiter) → All (IsPlaced mid.tables.keys) ws → ((d : ℕ) → is_among (map (λ w. w.instance) (waiters_at mid.tables.keys ws)) d ≡ true → is_among waited d ≡ true) → waiters_at mid.tables.keys ws ≡ waiters_at new.tables.keys ws
  waiters_left_of [] keyed within = refl
  waiters_left_of (w ∷ ws) keyed within =
      let number = number_at mid.tables.keys (record { 0 = w.instance }) in
      let rest = waiters_left_of ws (All-tail (IsPlaced mid.tables.keys) w ws keyed) (λ d h. within d (or_right (d == number) _ h)) in
      let here = waiter_left w (All-head (IsPlaced mid.tables.keys) w ws keyed) (within number (ap (λ (b : Bool). b || is_among (map (λ u. u.instance) (waiters_at mid.tables.keys ws)) number) (same_nat number))) in
      λ i. record w { instance = sym (ap (λ (o : Option ℕ). unwrap_or o 0) here) i } ∷ rest i

  waiters_left : waiters_at mid.tables.keys mid.parked ≡ waiters_at new.tables.keys mid.parked
  waiters_left = waiters_left_of mid.parked coherent.placed (λ d h. h)

  placed_left_of : (ws : List Waiter) → All (IsPlaced mid.tables.keys) ws → ((d : ℕ) → is_among (map (λ w. w.instance) (waiters_at mid.tables.keys ws)) d ≡ true → is_among waited d ≡ true) → All (IsPlaced new.tables.keys) ws
  placed_left_of [] keyed within = All-nil (IsPlaced new.tables.keys)
  placed_left_of (w ∷ ws) keyed within =
      let number = number_at mid.tables.keys (record { 0 = w.instance }) in
      let rest = placed_left_of ws (All-tail (IsPlaced mid.tables.keys) w ws keyed) (λ d h. within d (or_right (d == number) _ h)) in
      let one = All-head (IsPlaced mid.tables.keys) w ws keyed in
      let here = waiter_left w one (within number (ap (λ (b : Bool). b || is_among (map (λ u. u.instance) (waiters_at mid.tables.keys ws)) number) (same_nat number))) in
      All-cons (IsPlaced new.tables.keys) w ws (record { instance = subst (λ (o : Option ℕ). IsSome o) (sym here) refl; most = one.most }) rest

  -- each registration that is left keeps the kind of its target
  abbrev Shown : KernelWatch → Type 0
  Shown w = (is_live mid.tables.files w.target ≡ true) × (can_be_watched (object_of mid.tables.files w.target) ≡ true)

  abbrev SameKind : KernelWatch → Type 0
  SameKind w = kind_of (object_of (after_all mid.tables.files dead) w.target) ≡ kind_of (object_of mid.tables.files w.target)

  abbrev Stays : KernelWatch → Type 0
  Stays w = SameKind w × (can_be_watched (object_of (after_all mid.tables.files dead) w.target) ≡ true)

  shown_mid : All Shown (map (watch_at mid.tables.keys) mid.interest.entries)
  shown_mid = All-map Shown (watch_at mid.tables.keys) mid.interest.entries (λ k d lt. (key_lives _ (coherent.linked k d lt).desc, coherent.watched k d lt))

  same_kind : (w : KernelWatch) → Shown w → is_untouched (numbers dead) w ≡ true → Stays w
  same_kind w shown untouched =
      let stays = (both_true (not (is_among (numbers dead) w.instance)) (not (is_among (numbers dead) w.target)) untouched).1 in
      let kind : SameKind w = left.shows w.target (ap is_some (left.places w.target) ∙ (live_or (is_among (numbers dead) w.target) (place_of mid.tables.files w.target) shown.0 ∙ stays)) shown.1 in
      (kind, watched_same _ _ kind shown.1)

  same_kinds : (ws : List KernelWatch) → All Shown ws → All Stays (filter (is_untouched (numbers dead)) ws)
  same_kinds [] h = All-nil Stays
  same_kinds (w ∷ ws) h = with_one (is_untouched (numbers dead) w) refl (All-head Shown w ws h) (same_kinds ws (All-tail Shown w ws h)) where
    with_one : (b : Bool) → is_untouched (numbers dead) w ≡ b → Shown w → All Stays (filter (is_untouched (numbers dead)) ws) → All Stays (cond b (w ∷ filter (is_untouched (numbers dead)) ws) (filter (is_untouched (numbers dead)) ws))
    with_one true e shown rest = All-cons Stays w (filter (is_untouched (numbers dead)) ws) (same_kind w shown e) rest
    with_one false e shown rest = rest

  all_left : All Stays (map (watch_at new.tables.keys) new.interest.entries)
  all_left =
      let ws = map (watch_at mid.tables.keys) mid.interest.entries in
      subst (All Stays) (sym burial.buries.watches) (All-map Stays (freshened n (die_all (mid.tables.files, []) dead).1) (filter (is_untouched (numbers dead)) ws) (same_kinds ws shown_mid))

  kinds_left : KeepKinds mid.tables.files new.tables.files (map (watch_at new.tables.keys) new.interest.entries)
  kinds_left = subst (λ (f : Files). KeepKinds mid.tables.files f (map (watch_at new.tables.keys) new.interest.entries)) (sym burial.buries.files) (All-weaker Stays SameKind (λ w s. s.0) (map (watch_at new.tables.keys) new.interest.entries) all_left)

  watched_left : (xs : List Entry) → All Stays (map (watch_at new.tables.keys) xs) → All (λ (x : Entry). can_be_watched (object_of new.tables.files (number_at new.tables.keys x.desc)) ≡ true) xs
  watched_left [] all = All-nil (λ (x : Entry). can_be_watched (object_of new.tables.files (number_at new.tables.keys x.desc)) ≡ true)
  watched_left (x ∷ xs) all =
      let d = number_at new.tables.keys x.desc in
      All-cons (λ (y : Entry). can_be_watched (object_of new.tables.files (number_at new.tables.keys y.desc)) ≡ true) x xs
      (subst (λ (f : Files). can_be_watched (object_of f d) ≡ true) (sym burial.buries.files) (All-head Stays (watch_at new.tables.keys x) (map (watch_at new.tables.keys) xs) all).1)
      (watched_left xs (All-tail Stays (watch_at new.tables.keys x) (map (watch_at new.tables.keys) xs) all))

  pub coherent_buried : KeepsLinks mid.interest mid.graph new.interest new.graph → AreCoherent new
  coherent_buried links = record {
    linked = burial.buries.linked;
    watched = watched_left new.interest.entries all_left;
    nested = nested_left mid.tables new.tables new.interest new.graph burial.buries.keys burial.buries.linked kinds_left (links mid.tables coherent.nested);
    placed = subst (λ (ws : List Waiter). All (IsPlaced new.tables.keys) ws) (sym left_parked) (placed_left_of mid.parked coherent.placed (λ d h. h));
    held = λ d. ap (λ (hs : List ℕ). count_at hs d) burial.buries.holds ∙ (coherent.held d ∙ (ap (λ (ws : List Waiter). length (filter (λ k. k == d) (map (λ w. w.instance) ws))) waiters_left ∙ ap (λ (us : List Waiter). length (filter (λ k. k == d) (map (λ w. w.instance) (waiters_at new.tables.keys us)))) (sym left_parked)));
    clock = subst (λ (m : ℕ). m ≤ last_moment) (sym clock) coherent.clock;
  }

  -- the state before and after settling, with what the event raised
  module _ (after t : State) (raised : List (ℕ × ℕ)) (settled : Remains after raised t) (at : after.n ≡ n) (stands : StandsRaised n mid raised after) where
    placed : ArePlaced after.files dead
    placed = subst (λ (f : Files). ArePlaced f dead) (sym stands.files) burial.buries.placed

    three_last : (a b c : Bool) → (a && not (b || c)) ≡ (a && (not b && not c))
    three_last true true c = refl
    three_last true false c = refl
    three_last false b c = refl

    -- a table or a waiter names what does not die
    dying_is : (d : ℕ) → is_among (numbers (dying after)) d ≡ (is_live mid.tables.files d && (not (is_among (named_in_tables mid.tables.files.tables) d) && not (is_among (map (λ w. w.instance) (waiters_at mid.tables.keys mid.parked)) d)))
    dying_is d =
        let names = named_in_tables mid.tables.files.tables in
        let ws = waiters_at mid.tables.keys mid.parked in
        dying_test after d
        ∙ ((λ i. is_live (stands.files i) d && not (is_among (named_in_tables (stands.files i).tables ++ map (λ w. w.instance) (stands.waiters i)) d))
        ∙ (ap (λ (b : Bool). is_live mid.tables.files d && not b) (among_append names (map (λ w. w.instance) ws) d)
        ∙ three_last (is_live mid.tables.files d) (is_among names d) (is_among (map (λ w. w.instance) ws) d)))

    same_among : (d : ℕ) → is_among (numbers (dying after)) d ≡ is_among (numbers dead) d
    same_among d =
        dying_is d
        ∙ (ap (λ (b : Bool). is_live mid.tables.files d && (not (is_among (named_in_tables mid.tables.files.tables) d) && b)) (not_held (map (λ w. w.instance) (waiters_at mid.tables.keys mid.parked)) d ∙ ap (λ (k : ℕ). k == 0) (sym (coherent.held d)))
        ∙ (sym (sound.dying d) ∙ ap (λ (ks : List ℕ). is_among ks d) (sym queue)))

    files_left : t.files ≡ after_all mid.tables.files dead
    files_left =
        settled.files
        ∙ (same_dead after.files (dying after) dead (dying_distinct after) distinct (dying_placed after) placed same_among
        ∙ ap (λ (f : Files). after_all f dead) stands.files)

    live_after : (d : ℕ) → is_live mid.tables.files d ≡ true → is_live t.files d ≡ not (is_among (numbers dead) d)
    live_after d h = ap (λ (f : Files). is_live f d) (files_left ∙ sym burial.buries.files) ∙ live_left d h

    stays_or : (x : Entry) → IsLinked mid.tables.keys x → stays_in t.files (watch_at mid.tables.keys x) ≡ is_untouched (numbers dead) (watch_at mid.tables.keys x)
    stays_or x link = λ i. live_after (number_at mid.tables.keys x.instance) (key_lives x.instance link.instance) i && live_after (number_at mid.tables.keys x.desc) (key_lives x.desc link.desc) i

    stay_all : (xs : List Entry) → All (IsLinked mid.tables.keys) xs → filter (stays_in t.files) (map (watch_at mid.tables.keys) xs) ≡ filter (is_untouched (numbers dead)) (map (watch_at mid.tables.keys) xs)
    stay_all [] h = refl
    stay_all (x ∷ xs) h =
        let one = stays_or x (All-head (IsLinked mid.tables.keys) x xs h) in
        let rest = stay_all xs (All-tail (IsLinked mid.tables.keys) x xs h) in
        λ i. cond (one i) (watch_at mid.tables.keys x ∷ rest i) (rest i)

    apart_mid : Apart mid.tables.files
    apart_mid = sound.apart

    -- what the deaths of the machine raise, and those of the kernel
    abbrev of_machine : List (ℕ × ℕ)
    of_machine = (die_all (after.files, []) (dying after)).1

    abbrev of_kernel : List (ℕ × ℕ)
    of_kernel = (die_all (mid.tables.files, []) dead).1

    placed_dying : ArePlaced mid.tables.files (dying after)
    placed_dying = subst (λ (f : Files). ArePlaced f (dying after)) stands.files (dying_placed after)

    live_place : (f : Files) (d : ℕ) → is_live f d ≡ true → (p : Place) × (place_of f d ≡ Some p)
    live_place f d h = value_of (place_of f d) h

    -- at what lives on both are the same
    raised_same : (d : ℕ) → is_live t.files d ≡ true → raised_of of_machine d ≡ raised_of of_kernel d
    raised_same d lives =
        let p = live_place t.files d lives in
        let here : place_of (after_all mid.tables.files (dying after)) d ≡ Some p.0 = ap (λ (f : Files). place_of (after_all f (dying after)) d) (sym stands.files) ∙ (ap (λ (f : Files). place_of f d) (sym settled.files) ∙ p.1) in
        ap (λ (f : Files). raised_of (die_all (f, []) (dying after)).1 d) stands.files
        ∙ same_raised mid.tables.files (dying after) dead (dying_distinct after) distinct placed_dying burial.buries.placed apart_mid same_among d p.0 here

    fresh_one : (x : KernelWatch) → stays_in t.files x ≡ true → freshened n of_machine x ≡ freshened n of_kernel x
    fresh_one x stays =
        let lives = (both_true (is_live t.files x.instance) (is_live t.files x.target) stays).1 in
        ap (λ (b : ℕ). stirred n (brings x.mask b) (x.armed && nat_lt 0 (asked x.mask b)) x) (raised_same x.target lives)

    fresh_left : (ws : List KernelWatch) → map (freshened n of_machine) (filter (stays_in t.files) ws) ≡ map (freshened n of_kernel) (filter (stays_in t.files) ws)
    fresh_left [] = refl
    fresh_left (w ∷ ws) = with_one (stays_in t.files w) refl (fresh_left ws) where
      with_one : (b : Bool) → stays_in t.files w ≡ b → map (freshened n of_machine) (filter (stays_in t.files) ws) ≡ map (freshened n of_kernel) (filter (stays_in t.files) ws)
          → map (freshened n of_machine) (cond b (w ∷ filter (stays_in t.files) ws) (filter (stays_in t.files) ws)) ≡ map (freshened n of_kernel) (cond b (w ∷ filter (stays_in t.files) ws) (filter (stays_in t.files) ws))
      with_one true e rest = λ i. fresh_one w e i ∷ rest i
      with_one false e rest = rest

    -- what was raised, by the event and by deaths, is noted
    pub all_noted : map (freshened n (die_all (after.files, raised) (dying after)).1) (filter (stays_in t.files) (kernel_watches after after.watches)) ≡ map (watch_at new.tables.keys) new.interest.entries
    all_noted =
        let kept = kernel_watches after after.watches in
        let ws = map (watch_at mid.tables.keys) mid.interest.entries in
        ap (λ (rs : List (ℕ × ℕ)). map (freshened n rs) (filter (stays_in t.files) kept)) (deaths_raise after.files raised (dying after))
        ∙ (fresh_parts n raised of_machine (filter (stays_in t.files) kept)
        ∙ (ap (map (freshened n of_machine)) (sym (fresh_filter n t.files raised kept))
        ∙ (ap (λ (us : List KernelWatch). map (freshened n of_machine) (filter (stays_in t.files) us)) stands.watches
        ∙ (fresh_left ws
        ∙ (ap (map (freshened n of_kernel)) (stay_all mid.interest.entries coherent.linked) ∙ sym burial.buries.watches)))))

    same_files : t.files ≡ new.tables.files
    same_files = files_left ∙ sym burial.buries.files

    same_clock : t.now ≡ new.clock
    same_clock = settled.now ∙ (stands.now ∙ sym clock)

    same_waiters : after.waiters ≡ waiters_at new.tables.keys new.parked
    same_waiters = stands.waiters ∙ (waiters_left ∙ ap (waiters_at new.tables.keys) (sym left_parked))

    -- as they stand when marks are set
    same_standing : standing after raised t.files ≡ climbing_all n new.tables.files (map (watch_at new.tables.keys) new.interest.entries)
    same_standing =
        (λ i. climbing_all (at i) t.files (map (freshened (at i) (die_all (after.files, raised) (dying after)).1) (filter (stays_in t.files) (kernel_watches after after.watches))))
        ∙ (λ i. climbing_all n (same_files i) (all_noted i))

    module _ (waited : List Waiter) (marked : Settles waited after raised t) (raised_in : ℕ → Bool) (told : (w : Waiter) → Member w after.waiters → has_bit (raised_of raised w.instance) IN ≡ raised_in w.instance) where
      -- the test of marks, with what is told of what was raised
      marks_by : (ℕ → Bool) → ℕ → Bool
      marks_by test e = gets_mark_now t.files t.now after.n (standing after raised t.files) (map (marked_if_due t.now) after.waiters) test (left_now waited after.waiters) e

      told_marks : (e : ℕ) → has_bit (raised_of raised e) IN ≡ raised_in e → marks_by (λ d. has_bit (raised_of raised d) IN) e ≡ marks_by raised_in e
      unfolding marks_by
      told_marks e is =
          let zs = standing after raised t.files in
          let ready = ready_now t.files t.now zs in
          let due = map (marked_if_due t.now) after.waiters in
          ap (λ (b : Bool). ready e && (not (guarded_now zs e) || (b || reached_now t.files after.n (narrowed_now t.files after.n zs ready due) e || left_now waited after.waiters e))) is

      pub buried_stands : StandsBuried n waited raised_in new t
      unfolding marks_by
      buried_stands = record {
        now = same_clock;
        files = same_files;
        watches =
            settled.watches
            ∙ ((λ i. settled_watches (at i) t.files (freshened (at i) (die_all (after.files, raised) (dying after)).1) (filter (stays_in t.files) (kernel_watches after after.watches)))
            ∙ (ap (climbed_all n t.files) all_noted ∙ ap (λ (f : Files). climbed_all n f (map (watch_at new.tables.keys) new.interest.entries)) same_files));
        added = settled.added ∙ (stands.added ∙ sym burial.buries.added);
        waiters =
            marked.waiters
            ∙ (marks_same (marks_by (λ d. has_bit (raised_of raised d) IN)) (marks_by raised_in) t.now after.waiters (λ w m. told_marks w.instance (told w m))
            ∙ (λ i. marked_by (λ e. gets_mark_now (same_files i) (same_clock i) (at i) (same_standing i) (map (marked_if_due (same_clock i)) (same_waiters i)) raised_in (left_now waited (same_waiters i)) e) t.now (same_waiters i)));
      }

-- all that a settling leaves but the waiters
pub remains_of : (waited : List Waiter) (after t : State) (raised : List (ℕ × ℕ)) → Settles waited after raised t → Remains after raised t
remains_of ws after t raised h = record { n = h.n; now = h.now; files = h.files; watches = h.watches; added = h.added; seen = h.seen }
