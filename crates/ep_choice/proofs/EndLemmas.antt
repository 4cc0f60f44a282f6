-- The end of an event from what it raised to its marks, and where they are looked for.
use Rattle.std.proofs.Common.{◌≡◌, ◌+◌, ◌∙◌, ◌==◌, ◌&&◌, ◌||◌, ◌++◌, ◌⊎◌, ℕ, suc, All, Bool, true, false, Contains, IsSome, List, [], ◌∷◌, None, Option, Some, ap, cond, filter, inl, inr, length, map, nat_lt, not, refl, subst, sym, unwrap_or}
use Rattle.std.specs.Option.{option_map}
use Rattle.std.specs.Prelude.{MatchOption}
use Rattle.std.proofs.lemmas.Bool.{cases_Bool, false≢true}
use Rattle.std.proofs.lemmas.List.Elements.{All-cons, All-contains, All-head, All-nil, All-tail}
use Rattle.ep_facts.proofs.NatFacts.{same_test}
use Rattle.ep_facts.proofs.BoolFacts.{and_or_more, or_cases, or_left, or_right}
use Rattle.ep_base.specs.Limits.{Limits}
use Rattle.ep_base.specs.declared.answer.Answer.{Answer}
use Rattle.ep_base.specs.declared.call.Event.{Event}
use Rattle.ep_base.specs.declared.errno.Errno.{Errno}
use Rattle.ep_base.specs.declared.ids.CallerId.{CallerId}
use Rattle.ep_base.specs.declared.ids.DescId.{DescId}
use Rattle.ep_base.specs.declared.record.Record.{Record}
use Rattle.ep_calls.proofs.EndLemmas.{rested, rests_so, settles}
use Rattle.ep_calls.proofs.GraphLemmas.{Lives, links_are, links_by_keys, links_mapped, number, numbers_apart}
use Rattle.ep_calls.proofs.KeepsLemmas.{DoesAt, SettlesMarks, keeps_marked, machine_marks, record_of, state_is, step_marked}
use Rattle.ep_calls.proofs.KeyLemmas.{number_kept, some_kept}
use Rattle.ep_calls.proofs.PassLemmas.{kept_watches}
use Rattle.ep_choice.proofs.UnguardedLemmas.{none_guarded}
use Rattle.ep_calls.specs.Climb.{AreNested, is_nested, is_nested_key, link_of, risen}
use Rattle.ep_calls.specs.Ends.{Leaves, RestsBy, Spreads}
use Rattle.ep_calls.specs.Keeps.{Keeps}
use Rattle.ep_calls.specs.Moves.{Makes, Refuses, StandFor, gets_mark_in}
use Rattle.ep_calls.specs.Parking.{raises_in}
use Rattle.ep_calls.specs.Parts.{AreCoherent, Parts}
use Rattle.ep_calls.specs.Raising.{AsRaised, AsRaisedIn}
use Rattle.ep_calls.specs.Readiness.{watches_of}
use Rattle.ep_calls.specs.Stands.{ArePlaced, IsLinked, IsPlaced, KeepsKeys, Stands, number_at, waiters_at, watch_at}
use Rattle.ep_calls.specs.declared.outcome.Outcome.{Outcome}
use Rattle.ep_choice.proofs.AttendedLemmas.{attends_is, is_buried, marked_numbered, member_waits, some_of, unmarked_in, waits_in}
use Rattle.ep_choice.proofs.ChangesLemmas.{SameCores, SameNames, change_leaves, core, none_dies}
use Rattle.ep_choice.proofs.GetsLemmas.{due_there, gets_same}
use Rattle.ep_choice.specs.Choose.{HaveInstances}
use Rattle.ep_choice.specs.Lost.{NotesLost, has_guards, may_guard}
use Rattle.ep_choice.specs.Marking.{AreLookedAt, due_in, gets_mark_key, woken_key}
use Rattle.ep_climb.proofs.ReachLemmas.{back}
use Rattle.ep_climb.specs.Mark.{attended, attends, left_at, resumed_at}
use Rattle.ep_climb.specs.Reach.{IsFrom}
use Rattle.ep_interest.proofs.PurgeLemmas.{numbered_number}
use Rattle.ep_interest.specs.Exclusive.{is_exclusive}
use Rattle.ep_interest.specs.Registrations.{numbered, settled}
use Rattle.ep_interest.specs.declared.entry.Entry.{Entry}
use Rattle.ep_law.proofs.GraphLemmas.{member_of_map}
use Rattle.ep_law.proofs.ListLemmas.{all_member, among, any_has, any_member, member_filter, member_map}
use Rattle.ep_law.proofs.MarkLemmas.{marked_parts, none_forgotten}
use Rattle.ep_law.proofs.ReachLemmas.{instance_is}
use Rattle.ep_law.proofs.RegularLemmas.{runs_are_regular}
use Rattle.ep_law.proofs.StepLemmas.{after_first, change_counted, change_n, refused_step, step_changed}
use Rattle.ep_law.specs.Laws.{Member, has_instance}
use Rattle.ep_machine.specs.Bits.{EXCLUSIVE, IN, has_bit}
use Rattle.ep_machine.specs.Deaths.{die_all}
use Rattle.ep_machine.specs.Effect.{first}
use Rattle.ep_machine.specs.Exclusive.{is_guarded}
use Rattle.ep_machine.specs.Files.{Files, Place, object_of}
use Rattle.ep_machine.specs.Lists.{is_among}
use Rattle.ep_machine.specs.Marks.{marked_by}
use Rattle.ep_machine.specs.Objects.{Object, instance, is_instance, plain}
use Rattle.ep_machine.specs.Refusal.{refusals}
use Rattle.ep_machine.specs.Settle.{settle}
use Rattle.ep_machine.specs.Spread.{raised_of}
use Rattle.ep_machine.specs.State.{Change, State, Waiter, Watch}
use Rattle.ep_machine.specs.Step.{change, next_event, step}
use Rattle.ep_machine.specs.Waits.{is_marked_at, marked_if_due, waits_at}
use Rattle.ep_machine.specs.Watches.{is_exclusive as is_exclusive_watch, links}
use Rattle.ep_nest.proofs.ElementLemmas.{Contains-cons, Contains-cons_cases, Contains-from_filter, Contains-from_map, Contains-head, Contains-nil}
use Rattle.ep_nest.specs.Chains.{IsAbove, LeadsBy}
use Rattle.ep_nest.specs.Links.{edges, ends_of}
use Rattle.ep_nest.specs.declared.link.Link.{Link}
use Rattle.ep_nest.specs.declared.link.Way.TheVariants.{Down}
use Rattle.ep_view.proofs.KindLemmas.{instance_of_kind}
use Rattle.ep_order.proofs.MarkLemmas.{at_any, waiter_there, waits_by}
use Rattle.ep_order.specs.Event.{end_of}
use Rattle.ep_order.specs.Mark.{HasLost, MarkedAreLookedAt}
use Rattle.ep_table.specs.Value.{Seen, number_under as desc_number}
use Rattle.ep_view.proofs.AtRestLemmas.{change_extends, quiet_begun, quiet_change}
use Rattle.ep_view.proofs.KernelViewLemmas.{kept_filter}
use Rattle.ep_view.proofs.MarkingLemmas.{marks_same}
use Rattle.ep_view.proofs.SettleLemmas.{settle_remains}
use Rattle.ep_view.specs.AtRest.{Changed, IsSteady, Remains, all_raised, can_be_watched, kind_of, marks_at_end, standing, wakes_at_end}
use Rattle.ep_view.specs.KernelView.{KernelWatch, climbed, climbing, climbing_all, freshened, kernel_watch, kernel_watches, reached_now, ready_now, stays_in}
use Rattle.ep_view.specs.Marking.{guarded_now, left_now, narrowed_now, wakes_now}

-- What climbs, while it is still passed on.
climbs_standing : (reached : ℕ → Bool) (v : Seen) (xs : List Entry) → map (watch_at v.keys) (map (risen reached v) xs) ≡ map (climbing reached v.files) (map (watch_at v.keys) xs)
climbs_standing reached v [] = refl
climbs_standing reached v (x ∷ xs) = ap (λ (ws : List KernelWatch). climbing reached v.files (watch_at v.keys x) ∷ ws) (climbs_standing reached v xs)

-- A mark that is gone before the due are marked.
still_marked : (now : ℕ) (ws : List Waiter) (e : ℕ) → is_marked_at (map (marked_if_due now) ws) e ≡ false → is_marked_at ws e ≡ false
still_marked now ws e h = elim (cases_Bool (is_marked_at ws e)) [
  | inl t ↦ absurd (false≢true (sym h ∙ still ws t))
  | inr f ↦ f
] where
  still : (us : List Waiter) → is_marked_at us e ≡ true → is_marked_at (map (marked_if_due now) us) e ≡ true
  still us t =
      let w = any_member (λ u. u.instance == e && u.marked) us t in
      any_has (λ u. u.instance == e && u.marked) (map (marked_if_due now) us) (marked_if_due now w.0) (member_map (marked_if_due now) w.0 us w.1) (and_or_more (w.0.instance == e) w.0.marked _ w.2)

-- who gets a mark has one then
gets_marked : (test : ℕ → Bool) (now : ℕ) (ws : List Waiter) (e : ℕ) → waits_at ws e ≡ true → test e ≡ true → is_marked_at (marked_by test now ws) e ≡ true
gets_marked test now ws e waits gets =
    none_forgotten test (map (marked_if_due now) ws) e
    (waits_by (marked_by test now ws) e ∙ (ap (at_any e) (marked_parts test (λ (w : Waiter). w.instance) (λ w m. refl) now ws) ∙ (sym (waits_by ws e) ∙ waits))) gets

-- the same state, by two equations of one step
same_state : (o : Option (Answer × State)) (a b : Answer) (u v : State) → o ≡ Some (a, u) → o ≡ Some (b, v) → u ≡ v
same_state o a b u v h k = ap (λ (q : Option (Answer × State)). unwrap_or (option_map (λ (r : Answer × State). r.1) q) u) (sym h ∙ k)

-- Bools.
turned_woken : (a b c t : Bool) → (a || c) ≡ t → (b || t) ≡ ((a || b) || c)
turned_woken true true c t h = refl
turned_woken true false c t h = sym h
turned_woken false true c t h = refl
turned_woken false false c t h = sym h

-- Registrations.
members_all : (P : Entry → Type 0) (xs : List Entry) → ((x : Entry) → Member x xs → P x) → All P xs
members_all P [] h = All-nil P
members_all P (x ∷ xs) h = All-cons P x xs (h x (inl refl)) (members_all P xs (λ y m. h y (inr m)))

found_there : (xs : List Entry) (n : ℕ) (x : Entry) → numbered xs n ≡ Some x → Member x xs
found_there [] n x h = absurd cc
found_there (y ∷ ys) n x h = elim (cases_Bool (y.number == n)) [
  | inl t ↦ inl (ap (λ (o : Option Entry). unwrap_or o x) (sym h ∙ ap (λ (b : Bool). cond b (Some y) (numbered ys n)) t))
  | inr f ↦ inr (found_there ys n x (sym (ap (λ (b : Bool). cond b (Some y) (numbered ys n)) f) ∙ h))
]

-- of a number that no member has nothing is found
none_numbered : (xs : List Entry) (n : ℕ) → ((x : Entry) → Member x xs → x.number ≡ n → ⊥) → numbered xs n ≡ None
none_numbered xs n h = by (numbered xs n) refl where
  by : (o : Option Entry) → numbered xs n ≡ o → numbered xs n ≡ None
  by None is = is
  by (Some x) is = absurd (h x (found_there xs n x is) (numbered_number xs n x is))

-- and of one that a member has something is
some_numbered : (xs : List Entry) (n : ℕ) (x : Entry) → Member x xs → x.number ≡ n → numbered xs n ≡ None → ⊥
some_numbered [] n x m e h = m
some_numbered (y ∷ ys) n x m e h = elim (cases_Bool (y.number == n)) [
  | inl t ↦ let no : Some y ≡ None = sym (ap (λ (b : Bool). cond b (Some y) (numbered ys n)) t) ∙ h in absurd cc
  | inr f ↦ elim m [
    | inl is ↦ false≢true (sym f ∙ same_test y.number n (ap (λ (z : Entry). z.number) (sym is) ∙ e))
    | inr k ↦ some_numbered ys n x k e (sym (ap (λ (b : Bool). cond b (Some y) (numbered ys n)) f) ∙ h)
  ]
]

contains_member : (xs : List Entry) (x : Entry) → Member x xs → Contains xs x
contains_member xs x m = all_contains xs x m where
  all_contains : (ys : List Entry) (y : Entry) → Member y ys → Contains ys y
  all_contains [] y k = absurd k
  all_contains (z ∷ zs) y (inl e) = subst (Contains (z ∷ zs)) (sym e) (Contains-head z zs)
  all_contains (z ∷ zs) y (inr k) = Contains-cons z zs y (all_contains zs y k)

member_contained : (xs : List Entry) (x : Entry) → Contains xs x → Member x xs
member_contained [] x h = absurd (Contains-nil x h)
member_contained (y ∷ ys) x h = elim (Contains-cons_cases y ys x h) [ inl e ↦ inl (sym e) | inr later ↦ inr (member_contained ys x later) ]

-- waiters under keys that stay
waiters_kept : (w u : Seen) → KeepsKeys w u → (ws : List Waiter) → ArePlaced w ws → waiters_at u.keys ws ≡ waiters_at w.keys ws
waiters_kept w u keeps [] placed = refl
waiters_kept w u keeps (x ∷ ws) placed =
    let one = number_kept w u (record { 0 = x.instance }) keeps (All-head (IsPlaced w.keys) x ws placed).instance in
    let rest = waiters_kept w u keeps ws (All-tail (IsPlaced w.keys) x ws placed) in
    λ i. record x { instance = one i } ∷ rest i

-- One event.
module _ (past : List Record) (old mid left : Parts) (keeps : Keeps past old) (caller : CallerId) (event : Event) (outcome : Outcome) (n : ℕ) (at : n ≡ length past + 1)
    (does : DoesAt (next_event keeps.state) caller.0 event outcome old mid) (keys : KeepsKeys old.tables mid.tables) (coherent : AreCoherent old) (spreads : Spreads n outcome.raising mid left) where
  abbrev s : State
  s = keeps.state

  abbrev b : State
  b = next_event s

  abbrev limits : Limits
  limits = old.tables.limits

  abbrev buried : Parts
  buried = spreads.buried

  abbrev v : Seen
  v = spreads.buried.tables

  abbrev was : List Entry
  was = spreads.buried.interest.entries

  abbrev reached : ℕ → Bool
  reached = reached_now v.files n (map (watch_at v.keys) was)

  leaves : Leaves n outcome.raising mid spreads.noted buried
  leaves = spreads.leaves

  abbrev noted_parts : Parts
  noted_parts = record mid { interest = spreads.noted }

  abbrev waited : List Waiter
  waited = waiters_at old.tables.keys old.parked

  abbrev raised : ℕ → Bool
  raised = raises_in outcome.raising mid.tables mid.clock

  -- what the event attends
  abbrev pub attend_of : Option DescId
  attend_of = attends (left_at left.parked caller.0 (resumed_at old.parked caller.0 event)) outcome.raising

  abbrev gets : ℕ → Bool
  gets = gets_mark_key n left attend_of

  abbrev number_left : ℕ → ℕ
  number_left k = number_at v.keys (record { 0 = k })

  standing_left : watches_of v left.interest ≡ climbing_all n v.files (watches_of v buried.interest)
  standing_left = ap (map (watch_at v.keys)) spreads.rises.entries ∙ climbs_standing reached v was

  attends_there : (e : ℕ) → waits_at left.parked e ≡ true → (raised (number_left e) || left_now waited (waiters_at v.keys buried.parked) (number_left e)) ≡ is_among (attended attend_of) e
  attends_there e waits = attends_is past old mid left keeps caller event outcome n does keys coherent spreads e waits

  gets_there : (e : ℕ) → waits_at left.parked e ≡ true → gets e ≡ gets_mark_in n waited raised buried (number_left e)
  gets_there e waits = gets_same n buried left waited raised attend_of e spreads.others standing_left (attends_there e waits)

  module _ (new : Parts) (rests : RestsBy (gets_mark_key n left attend_of) left new) where
    -- the end of an event is what the machine marks
    pub settles_marks : SettlesMarks n outcome.raising old mid noted_parts buried (record left { interest = new.interest }) new
    settles_marks = settles n outcome.raising mid left new (machine_marks n outcome.raising old mid buried) spreads (record {
      marks = rests.marks ∙ marks_same gets (λ k. gets_mark_in n waited raised buried (number_left k)) left.clock left.parked (λ w m. gets_there w.instance (member_waits left.parked w m));
      entries = rests.entries;
      keys = rests.keys;
      added = rests.added;
      others = rests.others;
    })

  -- the end of it, made up before it comes
  abbrev made_up : Parts
  made_up = rested gets left

  so : SettlesMarks n outcome.raising old mid noted_parts buried (record left { interest = made_up.interest }) made_up
  so = settles_marks made_up (rests_so gets left)

  abbrev after : List Record
  after = past ++ record_of caller event outcome ∷ []

  keeps_after : Keeps after made_up
  keeps_after = keeps_marked past old mid noted_parts buried (record left { interest = made_up.interest }) made_up keeps caller event outcome n at does so

  abbrev t : State
  t = keeps_after.state

  goes : step limits s caller.0 event outcome.picked ≡ Some (outcome.answer, t)
  goes =
      step_marked past old mid noted_parts buried (record left { interest = made_up.interest }) made_up keeps caller event outcome n at does so
      ∙ ap (λ (u : State). Some (outcome.answer, u)) (state_is after made_up keeps_after)

  tables_left : left.tables ≡ v
  tables_left = ap (λ (p : Parts). p.tables) spreads.others

  -- a registration that is left is one of the machine's
  left_watch : (x : Entry) → Member x left.interest.entries → (y : Watch) × Member y t.watches × (kernel_watch t y ≡ watch_at left.tables.keys (settled x))
  left_watch x m =
      member_of_map (kernel_watch t) t.watches (watch_at left.tables.keys (settled x))
      (subst (Member (watch_at left.tables.keys (settled x))) (sym keeps_after.stands.watches) (member_map (watch_at left.tables.keys) (settled x) (map settled left.interest.entries) (member_map settled x left.interest.entries m)))

  -- each registration is of an instance
  pub have_instances : HaveInstances left
  have_instances = members_all (λ x. is_nested_key left.tables x.instance ≡ true) left.interest.entries (λ x m.
      let y = left_watch x m in
      let of : has_instance t.files y.0.instance ≡ true = (runs_are_regular left.tables.limits after t keeps_after.leads).instances y.0 y.1 in
      (λ i. is_instance (unwrap_or (object_of (sym keeps_after.stands.files i) (sym y.2 i).instance) plain)) ∙ of)

  -- a change that is made
  module _ (allowed : first (refusals limits b caller.0 event) ≡ None) (m : Makes (change limits b caller.0 event outcome.picked) outcome.answer mid) where
    ends : t ≡ settle b m.made.1 m.made.2
    ends = same_state _ outcome.answer m.made.0 t (end_of s m.made) goes (step_changed limits s caller.0 event outcome.picked m.made allowed m.is)

    changed : Changed m.made.1
    changed = quiet_change limits b caller.0 event outcome.picked m.made (quiet_begun s keeps.quiet) allowed m.is

    settled_change : Remains m.made.1 m.made.2 (settle b m.made.1 m.made.2)
    settled_change = settle_remains b m.made.1 m.made.2 (change_counted limits s caller.0 event outcome.picked m.made m.is) changed

  -- An instance that gets a mark, at which somebody waits, none of them marked once the due are.
  module _ (law : MarkedAreLookedAt) (lost : List ℕ) (notes : NotesLost old left [] lost) (e : ℕ) (waits : waits_at left.parked e ≡ true) (none_marked : is_marked_at (due_in left) e ≡ false) (gets_mark : gets_mark_key n left attend_of e ≡ true) where
    abbrev i : DescId
    i = record { 0 = e }

    abbrev d : ℕ
    d = number_at v.keys i

    abbrev IsFound : Type 0
    IsFound = (woken_key n left attend_of e ≡ true) ⊎ ((j : ℕ) × (is_among lost j ≡ true) × IsFrom (edges left.graph) e j)

    mid_parked : left.parked ≡ mid.parked
    mid_parked = ap (λ (p : Parts). p.parked) spreads.others ∙ leaves.parked

    there_left : desc_number v i ≡ Some d
    there_left = is_buried past old mid left keeps caller event outcome n does keys coherent spreads e waits

    waits_then : (u : State) → StandFor mid u → waits_at u.waiters d ≡ true
    waits_then = waits_in past old mid left keeps caller event outcome n does keys coherent spreads e waits

    unmarked_then : (u : State) → StandFor mid u → is_marked_at u.waiters d ≡ false
    unmarked_then = unmarked_in past old mid left keeps caller event outcome n does keys coherent spreads e waits (ap (λ (ws : List Waiter). is_marked_at ws e) (sym mid_parked) ∙ still_marked left.clock left.parked e none_marked)

    by_refusal : (error : Errno) → first (refusals limits b caller.0 event) ≡ Some error → Refuses b error outcome.answer outcome.picked mid → IsFound
    by_refusal error refused r =
        let stays : t ≡ b = same_state _ outcome.answer _ t b (ap (step limits s caller.0 event) (sym r.unpicked) ∙ goes) (refused_step limits s caller.0 event error refused) in
        let marked : is_marked_at made_up.parked e ≡ true = gets_marked gets left.clock left.parked e waits gets_mark in
        let there : is_marked_at t.waiters (number_at left.tables.keys i) ≡ true =
        ap (λ (ws : List Waiter). is_marked_at ws (number_at left.tables.keys i)) keeps_after.stands.waiters ∙ marked_numbered (λ k. number_at left.tables.keys (record { 0 = k })) made_up.parked e marked in
        let mark : is_marked_at b.waiters d ≡ true = (λ k. is_marked_at (sym stays k).waiters (number_at (sym tables_left k).keys i)) ∙ there in
        absurd (false≢true (sym (unmarked_then b r.stands) ∙ mark))

    -- What lost a registration that may have guarded it.
    module _ (guarded : is_guarded s d ≡ true) (h : HasLost s t d) where
      found : (y : Entry) × Member y old.interest.entries × (watch_at old.tables.keys y ≡ kernel_watch s h.x)
      found = member_of_map (watch_at old.tables.keys) old.interest.entries (kernel_watch s h.x) (subst (Member (kernel_watch s h.x)) keeps.stands.watches (member_map (kernel_watch s) h.x s.watches h.there))

      abbrev y : Entry
      y = found.0

      may : may_guard old.tables y ≡ true
      may = (λ k. has_bit (found.2 k).mask EXCLUSIVE || is_instance (unwrap_or (object_of (sym keeps.stands.files k) (found.2 k).target) plain)) ∙ h.guards

      some_guards : has_guards old.interest ≡ true
      some_guards = elim (cases_Bool (has_guards old.interest)) [
        | inl some ↦ some
        | inr none ↦ absurd (false≢true (sym (none_guarded s (λ x m. elim (cases_Bool (is_exclusive_watch x)) [
          | inl is ↦
              let z = member_of_map (watch_at old.tables.keys) old.interest.entries (kernel_watch s x) (subst (Member (kernel_watch s x)) keeps.stands.watches (member_map (kernel_watch s) x s.watches m)) in
              absurd (false≢true (sym none ∙ any_has is_exclusive old.interest.entries z.0 z.1 (ap (λ (k : KernelWatch). has_bit k.mask EXCLUSIVE) z.2 ∙ is)))
          | inr isnt ↦ isnt
        ]) d) ∙ guarded))
      ]

      gone : numbered left.interest.entries y.number ≡ None
      gone = none_numbered left.interest.entries y.number (λ x m same.
          let w = left_watch x m in
          let number_is : w.0.number ≡ h.x.number = ap (λ (k : KernelWatch). k.number) w.2 ∙ (same ∙ ap (λ (k : KernelWatch). k.number) found.2) in
          false≢true (sym h.gone ∙ among h.x.number (map (λ (z : Watch). z.number) t.watches) (subst (λ (k : ℕ). Member k (map (λ (z : Watch). z.number) t.watches)) number_is (member_map (λ (z : Watch). z.number) w.0 t.watches w.1))))

      number_then : desc_number mid.tables y.instance ≡ Some h.x.instance
      number_then =
          let link = all_member (IsLinked old.tables.keys) old.interest.entries y coherent.linked found.1 in
          keys y.instance h.x.instance (some_of (desc_number old.tables y.instance) h.x.instance link.instance (ap (λ (k : KernelWatch). k.instance) found.2))

      same_key : (k : ℕ) → desc_number v (record { 0 = k }) ≡ Some h.x.instance → k ≡ y.instance.0
      same_key k is = leaves.tables.one (record { 0 = k }) y.instance h.x.instance (leaves.burial.buries.keys (record { 0 = k }) h.x.instance is) number_then

      nested_then : AreNested v made_up.interest buried.graph
      nested_then =
          let q : Entry → Bool = is_nested v in
          let r = made_up.interest in
          leaves.coherent_buried.nested
          ∙ sym (ap (λ (xs : List Entry). map (link_of r) (filter q xs)) (ap (map settled) spreads.rises.entries)
          ∙ (links_mapped r q settled (λ x. refl) (λ x. refl) (map (risen reached v) was)
          ∙ (links_mapped r q (risen reached v) (λ x. refl) (λ x. refl) was ∙ links_by_keys buried.interest r q was spreads.keys)))

      links_then : links t ≡ map (λ l. (number v l.0, number v l.1)) (edges buried.graph)
      links_then = links_are v made_up.interest left.clock t (subst (λ (w : Seen). Stands w made_up.interest made_up.parked left.clock t) tables_left keeps_after.stands) so.climbs.linked buried.graph nested_then

      ends_live : (l : ℕ × ℕ) → Contains (edges buried.graph) l → Lives v l.0 × Lives v l.1
      ends_live l there =
          let k = Contains-from_map (ends_of Down) buried.graph l there in
          let m = Contains-from_map (link_of buried.interest) (filter (is_nested v) was) k.0 (subst (λ (ls : List Link). Contains ls k.0) leaves.coherent_buried.nested k.1) in
          let x = Contains-from_filter (is_nested v) was m.0 m.1 in
          let link = All-contains (IsLinked v.keys) was m.0 leaves.coherent_buried.linked x.0 in
          let whole : (m.0.instance.0, m.0.desc.0) ≡ l = ap (ends_of Down) m.2 ∙ k.2 in
          subst (λ (p : ℕ × ℕ). Lives v p.0 × Lives v p.1) whole (link.instance, link.desc)

      from : (d ≡ h.x.instance) ⊎ IsAbove (links t) d h.x.instance → IsFrom (edges buried.graph) e y.instance.0 × IsSome (desc_number v y.instance)
      from (inl here) =
          let is : desc_number v i ≡ Some h.x.instance = there_left ∙ ap (λ (k : ℕ). Some k) here in
          let same = same_key e is in
          (inl same, subst (λ (k : ℕ). IsSome (desc_number v (record { 0 = k }))) same (subst (λ (o : Option ℕ). IsSome o) (sym is) refl))
      from (inr up) =
          let lives : Lives v e = subst (λ (o : Option ℕ). IsSome o) (sym there_left) refl in
          let chain = back (number v) (Lives v) (numbers_apart v leaves.tables_buried) (edges buried.graph) ends_live (suc up.0) e d h.x.instance lives refl (subst (λ (ls : List (ℕ × ℕ)). LeadsBy ls (suc up.0) d h.x.instance) links_then up.1) in
          let same = same_key chain.0 (some_of (desc_number v (record { 0 = chain.0 })) h.x.instance chain.1 chain.2) in
          (inr (up.0, subst (LeadsBy (edges buried.graph) (suc up.0) e) same chain.3), subst (λ (k : ℕ). IsSome (desc_number v (record { 0 = k }))) same chain.1)

      by_loss : IsFound
      by_loss =
          let place = from h.stands in
          inr (
            y.instance.0,
            notes.noted some_guards y (contains_member old.interest.entries y found.1) may gone (subst (λ (w : Seen). IsSome (desc_number w y.instance)) (sym tables_left) place.1),
            subst (λ (p : Parts). IsFrom (edges p.graph) e y.instance.0) (sym spreads.others) place.0,
          )

    module _ (allowed : first (refusals limits b caller.0 event) ≡ None) (m : Makes (change limits b caller.0 event outcome.picked) outcome.answer mid) (as_raised : AsRaisedIn m.made.1.files outcome.raising mid.tables mid.clock m.made.2) where
      abbrev c : Change
      c = m.made

      abbrev z : State
      z = settle b c.1 c.2

      led : t ≡ z
      led = ends allowed m

      was_changed : Changed c.1
      was_changed = changed allowed m

      remains : Remains c.1 c.2 z
      remains = settled_change allowed m

      begins : s.n + 1 ≡ n
      begins = ap (λ (k : ℕ). k + 1) keeps.n ∙ sym at

      at_c : c.1.n ≡ n
      at_c = change_n limits b caller.0 event outcome.picked c m.is ∙ begins

      counted : (0 == n) ≡ false
      counted = ap (λ (k : ℕ). 0 == k) (sym begins) ∙ after_first s.n

      same_files : z.files ≡ v.files
      same_files = ap (λ (u : State). u.files) (sym led) ∙ (keeps_after.stands.files ∙ ap (λ (w : Seen). w.files) tables_left)

      same_clock : z.now ≡ buried.clock
      same_clock = remains.now ∙ (m.stands.now ∙ sym leaves.clock)

      same_waiters : c.1.waiters ≡ waiters_at v.keys buried.parked
      same_waiters =
          m.stands.waiters
          ∙ (waiters_kept v mid.tables leaves.burial.buries.keys mid.parked (subst (λ (ws : List Waiter). ArePlaced v ws) leaves.parked leaves.coherent_buried.placed)
          ∙ ap (waiters_at v.keys) (sym leaves.parked))

      abbrev zs : List KernelWatch
      zs = climbing_all n v.files (watches_of v buried.interest)

      same_standing : standing c.1 c.2 z.files ≡ zs
      same_standing =
          (λ k. climbing_all (at_c k) z.files (map (freshened (at_c k) (all_raised c.1 c.2)) (filter (stays_in z.files) (kernel_watches c.1 c.1.watches))))
          ∙ (ap (λ (ws : List KernelWatch). climbing_all n z.files (map (freshened n (all_raised c.1 c.2)) ws)) (sym (kept_filter c.1 (stays_in z.files) c.1.watches))
          ∙ (λ k. climbing_all n (same_files k) (kept_watches n outcome.raising mid spreads.noted buried leaves b c m.stands was_changed remains at_c counted as_raised same_files k)))

      raised_is : has_bit (raised_of c.2 d) IN ≡ raised d
      raised_is =
          let w = waiter_there (λ x. kind_of (object_of c.1.files x.instance) ≡ 1) c.1.waiters d was_changed.waiting (waits_then c.1 m.stands) in
          ap (λ (k : ℕ). has_bit k IN) (as_raised d (ap (λ (k : ℕ). nat_lt 0 k) (ap (λ (k : ℕ). kind_of (object_of c.1.files k)) (sym w.2) ∙ w.1)))

      abbrev ws : List Waiter
      ws = waiters_at v.keys buried.parked

      abbrev due : List Waiter
      due = map (marked_if_due buried.clock) ws

      abbrev reaches : Bool
      reaches = reached_now v.files n (narrowed_now v.files n zs (ready_now v.files buried.clock zs) due) d

      abbrev wakes : Bool
      wakes = raised d || reaches || left_now waited ws d

      wakes_is : wakes_at_end s.waiters c.1 c.2 z d ≡ wakes
      wakes_is =
          (λ k. wakes_now (same_files k) (same_clock k) (at_c k) (same_standing k) (map (marked_if_due (same_clock k)) (same_waiters k)) (λ x. has_bit (raised_of c.2 x) IN) (left_now (keeps.stands.waiters k) (same_waiters k)) d)
          ∙ ap (λ (a : Bool). a || reaches || left_now waited ws d) raised_is

      marks_is : marks_at_end s.waiters c.1 c.2 z d ≡ gets_mark_in n waited raised buried d
      marks_is =
          (λ k. ready_now (same_files k) (same_clock k) (same_standing k) d && (not (guarded_now (same_standing k) d) || wakes_at_end s.waiters c.1 c.2 z d))
          ∙ ap (λ (a : Bool). ready_now v.files buried.clock zs d && (not (guarded_now zs d) || a)) wakes_is

      woken_is : woken_key n left attend_of e ≡ wakes
      woken_is =
          let near : List Waiter = waiters_at v.keys (map (marked_if_due buried.clock) buried.parked) in
          let by : List KernelWatch → List Waiter → Bool = λ xs us. reached_now v.files n (narrowed_now v.files n xs (ready_now v.files buried.clock xs) us) d in
          ap (λ (u : Parts). woken_key n u attend_of e) spreads.others
          ∙ (ap (λ (xs : List KernelWatch). by xs near || is_among (attended attend_of) e) standing_left
          ∙ (ap (λ (us : List Waiter). by zs us || is_among (attended attend_of) e) (due_there v.keys buried.clock buried.parked)
          ∙ turned_woken (raised d) reaches (left_now waited ws d) (is_among (attended attend_of) e) (attends_there e waits)))

      by_change : IsFound
      by_change = elim (law limits past s caller.0 event outcome.picked c d keeps.leads allowed m.is (waits_then c.1 m.stands) (unmarked_then c.1 m.stands) (marks_is ∙ (sym (gets_there e waits) ∙ gets_mark))) [
        | inl woken ↦ inl (woken_is ∙ (sym wakes_is ∙ woken))
        | inr lost_one ↦ by_loss lost_one.0 (subst (λ (u : State). HasLost s u d) (sym led) lost_one.1)
      ]

    by_cases : (o : Option Errno) → first (refusals limits b caller.0 event) ≡ o
        → MatchOption o (Makes (change limits b caller.0 event outcome.picked) outcome.answer mid) (λ error. Refuses b error outcome.answer outcome.picked mid)
        → MatchOption o ((made : Change) → change limits b caller.0 event outcome.picked ≡ Some made → AsRaisedIn made.1.files outcome.raising mid.tables mid.clock made.2) (λ error. AsRaised outcome.raising mid.tables mid.clock []) → IsFound
    by_cases None h m raises = by_change h m (raises m.made m.is)
    by_cases (Some error) h r raises = by_refusal error h r

    is_found : IsFound
    is_found = by_cases (first (refusals limits b caller.0 event)) refl does.goes does.raises

  -- whom the event is to mark is looked at
  pub looked_at : MarkedAreLookedAt → (lost : List ℕ) → NotesLost old left [] lost → AreLookedAt n left lost attend_of
  looked_at law lost notes e waits none_marked gets_mark = is_found law lost notes e waits none_marked gets_mark

  -- What was lost over the event: by the change, and then by the burial.

  -- no number is gone that the machine has then
  none_gone : (k : KernelWatch) → Member k (kernel_watches t t.watches) → (number : ℕ) → k.number ≡ number → numbered left.interest.entries number ≡ None → ⊥
  none_gone k m number is gone =
      let w = member_of_map (watch_at left.tables.keys) (map settled left.interest.entries) k (subst (Member k) keeps_after.stands.watches m) in
      let x = member_of_map settled left.interest.entries w.0 w.1 in
      some_numbered left.interest.entries number x.0 x.1 (ap (λ (y : Entry). y.number) x.2 ∙ (ap (λ (u : KernelWatch). u.number) w.2 ∙ is)) gone

  -- a registration that there was
  old_watch : (x : Entry) → Member x old.interest.entries → (w : Watch) × Member w s.watches × (kernel_watch s w ≡ watch_at old.tables.keys x)
  old_watch x m = member_of_map (kernel_watch s) s.watches (watch_at old.tables.keys x) (subst (Member (watch_at old.tables.keys x)) (sym keeps.stands.watches) (member_map (watch_at old.tables.keys) x old.interest.entries m))

  -- a refusal loses none
  refused_left : (error : Errno) → first (refusals limits b caller.0 event) ≡ Some error → Refuses b error outcome.answer outcome.picked mid → (x : Entry) → Member x old.interest.entries → numbered left.interest.entries x.number ≡ None → ⊥
  refused_left error refused r x m gone =
      let stays : t ≡ b = same_state _ outcome.answer _ t b (ap (step limits s caller.0 event) (sym r.unpicked) ∙ goes) (refused_step limits s caller.0 event error refused) in
      let w = old_watch x m in
      let there : Member (kernel_watch b w.0) (kernel_watches t t.watches) = subst (λ (u : State). Member (kernel_watch b w.0) (kernel_watches u u.watches)) (sym stays) (member_map (kernel_watch b) w.0 b.watches w.1) in
      none_gone (kernel_watch b w.0) there x.number (ap (λ (k : KernelWatch). k.number) w.2) gone

  module _ (allowed : first (refusals limits b caller.0 event) ≡ None) (m : Makes (change limits b caller.0 event outcome.picked) outcome.answer mid) where
    abbrev made : Change
    made = m.made

    abbrev ended : State
    ended = settle b made.1 made.2

    -- where nothing dies a burial loses none
    named_left : SameNames b made.1 → (y : Entry) → Member y mid.interest.entries → numbered left.interest.entries y.number ≡ None → ⊥
    named_left same y there gone =
        let w = member_of_map (kernel_watch made.1) made.1.watches (watch_at mid.tables.keys y) (subst (Member (watch_at mid.tables.keys y)) (sym m.stands.watches) (member_map (watch_at mid.tables.keys) y mid.interest.entries there)) in
        let k = kernel_watch made.1 w.0 in
        let files : made.1.files ≡ ended.files = sym ((settled_change allowed m).files ∙ ap (λ (xs : List (ℕ × Place)). (die_all (made.1.files, []) xs).0) (none_dies b made.1 (quiet_begun s keeps.quiet) same)) in
        let steady = all_member (λ (u : Watch). IsSteady made.1.files u.instance u.target) made.1.watches w.0 (changed allowed m).watches w.1 in
        let stays : stays_in ended.files k ≡ true = ap (λ (f : Files). stays_in f k) (sym files) ∙ (λ i. steady.instance_lives i && steady.target_lives i) in
        let kept : List KernelWatch = filter (stays_in ended.files) (kernel_watches made.1 made.1.watches) in
        let raise : KernelWatch → KernelWatch = freshened made.1.n (all_raised made.1 made.2) in
        let climb : KernelWatch → KernelWatch = climbed (reached_now ended.files made.1.n (map raise kept)) ended.files in
        let here : Member (climb (raise k)) (map climb (map raise kept)) = member_map climb (raise k) (map raise kept) (member_map raise k kept (member_filter (stays_in ended.files) k (kernel_watches made.1 made.1.watches) (member_map (kernel_watch made.1) w.0 made.1.watches w.1) stays)) in
        let then : Member (climb (raise k)) (kernel_watches t t.watches) = subst (λ (u : State). Member (climb (raise k)) (kernel_watches u u.watches)) (sym (ends allowed m)) (subst (Member (climb (raise k))) (sym (settled_change allowed m).watches) here) in
        none_gone (climb (raise k)) then y.number (ap (λ (u : KernelWatch). u.number) w.2) gone

    -- where it leaves all registrations, each is there still
    module _ (cores : SameCores b made.1) (x : Entry) (there : Member x old.interest.entries) where
      watch_then : (w : Watch) × Member w made.1.watches × (core w ≡ core (old_watch x there).0)
      watch_then = member_of_map core made.1.watches (core (old_watch x there).0) (subst (Member (core (old_watch x there).0)) (sym cores) (member_map core (old_watch x there).0 s.watches (old_watch x there).1))

      entry_then : (y : Entry) × Member y mid.interest.entries × (watch_at mid.tables.keys y ≡ kernel_watch made.1 watch_then.0)
      entry_then = member_of_map (watch_at mid.tables.keys) mid.interest.entries (kernel_watch made.1 watch_then.0) (subst (Member (kernel_watch made.1 watch_then.0)) m.stands.watches (member_map (kernel_watch made.1) watch_then.0 made.1.watches watch_then.1))

      abbrev kept_entry : Entry
      kept_entry = entry_then.0

      same_number : kept_entry.number ≡ x.number
      same_number = ap (λ (k : KernelWatch). k.number) entry_then.2 ∙ (ap (λ (w : Watch). w.number) watch_then.2 ∙ ap (λ (k : KernelWatch). k.number) (old_watch x there).2)

      same_mask : kept_entry.mask.0 ≡ x.mask.0
      same_mask = ap (λ (k : KernelWatch). k.mask) entry_then.2 ∙ (ap (λ (w : Watch). w.mask) watch_then.2 ∙ ap (λ (k : KernelWatch). k.mask) (old_watch x there).2)

      same_home : number_at mid.tables.keys kept_entry.instance ≡ number_at old.tables.keys x.instance
      same_home = ap (λ (k : KernelWatch). k.instance) entry_then.2 ∙ (ap (λ (w : Watch). w.instance) watch_then.2 ∙ ap (λ (k : KernelWatch). k.instance) (old_watch x there).2)

      same_target : number_at mid.tables.keys kept_entry.desc ≡ number_at old.tables.keys x.desc
      same_target = ap (λ (k : KernelWatch). k.target) entry_then.2 ∙ (ap (λ (w : Watch). w.target) watch_then.2 ∙ ap (λ (k : KernelWatch). k.target) (old_watch x there).2)

      same_instance : kept_entry.instance.0 ≡ x.instance.0
      same_instance =
          let one = (all_member (IsLinked mid.tables.keys) mid.interest.entries kept_entry leaves.coherent.linked entry_then.1).instance in
          let two = (all_member (IsLinked old.tables.keys) old.interest.entries x coherent.linked there).instance in
          let home = number_at old.tables.keys x.instance in
          leaves.tables.one kept_entry.instance x.instance home (some_of (desc_number mid.tables kept_entry.instance) home one same_home) (keys x.instance home (some_of (desc_number old.tables x.instance) home two refl))

      nested_stays : is_nested old.tables x ≡ true → is_nested mid.tables kept_entry ≡ true
      nested_stays nested =
          let target = number_at old.tables.keys x.desc in
          let files : old.tables.files ≡ s.files = sym keeps.stands.files in
          let was_one : object_of s.files target ≡ Some instance = ap (λ (f : Files). object_of f target) (sym files) ∙ instance_is (object_of old.tables.files target) nested in
          let kind : kind_of (object_of made.1.files target) ≡ 1 =
          (change_extends limits b caller.0 event outcome.picked made (quiet_begun s keeps.quiet) allowed m.is).shows target (ap can_be_watched was_one) ∙ ap kind_of was_one in
          (λ i. is_instance (unwrap_or (object_of (sym m.stands.files i) (same_target i)) plain)) ∙ ap (λ (o : Option Object). is_instance (unwrap_or o plain)) (instance_of_kind (object_of made.1.files target) kind)

      guards_then : is_exclusive x ≡ true → is_exclusive kept_entry ≡ true
      guards_then is = ap (λ (k : ℕ). has_bit k EXCLUSIVE) same_mask ∙ is

      may_then : may_guard old.tables x ≡ true → may_guard mid.tables kept_entry ≡ true
      may_then h = elim (or_cases (is_exclusive x) (is_nested old.tables x) h) [
        | inl is ↦ or_left (is_exclusive kept_entry) (is_nested mid.tables kept_entry) (guards_then is)
        | inr nested ↦ or_right (is_exclusive kept_entry) (is_nested mid.tables kept_entry) (nested_stays nested)
      ]

    all_guards : SameCores b made.1 → has_guards old.interest ≡ true → has_guards mid.interest ≡ true
    all_guards cores h =
        let x = any_member is_exclusive old.interest.entries h in
        any_has is_exclusive mid.interest.entries (entry_then cores x.0 x.1).0 (entry_then cores x.0 x.1).1 (guards_then cores x.0 x.1 x.2)

  module _ (ks ls : List ℕ) (one : NotesLost old mid [] ks) (two : NotesLost mid left ks ls) (guards : has_guards old.interest ≡ true) (x : Entry) (there : Contains old.interest.entries x) (member : Member x old.interest.entries) (may : may_guard old.tables x ≡ true)
      (gone : numbered left.interest.entries x.number ≡ None) (lives : IsSome (desc_number left.tables x.instance)) where
    lives_mid : IsSome (desc_number mid.tables x.instance)
    lives_mid = some_kept v mid.tables x.instance leaves.burial.buries.keys (subst (λ (w : Seen). IsSome (desc_number w x.instance)) tables_left lives)

    named : (allowed : first (refusals limits b caller.0 event) ≡ None) (m : Makes (change limits b caller.0 event outcome.picked) outcome.answer mid) → SameNames b m.made.1 → (o : Option Entry) → numbered mid.interest.entries x.number ≡ o → is_among ls x.instance.0 ≡ true
    named allowed m same None is = two.still x.instance.0 (one.noted guards x there may is lives_mid)
    named allowed m same (Some y) is =
        let number : y.number ≡ x.number = numbered_number mid.interest.entries x.number y is in
        absurd (named_left allowed m same y (found_there mid.interest.entries x.number y is) (ap (numbered left.interest.entries) number ∙ gone))

    by_cores : (allowed : first (refusals limits b caller.0 event) ≡ None) (m : Makes (change limits b caller.0 event outcome.picked) outcome.answer mid) → SameCores b m.made.1 → is_among ls x.instance.0 ≡ true
    by_cores allowed m cores =
        let y = entry_then allowed m cores x member in
        let home = same_instance allowed m cores x member in
        ap (is_among ls) (sym home)
        ∙ two.noted (all_guards allowed m cores guards) y.0 (contains_member mid.interest.entries y.0 y.1) (may_then allowed m cores x member may)
        (ap (numbered left.interest.entries) (same_number allowed m cores x member) ∙ gone) (subst (λ (k : ℕ). IsSome (desc_number left.tables (record { 0 = k }))) (sym home) lives)

    by_refusal_or_change : (o : Option Errno) → first (refusals limits b caller.0 event) ≡ o
        → MatchOption o (Makes (change limits b caller.0 event outcome.picked) outcome.answer mid) (λ error. Refuses b error outcome.answer outcome.picked mid) → is_among ls x.instance.0 ≡ true
    by_refusal_or_change None h m = elim (change_leaves limits b caller.0 event outcome.picked m.made m.is) [
      | inl same ↦ named h m same (numbered mid.interest.entries x.number) refl
      | inr cores ↦ by_cores h m cores
    ]
    by_refusal_or_change (Some error) h r = absurd (refused_left error h r x member gone)

    by_event : is_among ls x.instance.0 ≡ true
    by_event = by_refusal_or_change (first (refusals limits b caller.0 event)) refl does.goes

  pub notes_event : (ks ls : List ℕ) → NotesLost old mid [] ks → NotesLost mid left ks ls → NotesLost old left [] ls
  notes_event ks ls one two = record {
    noted = λ guards x there may gone lives. by_event ks ls one two guards x there (member_contained old.interest.entries x there) may gone lives;
    still = λ i h. absurd (false≢true h);
  }
