-- An event attends the instance at which it raised IN, or the one that a caller left.
use Rattle.std.proofs.Common.{◌≡◌, ◌∙◌, ◌&&◌, ◌||◌, ◌==◌, ℕ, All, Bool, true, false, IsSome, List, [], ◌∷◌, None, Option, Some, ap, cond, if◌then◌else◌, inl, inr, map, nat_lt, not, refl, subst, sym, unwrap_or}
use Rattle.std.specs.List.{find, list_any}
use Rattle.std.specs.Option.{option_map}
use Rattle.std.specs.Prelude.{MatchOption}
use Rattle.std.proofs.lemmas.Bool.{cases_Bool, false≢true}
use Rattle.ep_facts.proofs.NatFacts.{from_test, same_nat, same_test}
use Rattle.ep_facts.proofs.BoolFacts.{first_of_and, or_left, or_nothing as one, or_right, same_bools, second_of_and}
use Rattle.ep_base.specs.declared.call.Event.{Event}
use Rattle.ep_base.specs.declared.call.Event.TheVariants.{Call as CallOf, Resume, Tick}
use Rattle.ep_base.specs.declared.errno.Errno.{Errno}
use Rattle.ep_base.specs.declared.ids.CallerId.{CallerId}
use Rattle.ep_base.specs.declared.ids.DescId.{DescId}
use Rattle.ep_base.specs.declared.record.Record.{Record}
use Rattle.ep_calls.proofs.AttendLemmas.{raises_in_is}
use Rattle.ep_calls.proofs.HoldLemmas.{numbers_apart_at}
use Rattle.ep_calls.proofs.KeepsLemmas.{DoesAt}
use Rattle.ep_calls.proofs.KeyLemmas.{number_kept}
use Rattle.ep_calls.proofs.NothingRaisedLemmas.{resume_raises}
use Rattle.ep_calls.proofs.ParkLemmas.{found_all}
use Rattle.ep_calls.specs.Ends.{Leaves, Spreads}
use Rattle.ep_calls.specs.Keeps.{Keeps}
use Rattle.ep_calls.specs.Moves.{Makes, Refuses, StandFor}
use Rattle.ep_calls.specs.Parking.{raises_at, raises_in}
use Rattle.ep_calls.specs.Parts.{AreCoherent, Parts}
use Rattle.ep_calls.specs.Raising.{AsRaised, AsRaisedIn, raised_bits}
use Rattle.ep_calls.specs.Stands.{IsPlaced, KeepsKeys, number_at, waiters_at}
use Rattle.ep_calls.specs.declared.outcome.Outcome.{Outcome}
use Rattle.ep_calls.specs.declared.raising.Raising.{Raising}
use Rattle.ep_calls.specs.declared.raising.Raising.TheVariants.{Clock, Instance, Losses, Nowhere, Object as AtObject}
use Rattle.ep_climb.proofs.MarkLemmas.{lives_where}
use Rattle.ep_climb.specs.Mark.{attended, attends, left_at, resumed_at}
use Rattle.ep_law.proofs.ListLemmas.{any_has, any_member, any_same, member_map}
use Rattle.ep_law.specs.Laws.{Member}
use Rattle.ep_machine.specs.Bits.{IN, has_bit}
use Rattle.ep_machine.specs.Effect.{first}
use Rattle.ep_machine.specs.Exclusive.{is_left}
use Rattle.ep_machine.specs.Files.{Files, object_of}
use Rattle.ep_machine.specs.Lists.{is_among}
use Rattle.ep_machine.specs.Objects.{instance}
use Rattle.ep_machine.specs.Refusal.{refusals}
use Rattle.ep_machine.specs.Spread.{raised_of}
use Rattle.ep_machine.specs.State.{Change, State, Waiter}
use Rattle.ep_machine.specs.Step.{change, next_event}
use Rattle.ep_machine.specs.Waits.{is_marked_at, is_parked, resume, waits_at}
use Rattle.ep_order.proofs.LeftLemmas.{leaves_by_resuming}
use Rattle.ep_view.proofs.KindLemmas.{instance_of_kind}
use Rattle.ep_order.proofs.MarkLemmas.{waiter_there}
use Rattle.ep_order.specs.Mark.{LeavesResumed, ResumesAt}
use Rattle.ep_park.specs.Waiters.{is_caller}
use Rattle.ep_table.specs.Value.{Seen, number_under as desc_number}
use Rattle.ep_view.proofs.AtRestLemmas.{quiet_begun, quiet_change}
use Rattle.ep_view.proofs.WaiterLemmas.{AreApart, any_at, find_at, parked_at}
use Rattle.ep_view.specs.AtRest.{can_be_watched, kind_of}
use Rattle.ep_view.specs.KernelView.{at_number}
use Rattle.ep_view.specs.Marking.{left_now}

-- Waiters under other numbers.
waits_member : (ws : List Waiter) (e : ℕ) → waits_at ws e ≡ true → Member e (map (λ w. w.instance) ws)
waits_member [] e h = absurd (false≢true h)
waits_member (w ∷ ws) e h = elim (cases_Bool (w.instance == e)) [
  | inl here ↦ inl (sym (from_test w.instance e here))
  | inr other ↦ inr (waits_member ws e (sym (ap (λ (b : Bool). b || waits_at ws e) other) ∙ h))
]

-- who waits at an instance is one of the waiters
pub member_waits : (ws : List Waiter) (w : Waiter) → Member w ws → waits_at ws w.instance ≡ true
member_waits ws w m = any_has (λ v. v.instance == w.instance) ws w m (same_nat w.instance)

module _ (number : ℕ → ℕ) where
  pub waits_numbered : (ws : List Waiter) (e : ℕ) → waits_at ws e ≡ true → waits_at (map (at_number number) ws) (number e) ≡ true
  waits_numbered [] e h = absurd (false≢true h)
  waits_numbered (w ∷ ws) e h = elim (cases_Bool (w.instance == e)) [
    | inl here ↦ or_left _ _ (same_test (number w.instance) (number e) (ap number (from_test w.instance e here)))
    | inr other ↦ or_right _ _ (waits_numbered ws e (sym (ap (λ (b : Bool). b || waits_at ws e) other) ∙ h))
  ]

  pub marks_numbered : (ws : List Waiter) (e : ℕ) → AreApart number ws → waits_at ws e ≡ true → is_marked_at (map (at_number number) ws) (number e) ≡ is_marked_at ws e
  marks_numbered ws e apart waits =
      any_at number (λ w. w.instance == number e && w.marked) (λ w. number w.instance == number e && w.marked) (λ w. refl) ws
      ∙ any_same (λ w. number w.instance == number e && w.marked) (λ w. w.instance == e && w.marked) ws
      (λ w m. ap (λ (b : Bool). b && w.marked) (apart w.instance e (member_map (λ u. u.instance) w ws m) (waits_member ws e waits)))

  -- a mark stays there
  pub marked_numbered : (ws : List Waiter) (e : ℕ) → is_marked_at ws e ≡ true → is_marked_at (map (at_number number) ws) (number e) ≡ true
  marked_numbered ws e h =
      let w = any_member (λ u. u.instance == e && u.marked) ws h in
      let at : w.0.instance ≡ e = from_test w.0.instance e (first_of_and (w.0.instance == e) w.0.marked w.2) in
      let marked : w.0.marked ≡ true = second_of_and (w.0.instance == e) w.0.marked w.2 in
      any_has (λ u. u.instance == number e && u.marked) (map (at_number number) ws) (at_number number w.0) (member_map (at_number number) w.0 ws w.1)
      (λ i. same_test (number w.0.instance) (number e) (ap number at) i && marked i)

  -- under which numbers others wait now plays no part in who left
  left_callers : (old ws : List Waiter) (e : ℕ) → left_now old (map (at_number number) ws) e ≡ left_now old ws e
  left_callers [] ws e = refl
  left_callers (w ∷ old) ws e = λ i. w.instance == e && not (parked_at number w.caller ws i) || left_callers old ws e i

-- nobody left who is still there
none_left : {X : Type 0} (ws : List Waiter) (e : ℕ) → left_now ws ws e ≡ true → X
none_left ws e h =
    let w = any_member (λ w. w.instance == e && not (list_any (λ v. v.caller == w.caller) ws)) ws h in
    let gone = second_of_and (w.0.instance == e) (not (list_any (λ v. v.caller == w.0.caller) ws)) w.2 in
    let there : list_any (λ v. v.caller == w.0.caller) ws ≡ true = any_has (λ v. v.caller == w.0.caller) ws w.0 w.1 (same_nat w.0.caller) in
    absurd (false≢true (ap not (sym there) ∙ gone))

found_any : (c : ℕ) (ws : List Waiter) (w : Waiter) → find (λ v. v.caller == c) ws ≡ Some w → list_any (λ v. v.caller == c) ws ≡ true
found_any c [] w h = cc
found_any c (v ∷ ws) w h = elim (cases_Bool (v.caller == c)) [
  | inl t ↦ or_left _ _ t
  | inr f ↦ or_right _ _ (found_any c ws w (sym (ap (λ (b : Bool). cond b (Some v) (find (λ u. u.caller == c) ws)) f) ∙ h))
]

pub some_of : (o : Option ℕ) (d : ℕ) → IsSome o → unwrap_or o 0 ≡ d → o ≡ Some d
some_of None d h e = absurd (false≢true h)
some_of (Some k) d h e = ap (λ (j : ℕ). Some j) e

-- The state for which the parts stand after the change of an event that began at state b.
pub record Stood (old mid : Parts) (b : State) (caller : ℕ) (event : Event) (raising : Raising) (u : State) : Type 0 where
  pub stands : StandFor mid u
  pub waiting : All (λ w. kind_of (object_of u.files w.instance) ≡ 1) u.waiters
  pub leaves : (d : ℕ) → LeavesResumed b caller event u d
  pub silent : (j : DescId) → resumed_at old.parked caller event ≡ Some j → (d : ℕ) → can_be_watched (object_of u.files d) ≡ true → raised_bits raising mid.tables mid.clock d ≡ 0

-- who resumes is parked
resumer_parked : (b : State) (caller : ℕ) (event : Event) (d : ℕ) → ResumesAt b caller event d → is_parked b caller ≡ true
resumer_parked b caller (CallOf p call) d h = absurd h
resumer_parked b caller (Tick k) d h = absurd h
resumer_parked b caller Resume d h = found_any caller b.waiters h.0 h.1

-- where nothing changed nobody left
stayed : (b : State) (caller : ℕ) (event : Event) (d : ℕ) → LeavesResumed b caller event b d
stayed b caller event d = record {
  only = λ left. none_left b.waiters d left;
  there = λ resumes gone. absurd (false≢true (sym gone ∙ resumer_parked b caller event d resumes));
}

module _ (past : List Record) (old mid : Parts) (keeps : Keeps past old) (caller : CallerId) (event : Event) (outcome : Outcome) (does : DoesAt (next_event keeps.state) caller.0 event outcome old mid) where
  abbrev b : State
  b = next_event keeps.state

  abbrev StoodAt : State → Type 0
  StoodAt u = Stood old mid b caller.0 event outcome.raising u

  stood_still : (e : Errno) → Refuses b e outcome.answer outcome.picked mid → AsRaised outcome.raising mid.tables mid.clock [] → StoodAt b
  stood_still e r none = record {
    stands = r.stands;
    waiting = (quiet_begun keeps.state keeps.quiet).waiting;
    leaves = λ d. stayed b caller.0 event d;
    silent = λ j is d watched. sym (none d);
  }

  -- a resumption raises nothing
  resumed_silent : (ev : Event) (c : Change) → first (refusals old.tables.limits b caller.0 ev) ≡ None → change old.tables.limits b caller.0 ev outcome.picked ≡ Some c → (j : DescId) → resumed_at old.parked caller.0 ev ≡ Some j
      → (d : ℕ) → can_be_watched (object_of c.1.files d) ≡ true → raised_of c.2 d ≡ 0
  resumed_silent (CallOf p call) c allowed is j resumed d watched = absurd cc
  resumed_silent (Tick k) c allowed is j resumed d watched = absurd cc
  resumed_silent Resume c allowed is j resumed d watched =
      let P : Option Errno → Type 0 = λ o. MatchOption o ((made : Change) → resume b caller.0 outcome.picked ≡ Some made → AsRaisedIn made.1.files Nowhere mid.tables mid.clock made.2) (λ e. AsRaised Nowhere mid.tables mid.clock []) in
      subst P allowed (resume_raises old.tables.limits b caller.0 outcome.picked Nowhere mid.tables mid.clock refl) c is d watched

  stood_made : first (refusals old.tables.limits b caller.0 event) ≡ None → (m : Makes (change old.tables.limits b caller.0 event outcome.picked) outcome.answer mid)
      → ((made : Change) → change old.tables.limits b caller.0 event outcome.picked ≡ Some made → AsRaisedIn made.1.files outcome.raising mid.tables mid.clock made.2) → StoodAt m.made.1
  stood_made allowed m raises = record {
    stands = m.stands;
    waiting = (quiet_change old.tables.limits b caller.0 event outcome.picked m.made (quiet_begun keeps.state keeps.quiet) allowed m.is).waiting;
    leaves = λ d. leaves_by_resuming old.tables.limits past keeps.state caller.0 event outcome.picked m.made d keeps.leads m.is;
    silent = λ j is d watched. sym (raises m.made m.is d watched) ∙ resumed_silent event m.made allowed m.is j is d watched;
  }

  pub stood : (u : State) × StoodAt u
  stood = by (first (refusals old.tables.limits b caller.0 event)) refl does.goes does.raises where
    by : (o : Option Errno) → first (refusals old.tables.limits b caller.0 event) ≡ o
        → MatchOption o (Makes (change old.tables.limits b caller.0 event outcome.picked) outcome.answer mid) (λ error. Refuses b error outcome.answer outcome.picked mid)
        → MatchOption o ((made : Change) → change old.tables.limits b caller.0 event outcome.picked ≡ Some made → AsRaisedIn made.1.files outcome.raising mid.tables mid.clock made.2) (λ error. AsRaised outcome.raising mid.tables mid.clock [])
        → (u : State) × StoodAt u
    by None h m raises = (m.made.1, stood_made h m raises)
    by (Some e) h r none = (b, stood_still e r none)

-- The instance at which a caller waits that is resumed.
module _ (v : Seen) (ws : List Waiter) (placed : All (IsPlaced v.keys) ws) (caller : ℕ) where
  abbrev number : ℕ → ℕ
  number k = number_at v.keys (record { 0 = k })

  found_there : (o : Option Waiter) → find (is_caller caller) ws ≡ o → (w : Waiter) → option_map (at_number number) o ≡ Some w → (x : Waiter) × (o ≡ Some x) × (desc_number v (record { 0 = x.instance }) ≡ Some w.instance)
  found_there None is w h = cc
  found_there (Some x) is w h =
      let at : number x.instance ≡ w.instance = ap (λ (u : Option Waiter). unwrap_or (option_map (λ (y : Waiter). y.instance) u) 0) h in
      (x, refl, some_of (desc_number v (record { 0 = x.instance })) w.instance (found_all (IsPlaced v.keys) caller ws x is placed).instance at)

  resumes_there : (s : State) → s.waiters ≡ waiters_at v.keys ws → (event : Event) (d : ℕ) → ResumesAt s caller event d
      → (i : DescId) × (resumed_at ws caller event ≡ Some i) × (desc_number v i ≡ Some d)
  resumes_there s same (CallOf p call) d h = absurd h
  resumes_there s same (Tick k) d h = absurd h
  resumes_there s same Resume d h =
      let found : option_map (at_number number) (find (is_caller caller) ws) ≡ Some h.0 = sym (find_at number caller ws) ∙ (ap (find (is_caller caller)) (sym same) ∙ h.1) in
      let x = found_there (find (is_caller caller) ws) refl h.0 found in
      (record { 0 = x.0.instance }, ap (option_map (λ (w : Waiter). record { 0 = w.instance })) x.1, x.2 ∙ ap (λ (k : ℕ). Some k) h.2)

  -- and back
  found_here : (o : Option Waiter) → find (is_caller caller) ws ≡ o → (j : DescId) → option_map (λ (w : Waiter). record { 0 = w.instance }) o ≡ Some j
      → (x : Waiter) × (find (is_caller caller) ws ≡ Some x) × (x.instance ≡ j.0) × IsPlaced v.keys x
  found_here None is j h = absurd cc
  found_here (Some x) is j h = (x, is, ap (λ (o : Option DescId). (unwrap_or o j).0) h, found_all (IsPlaced v.keys) caller ws x is placed)

  there_resumes : (s : State) → s.waiters ≡ waiters_at v.keys ws → (event : Event) (j : DescId) → resumed_at ws caller event ≡ Some j → (d : ℕ) → (IsSome (desc_number v j) → number j.0 ≡ d) → ResumesAt s caller event d
  there_resumes s same (CallOf p call) j h d at = absurd cc
  there_resumes s same (Tick k) j h d at = absurd cc
  there_resumes s same Resume j h d at =
      let x = found_here (find (is_caller caller) ws) refl j h in
      let lives : IsSome (desc_number v j) = subst (λ (k : ℕ). IsSome (desc_number v (record { 0 = k }))) x.2 x.3.instance in (
        at_number number x.0,
        ap (find (is_caller caller)) same ∙ (find_at number caller ws ∙ ap (option_map (at_number number)) x.1),
        ap number x.2 ∙ at lives,
      )

left_some : (a : Bool) (o : Option DescId) (j : DescId) → (if a then None else o) ≡ Some j → (a ≡ false) × (o ≡ Some j)
left_some true o j h = absurd cc
left_some false o j h = (refl, h)

turned : (a b : ℕ) → (a == b || false) ≡ (b == a || false)
turned a b = same_bools (a == b || false) (b == a || false) (λ t. or_left (b == a) false (same_test b a (sym (from_test a b (one (a == b) t))))) (λ t. or_left (a == b) false (same_test a b (sym (from_test b a (one (b == a) t)))))

-- One event, up to its marks, at an instance at which somebody waits.
module _ (past : List Record) (old mid left : Parts) (keeps : Keeps past old) (caller : CallerId) (event : Event) (outcome : Outcome) (n : ℕ)
    (does : DoesAt (next_event keeps.state) caller.0 event outcome old mid) (keys : KeepsKeys old.tables mid.tables) (coherent : AreCoherent old) (spreads : Spreads n outcome.raising mid left) (e : ℕ) (waits : waits_at left.parked e ≡ true) where
  abbrev buried : Parts
  buried = spreads.buried

  leaves : Leaves n outcome.raising mid spreads.noted buried
  leaves = spreads.leaves

  abbrev i : DescId
  i = record { 0 = e }

  abbrev d : ℕ
  d = number_at buried.tables.keys i

  abbrev s : State
  s = keeps.state

  mid_parked : left.parked ≡ mid.parked
  mid_parked = ap (λ (p : Parts). p.parked) spreads.others ∙ leaves.parked

  waits_mid : waits_at mid.parked e ≡ true
  waits_mid = ap (λ (ws : List Waiter). waits_at ws e) (sym mid_parked) ∙ waits

  pub is_buried : desc_number buried.tables i ≡ Some d
  is_buried = some_of (desc_number buried.tables i) d (lives_where buried.tables buried.parked e leaves.coherent_buried.placed (ap (λ (ws : List Waiter). waits_at ws e) leaves.parked ∙ waits_mid)) refl

  is_mid : desc_number mid.tables i ≡ Some d
  is_mid = leaves.burial.buries.keys i d is_buried

  number_mid : number_at mid.tables.keys i ≡ d
  number_mid = ap (λ (o : Option ℕ). unwrap_or o 0) is_mid

  -- the machine's waiters
  pub waits_in : (u : State) → StandFor mid u → waits_at u.waiters d ≡ true
  waits_in u stands =
      ap (λ (ws : List Waiter). waits_at ws d) stands.waiters
      ∙ (ap (waits_at (waiters_at mid.tables.keys mid.parked)) (sym number_mid)
      ∙ waits_numbered (λ k. number_at mid.tables.keys (record { 0 = k })) mid.parked e waits_mid)

  pub unmarked_in : is_marked_at mid.parked e ≡ false → (u : State) → StandFor mid u → is_marked_at u.waiters d ≡ false
  unmarked_in unmarked u stands =
      ap (λ (ws : List Waiter). is_marked_at ws d) stands.waiters
      ∙ (ap (is_marked_at (waiters_at mid.tables.keys mid.parked)) (sym number_mid)
      ∙ (marks_numbered (λ k. number_at mid.tables.keys (record { 0 = k })) mid.parked e (numbers_apart_at mid.tables leaves.tables mid.parked leaves.coherent.placed) waits_mid
      ∙ unmarked))

  abbrev gone : Option DescId
  gone = left_at left.parked caller.0 (resumed_at old.parked caller.0 event)

  abbrev waited : List Waiter
  waited = waiters_at old.tables.keys old.parked

  module _ (u : State) (stood_at : Stood old mid (next_event s) caller.0 event outcome.raising u) where
    kind_there : kind_of (object_of u.files d) ≡ 1
    kind_there =
        let w = waiter_there (λ x. kind_of (object_of u.files x.instance) ≡ 1) u.waiters d stood_at.waiting (waits_in u stood_at.stands) in
        ap (λ (k : ℕ). kind_of (object_of u.files k)) (sym w.2) ∙ w.1

    watched : can_be_watched (object_of u.files d) ≡ true
    watched = ap (λ (k : ℕ). nat_lt 0 k) kind_there

    here : object_of mid.tables.files d ≡ Some instance
    here = ap (λ (f : Files). object_of f d) (sym stood_at.stands.files) ∙ instance_of_kind (object_of u.files d) kind_there

    raised_is : raises_in outcome.raising mid.tables mid.clock d ≡ raises_at outcome.raising i
    raised_is = raises_in_is mid.tables leaves.tables i d mid.clock is_mid here outcome.raising does.raising

    parked_same : is_parked u caller.0 ≡ list_any (is_caller caller.0) left.parked
    parked_same =
        ap (list_any (is_caller caller.0)) stood_at.stands.waiters
        ∙ (parked_at (λ k. number_at mid.tables.keys (record { 0 = k })) caller.0 mid.parked ∙ ap (list_any (is_caller caller.0)) (sym mid_parked))

    left_same : left_now waited (waiters_at buried.tables.keys buried.parked) d ≡ is_left (next_event s) u d
    left_same =
        left_callers (λ k. number_at buried.tables.keys (record { 0 = k })) waited buried.parked d
        ∙ (ap (λ (ws : List Waiter). left_now waited ws d) leaves.parked
        ∙ (sym (left_callers (λ k. number_at mid.tables.keys (record { 0 = k })) waited mid.parked d)
        ∙ (λ t. left_now (sym keeps.stands.waiters t) (sym stood_at.stands.waiters t) d)))

    gone_there : is_left (next_event s) u d ≡ true → is_among (attended gone) e ≡ true
    gone_there h =
        let told = (stood_at.leaves d).only h in
        let r = resumes_there old.tables old.parked coherent.placed caller.0 (next_event s) keeps.stands.waiters event d told.0 in
        let one : r.0.0 ≡ e = leaves.tables.one r.0 i d (keys r.0 d r.2) is_mid in
        let is : gone ≡ Some r.0 = ap (λ (a : Bool). if a then None else resumed_at old.parked caller.0 event) (sym parked_same ∙ told.1) ∙ r.1 in
        ap (λ (o : Option DescId). is_among (attended o) e) is ∙ or_left (e == r.0.0) false (same_test e r.0.0 (sym one))

    there_gone : (o : Option DescId) → gone ≡ o → is_among (attended o) e ≡ true → is_left (next_event s) u d ≡ true
    there_gone None is h = absurd (false≢true h)
    there_gone (Some j) is h =
        let told = left_some (list_any (is_caller caller.0) left.parked) (resumed_at old.parked caller.0 event) j is in
        let at : e ≡ j.0 = from_test e j.0 (one (e == j.0) h) in
        let resumes = there_resumes old.tables old.parked coherent.placed caller.0 (next_event s) keeps.stands.waiters event j told.1 d (λ lives. sym (number_kept old.tables mid.tables j keys lives) ∙ (ap (λ (k : ℕ). number_at mid.tables.keys (record { 0 = k })) (sym at) ∙ number_mid)) in
        (stood_at.leaves d).there resumes (parked_same ∙ told.0)

    left_is : left_now waited (waiters_at buried.tables.keys buried.parked) d ≡ is_among (attended gone) e
    left_is = left_same ∙ same_bools (is_left (next_event s) u d) (is_among (attended gone) e) gone_there (there_gone gone refl)

    by_raising : (r : Raising) → (raises_at r i || false) ≡ is_among (attended (attends None r)) e
    by_raising Nowhere = refl
    by_raising (AtObject desc raised) = refl
    by_raising (Instance desc) = turned desc.0 e
    by_raising Losses = refl
    by_raising (Clock since) = refl

    by_gone : (o : Option DescId) → gone ≡ o → (raises_at outcome.raising i || is_among (attended o) e) ≡ is_among (attended (attends o outcome.raising)) e
    by_gone None is = by_raising outcome.raising
    by_gone (Some j) is =
        let told = left_some (list_any (is_caller caller.0) left.parked) (resumed_at old.parked caller.0 event) j is in
        let none : raises_at outcome.raising i ≡ false = sym raised_is ∙ ap (λ (k : ℕ). has_bit k IN) (stood_at.silent j told.1 d watched) in
        ap (λ (a : Bool). a || is_among (attended (Some j)) e) none

    attends_by : (raises_in outcome.raising mid.tables mid.clock d || left_now waited (waiters_at buried.tables.keys buried.parked) d) ≡ is_among (attended (attends gone outcome.raising)) e
    attends_by = (λ t. raised_is t || left_is t) ∙ by_gone gone refl

  -- it raised IN there, or let a caller leave, exactly if that is the instance that it attends
  pub attends_is : (raises_in outcome.raising mid.tables mid.clock d || left_now waited (waiters_at buried.tables.keys buried.parked) d) ≡ is_among (attended (attends gone outcome.raising)) e
  attends_is = let u = stood past old mid keeps caller event outcome does in attends_by u.0 u.1
