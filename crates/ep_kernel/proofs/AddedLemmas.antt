-- What comes to a list over an event, was reached by its spread, or altered by an ADD or MOD.
use Rattle.ep_law.proofs.GraphLemmas.{member_of_map}
use Rattle.ep_calls.proofs.EntryLemmas.{holds_under}
use Rattle.std.proofs.Common.{◌≡◌, ◌∙◌, ◌+◌, ◌==◌, ◌&&◌, ◌⊎◌, ℕ, true, false, IsSome, List, [], None, Option, Some, ap, filter, inl, inr, length, nat_lt, refl, subst, sym, unwrap_or}
use Rattle.std.specs.Prelude.{MatchOption}
use Rattle.std.proofs.lemmas.Bool.{false≢true}
use Rattle.std.proofs.lemmas.Option.{none-some}
use Rattle.ep_facts.proofs.NatFacts.{same_test}
use Rattle.ep_facts.proofs.AmongFacts.{among_append}
use Rattle.ep_facts.proofs.BoolFacts.{both_true, or_cases}
use Rattle.ep_base.specs.declared.call.Call.TheVariants.{EpollCtl}
use Rattle.ep_base.specs.declared.call.Event.{Event}
use Rattle.ep_base.specs.declared.call.Event.TheVariants.{Call as CallOf}
use Rattle.ep_base.specs.declared.errno.Errno.{Errno}
use Rattle.ep_base.specs.declared.ids.CallerId.{CallerId}
use Rattle.ep_base.specs.declared.ids.DescId.{DescId}
use Rattle.ep_base.specs.declared.ids.Fd.{Fd}
use Rattle.ep_calls.proofs.KeyLemmas.{under_key}
use Rattle.ep_calls.specs.Readiness.{readiness}
use Rattle.ep_base.specs.declared.record.Record.{Record}
use Rattle.ep_calls.proofs.KeepsLemmas.{DoesAt}
use Rattle.ep_calls.specs.Moves.{Makes, Refuses, StandFor}
use Rattle.ep_calls.specs.Parts.{Parts}
use Rattle.ep_calls.specs.Raising.{AsRaised, AsRaisedIn}
use Rattle.ep_calls.specs.Stands.{IsLinked, number_at, watch_at}
use Rattle.ep_calls.specs.declared.outcome.Outcome.{Outcome}
use Rattle.ep_interest.specs.Registrations.{entry_under, number_under}
use Rattle.ep_interest.specs.declared.entry.Entry.{Entry}
use Rattle.ep_kernel.proofs.ArriveLemmas.{came_from}
use Rattle.ep_kernel.proofs.EntryLemmas.{is_under}
use Rattle.ep_kernel.proofs.JoinLemmas.{Follows, leaves, loses, old_number, places_after, same_instance, settled, settled_is}
use Rattle.ep_kernel.proofs.NextLemmas.{goes, keeps_after, runs_next, stands_after, to_state}
use Rattle.ep_kernel.proofs.NumberLemmas.{among_numbers, entry_at, number_member}
use Rattle.ep_kernel.proofs.ReadyBookLemmas.{complete_listed, listed_by, listed_of, number_is, sound_listed}
use Rattle.ep_kernel.proofs.SurvivalLemmas.{climb, climbed_back, left_back, stood}
use Rattle.ep_kernel.proofs.ViewLemmas.{Views, entry_views, view_member}
use Rattle.ep_kernel.proofs.WaitedLemmas.{ready_in, rest_files, rest_passes}
use Rattle.ep_kernel.specs.Listed.{IsListed, key_shows, lists_of, order_at, shows_found}
use Rattle.ep_kernel.specs.Push.{comes_in, is_home}
use Rattle.ep_kernel.specs.ReadyBook.{AreAdded, IsAdded, MayBeListed, list_of}
use Rattle.ep_kernel.specs.Running.{Runs}
use Rattle.ep_kernel.specs.Turns.{IsAlteredKey}
use Rattle.ep_law.proofs.ListLemmas.{among, among_member, filtered_member, one_number}
use Rattle.ep_law.proofs.StepLemmas.{after_first, change_counted, change_n, refused_step, step_changed}
use Rattle.ep_law.specs.Laws.{Member, is_reportable_in, passes_on_of}
use Rattle.ep_machine.specs.Deaths.{buried as buried_of}
use Rattle.ep_machine.specs.Effect.{first}
use Rattle.ep_machine.specs.Files.{Files, named_by}
use Rattle.ep_machine.specs.Lists.{is_among}
use Rattle.ep_machine.specs.Refusal.{refusals}
use Rattle.ep_machine.specs.Readiness.{is_reportable}
use Rattle.ep_machine.specs.Bits.{asked}
use Rattle.ep_machine.specs.Spread.{raised_alive, spread}
use Rattle.ep_machine.specs.Settle.{settle}
use Rattle.ep_machine.specs.State.{Change, State, Watch}
use Rattle.ep_machine.specs.Step.{change, next_event, step}
use Rattle.ep_machine.specs.Watches.{number_in}
use Rattle.ep_order.specs.Event.{IsAltered, ListsGoOn, end_of}
use Rattle.ep_order.specs.Order.{Turns}
use Rattle.ep_order.proofs.EventLemmas.{beginning_keeps_turns}
use Rattle.ep_rings.specs.KeyWalk.{entry_id}
use Rattle.ep_ready.specs.ReadyLists.{Lists, instance_at, list_at}
use Rattle.ep_table.specs.Value.{number_under as desc_number}
use Rattle.ep_view.proofs.AtRestLemmas.{quiet_begun, quiet_change, weaken}
use Rattle.ep_view.proofs.KernelViewLemmas.{reportable_kept}
use Rattle.ep_view.proofs.SettleLemmas.{settle_remains}
use Rattle.ep_view.specs.AtRest.{Changed, Remains}
use Rattle.ep_view.specs.KernelView.{KernelWatch, kernel_watch, ready_now, shows}
use Rattle.ep_law.specs.Sound.{Sound}

-- Registrations that differ in nothing that is asked.
passes_same : (c : Change) (x w : Watch) → x.armed ≡ w.armed → x.mask ≡ w.mask → x.target ≡ w.target → passes_on_of c x ≡ passes_on_of c w
passes_same c x w armed mask target =
    let left = buried_of c.1 c.2 in
    λ i. armed i && nat_lt 0 (asked (mask i) (spread left.0 (raised_alive left.0 left.1) (target i)))

altered_same : (s : State) (event : Event) (x w : Watch) → x.instance ≡ w.instance → x.fd ≡ w.fd → x.target ≡ w.target → IsAltered s event w → IsAltered s event x
altered_same s (CallOf p (EpollCtl epfd op fd mask tag)) x w instance descriptor target altered = (
  altered.0,
  (λ i. instance i == named_by s.files p.0 epfd.0 && descriptor i == number_in fd.0 && target i == named_by s.files p.0 fd.0) ∙ altered.1,
)
altered_same s event x w instance descriptor target altered = absurd altered

-- the registration under a key that an ADD or MOD altered, in the machine
altered_machine : (old mid : Parts) (s made : State) → s.files ≡ old.tables.files → (event : Event) (k : ℕ) (w : Watch) → Views mid.tables.keys mid.interest k (kernel_watch made w) → IsAlteredKey event old mid k → IsAltered s event w
altered_machine old mid s made same (CallOf p (EpollCtl epfd op fd mask tag)) k w view altered =
    let a = altered view.x view.under in
    let files = ap (λ (f : Files). named_by f p.0 epfd.0) (sym same) in
    let targets = ap (λ (f : Files). named_by f p.0 fd.0) (sym same) in
    let instance : w.instance ≡ named_by s.files p.0 epfd.0 = ap (λ (z : KernelWatch). z.instance) (sym view.is) ∙ (a.1 ∙ files) in
    let descriptor : w.fd ≡ number_in fd.0 = ap (λ (z : KernelWatch). z.fd) (sym view.is) ∙ ap (λ (f : Fd). number_in f.0) a.2 in
    let target : w.target ≡ named_by s.files p.0 fd.0 = ap (λ (z : KernelWatch). z.target) (sym view.is) ∙ (a.3 ∙ targets) in
    (a.0, λ i. same_test w.instance _ instance i && same_test w.fd _ descriptor i && same_test w.target _ target i)
altered_machine old mid s made same event k w view altered = absurd altered

altered_shows : (old mid : Parts) (event : Event) (k : ℕ) (x : Entry) → entry_under mid.interest (entry_id k) ≡ Some x → IsAlteredKey event old mid k → key_shows mid k ≡ true
altered_shows old mid (CallOf p (EpollCtl epfd op fd mask tag)) k x under altered = (altered x under).4
altered_shows old mid event k x under altered = absurd altered

module _ (n : ℕ) (event : Event) (outcome : Outcome) (old mid noted buried climbed new : Parts) (l0 l1 l2 l3 : Lists) (follows : Follows n event outcome old mid noted buried climbed new l0 l1 l2 l3) (s t : State)
    (stands_before : StandFor old s) (stands_after : StandFor (settled n event outcome old mid noted buried climbed new l0 l1 l2 l3 follows) t) (listed : IsListed old l0) (i : DescId) (e : ℕ) (here : desc_number buried.tables i ≡ Some e) where
  abbrev left : Parts
  left = settled n event outcome old mid noted buried climbed new l0 l1 l2 l3 follows

  abbrev keys : List (Option ℕ)
  keys = buried.tables.keys

  abbrev to_end : KernelWatch → KernelWatch
  to_end = climb n buried climbed.interest follows.settles.climbs follows.climbed_keys follows.leaves.left follows.now follows.settles.coherent_buried follows.settles.sound_buried

  -- a number on the list at the end that was not there before
  pub record HasCome (number : ℕ) : Type 0 where
    pub k : ℕ
    pub y : Entry
    pub under : entry_under climbed.interest (entry_id k) ≡ Some y
    pub v : KernelWatch
    pub views : Views keys buried.interest k v
    pub is : watch_at keys y ≡ to_end v
    pub number_is : y.number ≡ number
    pub instance_is : number_at keys y.instance ≡ e
    pub cause : (comes_in n buried k ≡ true) ⊎ IsAlteredKey event old mid k

  -- what stood on the list before, has its number there
  stood_before : (k : ℕ) (y : Entry) → entry_under climbed.interest (entry_id k) ≡ Some y → is_among (list_at l0 i.0) k ≡ true → is_among (list_of (lists_of old l0) e) y.number ≡ true
  stood_before k y under on =
      let x = entry_at old s stands_before follows.was follows.coherent.linked follows.tables l0 listed.places follows.lists_before i.0 k (among_member (list_at l0 i.0) k on) in
      let some : IsSome (desc_number old.tables i) = subst (λ (j : ℕ). IsSome (desc_number old.tables (record { 0 = j }))) x.2 (holds_under (IsLinked old.tables.keys) old.interest (entry_id k) x.0 follows.coherent.linked x.1).instance in
      let lives : IsSome (desc_number buried.tables i) = subst (λ (o : Option ℕ). IsSome o) (sym here) refl in
      let before = (is_under old.interest (entry_id k) x.0 x.1).number in
      let after = (is_under climbed.interest (entry_id k) y under).number in
      let number : number_under old.interest (entry_id k) ≡ Some y.number = elim (old_number n event outcome old mid noted buried climbed new l0 l1 l2 l3 follows k y.number after) [
        | inl same ↦ same
        | inr none ↦ absurd (none-some x.0.number (sym none.0 ∙ before))
      ] in
      let u = under_key old.tables.keys i some in
      let instance : number_at old.tables.keys i ≡ e =
      same_instance n event outcome old mid noted buried climbed new l0 l1 l2 l3 follows s t stands_before stands_after listed.places i lives some ∙ ap (λ (o : Option ℕ). unwrap_or o 0) here in
      ap (λ (ks : List ℕ). is_among ks y.number) (listed_of old l0 follows.tables i e (number_is _ u.number e u.is instance)) ∙ among_numbers old.interest (list_at l0 i.0) k y.number number on

  pub has_come : (number : ℕ) → is_among (list_of (lists_of left l3) e) number ≡ true → is_among (list_of (lists_of old l0) e) number ≡ false → HasCome number
  has_come number there absent =
      let f = follows.settles in
      let on = ap (λ (ks : List ℕ). is_among ks number) (sym (listed_of left l3 f.sound_buried i e here)) ∙ there in
      let j = number_member climbed.interest (list_at l3 i.0) number (among_member (order_at climbed.interest l3 i.0) number on) in
      let k = j.0 in
      let y = entry_at left t stands_after follows.now f.climbs.linked f.sound_buried l3 (places_after n event outcome old mid noted buried climbed new l0 l1 l2 l3 follows) follows.lists_after i.0 k j.1 in
      let z = climbed_back n buried climbed.interest f.climbs follows.climbed_keys follows.leaves.left follows.now f.coherent_buried f.sound_buried k (watch_at keys y.0) (entry_views keys climbed.interest k y.0 y.1) in
      let is : y.0.number ≡ number = sym (ap (λ (o : Option ℕ). unwrap_or o 0) (is_under climbed.interest (entry_id k) y.0 y.1).number) ∙ j.2 in
      let not_before : is_among (list_at l0 i.0) k ≡ true → ⊥ = λ h. false≢true (sym absent ∙ (ap (is_among (list_of (lists_of old l0) e)) (sym is) ∙ stood_before k y.0 y.1 h)) in
      let from = sym (follows.gains.each i.0 k) ∙ among k (list_at l3 i.0) j.1 in
      record {
        k = k;
        y = y.0;
        under = y.1;
        v = z.0;
        views = z.1;
        is = z.3;
        number_is = is;
        instance_is = ap (λ (d : ℕ). number_at keys (record { 0 = d })) y.2 ∙ ap (λ (o : Option ℕ). unwrap_or o 0) here;
        cause = elim (or_cases (is_among (list_at l2 i.0) k) (comes_in n buried k && is_home i.0 (instance_at l2 (entry_id k))) from) [
          | inr came ↦ inl (both_true (comes_in n buried k) (is_home i.0 (instance_at l2 (entry_id k))) came).0
          | inl stood_there ↦
              let turned = stood n outcome.raising mid noted.interest buried (leaves n event outcome old mid noted buried climbed new l0 l1 l2 l3 follows) l1 l2 (loses n event outcome old mid noted buried climbed new l0 l1 l2 l3 follows) follows.turns.places i.0 k stood_there in
              let kept = filter follows.turns.keeps (list_at l0 i.0) in
              let split = sym (among_append kept (follows.turns.more i.0) k) ∙ (ap (λ (ks : List ℕ). is_among ks k) (sym (follows.turns.lists i.0)) ∙ turned) in
              elim (or_cases (is_among kept k) (is_among (follows.turns.more i.0) k) split) [
                | inl kept_there ↦ absurd (not_before (among k (list_at l0 i.0) (filtered_member follows.turns.keeps (list_at l0 i.0) k (among_member kept k kept_there))))
                | inr behind ↦ elim (follows.turns.comes i.0 k behind) [ inl stood_first ↦ absurd (not_before stood_first) | inr altered ↦ inr altered ]
              ]
        ];
      }

  -- the machine's registration of this number, as it is kept
  watch_is : (sound : Sound t) (number : ℕ) (come : HasCome number) (x : Watch) → Member x t.watches → x.number ≡ number → kernel_watch t x ≡ to_end come.v
  watch_is sound number come x m is =
      let there = view_member keys climbed.interest come.k (watch_at keys come.y) (entry_views keys climbed.interest come.k come.y come.under) in
      let w = member_of_map (kernel_watch t) t.watches (watch_at keys come.y) (subst (Member (watch_at keys come.y)) (sym stands_after.watches) there) in
      let number_too : w.0.number ≡ number = ap (λ (z : KernelWatch). z.number) w.2 ∙ come.number_is in
      let same : x ≡ w.0 = one_number t.watches x w.0 sound.numbers m w.1 (is ∙ sym number_too) in
      ap (kernel_watch t) same ∙ (w.2 ∙ come.is)

  module _ (b : State) (c : Change) (made : StandFor mid c.1) (changed : Changed c.1) (settled_change : Remains c.1 c.2 (settle b c.1 c.2)) (at : c.1.n ≡ n) (counted : (0 == n) ≡ false) (as_raised : AsRaisedIn c.1.files outcome.raising mid.tables mid.clock c.2)
      (same_files : (settle b c.1 c.2).files ≡ buried.tables.files) (number : ℕ) (come : HasCome number) where
    -- what comes in the climb
    pub passing : comes_in n buried come.k ≡ true → (w : Watch) × (passes_on_of c w ≡ true) × (w.armed ≡ come.v.armed) × (w.mask ≡ come.v.mask) × (w.target ≡ come.v.target)
    passing comes =
        let f = follows.settles in
        let from =
        came_from n outcome.raising mid noted.interest buried (leaves n event outcome old mid noted buried climbed new l0 l1 l2 l3 follows)
        b c made changed settled_change at counted as_raised same_files f.coherent_buried come.k come.views.x come.views.under comes in
        let same = from.2 ∙ come.views.is in
        (from.0, from.3, ap (λ (z : KernelWatch). z.armed) same, ap (λ (z : KernelWatch). z.mask) same, ap (λ (z : KernelWatch). z.target) same)

    -- what was altered
    pub altered_there : IsAlteredKey event old mid come.k → (w : Watch) × Member w c.1.watches × (IsAltered s event w) × (is_reportable c.1 w ≡ true) × (w.number ≡ come.v.number) × (w.instance ≡ come.v.instance) × (w.fd ≡ come.v.fd) × (w.target ≡ come.v.target)
    altered_there altered =
        let u = left_back n outcome.raising mid noted.interest buried (leaves n event outcome old mid noted buried climbed new l0 l1 l2 l3 follows) come.k come.v come.views in
        let there = subst (Member u.0) (sym made.watches) (view_member mid.tables.keys mid.interest come.k u.0 u.1) in
        let w = member_of_map (kernel_watch c.1) c.1.watches u.0 there in
        let view : Views mid.tables.keys mid.interest come.k (kernel_watch c.1 w.0) = subst (Views mid.tables.keys mid.interest come.k) (sym w.2) u.1 in
        let shows_key = altered_shows old mid event come.k view.x view.under altered in
        let ready : is_reportable c.1 w.0 ≡ true =
        reportable_kept c.1 w.0
        ∙ ((λ j. shows (ready_now (made.files j) (made.now j) (made.watches j)) (made.files j) (made.now j) (kernel_watch c.1 w.0))
        ∙ (ap (shows (readiness mid.tables mid.clock mid.interest) mid.tables.files mid.clock) (sym view.is)
        ∙ (ap (shows_found mid) (sym view.under) ∙ shows_key))) in
        let same = w.2 in (
          w.0,
          w.1,
          altered_machine old mid s c.1 stands_before.files event come.k w.0 view altered,
          ready,
          ap (λ (z : KernelWatch). z.number) same ∙ ap (λ (z : KernelWatch). z.number) (sym u.3),
          ap (λ (z : KernelWatch). z.instance) same ∙ ap (λ (z : KernelWatch). z.instance) (sym u.3),
          ap (λ (z : KernelWatch). z.fd) same ∙ ap (λ (z : KernelWatch). z.fd) (sym u.3),
          ap (λ (z : KernelWatch). z.target) same ∙ ap (λ (z : KernelWatch). z.target) (sym u.3),
        )

not_none : (k : ℕ) (ks : List ℕ) → ks ≡ [] → is_among ks k ≡ true → ⊥
not_none k ks none on = false≢true (ap (λ (js : List ℕ). is_among js k) (sym none) ∙ on)

-- Over one event.
module _ (law : ListsGoOn) (past : List Record) (n : ℕ) (event : Event) (outcome : Outcome) (old mid noted buried climbed new : Parts) (l0 l1 l2 l3 : Lists) (follows : Follows n event outcome old mid noted buried climbed new l0 l1 l2 l3)
    (caller : CallerId) (at : n ≡ length past + 1) (runs : Runs past old l0) (does : DoesAt (next_event runs.keeps.state) caller.0 event outcome old mid) where
  abbrev before : State
  before = runs.keeps.state

  abbrev after : State
  after = (keeps_after law past n event outcome old mid noted buried climbed new l0 l1 l2 l3 follows caller at runs does).state

  abbrev settled_parts : Parts
  settled_parts = settled n event outcome old mid noted buried climbed new l0 l1 l2 l3 follows

  -- what may be listed afterwards
  may_be : (e k : ℕ) → is_among (list_of (lists_of settled_parts l3) e) k ≡ true → MayBeListed after e k
  may_be e k on =
      let f = follows.settles in
      let next = runs_next law past n event outcome old mid noted buried climbed new l0 l1 l2 l3 follows caller at runs does in
      let is = settled_is n event outcome old mid noted buried climbed new l0 l1 l2 l3 follows in
      sound_listed settled_parts l3 after (stands_after law past n event outcome old mid noted buried climbed new l0 l1 l2 l3 follows caller at runs does) f.climbs.linked f.sound_buried follows.now follows.lists_after (subst (λ (p : Parts). IsListed p l3) is next.listed) e k on

  module _ (e k : ℕ) (on : is_among (list_of (lists_of settled_parts l3) e) k ≡ true) (absent : is_among (list_of (lists_of old l0) e) k ≡ false) (i : DescId) (here : desc_number buried.tables i ≡ Some e) where
    abbrev Come : Type 0
    Come = HasCome n event outcome old mid noted buried climbed new l0 l1 l2 l3 follows before after runs.keeps.stands (stands_after law past n event outcome old mid noted buried climbed new l0 l1 l2 l3 follows caller at runs does) runs.listed i e here k

    come : Come
    come = has_come n event outcome old mid noted buried climbed new l0 l1 l2 l3 follows before after runs.keeps.stands (stands_after law past n event outcome old mid noted buried climbed new l0 l1 l2 l3 follows caller at runs does) runs.listed i e here k on absent

    abbrev b : State
    b = next_event before

    begins : before.n + 1 ≡ n
    begins = ap (λ (j : ℕ). j + 1) runs.keeps.n ∙ sym at

    counted : (0 == n) ≡ false
    counted = ap (λ (j : ℕ). 0 == j) (sym begins) ∙ after_first before.n

    Added : Type 0
    Added = IsAdded old.tables.limits caller.0 event outcome.picked before after e k

    by_change : first (refusals old.tables.limits b caller.0 event) ≡ None → (m : Makes (change old.tables.limits b caller.0 event outcome.picked) outcome.answer mid)
        → ((made : Change) → change old.tables.limits b caller.0 event outcome.picked ≡ Some made → AsRaisedIn made.1.files outcome.raising mid.tables mid.clock made.2) → Added
    unfolding Added
    by_change allowed m raises =
        let limits = old.tables.limits in
        let c = m.made in
        let ends : after ≡ end_of before c =
        to_state law past n event outcome old mid noted buried climbed new l0 l1 l2 l3 follows caller at runs does _ outcome.answer c.0 after (end_of before c) (goes law past n event outcome old mid noted buried climbed new l0 l1 l2 l3 follows caller at runs does)
        (step_changed limits before caller.0 event outcome.picked c allowed m.is) in
        let changed = quiet_change limits b caller.0 event outcome.picked c (quiet_begun before runs.keeps.quiet) allowed m.is in
        let settled_change = settle_remains b c.1 c.2 (change_counted limits before caller.0 event outcome.picked c m.is) changed in
        let at_c : c.1.n ≡ n = change_n limits b caller.0 event outcome.picked c m.is ∙ begins in
        let files = ap (λ (u : State). u.files) (sym ends) ∙ (stands_after law past n event outcome old mid noted buried climbed new l0 l1 l2 l3 follows caller at runs does).files in
        let may = may_be e k on in
        let x = may.x in
        let is = watch_is n event outcome old mid noted buried climbed new l0 l1 l2 l3 follows before after runs.keeps.stands (stands_after law past n event outcome old mid noted buried climbed new l0 l1 l2 l3 follows caller at runs does) runs.listed i e here (keeps_after law past n event outcome old mid noted buried climbed new l0 l1 l2 l3 follows caller at runs does).sound k come x may.there may.number in
        record {
          may = may;
          accepted = allowed;
          made = c;
          is = m.is;
          cause = elim come.cause [
            | inl comes ↦
                let w = passing n event outcome old mid noted buried climbed new l0 l1 l2 l3 follows before after runs.keeps.stands (stands_after law past n event outcome old mid noted buried climbed new l0 l1 l2 l3 follows caller at runs does) runs.listed i e here b c m.stands changed settled_change at_c counted (raises c m.is) files k come comes in
                inl (passes_same c x w.0 (ap (λ (z : KernelWatch). z.armed) is ∙ sym w.2) (ap (λ (z : KernelWatch). z.mask) is ∙ sym w.3) (ap (λ (z : KernelWatch). z.target) is ∙ sym w.4) ∙ w.1)
            | inr altered ↦
                let w = altered_there n event outcome old mid noted buried climbed new l0 l1 l2 l3 follows before after runs.keeps.stands (stands_after law past n event outcome old mid noted buried climbed new l0 l1 l2 l3 follows caller at runs does) runs.listed i e here b c m.stands changed settled_change at_c counted (raises c m.is) files k come altered in
                let instance : w.0.instance ≡ e = w.5 ∙ (sym (ap (λ (z : KernelWatch). z.instance) come.is) ∙ come.instance_is) in
                let number : w.0.number ≡ k = w.4 ∙ (sym (ap (λ (z : KernelWatch). z.number) come.is) ∙ come.number_is) in
                inr (
                  altered_same before event x w.0 (ap (λ (z : KernelWatch). z.instance) is ∙ sym w.5) (ap (λ (z : KernelWatch). z.fd) is ∙ sym w.6) (ap (λ (z : KernelWatch). z.target) is ∙ sym w.7) w.2,
                  (λ j. is_reportable_in c.1 (sym instance j) (sym number j)) ∙ ready_in c.1 w.0 w.1 w.3,
                )
          ];
        }

    by_refusal : (error : Errno) → first (refusals old.tables.limits b caller.0 event) ≡ Some error → Refuses b error outcome.answer outcome.picked mid → AsRaised outcome.raising mid.tables mid.clock [] → ⊥
    by_refusal error refused r none =
        let limits = old.tables.limits in
        let quiet = quiet_begun before runs.keeps.quiet in
        let stays : after ≡ b =
        to_state law past n event outcome old mid noted buried climbed new l0 l1 l2 l3 follows caller at runs does _ outcome.answer _ after b (ap (step limits before caller.0 event) (sym r.unpicked) ∙ goes law past n event outcome old mid noted buried climbed new l0 l1 l2 l3 follows caller at runs does)
        (refused_step limits before caller.0 event error refused) in
        let changed = weaken b quiet in
        let settled_change = settle_remains b b [] (after_first before.n) changed in
        let files = rest_files b quiet ∙ (ap (λ (u : State). u.files) (sym stays) ∙ (stands_after law past n event outcome old mid noted buried climbed new l0 l1 l2 l3 follows caller at runs does).files) in
        elim come.cause [
          | inl comes ↦
              let w = passing n event outcome old mid noted buried climbed new l0 l1 l2 l3 follows before after runs.keeps.stands (stands_after law past n event outcome old mid noted buried climbed new l0 l1 l2 l3 follows caller at runs does) runs.listed i e here b (outcome.answer, b, []) r.stands changed settled_change begins counted (λ d watched. none d) files k come comes in
              absurd (false≢true (sym (rest_passes b quiet outcome.answer w.0) ∙ w.1))
          | inr altered ↦
              let w = altered_there n event outcome old mid noted buried climbed new l0 l1 l2 l3 follows before after runs.keeps.stands (stands_after law past n event outcome old mid noted buried climbed new l0 l1 l2 l3 follows caller at runs does) runs.listed i e here b (outcome.answer, b, []) r.stands changed settled_change begins counted (λ d watched. none d) files k come altered in
              let instance : w.0.instance ≡ e = w.5 ∙ (sym (ap (λ (z : KernelWatch). z.instance) come.is) ∙ come.instance_is) in
              let number : w.0.number ≡ k = w.4 ∙ (sym (ap (λ (z : KernelWatch). z.number) come.is) ∙ come.number_is) in
              let now : is_reportable_in b e k ≡ true = (λ j. is_reportable_in b (sym instance j) (sym number j)) ∙ ready_in b w.0 w.1 w.3 in
              let was : is_reportable_in before e k ≡ true = ap (λ (o : Turns). o.ready k) (sym (beginning_keeps_turns before e)) ∙ now in
              absurd (false≢true (sym absent ∙ complete_listed old l0 before runs.keeps.stands follows.coherent.linked follows.tables follows.was follows.lists_before runs.listed e k was))
        ]

    by_cases : (o : Option Errno) → first (refusals old.tables.limits b caller.0 event) ≡ o
        → MatchOption o (Makes (change old.tables.limits b caller.0 event outcome.picked) outcome.answer mid) (λ error. Refuses b error outcome.answer outcome.picked mid)
        → MatchOption o ((made : Change) → change old.tables.limits b caller.0 event outcome.picked ≡ Some made → AsRaisedIn made.1.files outcome.raising mid.tables mid.clock made.2) (λ error. AsRaised outcome.raising mid.tables mid.clock []) → Added
    by_cases None h m raises = by_change h m raises
    by_cases (Some error) h r raises = absurd (by_refusal error h r raises)

    added : IsAdded old.tables.limits caller.0 event outcome.picked before after e k
    unfolding Added
    added = by_cases (first (refusals old.tables.limits b caller.0 event)) refl does.goes does.raises

  pub all_added : AreAdded old.tables.limits caller.0 event outcome.picked before after (list_of (lists_of old l0)) (list_of (lists_of new l3))
  all_added e k there absent =
      let on = ap (λ (p : Parts). is_among (list_of (lists_of p l3) e) k) (sym (settled_is n event outcome old mid noted buried climbed new l0 l1 l2 l3 follows)) ∙ there in
      elim (listed_by settled_parts l3 follows.settles.sound_buried e) [
        | inl w ↦ added e k on absent w.0 w.1
        | inr none ↦ absurd (not_none k (list_of (lists_of settled_parts l3) e) none on)
      ]
