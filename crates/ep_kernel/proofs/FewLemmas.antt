-- Where a wait finds few, what it leaves on its list is reportable at the end of the event.
use Rattle.std.proofs.Common.{◌≡◌, ◌<◌, ◌≤◌, ◌∙◌, ◌+◌, ◌==◌, ◌&&◌, ◌||◌, ℕ, true, false, not, List, [], None, Option, Some, ap, arith, inl, inr, length, map, refl, subst, sym, unwrap_or}
use Rattle.std.specs.Prelude.{MatchOption}
use Rattle.std.proofs.lemmas.Bool.{false≢true}
use Rattle.ep_facts.proofs.NatFacts.{from_test}
use Rattle.ep_facts.proofs.AmongFacts.{among_append}
use Rattle.ep_facts.proofs.BoolFacts.{both_true, from_not, or_cases, or_left, or_right}
use Rattle.ep_base.specs.declared.answer.Answer.TheVariants.{Events, Refused}
use Rattle.ep_base.specs.declared.answer.Report.{Report}
use Rattle.ep_base.specs.declared.call.Call.TheVariants.{EpollWait}
use Rattle.ep_base.specs.declared.call.Event.{Event}
use Rattle.ep_base.specs.declared.call.Event.TheVariants.{Call as CallOf, Resume}
use Rattle.ep_base.specs.declared.errno.Errno.{Errno}
use Rattle.ep_base.specs.declared.ids.CallerId.{CallerId}
use Rattle.ep_base.specs.declared.ids.DescId.{DescId}
use Rattle.ep_base.specs.declared.record.Record.{Record}
use Rattle.ep_base.specs.Limits.{Limits}
use Rattle.ep_calls.proofs.KeepsLemmas.{DoesAt}
use Rattle.ep_calls.specs.Moves.{Makes, Refuses, StandFor}
use Rattle.ep_calls.specs.Parts.{Parts}
use Rattle.ep_calls.specs.Raising.{AsRaised, AsRaisedIn}
use Rattle.ep_calls.specs.Stands.{number_at, watch_at}
use Rattle.ep_calls.specs.declared.outcome.Outcome.{Outcome}
use Rattle.ep_interest.specs.Registrations.{entry_under}
use Rattle.ep_interest.specs.declared.entry.Entry.{Entry}
use Rattle.ep_kernel.proofs.ArriveLemmas.{came_from}
use Rattle.ep_kernel.proofs.EntryLemmas.{is_under}
use Rattle.ep_kernel.proofs.JoinLemmas.{Follows, burial, leaves, loses, places_after, settled, settled_is}
use Rattle.ep_kernel.proofs.NextLemmas.{goes, keeps_after, stands_after, to_state}
use Rattle.ep_kernel.proofs.NumberLemmas.{entry_at, number_member}
use Rattle.ep_kernel.proofs.ReadyBookLemmas.{listed_of}
use Rattle.ep_kernel.proofs.ReportsFirstLemmas.{waits_begun}
use Rattle.ep_kernel.proofs.SurvivalLemmas.{climb, climbed_back, left_back, stood}
use Rattle.ep_kernel.proofs.ViewLemmas.{Views, entry_views, view_member}
use Rattle.ep_kernel.proofs.WaitedLemmas.{IsReport, end, ends_reportable, passes_nothing, resumed, same_files, still_shows, waited}
use Rattle.ep_kernel.specs.Listed.{lists_of, order_at}
use Rattle.ep_kernel.specs.Push.{comes_in, is_home}
use Rattle.ep_kernel.specs.ReadyBook.{LeavesReportable, WaitsAt, list_of}
use Rattle.ep_kernel.specs.Running.{Runs}
use Rattle.ep_kernel.specs.Take.{key_stays, stays_found}
use Rattle.ep_kernel.specs.Wait.{LeavesStaying}
use Rattle.ep_law.proofs.GraphLemmas.{graph_stays_legal, member_of_map}
use Rattle.ep_law.proofs.ListLemmas.{all_member, among, among_member, member_map}
use Rattle.ep_law.proofs.NamedLivesLemmas.{named_lives}
use Rattle.ep_law.proofs.SoundLemmas.{sound_begun}
use Rattle.ep_law.proofs.StepLemmas.{after_first, change_counted, change_n, step_changed}
use Rattle.ep_law.specs.Laws.{Member, is_reportable_in, passes_on_of}
use Rattle.ep_machine.specs.Bits.{ET, has_bit}
use Rattle.ep_machine.specs.Deaths.{named, named_in_tables}
use Rattle.ep_machine.specs.Effect.{first}
use Rattle.ep_machine.specs.Files.{Files, is_live, named_by}
use Rattle.ep_machine.specs.Lists.{is_among}
use Rattle.ep_machine.specs.Refusal.{refusals}
use Rattle.ep_machine.specs.Report.{reported}
use Rattle.ep_machine.specs.Settle.{settle}
use Rattle.ep_machine.specs.State.{Change, State, Waiter, Watch}
use Rattle.ep_machine.specs.Step.{change, next_event}
use Rattle.ep_machine.specs.Watches.{is_legal, links, number_in}
use Rattle.ep_order.specs.Event.{ListsGoOn, end_of}
use Rattle.ep_rings.specs.KeyWalk.{entry_id}
use Rattle.ep_ready.specs.ReadyLists.{Lists, instance_at, list_at}
use Rattle.ep_table.specs.Value.{number_under as desc_number}
use Rattle.ep_view.proofs.AtRestLemmas.{quiet_begun, quiet_change}
use Rattle.ep_view.proofs.SettleLemmas.{settle_remains}
use Rattle.ep_view.specs.AtRest.{AtRest, Changed, Remains}
use Rattle.ep_view.specs.KernelView.{KernelWatch, kernel_watch}
use Rattle.ep_law.specs.Sound.{Sound}

-- the change of a wait at e that is answered with reports
wait_reports : (limits : Limits) (b : State) (sound : Sound b) (rest : AtRest b) (ks : List ℕ) (caller : ℕ) (event : Event) (e most : ℕ) (c : Change) (reports : List Report) → WaitsAt b caller event e most
    → change limits b caller event ks ≡ Some c → c.0 ≡ Events reports → IsReport b e ks c
wait_reports limits b sound rest ks caller (CallOf p (EpollWait epfd max timeout)) e most c reports waits is told =
    subst (λ (d : ℕ). IsReport b d ks c) waits.0 (waited b sound ks caller p.0 (named_by b.files p.0 epfd.0) (number_in max) timeout c reports is told)
wait_reports limits b sound rest ks caller Resume e most c reports (w, found, instance, asked) is told =
    subst (λ (d : ℕ). IsReport b d ks c) instance (resumed b sound ks rest.callers caller w c reports found is told)
wait_reports limits b sound rest ks caller event e most c reports waits is told = absurd waits

-- what a report leaves of the list of its instance e
module _ (n : ℕ) (event : Event) (outcome : Outcome) (old mid noted buried climbed new : Parts) (l0 l1 l2 l3 : Lists) (follows : Follows n event outcome old mid noted buried climbed new l0 l1 l2 l3) (s t : State)
    (rest : AtRest s) (sound : Sound s) (begins : s.n + 1 ≡ n) (legal : is_legal (links s) ≡ true) (stands_before : StandFor old s) (stands_after : StandFor (settled n event outcome old mid noted buried climbed new l0 l1 l2 l3 follows) t)
    (c : Change) (made : StandFor mid c.1) (ends : t ≡ end_of s c) (changed : Changed c.1) (settled_change : Remains c.1 c.2 (end_of s c)) (at : c.1.n ≡ n) (counted : (0 == n) ≡ false) (as_raised : AsRaisedIn c.1.files outcome.raising mid.tables mid.clock c.2)
    (e : ℕ) (report : IsReport (next_event s) e outcome.picked c) (live : is_live t.files e ≡ true) where
  abbrev b : State
  b = next_event s

  abbrev left : Parts
  left = settled n event outcome old mid noted buried climbed new l0 l1 l2 l3 follows

  abbrev keys : List (Option ℕ)
  keys = buried.tables.keys

  abbrev told_state : State
  told_state = record b { watches = map (reported b outcome.picked) b.watches; waiters = report.ws }

  changed_told : Changed told_state
  changed_told = subst Changed report.made changed

  named_here : is_among (named told_state) e ≡ true
  named_here =
      ap (λ (u : State). is_among (named u) e) (sym report.made)
      ∙ (sym (named_lives c.1 c.2 changed.lives e) ∙ (ap (λ (u : State). is_live u.files e) (sym ends) ∙ live))

  all_named : (d : ℕ) → is_live b.files d ≡ true → is_among (named told_state) d ≡ true
  all_named d lives =
      let tables = named_in_tables b.files.tables in
      let places : List Waiter → List ℕ = map (λ w. w.instance) in
      let held : (is_among tables d || is_among (places b.waiters) d) ≡ true = sym (among_append tables (places b.waiters) d) ∙ (rest.named d ∙ lives) in
      elim (or_cases (is_among tables d) (is_among (places b.waiters) d) held) [
        | inl there ↦ among_append tables (places report.ws) d ∙ or_left _ _ there
        | inr waits ↦
            let w = member_of_map (λ (v : Waiter). v.instance) b.waiters d (among_member (places b.waiters) d waits) in
            elim (report.stay w.0 w.1) [
              | inl here ↦ ap (is_among (named told_state)) (sym w.2 ∙ here) ∙ named_here
              | inr stays ↦
                  among_append tables (places report.ws) d
                  ∙ or_right (is_among tables d) _ (among d (places report.ws) (subst (λ (j : ℕ). Member j (places report.ws)) w.2 (member_map (λ (v : Waiter). v.instance) w.0 report.ws stays)))
            ]
      ]

  quiet : AtRest b
  quiet = quiet_begun s rest

  first_event : (0 == b.n) ≡ false
  first_event = after_first s.n

  is_end : t ≡ end b quiet first_event outcome.picked report.ws changed_told all_named
  is_end = ends ∙ (λ i. settle b (report.made i) (report.raised i))

  nothing_passes : (w : Watch) → passes_on_of c w ≡ false
  nothing_passes w = (λ i. passes_on_of (c.0, report.made i, report.raised i) w) ∙ passes_nothing b quiet first_event outcome.picked report.ws changed_told all_named c.0 w

  old_reports : (w : Watch) → Member w b.watches → w.rep ≡ b.n → ⊥
  old_reports w m h =
      let fair = all_member (λ (x : Watch). x.rep ≤ x.from) s.watches w sound.fair m in
      let past = all_member (λ (x : Watch). x.from ≤ s.n) s.watches w sound.past m in
      absurd (omega (arith, fair, past, h))

  -- what was reported and stays
  told_reportable : (x : Watch) → Member x c.1.watches → x.rep ≡ n → x.armed ≡ true → has_bit x.mask ET ≡ false → is_reportable_in t x.instance x.number ≡ true
  told_reportable x m rep armed edge =
      let there = subst (λ (u : State). Member x u.watches) report.made m in
      let shows = still_shows b legal e outcome.picked report.ws report.of old_reports x there (rep ∙ sym begins) armed edge in
      ap (λ (u : State). is_reportable_in u x.instance x.number) is_end ∙ ends_reportable b quiet first_event outcome.picked report.ws changed_told all_named x there shows

  lives_before : is_live b.files e ≡ true
  lives_before = ap (λ (f : Files). is_live f e) (sym (ap (λ (u : State). u.files) is_end ∙ same_files b quiet first_event outcome.picked report.ws changed_told all_named)) ∙ live

  pub key_before : (i : DescId) × (desc_number old.tables i ≡ Some e)
  key_before = let k = follows.tables.keyed e (ap (λ (f : Files). is_live f e) (sym stands_before.files) ∙ lives_before) in (k.0, k.1)

  key_after : (i : DescId) × (desc_number buried.tables i ≡ Some e)
  key_after = let k = follows.settles.sound_buried.keyed e (ap (λ (f : Files). is_live f e) (sym stands_after.files) ∙ live) in (k.0, k.1)

  same_key : key_before.0.0 ≡ key_after.0.0
  same_key = follows.settles.sound.one key_before.0 key_after.0 e (follows.keys key_before.0 e key_before.1) ((burial n event outcome old mid noted buried climbed new l0 l1 l2 l3 follows).buries.keys key_after.0 e key_after.1)

  module _ (stays : (k : ℕ) → is_among (list_at l1 key_before.0.0) k ≡ true → key_stays n mid.interest k ≡ true) where
    abbrev i : ℕ
    i = key_after.0.0

    -- one that stood on the list after the change
    stood_reportable : (k : ℕ) (y : Entry) → entry_under climbed.interest (entry_id k) ≡ Some y → (v : KernelWatch) → Views keys buried.interest k v → watch_at keys y ≡ climb n buried climbed.interest follows.settles.climbs follows.climbed_keys follows.leaves.left follows.now follows.settles.coherent_buried follows.settles.sound_buried v
        → is_among (list_at l2 i) k ≡ true → is_reportable_in t (number_at keys y.instance) y.number ≡ true
    stood_reportable k y under v views is on =
        let before = stood n outcome.raising mid noted.interest buried (leaves n event outcome old mid noted buried climbed new l0 l1 l2 l3 follows) l1 l2 (loses n event outcome old mid noted buried climbed new l0 l1 l2 l3 follows) follows.turns.places i k on in
        let stay = stays k (ap (λ (d : ℕ). is_among (list_at l1 d) k) same_key ∙ before) in
        let u = left_back n outcome.raising mid noted.interest buried (leaves n event outcome old mid noted buried climbed new l0 l1 l2 l3 follows) k v views in
        let x = u.1.x in
        let all = both_true (x.reported_in == n && x.armed) (not (has_bit x.mask.0 ET)) (sym (ap (stays_found n) u.1.under) ∙ stay) in
        let two = both_true (x.reported_in == n) x.armed all.0 in
        let there = subst (Member u.0) (sym made.watches) (view_member mid.tables.keys mid.interest k u.0 u.1) in
        let w = member_of_map (kernel_watch c.1) c.1.watches u.0 there in
        let same : kernel_watch c.1 w.0 ≡ watch_at mid.tables.keys x = w.2 ∙ sym u.1.is in
        let instance : number_at keys y.instance ≡ w.0.instance = ap (λ (z : KernelWatch). z.instance) is ∙ (ap (λ (z : KernelWatch). z.instance) u.3 ∙ ap (λ (z : KernelWatch). z.instance) (sym w.2)) in
        let number : y.number ≡ w.0.number = ap (λ (z : KernelWatch). z.number) is ∙ (ap (λ (z : KernelWatch). z.number) u.3 ∙ ap (λ (z : KernelWatch). z.number) (sym w.2)) in
        (λ j. is_reportable_in t (instance j) (number j))
        ∙ told_reportable w.0 w.1 (ap (λ (z : KernelWatch). z.reported_in) same ∙ from_test x.reported_in n two.0) (ap (λ (z : KernelWatch). z.armed) same ∙ two.1) (ap (λ (z : KernelWatch). has_bit z.mask ET) same ∙ from_not (has_bit x.mask.0 ET) all.1)

    number_reportable : (k : ℕ) → is_among (order_at climbed.interest l3 i) k ≡ true → is_reportable_in t e k ≡ true
    number_reportable number on =
        let f = follows.settles in
        let j = number_member climbed.interest (list_at l3 i) number (among_member (order_at climbed.interest l3 i) number on) in
        let k = j.0 in
        let y = entry_at left t stands_after follows.now f.climbs.linked f.sound_buried l3 (places_after n event outcome old mid noted buried climbed new l0 l1 l2 l3 follows) follows.lists_after i k j.1 in
        let z = climbed_back n buried climbed.interest f.climbs follows.climbed_keys follows.leaves.left follows.now f.coherent_buried f.sound_buried k (watch_at keys y.0) (entry_views keys climbed.interest k y.0 y.1) in
        let instance : number_at keys y.0.instance ≡ e = ap (λ (d : ℕ). number_at keys (record { 0 = d })) y.2 ∙ ap (λ (o : Option ℕ). unwrap_or o 0) key_after.1 in
        let is : y.0.number ≡ number = sym (ap (λ (o : Option ℕ). unwrap_or o 0) (is_under climbed.interest (entry_id k) y.0 y.1).number) ∙ j.2 in
        let there = sym (follows.gains.each i k) ∙ among k (list_at l3 i) j.1 in
        elim (or_cases (is_among (list_at l2 i) k) (comes_in n buried k && is_home i (instance_at l2 (entry_id k))) there) [
          | inl stood_there ↦ (λ d. is_reportable_in t (sym instance d) (sym is d)) ∙ stood_reportable k y.0 y.1 z.0 z.1 z.3 stood_there
          | inr came ↦
              let from =
              came_from n outcome.raising mid noted.interest buried (leaves n event outcome old mid noted buried climbed new l0 l1 l2 l3 follows)
              b c made changed settled_change at counted as_raised (ap (λ (u : State). u.files) (sym ends) ∙ stands_after.files) f.coherent_buried k z.1.x z.1.under (both_true (comes_in n buried k) (is_home i (instance_at l2 (entry_id k))) came).0 in
              absurd (false≢true (sym (nothing_passes from.0) ∙ from.3))
        ]

    pub few_left : (k : ℕ) → is_among (list_of (lists_of left l3) e) k ≡ true → is_reportable_in t e k ≡ true
    few_left k on = number_reportable k (ap (λ (ks : List ℕ). is_among ks k) (sym (listed_of left l3 follows.settles.sound_buried key_after.0 e key_after.1)) ∙ on)

refused_no_events : (error : Errno) (reports : List Report) → Refused error ≡ Events reports → ⊥
refused_no_events error reports h = absurd (cc)

-- Over one event.
module _ (law : ListsGoOn) (past : List Record) (n : ℕ) (event : Event) (outcome : Outcome) (old mid noted buried climbed new : Parts) (l0 l1 l2 l3 : Lists) (follows : Follows n event outcome old mid noted buried climbed new l0 l1 l2 l3)
    (caller : CallerId) (at : n ≡ length past + 1) (runs : Runs past old l0) (does : DoesAt (next_event runs.keeps.state) caller.0 event outcome old mid) (told : LeavesStaying (next_event runs.keeps.state) n caller.0 event outcome old.tables mid.interest l1) where
  abbrev before : State
  before = runs.keeps.state

  abbrev after : State
  after = (keeps_after law past n event outcome old mid noted buried climbed new l0 l1 l2 l3 follows caller at runs does).state

  pub few_reportable : LeavesReportable before after caller.0 event outcome.answer (list_of (lists_of new l3))
  few_reportable e most reports is waits few live k on = by (first (refusals old.tables.limits (next_event before) caller.0 event)) refl does.goes does.raises where
    by : (o : Option Errno) → first (refusals old.tables.limits (next_event before) caller.0 event) ≡ o
        → MatchOption o (Makes (change old.tables.limits (next_event before) caller.0 event outcome.picked) outcome.answer mid) (λ error. Refuses (next_event before) error outcome.answer outcome.picked mid)
        → MatchOption o ((made : Change) → change old.tables.limits (next_event before) caller.0 event outcome.picked ≡ Some made → AsRaisedIn made.1.files outcome.raising mid.tables mid.clock made.2) (λ error. AsRaised outcome.raising mid.tables mid.clock [])
        → is_reportable_in after e k ≡ true
    by (Some error) h r raises = absurd (refused_no_events error reports (sym r.answers ∙ is))
    by None allowed m raises =
        let limits = old.tables.limits in
        let s = runs.keeps.state in
        let b = next_event s in
        let c = m.made in
        let ends : after ≡ end_of s c =
        to_state law past n event outcome old mid noted buried climbed new l0 l1 l2 l3 follows caller at runs does _ outcome.answer c.0 after (end_of s c) (goes law past n event outcome old mid noted buried climbed new l0 l1 l2 l3 follows caller at runs does)
        (step_changed limits s caller.0 event outcome.picked c allowed m.is) in
        let changed = quiet_change limits b caller.0 event outcome.picked c (quiet_begun s runs.keeps.quiet) allowed m.is in
        let settled_change = settle_remains b c.1 c.2 (change_counted limits s caller.0 event outcome.picked c m.is) changed in
        let begins : s.n + 1 ≡ n = ap (λ (j : ℕ). j + 1) runs.keeps.n ∙ sym at in
        let at_c : c.1.n ≡ n = change_n limits b caller.0 event outcome.picked c m.is ∙ begins in
        let counted : (0 == n) ≡ false = ap (λ (j : ℕ). 0 == j) (sym begins) ∙ after_first s.n in
        let waits_here = waits_begun s caller.0 event e most waits in
        let report = wait_reports limits b (sound_begun s runs.keeps.sound) (quiet_begun s runs.keeps.quiet) outcome.picked caller.0 event e most c reports waits_here m.is (m.answers ∙ is) in
        let count = report.told reports (m.answers ∙ is) in
        let short : length outcome.picked < most = omega (arith, count, few) in
        few_left n event outcome old mid noted buried climbed new l0 l1 l2 l3 follows s after runs.keeps.quiet runs.keeps.sound begins (graph_stays_legal limits past s runs.keeps.leads) runs.keeps.stands
        (stands_after law past n event outcome old mid noted buried climbed new l0 l1 l2 l3 follows caller at runs does) c m.stands ends changed settled_change at_c counted (raises c m.is) e report live
        (λ j here. told e most reports is waits_here short _ (key_before n event outcome old mid noted buried climbed new l0 l1 l2 l3 follows s after runs.keeps.quiet runs.keeps.sound begins (graph_stays_legal limits past s runs.keeps.leads) runs.keeps.stands
        (stands_after law past n event outcome old mid noted buried climbed new l0 l1 l2 l3 follows caller at runs does) c m.stands ends changed settled_change at_c counted (raises c m.is) e report live).1 j here) k
        (ap (λ (p : Parts). is_among (list_of (lists_of p l3) e) k) (sym (settled_is n event outcome old mid noted buried climbed new l0 l1 l2 l3 follows)) ∙ on)
