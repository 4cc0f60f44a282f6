-- Why a registration is reportable at the end of an event: the law of the machine, read off the registrations.
use Rattle.std.proofs.Common.{◌≡◌, ◌<◌, ◌∙◌, ◌+◌, ◌==◌, ◌&&◌, ◌++◌, ℕ, Bool, true, false, List, [], ◌∷◌, None, Option, Some, ap, arith, inl, inr, length, map, nat_lt, refl, subst, sym, unwrap_or}
use Rattle.std.specs.Option.{option_map}
use Rattle.std.specs.Prelude.{MatchOption}
use Rattle.std.proofs.lemmas.Bool.Decides.{nat_tests}
use Rattle.ep_facts.proofs.NatFacts.{from_test}
use Rattle.ep_facts.proofs.BoolFacts.{both_true, or_cases}
use Rattle.ep_base.specs.Limits.{Limits}
use Rattle.ep_base.specs.declared.answer.Answer.{Answer}
use Rattle.ep_base.specs.declared.call.Event.{Event}
use Rattle.ep_base.specs.declared.errno.Errno.{Errno}
use Rattle.ep_base.specs.declared.ids.CallerId.{CallerId}
use Rattle.ep_base.specs.declared.record.Record.{Record}
use Rattle.ep_calls.proofs.EndLemmas.{rested, rests_so, settles, shows_settled}
use Rattle.ep_calls.proofs.KeepsLemmas.{DoesAt, SettlesMarks, keeps_marked, machine_marks, record_of, state_is, step_marked}
use Rattle.ep_calls.proofs.EntryLemmas.{one_member}
use Rattle.ep_calls.proofs.PassLemmas.{left_member, noted_watch, passes_is}
use Rattle.ep_calls.specs.Causes.{HasCause, WasAltered, is_above}
use Rattle.ep_calls.specs.Climb.{is_nested, risen}
use Rattle.ep_calls.specs.Ends.{Spreads}
use Rattle.ep_calls.specs.Keeps.{Keeps}
use Rattle.ep_calls.specs.Moves.{Makes, Refuses}
use Rattle.ep_calls.specs.Parts.{Parts}
use Rattle.ep_calls.specs.Raising.{AsRaised, AsRaisedIn}
use Rattle.ep_calls.specs.Readiness.{entry_shows, readiness}
use Rattle.ep_calls.specs.Stands.{number_at, watch_at}
use Rattle.ep_calls.specs.declared.outcome.Outcome.{Outcome}
use Rattle.ep_interest.specs.Registrations.{settled}
use Rattle.ep_interest.specs.declared.entry.Entry.{Entry}
use Rattle.ep_law.proofs.GraphLemmas.{member_of_map}
use Rattle.ep_law.proofs.ListLemmas.{member_map}
use Rattle.ep_law.proofs.StepLemmas.{after_first, change_counted, change_n, refused_step, step_changed}
use Rattle.ep_law.specs.Laws.{HasCause as Cause, Member, ReportablesAreSpread, passes_on_of}
use Rattle.ep_machine.specs.Bits.{IN, asked}
use Rattle.ep_machine.specs.Effect.{first}
use Rattle.ep_machine.specs.Readiness.{is_reportable}
use Rattle.ep_machine.specs.Refusal.{refusals}
use Rattle.ep_machine.specs.Settle.{settle as settle_state}
use Rattle.ep_machine.specs.State.{Change, State, Watch}
use Rattle.ep_machine.specs.Step.{change, next_event, step}
use Rattle.ep_order.proofs.OriginLemmas.{sources}
use Rattle.ep_order.proofs.StepLemmas.{was_left}
use Rattle.ep_order.specs.Event.{IsAltered, end_of}
use Rattle.ep_table.specs.Value.{Seen}
use Rattle.ep_view.proofs.AtRestLemmas.{quiet_begun, quiet_change}
use Rattle.ep_view.proofs.KernelViewLemmas.{readiness as machine_readiness, reportable_kept}
use Rattle.ep_view.proofs.SettleLemmas.{settle_remains}
use Rattle.ep_view.specs.AtRest.{Changed, Remains}
use Rattle.ep_view.specs.KernelView.{KernelWatch, carries, kernel_watch, kernel_watches, ready_now, reached_now, shows, watches_instance}

above_zero : (k n : ℕ) → k ≡ n → 0 < n → nat_lt 0 k ≡ true
above_zero k n e lt = grind (arith, nat_tests, e, lt)

-- One event.
module _ (law : ReportablesAreSpread) (past : List Record) (old mid left : Parts) (keeps : Keeps past old) (caller : CallerId) (event : Event) (outcome : Outcome) (n : ℕ) (at : n ≡ length past + 1)
    (does : DoesAt (next_event keeps.state) caller.0 event outcome old mid) (spreads : Spreads n outcome.raising mid left) where
  abbrev s : State
  s = keeps.state

  abbrev b : State
  b = next_event s

  abbrev buried : Parts
  buried = spreads.buried

  abbrev test : ℕ → Bool
  test = machine_marks n outcome.raising old mid buried

  abbrev new : Parts
  new = rested test left

  abbrev noted_parts : Parts
  noted_parts = record mid { interest = spreads.noted }

  abbrev forgotten : Parts
  forgotten = record left { interest = new.interest }

  so : SettlesMarks n outcome.raising old mid noted_parts buried forgotten new
  so = settles n outcome.raising mid left new test spreads (rests_so test left)

  abbrev after : List Record
  after = past ++ record_of caller event outcome ∷ []

  keeps_after : Keeps after new
  keeps_after = keeps_marked past old mid noted_parts buried forgotten new keeps caller event outcome n at does so

  abbrev t : State
  t = keeps_after.state

  goes : step old.tables.limits s caller.0 event outcome.picked ≡ Some (outcome.answer, t)
  goes = step_marked past old mid noted_parts buried forgotten new keeps caller event outcome n at does so ∙ ap (λ (u : State). Some (outcome.answer, u)) (state_is after new keeps_after)

  to_state : (o : Option (Answer × State)) (a b : Answer) (u v : State) → o ≡ Some (a, u) → o ≡ Some (b, v) → u ≡ v
  to_state o a b u v h k = ap (λ (q : Option (Answer × State)). unwrap_or (option_map (λ (r : Answer × State). r.1) q) u) (sym h ∙ k)

  tables_left : left.tables ≡ buried.tables
  tables_left = ap (λ (p : Parts). p.tables) spreads.others

  -- the instances that IN reached
  abbrev pub reached : ℕ → Bool
  reached = reached_now buried.tables.files n (map (watch_at buried.tables.keys) buried.interest.entries)

  abbrev Why : Entry → Type 0
  Why x = HasCause old.tables.limits b caller.0 event mid left.tables reached x

  module _ (x : Entry) (member : Member x left.interest.entries) (y : Watch) (there : Member y t.watches) (ready : is_reportable t y ≡ true) (number : y.number ≡ x.number) where
    by_refusal : (error : Errno) → first (refusals old.tables.limits b caller.0 event) ≡ Some error → Refuses b error outcome.answer outcome.picked mid → Why x
    by_refusal error refused r =
        let stays : t ≡ b = to_state _ outcome.answer _ t b (ap (step old.tables.limits s caller.0 event) (sym r.unpicked) ∙ goes) (refused_step old.tables.limits s caller.0 event error refused) in
        inl (record {
          was = y;
          there = subst (λ (u : State). Member y u.watches) stays there;
          same = number;
          shown = subst (λ (u : State). is_reportable u y ≡ true) stays ready;
        })

    module _ (allowed : first (refusals old.tables.limits b caller.0 event) ≡ None) (m : Makes (change old.tables.limits b caller.0 event outcome.picked) outcome.answer mid)
        (as_raised : AsRaisedIn m.made.1.files outcome.raising mid.tables mid.clock m.made.2) where
      abbrev limits : Limits
      limits = old.tables.limits

      abbrev c : Change
      c = m.made

      ends : t ≡ end_of s c
      ends = to_state _ outcome.answer c.0 t (end_of s c) goes (step_changed limits s caller.0 event outcome.picked c allowed m.is)

      changed : Changed c.1
      changed = quiet_change limits b caller.0 event outcome.picked c (quiet_begun s keeps.quiet) allowed m.is

      settled_change : Remains c.1 c.2 (settle_state b c.1 c.2)
      settled_change = settle_remains b c.1 c.2 (change_counted limits s caller.0 event outcome.picked c m.is) changed

      begins : s.n + 1 ≡ n
      begins = ap (λ (k : ℕ). k + 1) keeps.n ∙ sym at

      at_c : c.1.n ≡ n
      at_c = change_n limits b caller.0 event outcome.picked c m.is ∙ begins

      counted : (0 == n) ≡ false
      counted = ap (λ (k : ℕ). 0 == k) (sym begins) ∙ after_first s.n

      same_files : (settle_state b c.1 c.2).files ≡ buried.tables.files
      same_files = ap (λ (u : State). u.files) (sym ends) ∙ (keeps_after.stands.files ∙ ap (λ (v : Seen). v.files) tables_left)

      cause : Cause b c y
      cause = law limits past s caller.0 event outcome.picked c y keeps.leads allowed m.is (subst (λ (u : State). Member y u.watches) ends there) (subst (λ (u : State). is_reportable u y ≡ true) ends ready)

      abbrev w : Watch
      w = cause.x

      abbrev v : Seen
      v = buried.tables

      abbrev noted : KernelWatch
      noted = noted_watch n outcome.raising mid spreads.noted buried spreads.leaves b c m.stands changed settled_change at_c counted as_raised same_files w

      -- its registration
      found : (z : Entry) × Member z buried.interest.entries × (watch_at v.keys z ≡ noted)
      found =
          member_of_map (watch_at v.keys) buried.interest.entries noted
          (left_member n outcome.raising mid spreads.noted buried spreads.leaves b c m.stands changed settled_change at_c counted as_raised same_files w cause.left)

      numbers : w.number ≡ x.number
      numbers = sym (ap (λ (u : Watch). u.number) cause.noted.1) ∙ number

      same : risen reached v found.0 ≡ x
      same =
          one_member left.interest spreads.sound (risen reached v found.0) x
          (subst (Member (risen reached v found.0)) (sym spreads.rises.entries) (member_map (risen reached v) found.0 buried.interest.entries found.1)) member
          (ap (λ (k : KernelWatch). k.number) found.2 ∙ numbers)

      same_above : is_above reached v found.0 ≡ is_above reached left.tables x
      same_above = ap (is_above reached v) same ∙ ap (λ (q : Seen). is_above reached q x) (sym tables_left)

      -- what passes something on
      passing : passes_on_of c w ≡ true → Why x
      passing on =
          let carried : carries reached v.files n noted ≡ true =
          sym (passes_is n outcome.raising mid spreads.noted buried spreads.leaves b c m.stands changed settled_change at_c counted as_raised same_files w cause.left) ∙ on in
          elim (or_cases (noted.passes_in == n) (noted.armed && watches_instance v.files noted && reached noted.target && nat_lt 0 (asked noted.mask IN)) carried) [
            | inl here ↦
                let passes : (risen reached v found.0).passes_in ≡ n = ap (λ (k : KernelWatch). k.passes_in) found.2 ∙ from_test noted.passes_in n here in
                inr (inl (subst (λ (z : Entry). nat_lt 0 z.passes_in ≡ true) same (above_zero (risen reached v found.0).passes_in n passes (omega (arith, begins)))))
            | inr above ↦
                let one = both_true (noted.armed && watches_instance v.files noted && reached noted.target) (nat_lt 0 (asked noted.mask IN)) above in
                let two = both_true (noted.armed && watches_instance v.files noted) (reached noted.target) one.0 in
                let three = both_true noted.armed (watches_instance v.files noted) two.0 in
                let nested : is_nested v found.0 ≡ true = ap (watches_instance v.files) found.2 ∙ three.1 in
                let target : reached (number_at v.keys found.0.desc) ≡ true = ap (λ (k : KernelWatch). reached k.target) found.2 ∙ two.1 in
                let armed : found.0.armed ≡ true = ap (λ (k : KernelWatch). k.armed) found.2 ∙ three.0 in
                let lets : nat_lt 0 (asked found.0.mask.0 IN) ≡ true = ap (λ (k : KernelWatch). nat_lt 0 (asked k.mask IN)) found.2 ∙ one.1 in
                inr (inr (inl (sym same_above ∙ (λ i. armed i && lets i && nested i && target i))))
          ]

      -- the event added or modified it
      -- the registration was reportable right after the change
      shown_then : is_reportable c.1 w ≡ true → (z : Entry) → Member z mid.interest.entries → z.number ≡ x.number → entry_shows (readiness mid.tables mid.clock mid.interest) mid.tables mid.clock z ≡ true
      shown_then shown z there same_number =
          let u = member_of_map (watch_at mid.tables.keys) mid.interest.entries (kernel_watch c.1 w) (subst (Member (kernel_watch c.1 w)) m.stands.watches (member_map (kernel_watch c.1) w c.1.watches (was_left b c.1 c.2 w cause.left))) in
          let one : u.0 ≡ z = one_member mid.interest spreads.leaves.was u.0 z u.1 there (ap (λ (k : KernelWatch). k.number) u.2 ∙ (numbers ∙ sym same_number)) in
          ap (λ (y : Entry). entry_shows (readiness mid.tables mid.clock mid.interest) mid.tables mid.clock y) (sym one)
          ∙ (ap (shows (readiness mid.tables mid.clock mid.interest) mid.tables.files mid.clock) u.2
          ∙ ((λ i. shows (ready_now (sym m.stands.files i) (sym m.stands.now i) (sym m.stands.watches i)) (sym m.stands.files i) (sym m.stands.now i) (kernel_watch c.1 w))
          ∙ (sym (reportable_kept c.1 w) ∙ shown)))

      altered : is_reportable c.1 w ≡ true → IsAltered b event w → Why x
      altered shown is =
          let z : Entry = risen reached v found.0 in
          let at : (q : Seen) → q ≡ v → WasAltered limits b caller.0 event mid q z = λ q e. record {
            allowed = allowed;
            left = w;
            instance = ap (λ (u : Seen). number_at u.keys z.instance) e ∙ ap (λ (k : KernelWatch). k.instance) found.2;
            fd = ap (λ (k : KernelWatch). k.fd) found.2;
            target = ap (λ (u : Seen). number_at u.keys z.desc) e ∙ ap (λ (k : KernelWatch). k.target) found.2;
            altered = is;
            shown = λ y m e. shown_then shown y m (e ∙ ap (λ (u : Entry). u.number) same);
          } in
          inr (inr (inr (subst (WasAltered limits b caller.0 event mid left.tables) same (at left.tables tables_left))))

      -- what the event left of it was reportable
      standing : is_reportable c.1 w ≡ true → Why x
      standing shown = elim (sources limits b caller.0 event outcome.picked c m.is w (was_left b c.1 c.2 w cause.left)) [
        | inl stayed ↦ elim (cause.kept stayed.kept) [
          | inl before ↦ inl (record { was = stayed.kept.was; there = stayed.kept.there; same = sym stayed.number ∙ numbers; shown = before })
          | inr on ↦ passing on
        ]
        | inr is ↦ altered shown is
      ]

      by_change : Why x
      by_change = elim cause.changed [ inl shown ↦ standing shown | inr on ↦ passing on ]

    by_cases : (o : Option Errno) → first (refusals old.tables.limits b caller.0 event) ≡ o
        → MatchOption o (Makes (change old.tables.limits b caller.0 event outcome.picked) outcome.answer mid) (λ error. Refuses b error outcome.answer outcome.picked mid)
        → MatchOption o ((made : Change) → change old.tables.limits b caller.0 event outcome.picked ≡ Some made → AsRaisedIn made.1.files outcome.raising mid.tables mid.clock made.2) (λ error. AsRaised outcome.raising mid.tables mid.clock []) → Why x
    by_cases None h m raises = by_change h m (raises m.made m.is)
    by_cases (Some error) h r raises = by_refusal error h r

    why : Why x
    why = by_cases (first (refusals old.tables.limits b caller.0 event)) refl does.goes does.raises

  -- each registration that is reportable then has a cause
  pub causes : (x : Entry) → Member x left.interest.entries → entry_shows (readiness left.tables left.clock left.interest) left.tables left.clock x ≡ true → HasCause old.tables.limits b caller.0 event mid left.tables reached x
  causes x m shown =
      let k = watch_at left.tables.keys (settled x) in
      let stands = keeps_after.stands in
      let here : Member k (kernel_watches t t.watches) = subst (Member k) (sym stands.watches) (member_map (watch_at left.tables.keys) (settled x) (map settled left.interest.entries) (member_map settled x left.interest.entries m)) in
      let y = member_of_map (kernel_watch t) t.watches k here in
      let same_ready : machine_readiness t ≡ readiness new.tables new.clock new.interest = λ i. ready_now (stands.files i) (stands.now i) (stands.watches i) in
      let ready : is_reportable t y.0 ≡ true =
      reportable_kept t y.0 ∙ ((λ i. shows (same_ready i) (stands.files i) (stands.now i) (y.2 i)) ∙ (shows_settled left.tables left.clock left.interest new.interest refl x ∙ shown)) in
      why x m y.0 y.1 ready (ap (λ (u : KernelWatch). u.number) y.2)
