use Rattle.std.proofs.Common.{◌≡◌, ◌+◌, ◌++◌, ◌⊎◌, [], ◌∷◌, List, None, Option, Some, ℕ, ap, false, length, ◌∙◌, arith, option_copied, subst, sym, true}
use Rattle.ep_alarms.proofs.ChangesLemmas.{set_same}
use Rattle.ep_alarms.specs.Alarms.{AreSet}
use Rattle.ep_base.specs.declared.answer.Answer.{Answer}
use Rattle.ep_base.specs.declared.call.Event.{Event}
use Rattle.ep_base.specs.declared.ids.DescId.{DescId}
use Rattle.ep_base.specs.declared.ids.EntryId.{EntryId}
use Rattle.ep_base.specs.declared.record.Record.{Record}
use Rattle.ep_choice.proofs.ReachedLemmas.{reached_left}
use Rattle.ep_calls.specs.Ends.{RestsBy}
use Rattle.ep_calls.proofs.EntryLemmas.{holds_under}
use Rattle.ep_calls.proofs.GivenLemmas.{fits_slot}
use Rattle.ep_calls.proofs.KeepsLemmas.{DoesAt, record_of}
use Rattle.ep_calls.proofs.KeptLemmas.{inline_event}
use Rattle.ep_calls.proofs.LastLemmas.{event_last}
use Rattle.ep_calls.specs.Book.{Book, state_of}
use Rattle.ep_calls.specs.Climb.{is_nested_key}
use Rattle.ep_calls.specs.Given.{FitsSlot}
use Rattle.ep_calls.specs.Keeps.{Keeps}
use Rattle.ep_calls.specs.Kept.{KeepsEvent}
use Rattle.ep_calls.specs.Parts.{Parts}
use Rattle.ep_calls.specs.Readiness.{entry_shows, readiness}
use Rattle.ep_calls.specs.declared.outcome.Outcome.{Outcome}
use Rattle.ep_choice.proofs.EndLemmas.{attend_of, have_instances, looked_at, notes_event}
use Rattle.ep_choice.specs.Lost.{NotesLost}
use Rattle.ep_choice.specs.Marking.{AreLookedAt, gets_mark_key}
use Rattle.ep_choice.specs.declared.choice.Choice.{Choice}
use Rattle.ep_climb.specs.Mark.{attends, left_at, resumed_at}
use Rattle.ep_climb.specs.Reach.{AreReached}
use Rattle.ep_dates.specs.Ask.{shows_by, shows_over}
use Rattle.ep_dates.specs.Dates.{is_dated}
use Rattle.ep_dates.specs.Touched.{may_come, may_go}
use Rattle.ep_interest.specs.Registrations.{entry_under}
use Rattle.ep_interest.specs.declared.entry.Entry.{Entry}
use Rattle.ep_machine.specs.Effect.{first}
use Rattle.ep_machine.specs.Lists.{is_among}
use Rattle.ep_machine.specs.Refusal.{refusals}
use Rattle.ep_machine.specs.Step.{next_event}
use Rattle.ep_nest.proofs.AdjacentLemmas.{on_err}
use Rattle.ep_plain.proofs.ComeLemmas.{begins as begins_left}
use Rattle.ep_plain.proofs.GoLemmas.{ends_left}
use Rattle.ep_plain.proofs.ReportedLemmas.{reported_left}
use Rattle.ep_plain.proofs.StandingLemmas.{adds_by, dates_from, does_with, exact_now, kept_of, may_report, order_left, reports, standing_grown, standing_next}
use Rattle.ep_plain.specs.Dating.{touched_in}
use Rattle.ep_plain.specs.Exact.{IsExact}
use Rattle.ep_plain.specs.Standing.{Standing, book_of}
use Rattle.ep_plain.specs.StepWith.{AddsBy, HasStep}
use Rattle.ep_plain.specs.These.{MayReport}
use Rattle.ep_plain.specs.declared.dating.Dating.{Dating}
use Rattle.ep_plain.specs.declared.plain.PlainKernel.TheInside.{Inside}
use Rattle.ep_walk.specs.Walk.{Walk}
use Rattle.ep_records.specs.Past.{Past, whole}
use Rattle.ep_records.proofs.WholeLemmas.{whole_added}
use Rattle.ep_plain.proofs.plain.PlainKernel.try_step.Goals as goal

pub act_with-requires : goal.act_with-requires
act_with-requires c =
    let k = c.self.inside in
    let n : c.next_number-step.result ≡ length (whole k.history) + 1 = c.next_number-step.ensures ∙ ap (λ (h : Past). length (whole h) + 1) c.reserve.ensures.stays in
    record {
      step = omega arith;
      exact = subst (λ (m : ℕ). IsExact m k.parts k.dating) (sym n) (exact_now (whole k.history) k.parts k.dating c.self.invariant.standing);
    }

pub invariant_of-self-in_err-outcome : goal.invariant_of-self-in_err-outcome
invariant_of-self-in_err-outcome c =
    let k = c.self.inside in
    let e = c.act_with.new.dating in
    let a = c.make_room-has_room.new.self in
    let same = c.in_err-outcome.ensures.err in
    let standing = standing_grown (whole k.history) k.parts k.dating e c.in_err-outcome.ensures.grows c.self.invariant.standing in
    record {
      standing = subst (λ (rs : List Record). Standing rs c.act_with.new.parts e) (sym (ap whole c.reserve.ensures.stays)) (subst (λ (p : Parts). Standing (whole k.history) p e) (sym same) standing);
      set = subst (λ (p : Parts). AreSet p.tables p.clock a) (sym same) (set_same k.parts.tables k.parts.clock k.alarms a c.make_room-has_room.ensures.kept c.self.invariant.set);
    }

-- An event that finds no memory is one that nothing refuses.
pub returns-in_err-outcome-clause-last : goal.returns-in_err-outcome-clause-last
returns-in_err-outcome-clause-last c =
    let k = c.self.inside in
    let was = c.args.self.now in
    on_err c.from_residual-in_err-outcome.result
    (λ room. subst (λ (e : Event). first (refusals was.limits (next_event (state_of was)) c.args.caller.0 e) ≡ None) c.event-asked.ensures
    (subst (λ (b : Book). first (refusals b.limits (next_event (state_of b)) c.args.caller.0 c.event-asked.result.now) ≡ None) c.self.view_is
    (event_last (whole k.history) k.parts c.self.invariant.standing.keeps c.args.caller.0 c.event-asked.result.now c.in_err-outcome.ensures.last)))

-- where a second record is asked for, there is a copy, or none is needed
pub put_record-answer-requires-clause-inline : goal.put_record-answer-requires-clause-inline
put_record-answer-requires-clause-inline c asked none =
    let k = c.self.inside in
    let o = c.in_ok-outcome.outcome in
    let n : c.next_number-step.result ≡ length (whole k.history) + 1 = c.next_number-step.ensures ∙ ap (λ (h : Past). length (whole h) + 1) c.reserve.ensures.stays in
    let keeps = c.self.invariant.standing.keeps in
    let go =
    may_report (whole k.history) k.parts keeps c.args.caller c.event-asked.result.now (option_copied c.args.picks)
    (subst (λ (b : Book). HasStep b.limits (state_of b) c.args.caller c.event-asked.result.now (option_copied c.args.picks)) (sym c.self.view_is)
    (subst (λ (e : Event). HasStep c.args.self.now.limits (state_of c.args.self.now) c.args.caller e (option_copied c.args.picks)) (sym c.event-asked.ensures) c.requires.there)) in
    let done =
    does_with (whole k.history) k.parts keeps c.next_number-step.result n (MayReport k.parts c.args.caller.0 c.event-asked.result.now (option_copied c.args.picks)) c.args.caller.0 c.event-asked.result.now o c.act_with.new.parts c.in_ok-outcome.ensures.ok go in
    let kept : KeepsEvent c.event-asked.result.now c.args.kept o = kept_of (option_copied c.args.picks) c.args.kept c.requires.kept asked c.in_ok-outcome.ensures.kept in
    inline_event k.parts.tables.limits (next_event keeps.state) c.args.caller.0 o c.args.kept asked none c.event-asked.result.now c.act_with.new.parts done.goes kept

-- a short write is answered by a number at most
pub put_record-answer-requires-clause-slot : goal.put_record-answer-requires-clause-slot
put_record-answer-requires-clause-slot c =
    let k = c.self.inside in
    let o = c.in_ok-outcome.outcome in
    let n : c.next_number-step.result ≡ length (whole k.history) + 1 = c.next_number-step.ensures ∙ ap (λ (h : Past). length (whole h) + 1) c.reserve.ensures.stays in
    let keeps = c.self.invariant.standing.keeps in
    let go =
    may_report (whole k.history) k.parts keeps c.args.caller c.event-asked.result.now (option_copied c.args.picks)
    (subst (λ (b : Book). HasStep b.limits (state_of b) c.args.caller c.event-asked.result.now (option_copied c.args.picks)) (sym c.self.view_is)
    (subst (λ (e : Event). HasStep c.args.self.now.limits (state_of c.args.self.now) c.args.caller e (option_copied c.args.picks)) (sym c.event-asked.ensures) c.requires.there)) in
    let done =
    does_with (whole k.history) k.parts keeps c.next_number-step.result n (MayReport k.parts c.args.caller.0 c.event-asked.result.now (option_copied c.args.picks)) c.args.caller.0 c.event-asked.result.now o c.act_with.new.parts c.in_ok-outcome.ensures.ok go in
    subst (λ (e : Event). FitsSlot e o.answer o.picked) c.event-asked.ensures
    (fits_slot k.parts.tables.limits (next_event keeps.state) c.args.caller.0 o.answer o.picked c.act_with.new.parts c.event-asked.result.now done.goes)

-- What is asked of a registration that shows something, and of one with a date.
abbrev Begins : Parts → Dating → Option DescId → List ℕ → Type 0
Begins p d called reported = (id : EntryId) (x : Entry) → entry_under p.interest id ≡ Some x → entry_shows (readiness p.tables p.clock p.interest) p.tables p.clock x ≡ true
    → (is_dated d.dates x ≡ true) ⊎ (may_come p.interest (touched_in d called reported) id.0 ≡ true)

abbrev Ends : Parts → Dating → Option DescId → List ℕ → Type 0
Ends p d called reported = (id : EntryId) (x : Entry) → entry_under p.interest id ≡ Some x → may_go p.interest (touched_in d called reported) id.0 ≡ false → is_dated d.dates x ≡ true
    → shows_by (shows_over p) d.dates x ≡ true

-- Before the dates.
module _ (c : goal.After-date_all-arg-2-1) where
  abbrev past : List Record
  past = whole c.self.inside.history

  abbrev old : Parts
  old = c.self.inside.parts

  abbrev d : Dating
  d = c.self.inside.dating

  begun : Standing past old d
  begun = c.self.invariant.standing

  number : c.next_number-step.result ≡ length past + 1
  number = c.next_number-step.ensures ∙ ap (λ (h : Past). length (whole h) + 1) c.reserve.ensures.stays

  does : DoesAt (next_event begun.keeps.state) c.args.caller.0 c.event-asked.result.now c.in_ok-outcome.outcome old c.act_with.new.parts
  does =
      does_with past old begun.keeps c.next_number-step.result number (MayReport old c.args.caller.0 c.event-asked.result.now (option_copied c.args.picks)) c.args.caller.0 c.event-asked.result.now c.in_ok-outcome.outcome c.act_with.new.parts
      c.in_ok-outcome.ensures.ok
      (may_report past old begun.keeps c.args.caller c.event-asked.result.now (option_copied c.args.picks)
      (subst (λ (b : Book). HasStep b.limits (state_of b) c.args.caller c.event-asked.result.now (option_copied c.args.picks)) (sym c.self.view_is)
      (subst (λ (e : Event). HasStep c.args.self.now.limits (state_of c.args.self.now) c.args.caller e (option_copied c.args.picks)) (sym c.event-asked.ensures) c.requires.there)))

  -- the history has its record
  history_now : c.put_record-answer.new.history.items ≡ c.self.inside.history.items ++ record_of c.args.caller c.event-asked.result.now c.in_ok-outcome.outcome ∷ []
  history_now =
      subst (λ (e : Event). c.put_record-answer.new.history.items ≡ c.reserve.new.self.items ++ record_of c.args.caller e c.in_ok-outcome.outcome ∷ []) (sym c.event-asked.ensures) c.put_record-answer.ensures.items
      ∙ ap (λ (h : Past). h.items ++ record_of c.args.caller c.event-asked.result.now c.in_ok-outcome.outcome ∷ []) c.reserve.ensures.stays

pub date_all-requires-clause-homes : goal.date_all-requires-clause-homes
date_all-requires-clause-homes c =
    let left = c.spread.new.parts in
    let instances = have_instances (past c) (old c) c.act_with.new.parts left (begun c).keeps c.args.caller c.event-asked.result.now c.in_ok-outcome.outcome c.next_number-step.result (number c) (does c) c.in_ok-outcome.ensures.ok.keys c.know_laws.ensures.coherent
    c.spread.ensures.spreads.spreads in
    λ id x up. holds_under (λ y. is_nested_key left.tables y.instance ≡ true) left.interest id x instances up

pub date_all-requires-clause-begins : goal.date_all-requires-clause-begins
date_all-requires-clause-begins c =
    let reported : c.as_slice.result.now ≡ c.in_ok-outcome.outcome.picked = c.as_slice.ensures ∙ c.last_picked-reported.ensures c.self.inside.history.items (record_of c.args.caller c.event-asked.result.now c.in_ok-outcome.outcome) (history_now c) in
    let law =
    begins_left c.know_laws.ensures.spread (past c) (old c) c.act_with.new.parts c.spread.new.parts (begun c).keeps c.args.caller c.event-asked.result.now c.in_ok-outcome.outcome c.next_number-step.result (number c) (does c) c.in_ok-outcome.ensures.ok.keys c.know_laws.ensures.tables (d c)
    c.act_with.new.dating c.spread.new.dating (begun c).dated c.in_ok-outcome.ensures.follows c.spread.ensures.spreads c.find_called-called.result in
    subst (λ (ks : List ℕ). Begins c.spread.new.parts c.spread.new.dating c.find_called-called.result ks) (sym reported) law

pub date_all-requires-clause-ends : goal.date_all-requires-clause-ends
date_all-requires-clause-ends c =
    let reported : c.as_slice.result.now ≡ c.in_ok-outcome.outcome.picked = c.as_slice.ensures ∙ c.last_picked-reported.ensures c.self.inside.history.items (record_of c.args.caller c.event-asked.result.now c.in_ok-outcome.outcome) (history_now c) in
    let law =
    ends_left c.know_laws.ensures.stay (past c) (old c) c.act_with.new.parts c.spread.new.parts (begun c).keeps c.args.caller c.event-asked.result.now c.in_ok-outcome.outcome c.next_number-step.result (number c) (does c) c.in_ok-outcome.ensures.ok.keys c.know_laws.ensures.coherent c.know_laws.ensures.tables (d c)
    c.act_with.new.dating c.spread.new.dating (begun c).dated (begun c).ready c.in_ok-outcome.ensures.follows c.spread.ensures.spreads c.find_called-called.result c.find_called-called.ensures.called in
    subst (λ (ks : List ℕ). Ends c.spread.new.parts c.spread.new.dating c.find_called-called.result ks) (sym reported) law

pub date_all-requires-clause-reported : goal.date_all-requires-clause-reported
date_all-requires-clause-reported c id x at =
    let reported : c.as_slice.result.now ≡ c.in_ok-outcome.outcome.picked = c.as_slice.ensures ∙ c.last_picked-reported.ensures c.self.inside.history.items (record_of c.args.caller c.event-asked.result.now c.in_ok-outcome.outcome) (history_now c) in
    ap (λ (ks : List ℕ). is_among ks x.number) reported
    ∙ reported_left c.next_number-step.result c.in_ok-outcome.outcome.raising c.act_with.new.parts c.spread.new.parts c.spread.ensures.spreads.spreads c.in_ok-outcome.outcome.picked c.in_ok-outcome.ensures.follows.told id x at

-- Before the marks.
module _ (c : goal.After-rest-arg-2-1) where
  abbrev k : Inside
  k = c.self.inside

  abbrev outcome : Outcome
  outcome = c.in_ok-outcome.outcome

  abbrev keeps : Keeps (whole k.history) k.parts
  keeps = c.self.invariant.standing.keeps

  n_is : c.next_number-step.result ≡ length (whole k.history) + 1
  n_is = c.next_number-step.ensures ∙ ap (λ (h : Past). length (whole h) + 1) c.reserve.ensures.stays

  done : DoesAt (next_event keeps.state) c.args.caller.0 c.event-asked.result.now outcome k.parts c.act_with.new.parts
  done =
      does_with (whole k.history) k.parts keeps c.next_number-step.result n_is (MayReport k.parts c.args.caller.0 c.event-asked.result.now (option_copied c.args.picks)) c.args.caller.0 c.event-asked.result.now outcome c.act_with.new.parts c.in_ok-outcome.ensures.ok
      (may_report (whole k.history) k.parts keeps c.args.caller c.event-asked.result.now (option_copied c.args.picks)
      (subst (λ (b : Book). HasStep b.limits (state_of b) c.args.caller c.event-asked.result.now (option_copied c.args.picks)) (sym c.self.view_is)
      (subst (λ (e : Event). HasStep c.args.self.now.limits (state_of c.args.self.now) c.args.caller e (option_copied c.args.picks)) (sym c.event-asked.ensures) c.requires.there)))

  -- what is attended
  attended : c.attend-attended.result ≡ attends (left_at c.spread.new.parts.parked c.args.caller.0 (resumed_at k.parts.parked c.args.caller.0 c.event-asked.result.now)) outcome.raising
  attended =
      c.attend-attended.ensures
      ∙ ap (λ (o : Option DescId). attends o outcome.raising) (c.left.ensures ∙ ap (left_at c.spread.new.parts.parked c.args.caller.0) c.resumed_at-resumed.ensures)

  -- what was lost over the event
  lost_now : NotesLost k.parts c.spread.new.parts [] c.spread.new.dating.choice.lost.reached
  lost_now =
      let first : NotesLost k.parts c.act_with.new.parts [] c.act_with.new.dating.choice.lost.reached =
      subst (λ (ks : List ℕ). NotesLost k.parts c.act_with.new.parts ks c.act_with.new.dating.choice.lost.reached) c.self.invariant.standing.unlost c.in_ok-outcome.ensures.follows.lost in
      notes_event (whole k.history) k.parts c.act_with.new.parts c.spread.new.parts keeps c.args.caller c.event-asked.result.now outcome c.next_number-step.result n_is done c.in_ok-outcome.ensures.ok.keys c.know_laws.ensures.coherent
      c.spread.ensures.spreads.spreads c.act_with.new.dating.choice.lost.reached c.spread.new.dating.choice.lost.reached first c.spread.ensures.spreads.lost

pub rest-requires-clause-instances : goal.rest-requires-clause-instances
rest-requires-clause-instances c =
    have_instances (whole (k c).history) (k c).parts c.act_with.new.parts c.spread.new.parts (keeps c) c.args.caller c.event-asked.result.now (outcome c) c.next_number-step.result (n_is c) (done c) c.in_ok-outcome.ensures.ok.keys c.know_laws.ensures.coherent
    c.spread.ensures.spreads.spreads

pub rest-requires-clause-reached : goal.rest-requires-clause-reached
rest-requires-clause-reached c =
    let q = c.spread.new.parts in
    subst (λ (w : Walk). AreReached c.next_number-step.result q.tables q.interest w.reached) (sym c.date_all.ensures.reached)
    (reached_left c.next_number-step.result (outcome c).raising c.act_with.new.parts q c.spread.ensures.spreads.spreads c.spread.new.dating.reached.reached c.spread.ensures.spreads.reached)

pub rest-requires-clause-looked : goal.rest-requires-clause-looked
rest-requires-clause-looked c =
    let q = c.spread.new.parts in
    let looked =
    looked_at (whole (k c).history) (k c).parts c.act_with.new.parts q (keeps c) c.args.caller c.event-asked.result.now (outcome c) c.next_number-step.result (n_is c) (done c) c.in_ok-outcome.ensures.ok.keys c.know_laws.ensures.coherent
    c.spread.ensures.spreads.spreads c.know_laws.ensures.looked c.spread.new.dating.choice.lost.reached (lost_now c) in
    subst (λ (w : Choice). AreLookedAt c.next_number-step.result q w.lost.reached c.attend-attended.result) (sym c.date_all.ensures.choice)
    (subst (AreLookedAt c.next_number-step.result q c.spread.new.dating.choice.lost.reached) (sym (attended c)) looked)

-- Once the record is added.
module _ (c : goal.After-rest) where
  abbrev before : List Record
  before = whole c.self.inside.history

  abbrev first_parts : Parts
  first_parts = c.self.inside.parts

  abbrev first_dating : Dating
  first_dating = c.self.inside.dating

  standing : Standing before first_parts first_dating
  standing = c.self.invariant.standing

  number_then : c.next_number-step.result ≡ length before + 1
  number_then = c.next_number-step.ensures ∙ ap (λ (h : Past). length (whole h) + 1) c.reserve.ensures.stays

  -- the machine has a step that reports what is given
  may : MayReport first_parts c.args.caller.0 c.event-asked.result.now (option_copied c.args.picks) (next_event standing.keeps.state)
  may =
      may_report before first_parts standing.keeps c.args.caller c.event-asked.result.now (option_copied c.args.picks)
      (subst (λ (b : Book). HasStep b.limits (state_of b) c.args.caller c.event-asked.result.now (option_copied c.args.picks)) (sym c.self.view_is)
      (subst (λ (e : Event). HasStep c.args.self.now.limits (state_of c.args.self.now) c.args.caller e (option_copied c.args.picks)) (sym c.event-asked.ensures) c.requires.there))

  does_then : DoesAt (next_event standing.keeps.state) c.args.caller.0 c.event-asked.result.now c.in_ok-outcome.outcome first_parts c.act_with.new.parts
  does_then =
      does_with before first_parts standing.keeps c.next_number-step.result number_then (MayReport first_parts c.args.caller.0 c.event-asked.result.now (option_copied c.args.picks)) c.args.caller.0 c.event-asked.result.now c.in_ok-outcome.outcome c.act_with.new.parts
      c.in_ok-outcome.ensures.ok may

  -- what is attended
  rests : RestsBy
      (gets_mark_key c.next_number-step.result c.spread.new.parts
      (attend_of before first_parts c.act_with.new.parts c.spread.new.parts standing.keeps c.args.caller c.event-asked.result.now c.in_ok-outcome.outcome c.next_number-step.result number_then does_then c.in_ok-outcome.ensures.ok.keys c.know_laws.ensures.coherent
      c.spread.ensures.spreads.spreads))
      c.spread.new.parts c.rest.new.parts
  rests =
      let raising = c.in_ok-outcome.outcome.raising in
      let left = c.spread.new.parts in
      let attended = c.attend-attended.ensures ∙ ap (λ (o : Option DescId). attends o raising) (c.left.ensures ∙ ap (left_at left.parked c.args.caller.0) c.resumed_at-resumed.ensures) in
      subst (λ (o : Option DescId). RestsBy (gets_mark_key c.next_number-step.result left o) left c.rest.new.parts) attended c.rest.ensures.rests

  -- the history has its record
  records : whole c.put_record-answer.new.history ≡ before ++ record_of c.args.caller c.event-asked.result.now c.in_ok-outcome.outcome ∷ []
  records =
      whole_added c.reserve.new.self c.put_record-answer.new.history (record_of c.args.caller c.event-asked.result.now c.in_ok-outcome.outcome ∷ []) c.put_record-answer.ensures.taken
      (subst (λ (e : Event). c.put_record-answer.new.history.items ≡ c.reserve.new.self.items ++ record_of c.args.caller e c.in_ok-outcome.outcome ∷ []) (sym c.event-asked.ensures) c.put_record-answer.ensures.items)
      ∙ ap (λ (h : Past). whole h ++ record_of c.args.caller c.event-asked.result.now c.in_ok-outcome.outcome ∷ []) c.reserve.ensures.stays

pub invariant_of-self-2 : goal.invariant_of-self-2
invariant_of-self-2 c =
    let q = c.spread.new.parts in
    let shows = entry_shows (readiness q.tables q.clock q.interest) q.tables q.clock in
    let from = dates_from (before c) (first_parts c) c.act_with.new.parts q (first_dating c) c.act_with.new.dating c.spread.new.dating c.date_all.new.dating (standing c) c.args.caller c.event-asked.result.now c.in_ok-outcome.outcome c.next_number-step.result (number_then c) (does_then c)
    c.in_ok-outcome.ensures.follows c.spread.ensures.spreads shows c.date_all.ensures.dates in
    let order = c.date_all.ensures.order
    (order_left (before c) (first_parts c) c.act_with.new.parts q (first_dating c) c.act_with.new.dating c.spread.new.dating c.date_all.new.dating (standing c) c.args.caller c.event-asked.result.now c.in_ok-outcome.outcome c.next_number-step.result (number_then c) (does_then c)
    c.in_ok-outcome.ensures.follows c.spread.ensures.spreads) in
    let next =
    standing_next (before c) (first_parts c) c.act_with.new.parts q (first_dating c) c.act_with.new.dating c.spread.new.dating c.date_all.new.dating (standing c) c.args.caller c.event-asked.result.now c.in_ok-outcome.outcome c.next_number-step.result (number_then c) (does_then c)
    c.in_ok-outcome.ensures.follows c.spread.ensures.spreads c.in_ok-outcome.ensures.ok.keys c.know_laws.ensures.coherent c.rest.new.parts (rests c) from c.date_all.ensures.ready c.date_all.ensures.fits order
    c.rest.new.dating c.rest.ensures.dates c.rest.ensures.fits c.rest.ensures.unlost in
    record {
      standing = subst (λ (rs : List Record). Standing rs c.rest.new.parts c.rest.new.dating) (sym (records c)) next;
      set = subst (λ (p : Parts). AreSet p.tables p.clock c.spread.new.alarms) (sym c.rest.ensures.rests.others) c.spread.ensures.set;
    }

pub returns-clause-ok : goal.returns-clause-ok
returns-clause-ok c =
    let k = c.self.inside in
    let outcome = c.in_ok-outcome.outcome in
    let given = option_copied c.args.picks in
    let new : Book = record { limits = c.rest.new.parts.tables.limits; past = whole c.put_record-answer.new.history; taken = c.put_record-answer.new.history.taken; capacity = length (whole c.put_record-answer.new.history) + c.put_record-answer.new.history.room } in
    let told = reports (before c) (first_parts c) (standing c).keeps c.args.caller c.event-asked.result.now c.next_number-step.result (number_then c) given outcome.picked (may c) c.in_ok-outcome.ensures.picked in
    let adds =
    adds_by (before c) (first_parts c) c.act_with.new.parts c.spread.new.parts (first_dating c) c.act_with.new.dating c.spread.new.dating c.date_all.new.dating (standing c) c.args.caller c.event-asked.result.now outcome c.next_number-step.result (number_then c) (does_then c)
    c.in_ok-outcome.ensures.follows c.spread.ensures.spreads c.in_ok-outcome.ensures.ok.keys c.know_laws.ensures.coherent c.rest.new.parts (rests c) given told in
    let was = c.args.self.now in
    subst (λ (e : Event). AddsBy was.limits c.args.caller e given c.put_record-answer.result.0 (state_of was) (state_of new) was.past new.past) c.event-asked.ensures
    (subst (λ (a : Answer). AddsBy was.limits c.args.caller c.event-asked.result.now given a (state_of was) (state_of new) was.past new.past) (sym c.put_record-answer.ensures.answer)
    (subst (λ (b : Book). AddsBy b.limits c.args.caller c.event-asked.result.now given outcome.answer (state_of b) (state_of new) b.past new.past) c.self.view_is
    (subst (λ (rs : List Record). AddsBy k.parts.tables.limits c.args.caller c.event-asked.result.now given outcome.answer (state_of (book_of k)) (state_of (record new { past = rs })) (whole k.history) rs) (sym (records c)) adds)))
