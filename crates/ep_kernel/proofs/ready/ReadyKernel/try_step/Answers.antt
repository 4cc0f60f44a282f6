use Rattle.std.proofs.Common.{◌≡◌, ◌+◌, ◌++◌, [], ◌∷◌, ℕ, List, None, Option, ap, length, ◌∙◌, arith, subst, sym}
use Rattle.ep_alarms.specs.Alarms.{AreSet}
use Rattle.ep_base.specs.declared.answer.Answer.{Answer}
use Rattle.ep_base.specs.declared.call.Event.{Event}
use Rattle.ep_base.specs.declared.ids.DescId.{DescId}
use Rattle.ep_base.specs.declared.record.Record.{Record}
use Rattle.ep_machine.specs.Effect.{first}
use Rattle.ep_machine.specs.Refusal.{refusals}
use Rattle.ep_machine.specs.Step.{next_event}
use Rattle.ep_calls.specs.Ends.{RestsBy}
use Rattle.ep_calls.specs.Acts.{Adds}
use Rattle.ep_calls.specs.Book.{Book, state_of}
use Rattle.ep_kernel.specs.ReadyBook.{AreAdded, LeavesReportable, ReadyBook, TurnsLists, list_of, listed}
use Rattle.ep_calls.specs.Given.{FitsSlot}
use Rattle.ep_calls.specs.Parts.{Parts}
use Rattle.ep_calls.proofs.GivenLemmas.{fits_slot}
use Rattle.ep_calls.proofs.KeepsLemmas.{DoesAt, record_of}
use Rattle.ep_calls.proofs.KeptLemmas.{inline_event}
use Rattle.ep_kernel.proofs.ReadyBookLemmas.{same_lists}
use Rattle.ep_kernel.specs.Listed.{HopesFor, lists_of}
use Rattle.ep_choice.specs.Lost.{NotesLost}
use Rattle.ep_choice.specs.Marking.{AreLookedAt, gets_mark_key}
use Rattle.ep_climb.specs.Mark.{attends, left_at, resumed_at}
use Rattle.ep_kernel.specs.Running.{Runs, book_of}
use Rattle.ep_choice.proofs.EndLemmas.{have_instances, looked_at, notes_event}
use Rattle.ep_kernel.proofs.HopesForLemmas.{hopes_left}
use Rattle.ep_choice.proofs.ReachedLemmas.{reached_left}
use Rattle.ep_calls.proofs.LastLemmas.{event_last}
use Rattle.ep_nest.proofs.AdjacentLemmas.{on_err}
use Rattle.ep_kernel.proofs.HopesGoLemmas.{hopes_again}
use Rattle.ep_kernel.proofs.RunLemmas.{added_on, adds_on, does_fairly, few_on, first_on, runs_on, runs_same}
use Rattle.ep_alarms.proofs.ChangesLemmas.{set_same}
use Rattle.ep_ready.specs.ReadyLists.{Lists}
use Rattle.ep_kernel.proofs.ready.ReadyKernel.try_step.Goals as goal
use Rattle.ep_records.specs.Past.{Past, whole}
use Rattle.ep_records.proofs.WholeLemmas.{whole_added}
use Rattle.ep_kernel.proofs.ready.ReadyKernel.try_step.Goals.{After-attend-attended}

-- want of memory changes nothing
pub invariant_of-self-in_err-outcome : goal.invariant_of-self-in_err-outcome
invariant_of-self-in_err-outcome c =
    let k = c.self.inside in
    let same = c.in_err-outcome.ensures.err in
    let runs = runs_same (whole k.history) c.act.new.parts k.beside.lists c.act.new.beside.lists same.lists (subst (λ (p : Parts). Runs (whole k.history) p k.beside.lists) (sym same.parts) c.self.invariant.runs) in
    let set = set_same k.parts.tables k.parts.clock k.alarms c.make_room-has_room.new.self c.make_room-has_room.ensures.kept c.self.invariant.set in
    record {
      runs = subst (λ (rs : List Record). Runs rs c.act.new.parts c.act.new.beside.lists) (sym (ap whole c.reserve.ensures.stays)) runs;
      set = subst (λ (p : Parts). AreSet p.tables p.clock c.make_room-has_room.new.self) (sym same.parts) set;
      hopes = hopes_again c.event-asked.result.now k.parts c.act.new.parts c.act.new.beside.asked.hopes same.parts c.act.ensures.goes.hopes;
      room = c.act.ensures.goes.room;
      unlost = same.lost ∙ c.self.invariant.unlost;
    }

pub returns-in_err-outcome-clause-err_lists : goal.returns-in_err-outcome-clause-err_lists
returns-in_err-outcome-clause-err_lists c =
    let k = c.self.inside in
    let same = c.in_err-outcome.ensures.err in
    on_err c.from_residual-in_err-outcome.result
    (subst (λ (b : ReadyBook). lists_of c.act.new.parts c.act.new.beside.lists ≡ b.lists) c.self.view_is
    (ap (λ (p : Parts). lists_of p c.act.new.beside.lists) same.parts ∙ same_lists k.parts k.beside.lists c.act.new.beside.lists same.lists))

pub returns-in_err-outcome-clause-last : goal.returns-in_err-outcome-clause-last
returns-in_err-outcome-clause-last c room =
    let k = c.self.inside in
    let caller = c.args.caller.0 in
    on_err c.from_residual-in_err-outcome.result
    (subst (λ (e : Event). first (refusals c.args.self.now.book.limits (next_event (state_of c.args.self.now.book)) caller e) ≡ None) c.event-asked.ensures
    (subst (λ (b : ReadyBook). first (refusals b.book.limits (next_event (state_of b.book)) caller c.event-asked.result.now) ≡ None) c.self.view_is
    (event_last (whole k.history) k.parts c.self.invariant.runs.keeps caller c.event-asked.result.now c.in_err-outcome.ensures.last)))

-- where a second record is asked for, there is a copy, or none is needed
pub put_record-answer-requires-clause-inline : goal.put_record-answer-requires-clause-inline
put_record-answer-requires-clause-inline c asked none =
    let k = c.self.inside in
    let o = c.in_ok-outcome.outcome in
    let n : c.next_number-step.result ≡ length (whole k.history) + 1 = c.next_number-step.ensures ∙ ap (λ (h : Past). length (whole h) + 1) c.reserve.ensures.stays in
    let does = does_fairly (whole k.history) k.parts c.act.new.parts k.beside.lists c.self.invariant.runs c.next_number-step.result c.args.caller.0 c.event-asked.result.now o n c.in_ok-outcome.ensures.ok in
    inline_event k.parts.tables.limits (next_event c.self.invariant.runs.keeps.state) c.args.caller.0 o c.args.kept asked none c.event-asked.result.now c.act.new.parts does.goes c.in_ok-outcome.ensures.kept

-- a short write is answered by a number at most
pub put_record-answer-requires-clause-slot : goal.put_record-answer-requires-clause-slot
put_record-answer-requires-clause-slot c =
    let k = c.self.inside in
    let o = c.in_ok-outcome.outcome in
    let n : c.next_number-step.result ≡ length (whole k.history) + 1 = c.next_number-step.ensures ∙ ap (λ (h : Past). length (whole h) + 1) c.reserve.ensures.stays in
    let does = does_fairly (whole k.history) k.parts c.act.new.parts k.beside.lists c.self.invariant.runs c.next_number-step.result c.args.caller.0 c.event-asked.result.now o n c.in_ok-outcome.ensures.ok in
    subst (λ (e : Event). FitsSlot e o.answer o.picked) c.event-asked.ensures
    (fits_slot k.parts.tables.limits (next_event c.self.invariant.runs.keeps.state) c.args.caller.0 o.answer o.picked c.act.new.parts c.event-asked.result.now does.goes)

-- Where marks are set.
at_step : (c : After-attend-attended) → c.next_number-step.result ≡ length (whole c.self.inside.history) + 1
at_step c = c.next_number-step.ensures ∙ ap (λ (h : Past). length (whole h) + 1) c.reserve.ensures.stays

-- what is attended
attended : (c : After-attend-attended) → c.attend-attended.result ≡ attends (left_at c.spread.new.parts.parked c.args.caller.0 (resumed_at c.self.inside.parts.parked c.args.caller.0 c.event-asked.result.now)) c.in_ok-outcome.outcome.raising
attended c =
    c.attend-attended.ensures
    ∙ ap (λ (o : Option DescId). attends o c.in_ok-outcome.outcome.raising) (c.left.ensures ∙ ap (left_at c.spread.new.parts.parked c.args.caller.0) c.resumed_at-resumed.ensures)

-- what the event does
done : (c : After-attend-attended) → DoesAt (next_event c.self.invariant.runs.keeps.state) c.args.caller.0 c.event-asked.result.now c.in_ok-outcome.outcome c.self.inside.parts c.act.new.parts
done c = does_fairly (whole c.self.inside.history) c.self.inside.parts c.act.new.parts c.self.inside.beside.lists c.self.invariant.runs c.next_number-step.result c.args.caller.0 c.event-asked.result.now c.in_ok-outcome.outcome (at_step c) c.in_ok-outcome.ensures.ok

-- the hopes fit
hoped : (c : After-attend-attended) → HopesFor c.spread.new.parts c.spread.new.beside.asked.hopes
hoped c =
    let k = c.self.inside in
    let runs = c.self.invariant.runs in
    hopes_left c.know_laws.ensures.spread (whole k.history) k.parts c.act.new.parts c.spread.new.parts runs.keeps c.know_laws.ensures.tables c.know_laws.ensures.interest
    c.args.caller c.event-asked.result.now c.in_ok-outcome.outcome c.next_number-step.result (at_step c) (done c) c.in_ok-outcome.ensures.lists.turns.ids c.in_ok-outcome.ensures.ok.keys c.spread.ensures.spreads.spreads c.act.new.beside.asked.hopes c.spread.new.beside.asked.hopes c.act.ensures.goes.hopes c.spread.ensures.spreads.beside.hopes

-- what it lost
lost : (c : After-attend-attended) → NotesLost c.self.inside.parts c.spread.new.parts [] c.spread.new.beside.choice.lost.reached
lost c =
    let k = c.self.inside in
    notes_event (whole k.history) k.parts c.act.new.parts c.spread.new.parts c.self.invariant.runs.keeps c.args.caller c.event-asked.result.now c.in_ok-outcome.outcome c.next_number-step.result (at_step c) (done c) c.in_ok-outcome.ensures.ok.keys c.know_laws.ensures.coherent c.spread.ensures.spreads.spreads
    c.act.new.beside.choice.lost.reached c.spread.new.beside.choice.lost.reached (subst (λ (ks : List ℕ). NotesLost k.parts c.act.new.parts ks c.act.new.beside.choice.lost.reached) c.self.invariant.unlost c.act.ensures.goes.lost) c.spread.ensures.lost

pub rest-requires-clause-hopes : goal.rest-requires-clause-hopes
rest-requires-clause-hopes c = hoped (goal.at.rest-requires-clause-hopes c).After-attend-attended

pub rest-requires-clause-fits : goal.rest-requires-clause-fits
rest-requires-clause-fits c =
    let k = c.self.inside in
    let now = (goal.at.rest-requires-clause-fits c).After-attend-attended in
    let room = c.spread.ensures.room in
    record {
      instances = have_instances (whole k.history) k.parts c.act.new.parts c.spread.new.parts c.self.invariant.runs.keeps c.args.caller c.event-asked.result.now c.in_ok-outcome.outcome c.next_number-step.result (at_step now) (done now) c.in_ok-outcome.ensures.ok.keys c.know_laws.ensures.coherent c.spread.ensures.spreads.spreads;
      reached = room.reached;
      choice = room.choice;
      lost = room.lost;
    }

pub rest-requires-clause-reached : goal.rest-requires-clause-reached
rest-requires-clause-reached c =
    reached_left c.next_number-step.result c.in_ok-outcome.outcome.raising c.act.new.parts c.spread.new.parts c.spread.ensures.spreads.spreads c.spread.new.beside.reached.reached c.spread.ensures.spreads.reached

pub rest-requires-clause-looked : goal.rest-requires-clause-looked
rest-requires-clause-looked c =
    let k = c.self.inside in
    let now = (goal.at.rest-requires-clause-looked c).After-attend-attended in
    let ks = c.spread.new.beside.choice.lost.reached in
    subst (AreLookedAt c.next_number-step.result c.spread.new.parts ks) (sym (attended now))
    (looked_at (whole k.history) k.parts c.act.new.parts c.spread.new.parts c.self.invariant.runs.keeps c.args.caller c.event-asked.result.now c.in_ok-outcome.outcome c.next_number-step.result (at_step now) (done now) c.in_ok-outcome.ensures.ok.keys c.know_laws.ensures.coherent c.spread.ensures.spreads.spreads
    c.know_laws.ensures.looked ks (lost now))

pub act-requires : goal.act-requires
act-requires c =
    let is = c.self.invariant in
    record { stands = record { listed = is.runs.listed; hopes = is.hopes; room = is.room } }

pub spread-requires-clause-fits : goal.spread-requires-clause-fits
spread-requires-clause-fits c = record { places = record { lists = c.in_ok-outcome.ensures.lists.turns.places; hopes = c.act.ensures.goes.hopes.places }; room = c.act.ensures.goes.room }

-- the number of the event
number : (c : goal.After-put_record-answer) → c.next_number-step.result ≡ length (whole c.self.inside.history) + 1
number c = c.next_number-step.ensures ∙ ap (λ (h : Past). length (whole h) + 1) c.reserve.ensures.stays

-- the history has its record
records : (c : goal.After-put_record-answer) → whole c.put_record-answer.new.history ≡ whole c.self.inside.history ++ record_of c.args.caller c.event-asked.result.now c.in_ok-outcome.outcome ∷ []
records c =
    let event = c.event-asked.result.now in
    let items = subst (λ (e : Event). c.put_record-answer.new.history.items ≡ c.reserve.new.self.items ++ record_of c.args.caller e c.in_ok-outcome.outcome ∷ []) (sym c.event-asked.ensures) c.put_record-answer.ensures.items in
    whole_added c.reserve.new.self c.put_record-answer.new.history (record_of c.args.caller event c.in_ok-outcome.outcome ∷ []) c.put_record-answer.ensures.taken items
    ∙ ap (λ (h : Past). whole h ++ record_of c.args.caller c.event-asked.result.now c.in_ok-outcome.outcome ∷ []) c.reserve.ensures.stays

-- the rest of the event, with what is attended
rested : (c : goal.After-put_record-answer) → RestsBy (gets_mark_key c.next_number-step.result c.spread.new.parts (attends (left_at c.spread.new.parts.parked c.args.caller.0 (resumed_at c.self.inside.parts.parked c.args.caller.0 c.event-asked.result.now)) c.in_ok-outcome.outcome.raising)) c.spread.new.parts c.rest.new.parts
rested c =
    subst (λ (o : Option DescId). RestsBy (gets_mark_key c.next_number-step.result c.spread.new.parts o) c.spread.new.parts c.rest.new.parts)
    (c.attend-attended.ensures ∙ ap (λ (o : Option DescId). attends o c.in_ok-outcome.outcome.raising) (c.left.ensures ∙ ap (left_at c.spread.new.parts.parked c.args.caller.0) c.resumed_at-resumed.ensures)) c.rest.ensures.rests

pub invariant_of-self-2 : goal.invariant_of-self-2
invariant_of-self-2 c =
    let k = c.self.inside in
    let runs = subst (λ (rs : List Record). Runs rs c.rest.new.parts c.rest.new.beside.lists) (sym (records c))
    (subst (Runs ((whole k.history) ++ record_of c.args.caller c.event-asked.result.now c.in_ok-outcome.outcome ∷ []) c.rest.new.parts) (sym c.rest.ensures.lists)
    (runs_on c.know_laws.ensures.turns (whole k.history) k.parts c.act.new.parts c.rest.new.parts k.beside.lists c.act.new.beside.lists c.spread.new.beside.lists c.self.invariant.runs c.know_laws.ensures.coherent c.know_laws.ensures.tables c.know_laws.ensures.interest c.know_laws.ensures.lists c.known.ensures
    c.args.caller c.event-asked.result.now c.in_ok-outcome.outcome c.next_number-step.result (number c) c.in_ok-outcome.ensures.ok c.in_ok-outcome.ensures.lists.turns c.spread.new.parts c.spread.ensures.spreads.spreads c.spread.ensures.spreads.beside.lists (rested c))) in
    let fits = c.rest.ensures.fits in
    record {
      runs = runs;
      set = subst (λ (p : Parts). AreSet p.tables p.clock c.spread.new.alarms) (sym c.rest.ensures.rests.others) c.spread.ensures.set;
      hopes = c.rest.ensures.hopes;
      room = record { reached = fits.reached; choice = fits.choice; lost = fits.lost };
      unlost = c.rest.ensures.unlost;
    }

pub returns-clause-ok : goal.returns-clause-ok
returns-clause-ok c =
    let k = c.self.inside in
    let outcome = c.in_ok-outcome.outcome in
    let new : Book = record { limits = c.rest.new.parts.tables.limits; past = whole c.put_record-answer.new.history; taken = c.put_record-answer.new.history.taken; capacity = length (whole c.put_record-answer.new.history) + c.put_record-answer.new.history.room } in
    let adds =
    adds_on c.know_laws.ensures.turns (whole k.history) k.parts c.act.new.parts c.rest.new.parts k.beside.lists c.act.new.beside.lists c.spread.new.beside.lists c.self.invariant.runs c.know_laws.ensures.coherent c.know_laws.ensures.tables c.know_laws.ensures.interest c.know_laws.ensures.lists c.known.ensures
    c.args.caller c.event-asked.result.now outcome c.next_number-step.result (number c) c.in_ok-outcome.ensures.ok c.in_ok-outcome.ensures.lists.turns c.spread.new.parts c.spread.ensures.spreads.spreads c.spread.ensures.spreads.beside.lists (rested c) in
    let old = c.args.self.now.book in
    subst (λ (e : Event). Adds old.limits c.args.caller e c.put_record-answer.result.0 (state_of old) (state_of new) old.past new.past) c.event-asked.ensures
    (subst (λ (a : Answer). Adds old.limits c.args.caller c.event-asked.result.now a (state_of old) (state_of new) old.past new.past) (sym c.put_record-answer.ensures.answer)
    (subst (λ (b : ReadyBook). Adds b.book.limits c.args.caller c.event-asked.result.now outcome.answer (state_of b.book) (state_of new) b.book.past new.past) c.self.view_is
    (subst (λ (rs : List Record). Adds k.parts.tables.limits c.args.caller c.event-asked.result.now outcome.answer (state_of (book_of k).book) (state_of (record new { past = rs })) (whole k.history) rs) (sym (records c)) adds)))

pub returns-clause-lists : goal.returns-clause-lists
returns-clause-lists c =
    let k = c.self.inside in
    let outcome = c.in_ok-outcome.outcome in
    let book : Book = record { limits = c.rest.new.parts.tables.limits; past = whole c.put_record-answer.new.history; taken = c.put_record-answer.new.history.taken; capacity = length (whole c.put_record-answer.new.history) + c.put_record-answer.new.history.room } in
    let with_lists : Lists → ReadyBook = λ m. record { book = book; lists = lists_of c.rest.new.parts m } in
    let new = with_lists c.spread.new.beside.lists in
    let first =
    first_on c.know_laws.ensures.turns (whole k.history) k.parts c.act.new.parts c.rest.new.parts k.beside.lists c.act.new.beside.lists c.spread.new.beside.lists c.self.invariant.runs c.know_laws.ensures.coherent c.know_laws.ensures.tables c.know_laws.ensures.interest c.know_laws.ensures.lists c.known.ensures
    c.args.caller c.event-asked.result.now outcome c.next_number-step.result (number c) c.in_ok-outcome.ensures.ok c.in_ok-outcome.ensures.lists.turns c.spread.new.parts c.spread.ensures.spreads.spreads c.spread.ensures.spreads.beside.lists (rested c) c.in_ok-outcome.ensures.lists.order in
    let few =
    few_on c.know_laws.ensures.turns (whole k.history) k.parts c.act.new.parts c.rest.new.parts k.beside.lists c.act.new.beside.lists c.spread.new.beside.lists c.self.invariant.runs c.know_laws.ensures.coherent c.know_laws.ensures.tables c.know_laws.ensures.interest c.know_laws.ensures.lists c.known.ensures
    c.args.caller c.event-asked.result.now outcome c.next_number-step.result (number c) c.in_ok-outcome.ensures.ok c.in_ok-outcome.ensures.lists.turns c.spread.new.parts c.spread.ensures.spreads.spreads c.spread.ensures.spreads.beside.lists (rested c) c.in_ok-outcome.ensures.lists.order in
    let added =
    added_on c.know_laws.ensures.turns (whole k.history) k.parts c.act.new.parts c.rest.new.parts k.beside.lists c.act.new.beside.lists c.spread.new.beside.lists c.self.invariant.runs c.know_laws.ensures.coherent c.know_laws.ensures.tables c.know_laws.ensures.interest c.know_laws.ensures.lists c.known.ensures
    c.args.caller c.event-asked.result.now outcome c.next_number-step.result (number c) c.in_ok-outcome.ensures.ok c.in_ok-outcome.ensures.lists.turns c.spread.new.parts c.spread.ensures.spreads.spreads c.spread.ensures.spreads.beside.lists (rested c) in
    subst (λ (e : Event). TurnsLists c.args.caller e c.put_record-answer.result.0 c.args.self.now (with_lists c.rest.new.beside.lists)) c.event-asked.ensures
    (subst (λ (a : Answer). TurnsLists c.args.caller c.event-asked.result.now a c.args.self.now (with_lists c.rest.new.beside.lists)) (sym c.put_record-answer.ensures.answer)
    (subst (λ (b : ReadyBook). TurnsLists c.args.caller c.event-asked.result.now outcome.answer b (with_lists c.rest.new.beside.lists)) c.self.view_is
    (subst (λ (m : Lists). TurnsLists c.args.caller c.event-asked.result.now outcome.answer (book_of k) (with_lists m)) (sym c.rest.ensures.lists)
    (record {
      picked = outcome.picked;
      added = records c;
      first = first;
      few = subst (λ (rs : List Record). LeavesReportable (state_of (book_of k).book) (state_of (record book { past = rs })) c.args.caller.0 c.event-asked.result.now outcome.answer (listed new)) (sym (records c)) few;
      arrives =
          subst (λ (rs : List Record). AreAdded k.parts.tables.limits c.args.caller.0 c.event-asked.result.now outcome.picked (state_of (book_of k).book) (state_of (record book { past = rs })) (list_of (lists_of k.parts k.beside.lists)) (listed new)) (sym (records c)) added;
    }))))
