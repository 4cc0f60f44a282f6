use Rattle.std.proofs.Common.{◌≡◌, ◌∙◌, ap, false, inl, inr, is_some, refl, subst, sym, true}
use Rattle.std.specs.List.{list_any}
use Rattle.std.proofs.lemmas.Result.{IfOk-weaker, on_err_weaker}
use Rattle.ep_base.specs.declared.call.Event.{Event}
use Rattle.ep_base.specs.declared.call.Event.TheVariants.{Call as CallOf, Tick}
use Rattle.ep_base.specs.declared.errno.Errno.TheVariants.{Ebusy, Esrch}
use Rattle.ep_calls.proofs.ActLemmas.{busy, past_does_if, refused_does, tick_does}
use Rattle.ep_calls.specs.Does.{DoesEvent, DoesEventIf}
use Rattle.ep_calls.specs.Last.{NothingRefuses}
use Rattle.ep_calls.proofs.LastLemmas.{past_last}
use Rattle.ep_calls.specs.Parts.{Parts}
use Rattle.ep_kernel.proofs.EventLemmas.{leaves_all, leaves_same, turns_refused}
use Rattle.ep_kernel.proofs.PickLemmas.{event_does_if}
use Rattle.ep_kernel.proofs.ReportsFirstLemmas.{is_wait, other_reports}
use Rattle.ep_kernel.proofs.WaitTurnsLemmas.{same_turns}
use Rattle.ep_alarms.proofs.ChangesLemmas.{refused_moves, tick_moves}
use Rattle.ep_alarms.specs.Changes.{MayCreate, MovesClock, TouchesTables}
use Rattle.ep_kernel.proofs.act.act.Goals as goal
use Rattle.ep_kernel.specs.Event.{LeavesBeside, TurnsInOrder}
use Rattle.ep_kernel.specs.Listed.{AreFair}
use Rattle.ep_kernel.specs.Turns.{AlteredStand}
use Rattle.ep_machine.specs.Files.{table_of}
use Rattle.ep_machine.specs.State.{State}
use Rattle.ep_park.specs.Waiters.{is_caller}

pub returns-then-is_parked-clause-ok : goal.returns-then-is_parked-clause-ok
returns-then-is_parked-clause-ok c =
    let k = c.parts.inside in
    let p : Parts = record { tables = k.tables; interest = k.interest; graph = k.graph; parked = k.waiters; clock = k.clock } in
    let e = c.refused-then-is_parked.ensures in
    let caller = c.args.request.caller.0 in
    let event : Event = CallOf c.in-Call.pid c.in-Call.call in
    let fair : State → Type 0 = λ s. AreFair s p c.args.beside.now.lists in
    rw (← c.parts.view_is, c.in-Call.is)
    (event_does_if fair c.args.request.step caller event c.refused-then-is_parked.result p p
    (refused_does p c.args.request.step caller event Ebusy c.refused-then-is_parked.result (busy p caller c.in-Call.pid c.in-Call.call (sym c.has_process.ensures ∙ c.if-not-has_process.false) (sym c.is_parked.ensures ∙ c.if-is_parked.true)) e.answer e.picked e.raising))

pub returns-else-is_parked-clause-ok : goal.returns-else-is_parked-clause-ok
returns-else-is_parked-clause-ok c =
    let pid = c.in-Call.pid in
    let caller = c.args.request.caller.0 in
    let p = c.args.parts.now in
    let fair : State → Type 0 = λ s. AreFair s p c.args.beside.now.lists in
    let there = subst (λ (q : Parts). is_some (table_of q.tables.files pid.0) ≡ true) c.parts.view_is (sym c.has_process.ensures ∙ c.if-not-has_process.false) in
    let free = subst (λ (q : Parts). list_any (is_caller caller) q.parked ≡ false) c.parts.view_is (sym c.is_parked.ensures ∙ c.if-is_parked.false) in
    IfOk-weaker c.make_call.result _ _ (λ outcome does. subst (λ (event : Event). DoesEventIf fair c.args.request.step caller event outcome p c.make_call.new.parts) (sym c.in-Call.is)
    (past_does_if p caller pid c.in-Call.call there fair c.args.request.step c.make_call.new.parts outcome free does)) c.make_call.ensures.ok

pub returns-else-is_parked-clause-last : goal.returns-else-is_parked-clause-last
returns-else-is_parked-clause-last c =
    let pid = c.in-Call.pid in
    let caller = c.args.request.caller.0 in
    let p = c.args.parts.now in
    let there = subst (λ (q : Parts). is_some (table_of q.tables.files pid.0) ≡ true) c.parts.view_is (sym c.has_process.ensures ∙ c.if-not-has_process.false) in
    let free = subst (λ (q : Parts). list_any (is_caller caller) q.parked ≡ false) c.parts.view_is (sym c.is_parked.ensures ∙ c.if-is_parked.false) in
    on_err_weaker c.make_call.result (λ last. subst (NothingRefuses p caller) (sym c.in-Call.is) (past_last p caller pid c.in-Call.call there free last)) c.make_call.ensures.last

pub returns-else-is_parked-clause-room : goal.returns-else-is_parked-clause-room
returns-else-is_parked-clause-room c none creates = c.make_call.ensures.room none (subst MayCreate c.in-Call.is creates)

pub returns-in-Resume-clause-last : goal.returns-in-Resume-clause-last
returns-in-Resume-clause-last c = on_err_weaker c.resume.result (λ last. subst (NothingRefuses c.args.parts.now c.args.request.caller.0) (sym c.in-Resume.is) last) c.resume.ensures.last

pub returns-in-Tick-clause-ok : goal.returns-in-Tick-clause-ok
returns-in-Tick-clause-ok c =
    let p = c.args.parts.now in
    let e = c.tick.ensures in
    let fair : State → Type 0 = λ s. AreFair s p c.args.beside.now.lists in
    event_does_if fair c.args.request.step c.args.request.caller.0 c.args.event.now c.tick.result p c.tick.new.self
    (subst (λ (event : Event). DoesEvent c.args.request.step c.args.request.caller.0 event c.tick.result p c.tick.new.self) (sym c.in-Tick.is)
    (subst (DoesEvent c.args.request.step c.args.request.caller.0 (Tick c.in-Tick.n) c.tick.result p) (sym e.others) (tick_does p c.args.request.step c.args.request.caller.0 c.in-Tick.n c.tick.result c.tick.new.self.clock e.ticks e.raising e.picked e.moment)))

-- The lists.
pub returns-then-not-has_process-clause-lists : goal.returns-then-not-has_process-clause-lists
returns-then-not-has_process-clause-lists c = turns_refused c.args.request.step c.args.request.caller.0 c.args.event.now c.refused.result c.args.parts.now c.args.beside.now.lists Esrch c.requires.stands.listed c.refused.ensures.answer c.refused.ensures.picked

pub returns-then-is_parked-clause-lists : goal.returns-then-is_parked-clause-lists
returns-then-is_parked-clause-lists c =
    let refused = c.refused-then-is_parked in
    turns_refused c.args.request.step c.args.request.caller.0 c.args.event.now refused.result c.args.parts.now c.args.beside.now.lists Ebusy c.requires.stands.listed refused.ensures.answer refused.ensures.picked

pub returns-else-is_parked-clause-lists : goal.returns-else-is_parked-clause-lists
returns-else-is_parked-clause-lists c =
    IfOk-weaker c.make_call.result _ _ (λ outcome told. subst (λ (event : Event). TurnsInOrder c.args.request.step c.args.request.caller.0 event outcome c.args.parts.now c.args.beside.now.lists c.make_call.new.parts c.make_call.new.beside.lists) (sym c.in-Call.is) told) c.make_call.ensures.lists

pub returns-in-Resume-clause-lists : goal.returns-in-Resume-clause-lists
returns-in-Resume-clause-lists c =
    IfOk-weaker c.resume.result _ _ (λ outcome told. subst (λ (event : Event). TurnsInOrder c.args.request.step c.args.request.caller.0 event outcome c.args.parts.now c.args.beside.now.lists c.resume.new.parts c.resume.new.beside.lists) (sym c.in-Resume.is) told) c.resume.ensures.lists

pub returns-in-Tick-clause-lists : goal.returns-in-Tick-clause-lists
returns-in-Tick-clause-lists c =
    let p = c.args.parts.now in
    let q = c.tick.new.self in
    let l = c.args.beside.now.lists in
    record {
      turns = same_turns c.args.event.now c.tick.result.picked p q l c.requires.stands.listed (ap (λ (r : Parts). r.interest) c.tick.ensures.others) c.tick.ensures.picked (subst (λ (event : Event). AlteredStand event p q l) (sym c.in-Tick.is) tt);
      order = other_reports l c.args.request.step c.args.request.caller.0 c.args.event.now c.tick.result p q l (ap is_wait c.in-Tick.is);
    }

-- The tables.
pub returns-then-not-has_process-clause-tables : goal.returns-then-not-has_process-clause-tables
returns-then-not-has_process-clause-tables c =
    let p = c.args.parts.now in
    subst (λ (event : Event). TouchesTables event c.refused.result.answer p p) (sym c.in-Call.is) (inl (Esrch, record { answers = c.refused.ensures.answer; tables = refl }))

pub returns-then-is_parked-clause-tables : goal.returns-then-is_parked-clause-tables
returns-then-is_parked-clause-tables c =
    let p = c.args.parts.now in
    let refused = c.refused-then-is_parked in
    subst (λ (event : Event). TouchesTables event refused.result.answer p p) (sym c.in-Call.is) (inl (Ebusy, record { answers = refused.ensures.answer; tables = refl }))

pub returns-else-is_parked-clause-tables : goal.returns-else-is_parked-clause-tables
returns-else-is_parked-clause-tables c =
    let p = c.args.parts.now in
    let there = subst (λ (q : Parts). is_some (table_of q.tables.files c.in-Call.pid.0) ≡ true) c.parts.view_is (sym c.has_process.ensures ∙ c.if-not-has_process.false) in
    IfOk-weaker c.make_call.result _ _ (λ outcome moves. subst (λ (event : Event). TouchesTables event outcome.answer p c.make_call.new.parts) (sym c.in-Call.is) (inr (there, moves.tables))) c.make_call.ensures.moves

pub returns-in-Resume-clause-tables : goal.returns-in-Resume-clause-tables
returns-in-Resume-clause-tables c =
    let p = c.args.parts.now in
    IfOk-weaker c.resume.result _ _ (λ outcome leaves. subst (λ (event : Event). TouchesTables event outcome.answer p c.resume.new.parts) (sym c.in-Resume.is) leaves.files) c.resume.ensures.leaves

pub returns-in-Tick-clause-tables : goal.returns-in-Tick-clause-tables
returns-in-Tick-clause-tables c =
    let p = c.args.parts.now in
    subst (λ (event : Event). TouchesTables event c.tick.result.answer p c.tick.new.self) (sym c.in-Tick.is) (ap (λ (q : Parts). q.tables.files) c.tick.ensures.others)

-- the clock
pub returns-then-not-has_process-clause-clock : goal.returns-then-not-has_process-clause-clock
returns-then-not-has_process-clause-clock c = refused_moves c.args.event.now c.in-Call.pid c.in-Call.call c.refused.result.raising c.args.parts.now.clock c.in-Call.is c.refused.ensures.raising

pub returns-then-is_parked-clause-clock : goal.returns-then-is_parked-clause-clock
returns-then-is_parked-clause-clock c = refused_moves c.args.event.now c.in-Call.pid c.in-Call.call c.refused-then-is_parked.result.raising c.args.parts.now.clock c.in-Call.is c.refused-then-is_parked.ensures.raising

pub returns-else-is_parked-clause-clock : goal.returns-else-is_parked-clause-clock
returns-else-is_parked-clause-clock c =
    let p = c.args.parts.now in
    IfOk-weaker c.make_call.result _ _ (λ outcome moves. subst (λ (event : Event). MovesClock event outcome.raising p.clock c.make_call.new.parts.clock) (sym c.in-Call.is) moves.clock) c.make_call.ensures.moves

pub returns-in-Resume-clause-clock : goal.returns-in-Resume-clause-clock
returns-in-Resume-clause-clock c =
    let p = c.args.parts.now in
    IfOk-weaker c.resume.result _ _ (λ outcome leaves. subst (λ (event : Event). MovesClock event outcome.raising p.clock c.resume.new.parts.clock) (sym c.in-Resume.is) leaves.clock) c.resume.ensures.leaves

pub returns-in-Tick-clause-clock : goal.returns-in-Tick-clause-clock
returns-in-Tick-clause-clock c =
    let p = c.args.parts.now in
    let now = c.tick.new.self.clock in
    subst (λ (event : Event). MovesClock event c.tick.result.raising p.clock now) (sym c.in-Tick.is) (tick_moves c.in-Tick.n p.clock now c.tick.result.answer c.tick.result.raising c.tick.ensures.ticks c.tick.ensures.raising)

-- What it leaves beside the parts.
pub returns-then-not-has_process-clause-goes : goal.returns-then-not-has_process-clause-goes
returns-then-not-has_process-clause-goes c = leaves_all c.args.event.now c.args.parts.now c.args.beside.now c.requires.stands

pub returns-then-is_parked-clause-goes : goal.returns-then-is_parked-clause-goes
returns-then-is_parked-clause-goes c = leaves_all c.args.event.now c.args.parts.now c.args.beside.now c.requires.stands

pub returns-else-is_parked-clause-goes : goal.returns-else-is_parked-clause-goes
returns-else-is_parked-clause-goes c = subst (λ (event : Event). LeavesBeside event c.args.parts.now c.args.beside.now c.make_call.new.parts c.make_call.new.beside) (sym c.in-Call.is) c.make_call.ensures.goes

pub returns-in-Resume-clause-goes : goal.returns-in-Resume-clause-goes
returns-in-Resume-clause-goes c = subst (λ (event : Event). LeavesBeside event c.args.parts.now c.args.beside.now c.resume.new.parts c.resume.new.beside) (sym c.in-Resume.is) c.resume.ensures.goes

pub returns-in-Tick-clause-goes : goal.returns-in-Tick-clause-goes
returns-in-Tick-clause-goes c =
    let p = c.args.parts.now in
    let q = c.tick.new.self in
    let b = c.args.beside.now in
    leaves_same c.args.event.now p q b c.requires.stands (ap (λ (r : Parts). r.interest) c.tick.ensures.others) (subst (λ (event : Event). AlteredStand event p q b.asked.hopes) (sym c.in-Tick.is) tt)
