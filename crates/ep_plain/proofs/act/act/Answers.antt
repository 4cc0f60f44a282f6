use Rattle.std.proofs.Common.{◌≡◌, ◌∙◌, ap, false, true, inl, inr, is_some, refl, subst, sym}
use Rattle.std.specs.List.{list_any}
use Rattle.ep_park.specs.Waiters.{is_caller}
use Rattle.ep_base.specs.declared.call.Event.TheVariants.{Call as CallOf, Tick}
use Rattle.ep_alarms.proofs.ChangesLemmas.{refused_moves, tick_moves}
use Rattle.ep_alarms.specs.Changes.{MayCreate, MovesClock, TouchesTables}
use Rattle.std.proofs.lemmas.Result.{IfOk-weaker, on_err_weaker}
use Rattle.ep_base.specs.declared.call.Event.{Event}
use Rattle.ep_base.specs.declared.errno.Errno.TheVariants.{Ebusy, Esrch}
use Rattle.ep_machine.specs.Files.{table_of}
use Rattle.ep_calls.specs.Control.{is_done}
use Rattle.ep_calls.specs.Does.{DoesEvent}
use Rattle.ep_calls.specs.Last.{NothingRefuses}
use Rattle.ep_calls.specs.Parts.{Parts}
use Rattle.ep_calls.proofs.ActLemmas.{busy, past_does, refused_does, tick_does}
use Rattle.ep_calls.proofs.LastLemmas.{past_last}
use Rattle.ep_interest.specs.declared.entry.Entry.{Entry}
use Rattle.ep_plain.proofs.FollowsLemmas.{refused_follow, reports_follow, same_follow}
use Rattle.ep_plain.proofs.RoomLemmas.{grows_none}
use Rattle.ep_plain.proofs.act.act.Goals as goal
use Rattle.ep_plain.specs.Exact.{Follows, IsNamed}

pub returns-then-is_parked-clause-ok : goal.returns-then-is_parked-clause-ok
returns-then-is_parked-clause-ok c =
    let k = c.parts.inside in
    let p : Parts = record { tables = k.tables; interest = k.interest; graph = k.graph; parked = k.waiters; clock = k.clock } in
    let e = c.refused-then-is_parked.ensures in
    rw (← c.parts.view_is, c.in-Call.is)
    (refused_does p c.args.request.step c.args.request.caller.0 (CallOf c.in-Call.pid c.in-Call.call) Ebusy c.refused-then-is_parked.result (busy p c.args.request.caller.0 c.in-Call.pid c.in-Call.call (sym c.has_process.ensures ∙ c.if-not-has_process.false) (sym c.is_parked.ensures ∙ c.if-is_parked.true)) e.answer e.picked e.raising)

pub returns-else-is_parked-clause-ok : goal.returns-else-is_parked-clause-ok
returns-else-is_parked-clause-ok c =
    let pid = c.in-Call.pid in
    let caller = c.args.request.caller.0 in
    let there = subst (λ (q : Parts). is_some (table_of q.tables.files pid.0) ≡ true) c.parts.view_is (sym c.has_process.ensures ∙ c.if-not-has_process.false) in
    let free = subst (λ (q : Parts). list_any (is_caller caller) q.parked ≡ false) c.parts.view_is (sym c.is_parked.ensures ∙ c.if-is_parked.false) in
    IfOk-weaker c.make_call.result _ _ (λ outcome does. subst (λ (event : Event). DoesEvent c.args.request.step caller event outcome c.args.parts.now c.make_call.new.parts) (sym c.in-Call.is)
    (past_does c.args.parts.now caller pid c.in-Call.call there c.args.request.step c.make_call.new.parts outcome free does)) c.make_call.ensures.ok

pub returns-in-Tick-clause-ok : goal.returns-in-Tick-clause-ok
returns-in-Tick-clause-ok c =
    let p = c.args.parts.now in
    let e = c.tick.ensures in
    subst (λ (event : Event). DoesEvent c.args.request.step c.args.request.caller.0 event c.tick.result p c.tick.new.self) (sym c.in-Tick.is)
    (subst (DoesEvent c.args.request.step c.args.request.caller.0 (Tick c.in-Tick.n) c.tick.result p) (sym e.others) (tick_does p c.args.request.step c.args.request.caller.0 c.in-Tick.n c.tick.result c.tick.new.self.clock e.ticks e.raising e.picked e.moment))

pub returns-else-is_parked-clause-last : goal.returns-else-is_parked-clause-last
returns-else-is_parked-clause-last c =
    let q = c.args.parts.now in
    let pid = c.in-Call.pid in
    let caller = c.args.request.caller.0 in
    let here = subst (λ (p : Parts). is_some (table_of p.tables.files pid.0) ≡ true) c.parts.view_is (sym c.has_process.ensures ∙ c.if-not-has_process.false) in
    let free = subst (λ (p : Parts). list_any (is_caller caller) p.parked ≡ false) c.parts.view_is (sym c.is_parked.ensures ∙ c.if-is_parked.false) in
    on_err_weaker c.make_call.result (λ none. subst (λ (event : Event). NothingRefuses q caller event) (sym c.in-Call.is) (past_last q caller pid c.in-Call.call here free none)) c.make_call.ensures.last

-- the tables
pub returns-then-not-has_process-clause-tables : goal.returns-then-not-has_process-clause-tables
returns-then-not-has_process-clause-tables c =
    let p = c.args.parts.now in
    subst (λ (event : Event). TouchesTables event c.refused.result.answer p p) (sym c.in-Call.is) (inl (Esrch, record { answers = c.refused.ensures.answer; tables = refl }))

pub returns-then-is_parked-clause-tables : goal.returns-then-is_parked-clause-tables
returns-then-is_parked-clause-tables c =
    let p = c.args.parts.now in
    let refused = c.refused-then-is_parked in
    subst (λ (event : Event). TouchesTables event refused.result.answer p p) (sym c.in-Call.is) (inl (Ebusy, record { answers = refused.ensures.answer; tables = refl }))

pub returns-else-is_parked-clause-tables : goal.returns-else-is_parked-clause-tables
returns-else-is_parked-clause-tables c =
    let p = c.args.parts.now in
    let there = subst (λ (q : Parts). is_some (table_of q.tables.files c.in-Call.pid.0) ≡ true) c.parts.view_is (sym c.has_process.ensures ∙ c.if-not-has_process.false) in
    IfOk-weaker c.make_call.result _ _ (λ outcome did. subst (λ (event : Event). TouchesTables event outcome.answer p c.make_call.new.parts) (sym c.in-Call.is) (inr (there, did))) c.make_call.ensures.tables

pub returns-in-Resume-clause-tables : goal.returns-in-Resume-clause-tables
returns-in-Resume-clause-tables c =
    let p = c.args.parts.now in
    IfOk-weaker c.resume.result _ _ (λ outcome leaves. subst (λ (event : Event). TouchesTables event outcome.answer p c.resume.new.parts) (sym c.in-Resume.is) leaves.files) c.resume.ensures.leaves

pub returns-in-Tick-clause-tables : goal.returns-in-Tick-clause-tables
returns-in-Tick-clause-tables c =
    let p = c.args.parts.now in
    subst (λ (event : Event). TouchesTables event c.tick.result.answer p c.tick.new.self) (sym c.in-Tick.is) (ap (λ (q : Parts). q.tables.files) c.tick.ensures.others)

-- the clock
pub returns-then-not-has_process-clause-clock : goal.returns-then-not-has_process-clause-clock
returns-then-not-has_process-clause-clock c = refused_moves c.args.event.now c.in-Call.pid c.in-Call.call c.refused.result.raising c.args.parts.now.clock c.in-Call.is c.refused.ensures.raising

pub returns-then-is_parked-clause-clock : goal.returns-then-is_parked-clause-clock
returns-then-is_parked-clause-clock c = refused_moves c.args.event.now c.in-Call.pid c.in-Call.call c.refused-then-is_parked.result.raising c.args.parts.now.clock c.in-Call.is c.refused-then-is_parked.ensures.raising

pub returns-else-is_parked-clause-clock : goal.returns-else-is_parked-clause-clock
returns-else-is_parked-clause-clock c =
    let p = c.args.parts.now in
    IfOk-weaker c.make_call.result _ _ (λ outcome stays. subst (λ (event : Event). MovesClock event outcome.raising p.clock c.make_call.new.parts.clock) (sym c.in-Call.is) stays) c.make_call.ensures.clock

pub returns-in-Resume-clause-clock : goal.returns-in-Resume-clause-clock
returns-in-Resume-clause-clock c =
    let p = c.args.parts.now in
    IfOk-weaker c.resume.result _ _ (λ outcome leaves. subst (λ (event : Event). MovesClock event outcome.raising p.clock c.resume.new.parts.clock) (sym c.in-Resume.is) leaves.clock) c.resume.ensures.leaves

pub returns-in-Tick-clause-clock : goal.returns-in-Tick-clause-clock
returns-in-Tick-clause-clock c =
    let p = c.args.parts.now in
    let now = c.tick.new.self.clock in
    subst (λ (event : Event). MovesClock event c.tick.result.raising p.clock now) (sym c.in-Tick.is) (tick_moves c.in-Tick.n p.clock now c.tick.result.answer c.tick.result.raising c.tick.ensures.ticks c.tick.ensures.raising)

-- a timer that has no room is not created
pub returns-else-is_parked-clause-timers : goal.returns-else-is_parked-clause-timers
returns-else-is_parked-clause-timers c none creates = c.make_call.ensures.timers none (subst MayCreate c.in-Call.is creates)

-- the dates
pub returns-then-not-has_process-clause-follows : goal.returns-then-not-has_process-clause-follows
returns-then-not-has_process-clause-follows c =
    let p = c.args.parts.now in
    let outcome = c.refused.result in
    refused_follow c.args.request.step c.args.event.now outcome.answer outcome.picked p p c.args.dating.now c.requires.exact refl c.refused.ensures.picked (ap is_done c.refused.ensures.answer)

pub returns-then-is_parked-clause-follows : goal.returns-then-is_parked-clause-follows
returns-then-is_parked-clause-follows c =
    let p = c.args.parts.now in
    let refused = c.refused-then-is_parked in
    refused_follow c.args.request.step c.args.event.now refused.result.answer refused.result.picked p p c.args.dating.now c.requires.exact refl refused.ensures.picked (ap is_done refused.ensures.answer)

pub returns-else-is_parked-clause-follows : goal.returns-else-is_parked-clause-follows
returns-else-is_parked-clause-follows c =
    let p = c.args.parts.now in
    let q = c.make_call.new.parts in
    IfOk-weaker c.make_call.result _ _ (λ outcome did. subst (λ (event : Event). Follows c.args.request.step event outcome.answer outcome.picked p c.args.dating.now q c.make_call.new.dating) (sym c.in-Call.is) did) c.make_call.ensures.follows

pub returns-in-Resume-clause-follows : goal.returns-in-Resume-clause-follows
returns-in-Resume-clause-follows c =
    let p = c.args.parts.now in
    let unnamed = subst (λ (event : Event). (x : Entry) → IsNamed p.tables event x → ⊥) (sym c.in-Resume.is) (λ x named. named) in
    IfOk-weaker c.resume.result _ _ (λ outcome entries. reports_follow c.args.request.step c.args.event.now outcome.answer outcome.picked p c.resume.new.parts c.args.dating.now c.requires.exact c.resume.ensures.ids entries (λ done. unnamed)) c.resume.ensures.entries

pub returns-in-Resume-clause-grows : goal.returns-in-Resume-clause-grows
returns-in-Resume-clause-grows c = on_err_weaker c.resume.result (λ same. grows_none c.args.dating.now c.args.dating.now refl) c.resume.ensures.err

pub returns-in-Tick-clause-follows : goal.returns-in-Tick-clause-follows
returns-in-Tick-clause-follows c =
    let p = c.args.parts.now in
    let unnamed = subst (λ (event : Event). (x : Entry) → IsNamed p.tables event x → ⊥) (sym c.in-Tick.is) (λ x named. named) in
    same_follow c.args.request.step c.args.event.now c.tick.result.answer c.tick.result.picked p c.tick.new.self c.args.dating.now c.requires.exact (ap (λ (r : Parts). r.interest) c.tick.ensures.others) c.tick.ensures.picked (λ done. unnamed)
