use Rattle.std.proofs.Common.{Some, refl, subst, sym}
use Rattle.std.proofs.lemmas.Result.{IfOk-weaker, on_err_weaker}
use Rattle.ep_base.specs.declared.call.Event.{Event}
use Rattle.ep_calls.specs.Last.{NothingRefuses}
use Rattle.ep_calls.specs.Wait.{wait_call}
use Rattle.ep_plain.proofs.ActWithLemmas.{call_does, call_picks, none_picks, resume_does, resume_picks}
use Rattle.ep_plain.proofs.LeavesLemmas.{resume_creates, resume_moves, resume_touches, wait_creates, wait_moves, wait_touches}
use Rattle.ep_calls.proofs.LastLemmas.{past_last}
use Rattle.ep_plain.specs.These.{AsksFor, CallsWait, Resumes}
use Rattle.ep_plain.specs.declared.waiting.Waiting.{Waiting}
use Rattle.ep_interest.specs.declared.entry.Entry.{Entry}
use Rattle.ep_plain.proofs.FollowsLemmas.{reports_follow}
use Rattle.ep_plain.proofs.RoomLemmas.{grows_none}
use Rattle.ep_plain.proofs.these.act_these.Goals as goal
use Rattle.ep_plain.specs.Exact.{IsNamed}

calls : (c : goal.After-wait_these) → CallsWait c.args.parts.now c.args.request.caller.0 c.args.event.now c.in-Some-Call.args c.in-Some-Call.instance
calls c = subst (λ (w : Waiting). AsksFor c.args.parts.now c.args.request.caller.0 c.args.event.now (Some w)) c.in-Some-Call.field-0-is c.in-Some-Call.ensures

resumes : (c : goal.After-resume_these) → Resumes c.args.parts.now c.args.request.caller.0 c.args.event.now c.in-Some-Parked.waiter
resumes c = subst (λ (w : Waiting). AsksFor c.args.parts.now c.args.request.caller.0 c.args.event.now (Some w)) c.in-Some-Parked.field-0-is c.in-Some-Parked.ensures

pub returns-in-Some-Call-clause-ok : goal.returns-in-Some-Call-clause-ok
returns-in-Some-Call-clause-ok c =
    let x = c.in-Some-Call in
    IfOk-weaker c.wait_these.result _ _ (λ outcome does. call_does c.args.parts.now c.args.request.step c.args.request.caller.0 x.args x.instance c.args.picks.now c.args.event.now outcome c.wait_these.new.parts (calls c) does) c.wait_these.ensures.ok

pub returns-in-Some-Call-clause-picked : goal.returns-in-Some-Call-clause-picked
returns-in-Some-Call-clause-picked c =
    let x = c.in-Some-Call in
    IfOk-weaker c.wait_these.result _ _ (λ outcome told. call_picks c.args.parts.now c.args.request.step c.args.request.caller.0 x.args x.instance c.args.picks.now c.args.event.now outcome.picked (calls c) told) c.wait_these.ensures.picked

pub returns-in-Some-Parked-clause-ok : goal.returns-in-Some-Parked-clause-ok
returns-in-Some-Parked-clause-ok c =
    let x = c.in-Some-Parked in
    IfOk-weaker c.resume_these.result _ _ (λ outcome does. resume_does c.args.parts.now c.args.request.step c.args.request.caller.0 c.args.event.now x.waiter c.args.picks.now (resumes c) outcome c.resume_these.new.parts does) c.resume_these.ensures.ok

pub returns-in-Some-Parked-clause-picked : goal.returns-in-Some-Parked-clause-picked
returns-in-Some-Parked-clause-picked c =
    let x = c.in-Some-Parked in
    IfOk-weaker c.resume_these.result _ _ (λ outcome told. resume_picks c.args.parts.now c.args.request.step c.args.request.caller.0 c.args.event.now x.waiter c.args.picks.now (resumes c) outcome.picked told) c.resume_these.ensures.picked

pub returns-in-None-clause-picked : goal.returns-in-None-clause-picked
returns-in-None-clause-picked c =
    IfOk-weaker c.act.result _ _ (λ outcome does. none_picks c.args.parts.now c.act.new.parts c.args.request.step c.args.request.caller.0 c.args.event.now c.args.picks.now outcome c.in-None.ensures does) c.act.ensures.ok

pub returns-in-Some-Call-clause-last : goal.returns-in-Some-Call-clause-last
returns-in-Some-Call-clause-last c =
    let q = c.args.parts.now in
    let x = c.in-Some-Call in
    let caller = c.args.request.caller.0 in
    let of = calls c in
    on_err_weaker c.wait_these.result (λ none. subst (λ (event : Event). NothingRefuses q caller event) (sym of.is) (past_last q caller x.args.pid (wait_call x.args) of.there of.free none)) c.wait_these.ensures.last

pub returns-in-Some-Call-clause-tables : goal.returns-in-Some-Call-clause-tables
returns-in-Some-Call-clause-tables c =
    let x = c.in-Some-Call in
    IfOk-weaker c.wait_these.result _ _ (λ outcome leaves. wait_touches c.args.parts.now c.wait_these.new.parts c.args.request.caller.0 c.args.event.now x.args x.instance (calls c) outcome leaves) c.wait_these.ensures.leaves

pub returns-in-Some-Call-clause-clock : goal.returns-in-Some-Call-clause-clock
returns-in-Some-Call-clause-clock c =
    let x = c.in-Some-Call in
    IfOk-weaker c.wait_these.result _ _ (λ outcome leaves. wait_moves c.args.parts.now c.wait_these.new.parts c.args.request.caller.0 c.args.event.now x.args x.instance (calls c) outcome leaves) c.wait_these.ensures.leaves

pub returns-in-Some-Call-clause-timers : goal.returns-in-Some-Call-clause-timers
returns-in-Some-Call-clause-timers c none creates =
    let x = c.in-Some-Call in
    absurd (wait_creates c.args.parts.now c.wait_these.new.parts c.args.request.caller.0 c.args.event.now x.args x.instance (calls c) creates)

pub returns-in-Some-Parked-clause-tables : goal.returns-in-Some-Parked-clause-tables
returns-in-Some-Parked-clause-tables c =
    let x = c.in-Some-Parked in
    IfOk-weaker c.resume_these.result _ _ (λ outcome leaves. resume_touches c.args.parts.now c.resume_these.new.parts c.args.request.caller.0 c.args.event.now x.waiter (resumes c) outcome leaves) c.resume_these.ensures.leaves

pub returns-in-Some-Parked-clause-clock : goal.returns-in-Some-Parked-clause-clock
returns-in-Some-Parked-clause-clock c =
    let x = c.in-Some-Parked in
    IfOk-weaker c.resume_these.result _ _ (λ outcome leaves. resume_moves c.args.parts.now c.resume_these.new.parts c.args.request.caller.0 c.args.event.now x.waiter (resumes c) outcome leaves) c.resume_these.ensures.leaves

pub returns-in-Some-Parked-clause-timers : goal.returns-in-Some-Parked-clause-timers
returns-in-Some-Parked-clause-timers c none creates =
    let x = c.in-Some-Parked in
    absurd (resume_creates c.args.parts.now c.resume_these.new.parts c.args.request.caller.0 c.args.event.now x.waiter (resumes c) creates)

-- the dates
pub returns-in-Some-Call-clause-follows : goal.returns-in-Some-Call-clause-follows
returns-in-Some-Call-clause-follows c =
    let p = c.args.parts.now in
    let q = c.wait_these.new.parts in
    let unnamed = subst (λ (event : Event). (x : Entry) → IsNamed p.tables event x → ⊥) (sym (calls c).is) (λ x named. named) in
    IfOk-weaker c.wait_these.result _ _ (λ outcome entries. reports_follow c.args.request.step c.args.event.now outcome.answer outcome.picked p q c.args.dating.now c.requires.exact c.wait_these.ensures.ids entries (λ done. unnamed)) c.wait_these.ensures.entries

pub returns-in-Some-Call-clause-grows : goal.returns-in-Some-Call-clause-grows
returns-in-Some-Call-clause-grows c = on_err_weaker c.wait_these.result (λ same. grows_none c.args.dating.now c.args.dating.now refl) c.wait_these.ensures.err

pub returns-in-Some-Parked-clause-follows : goal.returns-in-Some-Parked-clause-follows
returns-in-Some-Parked-clause-follows c =
    let p = c.args.parts.now in
    let q = c.resume_these.new.parts in
    let unnamed = subst (λ (event : Event). (x : Entry) → IsNamed p.tables event x → ⊥) (sym (resumes c).is) (λ x named. named) in
    IfOk-weaker c.resume_these.result _ _ (λ outcome entries. reports_follow c.args.request.step c.args.event.now outcome.answer outcome.picked p q c.args.dating.now c.requires.exact c.resume_these.ensures.ids entries (λ done. unnamed)) c.resume_these.ensures.entries

pub returns-in-Some-Parked-clause-grows : goal.returns-in-Some-Parked-clause-grows
returns-in-Some-Parked-clause-grows c = on_err_weaker c.resume_these.result (λ same. grows_none c.args.dating.now c.args.dating.now refl) c.resume_these.ensures.err
