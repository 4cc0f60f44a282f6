use Rattle.std.proofs.Common.{◌≡◌, ◌∙◌, ℤ, OnErr, ap, refl, rules, subst, sym, w32}
use Rattle.std.proofs.lemmas.Int.{to_z-of_z}
use Rattle.std.proofs.lemmas.Result.{IfOk-weaker, on_err_weaker}
use mir.Val.{SFits}
use Rattle.ep_alarms.proofs.ChangesLemmas.{as_files, is_file_call}
use Rattle.ep_alarms.specs.Changes.{CallsTables}
use Rattle.ep_base.specs.declared.call.Call.{Call}
use Rattle.ep_base.specs.declared.call.Call.TheVariants.{EpollCtl}
use Rattle.ep_calls.specs.Does.{DoesCall}
use Rattle.ep_calls.specs.Kept.{KeepsCall}
use Rattle.ep_calls.specs.Last.{NothingRefusesCall}
use Rattle.ep_calls.specs.FileCall.{IsFileCall}
use Rattle.ep_base.specs.declared.call.Event.TheVariants.{Call as CallOf}
use Rattle.ep_interest.specs.declared.entry.Entry.{Entry}
use Rattle.ep_plain.proofs.FollowsLemmas.{files_unnamed, reports_follow, same_follow}
use Rattle.ep_plain.proofs.RoomLemmas.{grows_none}
use Rattle.ep_plain.specs.Exact.{Follows, IsNamed}
use Rattle.ep_table.specs.Value.{Seen}
use Rattle.ep_calls.proofs.KeptLemmas.{any_call}
use Rattle.ep_plain.proofs.act.make_call.Goals as goal

pub returns-in_default : goal.returns-in_default
returns-in_default c =
    let p = c.args.parts.now in
    let q = c.file_call.new.self in
    let call = c.args.call.now in
    let on_files : IsFileCall call = is_file_call call c.in_default.not-EpollCtl c.in_default.not-EpollWait in
    record {
      ok = IfOk-weaker c.file_call.result _ _ (λ outcome h. h c.args.request.step c.args.request.caller.0) c.file_call.ensures.ok;
      kept = c.file_call.ensures.kept;
      spared = c.file_call.ensures.spared;
      tables = IfOk-weaker c.file_call.result _ _ (λ outcome did. as_files c.args.pid.0 call outcome.answer p q on_files did) c.file_call.ensures.tables;
      clock = c.file_call.ensures.clock;
      timers = c.file_call.ensures.room;
      follows = IfOk-weaker c.file_call.result _ _ (λ outcome none. same_follow c.args.request.step (CallOf c.args.pid call) outcome.answer outcome.picked p q c.args.dating.now c.requires.exact c.file_call.ensures.interest none (λ done. files_unnamed p c.args.pid call on_files)) c.file_call.ensures.picked;
      last = c.file_call.ensures.last;
      err = c.file_call.ensures.err;
      grows = on_err_weaker c.file_call.result (λ none. grows_none c.args.dating.now c.args.dating.now refl) c.file_call.ensures.err;
    }

pub returns-in-EpollWait-clause-kept : goal.returns-in-EpollWait-clause-kept
returns-in-EpollWait-clause-kept c = IfOk-weaker c.epoll_wait.result _ _ (λ outcome h. any_call c.args.call.now c.args.request.kept outcome h) c.epoll_wait.ensures.kept

pub returns-in-EpollCtl-clause-kept : goal.returns-in-EpollCtl-clause-kept
returns-in-EpollCtl-clause-kept c = IfOk-weaker c.epoll_ctl.result _ _ (λ outcome h. subst (λ (call : Call). KeepsCall call c.args.request.kept outcome) (sym c.in-EpollCtl.is) tt) c.epoll_ctl.ensures.ok

pub returns-in-EpollCtl-clause-ok : goal.returns-in-EpollCtl-clause-ok
returns-in-EpollCtl-clause-ok c =
    let x = c.in-EpollCtl in
    let fits : SFits w32 x.op = search rules in
    IfOk-weaker c.epoll_ctl.result _ _ (λ outcome h.
    let P : Call → Type 0 = λ call. DoesCall c.args.request.step c.args.request.caller.0 c.args.pid.0 call outcome c.args.parts.now c.epoll_ctl.new.parts in
    subst P (sym x.is) (subst (λ (z : ℤ). P (EpollCtl x.epfd z x.fd x.mask x.tag)) (to_z-of_z w32 x.op fits) (h c.args.request.step c.args.request.caller.0))) c.epoll_ctl.ensures.ok

pub returns-in-EpollWait-clause-follows : goal.returns-in-EpollWait-clause-follows
returns-in-EpollWait-clause-follows c =
    let p = c.args.parts.now in
    let q = c.epoll_wait.new.parts in
    let d = c.args.dating.now in
    let call = c.args.call.now in
    IfOk-weaker c.epoll_wait.result _ _ (λ outcome entries. reports_follow c.args.request.step (CallOf c.args.pid call) outcome.answer outcome.picked p q d c.requires.exact c.epoll_wait.ensures.ids entries
    (λ done. subst (λ (k : Call). (x : Entry) → IsNamed p.tables (CallOf c.args.pid k) x → ⊥) (sym c.in-EpollWait.is) (λ x named. named))) c.epoll_wait.ensures.entries

pub returns-in-EpollWait-clause-grows : goal.returns-in-EpollWait-clause-grows
returns-in-EpollWait-clause-grows c = on_err_weaker c.epoll_wait.result (λ same. grows_none c.args.dating.now c.args.dating.now refl) c.epoll_wait.ensures.err

pub returns-in-EpollCtl-clause-follows : goal.returns-in-EpollCtl-clause-follows
returns-in-EpollCtl-clause-follows c =
    let x = c.in-EpollCtl in
    let p = c.args.parts.now in
    let q = c.epoll_ctl.new.parts in
    let d = c.args.dating.now in
    let fits : SFits w32 x.op = search rules in
    let step = c.args.request.step in
    IfOk-weaker c.epoll_ctl.result _ _ (λ outcome h.
    let P : Call → Type 0 = λ call. Follows step (CallOf c.args.pid call) outcome.answer outcome.picked p d q c.epoll_ctl.new.dating in
    subst P (sym x.is) (subst (λ (z : ℤ). P (EpollCtl x.epfd z x.fd x.mask x.tag)) (to_z-of_z w32 x.op fits) (h step c.requires.step c.requires.exact))) c.epoll_ctl.ensures.follows

pub returns-in-EpollCtl-clause-last : goal.returns-in-EpollCtl-clause-last
returns-in-EpollCtl-clause-last c =
    let x = c.in-EpollCtl in
    let fits : SFits w32 x.op = search rules in
    subst (λ (call : Call). OnErr c.epoll_ctl.result (NothingRefusesCall c.args.parts.now c.args.pid.0 call)) (ap (λ (z : ℤ). EpollCtl x.epfd z x.fd x.mask x.tag) (to_z-of_z w32 x.op fits) ∙ sym x.is) c.epoll_ctl.ensures.last

pub returns-in-EpollCtl-clause-tables : goal.returns-in-EpollCtl-clause-tables
returns-in-EpollCtl-clause-tables c =
    let p = c.args.parts.now in
    let q = c.epoll_ctl.new.parts in
    let files : q.tables.files ≡ p.tables.files = ap (λ (v : Seen). v.files) c.epoll_ctl.ensures.tables in
    IfOk-weaker c.epoll_ctl.result _ _ (λ outcome stays. subst (λ (call : Call). CallsTables c.args.pid.0 call outcome.answer p q) (sym c.in-EpollCtl.is) files) c.epoll_ctl.ensures.clock

pub returns-in-EpollWait-clause-tables : goal.returns-in-EpollWait-clause-tables
returns-in-EpollWait-clause-tables c =
    let p = c.args.parts.now in
    let q = c.epoll_wait.new.parts in
    IfOk-weaker c.epoll_wait.result _ _ (λ outcome leaves. subst (λ (call : Call). CallsTables c.args.pid.0 call outcome.answer p q) (sym c.in-EpollWait.is) leaves.files) c.epoll_wait.ensures.leaves

pub returns-in-EpollWait-clause-clock : goal.returns-in-EpollWait-clause-clock
returns-in-EpollWait-clause-clock c = IfOk-weaker c.epoll_wait.result _ _ (λ outcome leaves. leaves.clock) c.epoll_wait.ensures.leaves
