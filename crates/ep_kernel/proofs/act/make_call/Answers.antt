use Rattle.std.proofs.Common.{ℤ, of_z, refl, rules, subst, sym, to_z, w32}
use Rattle.std.proofs.lemmas.Int.{to_z-of_z}
use Rattle.std.proofs.lemmas.Result.{IfOk-weaker, on_err_weaker}
use mir.Val.{SFits}
use Rattle.ep_base.specs.declared.call.Call.{Call}
use Rattle.ep_base.specs.declared.call.Call.TheVariants.{EpollCtl, EpollWait}
use Rattle.ep_base.specs.declared.call.Event.TheVariants.{Call as CallOf}
use Rattle.ep_calls.specs.Does.{DoesCallIf}
use Rattle.ep_calls.specs.FileCall.{IsFileCall}
use Rattle.ep_calls.specs.Last.{NothingRefusesCall}
use Rattle.ep_kernel.proofs.EventLemmas.{leaves_same, ok_both, stays_by}
use Rattle.ep_kernel.proofs.PickLemmas.{call_does_if}
use Rattle.ep_kernel.proofs.ReportsFirstLemmas.{files_wait, other_reports}
use Rattle.ep_kernel.proofs.WaitTurnsLemmas.{files_altered, same_turns}
use Rattle.ep_alarms.proofs.ChangesLemmas.{as_files, is_file_call}
use Rattle.ep_alarms.specs.Changes.{CallsTables}
use Rattle.ep_kernel.proofs.act.make_call.Goals as goal
use Rattle.ep_kernel.specs.Event.{LeavesBeside, TurnsInOrder}
use Rattle.ep_kernel.specs.Listed.{AreFair}
use Rattle.ep_machine.specs.State.{State}

pub returns-in_default : goal.returns-in_default
returns-in_default c =
    let p = c.args.parts.now in
    let q = c.file_call.new.self in
    let b = c.args.beside.now in
    let call = c.args.call.now in
    let event = CallOf c.args.pid call in
    let step = c.args.request.step in
    let caller = c.args.request.caller.0 in
    let on_files : IsFileCall call = is_file_call call c.in_default.not-EpollCtl c.in_default.not-EpollWait in
    let fair : State → Type 0 = λ s. AreFair s p b.lists in
    let did = c.file_call.ensures in
    record {
      ok = IfOk-weaker c.file_call.result _ _ (λ outcome h. call_does_if fair step caller c.args.pid.0 call outcome p q (h step caller)) did.ok;
      moves = ok_both c.file_call.result (λ outcome does stays. record { tables = as_files c.args.pid.0 call outcome.answer p q on_files does; clock = stays }) did.tables did.clock;
      kept = did.kept;
      lists =
          IfOk-weaker c.file_call.result _ _ (λ outcome none.
          record { turns = same_turns event outcome.picked p q b.lists c.requires.stands.listed did.interest none (files_altered c.args.pid call p q b.lists on_files); order = other_reports b.lists step caller event outcome p q b.lists (files_wait c.args.pid call on_files) }) did.picked;
      goes = leaves_same event p q b c.requires.stands did.interest (files_altered c.args.pid call p q b.asked.hopes on_files);
      room = did.room;
      spared = did.spared;
      last = did.last;
      err = on_err_weaker c.file_call.result (stays_by p q b b refl refl) did.err;
    }

-- An epoll_ctl, whose number is read again.
pub returns-in-EpollCtl-clause-ok : goal.returns-in-EpollCtl-clause-ok
returns-in-EpollCtl-clause-ok c =
    let x = c.in-EpollCtl in
    let p = c.args.parts.now in
    let q = c.epoll_ctl.new.parts in
    let step = c.args.request.step in
    let caller = c.args.request.caller.0 in
    let fair : State → Type 0 = λ s. AreFair s p c.args.beside.now.lists in
    let fits : SFits w32 x.op = search rules in
    IfOk-weaker c.epoll_ctl.result _ _ (λ outcome h.
    let P : Call → Type 0 = λ call. DoesCallIf fair step caller c.args.pid.0 call outcome p q in
    subst P (sym x.is) (subst (λ (z : ℤ). P (EpollCtl x.epfd z x.fd x.mask x.tag)) (to_z-of_z w32 x.op fits) (call_does_if fair step caller c.args.pid.0 (EpollCtl x.epfd (to_z w32 (of_z w32 x.op)) x.fd x.mask x.tag) outcome p q (h step caller)))) c.epoll_ctl.ensures.ok

pub returns-in-EpollCtl-clause-last : goal.returns-in-EpollCtl-clause-last
returns-in-EpollCtl-clause-last c =
    let x = c.in-EpollCtl in
    let Last : Call → Type 0 = NothingRefusesCall c.args.parts.now c.args.pid.0 in
    let fits : SFits w32 x.op = search rules in
    on_err_weaker c.epoll_ctl.result (λ last. subst Last (sym x.is) (subst (λ (z : ℤ). Last (EpollCtl x.epfd z x.fd x.mask x.tag)) (to_z-of_z w32 x.op fits) last)) c.epoll_ctl.ensures.last

pub returns-in-EpollCtl-clause-moves : goal.returns-in-EpollCtl-clause-moves
returns-in-EpollCtl-clause-moves c =
    let p = c.args.parts.now in
    let q = c.epoll_ctl.new.parts in
    IfOk-weaker c.epoll_ctl.result _ _ (λ outcome leaves. record { tables = subst (λ (call : Call). CallsTables c.args.pid.0 call outcome.answer p q) (sym c.in-EpollCtl.is) leaves.files; clock = leaves.clock }) c.epoll_ctl.ensures.leaves

pub returns-in-EpollCtl-clause-lists : goal.returns-in-EpollCtl-clause-lists
returns-in-EpollCtl-clause-lists c =
    let x = c.in-EpollCtl in
    let p = c.args.parts.now in
    let q = c.epoll_ctl.new.parts in
    let l = c.args.beside.now.lists in
    let m = c.epoll_ctl.new.beside.lists in
    let step = c.args.request.step in
    let caller = c.args.request.caller.0 in
    let fits : SFits w32 x.op = search rules in
    IfOk-weaker c.epoll_ctl.result _ _ (λ outcome turns.
    let P : Call → Type 0 = λ call. TurnsInOrder step caller (CallOf c.args.pid call) outcome p l q m in
    let called : Call = EpollCtl x.epfd (to_z w32 (of_z w32 x.op)) x.fd x.mask x.tag in
    subst P (sym x.is) (subst (λ (z : ℤ). P (EpollCtl x.epfd z x.fd x.mask x.tag)) (to_z-of_z w32 x.op fits) (record { turns = turns; order = other_reports l step caller (CallOf c.args.pid called) outcome p q m refl }))) c.epoll_ctl.ensures.turns

pub returns-in-EpollCtl-clause-goes : goal.returns-in-EpollCtl-clause-goes
returns-in-EpollCtl-clause-goes c =
    let x = c.in-EpollCtl in
    let fits : SFits w32 x.op = search rules in
    let P : Call → Type 0 = λ call. LeavesBeside (CallOf c.args.pid call) c.args.parts.now c.args.beside.now c.epoll_ctl.new.parts c.epoll_ctl.new.beside in
    subst P (sym x.is) (subst (λ (z : ℤ). P (EpollCtl x.epfd z x.fd x.mask x.tag)) (to_z-of_z w32 x.op fits) c.epoll_ctl.ensures.goes)

-- A wait.
pub returns-in-EpollWait-clause-moves : goal.returns-in-EpollWait-clause-moves
returns-in-EpollWait-clause-moves c =
    let p = c.args.parts.now in
    let q = c.epoll_wait.new.parts in
    IfOk-weaker c.epoll_wait.result _ _ (λ outcome leaves. record { tables = subst (λ (call : Call). CallsTables c.args.pid.0 call outcome.answer p q) (sym c.in-EpollWait.is) leaves.files; clock = leaves.clock }) c.epoll_wait.ensures.leaves

pub returns-in-EpollWait-clause-lists : goal.returns-in-EpollWait-clause-lists
returns-in-EpollWait-clause-lists c =
    let x = c.in-EpollWait in
    let max : SFits w32 x.max = search rules in
    IfOk-weaker c.epoll_wait.result _ _ (λ outcome told.
    let P : Call → Type 0 = λ call. TurnsInOrder c.args.request.step c.args.request.caller.0 (CallOf c.args.pid call) outcome c.args.parts.now c.args.beside.now.lists c.epoll_wait.new.parts c.epoll_wait.new.beside.lists in
    subst P (sym x.is) (subst (λ (z : ℤ). P (EpollWait x.epfd z x.timeout)) (to_z-of_z w32 x.max max) told)) c.epoll_wait.ensures.lists

pub returns-in-EpollWait-clause-goes : goal.returns-in-EpollWait-clause-goes
returns-in-EpollWait-clause-goes c =
    let x = c.in-EpollWait in
    let max : SFits w32 x.max = search rules in
    let P : Call → Type 0 = λ call. LeavesBeside (CallOf c.args.pid call) c.args.parts.now c.args.beside.now c.epoll_wait.new.parts c.epoll_wait.new.beside in
    subst P (sym x.is) (subst (λ (z : ℤ). P (EpollWait x.epfd z x.timeout)) (to_z-of_z w32 x.max max) c.epoll_wait.ensures.goes)
