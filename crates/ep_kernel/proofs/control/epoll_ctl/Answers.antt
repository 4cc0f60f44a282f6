use Rattle.std.proofs.Common.{List, refl, subst, sym, ℕ}
use Rattle.std.proofs.lemmas.Result.{on_err_weaker}
use Rattle.ep_alarms.proofs.ChangesLemmas.{nowhere_leaves}
use Rattle.ep_base.specs.declared.call.Event.TheVariants.{Call as CallOf}
use Rattle.ep_calls.specs.Control.{control_call}
use Rattle.ep_kernel.proofs.ControlLemmas.{turns_still}
use Rattle.ep_kernel.proofs.ControlTurnsLemmas.{same_lists}
use Rattle.ep_kernel.proofs.EventLemmas.{leaves_all, leaves_asked, stands_asked, stays_asked}
use Rattle.ep_kernel.proofs.control.epoll_ctl.Goals as goal
use Rattle.ep_kernel.specs.Turns.{Turns}

pub returns-in-Err-clause-turns : goal.returns-in-Err-clause-turns
returns-in-Err-clause-turns c =
    let p = c.args.parts.now in
    let l = c.args.beside.now.lists in
    subst (λ (ks : List ℕ). Turns (CallOf c.args.pid (control_call c.args.args)) ks p l p l) (sym c.in-Err.ensures.picked) (turns_still p p l l refl refl refl (same_lists l l refl) c.args.pid c.args.args c.requires.stands.listed)

pub returns-in-Err-clause-leaves : goal.returns-in-Err-clause-leaves
returns-in-Err-clause-leaves c = nowhere_leaves c.in-Err.refused.raising c.args.parts.now c.in-Err.ensures.raising

pub returns-in-Err-clause-goes : goal.returns-in-Err-clause-goes
returns-in-Err-clause-goes c = leaves_all (CallOf c.args.pid (control_call c.args.args)) c.args.parts.now c.args.beside.now c.requires.stands

-- What was asked before plays no part.
pub alter-requires-clause-stands : goal.alter-requires-clause-stands
alter-requires-clause-stands c = stands_asked c.args.parts.now c.args.beside.now c.is_below_ready.new.asked c.requires.stands c.is_below_ready.ensures.hopes

pub enter-requires-clause-stands : goal.enter-requires-clause-stands
enter-requires-clause-stands c = stands_asked c.args.parts.now c.args.beside.now c.is_below_ready.new.asked c.requires.stands c.is_below_ready.ensures.hopes

pub returns-in-Some-clause-goes : goal.returns-in-Some-clause-goes
returns-in-Some-clause-goes c = leaves_asked (CallOf c.args.pid (control_call c.args.args)) c.args.parts.now c.alter.new.parts c.args.beside.now c.alter.new.beside c.is_below_ready.new.asked c.alter.ensures.goes

pub returns-in-None-clause-goes : goal.returns-in-None-clause-goes
returns-in-None-clause-goes c = leaves_asked (CallOf c.args.pid (control_call c.args.args)) c.args.parts.now c.enter.new.parts c.args.beside.now c.enter.new.beside c.is_below_ready.new.asked c.enter.ensures.goes

pub returns-in-Some-clause-err : goal.returns-in-Some-clause-err
returns-in-Some-clause-err c = on_err_weaker c.alter.result (stays_asked c.args.parts.now c.alter.new.parts c.args.beside.now c.alter.new.beside c.is_below_ready.new.asked) c.alter.ensures.err

pub returns-in-None-clause-err : goal.returns-in-None-clause-err
returns-in-None-clause-err c = on_err_weaker c.enter.result (stays_asked c.args.parts.now c.enter.new.parts c.args.beside.now c.enter.new.beside c.is_below_ready.new.asked) c.enter.ensures.err
