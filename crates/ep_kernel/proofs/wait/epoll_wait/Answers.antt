use Rattle.ep_alarms.proofs.ChangesLemmas.{nowhere_leaves}
use Rattle.std.proofs.Common.{◌∙◌, IsSome, SFits, ap, refl, rules, subst, w32}
use Rattle.std.proofs.lemmas.Int.{to_z-of_z}
use Rattle.ep_base.specs.declared.call.Event.TheVariants.{Call as CallOf}
use Rattle.ep_calls.specs.Parts.{Parts}
use Rattle.ep_calls.specs.Wait.{IsPick, Waits, wait_call}
use Rattle.ep_interest.specs.Registrations.{IsSound}
use Rattle.ep_kernel.proofs.EventLemmas.{leaves_all, leaves_reported, leaves_stay, stays_by, turns_refused}
use Rattle.ep_kernel.proofs.PickLemmas.{does_from, found_is_pick, same_found}
use Rattle.ep_kernel.proofs.ReportsFirstLemmas.{first_reported, waits_at_named}
use Rattle.ep_kernel.proofs.WaitTurnsLemmas.{wait_turns}
use Rattle.ep_kernel.proofs.wait.epoll_wait.Goals as goal
use Rattle.ep_calls.proofs.LastLemmas.{wait_last}
use Rattle.ep_nest.proofs.AdjacentLemmas.{on_err}
use Rattle.ep_kernel.specs.Listed.{AreFair}
use Rattle.ep_kernel.specs.Take.{SetsList, key_stays, taken}
use Rattle.ep_machine.specs.Refusal.{call_refusals}
use Rattle.ep_machine.specs.Step.{call_change}
use Rattle.ep_machine.specs.Watches.{number_in}
use Rattle.ep_ready.specs.ReadyLists.{list_at}
use Rattle.ep_table.specs.Value.{number_under}

pub returns-clause-ok : goal.returns-clause-ok
returns-clause-ok c =
    let x = c.args.args in
    let p = c.args.parts.now in
    let l = c.args.beside.now.lists in
    let i = c.in-Ok.instance in
    let walked = c.in_ok-walked.walked in
    let chosen = c.deref.result.now in
    let fits : SFits w32 x.max = search rules in
    let finds = same_found p (list_at l i.0) c.most.result (number_in x.max) walked c.choose.new.chosen.items chosen c.in_ok-walked.ensures.found (c.most.ensures ∙ ap number_in (to_z-of_z w32 x.max fits)) c.deref.ensures.value in
    let sound = subst (λ (q : Parts). IsSound q.interest) c.parts.view_is c.known-2.ensures in
    let lives = subst (λ (q : Parts). IsSome (number_under q.tables i)) c.parts.view_is c.in-Ok.ensures.lives in
    does_from (λ s. AreFair s p l) (IsPick p.tables i (number_in x.max) chosen) c.args.step (λ s. call_refusals p.tables.limits s x.pid.0 (wait_call x)) (λ s picked. call_change p.tables.limits s c.args.caller.0 x.pid.0 (wait_call x) picked) c.in_ok-outcome.outcome p c.wait_with.new.self
    c.in_ok-outcome.ensures.ok (found_is_pick p l i (number_in x.max) walked chosen c.args.step c.known.ensures.coherent c.known.ensures.sound sound c.known-3.ensures c.requires.stands.listed lives finds)

pub returns-clause-lists : goal.returns-clause-lists
returns-clause-lists c =
    let x = c.args.args in
    let p = c.args.parts.now in
    let q = c.wait_with.new.self in
    let l = c.args.beside.now.lists in
    let m = c.take.new.lists in
    let i = c.in-Ok.instance in
    let walked = c.in_ok-walked.walked in
    let chosen = c.deref.result.now in
    let fits : SFits w32 x.max = search rules in
    let found = c.in_ok-walked.ensures.found in
    let all = c.choose.new.chosen.items in
    let sound = subst (λ (r : Parts). IsSound r.interest) c.parts.view_is c.known-2.ensures in
    let waits = subst (λ (r : Parts). Waits r.tables x i) c.parts.view_is c.in-Ok.ensures in
    let takes = subst (λ (r : Parts). SetsList l m i.0 (taken (key_stays c.args.step r.interest) walked (list_at l i.0))) c.parts-2.view_is c.take.ensures in
    let finds = same_found p (list_at l i.0) c.most.result (number_in x.max) walked all chosen found (c.most.ensures ∙ ap number_in (to_z-of_z w32 x.max fits)) c.deref.ensures.value in
    record {
      turns = wait_turns p q l m i.0 c.args.step c.most.result walked chosen c.in_ok-outcome.outcome.picked (record {
        listed = c.requires.stands.listed;
        sound = sound;
        lists = c.known-3.ensures;
        finds = same_found p (list_at l i.0) c.most.result c.most.result walked all chosen found refl c.deref.ensures.value;
        picks = c.in_ok-outcome.ensures.picked;
        keys = c.in_ok-outcome.ensures.ids;
        entries = c.in_ok-outcome.ensures.entries;
        takes = takes;
      }) (CallOf x.pid (wait_call x)) tt;
      order =
          first_reported l c.args.step c.args.caller.0 (CallOf x.pid (wait_call x)) c.in_ok-outcome.outcome p i (number_in x.max) walked chosen c.known.ensures.coherent c.known.ensures.sound sound c.known-3.ensures c.requires.stands.listed waits.lives finds c.in_ok-outcome.ensures.picked
          (waits_at_named p c.args.caller.0 x i waits) q m takes;
    }

pub returns-in-Err-clause-lists : goal.returns-in-Err-clause-lists
returns-in-Err-clause-lists c =
    turns_refused c.args.step c.args.caller.0 (CallOf c.args.args.pid (wait_call c.args.args)) c.refused.result c.args.parts.now c.args.beside.now.lists c.in-Err.errno c.requires.stands.listed c.refused.ensures.answer c.refused.ensures.picked

pub returns-in-Err-clause-leaves : goal.returns-in-Err-clause-leaves
returns-in-Err-clause-leaves c = nowhere_leaves c.refused.result.raising c.args.parts.now c.refused.ensures.raising

pub returns-clause-leaves : goal.returns-clause-leaves
returns-clause-leaves c = record { files = c.wait_with.ensures.files; clock = c.in_ok-outcome.ensures.clock }

pub returns-in_err-walked-clause-last : goal.returns-in_err-walked-clause-last
returns-in_err-walked-clause-last c = on_err c.from_residual.result (wait_last c.args.parts.now c.args.args c.in-Ok.instance (subst (λ (q : Parts). Waits q.tables c.args.args c.in-Ok.instance) c.parts.view_is c.in-Ok.ensures))

-- What it leaves beside the parts.
pub returns-in-Err-clause-goes : goal.returns-in-Err-clause-goes
returns-in-Err-clause-goes c = leaves_all (CallOf c.args.args.pid (wait_call c.args.args)) c.args.parts.now c.args.beside.now c.requires.stands

pub returns-in_err-walked-clause-goes : goal.returns-in_err-walked-clause-goes
returns-in_err-walked-clause-goes c = leaves_stay (CallOf c.args.args.pid (wait_call c.args.args)) c.args.parts.now c.args.parts.now c.args.beside.now (record c.args.beside.now { asked = c.choose.new.asked; chosen = c.choose.new.chosen }) refl refl c.requires.stands.room refl c.choose.ensures.hopes

pub returns-in_err-outcome-clause-goes : goal.returns-in_err-outcome-clause-goes
returns-in_err-outcome-clause-goes c = leaves_stay (CallOf c.args.args.pid (wait_call c.args.args)) c.args.parts.now c.wait_with.new.self c.args.beside.now (record c.args.beside.now { asked = c.choose.new.asked; chosen = c.choose.new.chosen }) refl refl c.requires.stands.room c.in_err-outcome.ensures.err c.choose.ensures.hopes

pub returns-clause-goes : goal.returns-clause-goes
returns-clause-goes c =
    leaves_reported (CallOf c.args.args.pid (wait_call c.args.args)) c.args.parts.now c.wait_with.new.self c.args.beside.now (record c.args.beside.now { lists = c.take.new.lists; asked = c.choose.new.asked; chosen = c.choose.new.chosen }) c.args.step c.in_ok-outcome.outcome.picked refl refl c.in_ok-outcome.ensures.ids c.in_ok-outcome.ensures.entries c.requires.stands c.choose.ensures.hopes tt

pub returns-in_err-walked-clause-err : goal.returns-in_err-walked-clause-err
returns-in_err-walked-clause-err c = on_err c.from_residual.result (stays_by c.args.parts.now c.args.parts.now c.args.beside.now (record c.args.beside.now { asked = c.choose.new.asked; chosen = c.choose.new.chosen }) refl refl refl)

pub returns-in_err-outcome-clause-err : goal.returns-in_err-outcome-clause-err
returns-in_err-outcome-clause-err c = on_err c.from_residual-in_err-outcome.result (stays_by c.args.parts.now c.wait_with.new.self c.args.beside.now (record c.args.beside.now { asked = c.choose.new.asked; chosen = c.choose.new.chosen }) refl refl c.in_err-outcome.ensures.err)
