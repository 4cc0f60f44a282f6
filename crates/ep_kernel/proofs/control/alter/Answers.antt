use Rattle.std.proofs.Common.{ap, refl}
use Rattle.ep_kernel.proofs.EventLemmas.{leaves_noted}
use Rattle.ep_kernel.proofs.StillSuitsLemmas.{at_err, kept_on_err, loses_controlled, loses_failed, suits_altered, suits_stay}
use Rattle.ep_alarms.proofs.ChangesLemmas.{controls_leave}
use Rattle.ep_kernel.proofs.ControlTurnsLemmas.{found_placed, same_lists, settled_at, sound_at, turns_altered}
use Rattle.ep_kernel.proofs.HopesGoLemmas.{hopes_altered, hopes_stay}
use Rattle.ep_base.specs.declared.call.Event.TheVariants.{Call as CallOf}
use Rattle.ep_calls.specs.Control.{control_call}
use Rattle.ep_nest.proofs.AdjacentLemmas.{on_err}
use Rattle.ep_kernel.proofs.control.alter.Goals as goal
use Rattle.ep_kernel.specs.declared.beside.Beside.{Beside}

pub note_deleted-requires : goal.note_deleted-requires
note_deleted-requires c = record { room = c.requires.stands.room.choice.lost }

pub settle-requires : goal.settle-requires
settle-requires c =
    let b = c.args.beside.now in
    let stands = c.requires.stands in
    record {
      lists = found_placed c.args.pid.0 c.args.args c.args.plan c.args.parts.now b.lists stands.listed.places c.requires.plan c.in-Some.id c.in-Some.is;
      hopes = found_placed c.args.pid.0 c.args.args c.args.plan c.args.parts.now b.asked.hopes stands.hopes.places c.requires.plan c.in-Some.id c.in-Some.is;
    }

pub returns-clause-turns : goal.returns-clause-turns
returns-clause-turns c =
    turns_altered c.args.pid c.args.args c.args.plan c.in_ok-outcome.outcome c.args.parts.now c.control.new.self c.args.beside.now.lists c.requires.stands.listed c.in_ok-outcome.ensures.controls c.known.ensures.sound (sound_at _ _ c.parts.view_is c.known-2.ensures) c.known-3.ensures.coherent (sound_at _ _ c.parts-2.view_is c.known-4.ensures) c.requires.plan c.settle.new.self.lists c.in-Some.id c.in-Some.is (settled_at _ _ _ _ _ _ c.parts-2.view_is c.settle.ensures.alike.lists)

pub returns-clause-leaves : goal.returns-clause-leaves
returns-clause-leaves c = controls_leave c.args.plan c.args.args c.in_ok-outcome.outcome c.args.parts.now c.control.new.self c.in_ok-outcome.ensures.controls

pub returns-clause-goes : goal.returns-clause-goes
returns-clause-goes c =
    let p = c.args.parts.now in
    let q = c.control.new.self in
    let b = c.args.beside.now in
    let outcome = c.in_ok-outcome.outcome in
    let controls = c.in_ok-outcome.ensures.controls in
    let sound = sound_at _ _ c.parts.view_is c.known-2.ensures in
    let rest = c.settle.ensures.rest in
    leaves_noted (CallOf c.args.pid (control_call c.args.args)) c.args.plan p q b c.settle.new.self c.note_deleted.new.lost c.note_deleted.ensures (ap (λ (x : Beside). x.reached) rest) (ap (λ (x : Beside). x.choice) rest) c.requires.stands.room
    (hopes_altered c.args.pid c.args.args c.args.plan outcome p q b.asked.hopes c.requires.stands.hopes controls c.known.ensures.sound sound c.known-3.ensures.coherent (sound_at _ _ c.parts-2.view_is c.known-4.ensures) c.requires.plan c.settle.new.self.asked.hopes c.in-Some.id c.in-Some.is (settled_at _ _ _ _ _ _ c.parts-2.view_is c.settle.ensures.alike.hopes))
    (suits_altered c.args.pid c.args.args c.args.plan outcome p q controls sound c.requires.plan c.in-Some.id c.in-Some.is)
    (loses_controlled c.args.pid c.args.args c.args.plan outcome p q controls sound)

pub returns-in_err-outcome-clause-goes : goal.returns-in_err-outcome-clause-goes
returns-in_err-outcome-clause-goes c =
    let p = c.args.parts.now in
    let q = c.control.new.self in
    let b = c.args.beside.now in
    let same = c.in_err-outcome.ensures.err in
    let event = CallOf c.args.pid (control_call c.args.args) in
    leaves_noted event c.args.plan p q b (record b { choice = record b.choice { lost = c.note_deleted.new.lost } }) c.note_deleted.new.lost c.note_deleted.ensures refl refl c.requires.stands.room (hopes_stay event p q b.asked.hopes same c.requires.stands.hopes) (suits_stay p q same) (loses_failed c.args.plan p q same)

pub returns-in_err-outcome-clause-err : goal.returns-in_err-outcome-clause-err
returns-in_err-outcome-clause-err c =
    let b = c.args.beside.now in
    let plan = c.args.plan in
    let kept = kept_on_err plan.operation plan.found c.args.parts.now b.choice.lost c.note_deleted.new.lost c.note_deleted.ensures c.control.result c.control.ensures.spared in
    on_err c.from_residual.result (record { parts = c.in_err-outcome.ensures.err; lists = same_lists b.lists b.lists refl; lost = at_err c.control.result _ c.in_err-outcome.was kept })
