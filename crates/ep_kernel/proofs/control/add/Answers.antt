use Rattle.std.proofs.Common.{◌≡◌, ◌∙◌, List, None, ap, refl, subst, sym, ℕ}
use Rattle.ep_base.specs.declared.call.Event.TheVariants.{Call as CallOf}
use Rattle.ep_alarms.proofs.ChangesLemmas.{controls_leave}
use Rattle.ep_calls.specs.Control.{control_call}
use Rattle.ep_calls.specs.Parts.{Parts}
use Rattle.ep_base.specs.declared.ids.EntryId.{EntryId}
use Rattle.ep_base.specs.declared.ids.Pid.{Pid}
use Rattle.ep_calls.specs.declared.control.Control.{Control}
use Rattle.ep_interest.specs.Registrations.{number_under}
use Rattle.ep_nest.proofs.AdjacentLemmas.{on_err}
use Rattle.ep_ready.specs.ReadyLists.{GainsPlace, IsSound, Lists, LosesPlace, Same}
use Rattle.ep_kernel.proofs.ControlLemmas.{turns_still}
use Rattle.ep_kernel.proofs.ControlTurnsLemmas.{next_at, none_placed, same_again, settled_at, some_placed, sound_at, turns_added, vacant_at}
use Rattle.ep_kernel.proofs.EventLemmas.{leaves_widened}
use Rattle.ep_kernel.proofs.HopesGoLemmas.{hopes_added, hopes_refused}
use Rattle.ep_kernel.proofs.RoomLemmas.{room_added, room_kept, room_rest, room_widened}
use Rattle.ep_kernel.proofs.StillSuitsLemmas.{loses_missed, loses_stay, suits_added, suits_stay}
use Rattle.ep_kernel.proofs.control.add.Goals as goal
use Rattle.ep_kernel.specs.Beside.{KeepsRest, Widens}
use Rattle.ep_kernel.specs.Event.{LeavesBeside}
use Rattle.ep_kernel.specs.Listed.{HavePlaces}
use Rattle.ep_kernel.specs.Stands.{StandsBeside}
use Rattle.ep_kernel.specs.Turns.{Turns}
use Rattle.ep_kernel.specs.declared.beside.Beside.{Beside}

-- the next key is free
pub make-requires : goal.make-requires
make-requires c =
    let p = c.args.parts.now in
    let b = c.args.beside.now in
    let vacant = vacant_at _ _ _ c.parts.view_is c.next_key-id.ensures.vacant in
    record { free = record { lists = none_placed p b.lists c.requires.stands.listed.places c.next_key-id.result vacant; hopes = none_placed p b.asked.hopes c.requires.stands.hopes.places c.next_key-id.result vacant } }

pub settle-requires : goal.settle-requires
settle-requires c =
    let made = c.make.ensures.made c.if-not-make.false in
    let m = c.make.new.self in
    record { lists = some_placed m.lists c.next_key-id.result c.args.plan.named.instance.0 made.lists.here; hopes = some_placed m.asked.hopes c.next_key-id.result c.args.plan.named.instance.0 made.hopes.here }

pub unmake-requires : goal.unmake-requires
unmake-requires c =
    let made = c.make.ensures.made c.if-not-make.false in
    let m = c.make.new.self in
    record { lists = some_placed m.lists c.next_key-id.result c.args.plan.named.instance.0 made.lists.here; hopes = some_placed m.asked.hopes c.next_key-id.result c.args.plan.named.instance.0 made.hopes.here }

pub returns-clause-turns : goal.returns-clause-turns
returns-clause-turns c =
    turns_added c.args.pid c.args.args c.args.plan c.in-Ok.outcome c.args.parts.now c.control.new.self c.args.beside.now.lists c.requires.stands.listed c.in-Ok.ensures.controls c.known.ensures.sound (sound_at _ _ c.parts.view_is c.known-2.ensures) c.known-5.ensures.coherent (sound_at _ _ c.parts-2.view_is c.known-6.ensures) c.requires.plan c.requires.found c.make.new.self.lists c.settle.new.self.lists c.known-3.ensures c.next_key-id.result (next_at _ _ _ c.parts.view_is c.next_key-id.ensures.next) (vacant_at _ _ _ c.parts.view_is c.next_key-id.ensures.vacant) c.requires.adds (c.make.ensures.made c.if-not-make.false).lists (settled_at _ _ _ _ _ _ c.parts-2.view_is c.settle.ensures.alike.lists)

pub returns-clause-leaves : goal.returns-clause-leaves
returns-clause-leaves c = controls_leave c.args.plan c.args.args c.in-Ok.outcome c.args.parts.now c.control.new.self c.in-Ok.ensures.controls

pub returns-clause-goes : goal.returns-clause-goes
returns-clause-goes c =
    let p = c.args.parts.now in
    let q = c.control.new.self in
    let b = c.args.beside.now in
    let m = c.make.new.self in
    let n = c.settle.new.self in
    let id = c.next_key-id.result in
    let outcome = c.in-Ok.outcome in
    let controls = c.in-Ok.ensures.controls in
    let made = c.make.ensures.made c.if-not-make.false in
    let widens = c.make.ensures.widens in
    let sound = sound_at _ _ c.parts.view_is c.known-2.ensures in
    let next = next_at _ _ _ c.parts.view_is c.next_key-id.ensures.next in
    let rest = c.settle.ensures.rest in
    leaves_widened (CallOf c.args.pid (control_call c.args.args)) p q b n (ap (λ (x : Beside). x.choice.lost.reached) rest ∙ widens.choice.kept)
    (hopes_added c.args.pid c.args.args c.args.plan outcome p q b.asked.hopes c.requires.stands.hopes controls c.known.ensures.sound sound c.known-5.ensures.coherent (sound_at _ _ c.parts-2.view_is c.known-6.ensures) c.requires.plan c.requires.found m.asked.hopes n.asked.hopes c.known-4.ensures id next (vacant_at _ _ _ c.parts.view_is c.next_key-id.ensures.vacant) c.requires.adds made.hopes (settled_at _ _ _ _ _ _ c.parts-2.view_is c.settle.ensures.alike.hopes))
    (room_rest q.interest m n rest (room_added p.interest q.interest m c.args.plan.named c.args.args.mask id.0 (suits_added c.args.pid c.args.args c.args.plan outcome p q controls sound id next c.requires.adds c.requires.found) (c.make.ensures.room c.if-not-make.false) (room_widened p.interest b m widens c.requires.stands.room)))
    (loses_missed c.args.pid c.args.args c.args.plan outcome p q controls c.requires.found)

-- Where there is no room.
pub returns-then-not-make-clause-turns : goal.returns-then-not-make-clause-turns
returns-then-not-make-clause-turns c =
    let p = c.args.parts.now in
    let l = c.args.beside.now.lists in
    let m = c.make.new.self.lists in
    let event = CallOf c.args.pid (control_call c.args.args) in
    subst (λ (q : Parts). Turns event c.in_ok-refused.refused.picked p l q m) (sym c.refuse.ensures.stays)
    (subst (λ (ks : List ℕ). Turns event ks p l p m) (sym c.in_ok-refused.ensures.picked) (turns_still p p l m refl refl refl (c.make.ensures.refused c.if-not-make.true).lists c.args.pid c.args.args c.requires.stands.listed))

-- what a refusal, and want of memory, leave beside the parts
refused : (p q : Parts) (b m : Beside) (pid : Pid) (args : Control) → q ≡ p → Widens b m → Same b.asked.hopes m.asked.hopes → StandsBeside p b → LeavesBeside (CallOf pid (control_call args)) p b q m
refused p q b m pid args same widens hopes stands =
    leaves_widened (CallOf pid (control_call args)) p q b m widens.choice.kept (hopes_refused pid args p q b.asked.hopes m.asked.hopes same hopes stands.hopes)
    (room_kept p.interest q.interest m (suits_stay p q same) (room_widened p.interest b m widens stands.room)) (loses_stay p q same)

pub returns-then-not-make-clause-goes : goal.returns-then-not-make-clause-goes
returns-then-not-make-clause-goes c = refused c.args.parts.now c.refuse.new.parts c.args.beside.now c.make.new.self c.args.pid c.args.args c.refuse.ensures.stays c.make.ensures.widens (c.make.ensures.refused c.if-not-make.true).hopes c.requires.stands

pub returns-in_err-refused-clause-goes : goal.returns-in_err-refused-clause-goes
returns-in_err-refused-clause-goes c = refused c.args.parts.now c.refuse.new.parts c.args.beside.now c.make.new.self c.args.pid c.args.args c.refuse.ensures.stays c.make.ensures.widens (c.make.ensures.refused c.if-not-make.true).hopes c.requires.stands

pub returns-in_err-refused-clause-err : goal.returns-in_err-refused-clause-err
returns-in_err-refused-clause-err c = on_err c.from_residual.result (record { parts = c.refuse.ensures.stays; lists = (c.make.ensures.refused c.if-not-make.true).lists; lost = c.make.ensures.widens.choice.kept })

-- Where memory is wanting once there is room: the places that were made go again.
again : (l m n : Lists) (id : EntryId) (i : ℕ) (p : Parts) → IsSound l → HavePlaces p.interest l → number_under p.interest id ≡ None → GainsPlace l m i id → LosesPlace m n id → Same l n
again l m n id i p sound places vacant gains loses = same_again l m n id i sound (none_placed p l places id vacant) gains loses

unmade : (b m n : Beside) → Widens b m → KeepsRest m n → Widens b n
unmade b m n widens rest = subst (Widens b) (sym rest) (record { reached = widens.reached; choice = widens.choice })

pub returns-in-Err-clause-goes : goal.returns-in-Err-clause-goes
returns-in-Err-clause-goes c =
    let p = c.args.parts.now in
    let b = c.args.beside.now in
    let m = c.make.new.self in
    let n = c.unmake.new.self in
    let vacant = vacant_at _ _ _ c.parts.view_is c.next_key-id.ensures.vacant in
    let same = again b.asked.hopes m.asked.hopes n.asked.hopes c.next_key-id.result c.args.plan.named.instance.0 p c.known-4.ensures c.requires.stands.hopes.places vacant (c.make.ensures.made c.if-not-make.false).hopes c.unmake.ensures.alike.hopes in
    refused p c.control.new.self b n c.args.pid c.args.args c.in-Err.ensures.err (unmade b m n c.make.ensures.widens c.unmake.ensures.rest) same c.requires.stands

pub returns-in-Err-clause-err : goal.returns-in-Err-clause-err
returns-in-Err-clause-err c =
    let b = c.args.beside.now in
    let m = c.make.new.self in
    let n = c.unmake.new.self in
    let vacant = vacant_at _ _ _ c.parts.view_is c.next_key-id.ensures.vacant in
    record {
      parts = c.in-Err.ensures.err;
      lists = again b.lists m.lists n.lists c.next_key-id.result c.args.plan.named.instance.0 c.args.parts.now c.known-3.ensures c.requires.stands.listed.places vacant (c.make.ensures.made c.if-not-make.false).lists c.unmake.ensures.alike.lists;
      lost = (unmade b m n c.make.ensures.widens c.unmake.ensures.rest).choice.kept;
    }
