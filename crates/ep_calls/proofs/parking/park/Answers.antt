use Rattle.std.proofs.Common.{List, ap, ◌∙◌, sym, subst}
use Rattle.ep_machine.specs.State.{Waiter}
use Rattle.ep_park.specs.Waiters.{without}
use Rattle.ep_calls.specs.Stands.{AreHeld}
use Rattle.ep_calls.proofs.ParkLemmas.{held_parked, left_parked}
use Rattle.ep_table.specs.Value.{Seen}
use Rattle.ep_calls.proofs.parking.park.Goals as goal

pub returns-in-Ok-clause-held : goal.returns-in-Ok-clause-held
returns-in-Ok-clause-held c =
    held_parked c.args.tables.now c.hold.new.self c.args.waiters.now c.park.new.self c.args.caller.0 c.args.waiter c.known.ensures c.requires.instance c.requires.held c.in-Ok.ensures.ok c.in_ok-park.ensures.parked

pub returns-in-Err-clause-held : goal.returns-in-Err-clause-held
returns-in-Err-clause-held c =
    let back = c.leave.ensures.rest ∙ (ap (without c.args.caller.0) c.in_ok-park.ensures.parked ∙ left_parked c.args.caller.0 c.args.waiters.now c.args.waiter c.requires.free) in
    subst (λ (t : Seen). AreHeld t c.leave.new.self) (sym c.in-Err.ensures.err) (subst (λ (ws : List Waiter). AreHeld c.args.tables.now ws) (sym back) c.requires.held)

pub returns-in-Err-clause-err : goal.returns-in-Err-clause-err
returns-in-Err-clause-err c = (
  c.in-Err.ensures.err,
  c.leave.ensures.rest ∙ (ap (without c.args.caller.0) c.in_ok-park.ensures.parked ∙ left_parked c.args.caller.0 c.args.waiters.now c.args.waiter c.requires.free),
)
