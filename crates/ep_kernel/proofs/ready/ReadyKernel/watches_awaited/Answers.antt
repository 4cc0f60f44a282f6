use Rattle.std.proofs.Common.{Err, MatchOption, Ok, ap, refl, subst, sym, ◌∙◌}
use Rattle.ep_base.specs.declared.errno.Errno.TheVariants.{Einval}
use Rattle.std.specs.Option.{option_map}
use Rattle.ep_calls.proofs.KeepsLemmas.{state_is}
use Rattle.ep_calls.proofs.ParkLemmas.{found_all}
use Rattle.ep_calls.specs.Stands.{IsPlaced}
use Rattle.ep_park.specs.Waiters.{parked}
use Rattle.ep_kernel.proofs.WatchLemmas.{tells_awaited, tells_unparked}
use Rattle.ep_kernel.specs.ReadyBook.{state_of}
use Rattle.ep_kernel.specs.Watches.{Tells, TellsNone, told_at}
use Rattle.ep_machine.specs.State.{State}
use Rattle.ep_machine.specs.Waits.{waiter_of}
use Rattle.ep_records.specs.Past.{whole}
use Rattle.ep_kernel.proofs.ready.ReadyKernel.watches_awaited.Goals as goal

pub returns-in_default-clause-tells : goal.returns-in_default-clause-tells
returns-in_default-clause-tells c =
    let k = c.self.inside in
    let keeps = c.self.invariant.runs.keeps in
    subst (λ (s : State). MatchOption (waiter_of s c.args.caller.0) (TellsNone Einval (Err Einval) c.args.room.now c.args.room.now)
    (λ w. Tells (told_at s w.instance) (Err Einval) c.args.room.now c.args.room.now))
    (sym (state_is (whole k.history) k.parts keeps) ∙ ap state_of c.self.view_is)
    (tells_unparked k.parts keeps.state keeps.stands c.args.caller.0 c.args.room.now
    (sym c.find_wait.ensures ∙ ap (option_map (parked c.args.caller.0)) c.in_default.is))

pub returns-clause-tells : goal.returns-clause-tells
returns-clause-tells c =
    let k = c.self.inside in
    let keeps = c.self.invariant.runs.keeps in
    let w = c.in-Some.waiter in
    let found = sym c.find_wait.ensures ∙ ap (option_map (parked c.args.caller.0)) c.in-Some.is in
    subst (λ (s : State). MatchOption (waiter_of s c.args.caller.0) (TellsNone Einval (Ok c.ask-count.result) c.args.room.now c.ask-count.new.room)
    (λ w. Tells (told_at s w.instance) (Ok c.ask-count.result) c.args.room.now c.ask-count.new.room))
    (sym (state_is (whole k.history) k.parts keeps) ∙ ap state_of c.self.view_is)
    (tells_awaited k.parts w.instance c.know.ensures.coherent c.know.ensures.tables
    (found_all (IsPlaced k.parts.tables.keys) c.args.caller.0 k.parts.parked (parked c.args.caller.0 w) found c.know.ensures.coherent.placed).instance
    keeps.state keeps.stands c.ask-count.result c.args.room.now c.ask-count.new.room c.ask-count.ensures.count c.ask-count.ensures.room c.args.caller.0 w found refl)
