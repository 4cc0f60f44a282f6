use Rattle.std.proofs.Common.{List, SFits, rules, subst, sym, to_z-of_z, w32, ℤ, ◌≡◌}
use Rattle.ep_base.specs.declared.record.Record.{Record}
use Rattle.ep_exports.proofs.WatchLemmas.{awaited}
use Rattle.ep_exports.specs.Records.{here}
use Rattle.ep_exports.specs.Watches.{IsTold, TellsAwaited, WatchRoom, past_of}
use Rattle.ep_kernel.specs.ReadyBook.{state_of}
use Rattle.ep_machine.specs.Waits.{waiter_of}
use Rattle.ep_exports.proofs.watches.ask_awaited.Goals as goal

pub returns-clause-tells : goal.returns-clause-tells
returns-clause-tells c =
    let kernel = c.args.kernel.now in
    let s = state_of kernel in
    let caller = c.args.caller.0 in
    let before : WatchRoom = record { watches = c.args.room.now; count = c.args.count.now } in
    let after : WatchRoom = record { watches = c.put_asked.new.room; count = c.put_asked.new.count } in
    let fits : SFits w32 c.put_asked.result = search rules in
    let taken_is : c.history.result.now.taken ≡ kernel.book.taken = search rules in
    let here_is : c.history.result.now.items ≡ here kernel = search rules in
    let told : List Record → List Record → Type 0 = λ t i. IsTold (record { taken = t; items = i; room = 0 }) c.watches_awaited-answer.result c.watches_awaited-answer.new.room before after c.put_asked.result in
    let put = subst (λ (t : List Record). told t (here kernel)) taken_is (subst (λ (i : List Record). told c.history.result.now.taken i) here_is c.put_asked.ensures) in
    subst (λ (z : ℤ). TellsAwaited kernel caller before after z) (sym (to_z-of_z fits))
    (awaited (past_of kernel) c.watches_awaited-answer.result c.args.told.now c.watches_awaited-answer.new.room before after c.put_asked.result put s (waiter_of s caller) c.requires c.watches_awaited-answer.ensures.tells)
