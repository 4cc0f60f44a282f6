use Rattle.std.proofs.Common.{List, SFits, rules, subst, sym, to_z-of_z, w32, ℤ, ◌≡◌}
use Rattle.ep_base.specs.declared.record.Record.{Record}
use Rattle.ep_exports.proofs.WatchLemmas.{named}
use Rattle.ep_exports.specs.Records.{here}
use Rattle.ep_exports.specs.Watches.{IsTold, TellsNamed, WatchRoom, past_of}
use Rattle.ep_kernel.specs.ReadyBook.{state_of}
use Rattle.ep_kernel.specs.Watches.{refused_with, told_at}
use Rattle.ep_machine.specs.Files.{named_by}
use Rattle.ep_exports.proofs.watches.ask_named.Goals as goal

pub returns-clause-tells : goal.returns-clause-tells
returns-clause-tells c =
    let kernel = c.args.kernel.now in
    let files = (state_of kernel).files in
    let pid = c.args.named.0.0 in
    let fd = c.args.named.1.0 in
    let before : WatchRoom = record { watches = c.args.room.now; count = c.args.count.now } in
    let after : WatchRoom = record { watches = c.put_asked.new.room; count = c.put_asked.new.count } in
    let fits : SFits w32 c.put_asked.result = search rules in
    let taken_is : c.history.result.now.taken ≡ kernel.book.taken = search rules in
    let here_is : c.history.result.now.items ≡ here kernel = search rules in
    let told : List Record → List Record → Type 0 = λ t i. IsTold (record { taken = t; items = i; room = 0 }) c.watches-answer.result c.watches-answer.new.room before after c.put_asked.result in
    let put = subst (λ (t : List Record). told t (here kernel)) taken_is (subst (λ (i : List Record). told c.history.result.now.taken i) here_is c.put_asked.ensures) in
    subst (λ (z : ℤ). TellsNamed kernel pid fd before after z) (sym (to_z-of_z fits))
    (named (past_of kernel) c.watches-answer.result c.args.told.now c.watches-answer.new.room before after c.put_asked.result put (refused_with files pid fd) (told_at (state_of kernel) (named_by files pid fd)) c.requires c.watches-answer.ensures.tells)
