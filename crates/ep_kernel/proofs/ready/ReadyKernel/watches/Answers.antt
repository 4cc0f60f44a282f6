use Rattle.std.proofs.Common.{MatchOption, Ok, ap, subst, sym, ◌∙◌}
use Rattle.ep_calls.proofs.KeepsLemmas.{state_is}
use Rattle.ep_kernel.proofs.WatchLemmas.{tells_named}
use Rattle.ep_kernel.specs.ReadyBook.{state_of}
use Rattle.ep_kernel.specs.Watches.{Tells, TellsNone, refused_with, told_at}
use Rattle.ep_machine.specs.Files.{named_by}
use Rattle.ep_machine.specs.State.{State}
use Rattle.ep_records.specs.Past.{whole}
use Rattle.ep_kernel.proofs.ready.ReadyKernel.watches.Goals as goal

pub returns-clause-tells : goal.returns-clause-tells
returns-clause-tells c =
    let k = c.self.inside in
    let keeps = c.self.invariant.runs.keeps in
    let pid = c.args.pid.0 in
    let fd = c.args.epfd.0 in
    let named = c.in_ok-instance.ensures in
    subst (λ (s : State). MatchOption (refused_with s.files pid fd)
    (Tells (told_at s (named_by s.files pid fd)) (Ok c.ask-count.result) c.args.room.now c.ask-count.new.room)
    (λ e. TellsNone e (Ok c.ask-count.result) c.args.room.now c.ask-count.new.room))
    (sym (state_is (whole k.history) k.parts keeps) ∙ ap state_of c.self.view_is)
    (tells_named k.parts c.in_ok-instance.instance c.know.ensures.coherent c.know.ensures.tables named.lives keeps.state keeps.stands
    c.ask-count.result c.args.room.now c.ask-count.new.room c.ask-count.ensures.count c.ask-count.ensures.room pid fd named)
