use Rattle.std.proofs.Common.{◌∙◌, ap, subst, sym}
use Rattle.ep_machine.specs.State.{State}
use Rattle.ep_calls.specs.Book.{state_of}
use Rattle.ep_calls.specs.Driver.{TellsNext}
use Rattle.ep_calls.proofs.KeepsLemmas.{state_is}
use Rattle.ep_records.specs.Past.{whole}
use Rattle.ep_plain.proofs.plain.PlainKernelKernel.next_moment.Goals as goal

pub next_moment_with-requires : goal.next_moment_with-requires
next_moment_with-requires c = c.earliest.ensures c.self.inside.parts.tables c.self.inside.parts.clock c.know.ensures.tables c.self.invariant.set

pub returns : goal.returns
returns c =
    let k = c.self.inside in
    let keeps = c.self.invariant.standing.keeps in
    subst (λ (s : State). TellsNext s c.next_moment_with.result) (sym (state_is (whole k.history) k.parts keeps) ∙ ap state_of c.self.view_is)
    (c.next_moment_with.ensures keeps.state keeps.quiet keeps.stands)
