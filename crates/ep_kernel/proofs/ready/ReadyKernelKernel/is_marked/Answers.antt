use Rattle.std.proofs.Common.{◌∙◌, ap, sym}
use Rattle.std.specs.List.{list_any}
use Rattle.ep_machine.specs.State.{State}
use Rattle.ep_machine.specs.Waits.{is_marked}
use Rattle.ep_park.specs.Waiters.{is_marked_caller}
use Rattle.ep_kernel.specs.ReadyBook.{ReadyBook, state_of}
use Rattle.ep_calls.proofs.RegistrationLemmas.{caller_marked}
use Rattle.ep_kernel.specs.declared.ready.ReadyKernel.TheInside.{Inside}
use Rattle.ep_calls.proofs.KeepsLemmas.{state_is}
use Rattle.ep_records.specs.Past.{whole}
use Rattle.ep_kernel.proofs.ready.ReadyKernelKernel.is_marked.Goals as goal

pub returns : goal.returns
returns c =
    let k = c.self.inside in
    let p = k.parts in
    let keeps = c.self.invariant.runs.keeps in
    let caller = c.args.caller.0 in
    c.is_marked.ensures
    ∙ (ap (λ (j : Inside). list_any (is_marked_caller caller) j.parts.parked) c.self-inside.view_is
    ∙ (sym (caller_marked p.tables p.interest p.parked p.clock keeps.state caller keeps.stands)
    ∙ (ap (λ (s : State). is_marked s caller) (sym (state_is (whole k.history) p keeps)) ∙ ap (λ (b : ReadyBook). is_marked (state_of b) caller) c.self.view_is)))
