use Rattle.std.proofs.Common.{◌∙◌, ap, sym}
use Rattle.std.specs.List.{list_any}
use Rattle.ep_machine.specs.State.{State}
use Rattle.ep_machine.specs.Waits.{is_parked}
use Rattle.ep_park.specs.Waiters.{is_caller}
use Rattle.ep_calls.specs.Book.{Book, state_of}
use Rattle.ep_calls.proofs.RegistrationLemmas.{caller_waits}
use Rattle.ep_plain.specs.declared.plain.PlainKernel.TheInside.{Inside}
use Rattle.ep_calls.proofs.KeepsLemmas.{state_is}
use Rattle.ep_records.specs.Past.{whole}
use Rattle.ep_plain.proofs.plain.PlainKernelKernel.is_parked.Goals as goal

pub returns : goal.returns
returns c =
    let k = c.self.inside in
    let p = k.parts in
    let keeps = c.self.invariant.standing.keeps in
    let caller = c.args.caller.0 in
    c.is_parked.ensures
    ∙ (ap (λ (j : Inside). list_any (is_caller caller) j.parts.parked) c.self-inside.view_is
    ∙ (sym (caller_waits p.tables p.interest p.parked p.clock keeps.state caller keeps.stands)
    ∙ (ap (λ (s : State). is_parked s caller) (sym (state_is (whole k.history) p keeps)) ∙ ap (λ (b : Book). is_parked (state_of b) caller) c.self.view_is)))
