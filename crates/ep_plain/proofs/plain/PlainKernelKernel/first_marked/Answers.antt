use Rattle.std.proofs.Common.{◌∙◌, ap, sym}
use Rattle.ep_calls.specs.Book.{Book, state_of}
use Rattle.ep_calls.specs.Driver.{first_marked}
use Rattle.ep_calls.proofs.KeepsLemmas.{state_is}
use Rattle.ep_records.specs.Past.{whole}
use Rattle.ep_plain.proofs.plain.PlainKernelKernel.first_marked.Goals as goal

pub returns : goal.returns
returns c =
    let k = c.self.inside in
    let keeps = c.self.invariant.standing.keeps in
    c.first_marked.ensures keeps.state keeps.stands
    ∙ (ap first_marked (sym (state_is (whole k.history) k.parts keeps)) ∙ ap (λ (b : Book). first_marked (state_of b)) c.self.view_is)
