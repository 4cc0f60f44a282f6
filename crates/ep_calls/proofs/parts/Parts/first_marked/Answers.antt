use Rattle.std.proofs.Common.{sym, subst, ◌∙◌}
use Rattle.ep_calls.specs.Moves.{StandFor}
use Rattle.ep_calls.specs.Parts.{Parts}
use Rattle.ep_calls.proofs.FirstMarkedLemmas.{marked_in}
use Rattle.ep_calls.proofs.parts.Parts.first_marked.Goals as goal

pub returns : goal.returns
returns c =
    let k = c.self.inside in
    let p : Parts = record { tables = k.tables; interest = k.interest; graph = k.graph; parked = k.waiters; clock = k.clock } in
    λ s stands. c.first_marked.ensures ∙ marked_in p s (subst (λ (q : Parts). StandFor q s) (sym c.self.view_is) stands)
