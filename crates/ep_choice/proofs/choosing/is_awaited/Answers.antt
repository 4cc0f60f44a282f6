use Rattle.std.proofs.Common.{◌∙◌, IsSome, subst, sym}
use Rattle.ep_calls.specs.Parts.{Parts}
use Rattle.ep_climb.proofs.MarkLemmas.{lives_where}
use Rattle.ep_table.specs.Value.{number_under}
use Rattle.ep_choice.proofs.choosing.is_awaited.Goals as goal

pub is_ready-requires-clause-live : goal.is_ready-requires-clause-live
is_ready-requires-clause-live g c =
    let k = c.parts.inside in
    subst (λ (q : Parts). IsSome (number_under q.tables c.args.instance)) c.parts.view_is
    (lives_where k.tables k.waiters c.args.instance.0 c.parts.invariant.placed (sym c.has_waiter.ensures ∙ c.if-not-has_waiter.false))
