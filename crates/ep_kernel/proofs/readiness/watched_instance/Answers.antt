use Rattle.ep_calls.proofs.EntryLemmas.{holds_under}
use Rattle.std.proofs.Common.{◌≡◌, ◌∙◌, IsSome, Some, ap, option_copied, subst, sym}
use Rattle.ep_calls.specs.Parts.{Parts}
use Rattle.ep_calls.specs.Stands.{IsLinked}
use Rattle.ep_interest.specs.Registrations.{entry_under}
use Rattle.ep_kernel.proofs.readiness.watched_instance.Goals as goal
use Rattle.ep_table.specs.Value.{number_under}

pub object-requires : goal.object-requires
object-requires c =
    let k = c.parts.inside in
    let x = c.in_ok-entry.entry.now in
    let at : entry_under k.interest c.args.id ≡ Some x = sym c.get.ensures ∙ ap option_copied c.in_ok-entry.was in
    (holds_under (IsLinked k.tables.keys) k.interest c.args.id x c.parts.invariant.linked at).desc

pub returns-clause-live : goal.returns-clause-live
returns-clause-live c =
    let k = c.parts.inside in
    let x = c.in_ok-entry.entry.now in
    let at : entry_under k.interest c.args.id ≡ Some x = sym c.get.ensures ∙ ap option_copied c.in_ok-entry.was in
    subst (λ (p : Parts). IsSome (number_under p.tables x.desc)) c.parts.view_is (holds_under (IsLinked k.tables.keys) k.interest c.args.id x c.parts.invariant.linked at).desc
