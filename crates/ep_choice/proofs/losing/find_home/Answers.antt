use Rattle.ep_calls.proofs.EntryLemmas.{holds_under}
use Rattle.std.proofs.Common.{◌≡◌, ◌∙◌, Some, ap, option_copied, sym}
use Rattle.ep_calls.specs.Stands.{IsLinked}
use Rattle.ep_interest.specs.Registrations.{entry_under}
use Rattle.ep_choice.proofs.losing.find_home.Goals as goal

pub object-requires : goal.object-requires
object-requires c =
    let k = c.parts.inside in
    let x = c.in_ok-entry.entry.now in
    let at : entry_under k.interest c.args.id ≡ Some x = sym c.get.ensures ∙ ap option_copied c.in_ok-entry.was in
    (holds_under (IsLinked k.tables.keys) k.interest c.args.id x c.parts.invariant.linked at).desc
