use Rattle.ep_calls.proofs.EntryLemmas.{holds_under}
use Rattle.std.proofs.Common.{sym}
use Rattle.ep_calls.specs.Stands.{IsLinked}
use Rattle.ep_kernel.proofs.readiness.shows_over.Goals as goal

pub shown_at-requires : goal.shown_at-requires
shown_at-requires c =
    let k = c.parts.inside in
    record { target = (holds_under (IsLinked k.tables.keys) k.interest c.args.id c.in-Some.entry.now c.parts.invariant.linked (sym c.in-Some.ensures)).desc }
