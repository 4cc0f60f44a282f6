use Rattle.std.proofs.Common.{[], take}
use Rattle.ep_base.specs.Limits.{Limits}
use Rattle.ep_audit.specs.Auditor.{HasAllowed}
use Rattle.ep_audit.proofs.verdict.first_illegal_kept.Given as goal

abbrev pub invariant-loop-index : goal.invariant-loop-index
invariant-loop-index l = (limits : Limits) → HasAllowed limits [] l.fn.auditor → HasAllowed limits (take l.index l.history.items) l.auditor
