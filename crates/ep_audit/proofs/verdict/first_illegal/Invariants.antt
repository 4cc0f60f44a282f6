use Rattle.std.proofs.Common.{[], take}
use Rattle.ep_base.specs.Limits.{Limits}
use Rattle.ep_audit.specs.Auditor.{HasAllowed}
use Rattle.ep_audit.proofs.verdict.first_illegal.Given as goal

abbrev pub invariant-loop-place : goal.invariant-loop-place
invariant-loop-place l = (limits : Limits) → HasAllowed limits [] l.fn.auditor → HasAllowed limits (take l.place l.records) l.auditor
