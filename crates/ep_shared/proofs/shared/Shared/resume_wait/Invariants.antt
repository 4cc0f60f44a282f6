use Rattle.std.proofs.Common.{◌≡◌}
use Rattle.ep_shared.specs.Sessions.{caller_of, records_of}
use Rattle.ep_shared.specs.Told.{Vain}
use Rattle.ep_shared.proofs.shared.Shared.resume_wait.Given as goal

abbrev pub invariant-loop : goal.invariant-loop
invariant-loop g l = (caller_of l.session ≡ caller_of l.fn.session) × Vain (caller_of l.fn.session) (records_of l.fn.session) (records_of l.session)
