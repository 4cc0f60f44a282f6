use Rattle.std.proofs.Common.{◌≡◌, drop}
use Rattle.ep_shared.specs.Sessions.{held}
use Rattle.ep_shared.proofs.book.laws.agrees.Given as goal

abbrev pub invariant-loop-session : goal.invariant-loop-session
invariant-loop-session g l = held l.caller l.handed ≡ held l.caller (drop l.session-index l.handed)
