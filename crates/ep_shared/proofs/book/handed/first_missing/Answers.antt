use Rattle.std.proofs.Common.{arith}
use Rattle.ep_shared.proofs.Pigeon.{pigeon}
use Rattle.ep_shared.proofs.book.handed.first_missing.Goals as goal

pub returns-clause-enough : goal.returns-clause-enough
returns-clause-enough g c = pigeon (λ s. s.name.number) c.args.sessions c.args.handed.now (λ k low high. c.loop-before.invariant k low (omega arith))
