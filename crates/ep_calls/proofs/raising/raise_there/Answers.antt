use Rattle.ep_calls.proofs.DueLemmas.{raised_nowhere}
use Rattle.ep_calls.proofs.raising.raise_there.Goals as goal

pub returns-in_default-clause-entries : goal.returns-in_default-clause-entries
returns-in_default-clause-entries c = raised_nowhere c.args.desc c.args.bits c.args.step c.args.interest.now.entries c.in_default.not-Some
