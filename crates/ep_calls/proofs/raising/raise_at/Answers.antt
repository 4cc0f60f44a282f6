use Rattle.std.proofs.Common.{◌∙◌, sym}
use Rattle.ep_facts.proofs.NatFacts.{zero_test}
use Rattle.ep_calls.proofs.DueLemmas.{raised_none}
use Rattle.ep_calls.proofs.raising.raise_at.Goals as goal

pub returns-else-not-is_empty-clause-entries : goal.returns-else-not-is_empty-clause-entries
returns-else-not-is_empty-clause-entries c = raised_none c.args.desc c.args.bits c.args.step c.args.interest.now.entries (zero_test c.args.bits.0 (sym (c.is_empty.ensures tt) ∙ c.if-not-is_empty.false))
