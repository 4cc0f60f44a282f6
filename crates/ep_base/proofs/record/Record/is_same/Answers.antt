use Rattle.ep_base.specs.contracts.record.RecordEq.TheImpl.Laws as laws
use Rattle.ep_base.proofs.SameLemmas.{one_record, tells}
use Rattle.ep_base.proofs.record.Record.is_same.Goals as goal

pub returns : goal.returns
returns c = tells one_record laws.laws-law c.args.self.now c.args.other.now c.eq.result c.eq.ensures
