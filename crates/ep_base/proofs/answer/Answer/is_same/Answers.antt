use Rattle.ep_base.specs.contracts.answer.AnswerEq.TheImpl.Laws as laws
use Rattle.ep_base.proofs.SameLemmas.{one_answer, tells}
use Rattle.ep_base.proofs.answer.Answer.is_same.Goals as goal

pub returns : goal.returns
returns c = tells one_answer laws.laws-law c.args.self.now c.args.other.now c.eq.result c.eq.ensures
