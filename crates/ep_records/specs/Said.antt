-- The answer that a history tells.
use Rattle.ep_base.specs.declared.answer.Answer.{Answer}
use Rattle.ep_base.specs.declared.answer.Answer.TheVariants as answers
use Rattle.ep_records.specs.declared.said.Said.{Said}
use Rattle.ep_records.specs.declared.said.Said.TheVariants as ways

abbrev pub said_answer : Said → Answer
said_answer (ways.Made answer) = answer
said_answer (ways.Kept answer) = answer.now
said_answer (ways.Bytes bytes) = answers.Bytes bytes.now
said_answer (ways.Reports reports) = answers.Events reports.now
