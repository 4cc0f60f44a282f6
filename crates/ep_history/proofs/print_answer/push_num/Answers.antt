use Rattle.std.proofs.Common.{append_assoc}
use Rattle.ep_history.proofs.AnswerTextLemmas.{num_text}
use Rattle.ep_history.proofs.print_answer.push_num.Goals as goal

pub returns-clause-text : goal.returns-clause-text
returns-clause-text c =
    rw (c.in_ok-push.ensures.items, c.in_ok-push_natural.ensures, num_text c.args.number) (simp append_assoc)
