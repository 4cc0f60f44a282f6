use Rattle.std.proofs.Common.{append_assoc}
use Rattle.ep_history.proofs.AnswerTextLemmas.{two_text}
use Rattle.ep_history.proofs.print_answer.push_two.Goals as goal

pub returns-clause-text : goal.returns-clause-text
returns-clause-text c =
    rw (c.in_ok-extend_from_slice.ensures.items, c.in_ok-push_descriptor-2.ensures, c.in_ok-push_descriptor.ensures, two_text c.args.first c.args.second) (simp append_assoc)
