use Rattle.std.proofs.Common.{append_assoc}
use Rattle.ep_history.proofs.AnswerTextLemmas.{time_text}
use Rattle.ep_history.proofs.print_answer.push_time.Goals as goal

pub returns-clause-text : goal.returns-clause-text
returns-clause-text c =
    rw (c.in_ok-extend_from_slice.ensures.items, c.in_ok-push_natural-2.ensures, c.in_ok-push_natural.ensures, time_text c.args.value c.args.interval, ← c.value.view_is, ← c.interval.view_is) (simp append_assoc)
