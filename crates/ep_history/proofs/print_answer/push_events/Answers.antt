use Rattle.std.proofs.Common.{append_assoc}
use Rattle.ep_history.proofs.AnswerTextLemmas.{events_text}
use Rattle.ep_history.proofs.print_answer.push_events.Goals as goal

pub returns-clause-text : goal.returns-clause-text
returns-clause-text c =
    rw (c.in_ok-push.ensures.items, c.in_ok-push_reports.ensures.text, c.in_ok-extend_from_slice.ensures.items, events_text c.args.reports.now) (simp append_assoc)
