use Rattle.std.proofs.Common.{append_assoc}
use Rattle.ep_history.proofs.RecordTextLemmas.{call_event_text}
use Rattle.ep_history.proofs.print.push_call_event.Goals as goal

pub returns-clause-text : goal.returns-clause-text
returns-clause-text c =
    rw (c.in_ok-push.ensures.items, c.in_ok-push_natural.ensures, c.in_ok-push_call.ensures.text, c.in_ok-extend_from_slice.ensures.items, call_event_text c.args.pid c.args.call.now) (simp append_assoc)
