use Rattle.std.proofs.Common.{append_assoc}
use Rattle.ep_history.proofs.CallTextLemmas.{settime_text}
use Rattle.ep_history.proofs.print_call.push_settime.Goals as goal

pub returns-clause-text : goal.returns-clause-text
returns-clause-text c =
    rw (c.in_ok-push.ensures.items, c.in_ok-push_natural-2.ensures, c.in_ok-push_natural.ensures, c.in_ok-push_descriptor.ensures, c.in_ok-push_flag.ensures, settime_text c.args.fd c.args.absolute c.args.value c.args.interval, ← c.value.view_is, ← c.interval.view_is) (simp append_assoc)
