use Rattle.std.proofs.Common.{append_assoc}
use Rattle.ep_text.proofs.print.push_events.Goals as goal

pub returns : goal.returns
returns c =
    rw (c.in_ok-push_str-2.ensures.bytes, c.in_ok-push_reports.ensures, c.in_ok-push_str.ensures.bytes) (simp append_assoc)
