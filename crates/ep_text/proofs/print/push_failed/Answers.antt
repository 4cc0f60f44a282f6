use Rattle.std.proofs.Common.{append_assoc}
use Rattle.ep_text.proofs.print.push_failed.Goals as goal

pub returns : goal.returns
returns c = rw (c.in_ok-push_number_and_name.ensures, c.in_ok-push_str.ensures.bytes) (simp append_assoc)
