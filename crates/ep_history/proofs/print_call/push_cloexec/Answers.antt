use Rattle.std.proofs.Common.{append_assoc}
use Rattle.ep_history.proofs.print_call.push_cloexec.Goals as goal

pub returns : goal.returns
returns c = rw (c.in_ok-extend_from_slice.ensures.items, c.in_ok-push_flag.ensures) (simp append_assoc)
