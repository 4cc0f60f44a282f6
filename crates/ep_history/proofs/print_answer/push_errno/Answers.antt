use Rattle.std.proofs.Common.{append_assoc}
use Rattle.ep_history.proofs.print_answer.push_errno.Goals as goal

pub returns : goal.returns
returns c =
    rw (c.in_ok-extend_from_slice-3.ensures.items, c.in_ok-extend_from_slice-2.ensures.items, c.in_ok-extend_from_slice.ensures.items, c.in_ok-push_natural.ensures, c.as_bytes.ensures.value, c.name.ensures, c.from.ensures, c.number.ensures) (simp append_assoc)
