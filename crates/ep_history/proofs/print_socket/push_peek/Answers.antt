use Rattle.std.proofs.Common.{append_assoc}
use Rattle.ep_history.proofs.CallTextLemmas.{peek_text}
use Rattle.ep_history.proofs.print_socket.push_peek.Goals as goal

pub returns-clause-text : goal.returns-clause-text
returns-clause-text c =
    rw (c.in_ok-extend_from_slice.ensures.items, c.in_ok-push_natural.ensures, c.in_ok-push_descriptor.ensures, c.from.ensures, peek_text c.args.fd c.args.n) (simp append_assoc)
