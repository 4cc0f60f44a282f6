use Rattle.std.proofs.Common.{SFits, append_assoc, rules, w32}
use Rattle.ep_history.proofs.NumberLemmas.{widened}
use Rattle.ep_history.proofs.CallTextLemmas.{listen_text}
use Rattle.ep_history.proofs.print_socket.push_listen.Goals as goal

pub returns-clause-text : goal.returns-clause-text
returns-clause-text c =
    let fits : SFits w32 c.args.backlog = search rules in
    rw (c.in_ok-extend_from_slice.ensures.items, c.in_ok-push_descriptor.ensures, c.in_ok-push_integer.ensures, widened c.args.backlog c.from.result fits c.from.ensures, listen_text c.args.fd c.args.backlog) (simp append_assoc)
