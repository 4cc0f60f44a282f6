use Rattle.std.proofs.Common.{append_assoc}
use Rattle.ep_history.proofs.CallTextLemmas.{dup2_text}
use Rattle.ep_history.proofs.print_call.push_dup2.Goals as goal

pub returns-clause-text : goal.returns-clause-text
returns-clause-text c =
    rw (c.in_ok-push.ensures.items, c.in_ok-push_descriptor-2.ensures, c.in_ok-push_descriptor.ensures, dup2_text c.args.fd c.args.to) (simp append_assoc)
