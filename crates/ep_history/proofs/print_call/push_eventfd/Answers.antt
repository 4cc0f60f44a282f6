use Rattle.std.proofs.Common.{append_assoc}
use Rattle.ep_history.proofs.CallTextLemmas.{eventfd_text}
use Rattle.ep_history.proofs.print_call.push_eventfd.Goals as goal

pub returns-clause-text : goal.returns-clause-text
returns-clause-text c =
    rw (c.in_ok-push.ensures.items, c.in_ok-push_flag-2.ensures, c.in_ok-push_natural.ensures, c.in_ok-push_flag.ensures, c.from.ensures, eventfd_text c.args.init c.args.semaphore c.args.cloexec) (simp append_assoc)
