use Rattle.std.proofs.Common.{SFits, append_assoc, rules, w32}
use Rattle.ep_history.proofs.NumberLemmas.{widened}
use Rattle.ep_history.proofs.CallTextLemmas.{timerfd_text}
use Rattle.ep_history.proofs.print_call.push_timerfd.Goals as goal

pub returns-clause-text : goal.returns-clause-text
returns-clause-text c =
    let fits : SFits w32 c.args.clock = search rules in
    rw (c.in_ok-extend_from_slice.ensures.items, c.in_ok-push_flag.ensures, c.in_ok-push_integer.ensures, widened c.args.clock c.from.result fits c.from.ensures, timerfd_text c.args.clock c.args.cloexec) (simp append_assoc)
