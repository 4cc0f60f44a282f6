use Rattle.std.proofs.Common.{SFits, append_assoc, rules, w32, w64}
use Rattle.std.proofs.lemmas.Int.{to_z-of_z}
use Rattle.ep_history.proofs.NumberLemmas.{widened}
use Rattle.ep_history.proofs.CallTextLemmas.{wait_text}
use Rattle.ep_history.proofs.print_call.push_wait.Goals as goal

pub returns-clause-text : goal.returns-clause-text
returns-clause-text c =
    let fits : SFits w32 c.args.max = search rules in
    let long : SFits w64 c.timeout.inside.0 = search rules in
    rw (c.in_ok-push.ensures.items, c.in_ok-push_integer-2.ensures, c.in_ok-push_integer.ensures, c.in_ok-push_descriptor.ensures, widened c.args.max c.from.result fits c.from.ensures, to_z-of_z w64 c.timeout.inside.0 long, wait_text c.args.epfd c.args.max c.args.timeout, ← c.timeout.view_is) (simp append_assoc)
