use Rattle.std.proofs.Common.{append_assoc}
use Rattle.ep_history.proofs.RecordTextLemmas.{tick_text}
use Rattle.ep_history.proofs.print.push_tick.Goals as goal

pub returns-clause-text : goal.returns-clause-text
returns-clause-text c =
    rw (c.in_ok-push.ensures.items, c.in_ok-push_natural.ensures, tick_text c.args.n, ← c.n.view_is) (simp append_assoc)
