use Rattle.std.proofs.Common.{ap, rules, sym, ◌∙◌, ◌≡◌}
use Rattle.ep_machine.specs.Objects.{pair}
use Rattle.ep_machine.specs.Sockets.{pair_shut_refusals, pair_shutdown}
use Rattle.ep_object.proofs.WrapLemmas.{wrapped}
use Rattle.ep_object.proofs.object.Object.shutdown.Goals as goal
use Rattle.ep_object.proofs.object.Object.shutdown.Goals.{in-Pair, in-Idle, in_default}
use Rattle.ep_object.specs.Content.{content_of}

pub returns : goal.returns
returns c = elim c.match-self.branch [
  | in-Pair w ↦
      let p = w.deref_mut.result.now in
      let view : pair p ≡ c.args.self.now = ap pair w.deref_mut.ensures.value ∙ ap content_of (sym w.in-Pair.is) ∙ c.self.view_is in
      let made = w.shutdown in
      rw (w.result-is, w.self-inside-is, ← view)
      (wrapped pair p made.new.self (pair_shutdown p c.args.end c.args.how) (pair_shut_refusals p c.args.end) made.result.0 made.result.1 made.ensures)
  | in-Idle w ↦ search rules
  | in_default w ↦ search rules
]
