use Rattle.std.proofs.Common.{ap, rules, sym, ◌∙◌, ◌≡◌}
use Rattle.ep_machine.specs.Objects.{pair}
use Rattle.ep_machine.specs.Sockets.{pair_write, pair_write_refusals}
use Rattle.ep_object.proofs.WrapLemmas.{wrapped}
use Rattle.ep_object.proofs.object.Object.write.Goals as goal
use Rattle.ep_object.proofs.object.Object.write.Goals.{in-Plain, in-Pipe, in-Pair, in-Idle, in-Listener, in-Counter, in-Timer}
use Rattle.ep_object.specs.Content.{content_of}

pub returns : goal.returns
returns c = elim c.match-self.branch [
  | in-Plain w ↦ search rules
  | in-Pipe w ↦ search rules
  | in-Pair w ↦
      let p = w.deref_mut.result.now in
      let view : pair p ≡ c.args.self.now = ap pair w.deref_mut.ensures.value ∙ ap content_of (sym w.in-Pair.is) ∙ c.self.view_is in
      let made = w.write-in-Pair in
      rw (w.result-is, w.self-inside-is, ← view)
      (wrapped pair p made.new.self (pair_write p c.args.end c.args.bytes.now) (pair_write_refusals p c.args.end c.args.bytes.now) made.result.0 made.result.1 made.ensures)
  | in-Idle w ↦ search rules
  | in-Listener w ↦ search rules
  | in-Counter w ↦ search rules
  | in-Timer w ↦ search rules
]
