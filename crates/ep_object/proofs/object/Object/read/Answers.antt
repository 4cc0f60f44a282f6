use Rattle.std.proofs.Common.{ap, rules, sym, ◌∙◌, ◌≡◌}
use Rattle.ep_machine.specs.Bits.{nothing}
use Rattle.ep_machine.specs.Objects.{idle, pair, pipe}
use Rattle.ep_machine.specs.Pipe.{pipe_read, pipe_read_refusals}
use Rattle.ep_machine.specs.Sockets.{pair_read, pair_read_refusals}
use Rattle.ep_machine.specs.Unconnected.{idle_read, idle_read_refusals}
use Rattle.ep_object.proofs.WrapLemmas.{ok_wrapped, wrapped}
use Rattle.ep_object.proofs.object.Object.read.Goals as goal
use Rattle.ep_object.proofs.object.Object.read.Goals.{in-Plain, in-Pipe, in-Pair, in-Idle, in-Listener, in-Counter, in-Timer, in-Instance}
use Rattle.ep_object.specs.Content.{content_of}

pub returns-clause-ok : goal.returns-clause-ok
returns-clause-ok c = elim c.match-self.branch [
  | in-Plain w ↦ search rules
  | in-Pipe w ↦
      let p = w.in-Pipe.pipe in
      let view : pipe p ≡ c.args.self.now = ap content_of (sym w.in-Pipe.is) ∙ c.self.view_is in
      let made = w.read in
      rw (w.result-is, w.self-inside-is, ← view)
      (ok_wrapped pipe p made.new.self (pipe_read p c.args.n) (pipe_read_refusals p c.args.end c.args.n) made.result made.ensures.ok)
  | in-Pair w ↦
      let p = w.deref_mut.result.now in
      let view : pair p ≡ c.args.self.now = ap pair w.deref_mut.ensures.value ∙ ap content_of (sym w.in-Pair.is) ∙ c.self.view_is in
      let made = w.read-in-Pair in
      rw (w.result-is, w.self-inside-is, ← view)
      (ok_wrapped pair p made.new.self (pair_read p c.args.end c.args.n) (pair_read_refusals p c.args.end c.args.n) made.result made.ensures.ok)
  | in-Idle w ↦
      let i = w.in-Idle.idle in
      let view : idle i ≡ c.args.self.now = ap content_of (sym w.in-Idle.is) ∙ c.self.view_is in
      let made = w.read-in-Idle in
      rw (w.result-is, w.self-inside-is, ← view)
      (wrapped idle i made.new.self (idle_read i c.args.n) (idle_read_refusals i c.args.n) made.result nothing made.ensures)
  | in-Listener w ↦ search rules
  | in-Counter w ↦ search rules
  | in-Timer w ↦ search rules
  | in-Instance w ↦ search rules
]
