use Rattle.std.proofs.Common.{ap, rules, sym, ◌∙◌, ◌≡◌}
use Rattle.ep_machine.specs.Bits.{nothing}
use Rattle.ep_machine.specs.Objects.{idle, pair}
use Rattle.ep_machine.specs.Sockets.{pair_peek, pair_read_refusals}
use Rattle.ep_machine.specs.Unconnected.{idle_read, idle_read_refusals}
use Rattle.ep_object.proofs.WrapLemmas.{at_any_moment, ok_wrapped, wrapped}
use Rattle.ep_object.proofs.object.Object.peek.Goals as goal
use Rattle.ep_object.proofs.object.Object.peek.Goals.{in-Pair, in-Idle, in-Listener, in_default}
use Rattle.ep_object.specs.Content.{content_of}

pub returns-clause-ok : goal.returns-clause-ok
returns-clause-ok c = elim c.match-self.branch [
  | in-Pair w ↦
      let p = w.deref_mut.result.now in
      let view : pair p ≡ c.args.self.now = ap pair w.deref_mut.ensures.value ∙ ap content_of (sym w.in-Pair.is) ∙ c.self.view_is in
      let made = w.peek in
      rw (w.result-is, w.self-inside-is, ← view)
      (at_any_moment _ made.result (ok_wrapped pair p made.new.self (pair_peek p c.args.end c.args.n) (pair_read_refusals p c.args.end c.args.n) made.result made.ensures.ok))
  | in-Idle w ↦
      let i = w.in-Idle.idle in
      let view : idle i ≡ c.args.self.now = ap content_of (sym w.in-Idle.is) ∙ c.self.view_is in
      let made = w.read in
      rw (w.result-is, w.self-inside-is, ← view)
      (λ now. wrapped idle i made.new.self (idle_read i c.args.n) (idle_read_refusals i c.args.n) made.result nothing made.ensures)
  | in-Listener w ↦ search rules
  | in_default w ↦ search rules
]
