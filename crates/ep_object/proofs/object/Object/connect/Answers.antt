use Rattle.std.proofs.Common.{ap, rules, subst, sym, ◌∙◌, ◌≡◌}
use Rattle.ep_machine.specs.Effect.{attempt}
use Rattle.ep_machine.specs.Objects.{Object, connect, connect_refusals, idle, of_socket, pair}
use Rattle.ep_machine.specs.Unconnected.{idle_connect, idle_connect_refusals}
use Rattle.ep_object.proofs.WrapLemmas.{refused_by, wrapped}
use Rattle.ep_object.proofs.object.Object.connect.Goals as goal
use Rattle.ep_object.proofs.object.Object.connect.Goals.{in-Pair, in-Idle, in-Listener, in_default}
use Rattle.ep_object.specs.Content.{content_of}

pub returns : goal.returns
returns c = elim c.match-self.branch [
  | in-Pair w ↦
      let p = w.in-Pair.field-0.value in
      let view : pair p ≡ c.args.self.now = ap content_of (sym w.in-Pair.is) ∙ c.self.view_is in
      let refusals = of_socket (pair p) (connect_refusals (pair p) c.args.space c.args.found c.args.heard) in
      let answers = refused_by (pair p) refusals (connect (pair p) c.args.found) w.unheard_or.result w.refused.result.0 w.refused.result.1 w.unheard_or.ensures w.refused.ensures.answer w.refused.ensures.raised in
      rw (w.result-is, w.self-inside-is, ← view)
      (subst (λ (x : Object). (w.refused.result.0, x, w.refused.result.1) ≡ attempt refusals (pair p) (connect (pair p) c.args.found)) (sym (ap content_of w.in-Pair.is)) answers)
  | in-Idle w ↦
      let i = w.in-Idle.idle in
      let view : idle i ≡ c.args.self.now = ap content_of (sym w.in-Idle.is) ∙ c.self.view_is in
      let made = w.connect in
      rw (w.result-is, w.self-inside-is, ← view)
      (wrapped idle i made.new.self (idle_connect i c.args.found) (idle_connect_refusals i c.args.space c.args.found c.args.heard) made.result.0 made.result.1 made.ensures)
  | in-Listener w ↦ search rules
  | in_default w ↦ search rules
]
