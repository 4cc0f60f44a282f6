use Rattle.std.proofs.Common.{Some, [], ap, rules, subst, sym, true, ◌++◌, ◌∙◌, ◌∷◌, ◌≡◌}
use Rattle.ep_base.specs.declared.errno.Errno.TheVariants.{Einval}
use Rattle.ep_base.specs.declared.socket.Family.{Family}
use Rattle.ep_machine.specs.Bits.{nothing}
use Rattle.ep_machine.specs.Effect.{first}
use Rattle.ep_machine.specs.Objects.{bind, bind_refusals, idle, listener, of_socket, pair}
use Rattle.ep_machine.specs.Sockets.{SocketPair}
use Rattle.ep_machine.specs.Unconnected.{family_refusals, idle_bind, idle_bind_refusals}
use Rattle.ep_object.proofs.WrapLemmas.{refused_by, wrapped}
use Rattle.ep_object.proofs.object.Object.bind.Goals as goal
use Rattle.ep_object.proofs.object.Object.bind.Goals.{in-Pair, in-Idle, in-Listener, in_default}
use Rattle.ep_object.specs.Content.{content_of}

pub returns : goal.returns
returns c = elim c.match-self.branch [
  | in-Pair w ↦
      let p = w.in-Pair.pair.value in
      let view : pair p ≡ c.args.self.now = ap content_of (sym w.in-Pair.is) ∙ c.self.view_is in
      let errno = w.misfit_or.result in
      let refusal = subst (λ (f : Family). first (family_refusals f c.args.space ++ (true, Einval) ∷ []) ≡ Some errno) (w.family.ensures ∙ ap (λ (q : SocketPair). q.family) w.deref.ensures) w.misfit_or.ensures in
      rw (w.result-is, w.self-inside-is, ← view)
      (refused_by (pair p) (of_socket (pair p) (bind_refusals (pair p) c.args.space c.args.found)) (bind (pair p) c.args.found) errno w.refused.result.0 w.refused.result.1 refusal w.refused.ensures.answer w.refused.ensures.raised)
  | in-Idle w ↦
      let i = w.in-Idle.idle in
      let view : idle i ≡ c.args.self.now = ap content_of (sym w.in-Idle.is) ∙ c.self.view_is in
      let made = w.bind in
      rw (w.result-is, w.self-inside-is, ← view)
      (wrapped idle i made.new.self (idle_bind i c.args.found) (idle_bind_refusals i c.args.space c.args.found) made.result nothing made.ensures)
  | in-Listener w ↦
      let l = w.in-Listener.listener in
      let view : listener l ≡ c.args.self.now = ap content_of (sym w.in-Listener.is) ∙ c.self.view_is in
      let answers =
      refused_by (listener l) (of_socket (listener l) (bind_refusals (listener l) c.args.space c.args.found)) (bind (listener l) c.args.found) w.refuses_bind.result w.refused-in-Listener.result.0 w.refused-in-Listener.result.1 w.refuses_bind.ensures w.refused-in-Listener.ensures.answer w.refused-in-Listener.ensures.raised in
      rw (w.result-is, w.self-inside-is, ← view) answers
  | in_default w ↦ search rules
]
