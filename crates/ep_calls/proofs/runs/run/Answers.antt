use Rattle.std.proofs.Common.{suc, ◌≡◌, List, [], ◌∷◌, ◌++◌, length, arith, append_assoc, append-nil, sym, ◌∙◌, ap, subst, refl}
use Rattle.std.proofs.lemmas.List.{nil_from_length}
use Rattle.ep_base.specs.declared.answer.Answer.{Answer}
use Rattle.ep_base.specs.declared.call.Event.{Event}
use Rattle.ep_base.specs.declared.ids.CallerId.{CallerId}
use Rattle.ep_base.specs.Limits.{Limits}
use Rattle.ep_calls.specs.Acts.{Acts, Answers}
use Rattle.ep_calls.proofs.runs.run.Goals as goal

pub loop-caller-init : goal.loop-caller-init
loop-caller-init g c = let h = c.into_iter-caller-iterator.ensures.into_iter_gives in record {
  room = omega (arith, h.1, c.in_ok-answers.ensures.exact, c.in_ok-answers.ensures.len, c.len.ensures);
  left = ap length h.0 ∙ (sym c.args.events.ok.0 ∙ sym h.1);
  bounds = refl;
  told = λ rs t then told.
      let Q : List Answer → List (CallerId × Event) → Type 0 = λ xs es. Answers (g.K.Kernel.bounds c.args.kernel.now) es xs (g.K.Kernel.state c.args.kernel.now) t (g.K.Kernel.past c.args.kernel.now) then in
      subst (λ (xs : List Answer). Q (xs ++ rs) c.args.events.items) (sym c.in_ok-answers.ensures.items) (subst (Q rs) h.0 told);
}

pub push_reserved-requires : goal.push_reserved-requires
push_reserved-requires g c = omega (arith, c.in-Some.ensures.steps.1, c.loop-caller.invariant.room)

pub loop-caller-preserved : goal.loop-caller-preserved
loop-caller-preserved g c =
    let k = g.K.Kernel in
    let h = c.in-Some.ensures.steps in
    let e : suc (length c.next.new.self.rest.items) ≡ length c.loop-caller.caller-iterator.rest.items = sym (ap length h.0) in
    let acts = subst (λ (l : Limits). Acts l c.in-Some.caller c.in-Some.event c.step.result (k.state c.loop-caller.kernel) (k.state c.step.new.self) (k.past c.loop-caller.kernel) (k.past c.step.new.self)) c.loop-caller.invariant.bounds c.step.ensures.acts in
    record {
      room = omega (arith, h.1, c.loop-caller.invariant.room, c.push_reserved.ensures.len, c.push_reserved.ensures.capacity);
      left = omega (arith, e, h.1, c.loop-caller.invariant.left);
      bounds = c.step.ensures.limits ∙ c.loop-caller.invariant.bounds;
      told = λ rs t then told.
          let P : List (CallerId × Event) → Type 0 = λ es. Answers (k.bounds c.args.kernel.now) es (c.step.result ∷ rs) (k.state c.loop-caller.kernel) t (k.past c.loop-caller.kernel) then in
          let all = c.loop-caller.invariant.told (c.step.result ∷ rs) t then (subst P (sym h.0) (k.state c.step.new.self, k.past c.step.new.self, acts, told)) in
          let Q : List Answer → Type 0 = λ xs. Answers (k.bounds c.args.kernel.now) c.args.events.items xs (k.state c.args.kernel.now) t (k.past c.args.kernel.now) then in
          subst Q (ap (λ (xs : List Answer). xs ++ rs) (sym c.push_reserved.ensures.items)) (subst Q (sym (append_assoc c.loop-caller.answers.items (c.step.result ∷ []) rs)) all);
    }

pub returns-clause-ok : goal.returns-clause-ok
returns-clause-ok g c =
    let k = g.K.Kernel in
    let none : c.loop-caller.caller-iterator.rest.items ≡ [] = nil_from_length _ (c.loop-caller.invariant.left ∙ c.in-None.ensures.steps.0) in
    let P : List (CallerId × Event) → Type 0 = λ es. Answers (k.bounds c.args.kernel.now) es [] (k.state c.loop-caller.kernel) (k.state c.loop-caller.kernel) (k.past c.loop-caller.kernel) (k.past c.loop-caller.kernel) in
    let Q : List Answer → Type 0 = λ xs. Answers (k.bounds c.args.kernel.now) c.args.events.items xs (k.state c.args.kernel.now) (k.state c.loop-caller.kernel) (k.past c.args.kernel.now) (k.past c.loop-caller.kernel) in
    subst Q (append-nil c.loop-caller.answers.items) (c.loop-caller.invariant.told [] _ _ (subst P (sym none) (record { state = refl; history = refl })))
