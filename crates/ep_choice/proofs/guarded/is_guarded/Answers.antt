use Rattle.std.proofs.Common.{◌≡◌, ◌∙◌, ap, false, nat_lt, subst, sym, true}
use Rattle.ep_calls.proofs.GraphLemmas.{Lives}
use Rattle.ep_calls.specs.Parts.{Parts}
use Rattle.ep_choice.proofs.GuardedLemmas.{guard_beneath, none_guarded, own_guard}
use Rattle.ep_choice.specs.Choose.{HaveInstances}
use Rattle.ep_choice.specs.Guarded.{guarded_key}
use Rattle.ep_table.specs.Value.{Sound}
use Rattle.ep_choice.proofs.guarded.is_guarded.Goals as goal

pub returns-then-guards-eq0-clause-exact : goal.returns-then-guards-eq0-clause-exact
returns-then-guards-eq0-clause-exact c =
    let k = c.parts.inside in
    let tables = subst (λ (q : Parts). Sound q.tables) (sym c.parts.view_is) c.known.ensures.sound in
    let instances = subst HaveInstances (sym c.parts.view_is) c.requires.instances in
    let lives = subst (λ (q : Parts). Lives q.tables c.args.instance.0) (sym c.parts.view_is) c.requires.live in
    subst (λ (q : Parts). false ≡ guarded_key q.tables q.interest c.args.instance.0) c.parts.view_is
    (sym (none_guarded k.tables tables k.interest c.parts.invariant.linked k.graph c.parts.invariant.nested c.known-3.ensures.legal instances c.args.instance.0 lives
    (ap (nat_lt 0) (sym c.guards.ensures ∙ c.if-guards-eq0.true))))

pub returns-then-has_exclusive-clause-exact : goal.returns-then-has_exclusive-clause-exact
returns-then-has_exclusive-clause-exact c =
    let k = c.parts.inside in
    let tables = subst (λ (q : Parts). Sound q.tables) (sym c.parts.view_is) c.known.ensures.sound in
    let instances = subst HaveInstances (sym c.parts.view_is) c.requires.instances in
    subst (λ (q : Parts). true ≡ guarded_key q.tables q.interest c.args.instance.0) c.parts.view_is
    (sym (own_guard k.tables tables k.interest c.parts.invariant.linked k.graph c.parts.invariant.nested c.known-3.ensures.legal instances c.args.instance
    (sym c.has_exclusive.ensures ∙ c.if-has_exclusive.true)))

pub returns-clause-exact : goal.returns-clause-exact
returns-clause-exact c =
    let k = c.parts.inside in
    let tables = subst (λ (q : Parts). Sound q.tables) (sym c.parts.view_is) c.known.ensures.sound in
    let instances = subst HaveInstances (sym c.parts.view_is) c.requires.instances in
    let lives = subst (λ (q : Parts). Lives q.tables c.args.instance.0) (sym c.parts.view_is) c.requires.live in
    subst (λ (q : Parts). c.is_any_exclusive.result ≡ guarded_key q.tables q.interest c.args.instance.0) c.parts.view_is
    (c.is_any_exclusive.ensures
    ∙ guard_beneath k.tables tables k.interest c.parts.invariant.linked k.graph c.parts.invariant.nested c.known-3.ensures.legal instances c.args.instance lives c.beneath.result.now c.beneath.ensures.exact
    (sym c.has_exclusive.ensures ∙ c.if-has_exclusive.false))
