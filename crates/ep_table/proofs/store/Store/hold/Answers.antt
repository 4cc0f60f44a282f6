use Rattle.std.proofs.Common.{ap, arith, refl, sym, ◌+◌, ◌∙◌}
use Rattle.ep_table.specs.Value.{Things}
use Rattle.ep_table.proofs.StoreCountsLemmas.{held_tests, holds_are, more_holds, store_stays, things_holds, used_tests}
use Rattle.ep_table.proofs.StoreLemmas.{instance_there}
use Rattle.ep_table.proofs.store.Store.hold.Goals as goal

pub invariant_of-self : goal.invariant_of-self
invariant_of-self g c =
    let d = c.index_mut-description.result.now in
    let h = used_tests c.self.inside c.args.self.now c.self.invariant c.self.view_is c.args.key c.index_mut-description.result.now c.index_mut-description.ensures.value c.requires.used ∙ sym (held_tests _ (d.holds + 1) (omega arith)) in
    store_stays c.self.inside c.args.self.now c.self.invariant c.self.view_is c.args.key c.index_mut-description.result.now c.index_mut-description.ensures.value d.names (d.holds + 1) c.self.inside.named (λ held t at. instance_there c.self.inside c.args.self.now c.self.invariant c.self.view_is c.args.key d c.index_mut-description.ensures.value c.requires.instance t at) (omega arith) (c.self.invariant.fewer c.args.key.0 d c.index_mut-description.ensures.value) h

pub returns-clause-ok : goal.returns-clause-ok
returns-clause-ok g c =
    let v = c.args.self.now in
    let d = c.index_mut-description.result.now in
    things_holds c.self.inside c.args.self.now c.self.invariant c.self.view_is c.args.key c.index_mut-description.result.now c.index_mut-description.ensures.value d.names (d.holds + 1) c.self.inside.named c.self.inside.dying refl
    ∙ (λ i. record v { holds = more_holds c.self.inside c.args.self.now c.self.invariant c.self.view_is c.args.key c.index_mut-description.result.now c.index_mut-description.ensures.value i; dying = ap (λ (w : Things). w.dying) c.self.view_is i; named = ap (λ (w : Things). w.named) c.self.view_is i })

pub returns-then-index-clause-room : goal.returns-then-index-clause-room
returns-then-index-clause-room g c = λ h.
    let d = c.index.result.now in
    let held = holds_are c.self.inside c.args.self.now c.self.invariant c.self.view_is c.args.key d c.index.ensures in
    absurd (omega (arith, h, held, c.if-index.true))
