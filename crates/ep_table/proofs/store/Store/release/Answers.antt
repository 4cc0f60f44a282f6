use Rattle.std.proofs.Common.{ap, arith, refl, sym, ◌-◌, ◌<◌, ◌∙◌}
use Rattle.ep_table.specs.Stored.{queued}
use Rattle.ep_table.specs.Value.{Things}
use Rattle.ep_table.proofs.StoreCountsLemmas.{still_instances, has_room, held_tests, less_holds, holds_are, store_goes, store_stays, things_holds}
use Rattle.ep_table.proofs.store.Store.release.Goals as goal

pub overflow_sub-description : goal.overflow_sub-description
overflow_sub-description g c = omega (arith, c.requires.held, holds_are c.self.inside c.args.self.now c.self.invariant c.self.view_is c.args.key c.index_mut-description.result.now c.index_mut-description.ensures.value)

pub push_reserved-requires : goal.push_reserved-requires
push_reserved-requires g c =
    let d = c.index_mut-description.result.now in
    let pos : 0 < d.holds = omega (arith, c.requires.held, holds_are c.self.inside c.args.self.now c.self.invariant c.self.view_is c.args.key c.index_mut-description.result.now c.index_mut-description.ensures.value) in
    omega (arith, c.self.inside.dying.ok, has_room c.self.inside c.args.self.now c.self.invariant c.self.view_is c.args.key c.index_mut-description.result.now c.index_mut-description.ensures.value (d.names) (d.holds - 1) c.self.inside.named (held_tests _ d.holds pos) (sym c.is_unused.ensures ∙ c.if-is_unused.true))

pub invariant_of-self : goal.invariant_of-self
invariant_of-self g c =
    let d = c.index_mut-description.result.now in
    let pos : 0 < d.holds = omega (arith, c.requires.held, holds_are c.self.inside c.args.self.now c.self.invariant c.self.view_is c.args.key c.index_mut-description.result.now c.index_mut-description.ensures.value) in
    store_goes c.self.inside c.args.self.now c.self.invariant c.self.view_is c.args.key c.index_mut-description.result.now c.index_mut-description.ensures.value (d.names) (d.holds - 1) c.self.inside.named c.push_reserved.new.self c.push_reserved.ensures.items c.push_reserved.ensures.capacity (still_instances c.self.inside c.args.self.now c.self.invariant c.self.view_is c.args.key c.index_mut-description.result.now c.index_mut-description.ensures.value (d.names) (d.holds - 1) c.self.inside.named (λ h. omega (arith, h))) (omega arith) (omega (arith, c.self.invariant.fewer c.args.key.0 d c.index_mut-description.ensures.value))
    (held_tests _ d.holds pos) (sym c.is_unused.ensures ∙ c.if-is_unused.true)

pub invariant_of-self-else-is_unused : goal.invariant_of-self-else-is_unused
invariant_of-self-else-is_unused g c =
    let d = c.index_mut-description.result.now in
    let pos : 0 < d.holds = omega (arith, c.requires.held, holds_are c.self.inside c.args.self.now c.self.invariant c.self.view_is c.args.key c.index_mut-description.result.now c.index_mut-description.ensures.value) in
    store_stays c.self.inside c.args.self.now c.self.invariant c.self.view_is c.args.key c.index_mut-description.result.now c.index_mut-description.ensures.value (d.names) (d.holds - 1) c.self.inside.named (still_instances c.self.inside c.args.self.now c.self.invariant c.self.view_is c.args.key c.index_mut-description.result.now c.index_mut-description.ensures.value (d.names) (d.holds - 1) c.self.inside.named (λ h. omega (arith, h))) (omega arith) (omega (arith, c.self.invariant.fewer c.args.key.0 d c.index_mut-description.ensures.value))
    (held_tests _ d.holds pos ∙ sym (sym c.is_unused.ensures ∙ c.if-is_unused.false))

pub returns-then-is_unused : goal.returns-then-is_unused
returns-then-is_unused g c =
    let v = c.args.self.now in
    let d = c.index_mut-description.result.now in
    things_holds c.self.inside c.args.self.now c.self.invariant c.self.view_is c.args.key c.index_mut-description.result.now c.index_mut-description.ensures.value (d.names) (d.holds - 1) c.self.inside.named c.push_reserved.new.self refl
    ∙ (λ i. record v { holds = less_holds c.self.inside c.args.self.now c.self.invariant c.self.view_is c.args.key c.index_mut-description.result.now c.index_mut-description.ensures.value i; dying = queued c.push_reserved.new.self.items; named = ap (λ (w : Things). w.named) c.self.view_is i })

pub returns-else-is_unused : goal.returns-else-is_unused
returns-else-is_unused g c =
    let v = c.args.self.now in
    let d = c.index_mut-description.result.now in
    things_holds c.self.inside c.args.self.now c.self.invariant c.self.view_is c.args.key c.index_mut-description.result.now c.index_mut-description.ensures.value (d.names) (d.holds - 1) c.self.inside.named c.self.inside.dying refl
    ∙ (λ i. record v { holds = less_holds c.self.inside c.args.self.now c.self.invariant c.self.view_is c.args.key c.index_mut-description.result.now c.index_mut-description.ensures.value i; dying = queued c.self.inside.dying.items; named = ap (λ (w : Things). w.named) c.self.view_is i })
