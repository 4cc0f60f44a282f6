use Rattle.std.proofs.Common.{ap, arith, refl, sym, ◌+◌, ◌<◌, ◌∙◌}
use Rattle.ep_table.specs.Value.{Things}
use Rattle.ep_table.proofs.StoreCountsLemmas.{still_instances, more_names, named_tests, names_are, store_stays, things_names}
use Rattle.ep_table.proofs.store.Store.add_name.Goals as goal

pub overflow_add-description : goal.overflow_add-description
overflow_add-description g c = omega (arith, c.self.invariant.fewer c.args.key.0 c.index_mut-description.result.now c.index_mut-description.ensures.value, c.requires.fits, ap (λ (v : Things). v.named) c.self.view_is)

pub overflow_add-self : goal.overflow_add-self
overflow_add-self g c = omega (arith, c.requires.fits, ap (λ (v : Things). v.named) c.self.view_is)

pub invariant_of-self : goal.invariant_of-self
invariant_of-self g c =
    let d = c.index_mut-description.result.now in
    let pos : 0 < d.names = omega (arith, c.requires.named, names_are c.self.inside c.args.self.now c.self.invariant c.self.view_is c.args.key c.index_mut-description.result.now c.index_mut-description.ensures.value) in
    let h = named_tests d.names _ pos ∙ sym (named_tests (d.names + 1) _ (omega arith)) in
    store_stays c.self.inside c.args.self.now c.self.invariant c.self.view_is c.args.key c.index_mut-description.result.now c.index_mut-description.ensures.value (d.names + 1) d.holds (c.self.inside.named + 1) (still_instances c.self.inside c.args.self.now c.self.invariant c.self.view_is c.args.key c.index_mut-description.result.now c.index_mut-description.ensures.value (d.names + 1) d.holds (c.self.inside.named + 1) (λ h. h)) (omega arith) (omega (arith, c.self.invariant.fewer c.args.key.0 d c.index_mut-description.ensures.value)) h

pub returns : goal.returns
returns g c =
    let v = c.args.self.now in
    let d = c.index_mut-description.result.now in
    things_names c.self.inside c.args.self.now c.self.invariant c.self.view_is c.args.key c.index_mut-description.result.now c.index_mut-description.ensures.value (d.names + 1) d.holds (c.self.inside.named + 1) c.self.inside.dying refl
    ∙ (λ i. record v { names = more_names c.self.inside c.args.self.now c.self.invariant c.self.view_is c.args.key c.index_mut-description.result.now c.index_mut-description.ensures.value i; dying = ap (λ (w : Things). w.dying) c.self.view_is i; named = ap (λ (w : Things). w.named + 1) c.self.view_is i })
