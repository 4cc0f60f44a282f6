use Rattle.std.proofs.Common.{IsSome, List, Option, Some, [], ap, arith, get_or, length, refl, slice_get, subst, sym, take, unwrap_or, ℕ, ◌+◌, ◌-◌, ◌<◌, ◌∙◌, ◌≡◌}
use Rattle.ep_machine.specs.Connections.{pending_in}
use Rattle.ep_table.proofs.LettingGoLemmas.{all_taken, keyed_at, lets_nothing, next_goes, none_taken, queue_is, queue_length, queued_at}
use Rattle.ep_table.proofs.QueueLemmas.{queued_length}
use Rattle.ep_table.specs.LettingGo.{LetsGo, pending_of}
use Rattle.ep_table.specs.Stored.{AllKeyed, things}
use Rattle.ep_table.specs.Value.{Things, content_of, files_in, number_at}
use Rattle.ep_table.specs.declared.words.Dying.{Dying}
use Rattle.ep_table.specs.declared.store.Store.TheInside.{Inside}
use Rattle.ep_table.proofs.store.Store.let_go.Given.{Over}
use Rattle.ep_table.proofs.store.Store.let_go.Goals as goal

-- as many as the queue has
as_many : (g : Over) (c : goal.After-len-left g) → c.len-left.result ≡ length c.args.self.now.dying
as_many g c = omega (arith, c.len-left.ensures, c.self.inside.dying.ok, queued_length c.self.inside.dying.items, ap (λ (v : Things). length v.dying) c.self.view_is)

pub loop-left-init : goal.loop-left-init
loop-left-init g c = record {
  within = omega (arith, as_many g c);
  gone =
      let v = c.args.self.now in
      let u : Things = record v { losses = [] } in
      let after : Things = record (things c.self.inside) { losses = c.clear.new.self.items } in
      let cleared : after ≡ u = λ i. record (c.self.view_is i) { losses = c.clear.ensures.items i } in
      let none = ap (pending_of (files_in v)) (none_taken v.dying c.len-left.result (as_many g c)) in
      subst (λ (ks : List ℕ). LetsGo u after ks) (sym none) (subst (λ (w : Things). LetsGo u w []) (sym cleared) (lets_nothing u));
}

pub index-requires : goal.index-requires
index-requires g c = omega (arith, c.loop-left-test.true, c.loop-left.invariant.within, c.self-in-loop-left.inside.dying.ok, queue_length c.self-in-loop-left.inside c.args.self.now c.loop-left.self _ c.self-in-loop-left.view_is c.loop-left.invariant.gone)

-- the entry under an index of the queue
entry : {A : Type 0} (k : Inside A) (a : Things) (i : ℕ) (x : Dying) → things k ≡ a → AllKeyed (things k).keys k.dying.items → i < length k.dying.items → x ≡ get_or k.dying.items i x → number_at a.keys x.key ≡ Some x.number
entry k a i x same keyed below is = ap (λ (v : Things). number_at v.keys x.key) (sym same) ∙ keyed_at (things k).keys k.dying.items i x x below (sym is) keyed

pub let_go_at-requires : goal.let_go_at-requires
let_go_at-requires g c =
    let k = c.self-in-loop-left.inside in
    let below : c.loop-left.left - 1 < length k.dying.items = omega (arith, c.loop-left-test.true, c.loop-left.invariant.within, queue_length c.self-in-loop-left.inside c.args.self.now c.loop-left.self _ c.self-in-loop-left.view_is c.loop-left.invariant.gone) in
    subst (λ (o : Option ℕ). IsSome o) (sym (entry k c.loop-left.self (c.loop-left.left - 1) c.index.result.now c.self-in-loop-left.view_is c.self-in-loop-left.invariant.keyed below c.index.ensures)) refl

pub loop-left-preserved : goal.loop-left-preserved
loop-left-preserved g c = record {
  within = omega (arith, c.loop-left.invariant.within);
  gone =
      let v = c.args.self.now in
      let items = c.self-in-loop-left.inside.dying.items in
      let left = c.loop-left.left in
      let x = c.index.result.now in
      let below : left - 1 < length items = omega (arith, c.loop-left-test.true, c.loop-left.invariant.within, queue_length c.self-in-loop-left.inside c.args.self.now c.loop-left.self _ c.self-in-loop-left.view_is c.loop-left.invariant.gone) in
      let place : length v.dying - left ≡ length items - (left - 1 + 1) = omega (arith, c.loop-left-test.true, queue_length c.self-in-loop-left.inside c.args.self.now c.loop-left.self _ c.self-in-loop-left.view_is c.loop-left.invariant.gone) in
      let next : slice_get v.dying (length v.dying - left) ≡ Some x.number =
      ap (slice_get v.dying) place ∙ (ap (λ (ks : List ℕ). slice_get ks (length items - (left - 1 + 1))) (sym (queue_is c.self-in-loop-left.inside c.args.self.now c.loop-left.self _ c.self-in-loop-left.view_is c.loop-left.invariant.gone)) ∙ queued_at items (left - 1) x x below (sym c.index.ensures)) in
      let goes = subst (λ (o : Option ℕ). LetsGo c.loop-left.self c.let_go_at.new.self (pending_in (content_of (files_in c.loop-left.self) (unwrap_or o 0)))) (entry c.self-in-loop-left.inside c.loop-left.self (left - 1) x c.self-in-loop-left.view_is c.self-in-loop-left.invariant.keyed below c.index.ensures) c.let_go_at.ensures in
      next_goes v c.loop-left.self c.let_go_at.new.self left x.number c.loop-left-test.true c.loop-left.invariant.within next c.loop-left.invariant.gone goes;
}

pub returns : goal.returns
returns g c =
    let v = c.args.self.now in
    let none : c.loop-left.left ≡ 0 = omega (arith, c.loop-left-test.false) in
    subst (λ (ks : List ℕ). LetsGo (record v { losses = [] }) c.loop-left.self ks) (ap (pending_of (files_in v)) (ap (λ (n : ℕ). take (length v.dying - n) v.dying) none ∙ all_taken v.dying)) c.loop-left.invariant.gone
