use Rattle.std.proofs.Common.{List, None, Option, [], ap, arith, get_or, subst, sym, ℕ, ◌<◌, ◌∷◌}
use Rattle.ep_table.specs.Counting.{numbers}
use Rattle.ep_table.specs.Value.{Things, count_at, times}
use Rattle.ep_table.specs.View.{LiveSlot}
use Rattle.ep_table.proofs.NamesLemmas.{live_at_slot, one_fewer, rest_fewer}
use Rattle.ep_table.proofs.names.add_names.Goals as goal

pub add_name-requires-clause-live : goal.add_name-requires-clause-live
add_name-requires-clause-live g c =
    let keys = ap (λ (v : Things). v.keys) c.loop-slot.invariant.0.same in
    let t = c.args.slots.now in
    let i = c.loop-slot.slot-index in
    subst (λ (ks : List (Option ℕ)). LiveSlot ks (get_or t i None)) (sym keys) (live_at_slot c.args.store.now.keys t i None (omega (arith, c.loop-slot-test.true)) c.requires.live)

pub add_name-requires-clause-named : goal.add_name-requires-clause-named
add_name-requires-clause-named g c = λ d h.
    let old = c.args.store.now in
    let t = c.args.slots.now in
    let i = c.loop-slot.slot-index in
    let keys = ap (λ (v : Things). v.keys) c.loop-slot.invariant.0.same in
    let some : 0 < times d (numbers old.keys (get_or t i None ∷ [])) = subst (λ (ks : List (Option ℕ)). 0 < times d (numbers ks (get_or t i None ∷ []))) keys h in
    let was : 0 < count_at old.names d = c.requires.named d (omega (arith, some, one_fewer old.keys t i d)) in
    omega (arith, was, c.loop-slot.invariant.0.names d, rest_fewer old.keys i t d)
