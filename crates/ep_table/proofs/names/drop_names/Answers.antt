use Rattle.std.proofs.Common.{List, ℕ, Option, arith, ap, subst, sym}
use Rattle.ep_table.specs.View.{LiveSlot}
use Rattle.ep_table.specs.Value.{Things}
use Rattle.ep_table.specs.declared.words.Descriptor.{Descriptor}
use Rattle.ep_table.proofs.NamesLemmas.{live_at_slot, live_closing}
use Rattle.ep_table.proofs.names.drop_names.Goals as goal

pub drop_name-requires-clause-live : goal.drop_name-requires-clause-live
drop_name-requires-clause-live g c =
    let keys = ap (λ (v : Things). v.keys) c.loop-slot.invariant.same in
    let live = live_closing c.args.store.now.keys c.args.every _ (live_at_slot c.args.store.now.keys c.args.slots.now c.loop-slot.slot-index _ (omega (arith, c.loop-slot-test.true)) c.requires.live) in
    subst (λ (ks : List (Option ℕ)). LiveSlot ks c.closed.result) (sym keys) (subst (λ (o : Option Descriptor). LiveSlot c.args.store.now.keys o) (sym c.closed.ensures) live)
