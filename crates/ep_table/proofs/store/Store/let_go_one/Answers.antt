use Rattle.std.proofs.Common.{List, Option, ap, arith, length, refl, sym, ◌∙◌}
use Rattle.ep_base.specs.declared.object.End.TheVariants.{Second}
use Rattle.ep_base.specs.declared.object.Raised.{Raised}
use Rattle.ep_machine.specs.Objects.{is_waiting}
use Rattle.ep_table.proofs.LetGoLemmas.{at}
use Rattle.ep_table.proofs.LettingLemmas.{lets_none_go, lets_told, lets_untold, none_waits, one_fewer, store_lets}
use Rattle.ep_table.specs.Closing.{other_slot, raised_slot}
use Rattle.ep_table.specs.Value.{Things}
use Rattle.ep_table.specs.declared.words.Loss.{Loss}
use Rattle.ep_table.specs.declared.words.Shared.{Shared}
use Rattle.ep_table.proofs.store.Store.let_go_one.Goals as goal

pub returns-in_default : goal.returns-in_default
returns-in_default g c =
    let k = c.self.inside in
    let rests = none_waits k.waiting k.objects.slots k.made c.self.invariant.objects c.self.invariant.connected c.args.number c.in_default.ensures.none in
    lets_none_go c.args.self.now c.args.number (ap (λ (v : Things). is_waiting (at v.objects c.args.number)) (sym c.self.view_is) ∙ rests)

pub invariant_of-self : goal.invariant_of-self
invariant_of-self g c =
    let k = c.self.inside in
    let fewer = one_fewer _ c.in-Some.at _ _ c.in-Some.ensures.kept c.remove.ensures.fewer in
    store_lets k c.args.self.now c.self.invariant c.self.view_is c.in-Some.at c.args.number c.in-Some.ensures.waits c.in-Some.ensures.kept c.close-first.new.objects c.remove.new.self c.push_reserved.new.self
    c.close-first.ensures.slots c.remove.ensures.left (omega (arith, c.self.invariant.loss_room, fewer, c.push_reserved.ensures.capacity, ap (λ (xs : List Loss). length xs) c.push_reserved.ensures.items))

pub invariant_of-self-in_default-first : goal.invariant_of-self-in_default-first
invariant_of-self-in_default-first g c =
    let k = c.self.inside in
    let fewer = one_fewer _ c.in-Some.at _ _ c.in-Some.ensures.kept c.remove.ensures.fewer in
    store_lets k c.args.self.now c.self.invariant c.self.view_is c.in-Some.at c.args.number c.in-Some.ensures.waits c.in-Some.ensures.kept c.close-first.new.objects c.remove.new.self k.losses
    c.close-first.ensures.slots c.remove.ensures.left (omega (arith, c.self.invariant.loss_room, fewer))

pub returns-in-Some-first : goal.returns-in-Some-first
returns-in-Some-first g c =
    let k = c.self.inside in
    let w = c.in-Some.ensures.waits in
    let first = sym (c.close-first.ensures.other ∙ ap (λ (o : Option Shared). other_slot o Second) w.is) ∙ c.in-Some-first.is in
    let raised = c.close-first.ensures.raised ∙ ap (λ (o : Option Shared). raised_slot o Second) w.is in
    lets_told k c.args.self.now c.self.invariant c.self.view_is c.in-Some.at c.args.number w c.in-Some.ensures.kept c.close-first.new.objects c.remove.new.self c.push_reserved.new.self
    c.close-first.ensures.slots c.remove.ensures.left c.in-Some-first.desc _ first (ap (λ (r : Raised). record { desc = c.in-Some-first.desc; raised = r.first }) raised) c.push_reserved.ensures.items

pub returns-in_default-first : goal.returns-in_default-first
returns-in_default-first g c =
    let k = c.self.inside in
    let w = c.in-Some.ensures.waits in
    let first = sym (c.close-first.ensures.other ∙ ap (λ (o : Option Shared). other_slot o Second) w.is) ∙ c.in_default-first.is in
    lets_untold k c.args.self.now c.self.invariant c.self.view_is c.in-Some.at c.args.number w c.in-Some.ensures.kept c.close-first.new.objects c.remove.new.self k.losses
    c.close-first.ensures.slots c.remove.ensures.left first refl
