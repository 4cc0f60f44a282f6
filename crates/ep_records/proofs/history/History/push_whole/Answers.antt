use Rattle.std.proofs.Common.{rules, ◌≡◌, ◌∙◌, ◌∷◌, ◌++◌, [], List, ap, length, map}
use Rattle.ep_base.specs.declared.record.Record.{Record}
use Rattle.ep_records.specs.Slot.{unpacked}
use Rattle.ep_records.proofs.KeptLemmas.{grown_by_long, last_long, slot_added, whole_is, whole_within, within_added}
use Rattle.ep_records.proofs.history.History.push_whole.Goals as goal

pub invariant_of-self : goal.invariant_of-self
invariant_of-self c =
    let b = c.self.inside.beside in
    let new = c.push_long-place.new.self in
    let at : c.whole.result.x ≡ length b.long = search rules in
    let last = last_long b new c.args.one c.whole.result.x c.push_long-place.ensures.lists at in
    let within = within_added b new _ _ _ (grown_by_long b new _ c.push_long-place.ensures.lists) c.push_reserved.ensures.items
    (whole_within new c.whole.result c.whole.ensures.what last.0) c.self.invariant.0 in
    (within, c.self.invariant.1, c.self.invariant.2)

pub returns-clause-items : goal.returns-clause-items
returns-clause-items c =
    let b = c.self.inside.beside in
    let new = c.push_long-place.new.self in
    let at : c.whole.result.x ≡ length b.long = search rules in
    let last = last_long b new c.args.one c.whole.result.x c.push_long-place.ensures.lists at in
    let before : map (unpacked b) c.self.inside.slots.items ≡ c.args.self.now.items = search rules in
    slot_added b new _ _ _ _ (grown_by_long b new _ c.push_long-place.ensures.lists) c.push_reserved.ensures.items
    (whole_is new c.whole.result c.whole.ensures.what ∙ last.1) c.self.invariant.0
    ∙ ap (λ (rs : List Record). rs ++ c.args.one ∷ []) before
