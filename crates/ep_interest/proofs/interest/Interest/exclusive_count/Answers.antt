use Rattle.std.proofs.Common.{List, ap, arith, length, sym, ◌∙◌, ◌≡◌}
use Rattle.ep_base.specs.declared.ids.EntryId.{EntryId}
use Rattle.ep_interest.specs.declared.entry.Entry.{Entry}
use Rattle.ep_interest.specs.Exclusive.{exclusive_of}
use Rattle.ep_interest.proofs.StopLemmas.{counts_none, counts_one, few_exclusive}
use Rattle.ep_interest.proofs.interest.Interest.exclusive_count.Goals as goal

pub overflow_add-counted : goal.overflow_add-counted
overflow_add-counted g c =
    let one = counts_one c.loop-entry.entry-iterator c.next.new.self (c.in-Some.field-0-0, c.in-Some.entry.now) c.in-Some.ensures.steps (sym c.is_exclusive.ensures ∙ c.if-is_exclusive.true) in
    let all = c.loop-entry.invariant in
    let few = few_exclusive c.args.self.now c.args.instance in
    let most = c.count-most.ensures in
    omega (arith, one, all, few, most, c.count-most.type_inv)

pub loop-entry-init : goal.loop-entry-init
loop-entry-init g c = let all = ap (λ (xs : List (EntryId × Entry)). length (exclusive_of xs)) (c.into_iter-entry-iterator.ensures.into_iter_gives ∙ c.entries-entry-items.ensures.exact) in omega (arith, all)

pub loop-entry-preserved-then-is_exclusive : goal.loop-entry-preserved-then-is_exclusive
loop-entry-preserved-then-is_exclusive g c =
    let one = counts_one c.loop-entry.entry-iterator c.next.new.self (c.in-Some.field-0-0, c.in-Some.entry.now) c.in-Some.ensures.steps (sym c.is_exclusive.ensures ∙ c.if-is_exclusive.true) in
    let all = c.loop-entry.invariant in
    omega (arith, one, all)

pub loop-entry-preserved : goal.loop-entry-preserved
loop-entry-preserved g c =
    let none = counts_none c.loop-entry.entry-iterator c.next.new.self (c.in-Some.field-0-0, c.in-Some.entry.now) c.in-Some.ensures.steps (sym c.is_exclusive.ensures ∙ c.if-is_exclusive.false) in
    let all = c.loop-entry.invariant in
    omega (arith, none, all)

pub returns : goal.returns
returns g c =
    let none : length (exclusive_of c.loop-entry.entry-iterator) ≡ 0 = ap (λ (xs : List (EntryId × Entry)). length (exclusive_of xs)) c.in-None.ensures.steps.0 in
    let all = c.loop-entry.invariant in
    omega (arith, none, all)
