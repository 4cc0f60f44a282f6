use Rattle.std.proofs.Common.{List, None, Option, ap, arith, replicate, sym, vec_len, ◌++◌, ◌+◌, ◌-◌, ◌∙◌}
use Rattle.ep_table.specs.declared.words.Descriptor.{Descriptor}
use Rattle.ep_table.proofs.PutLemmas.{grown_more, grown_within, take_long}
use Rattle.ep_table.proofs.table.grow_to.Goals as goal

pub returns-in_ok-resize-clause-ok : goal.returns-in_ok-resize-clause-ok
returns-in_ok-resize-clause-ok g c =
    let o = c.args.slots.now.ok in
    c.in_ok-resize.ensures.items
    ∙ ap (λ (r : List (Option Descriptor)). r ++ replicate (c.args.number + 1 - vec_len c.args.slots.now) None) (take_long c.args.slots.now.items (c.args.number + 1) (omega (arith, o, c.if-len-number.true, c.len.ensures)))
    ∙ grown_more c.args.slots.now.items c.args.number _ (omega (arith, o)) (omega (arith, o, c.if-len-number.true, c.len.ensures))

pub returns-else-len-number-clause-ok : goal.returns-else-len-number-clause-ok
returns-else-len-number-clause-ok g c =
    let o = c.args.slots.now.ok in
    sym (grown_within c.args.slots.now.items c.args.number (omega (arith, o, c.if-len-number.false, c.len.ensures)))
