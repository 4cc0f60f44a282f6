use Rattle.std.proofs.Common.{arith, length, vec_len, ◌-◌, ◌≤◌}
use Rattle.ep_names.proofs.MarkLemmas.{marks_resized}
use Rattle.ep_names.proofs.blocks.make_marks.Goals as goal

pub returns-in_ok-resize-clause-same : goal.returns-in_ok-resize-clause-same
returns-in_ok-resize-clause-same g c =
    let v = c.args.marks.now in
    let few : length v.items ≤ 221 = omega (arith, v.ok.0, c.len.ensures) in
    marks_resized v.items c.resize.new.self.items 221 (221 - vec_len v) few c.in_ok-resize.ensures.items
