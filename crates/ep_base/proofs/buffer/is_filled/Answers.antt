use Rattle.std.proofs.Common.{arith}
use Rattle.ep_base.proofs.BufferLemmas.{each_byte, one_byte, tells_filled}
use Rattle.ep_base.proofs.buffer.is_filled.Goals as goal

pub returns-then-list-count : goal.returns-then-list-count
returns-then-list-count c =
    let list = c.args.list.now in
    let count = c.args.count in
    let byte = c.args.byte in
    tells_filled list count byte c.are_all.result
    (λ yes. one_byte list count byte (omega (arith, c.if-list-count.true)) (c.are_all.ensures.0 yes))
    (λ e. c.are_all.ensures.1 (each_byte list count byte e))
