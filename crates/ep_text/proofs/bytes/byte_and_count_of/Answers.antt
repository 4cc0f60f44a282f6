use Rattle.std.proofs.Common.{arith}
use Rattle.ep_text.proofs.ReadLemmas.{repeated-other}
use Rattle.ep_text.proofs.bytes.byte_and_count_of.Goals as goal

pub returns-then-len-ne2 : goal.returns-then-len-ne2
returns-then-len-ne2 c = repeated-other c.args.items.now.items (λ e. omega (arith, c.args.items.now.ok.0))
