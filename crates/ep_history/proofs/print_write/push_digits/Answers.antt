use Rattle.std.proofs.Common.{append_assoc, arith}
use Rattle.hex.specs.Hex.{IsBytes}
use Rattle.ep_history.proofs.CallTextLemmas.{digits_text}
use Rattle.ep_history.proofs.EscapeLemmas.{escape_hex}
use Rattle.ep_history.proofs.print_write.push_digits.Goals as goal

pub returns-clause-text : goal.returns-clause-text
returns-clause-text c =
    let fits : IsBytes c.args.bytes.now = λ i. let f = c.type_inv.bytes i in omega arith in
    rw (c.in_ok-extend_from_slice.ensures.items, c.in_ok-push_hex.ensures, c.in_ok-push_descriptor.ensures, digits_text c.args.fd.0 c.args.bytes.now, escape_hex c.args.bytes.now fits) (simp append_assoc)
