use Rattle.std.proofs.Common.{append_assoc, arith, replicate}
use Rattle.std.proofs.lemmas.List.{get_or-replicate, length-replicate}
use Rattle.ep_history.proofs.CallTextLemmas.{run_text}
use Rattle.ep_history.proofs.print_write.push_run.Goals as goal

pub returns-clause-text : goal.returns-clause-text
returns-clause-text c =
    let count = c.args.count in
    let byte = c.args.byte in
    rw (
      c.in_ok-extend_from_slice.ensures.items,
      c.in_ok-push_natural-2.ensures,
      c.in_ok-push_natural.ensures,
      c.in_ok-push_descriptor.ensures,
      run_text c.args.fd.0 (replicate count byte),
      get_or-replicate count 0 byte 0 (omega (arith, c.requires)),
      length-replicate count byte,
      c.from.ensures,
    )
    (simp append_assoc)
