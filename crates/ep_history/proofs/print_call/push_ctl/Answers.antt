use Rattle.std.proofs.Common.{SFits, codes, decimal, rules, w32}
use Rattle.serde_json.specs.Written.{compact_text}
use Rattle.ep_history.specs.Fields.{integer}
use Rattle.ep_history.proofs.NumberLemmas.{widened}
use Rattle.ep_history.proofs.CallTextLemmas.{ctl_text, five_joined}
use Rattle.ep_history.proofs.print_call.push_ctl.Goals as goal

pub returns-clause-text : goal.returns-clause-text
returns-clause-text c =
    let fits : SFits w32 c.args.op = search rules in
    let x = c.args in
    rw (c.in_ok-extend_from_slice.ensures.items, c.in_ok-push_natural-2.ensures, c.in_ok-push_descriptor-2.ensures, c.in_ok-push_descriptor.ensures, c.in_ok-push_natural.ensures, c.in_ok-push_integer.ensures)
    (rw (widened c.args.op c.from.result fits c.from.ensures, c.from-2.ensures, ctl_text c.args.epfd c.args.op c.args.fd c.args.mask c.args.tag) (
    five_joined x.out.now.items (codes "{\"act\":") (compact_text (integer x.op)) (codes ",\"data\":") (decimal x.tag) (codes ",\"ep\":") (compact_text (integer x.epfd.0)) (codes ",\"fd\":") (compact_text (integer x.fd.0))
    (codes ",\"mask\":") (decimal x.mask.0) (codes ",\"op\":\"ctl\"}")
    ))
