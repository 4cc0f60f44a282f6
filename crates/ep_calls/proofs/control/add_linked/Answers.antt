use Rattle.std.proofs.Common.{◌∙◌, ap}
use Rattle.ep_nest.specs.Links.{without}
use Rattle.ep_nest.specs.declared.link.Link.{Link}
use Rattle.ep_calls.proofs.LinkLemmas.{fresh_link, unlinked}
use Rattle.ep_calls.proofs.control.add_linked.Goals as goal

pub link-requires-clause-fresh : goal.link-requires-clause-fresh
link-requires-clause-fresh c = fresh_link c.args.interest.now c.next_key-key.result c.next_key-key.ensures.vacant c.args.graph.now c.requires.named

pub returns-in-Err-clause-err : goal.returns-in-Err-clause-err
returns-in-Err-clause-err c =
    let graph = c.args.graph.now in
    let key = c.next_key-key.result in
    let l : Link = record { outer = c.args.named.instance; inner = c.args.named.desc; entry = key } in
    let fresh = fresh_link c.args.interest.now key c.next_key-key.ensures.vacant graph c.requires.named in
    (c.in-Err.ensures.err, c.unlink.ensures ∙ (ap (without key.0) c.in_ok-link.ensures.linked ∙ unlinked graph l fresh))
