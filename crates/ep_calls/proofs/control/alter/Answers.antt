use Rattle.std.proofs.Common.{◌∙◌, ap, filter, map, sym, unwrap_or}
use Rattle.ep_interest.specs.Registrations.{number_under}
use Rattle.ep_nest.specs.Links.{without}
use Rattle.ep_calls.specs.Climb.{is_nested, link_of}
use Rattle.ep_calls.proofs.LinkLemmas.{links_modified, links_removed}
use Rattle.ep_calls.proofs.GraphLemmas.{links_by_keys}
use Rattle.ep_calls.proofs.control.alter.Goals as goal

pub returns-in-Delete-clause-nested : goal.returns-in-Delete-clause-nested
returns-in-Delete-clause-nested c = λ tables nested.
    let r = c.args.interest.now in
    c.unlink.ensures
    ∙ (ap (without c.args.id.0) nested
    ∙ links_removed (is_nested tables) r c.known.ensures c.args.id c.requires.there c.remove.new.self c.known-in-Delete.ensures c.remove.ensures.entries c.remove.ensures.keys)

pub returns-else-is_exclusive-clause-nested : goal.returns-else-is_exclusive-clause-nested
returns-else-is_exclusive-clause-nested c = λ tables nested.
    let r = c.args.interest.now in
    nested
    ∙ (sym (links_modified r tables (unwrap_or (number_under r c.args.id) 0) c.args.args.mask c.args.args.tag r.entries)
    ∙ (ap (λ xs. map (link_of r) (filter (is_nested tables) xs)) (sym c.modify.ensures.entries)
    ∙ sym (links_by_keys r c.modify.new.self (is_nested tables) c.modify.new.self.entries c.modify.ensures.keys)))
