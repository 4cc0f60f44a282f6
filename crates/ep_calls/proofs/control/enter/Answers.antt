use Rattle.std.proofs.Common.{◌≡◌, ◌∙◌, ◌++◌, ◌∷◌, [], All, cond, rules, sym, subst}
use Rattle.ep_interest.specs.declared.entry.Entry.{Entry}
use Rattle.ep_calls.specs.Climb.{is_nested, is_nested_key}
use Rattle.ep_calls.specs.Control.{next_entry, next_link}
use Rattle.ep_calls.proofs.LinkLemmas.{IsNamed, links_added, links_are_named}
use Rattle.ep_calls.proofs.control.enter.Goals as goal

pub add-requires-clause-named : goal.add-requires-clause-named
add-requires-clause-named c =
    let r = c.args.interest.now in
    subst (All (IsNamed r)) (sym (c.may_watch.ensures.stays ∙ c.requires.nested)) (links_are_named r (is_nested c.args.tables.now) c.known.ensures)

pub returns-clause-nested : goal.returns-clause-nested
returns-clause-nested c =
    let old = c.args.interest.now in
    let new = c.add.new.interest in
    let tables = c.args.tables.now in
    let named = c.args.plan.named in
    let is : is_nested_key tables named.desc ≡ c.is_instance-is_nested.result = search rules in
    let x : Entry = next_entry old named c.args.args in
    c.in_ok-add.ensures.linked
    ∙ ((λ i. (c.may_watch.ensures.stays ∙ c.requires.nested) i ++ cond (sym is i) (next_link old named ∷ []) [])
    ∙ links_added (is_nested tables) old new c.known.ensures c.known-2.ensures (record { 0 = old.next }) x c.in_ok-add.ensures.keys c.in_ok-add.ensures.entries)
