use Rattle.std.proofs.Common.{◌≡◌, ◌∙◌, All, List, ap, filter, map, sym, subst, true}
use Rattle.ep_calls.proofs.GraphLemmas.{links_by_keys, links_mapped}
use Rattle.ep_calls.specs.Climb.{is_nested, link_of}
use Rattle.ep_calls.specs.Stands.{IsLinked, number_at}
use Rattle.ep_choice.proofs.KeepLemmas.{kept_has, kept_link, kept_nested}
use Rattle.ep_interest.specs.Exclusive.{kept_passing}
use Rattle.ep_interest.specs.declared.entry.Entry.{Entry}
use Rattle.ep_machine.specs.Files.{object_of}
use Rattle.ep_view.specs.AtRest.{can_be_watched}
use Rattle.ep_choice.proofs.narrowing.keep.Goals as goal

pub invariant_of-parts : goal.invariant_of-parts
invariant_of-parts c =
    let k = c.parts.inside in
    let h = c.parts.invariant in
    let old = k.interest in
    let new = c.keep_passing.new.self in
    let e = c.keep_passing.ensures in
    let d = c.args.target in
    let kept = c.args.chosen in
    let IsShown : Entry → Type 0 = λ x. can_be_watched (object_of k.tables.files (number_at k.tables.keys x.desc)) ≡ true in
    record {
      linked = subst (All (IsLinked k.tables.keys)) (sym e.entries) (kept_has d kept (IsLinked k.tables.keys) (λ x link. record { instance = link.instance; desc = link.desc; fd = link.fd }) old.entries h.linked);
      watched = subst (All IsShown) (sym e.entries) (kept_has d kept IsShown (λ x shown. shown) old.entries h.watched);
      nested =
          h.nested
          ∙ sym (links_by_keys old new (is_nested k.tables) new.entries e.keys
          ∙ (ap (λ (xs : List Entry). map (link_of old) (filter (is_nested k.tables) xs)) e.entries
          ∙ links_mapped old (is_nested k.tables) (kept_passing d kept) (kept_link d kept old) (kept_nested d kept k.tables) old.entries));
      placed = h.placed;
      held = h.held;
      clock = h.clock;
    }
