use Rattle.std.proofs.Common.{◌∙◌, All, List, ap, filter, map, refl, subst, sym}
use Rattle.ep_calls.proofs.GraphLemmas.{links_by_keys, links_mapped}
use Rattle.ep_calls.proofs.PartsLemmas.{watched_by}
use Rattle.ep_calls.specs.Climb.{is_nested, link_of}
use Rattle.ep_calls.specs.Stands.{IsLinked, watch_at}
use Rattle.ep_interest.specs.Registrations.{settled}
use Rattle.ep_interest.specs.declared.entry.Entry.{Entry}
use Rattle.ep_calls.proofs.ClimbLemmas.{linked_settled, settled_watch, settled_watches}
use Rattle.ep_calls.proofs.parts.Parts.forget_passed.Goals as goal

pub invariant_of-self : goal.invariant_of-self
invariant_of-self c =
    let k = c.self.inside in
    let h = c.self.invariant in
    let old = k.interest in
    let new = c.settle.new.self in
    let e = c.settle.ensures in
    record {
      linked = subst (All (IsLinked k.tables.keys)) (sym e.entries) (linked_settled k.tables.keys old.entries h.linked);
      watched = watched_by k.tables old.entries new.entries settled_watch (λ w. refl) (ap (map (watch_at k.tables.keys)) e.entries ∙ settled_watches k.tables.keys old.entries) h.watched;
      nested =
          h.nested
          ∙ sym (links_by_keys old new (is_nested k.tables) new.entries e.keys
          ∙ (ap (λ (xs : List Entry). map (link_of old) (filter (is_nested k.tables) xs)) e.entries
          ∙ links_mapped old (is_nested k.tables) settled (λ x. refl) (λ x. refl) old.entries));
      placed = h.placed;
      held = h.held;
      clock = h.clock;
    }
