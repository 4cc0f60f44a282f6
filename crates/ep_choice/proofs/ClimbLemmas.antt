-- What is reached from the instance of a registration.
use Rattle.std.proofs.Common.{◌≡◌, ◌∙◌, true, false, Some, ap, refl, sym}
use Rattle.std.specs.List.{list_any}
use Rattle.ep_base.specs.declared.ids.EntryId.{EntryId}
use Rattle.ep_calls.proofs.EntryLemmas.{holds_under}
use Rattle.ep_calls.specs.Climb.{is_nested_key}
use Rattle.ep_calls.specs.Parts.{AreCoherent, Parts}
use Rattle.ep_calls.specs.Readiness.{readiness}
use Rattle.ep_calls.specs.Stands.{IsLinked, watch_at}
use Rattle.ep_choice.proofs.AboveLemmas.{finds_walk}
use Rattle.ep_choice.specs.Choose.{HaveInstances, awaited_key, finds_key, finds_under}
use Rattle.ep_climb.specs.Reach.{Ascends, open_edges}
use Rattle.ep_interest.specs.Registrations.{IsSound, entry_under}
use Rattle.ep_interest.specs.declared.entry.Entry.{Entry}
use Rattle.ep_machine.specs.Watches.{is_legal}
use Rattle.ep_nest.specs.Links.{edges}
use Rattle.ep_walk.specs.Walk.{Walk}
use Rattle.ep_table.specs.Value.{Sound}

module _ (p : Parts) (coherent : AreCoherent p) (tables : Sound p.tables) (sound : IsSound p.interest) (legal : is_legal (edges p.graph) ≡ true) (instances : HaveInstances p)
    (id : EntryId) (x : Entry) (under : entry_under p.interest id ≡ Some x) (old new : Walk) (a : Ascends (open_edges p.interest p.graph) x.instance.0 old new) where
  link : IsLinked p.tables.keys x
  link = holds_under (IsLinked p.tables.keys) p.interest id x coherent.linked under

  holds : is_nested_key p.tables x.instance ≡ true
  holds = holds_under (λ y. is_nested_key p.tables y.instance ≡ true) p.interest id x instances under

  pub climb_exact : list_any (awaited_key p.tables p.clock p.interest p.parked) old.reached ≡ false
      → list_any (awaited_key p.tables p.clock p.interest p.parked) new.reached ≡ finds_key p.tables p.clock p.interest p.parked id.0
  climb_exact vain =
      finds_walk p.tables tables p.interest sound coherent.linked p.graph coherent.nested legal x.instance.0 link.instance holds (readiness p.tables p.clock p.interest) p.parked coherent.placed
      old.reached new.reached vain a.exact (watch_at p.tables.keys x) refl
      ∙ sym (ap (finds_under p.tables p.clock p.interest p.parked) under)
