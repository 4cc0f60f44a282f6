-- If no instance watches another, no registration is on an instance: what turned has nothing more to ask.
use Rattle.std.proofs.Common.{◌≡◌, ◌∙◌, [], ℕ, Bool, List, Some, ap, drop, inl, inr, sym, take, true}
use Rattle.std.proofs.lemmas.List.{take-append-drop}
use Rattle.std.proofs.lemmas.Bool.{false≢true}
use Rattle.ep_facts.proofs.BoolFacts.{or_right}
use Rattle.ep_facts.proofs.AmongFacts.{among_append}
use Rattle.ep_base.specs.declared.ids.EntryId.{EntryId}
use Rattle.ep_calls.proofs.EntryLemmas.{member_of}
use Rattle.ep_calls.specs.Climb.{AreNested}
use Rattle.ep_calls.specs.Parts.{Parts}
use Rattle.ep_climb.proofs.LinkLemmas.{is_on_none}
use Rattle.ep_dates.specs.Ask.{AreInstances, AreSettled, AreWatched, shows_over}
use Rattle.ep_dates.specs.Dates.{Dates}
use Rattle.ep_interest.specs.Registrations.{entry_under}
use Rattle.ep_interest.specs.declared.entry.Entry.{Entry}
use Rattle.ep_machine.specs.Lists.{is_among}

drop_among : (i : ℕ) (xs : List ℕ) (k : ℕ) → is_among (drop i xs) k ≡ true → is_among xs k ≡ true
drop_among i xs k h = ap (λ (l : List ℕ). is_among l k) (sym (take-append-drop i xs)) ∙ (among_append (take i xs) (drop i xs) k ∙ or_right (is_among (take i xs) k) (is_among (drop i xs) k) h)

module _ (p : Parts) (flat : AreNested p.tables p.interest []) (d : Dates) (instances : AreInstances p d.turned.reached) where
  none_on : (id : EntryId) (x : Entry) → entry_under p.interest id ≡ Some x → is_among d.turned.reached x.desc.0 ≡ true → ⊥
  none_on id x at h = false≢true (sym (is_on_none p.tables p.interest flat x (member_of p.interest id x at)) ∙ instances x.desc.0 h)

  pub flat_settled : (way : Bool) (from : ℕ) (asked : ℕ → Bool) → AreSettled way p.interest (shows_over p) d (drop from d.turned.reached) asked
      → AreSettled way p.interest (shows_over p) d [] asked
  flat_settled way from asked h id x at t = elim (h id x at t) [
    | inl is ↦ inl is
    | inr rest ↦ elim rest [
      | inl shown ↦ inr (inl shown)
      | inr pending ↦ absurd (none_on id x at (drop_among from d.turned.reached x.desc.0 pending))
    ]
  ]

  pub flat_watched : (way : Bool) → AreWatched way p d d.turned.reached
  flat_watched way id x at h = absurd (none_on id x at h)
