-- What is reportable at an instance stands among its hopes, so looking along them finds it.
use Rattle.ep_calls.proofs.EntryLemmas.{holds_under}
use Rattle.std.proofs.Common.{◌≡◌, ◌<◌, ◌∙◌, ◌==◌, ◌&&◌, ◌-◌, ℕ, zero, suc, Bool, true, false, Contains, IsSome, List, None, Option, Some, ap, arith, if◌then◌else◌, inl, inr, refl, subst, sym, unwrap_or}
use Rattle.std.specs.List.{list_any}
use Rattle.std.specs.Option.{option_map}
use Rattle.std.proofs.lemmas.Bool.{cases_Bool}
use Rattle.ep_facts.proofs.NatFacts.{from_test, same_test}
use Rattle.ep_facts.proofs.BoolFacts.{both_true, same_bools}
use Rattle.ep_base.specs.declared.ids.DescId.{DescId}
use Rattle.ep_calls.proofs.KeyLemmas.{same_keys}
use Rattle.ep_calls.proofs.IsBelowLemmas.{any_both, link_there, shows_same}
use Rattle.ep_calls.specs.Climb.{is_nested}
use Rattle.ep_calls.specs.Parking.{ready_key}
use Rattle.ep_calls.specs.Parts.{AreCoherent, Parts}
use Rattle.ep_calls.specs.Readiness.{entry_shows, readiness, watches_of}
use Rattle.ep_calls.specs.Stands.{IsLinked, number_at, watch_at}
use Rattle.ep_interest.specs.Registrations.{IsSound, entry_under}
use Rattle.ep_interest.specs.declared.entry.Entry.{Entry}
use Rattle.ep_kernel.proofs.EntryLemmas.{is_under}
use Rattle.ep_kernel.proofs.ViewLemmas.{entry_views, find_entry, view_member, view_of}
use Rattle.ep_kernel.specs.Listed.{HopesFor, key_shows, shows_found}
use Rattle.ep_kernel.specs.Readiness.{EndsWithin, found_shows, nested_found}
use Rattle.ep_law.proofs.ListLemmas.{all_member, among, among_member, any_has, any_member}
use Rattle.ep_law.proofs.ReadinessLemmas.{and_same}
use Rattle.ep_law.specs.Laws.{Member}
use Rattle.ep_machine.specs.Lists.{is_among}
use Rattle.ep_machine.specs.Watches.{is_legal}
use Rattle.ep_nest.proofs.LegalityLemmas.{short_from_is_legal}
use Rattle.ep_nest.specs.Links.{edges}
use Rattle.ep_rings.specs.KeyWalk.{entry_id}
use Rattle.ep_ready.specs.ReadyLists.{IsSound as AreSoundLists, Lists, instance_at, list_at, stands_by}
use Rattle.ep_table.specs.Value.{Sound as SoundTables, number_under as desc_number}
use Rattle.ep_view.specs.KernelView.{KernelWatch, ready_now, ready_within, shows}

-- the instance that a registration watches
nested_is : (p : Parts) (x : Entry) (inner : DescId) → nested_found p (Some x) ≡ Some inner → (is_nested p.tables x ≡ true) × (x.desc ≡ inner)
nested_is p x inner h = elim (cases_Bool (is_nested p.tables x)) [
  | inl nested ↦ (
    nested,
    let one : Some x.desc ≡ Some inner = sym (ap (λ (b : Bool). if b then Some x.desc else None) nested) ∙ h in ap (λ (o : Option DescId). unwrap_or o x.desc) one,
  )
  | inr other ↦ absurd (let none : None ≡ Some inner = sym (ap (λ (b : Bool). if b then Some x.desc else None) other) ∙ h in cc)
]

-- No chain of five links leads down from an instance, so looking down through five finds what is ready.
module _ (p : Parts) (coherent : AreCoherent p) (tables : SoundTables p.tables) where
  -- something is reportable at an instance, looking down through at most so many
  abbrev ready_by : ℕ → ℕ → Bool
  ready_by levels = ready_within levels p.tables.files p.clock (watches_of p.tables p.interest)

  -- from the end of a link fewer lead down
  pub ends_down : (links : ℕ) (i d : DescId) → Contains (edges p.graph) (i.0, d.0) → EndsWithin links p i → EndsWithin (links - 1) p d
  ends_down zero i d there ends = absurd (ends i.0 refl)
  ends_down (suc n) i d there ends =
      let less : n ≡ suc n - 1 = omega arith in
      subst (λ (k : ℕ). EndsWithin k p d) less (λ y leads. ends y (d.0, there, leads))

  enough : (k : ℕ) (i : DescId) → IsSome (desc_number p.tables i) → EndsWithin k p i → ready_by k (number_at p.tables.keys i) ≡ ready_by (suc k) (number_at p.tables.keys i)
  enough zero i lives ends = absurd (ends i.0 refl)
  enough (suc k) i lives ends =
      let e = number_at p.tables.keys i in
      any_both p.tables.keys (λ w. w.instance == e && shows (ready_by k) p.tables.files p.clock w) (λ w. w.instance == e && shows (ready_by (suc k)) p.tables.files p.clock w) p.interest.entries (λ x m.
      let link = all_member (IsLinked p.tables.keys) p.interest.entries x coherent.linked m in
      and_same (number_at p.tables.keys x.instance == e) (entry_shows (ready_by k) p.tables p.clock x) (entry_shows (ready_by (suc k)) p.tables p.clock x) (λ at.
      let home : x.instance.0 ≡ i.0 = from_test x.instance.0 i.0 (sym (same_keys p.tables x.instance i tables link.instance lives) ∙ at) in
      shows_same (ready_by k) (ready_by (suc k)) p.tables p.clock x (λ nested.
      let there = subst (λ (j : ℕ). Contains (edges p.graph) (j, x.desc.0)) home (link_there p.tables p.interest p.graph coherent.nested x m nested) in
      enough k x.desc link.desc (λ y leads. ends y (x.desc.0, there, leads)))))

-- The registrations on a list, and those of its instance.
module _ (p : Parts) (l : Lists) (coherent : AreCoherent p) (tables : SoundTables p.tables) (sound : IsSound p.interest) (lists : AreSoundLists l) (hopes : HopesFor p l) where
  abbrev watches : List KernelWatch
  watches = watches_of p.tables p.interest

  abbrev ready : ℕ → Bool
  ready = readiness p.tables p.clock p.interest

  place_of : (k : ℕ) (x : Entry) → entry_under p.interest (entry_id k) ≡ Some x → instance_at l (entry_id k) ≡ Some x.instance.0
  place_of k x is = hopes.places (entry_id k) ∙ ap (option_map (λ (y : Entry). y.instance.0)) is

  -- what stands on a list is of its instance
  listed_entry : (i k : ℕ) → Member k (list_at l i) → (x : Entry) × (entry_under p.interest (entry_id k) ≡ Some x) × (x.instance.0 ≡ i)
  listed_entry i k m = by (entry_under p.interest (entry_id k)) refl where
    at : instance_at l (entry_id k) ≡ Some i
    at = lists.own i (entry_id k) (among k (list_at l i) m)

    by : (o : Option Entry) → entry_under p.interest (entry_id k) ≡ o → (x : Entry) × (entry_under p.interest (entry_id k) ≡ Some x) × (x.instance.0 ≡ i)
    by None is = let none : None ≡ Some i = sym (hopes.places (entry_id k) ∙ ap (option_map (λ (y : Entry). y.instance.0)) is) ∙ at in absurd (cc)
    by (Some x) is = let one : Some x.instance.0 ≡ Some i = sym (place_of k x is) ∙ at in (x, is, cc)

  module _ (i : DescId) (lives : IsSome (desc_number p.tables i)) where
    abbrev e : ℕ
    e = number_at p.tables.keys i

    abbrev test : KernelWatch → Bool
    test w = w.instance == e && shows ready p.tables.files p.clock w

    there : list_any (key_shows p) (list_at l i.0) ≡ true → list_any test watches ≡ true
    there t =
        let m = any_member (key_shows p) (list_at l i.0) t in
        let x = listed_entry i.0 m.0 m.1 in
        let at : (number_at p.tables.keys x.0.instance == e) ≡ true = same_test _ _ (ap (λ (j : ℕ). number_at p.tables.keys (record { 0 = j })) x.2) in
        let is = sym (ap (shows_found p) x.1) ∙ m.2 in
        any_has test watches (watch_at p.tables.keys x.0) (view_member p.tables.keys p.interest m.0 (watch_at p.tables.keys x.0) (entry_views p.tables.keys p.interest m.0 x.0 x.1)) (λ j. at j && is j)

    back : list_any test watches ≡ true → list_any (key_shows p) (list_at l i.0) ≡ true
    back t =
        let m = any_member test watches t in
        let w = both_true _ _ m.2 in
        let v = view_of p.tables.keys p.interest sound m.0 m.1 in
        let k = v.0 in
        let x = v.1.x in
        let now : key_shows p k ≡ true = ap (shows_found p) v.1.under ∙ (ap (shows ready p.tables.files p.clock) v.1.is ∙ w.1) in
        let on : is_among (list_at l x.instance.0) k ≡ true = sym (ap (stands_by l k) (place_of k x v.1.under)) ∙ hopes.complete k now in
        let number : number_at p.tables.keys x.instance ≡ e = ap (λ (u : KernelWatch). u.instance) v.1.is ∙ from_test _ _ w.0 in
        let link = (holds_under (IsLinked p.tables.keys) p.interest (entry_id k) x coherent.linked v.1.under).instance in
        let same = from_test x.instance.0 i.0 (sym (same_keys p.tables x.instance i tables link lives) ∙ same_test _ _ number) in
        any_has (key_shows p) (list_at l i.0) k (among_member (list_at l i.0) k (subst (λ (j : ℕ). is_among (list_at l j) k ≡ true) same on)) now

    -- something on the list is reportable exactly where the instance is ready
    pub listed_ready : is_legal (edges p.graph) ≡ true → list_any (key_shows p) (list_at l i.0) ≡ ready_key p.tables p.clock p.interest i.0
    unfolding ready_now
    listed_ready legal =
        same_bools _ _ there back ∙ sym (enough p coherent tables 5 i lives (λ y. short_from_is_legal (edges p.graph) legal i.0 y))

    -- from an instance that something on the list watches fewer links lead down
    pub ends_below : (links k : ℕ) (inner : DescId) → Member k (list_at l i.0) → nested_found p (entry_under p.interest (entry_id k)) ≡ Some inner → EndsWithin links p i → EndsWithin (links - 1) p inner
    ends_below links k inner m is ends =
        let x = listed_entry i.0 k m in
        let found = nested_is p x.0 inner (sym (ap (nested_found p) x.1) ∙ is) in
        let member = find_entry p.tables.keys p.interest p.interest.entries x.0.number x.0 (is_under p.interest (entry_id k) x.0 x.1).there in
        let link = subst (λ (j : ℕ). Contains (edges p.graph) (j, x.0.desc.0)) x.2 (link_there p.tables p.interest p.graph coherent.nested x.0 member found.0) in
        subst (λ (d : DescId). EndsWithin (links - 1) p d) found.1 (ends_down p coherent tables links i x.0.desc link ends)

-- a chain of no links is always there
pub some_links : (p : Parts) (i : DescId) (links : ℕ) → EndsWithin links p i → 0 < links
some_links p i zero ends = absurd (ends i.0 refl)
some_links p i (suc n) ends = omega arith

-- One registration.
abbrev pub below_found : Parts → Option DescId → Bool
below_found p None = false
below_found p (Some desc) = ready_key p.tables p.clock p.interest desc.0

-- what it shows is known from the answer of the instance that it watches
pub shows_below : (p : Parts) (below : Bool) (o : Option Entry) → below ≡ below_found p (nested_found p o) → found_shows (λ d. below) p o ≡ shows_found p o
shows_below p below None h = refl
shows_below p below (Some x) h =
    shows_same (λ d. below) (readiness p.tables p.clock p.interest) p.tables p.clock x (λ nested. h ∙ ap (λ (b : Bool). below_found p (if b then Some x.desc else None)) nested)
