-- Down through nested instances: what holds of the registrations of each if it holds of those below.
use Rattle.std.proofs.Common.{◌≡◌, ◌==◌, ◌&&◌, ◌∙◌, ℕ, zero, suc, Bool, true, false, Contains, IsSome, List, Some, ap, inl, inr, refl, rules, subst, sym}
use Rattle.std.specs.List.{list_any}
use Rattle.std.proofs.lemmas.Bool.{cases_Bool, false≢true}
use Rattle.ep_facts.proofs.NatFacts.{from_test, same_test}
use Rattle.ep_facts.proofs.BoolFacts.{both_true}
use Rattle.ep_base.specs.declared.ids.DescId.{DescId}
use Rattle.ep_base.specs.declared.ids.EntryId.{EntryId}
use Rattle.ep_calls.proofs.EntryLemmas.{holds_under, key_of, member_of}
use Rattle.ep_calls.proofs.IsBelowLemmas.{any_both, link_there, shows_same}
use Rattle.ep_calls.proofs.KeyLemmas.{same_keys}
use Rattle.ep_calls.specs.Climb.{is_nested}
use Rattle.ep_calls.specs.Parking.{ready_key}
use Rattle.ep_calls.specs.Parts.{AreCoherent, Parts}
use Rattle.ep_calls.specs.Readiness.{entry_shows, readiness, watches_of}
use Rattle.ep_calls.specs.Stands.{IsLinked, number_at, watch_at}
use Rattle.ep_dates.proofs.AskLemmas.{shows_rises}
use Rattle.ep_dates.specs.Ask.{shows_over}
use Rattle.ep_interest.specs.Registrations.{IsSound, entry_under}
use Rattle.ep_interest.specs.declared.entry.Entry.{Entry}
use Rattle.ep_law.proofs.GraphLemmas.{member_of_map}
use Rattle.ep_law.proofs.ListLemmas.{all_member, any_has, any_member, member_map}
use Rattle.ep_law.proofs.ReadinessLemmas.{and_same}
use Rattle.ep_machine.specs.Watches.{is_legal}
use Rattle.ep_nest.proofs.LegalityLemmas.{short_from_is_legal}
use Rattle.ep_nest.specs.Chains.{LeadsBy}
use Rattle.ep_nest.specs.Links.{edges}
use Rattle.ep_table.specs.Value.{Sound as SoundTables, number_under}
use Rattle.ep_view.specs.KernelView.{KernelWatch, ready_now, ready_within, shows}

module _ (p : Parts) (coherent : AreCoherent p) (tables : SoundTables p.tables) (sound : IsSound p.interest) (legal : is_legal (edges p.graph) ≡ true) where
  abbrev ready : ℕ → Bool
  ready = readiness p.tables p.clock p.interest

  abbrev watches : List KernelWatch
  watches = watches_of p.tables p.interest

  abbrev ready_by : ℕ → ℕ → Bool
  ready_by levels = ready_within levels p.tables.files p.clock watches

  -- no chain of so many links leads down from an instance
  abbrev Ends : ℕ → ℕ → Type 0
  Ends links i = (y : ℕ) → ¬ LeadsBy (edges p.graph) links i y

  ends_down : (links i d : ℕ) → Contains (edges p.graph) (i, d) → Ends (suc links) i → Ends links d
  ends_down links i d there ends y leads = ends y (d, there, leads)

  -- the link of a registration on an instance
  link : (id : EntryId) (x : Entry) → entry_under p.interest id ≡ Some x → is_nested p.tables x ≡ true → Contains (edges p.graph) (x.instance.0, x.desc.0)
  link id x at nested = link_there p.tables p.interest p.graph coherent.nested x (member_of p.interest id x at) nested

  linked : (id : EntryId) (x : Entry) → entry_under p.interest id ≡ Some x → IsLinked p.tables.keys x
  linked id x at = holds_under (IsLinked p.tables.keys) p.interest id x coherent.linked at

  enough : (k : ℕ) (i : DescId) → IsSome (number_under p.tables i) → Ends k i.0 → ready_by k (number_at p.tables.keys i) ≡ ready_by (suc k) (number_at p.tables.keys i)
  enough zero i lives ends = absurd (ends i.0 refl)
  enough (suc k) i lives ends =
      let e = number_at p.tables.keys i in
      any_both p.tables.keys (λ w. w.instance == e && shows (ready_by k) p.tables.files p.clock w) (λ w. w.instance == e && shows (ready_by (suc k)) p.tables.files p.clock w) p.interest.entries (λ x m.
      let own = all_member (IsLinked p.tables.keys) p.interest.entries x coherent.linked m in
      and_same (number_at p.tables.keys x.instance == e) (entry_shows (ready_by k) p.tables p.clock x) (entry_shows (ready_by (suc k)) p.tables p.clock x) (λ at.
      let home : x.instance.0 ≡ i.0 = from_test x.instance.0 i.0 (sym (same_keys p.tables x.instance i tables own.instance lives) ∙ at) in
      shows_same (ready_by k) (ready_by (suc k)) p.tables p.clock x (λ nested.
      let there = subst (λ (j : ℕ). Contains (edges p.graph) (j, x.desc.0)) home (link_there p.tables p.interest p.graph coherent.nested x m nested) in
      enough k x.desc own.desc (ends_down k i.0 x.desc.0 there ends))))

  module _ (i : DescId) (lives : IsSome (number_under p.tables i)) where
    abbrev e : ℕ
    e = number_at p.tables.keys i

    abbrev test : KernelWatch → Bool
    test w = w.instance == e && shows ready p.tables.files p.clock w

    one_level : ready_key p.tables p.clock p.interest i.0 ≡ list_any test watches
    unfolding ready_now
    one_level = enough 5 i lives (λ y. short_from_is_legal (edges p.graph) legal i.0 y)

    -- a ready instance has a registration that is reportable
    pub ready_has : ready_key p.tables p.clock p.interest i.0 ≡ true → (id : EntryId) × (x : Entry) × (entry_under p.interest id ≡ Some x) × (x.instance.0 ≡ i.0) × (entry_shows ready p.tables p.clock x ≡ true)
    ready_has t =
        let m = any_member test watches (sym one_level ∙ t) in
        let w = both_true _ _ m.2 in
        let found = member_of_map (watch_at p.tables.keys) p.interest.entries m.0 m.1 in
        let x = found.0 in
        let key = key_of p.interest sound x found.1 in
        let number : number_at p.tables.keys x.instance ≡ e = ap (λ (u : KernelWatch). u.instance) found.2 ∙ from_test _ _ w.0 in
        let home = from_test x.instance.0 i.0 (sym (same_keys p.tables x.instance i tables (linked key.0 x key.1).instance lives) ∙ same_test _ _ number) in
        (key.0, x, key.1, home, ap (shows ready p.tables.files p.clock) found.2 ∙ w.1)

  -- and one that has such a registration is ready
  pub has_ready : (id : EntryId) (x : Entry) → entry_under p.interest id ≡ Some x → entry_shows ready p.tables p.clock x ≡ true → ready_key p.tables p.clock p.interest x.instance.0 ≡ true
  has_ready id x at shown =
      let same : (number_at p.tables.keys x.instance == e x.instance (linked id x at).instance) ≡ true = search rules in
      one_level x.instance (linked id x at).instance
      ∙ any_has (test x.instance (linked id x at).instance) watches (watch_at p.tables.keys x) (member_map (watch_at p.tables.keys) x p.interest.entries (member_of p.interest id x at)) (λ j. same j && shown j)

  -- what a registration shows, as what it watches says
  pub shows_at_target : (x : Entry) → entry_shows ready p.tables p.clock x ≡ shows_over p (ready_key p.tables p.clock p.interest x.desc.0) x
  shows_at_target x = shows_same ready (λ k. ready_key p.tables p.clock p.interest x.desc.0) p.tables p.clock x (λ nested. refl)

  not_nested : (x : Entry) (a b : Bool) → is_nested p.tables x ≡ false → shows_over p a x ≡ shows_over p b x
  not_nested x a b other = shows_same (λ k. a) (λ k. b) p.tables p.clock x (λ nested. absurd (false≢true (sym other ∙ nested)))

  -- it shows no less over more
  pub shows_more : (a b : Bool) (x : Entry) → (is_nested p.tables x ≡ true → a ≡ true → b ≡ true) → shows_over p a x ≡ true → shows_over p b x ≡ true
  shows_more false true x more h = shows_rises p x h
  shows_more false false x more h = h
  shows_more true true x more h = h
  shows_more true false x more h = elim (cases_Bool (is_nested p.tables x)) [
    | inl nested ↦ absurd (false≢true (more nested refl))
    | inr other ↦ not_nested x false true other ∙ h
  ]

  -- If whatever has an instance (f) has a registration with F, which makes G of it where its instance below has g, too,
  -- and G gives its instance g, then each with F has G.
  module _ (f g : ℕ → Bool) (F G : EntryId → Entry → Type 0)
      (down : (i : DescId) → IsSome (number_under p.tables i) → f i.0 ≡ true → (id : EntryId) × (x : Entry) × (entry_under p.interest id ≡ Some x) × (x.instance.0 ≡ i.0) × F id x)
      (step : (id : EntryId) (x : Entry) → entry_under p.interest id ≡ Some x → F id x → (is_nested p.tables x ≡ true → f x.desc.0 ≡ true → g x.desc.0 ≡ true) → G id x)
      (up : (id : EntryId) (x : Entry) → entry_under p.interest id ≡ Some x → G id x → g x.instance.0 ≡ true) where
    below : (links : ℕ) (i : DescId) → IsSome (number_under p.tables i) → Ends links i.0 → f i.0 ≡ true → g i.0 ≡ true
    below zero i lives ends h = absurd (ends i.0 refl)
    below (suc links) i lives ends h =
        let (id, x, at, home, has) = down i lives h in
        let good = step id x at has (λ nested t.
        below links x.desc (linked id x at).desc (ends_down links i.0 x.desc.0 (subst (λ (j : ℕ). Contains (edges p.graph) (j, x.desc.0)) home (link id x at nested)) ends) t) in
        ap g (sym home) ∙ up id x at good

    pub each_below : (id : EntryId) (x : Entry) → entry_under p.interest id ≡ Some x → F id x → G id x
    each_below id x at has = step id x at has (λ nested t. below 5 x.desc (linked id x at).desc (λ y. short_from_is_legal (edges p.graph) legal x.desc.0 y) t)
