-- Once some came and others went, exactly those that are reportable are dated.
use Rattle.std.proofs.Common.{◌≡◌, ◌==◌, ◌&&◌, ◌||◌, ◌∙◌, ◌⊎◌, ℕ, Bool, true, false, cond, IsSome, List, [], Some, ap, arith, inl, inr, nat_lt, refl, sym}
use Rattle.std.proofs.lemmas.Bool.{cases_Bool, false≢true}
use Rattle.std.proofs.lemmas.Bool.Decides.{nat_tests}
use Rattle.ep_facts.proofs.BoolFacts.{same_bools}
use Rattle.ep_facts.proofs.NatFacts.{zero_of}
use Rattle.ep_base.specs.declared.ids.DescId.{DescId}
use Rattle.ep_base.specs.declared.ids.EntryId.{EntryId}
use Rattle.ep_calls.specs.Climb.{is_nested}
use Rattle.ep_calls.specs.Parking.{ready_key}
use Rattle.ep_calls.specs.Parts.{AreCoherent, Parts}
use Rattle.ep_calls.specs.Readiness.{entry_shows, readiness}
use Rattle.ep_dates.proofs.NestLemmas.{each_below, has_ready, ready_has, shows_at_target, shows_more}
use Rattle.ep_dates.proofs.RowLemmas.{has_first, some_first}
use Rattle.ep_dates.specs.Ask.{AreSettled, Asks, shows_by, shows_over}
use Rattle.ep_dates.specs.Dates.{Dates, event_at, forgot, is_dated, is_ready}
use Rattle.ep_dates.specs.Renew.{Renews}
use Rattle.ep_dates.specs.Touched.{Touched, date_of, may_come}
use Rattle.ep_interest.specs.Registrations.{IsSound, entry_under}
use Rattle.ep_interest.specs.declared.entry.Entry.{Entry}
use Rattle.ep_machine.specs.Lists.{is_among}
use Rattle.ep_machine.specs.Watches.{is_legal}
use Rattle.ep_nest.specs.Links.{edges}
use Rattle.ep_rings.specs.KeyWalk.{entry_id as key_of}
use Rattle.ep_rings.specs.PlacedRows.{keys_at}
use Rattle.ep_table.specs.Value.{Sound as SoundTables, number_under}

module _ (n : ℕ) (p : Parts) (coherent : AreCoherent p) (tables : SoundTables p.tables) (sound : IsSound p.interest) (legal : is_legal (edges p.graph) ≡ true) (t : Touched) (a b c : Dates)
    (comes : Asks true n p (λ k. false) (forgot a) b) (came : AreSettled true p.interest (shows_over p) b [] (may_come p.interest t))
    (goes : Asks false n p (λ k. false) (forgot b) c) (settled : AreSettled false p.interest (shows_over p) c [] (λ k. true))
    (begins : (id : EntryId) (x : Entry) → entry_under p.interest id ≡ Some x → entry_shows (readiness p.tables p.clock p.interest) p.tables p.clock x ≡ true → (is_dated a x ≡ true) ⊎ (may_come p.interest t id.0 ≡ true)) where
  abbrev shown : Entry → Bool
  shown x = entry_shows (readiness p.tables p.clock p.interest) p.tables p.clock x

  abbrev ready : ℕ → Bool
  ready = ready_key p.tables p.clock p.interest

  was_ready : (i : ℕ) → is_ready c i ≡ true → is_ready b i ≡ true
  was_ready i h = elim (cases_Bool (is_ready b i)) [ inl up ↦ up | inr down ↦ absurd (false≢true (sym (goes.rises i down) ∙ h)) ]

  lists : (id : EntryId) (x : Entry) → entry_under p.interest id ≡ Some x → is_dated c x ≡ true → is_ready c x.instance.0 ≡ true
  lists id x at dated = some_first (keys_at c.rows x.instance.0) id.0 (goes.kept.listed id x at ∙ dated)

  -- what is reportable is dated
  shown_dated : (id : EntryId) (x : Entry) → entry_under p.interest id ≡ Some x → shown x ≡ true → (is_nested p.tables x ≡ true → ready x.desc.0 ≡ true → is_ready c x.desc.0 ≡ true) → is_dated c x ≡ true
  shown_dated id x at is target = elim (cases_Bool (is_dated c x)) [
    | inl dated ↦ dated
    | inr gone ↦
        let over : shows_by (shows_over p) c x ≡ true = shows_more p coherent tables sound legal (ready x.desc.0) (is_ready c x.desc.0) x target (sym (shows_at_target p coherent tables sound legal x) ∙ is) in
        let before : shows_by (shows_over p) b x ≡ true = shows_more p coherent tables sound legal (is_ready c x.desc.0) (is_ready b x.desc.0) x (λ nested h. was_ready x.desc.0 h) over in
        elim (cases_Bool (is_dated b x)) [
          | inl dated ↦ absurd (false≢true (sym (goes.turns id x at dated gone) ∙ over))
          | inr never ↦ elim (begins id x at is) [
            | inl old ↦ absurd (false≢true (sym never ∙ comes.stays id x at old))
            | inr may ↦ elim (came id x at may) [
              | inl dated ↦ absurd (false≢true (sym never ∙ dated))
              | inr rest ↦ elim rest [ inl idle ↦ absurd (false≢true (sym idle ∙ before)) | inr waits ↦ absurd (false≢true waits) ]
            ]
          ]
        ]
  ]

  forth : (id : EntryId) (x : Entry) → entry_under p.interest id ≡ Some x → shown x ≡ true → is_dated c x ≡ true
  forth = each_below p coherent tables sound legal ready (is_ready c) (λ id x. shown x ≡ true) (λ id x. is_dated c x ≡ true) (ready_has p coherent tables sound legal) shown_dated lists

  -- what is dated is reportable
  row_has : (i : DescId) → IsSome (number_under p.tables i) → is_ready c i.0 ≡ true → (id : EntryId) × (x : Entry) × (entry_under p.interest id ≡ Some x) × (x.instance.0 ≡ i.0) × (is_dated c x ≡ true)
  row_has i lives h =
      let first = has_first (keys_at c.rows i.0) h in
      let found = goes.kept.only i.0 first.0 first.1 in
      let there : is_among (keys_at c.rows found.0.instance.0) first.0 ≡ true = ap (λ (j : ℕ). is_among (keys_at c.rows j) first.0) found.2 ∙ first.1 in
      (key_of first.0, found.0, found.1, found.2, sym (goes.kept.listed (key_of first.0) found.0 found.1) ∙ there)

  dated_shown : (id : EntryId) (x : Entry) → entry_under p.interest id ≡ Some x → is_dated c x ≡ true → (is_nested p.tables x ≡ true → is_ready c x.desc.0 ≡ true → ready x.desc.0 ≡ true) → shown x ≡ true
  dated_shown id x at dated target = elim (settled id x at refl) [
    | inl gone ↦ absurd (false≢true (sym gone ∙ dated))
    | inr rest ↦ elim rest [
      | inl over ↦ shows_at_target p coherent tables sound legal x ∙ shows_more p coherent tables sound legal (is_ready c x.desc.0) (ready x.desc.0) x target over
      | inr waits ↦ absurd (false≢true waits)
    ]
  ]

  back : (id : EntryId) (x : Entry) → entry_under p.interest id ≡ Some x → is_dated c x ≡ true → shown x ≡ true
  back = each_below p coherent tables sound legal (is_ready c) ready (λ id x. is_dated c x ≡ true) (λ id x. shown x ≡ true) row_has dated_shown (has_ready p coherent tables sound legal)

  pub dated_is : (id : EntryId) (x : Entry) → entry_under p.interest id ≡ Some x → is_dated c x ≡ shown x
  dated_is id x at = same_bools (is_dated c x) (shown x) (back id x at) (forth id x at)

  -- and a row has something exactly if its instance is ready
  pub ready_is : (i : DescId) → IsSome (number_under p.tables i) → is_ready c i.0 ≡ ready i.0
  ready_is i lives = same_bools (is_ready c i.0) (ready i.0)
      (λ h. let found = row_has i lives h in ap ready (sym found.3) ∙ has_ready p coherent tables sound legal found.0 found.1 found.2 (back found.0 found.1 found.2 found.4))
      (λ h. let found = ready_has p coherent tables sound legal i lives h in ap (is_ready c) (sym found.3) ∙ lists found.0 found.1 found.2 (forth found.0 found.1 found.2 found.4))

  -- Since which event.

  some_is : (k : ℕ) → nat_lt 0 k ≡ true → (k == 0) ≡ false
  some_is k h = grind (arith, nat_tests, h)

  came_first : (id : EntryId) (x : Entry) → entry_under p.interest id ≡ Some x → is_dated c x ≡ true → is_dated b x ≡ true
  came_first id x at dated = elim (cases_Bool (is_dated b x)) [ inl up ↦ up | inr down ↦ absurd (false≢true (sym (goes.stays id x at down) ∙ dated)) ]

  kept_date : (id : EntryId) (x : Entry) → entry_under p.interest id ≡ Some x → is_dated c x ≡ true → is_dated a x ≡ true → event_at c.since x.number ≡ event_at a.since x.number
  kept_date id x at dated old = let mid = came_first id x at dated in goes.same id x at mid dated ∙ comes.same id x at old mid

  new_date : (id : EntryId) (x : Entry) → entry_under p.interest id ≡ Some x → is_dated c x ≡ true → is_dated a x ≡ false → event_at c.since x.number ≡ n
  new_date id x at dated fresh = let mid = came_first id x at dated in goes.same id x at mid dated ∙ comes.begins id x at fresh mid

  module _ (reported : List ℕ) (told : (id : EntryId) (x : Entry) → entry_under p.interest id ≡ Some x → is_among reported x.number ≡ (x.reported_in == n)) (d : Dates) (renews : Renews n p.interest reported c d) where
    pub date_is : (id : EntryId) (x : Entry) → entry_under p.interest id ≡ Some x → event_at d.since x.number ≡ date_of n (shown x) x.reported_in (event_at a.since x.number)
    date_is id x at = renews.each id x at ∙ elim (cases_Bool (is_dated c x)) [
      | inr gone ↦
          ap (λ (f : Bool). cond (f && is_among reported x.number) n (event_at c.since x.number)) gone
          ∙ (zero_of (event_at c.since x.number) gone ∙ sym (ap (λ (f : Bool). date_of n f x.reported_in (event_at a.since x.number)) (sym (dated_is id x at) ∙ gone)))
      | inl dated ↦
          let shows : shown x ≡ true = sym (dated_is id x at) ∙ dated in
          ap (λ (f : Bool). cond (f && is_among reported x.number) n (event_at c.since x.number)) dated
          ∙ (ap (λ (f : Bool). cond f n (event_at c.since x.number)) (told id x at)
          ∙ (elim (cases_Bool (is_dated a x)) [
            | inl old ↦
                ap (λ (e : ℕ). cond (x.reported_in == n) n e) (kept_date id x at dated old)
                ∙ sym (ap (λ (f : Bool). cond (f || x.reported_in == n) n (event_at a.since x.number)) (some_is (event_at a.since x.number) old))
            | inr fresh ↦
                ap (λ (e : ℕ). cond (x.reported_in == n) n e) (new_date id x at dated fresh)
                ∙ (either (x.reported_in == n) ∙ sym (ap (λ (e : ℕ). cond (e == 0 || x.reported_in == n) n e) (zero_of (event_at a.since x.number) fresh)))
          ]
          ∙ sym (ap (λ (f : Bool). date_of n f x.reported_in (event_at a.since x.number)) shows)))
    ] where
      either : (f : Bool) → cond f n n ≡ n
      either true = refl
      either false = refl
