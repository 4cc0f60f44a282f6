-- What an event leaves of dates, and that each registration that is reportable at its end has one, or may have come to be so.
use Rattle.std.proofs.Common.{◌≡◌, ◌∙◌, ◌+◌, ◌&&◌, ◌||◌, ◌⊎◌, ℕ, All, Bool, IsSome, List, Option, Some, ap, inl, inr, length, map, nat_lt, subst, sym, true}
use Rattle.ep_facts.proofs.NatFacts.{same_nat}
use Rattle.ep_facts.proofs.BoolFacts.{or_left, or_right, second_of_and}
use Rattle.ep_base.specs.declared.call.Event.{Event}
use Rattle.ep_base.specs.declared.ids.CallerId.{CallerId}
use Rattle.ep_base.specs.declared.ids.DescId.{DescId}
use Rattle.ep_base.specs.declared.ids.EntryId.{EntryId}
use Rattle.ep_base.specs.declared.record.Record.{Record}
use Rattle.ep_calls.proofs.CauseLemmas.{causes}
use Rattle.ep_calls.proofs.EndLemmas.{linked_risen}
use Rattle.ep_calls.proofs.EntryLemmas.{holds_under, member_of}
use Rattle.ep_calls.proofs.KeepsLemmas.{DoesAt}
use Rattle.ep_calls.specs.Causes.{WasAltered, WasReportable, is_above}
use Rattle.ep_calls.specs.Climb.{is_nested, is_reached_key}
use Rattle.ep_calls.specs.Keeps.{Keeps}
use Rattle.ep_calls.specs.Parts.{Parts}
use Rattle.ep_calls.specs.Readiness.{entry_shows, readiness}
use Rattle.ep_calls.specs.Stands.{IsLinked, KeepsKeys, number_at, watch_at}
use Rattle.ep_calls.specs.declared.outcome.Outcome.{Outcome}
use Rattle.ep_dates.specs.Dates.{event_at, is_dated}
use Rattle.ep_dates.specs.Touched.{is_it, is_on_any, may_come, watches_any}
use Rattle.ep_interest.specs.Passes.{passes_on}
use Rattle.ep_interest.specs.Registrations.{entry_under}
use Rattle.ep_interest.specs.declared.entry.Entry.{Entry}
use Rattle.ep_law.proofs.ListLemmas.{all_member}
use Rattle.ep_law.specs.Laws.{ReportablesAreSpread}
use Rattle.ep_machine.specs.Bits.{IN, asked}
use Rattle.ep_machine.specs.Lists.{is_among}
use Rattle.ep_machine.specs.Readiness.{is_reportable}
use Rattle.ep_machine.specs.State.{State}
use Rattle.ep_machine.specs.Step.{next_event}
use Rattle.ep_plain.proofs.NamedLemmas.{done_altered, is_named}
use Rattle.ep_plain.proofs.ReportedLemmas.{was_then}
use Rattle.ep_plain.proofs.SinceLemmas.{begun_dated}
use Rattle.ep_plain.specs.Dating.{touched_in}
use Rattle.ep_plain.specs.Exact.{Follows}
use Rattle.ep_plain.specs.Since.{IsDated}
use Rattle.ep_plain.specs.Spread.{SpreadsTo}
use Rattle.ep_plain.specs.declared.dating.Dating.{Dating}
use Rattle.ep_table.specs.Value.{Seen, Sound as SoundTables, number_under as desc_number}
use Rattle.ep_view.specs.KernelView.{reached_now}

-- What is left has the dates that it had.
module _ (n : ℕ) (event : Event) (outcome : Outcome) (old mid left : Parts) (d e f : Dating) (follows : Follows n event outcome.answer outcome.picked old d mid e) (spread : SpreadsTo n outcome.raising mid e left f) where
  pub date_left : (id : EntryId) (x : Entry) → entry_under left.interest id ≡ Some x → event_at f.dates.since x.number ≡ event_at d.dates.since x.number
  date_left id x up =
      let w = was_then n outcome.raising mid left spread.spreads id x up in
      spread.loses.stays id x up ∙ (ap (event_at e.dates.since) (sym w.number) ∙ (follows.loses.stays id w.was w.under ∙ ap (event_at d.dates.since) w.number))

  tables_left : left.tables ≡ spread.spreads.buried.tables
  tables_left = ap (λ (p : Parts). p.tables) spread.spreads.others

  pub keys_left : KeepsKeys left.tables mid.tables
  keys_left = subst (λ (q : Seen). KeepsKeys q mid.tables) (sym tables_left) spread.spreads.leaves.burial.buries.keys

  linked : All (IsLinked left.tables.keys) left.interest.entries
  linked =
      let v = spread.spreads.buried.tables in
      let was = spread.spreads.buried.interest.entries in
      let reached : ℕ → Bool = reached_now v.files n (map (watch_at v.keys) was) in
      let risen_all = linked_risen reached v was spread.spreads.leaves.coherent_buried.linked in
      subst (λ (q : Seen). All (IsLinked q.keys) left.interest.entries) (sym tables_left) (subst (All (IsLinked v.keys)) (sym spread.spreads.rises.entries) risen_all)

  pub linked_left : (id : EntryId) (x : Entry) → entry_under left.interest id ≡ Some x → IsLinked left.tables.keys x
  linked_left id x up = holds_under (IsLinked left.tables.keys) left.interest id x linked up

  -- on an instance that IN reached
  on_reached : (id : EntryId) (x : Entry) → entry_under left.interest id ≡ Some x
      → is_above (reached_now spread.spreads.buried.tables.files n (map (watch_at spread.spreads.buried.tables.keys) spread.spreads.buried.interest.entries)) left.tables x ≡ true → is_among f.reached.reached x.desc.0 ≡ true
  on_reached id x up above =
      let v = spread.spreads.buried.tables in
      let r = spread.spreads.buried.interest in
      let reached : ℕ → Bool = reached_now v.files n (map (watch_at v.keys) r.entries) in
      let there = second_of_and (x.armed && nat_lt 0 (asked x.mask.0 IN) && is_nested left.tables x) (reached (number_at left.tables.keys x.desc)) above in
      let here : is_reached_key n v r x.desc ≡ true = ap (λ (q : Seen). reached (number_at q.keys x.desc)) (sym tables_left) ∙ there in
      let lives : IsSome (desc_number v x.desc) = subst (λ (q : Seen). IsSome (desc_number q x.desc)) tables_left (linked_left id x up).desc in
      spread.reached x.desc ∙ (λ i. lives i && here i)

module _ (law : ReportablesAreSpread) (past : List Record) (old mid left : Parts) (keeps : Keeps past old) (caller : CallerId) (event : Event) (outcome : Outcome) (n : ℕ) (at : n ≡ length past + 1)
    (does : DoesAt (next_event keeps.state) caller.0 event outcome old mid) (keys : KeepsKeys old.tables mid.tables) (sound : SoundTables old.tables) (d e f : Dating) (dated : IsDated keeps.state d.dates.since)
    (follows : Follows n event outcome.answer outcome.picked old d mid e) (spread : SpreadsTo n outcome.raising mid e left f) (called : Option DescId) where
  abbrev b : State
  b = next_event keeps.state

  -- it has a date, or may have come to be reportable
  abbrev Came : EntryId → Entry → Type 0
  Came id x = (is_dated f.dates x ≡ true) ⊎ (may_come left.interest (touched_in f called outcome.picked) id.0 ≡ true)

  -- one that was reportable had a date
  had_date : (k : ℕ) → WasReportable b k → nat_lt 0 (event_at d.dates.since k) ≡ true
  had_date k h =
      ap (λ (j : ℕ). nat_lt 0 (event_at d.dates.since j)) (sym h.same)
      ∙ (all_member (λ u. nat_lt 0 (event_at d.dates.since u.number) ≡ is_reportable b u) keeps.state.watches h.was (begun_dated keeps.state d.dates.since dated).shown h.there ∙ h.shown)

  -- the one that was altered is noted
  altered_noted : (id : EntryId) (x : Entry) → entry_under left.interest id ≡ Some x → WasAltered old.tables.limits b caller.0 event mid left.tables x → f.altered ≡ Some id
  altered_noted id x up is =
      let w = was_then n outcome.raising mid left spread.spreads id x up in
      let leaves = spread.spreads.leaves in
      let link = holds_under (IsLinked mid.tables.keys) mid.interest id w.was leaves.coherent.linked w.under in
      spread.altered
      ∙ follows.altered (done_altered old.tables.limits b b caller.0 event outcome.picked outcome.answer mid does.goes is.allowed is.left is.altered) id w.was w.under
      (is_named old.tables mid.tables keys sound leaves.tables old.tables.limits b caller.0 b keeps.stands.files keeps.stands.files event is.allowed is.left w.was link
      (w.instance ∙ is.instance) (w.fd ∙ is.fd) (w.target ∙ is.target) is.altered)

  pub begins : (id : EntryId) (x : Entry) → entry_under left.interest id ≡ Some x → entry_shows (readiness left.tables left.clock left.interest) left.tables left.clock x ≡ true → Came id x
  begins id x up shown =
      let by_key = is_it f.altered id.0 in
      let passes = passes_on (entry_under left.interest id) in
      let above = watches_any left.interest f.reached.reached id.0 in
      elim (causes law past old mid left keeps caller event outcome n at does spread.spreads x (member_of left.interest id x up) shown) [
        | inl was ↦ inl (ap (nat_lt 0) (date_left n event outcome old mid left d e f follows spread id x up) ∙ had_date x.number was)
        | inr now ↦ inr (elim now [
          | inl on ↦ or_left (by_key || passes) above (or_right by_key passes (ap passes_on up ∙ on))
          | inr other ↦ elim other [
            | inl reached ↦ or_right (by_key || passes) above (ap (is_on_any f.reached.reached) up ∙ on_reached n event outcome old mid left d e f follows spread id x up reached)
            | inr is ↦ or_left (by_key || passes) above (or_left by_key passes (ap (λ (o : Option EntryId). is_it o id.0) (altered_noted id x up is) ∙ same_nat id.0))
          ]
        ])
      ]
