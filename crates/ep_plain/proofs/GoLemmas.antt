-- A registration that has a date, and that an event doesn't touch, still shows something by the rows of the dates.
use Rattle.std.proofs.Common.{◌≡◌, ◌∙◌, ◌+◌, ◌&&◌, ◌||◌, ◌++◌, ℕ, Bool, true, false, IsSome, List, [], ◌∷◌, MatchOption, None, Option, Some, ap, inl, inr, is_some, length, map, nat_lt, not, refl, subst, sym, unwrap_or}
use Rattle.std.specs.Option.{option_map}
use Rattle.std.proofs.lemmas.Bool.{cases_Bool, false≢true, or_parts}
use Rattle.ep_facts.proofs.NatFacts.{same_nat, same_test}
use Rattle.ep_facts.proofs.BoolFacts.{first_of_and}
use Rattle.ep_alarms.specs.Called.{IsCalled}
use Rattle.ep_base.specs.Limits.{Limits}
use Rattle.ep_base.specs.declared.answer.Answer.{Answer}
use Rattle.ep_base.specs.declared.call.Event.{Event}
use Rattle.ep_base.specs.declared.errno.Errno.{Errno}
use Rattle.ep_base.specs.declared.ids.CallerId.{CallerId}
use Rattle.ep_base.specs.declared.ids.DescId.{DescId}
use Rattle.ep_base.specs.declared.ids.EntryId.{EntryId}
use Rattle.ep_base.specs.declared.record.Record.{Record}
use Rattle.ep_calls.proofs.EndLemmas.{rested, rests_so}
use Rattle.ep_calls.proofs.EntryLemmas.{holds_under, member_of}
use Rattle.ep_calls.proofs.KeepsLemmas.{DoesAt, SettlesMarks, keeps_marked, record_of, state_is, step_marked}
use Rattle.ep_calls.proofs.KeyLemmas.{number_kept, some_kept}
use Rattle.ep_calls.specs.Keeps.{Keeps}
use Rattle.ep_calls.specs.Moves.{Makes, Refuses}
use Rattle.ep_calls.specs.Parts.{AreCoherent, Parts}
use Rattle.ep_calls.specs.Readiness.{readiness}
use Rattle.ep_calls.specs.Stands.{IsLinked, KeepsKeys, number_at, watch_at}
use Rattle.ep_calls.specs.declared.outcome.Outcome.{Outcome}
use Rattle.ep_choice.proofs.EndLemmas.{attend_of, settles_marks}
use Rattle.ep_choice.specs.Marking.{gets_mark_key}
use Rattle.ep_dates.specs.Ask.{is_on, shows_by, shows_over}
use Rattle.ep_dates.specs.Dates.{event_at, is_dated, is_ready}
use Rattle.ep_dates.specs.Touched.{has_number, is_it, is_numbered, is_on_any, may_go, watches_any, watches_maybe}
use Rattle.ep_interest.specs.Registrations.{entry_under, settled}
use Rattle.ep_interest.specs.declared.entry.Entry.{Entry}
use Rattle.ep_law.proofs.GraphLemmas.{member_of_map}
use Rattle.ep_law.proofs.ListLemmas.{all_member, member_map}
use Rattle.ep_law.proofs.StepLemmas.{refused_step, step_changed}
use Rattle.ep_law.specs.Laws.{IsNoted, Member}
use Rattle.ep_machine.specs.Bits.{ET, IN, asked, has_bit, when}
use Rattle.ep_machine.specs.Effect.{first}
use Rattle.ep_machine.specs.Files.{Files, Place, object_at, object_of, place_of, side_of}
use Rattle.ep_machine.specs.Lists.{is_among}
use Rattle.ep_law.proofs.ReachLemmas.{instance_is}
use Rattle.ep_law.proofs.ReadinessLemmas.{present_same}
use Rattle.ep_machine.specs.Objects.{Object, instance}
use Rattle.ep_machine.specs.Readiness.{is_fresh, is_ready as is_ready_in, is_reportable, is_reportable_by, present_by, present_of, shown}
use Rattle.ep_machine.specs.Refusal.{refusals}
use Rattle.ep_machine.specs.State.{Change, State, Watch}
use Rattle.ep_machine.specs.Step.{change, next_event, step}
use Rattle.ep_machine.specs.Watches.{number_in}
use Rattle.ep_order.proofs.OriginLemmas.{Origin, origins}
use Rattle.ep_order.proofs.StepLemmas.{stood}
use Rattle.ep_order.specs.Ending.{UntouchedStayReportable, is_called}
use Rattle.ep_order.specs.Event.{IsAltered, end_of}
use Rattle.ep_plain.proofs.ComeLemmas.{date_left, keys_left, linked_left}
use Rattle.ep_plain.proofs.NamedLemmas.{done_made, had_key, is_found, is_named}
use Rattle.ep_plain.proofs.ReportedLemmas.{was_then}
use Rattle.ep_plain.specs.Dating.{touched_in}
use Rattle.ep_plain.specs.Exact.{Follows, TellsReady}
use Rattle.ep_plain.specs.Since.{IsDated}
use Rattle.ep_plain.specs.Spread.{SpreadsTo}
use Rattle.ep_plain.specs.declared.dating.Dating.{Dating}
use Rattle.ep_table.specs.Value.{Sound as SoundTables, number_under as desc_number}
use Rattle.ep_view.proofs.ClimbLemmas.{zero_asked}
use Rattle.ep_view.proofs.KernelViewLemmas.{ready_kept}
use Rattle.ep_view.specs.KernelView.{KernelWatch, kernel_watch, kernel_watches, ready_now, shows}

-- an instance that shows something is ready
shown_ready : (armed b : Bool) (mask : ℕ) → nat_lt 0 (when armed (asked mask (when b IN))) ≡ true → b ≡ true
shown_ready true true mask h = refl
shown_ready true false mask h = absurd (false≢true (sym (zero_asked mask) ∙ h))
shown_ready false b mask h = absurd (false≢true h)

instance_ready : (s : State) (w : Watch) → is_reportable s w ≡ true → object_of s.files w.target ≡ Some instance → is_ready_in s w.target ≡ true
instance_ready s w shown at =
    shown_ready w.armed (is_ready_in s w.target) w.mask (ap (λ (o : Option Object). nat_lt 0 (when w.armed (asked w.mask (present_of (is_ready_in s) w.target o (side_of s.files w.target) s.now)))) (sym at) ∙ first_of_and _ _ shown)

placed : (files : Files) (p : Option Place) (x : Object) → object_at files p ≡ Some x → is_some p ≡ true
placed files None x h = absurd (cc)
placed files (Some p) x h = refl

to_state : (o : Option (Answer × State)) (a b : Answer) (u v : State) → o ≡ Some (a, u) → o ≡ Some (b, v) → u ≡ v
to_state o a b u v h k = ap (λ (q : Option (Answer × State)). unwrap_or (option_map (λ (r : Answer × State). r.1) q) u) (sym h ∙ k)

-- One event.
module _ (law : UntouchedStayReportable) (past : List Record) (old mid left : Parts) (keeps : Keeps past old) (caller : CallerId) (event : Event) (outcome : Outcome) (n : ℕ) (at : n ≡ length past + 1)
    (does : DoesAt (next_event keeps.state) caller.0 event outcome old mid) (keys : KeepsKeys old.tables mid.tables) (coherent : AreCoherent old) (sound : SoundTables old.tables) (d e f : Dating) (dated : IsDated keeps.state d.dates.since) (ready : TellsReady old d.dates)
    (follows : Follows n event outcome.answer outcome.picked old d mid e) (spread : SpreadsTo n outcome.raising mid e left f) (called : Option DescId) (is_call : IsCalled old.tables event called) where
  abbrev s : State
  s = keeps.state

  abbrev b : State
  b = next_event s

  abbrev limits : Limits
  limits = old.tables.limits

  abbrev noted_parts : Parts
  noted_parts = record mid { interest = spread.spreads.noted }

  -- the end, made up
  abbrev test : ℕ → Bool
  test = gets_mark_key n left (attend_of past old mid left keeps caller event outcome n at does keys coherent spread.spreads)

  abbrev new : Parts
  new = rested test left

  abbrev forgotten : Parts
  forgotten = record left { interest = new.interest }

  so : SettlesMarks n outcome.raising old mid noted_parts spread.spreads.buried forgotten new
  so = settles_marks past old mid left keeps caller event outcome n at does keys coherent spread.spreads new (rests_so test left)

  abbrev after : List Record
  after = past ++ record_of caller event outcome ∷ []

  keeps_after : Keeps after new
  keeps_after = keeps_marked past old mid noted_parts spread.spreads.buried forgotten new keeps caller event outcome n at does so

  abbrev t : State
  t = keeps_after.state

  goes : step limits s caller.0 event outcome.picked ≡ Some (outcome.answer, t)
  goes = step_marked past old mid noted_parts spread.spreads.buried forgotten new keeps caller event outcome n at does so ∙ ap (λ (u : State). Some (outcome.answer, u)) (state_is after new keeps_after)

  -- A registration that is left, with a date, and not touched.
  module _ (id : EntryId) (x : Entry) (up : entry_under left.interest id ≡ Some x) (untouched : may_go left.interest (touched_in f called outcome.picked) id.0 ≡ false) (on : is_dated f.dates x ≡ true) where
    -- whether what it watches is ready by the rows
    abbrev below : Bool
    below = is_ready f.dates x.desc.0

    abbrev later : ℕ → Bool
    later k = below

    -- what the event touches, in turn
    parts : ((is_it f.altered id.0 || has_number left.interest outcome.picked id.0 || watches_maybe left.interest called id.0) ≡ false) × (watches_any left.interest f.gone.reached id.0 ≡ false)
    parts = or_parts (is_it f.altered id.0 || has_number left.interest outcome.picked id.0 || watches_maybe left.interest called id.0) (watches_any left.interest f.gone.reached id.0) untouched

    three : ((is_it f.altered id.0 || has_number left.interest outcome.picked id.0) ≡ false) × (watches_maybe left.interest called id.0 ≡ false)
    three = or_parts (is_it f.altered id.0 || has_number left.interest outcome.picked id.0) (watches_maybe left.interest called id.0) parts.0

    two : (is_it f.altered id.0 ≡ false) × (has_number left.interest outcome.picked id.0 ≡ false)
    two = or_parts (is_it f.altered id.0) (has_number left.interest outcome.picked id.0) three.0

    unpicked : is_among outcome.picked x.number ≡ false
    unpicked = ap (is_numbered outcome.picked) (sym up) ∙ two.1

    on_none_gone : is_among f.gone.reached x.desc.0 ≡ false
    on_none_gone = ap (is_on_any f.gone.reached) (sym up) ∙ parts.1

    on_none_called : (desc : DescId) → called ≡ Some desc → x.desc.0 ≡ desc.0 → ⊥
    on_none_called desc is same =
        let not_on : is_on desc.0 (entry_under left.interest id) ≡ false = ap (λ (o : Option DescId). watches_maybe left.interest o id.0) (sym is) ∙ three.1 in
        false≢true (sym not_on ∙ (ap (is_on desc.0) up ∙ same_test x.desc.0 desc.0 same))

    was_dated : nat_lt 0 (event_at d.dates.since x.number) ≡ true
    was_dated = ap (nat_lt 0) (sym (date_left n event outcome old mid left d e f follows spread id x up)) ∙ on

    -- it was reportable
    before : (w : Watch) → Member w s.watches → w.number ≡ x.number → is_reportable s w ≡ true
    before w m same =
        sym (all_member (λ u. nat_lt 0 (event_at d.dates.since u.number) ≡ is_reportable s u) s.watches w dated.shown m)
        ∙ (ap (λ (k : ℕ). nat_lt 0 (event_at d.dates.since k)) same ∙ was_dated)

    link : IsLinked left.tables.keys x
    link = linked_left n event outcome old mid left d e f follows spread id x up

    kept : KeepsKeys left.tables mid.tables
    kept = keys_left n event outcome old mid left d e f follows spread

    -- what it watches
    lives_then : IsSome (desc_number mid.tables x.desc)
    lives_then = some_kept left.tables mid.tables x.desc kept link.desc

    number_then : number_at mid.tables.keys x.desc ≡ number_at left.tables.keys x.desc
    number_then = number_kept left.tables mid.tables x.desc kept link.desc

    -- had its key, if that is an instance
    key_before : (k : ℕ) → k ≡ number_at left.tables.keys x.desc → object_of s.files k ≡ Some instance → desc_number old.tables x.desc ≡ Some k
    key_before k is object =
        let here = ap (λ (files : Files). object_of files k) (sym keeps.stands.files) ∙ object in
        let key = sound.keyed k (placed old.tables.files (place_of old.tables.files k) instance here) in
        had_key old.tables mid.tables keys sound spread.spreads.leaves.tables x.desc key.0 k key.1 lives_then (number_then ∙ sym is)

    -- and was ready, so it is ready
    stays_ready : (w : Watch) → Member w s.watches → w.number ≡ x.number → w.target ≡ number_at left.tables.keys x.desc → object_of s.files w.target ≡ Some instance → below ≡ true
    stays_ready w m same target object =
        let key = key_before w.target target object in
        let by_machine : is_ready_in s w.target ≡ true = instance_ready s w (before w m same) object in
        let stands = keeps.stands in
        let by_parts : readiness old.tables old.clock old.interest w.target ≡ true =
        ap (λ (r : ℕ → Bool). r w.target) (λ i. ready_now (sym stands.files i) (sym stands.now i) (sym stands.watches i)) ∙ (sym (ready_kept s w.target) ∙ by_machine) in
        let was : is_ready d.dates x.desc.0 ≡ true =
        ready x.desc (subst (λ (o : Option ℕ). IsSome o) (sym key) refl) ∙ (ap (λ (o : Option ℕ). readiness old.tables old.clock old.interest (unwrap_or o 0)) key ∙ by_parts) in
        let gone : is_among f.gone.reached x.desc.0 ≡ true → below ≡ true = λ h. absurd (false≢true (sym on_none_gone ∙ h)) in
        elim (follows.loses.noted x.desc.0 was) [
          | inl still ↦ elim (spread.loses.noted x.desc.0 still) [ inl is ↦ is | inr h ↦ gone h ]
          | inr h ↦ gone (spread.loses.still x.desc.0 h)
        ]

    -- Its watch at the end.
    module _ (y : Watch) (there : Member y t.watches) (is : kernel_watch t y ≡ watch_at left.tables.keys (settled x)) where
      number : y.number ≡ x.number
      number = ap (λ (k : KernelWatch). k.number) is

      target : y.target ≡ number_at left.tables.keys x.desc
      target = ap (λ (k : KernelWatch). k.target) is

      by_refusal : (error : Errno) → first (refusals limits b caller.0 event) ≡ Some error → Refuses b error outcome.answer outcome.picked mid → is_reportable_by later t y ≡ true
      by_refusal error refused r =
          let stays : t ≡ b = to_state _ outcome.answer _ t b (ap (step limits s caller.0 event) (sym r.unpicked) ∙ goes) (refused_step limits s caller.0 event error refused) in
          let was : Member y s.watches = subst (λ (u : State). Member y u.watches) stays there in
          let same : present_by later s y.target ≡ present_by (is_ready_in s) s y.target =
          present_same later (is_ready_in s) y.target (object_of s.files y.target) (side_of s.files y.target) s.now
          (λ h. let o = instance_is (object_of s.files y.target) h in stays_ready y was number target o ∙ sym (instance_ready s y (before y was number) o)) in
          let then : is_reportable_by later s y ≡ true = (λ i. nat_lt 0 (when y.armed (asked y.mask (same i))) && (not (has_bit y.mask ET) || is_fresh s y)) ∙ before y was number in
          subst (λ (u : State). is_reportable_by later u y ≡ true) (sym stays) then

      module _ (allowed : first (refusals limits b caller.0 event) ≡ None) (m : Makes (change limits b caller.0 event outcome.picked) outcome.answer mid) where
        abbrev c : Change
        c = m.made

        ends : t ≡ end_of s c
        ends = to_state _ outcome.answer c.0 t (end_of s c) goes (step_changed limits s caller.0 event outcome.picked c allowed m.is)

        then : Member y (end_of s c).watches
        then = subst (λ (u : State). Member y u.watches) ends there

        -- What the change left of it.
        module _ (w : Watch) (noted : IsNoted w y) where
          as_noted : w ≡ record y { from = w.from }
          as_noted = ap (λ (u : Watch). record u { from = w.from }) (sym noted.1)

          w_number : w.number ≡ x.number
          w_number = ap (λ (u : Watch). u.number) as_noted ∙ number

          w_target : w.target ≡ number_at left.tables.keys x.desc
          w_target = ap (λ (u : Watch). u.target) as_noted ∙ target

          -- one that the event altered has the key that it noted
          unaltered : (q : State) → q.files ≡ old.tables.files → IsAltered q event w → ⊥
          unaltered q same altered =
              let u = was_then n outcome.raising mid left spread.spreads id x up in
              let link_then = holds_under (IsLinked mid.tables.keys) mid.interest id u.was spread.spreads.leaves.coherent.linked u.under in
              let w_instance : w.instance ≡ number_at left.tables.keys x.instance = ap (λ (v : Watch). v.instance) as_noted ∙ ap (λ (k : KernelWatch). k.instance) is in
              let w_fd : w.fd ≡ number_in x.fd.0 = ap (λ (v : Watch). v.fd) as_noted ∙ ap (λ (k : KernelWatch). k.fd) is in
              let named =
              is_named old.tables mid.tables keys sound spread.spreads.leaves.tables limits b caller.0 q keeps.stands.files same event allowed w u.was link_then
              (u.instance ∙ sym w_instance) (u.fd ∙ sym w_fd) (u.target ∙ sym w_target) altered in
              let by_key : f.altered ≡ Some id = spread.altered ∙ follows.altered (done_made limits b q caller.0 event outcome.picked outcome.answer mid m w altered) id u.was u.under named in
              false≢true (sym two.0 ∙ (ap (λ (o : Option EntryId). is_it o id.0) by_key ∙ same_nat id.0))

          uncalled : is_called s event w.target ≡ false
          uncalled = elim (cases_Bool (is_called s event w.target)) [
            | inr off ↦ off
            | inl on_it ↦
                let found =
                is_found old.tables mid.tables keys sound spread.spreads.leaves.tables limits b caller.0 s keeps.stands.files keeps.stands.files event allowed called is_call x.desc w.target lives_then
                (number_then ∙ sym w_target) on_it in
                absurd (on_none_called found.0 found.1 found.2)
          ]

          -- one that was there stays reportable
          by_law : Member w s.watches → is_reportable_by later (end_of s c) y ≡ true
          by_law was =
              law limits past s caller.0 event outcome.picked c (is_ready_in s) later w y keeps.leads allowed m.is was then (number ∙ sym w_number)
              (record {
                unpicked = ap (is_among outcome.picked) w_number ∙ unpicked;
                unaltered = unaltered s keeps.stands.files;
                uncalled = uncalled;
                below = stays_ready w was w_number w_target;
              })
              (before w was w_number)

          by_origin : Origin b event outcome.picked w → is_reportable_by later (end_of s c) y ≡ true
          by_origin (inl told) = absurd (false≢true (sym unpicked ∙ (ap (is_among outcome.picked) (sym w_number) ∙ told.told)))
          by_origin (inr (out, inl was)) = by_law was
          by_origin (inr (out, inr (inl modified))) = absurd (unaltered b keeps.stands.files modified.altered)
          by_origin (inr (out, inr (inr added))) = absurd (unaltered b keeps.stands.files added.altered)

        by_change : is_reportable_by later t y ≡ true
        by_change =
            let h = stood b c.1 c.2 y then in
            let origin = (origins limits b caller.0 event outcome.picked c m.is).2 h.x h.there in
            subst (λ (u : State). is_reportable_by later u y ≡ true) (sym ends) (by_origin h.x h.noted origin)

      by_cases : (o : Option Errno) → first (refusals limits b caller.0 event) ≡ o
          → MatchOption o (Makes (change limits b caller.0 event outcome.picked) outcome.answer mid) (λ error. Refuses b error outcome.answer outcome.picked mid) → is_reportable_by later t y ≡ true
      by_cases None h m = by_change h m
      by_cases (Some error) h r = by_refusal error h r

      stays : is_reportable_by later t y ≡ true
      stays = by_cases (first (refusals limits b caller.0 event)) refl does.goes

    -- it shows something by the rows
    shows_left : shows_by (shows_over left) f.dates x ≡ true
    shows_left =
        let k = watch_at left.tables.keys (settled x) in
        let stands = keeps_after.stands in
        let here : Member k (kernel_watches t t.watches) = subst (Member k) (sym stands.watches) (member_map (watch_at left.tables.keys) (settled x) (map settled left.interest.entries) (member_map settled x left.interest.entries (member_of left.interest id x up))) in
        let y = member_of_map (kernel_watch t) t.watches k here in
        (λ i. shows later (sym stands.files i) (sym stands.now i) (sym y.2 i)) ∙ stays y.0 y.1 y.2

  pub ends_left : (id : EntryId) (x : Entry) → entry_under left.interest id ≡ Some x → may_go left.interest (touched_in f called outcome.picked) id.0 ≡ false → is_dated f.dates x ≡ true → shows_by (shows_over left) f.dates x ≡ true
  ends_left id x up untouched on = shows_left id x up untouched on
