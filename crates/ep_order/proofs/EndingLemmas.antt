-- A registration that an event doesn't touch stays reportable.
use Rattle.std.proofs.Common.{◌≡◌, ◌≤◌, ◌&&◌, ◌||◌, ◌∙◌, ℕ, Bool, true, false, List, [], ◌∷◌, None, Option, Some, ap, arith, get_or, inl, inr, map, nat_lt, not, refl, subst, sym, unwrap_or}
use Rattle.std.proofs.lemmas.Bool.{false≢true}
use Rattle.ep_facts.proofs.BoolFacts.{first_of_and, or_left, second_of_and}
use Rattle.ep_facts.proofs.NatFacts.{same_or_not, test_apart}
use Rattle.ep_base.specs.Limits.{Limits}
use Rattle.ep_base.specs.declared.call.Event.{Event}
use Rattle.ep_base.specs.declared.counts.Counts.{Counts}
use Rattle.ep_base.specs.declared.object.End.{End}
use Rattle.ep_base.specs.declared.record.Record.{Record}
use Rattle.ep_law.specs.Laws.{EndsAreApart, IsNoted, Member}
use Rattle.ep_law.proofs.RegularLemmas.{well_made_run}
use Rattle.ep_law.proofs.BeginningLemmas.{present_other}
use Rattle.ep_law.proofs.DeathLemmas.{raised_before}
use Rattle.ep_law.proofs.EndLemmas.{object_there}
use Rattle.ep_law.proofs.ListLemmas.{all_member, one_number}
use Rattle.ep_law.proofs.MaskLemmas.{asked_begins, none_or_some}
use Rattle.ep_law.proofs.NamedLivesLemmas.{dying_distinct, dying_placed}
use Rattle.ep_law.proofs.Present.{present_at}
use Rattle.ep_law.proofs.RaiseLemmas.{live_place, lived_before, present_place}
use Rattle.ep_law.proofs.SoundLemmas.{sound_run}
use Rattle.ep_law.proofs.StepLemmas.{step_changed}
use Rattle.ep_machine.specs.Bits.{ERR, ET, HUP, IN, asked, has_bit, union, when}
use Rattle.ep_machine.specs.Counts.{every_shown_bit, no_counts}
use Rattle.ep_machine.specs.Deaths.{buried, dying, named_in_tables}
use Rattle.ep_machine.specs.Effect.{first}
use Rattle.ep_machine.specs.Files.{Files, Place, is_live, object_of, place_of, side_of}
use Rattle.ep_machine.specs.Lists.{is_among}
use Rattle.ep_view.proofs.KindLemmas.{instance_kind, instance_of_kind}
use Rattle.ep_machine.specs.Objects.{Object, instance, object_present, plain}
use Rattle.ep_machine.specs.Readiness.{is_fresh, is_fresh_since, is_reportable_by, present_by, present_of}
use Rattle.ep_machine.specs.Refusal.{refusals}
use Rattle.ep_machine.specs.Run.{run}
use Rattle.ep_machine.specs.State.{Change, State, Watch, counts_of, opening}
use Rattle.ep_machine.specs.Step.{change, next_event}
use Rattle.ep_view.specs.AtRest.{AtRest, HasSeen, IsSteady, can_be_watched, kind_of}
use Rattle.ep_view.proofs.AtRestLemmas.{change_extends, quiet_begun, quiet_change, quiet_run, quiet_step}
use Rattle.ep_view.proofs.ClimbLemmas.{zero_asked}
use Rattle.ep_view.proofs.DeathLemmas.{all_buried}
use Rattle.ep_view.proofs.FilesLemmas.{Filed, among_first, watched_same}
use Rattle.ep_view.proofs.FreshLemmas.{fresh_arrived}
use Rattle.ep_order.specs.Event.{IsAltered, end_of}
use Rattle.ep_order.specs.Ending.{IsUntouched, UntouchedStayReportable, is_called}
use Rattle.ep_order.proofs.OriginLemmas.{Origin, origins}
use Rattle.ep_object.proofs.StayLemmas.{Stay, when_stays}
use Rattle.ep_order.proofs.PresentLemmas.{Goes, Holds, change_goes, holds_deaths, holds_then}
use Rattle.ep_order.proofs.StepLemmas.{stood}
use Rattle.ep_object.specs.Law.{ApplyLaw, CloseLaw, AdvanceLaw}

shows_own : (r : ℕ → Bool) (d : ℕ) (o : Option Object) (e : End) (now : ℕ) → (kind_of o ≡ 1 → ⊥) → present_of r d o e now ≡ object_present (unwrap_or o plain) e now
shows_own r d o e now h = present_other r d o e now (instance_kind o ∙ test_apart (kind_of o) 1 h)

-- the one shows IN if it is ready, the other what it showed
shown_stays : (ready later : ℕ → Bool) (d : ℕ) (o p : Option Object) (e f : End) (old new : ℕ) → kind_of p ≡ kind_of o → (o ≡ Some instance → later d ≡ true)
    → Stay (object_present (unwrap_or p plain) f new) (object_present (unwrap_or o plain) e old) → Stay (present_of later d p f new) (present_of ready d o e old)
shown_stays ready later d o p e f old new kind below own = elim (same_or_not (kind_of o) 1) [
  | inl at ↦
      let before = instance_of_kind o at in
      subst (λ (z : Option Object). Stay (present_of later d z f new) (present_of ready d o e old)) (sym (instance_of_kind p (kind ∙ at)))
      (subst (λ (z : Option Object). Stay (when (later d) IN) (present_of ready d z e old)) (sym before) (when_stays (later d) (ready d) IN (λ h. below before)))
  | inr other ↦
      subst (λ (n : ℕ). Stay n (present_of ready d o e old)) (sym (shows_own later d p f new (λ h. other (sym kind ∙ h))))
      (subst (λ (n : ℕ). Stay (object_present (unwrap_or p plain) f new) n) (sym (shows_own ready d o e old other)) own)
]

-- What a registration asks for.
asked_stays : (mask new old : ℕ) → Stay new old → nat_lt 0 (asked mask old) ≡ true → nat_lt 0 (asked mask new) ≡ true
asked_stays mask new old stay some = elim (none_or_some (asked mask new)) [
  | inl none ↦ absurd (false≢true (sym (zero_asked mask) ∙ asked_begins (union (mask ∷ ERR ∷ HUP ∷ [])) new old 0 stay none some))
  | inr still ↦ still
]

armed_stays : (armed : Bool) (m n : ℕ) → (nat_lt 0 m ≡ true → nat_lt 0 n ≡ true) → nat_lt 0 (when armed m) ≡ true → nat_lt 0 (when armed n) ≡ true
armed_stays true m n h e = h e
armed_stays false m n h e = e

edge_stays : (edge fresh still : Bool) → (fresh ≡ true → still ≡ true) → (not edge || fresh) ≡ true → (not edge || still) ≡ true
edge_stays true fresh still h e = h e
edge_stays false fresh still h e = refl

-- An event of a run.
module _ (apply : ApplyLaw) (close : CloseLaw) (clock : AdvanceLaw) (apart : EndsAreApart) (limits : Limits) (past : List Record) (s : State) (caller : ℕ) (event : Event) (picked : List ℕ) (c : Change) (is : run limits opening past ≡ Some s)
    (allowed : first (refusals limits (next_event s) caller event) ≡ None) (made : change limits (next_event s) caller event picked ≡ Some c) where
  abbrev b : State
  b = next_event s

  abbrev t : State
  t = end_of s c

  abbrev left : State × List (ℕ × ℕ)
  left = buried c.1 c.2

  rest : AtRest s
  rest = quiet_run limits past s is

  rest_end : AtRest t
  rest_end = quiet_step limits s t caller event picked c.0 (well_made_run limits past s is) rest (step_changed limits s caller event picked c allowed made)

  filed : Filed s.files
  filed = record { placed = rest.placed; lives = λ d e. sym (rest.named d) ∙ among_first (named_in_tables s.files.tables) (map (λ w. w.instance) s.waiters) d e }

  goes : Goes b event c.1
  goes = change_goes apply close clock limits b (apart limits past s is) filed caller event picked c allowed made

  -- an instance stays one, and nothing else comes to be one
  kind_stays : (d : ℕ) → is_live t.files d ≡ true → can_be_watched (object_of s.files d) ≡ true → kind_of (object_of t.files d) ≡ kind_of (object_of s.files d)
  kind_stays d lives watched =
      let extends = change_extends limits b caller event picked c (quiet_begun s rest) allowed made in
      let changed = quiet_change limits b caller event picked c (quiet_begun s rest) allowed made in
      let deaths = all_buried c.1.files (dying c.1) (dying_distinct c.1) (dying_placed c.1) changed.placed in
      let files = raised_before c.1.files c.2 (dying c.1) in
      let there = watched_same (object_of s.files d) (object_of c.1.files d) (extends.shows d watched) watched in
      ap (λ (f : Files). kind_of (object_of f d)) files ∙ (deaths.shows d (ap (λ (f : Files). is_live f d) (sym files) ∙ lives) there ∙ extends.shows d watched)

  holds : (d : ℕ) (p : Place) → is_called s event d ≡ false → place_of s.files d ≡ Some p → is_live t.files d ≡ true → Holds s.files t.files s.now t.now d p
  holds d p uncalled here lives =
      let one = goes.holds d p uncalled here in
      let q = live_place t.files d lives in
      let still = q.1 ∙ (sym (lived_before c.1.files c.2 (dying c.1) d q.0 q.1) ∙ one.place) in
      holds_then s.files c.1.files t.files s.now c.1.now t.now d p one (holds_deaths c.1.files c.2 (dying c.1) c.1.now d p still)

  -- one that was there is there as it was, if it is neither reported nor altered
  module _ (x : Watch) (there : Member x s.watches) (unpicked : is_among picked x.number ≡ false) (unaltered : IsAltered s event x → ⊥) where
    stays_same : (w : Watch) → w.number ≡ x.number → Origin b event picked w → w ≡ x
    stays_same w number (inl told) = absurd (false≢true (sym unpicked ∙ (ap (is_among picked) (sym number) ∙ told.told)))
    stays_same w number (inr (out, inl m)) = one_number s.watches w x (sound_run limits past s is).numbers m there number
    stays_same w number (inr (out, inr (inl h))) =
        let same = one_number s.watches h.was x (sound_run limits past s is).numbers h.there there (sym h.number ∙ number) in
        absurd (unaltered (subst (λ (z : Watch). IsAltered s event z) same h.was_altered))
    stays_same w number (inr (out, inr (inr h))) =
        let le = all_member (λ z. z.number ≤ s.added) s.watches x (sound_run limits past s is).below there in
        let new = h.number in
        absurd (omega (arith, le, new, number))

    noted : (y : Watch) → Member y t.watches → y.number ≡ x.number → IsNoted x y
    noted y m number =
        let h = stood b c.1 c.2 y m in
        let same = stays_same h.x (sym h.number ∙ number) ((origins limits b caller event picked c made).2 h.x h.there) in
        subst (λ (z : Watch). IsNoted z y) same h.noted

  -- one whose target lives on
  module _ (x : Watch) (there : Member x s.watches) (lives : is_live t.files x.target ≡ true) where
    fresh_stays : is_fresh s x ≡ true → is_fresh t x ≡ true
    fresh_stays fresh =
        let arrivals = goes.arrivals in
        let seen = all_member (λ z. HasSeen z.seen (counts_of s z.target)) s.watches x rest.seen there in
        let seen_left = subst (λ (cs : List Counts). HasSeen x.seen (get_or cs x.target no_counts)) (sym arrivals) seen in
        let fresh_left : is_fresh left.0 x ≡ true = subst (λ (cs : List Counts). is_fresh_since x.seen (asked x.mask every_shown_bit) (get_or cs x.target no_counts) ≡ true) (sym arrivals) fresh in
        fresh_arrived left.0 left.1 x.target lives x refl seen_left ∙ or_left _ _ fresh_left

    present_stays : (ready later : ℕ → Bool) → is_called s event x.target ≡ false → (object_of s.files x.target ≡ Some instance → later x.target ≡ true) → Stay (present_by later t x.target) (present_by ready s x.target)
    present_stays ready later uncalled below =
        let d = x.target in
        let steady = all_member (λ z. IsSteady s.files z.instance z.target) s.watches x rest.watches there in
        let p = live_place s.files d steady.target_lives in
        let h = holds d p.0 uncalled p.1 lives in
        shown_stays ready later d (object_of s.files d) (object_of t.files d) (side_of s.files d) (side_of t.files d) s.now t.now (kind_stays d lives steady.target_shows) below
        (subst (λ (n : ℕ). Stay n (present_at s.files s.now d)) (sym (present_place t.files t.now d p.0 h.place))
        (subst (λ (n : ℕ). Stay (object_present (object_there t.files p.0.object) p.0.side t.now) n) (sym (present_place s.files s.now d p.0 p.1)) h.shows))

    reportable_stays : (ready later : ℕ → Bool) → is_called s event x.target ≡ false → (object_of s.files x.target ≡ Some instance → later x.target ≡ true)
        → is_reportable_by ready s x ≡ true → is_reportable_by later t x ≡ true
    reportable_stays ready later uncalled below before =
        let bits = present_stays ready later uncalled below in
        let shown = armed_stays x.armed (asked x.mask (present_by ready s x.target)) (asked x.mask (present_by later t x.target)) (asked_stays x.mask (present_by later t x.target) (present_by ready s x.target) bits) (first_of_and _ _ before) in
        let fresh = edge_stays (has_bit x.mask ET) (is_fresh s x) (is_fresh t x) fresh_stays (second_of_and _ _ before) in
        λ i. shown i && fresh i

  pub stays_reportable : (ready later : ℕ → Bool) (x y : Watch) → Member x s.watches → Member y t.watches → y.number ≡ x.number → IsUntouched s event picked later x → is_reportable_by ready s x ≡ true → is_reportable_by later t y ≡ true
  stays_reportable ready later x y there m number h before =
      let same = noted x there h.unpicked h.unaltered y m number in
      let steady = all_member (λ z. IsSteady t.files z.instance z.target) t.watches y rest_end.watches m in
      let lives : is_live t.files x.target ≡ true = ap (λ (z : Watch). is_live t.files z.target) (sym same.1) ∙ steady.target_lives in
      ap (is_reportable_by later t) same.1 ∙ reportable_stays x there lives ready later h.uncalled h.below before

pub untouched_stay_reportable : ApplyLaw → CloseLaw → AdvanceLaw → EndsAreApart → UntouchedStayReportable
untouched_stay_reportable apply close clock apart limits past s caller event picked c ready later x y is allowed made =
    stays_reportable apply close clock apart limits past s caller event picked c is allowed made ready later x y
