-- What holds of the kernel over one event.
use Rattle.std.proofs.Common.{get_or, ◌≡◌, ◌<◌, ◌≤◌, ◌+◌, ◌++◌, ◌∙◌, ℕ, All, Bool, List, [], ◌∷◌, None, Option, Some, ap, arith, false, is_some, length, map, refl, slice_index_or, subst, suc, sym, true, unwrap_or, zero}
use Rattle.std.specs.Prelude.{IfNone, IfSome}
use Rattle.std.proofs.lemmas.Bool.{false≢true}
use Rattle.std.proofs.lemmas.List.{length-append}
use Rattle.std.proofs.lemmas.List.Elements.{All-from_recursion, All-map}
use Rattle.ep_base.specs.Limits.{Limits}
use Rattle.ep_base.specs.declared.call.Event.{Event}
use Rattle.ep_base.specs.declared.ids.CallerId.{CallerId}
use Rattle.ep_base.specs.declared.ids.EntryId.{EntryId}
use Rattle.ep_base.specs.declared.record.Record.{Record}
use Rattle.ep_calls.proofs.EndLemmas.{readiness_settled, shows_settled}
use Rattle.ep_calls.proofs.EntryLemmas.{key_of}
use Rattle.ep_calls.proofs.KeepsLemmas.{DoesAt, SettlesMarks, adds_marked, keeps_marked, keeps_opening, record_of, state_is, step_marked}
use Rattle.ep_calls.proofs.RaiseLemmas.{stirs_added}
use Rattle.ep_calls.specs.Does.{DoesEventIf}
use Rattle.ep_calls.specs.Ends.{RestsBy, Spreads}
use Rattle.ep_calls.specs.Keeps.{Keeps}
use Rattle.ep_calls.specs.Moves.{Goes, MovesBy}
use Rattle.ep_calls.specs.Parking.{ready_key}
use Rattle.ep_calls.specs.Parts.{AreCoherent, AreOpening, Parts}
use Rattle.ep_calls.specs.Raising.{Raises}
use Rattle.ep_calls.specs.Readiness.{entry_shows, readiness}
use Rattle.ep_calls.specs.Stands.{KeepsKeys, number_at, watch_at}
use Rattle.ep_calls.specs.declared.outcome.Outcome.{Outcome}
use Rattle.ep_choice.proofs.EndLemmas.{attend_of, settles_marks}
use Rattle.ep_choice.specs.Marking.{gets_mark_key}
use Rattle.ep_dates.specs.Dates.{Dates, event_at, is_ready}
use Rattle.ep_dates.specs.Order.{AreInTurn, Rise, date_under}
use Rattle.ep_dates.specs.Touched.{date_of}
use Rattle.ep_interest.specs.Registrations.{Registrations, entry_found, entry_under, settled}
use Rattle.ep_interest.specs.declared.entry.Entry.{Entry}
use Rattle.ep_law.proofs.GraphLemmas.{graph_stays_legal}
use Rattle.ep_law.proofs.ListLemmas.{all_member}
use Rattle.ep_law.proofs.SoundLemmas.{sound_begun}
use Rattle.ep_law.specs.Laws.{Member}
use Rattle.ep_machine.specs.Lists.{is_among}
use Rattle.ep_machine.specs.Refusal.{refusals}
use Rattle.ep_machine.specs.Run.{run}
use Rattle.ep_machine.specs.State.{State, Watch, opening}
use Rattle.ep_machine.specs.Step.{change, next_event, step}
use Rattle.ep_order.proofs.StepLemmas.{step_adds_one, step_keeps_turns}
use Rattle.ep_plain.proofs.AllowLemmas.{all_below, dated_shown}
use Rattle.ep_plain.proofs.ComeLemmas.{date_left}
use Rattle.ep_plain.proofs.LosesLemmas.{Stay, loses_none, stay_mapped}
use Rattle.ep_plain.proofs.RoomLemmas.{fits_grown, turn_grown}
use Rattle.ep_plain.proofs.SinceLemmas.{all_by, next_dated, opening_dated, same_dated}
use Rattle.ep_plain.specs.Dating.{Fits, Grows, IsNew}
use Rattle.ep_plain.specs.Exact.{Follows, IsExact, TellsReady}
use Rattle.ep_plain.specs.Since.{AreDated, IsDated, entry_date}
use Rattle.ep_plain.specs.Spread.{SpreadsTo}
use Rattle.ep_plain.specs.Standing.{Standing}
use Rattle.ep_plain.specs.StepWith.{AddsBy, HasStep}
use Rattle.ep_plain.specs.These.{ForEach, MayGo, MayReport, ReportsThese}
use Rattle.ep_plain.specs.declared.dating.Dating.{Dating}
use Rattle.ep_rings.specs.PlacedRows.{PlacedRows, first_in, keys_at, no_rows}
use Rattle.ep_table.specs.Value.{Seen}
use Rattle.ep_view.proofs.AtRestLemmas.{quiet_begun}
use Rattle.ep_view.specs.KernelView.{KernelWatch, kernel_watch, ready_now}

-- At the start nothing is registered.
none_under : (id : EntryId) (x : Entry) → entry_under (record { entries = []; keys = []; added = 0; next = 0 }) id ≡ Some x → ⊥
none_under id x h = none_key (slice_index_or [] id.0 None) refl h where
  none_key : (o : Option ℕ) → slice_index_or [] id.0 None ≡ o → entry_found [] o ≡ Some x → ⊥
  none_key None is k = absurd (let e : None ≡ Some x = k in cc)
  none_key (Some n) is k = absurd (let e : None ≡ Some x = k in cc)

none_ready : (p : Parts) (i : ℕ) → ready_key p.tables p.clock (record { entries = []; keys = []; added = 0; next = 0 }) i ≡ false
unfolding ready_now
none_ready p i = refl

pub standing_opening : (limits : Limits) (p : Parts) (d : Dating) → AreOpening limits p → IsNew d → Standing [] p d
standing_opening limits p d at_start new = record {
  keeps = keeps;
  dated = subst (λ (s : State). IsDated s d.dates.since) at (opening_dated d.dates.since new.since);
  ready = λ i lives. no_row i.0 ∙ sym (ap (λ (r : Registrations). ready_key p.tables p.clock r i.0) at_start.interest ∙ none_ready p i.0);
  order = record {
    rise = λ i. subst (λ (v : PlacedRows). Rise (map (date_under p.interest d.dates) (keys_at v i))) (sym new.rows) (empty_rise i);
    past = λ i k t. absurd (false≢true (sym (ap (λ (v : PlacedRows). is_among (keys_at v i) k) new.rows ∙ none_among i k) ∙ t));
  };
  fits = subst (λ (r : Registrations). Fits r d) (sym at_start.interest) (record {
    kept = record {
      places = λ id x at. absurd (none_under id x at);
      listed = λ id x at. absurd (none_under id x at);
      only = λ i k t. absurd (false≢true (sym (ap (λ (v : PlacedRows). is_among (keys_at v i) k) new.rows ∙ none_among i k) ∙ t));
      ids = λ id x at up. absurd (none_under id x at);
    };
    reached = λ id x at. absurd (none_under id x at);
    gone = λ id x at. absurd (none_under id x at);
    flags = λ id x at. absurd (none_under id x at);
    unflagged = new.flags;
    choice = record { candidates = λ id x at. absurd (none_under id x at); targets = λ id x at. absurd (none_under id x at); lost = λ id x at. absurd (none_under id x at) };
    lost = λ i t. absurd (false≢true (ap (λ (ks : List ℕ). is_among ks i) (sym new.lost) ∙ t));
  });
  unlost = new.lost;
} where
  keeps : Keeps [] p
  keeps = keeps_opening limits p at_start

  at : opening ≡ keeps.state
  at = ap (λ (o : Option State). unwrap_or o opening) keeps.leads

  no_keys : (i : ℕ) → keys_at no_rows i ≡ []
  no_keys zero = refl
  no_keys (suc i) = refl

  none_among : (i k : ℕ) → is_among (keys_at no_rows i) k ≡ false
  none_among i k = ap (λ (ks : List ℕ). is_among ks k) (no_keys i)

  no_row : (i : ℕ) → is_ready d.dates i ≡ false
  no_row i = ap (λ (v : PlacedRows). is_some (first_in (keys_at v i))) new.rows ∙ ap (λ (ks : List ℕ). is_some (first_in ks)) (no_keys i)

  empty_rise : (i : ℕ) → Rise (map (date_under p.interest d.dates) (keys_at no_rows i))
  empty_rise i = subst (λ (ks : List ℕ). Rise (map (date_under p.interest d.dates) ks)) (sym (no_keys i)) tt

-- Between events, and at the beginning of the next.
module _ (past : List Record) (p : Parts) (d : Dating) (standing : Standing past p d) where
  abbrev s : State
  s = standing.keeps.state

  -- the last report of each was in an event before
  abbrev IsPast : KernelWatch → Type 0
  IsPast w = w.reported_in < length past + 1

  reported_past : (x : Watch) → Member x s.watches → IsPast (kernel_watch s x)
  reported_past x m =
      let fair = all_member (λ w. w.rep ≤ w.from) s.watches x standing.keeps.sound.fair m in
      let before = all_member (λ w. w.from ≤ s.n) s.watches x standing.keeps.sound.past m in
      omega (arith, fair, before, standing.keeps.n)

  reported_before : All (λ x. x.reported_in < length past + 1) p.interest.entries
  reported_before = all_below IsPast (watch_at p.tables.keys) p.interest.entries (subst (λ (ws : List KernelWatch). All IsPast ws) standing.keeps.stands.watches (All-map IsPast (kernel_watch s) s.watches (All-from_recursion (λ x. IsPast (kernel_watch s x)) s.watches (all_by (λ x. IsPast (kernel_watch s x)) s.watches reported_past))))

  pub exact_now : IsExact (length past + 1) p d
  exact_now = record {
    shown = dated_shown p d.dates standing.keeps.state standing.keeps.stands standing.dated;
    ready = standing.ready;
    past = reported_before;
    order = (length past, standing.order);
    fits = standing.fits;
    later = λ k lt. standing.dated.later k (omega (arith, lt, standing.keeps.stands.added));
    unlost = standing.unlost;
  }

-- with more room, the same holds
pub standing_grown : (past : List Record) (p : Parts) (d e : Dating) → Grows d e → Standing past p d → Standing past p e
standing_grown past p d e grows h = record {
  keeps = h.keeps;
  dated = same_dated h.keeps.state d.dates.since e.dates.since grows.dates.since h.dated;
  ready = λ i lives. ap (λ (ks : List ℕ). is_some (first_in ks)) (grows.dates.rows.rows i.0) ∙ h.ready i lives;
  order = turn_grown (length past) p.interest d e grows h.order;
  fits = fits_grown p.interest d e grows h.fits;
  unlost = grows.choice.kept ∙ h.unlost;
}

module _ (past : List Record) (old mid left : Parts) (d e f h : Dating) (standing : Standing past old d) (caller : CallerId) (event : Event) (outcome : Outcome) (n : ℕ) (at : n ≡ length past + 1)
    (does : DoesAt (next_event standing.keeps.state) caller.0 event outcome old mid) (follows : Follows n event outcome.answer outcome.picked old d mid e) (to : SpreadsTo n outcome.raising mid e left f) where
  abbrev spreads : Spreads n outcome.raising mid left
  spreads = to.spreads

  abbrev after : List Record
  after = past ++ record_of caller event outcome ∷ []

  abbrev noted_parts : Parts
  noted_parts = record mid { interest = spreads.noted }

  abbrev forgotten : Parts → Parts
  forgotten new = record left { interest = new.interest }

  -- what follows the change adds no registration
  added_left : left.interest.added ≡ mid.interest.added
  added_left = spreads.rises.added ∙ (spreads.leaves.burial.buries.added ∙ stirs_added outcome.raising mid.tables mid.clock n mid.interest spreads.noted spreads.leaves.stirs)

  -- the dates don't sink along a row
  pub order_left : AreInTurn n left.interest f.dates
  order_left =
      let before : AreInTurn n old.interest d.dates = record { rise = standing.order.rise; past = λ i k t. let le = standing.order.past i k t in omega (arith, le, at) } in
      let after_spread = to.loses.order n (follows.loses.order n before) in
      record { rise = after_spread.rise; past = after_spread.past }

  -- what the dates come to by those before the event
  pub dates_from : (shows : Entry → Bool) → AreDated shows n left.interest f.dates.since h.dates.since → AreDated shows n left.interest d.dates.since h.dates.since
  dates_from shows dates =
      let P : Entry → Type 0 = λ x. event_at h.dates.since x.number ≡ entry_date shows n d.dates.since x in
      let each : (x : Entry) → Member x left.interest.entries → P x = λ x m.
      let key = key_of left.interest spreads.sound x m in
      let earlier = date_left n event outcome old mid left d e f follows to key.0 x key.1 in
      all_member (λ y. event_at h.dates.since y.number ≡ entry_date shows n f.dates.since y) left.interest.entries x dates.each m ∙ ap (date_of n (shows x) x.reported_in) earlier in
      record {
        each = All-from_recursion P left.interest.entries (all_by P left.interest.entries each);
        later = λ k lt. dates.later k lt ∙ (to.loses.later k lt ∙ follows.loses.later k (omega (arith, lt, added_left)));
      }

  -- Once what was passed on is forgotten.
  module _ (keys : KeepsKeys old.tables mid.tables) (coherent : AreCoherent old) (new : Parts) (rests : RestsBy (gets_mark_key n left (attend_of past old mid left standing.keeps caller event outcome n at does keys coherent spreads)) left new) where
    so : SettlesMarks n outcome.raising old mid noted_parts spreads.buried (forgotten new) new
    so = settles_marks past old mid left standing.keeps caller event outcome n at does keys coherent spreads new rests

    keeps_new : Keeps after new
    keeps_new = keeps_marked past old mid noted_parts spreads.buried (forgotten new) new standing.keeps caller event outcome n at does so

    goes : step old.tables.limits standing.keeps.state caller.0 event outcome.picked ≡ Some (outcome.answer, keeps_new.state)
    goes = step_marked past old mid noted_parts spreads.buried (forgotten new) new standing.keeps caller event outcome n at does so ∙ ap (λ (t : State). Some (outcome.answer, t)) (state_is after new keeps_new)

    -- the parts then
    tables : new.tables ≡ left.tables
    tables = ap (λ (p : Parts). p.tables) rests.others

    clock : new.clock ≡ left.clock
    clock = ap (λ (p : Parts). p.clock) rests.others

    stay : Stay left.interest new.interest
    stay = stay_mapped settled (λ x. refl) (λ x. refl) left.interest new.interest rests.entries rests.keys rests.added

    -- dates stay what they are
    dates_rest : (since : List ℕ) → AreDated (entry_shows (readiness left.tables left.clock left.interest) left.tables left.clock) n left.interest d.dates.since since
        → AreDated (entry_shows (readiness new.tables new.clock new.interest) new.tables new.clock) n new.interest d.dates.since since
    dates_rest since h =
        let q = new.interest in
        let v = left.tables in
        let before : Entry → Bool = entry_shows (readiness v left.clock left.interest) v left.clock in
        let then : Entry → Bool = entry_shows (readiness v left.clock q) v left.clock in
        let P : Entry → Type 0 = λ x. event_at since x.number ≡ entry_date then n d.dates.since x in
        let each : All (λ x. P (settled x)) left.interest.entries = λ i e lt. h.each i e lt ∙ ap (λ (b : Bool). date_of n b (get_or left.interest.entries i e).reported_in (event_at d.dates.since (get_or left.interest.entries i e).number)) (sym (shows_settled v left.clock left.interest q rests.entries (get_or left.interest.entries i e))) in
        let all : All P q.entries = subst (λ (xs : List Entry). All P xs) (sym rests.entries) (All-map P settled left.interest.entries each) in
        let over : AreDated then n q d.dates.since since = record { each = all; later = λ k lt. h.later k (omega (arith, lt, rests.added)) } in
        subst (λ (w : Seen). AreDated (entry_shows (readiness w new.clock new.interest) w new.clock) n new.interest d.dates.since since) (sym tables)
        (subst (λ (m : ℕ). AreDated (entry_shows (readiness v m q) v m) n q d.dates.since since) (sym clock) over)

    ready_rest : TellsReady left h.dates → TellsReady new h.dates
    ready_rest ready =
        let here : TellsReady (record left { interest = new.interest }) h.dates = λ i lives. ready i lives ∙ ap (λ (at : ℕ → Bool). at (number_at left.tables.keys i)) (sym (readiness_settled left.tables left.clock left.interest new.interest rests.entries)) in
        subst (λ (q : Parts). TellsReady q h.dates) (sym rests.others) here

    pub standing_next : AreDated (entry_shows (readiness left.tables left.clock left.interest) left.tables left.clock) n left.interest d.dates.since h.dates.since
        → TellsReady left h.dates → Fits left.interest h → AreInTurn n left.interest h.dates
        → (k : Dating) → k.dates ≡ h.dates → Fits new.interest k → k.choice.lost.reached ≡ [] → Standing after new k
    standing_next dates ready fits order k same fits_now unlost = record {
      keeps = keeps_new;
      dated = subst (λ (q : Dates). IsDated keeps_new.state q.since) (sym same) (
          next_dated standing.keeps.state d.dates.since standing.keeps.sound standing.dated old.tables.limits keeps_new.state caller.0 event outcome.picked outcome.answer new.tables new.interest new.clock n h.dates.since
          step_keeps_turns step_adds_one goes keeps_new.stands (at ∙ ap (λ (k : ℕ). k + 1) (sym standing.keeps.n)) (dates_rest h.dates.since dates));
      ready = subst (TellsReady new) (sym same) (ready_rest ready);
      order = subst (λ (q : Dates). AreInTurn (length after) new.interest q) (sym same)
          (subst (λ (m : ℕ). AreInTurn m new.interest h.dates) (at ∙ sym (length-append past (record_of caller event outcome ∷ []))) ((loses_none left.interest new.interest stay h.dates fits.kept).order n order));
      fits = fits_now;
      unlost = unlost;
    }

    -- the record that is added
    pub adds_by : (given : Option (List ℕ))
        → IfSome given (λ picks. outcome.picked ≡ picks)
        → AddsBy old.tables.limits caller event given outcome.answer (unwrap_or (run old.tables.limits opening past) opening) (unwrap_or (run new.tables.limits opening after) opening) past after
    adds_by None told = adds_marked past old mid noted_parts spreads.buried (forgotten new) new standing.keeps caller event outcome n at does so
    adds_by (Some picks) told = record {
      goes =
          ap (λ (s : State). step old.tables.limits s caller.0 event picks) (state_is past old standing.keeps)
          ∙ (ap (λ (ks : List ℕ). step old.tables.limits standing.keeps.state caller.0 event ks) (sym told)
          ∙ step_marked past old mid noted_parts spreads.buried (forgotten new) new standing.keeps caller event outcome n at does so);
      added = λ i. past ++ record { caller = caller; event = event; answer = outcome.answer; picked = told i } ∷ [];
    }

-- the state that an event begins in
module _ (past : List Record) (old : Parts) (keeps : Keeps past old) (n : ℕ) (at : n ≡ length past + 1) where
  pub begins : (Then : State → Type 0) → MovesBy n old Then → Then (next_event keeps.state)
  begins Then h =
      let s = keeps.state in
      h (next_event s) (ap (λ (k : ℕ). k + 1) keeps.n ∙ sym at) (sound_begun s keeps.sound) (quiet_begun s keeps.quiet) (graph_stays_legal old.tables.limits past s keeps.leads)
      (record { now = keeps.stands.now; files = keeps.stands.files; watches = keeps.stands.watches; added = keeps.stands.added; waiters = keeps.stands.waiters })

  -- what an event does of which more is known
  pub does_with : (Also : State → Type 0) (caller : ℕ) (event : Event) (outcome : Outcome) (new : Parts) → DoesEventIf Also n caller event outcome old new → Also (next_event keeps.state) → DoesAt (next_event keeps.state) caller event outcome old new
  does_with Also caller event outcome new does also = record {
    goes = begins (λ s. Also s → Goes (refusals old.tables.limits s caller event) (change old.tables.limits s caller event outcome.picked) s outcome.answer outcome.picked new) does.moves also;
    raises = begins (λ s. Also s → Raises (refusals old.tables.limits s caller event) (change old.tables.limits s caller event outcome.picked) outcome.raising new.tables new.clock) does.raises also;
    raising = does.raising;
    limits = does.limits;
  }

-- whether the machine has a step
pub begins_each : (past : List Record) (p : Parts) (keeps : Keeps past p) (Then : State → Type 0) → ForEach p Then → Then (next_event keeps.state)
begins_each past p keeps Then h =
    let s = keeps.state in
    h (next_event s) (sound_begun s keeps.sound) (graph_stays_legal p.tables.limits past s keeps.leads)
    (record { now = keeps.stands.now; files = keeps.stands.files; watches = keeps.stands.watches; added = keeps.stands.added; waiters = keeps.stands.waiters })

-- a step whose report is given, if one is
module _ (past : List Record) (p : Parts) (keeps : Keeps past p) (caller : CallerId) (event : Event) where
  pub may_report : (given : Option (List ℕ)) → HasStep p.tables.limits (unwrap_or (run p.tables.limits opening past) opening) caller event given → MayReport p caller.0 event given (next_event keeps.state)
  may_report None has = tt
  may_report (Some picks) has = ap (λ (s : State). is_some (step p.tables.limits s caller.0 event picks)) (sym (state_is past p keeps)) ∙ has

  pub reports : (n : ℕ) → n ≡ length past + 1 → (given : Option (List ℕ)) (picked : List ℕ) → MayReport p caller.0 event given (next_event keeps.state) → ReportsThese n p caller.0 event given picked → IfSome given (λ picks. picked ≡ picks)
  reports n at None picked may told = tt
  reports n at (Some picks) picked may told = begins past p keeps n at (λ s. MayGo p caller.0 event picks s → picked ≡ picks) told may

-- a second record is asked for only where no report is given
pub kept_of : {K : Type 0} (given : Option (List ℕ)) (kept : Bool) → IfSome given (λ _. kept ≡ false) → kept ≡ true → IfNone given K → K
kept_of None kept none asked keeps = keeps
kept_of (Some picks) kept none asked keeps = absurd (false≢true (sym none ∙ asked))
