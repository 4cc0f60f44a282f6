-- What holds of the kernel at the start, where an event changes nothing, and over one event.
use Rattle.std.proofs.Common.{◌≡◌, ◌<◌, ◌∙◌, ◌+◌, ◌++◌, ℕ, false, List, [], ◌∷◌, None, Option, Some, ap, filter, length, map, refl, subst, sym, take, true, unwrap_or}
use Rattle.std.proofs.lemmas.Bool.{false≢true}
use Rattle.ep_base.specs.Limits.{Limits}
use Rattle.ep_base.specs.declared.call.Event.{Event}
use Rattle.ep_base.specs.declared.ids.CallerId.{CallerId}
use Rattle.ep_base.specs.declared.ids.EntryId.{EntryId}
use Rattle.ep_base.specs.declared.record.Record.{Record}
use Rattle.ep_calls.proofs.KeepsLemmas.{DoesAt, SettlesMarks, adds_marked, keeps_opening, record_of, state_is}
use Rattle.ep_calls.specs.Acts.{Adds}
use Rattle.ep_calls.proofs.MappedLemmas.{sound_settled}
use Rattle.ep_calls.specs.Does.{DoesEventIf}
use Rattle.ep_calls.specs.Ends.{RestsBy, Spreads}
use Rattle.ep_calls.specs.Moves.{StandFor}
use Rattle.ep_calls.specs.Parts.{AreCoherent, AreOpening, Parts}
use Rattle.ep_calls.specs.Stands.{number_at}
use Rattle.ep_calls.specs.declared.outcome.Outcome.{Outcome}
use Rattle.ep_choice.specs.Marking.{gets_mark_key}
use Rattle.ep_climb.specs.Mark.{attends, left_at, resumed_at}
use Rattle.ep_interest.specs.Registrations.{IsSound, Registrations, entry_under, number_under}
use Rattle.ep_kernel.proofs.JoinLemmas.{Follows}
use Rattle.ep_kernel.proofs.AddedLemmas.{all_added}
use Rattle.ep_kernel.proofs.FewLemmas.{few_reportable}
use Rattle.ep_kernel.proofs.NextLemmas.{keeps_after, runs_next}
use Rattle.ep_interest.specs.declared.entry.Entry.{Entry}
use Rattle.std.specs.Option.{option_map}
use Rattle.ep_kernel.proofs.ReportsFirstLemmas.{waits_begun}
use Rattle.ep_choice.proofs.EndLemmas.{settles_marks}
use Rattle.ep_kernel.specs.Listed.{AreFair, HavePlaces, HopesFor, key_shows, lists_of, order_at, shows_found}
use Rattle.ep_kernel.specs.ReadyBook.{AreAdded, LeavesReportable, ReportsFirst, WaitsAt, list_of}
use Rattle.ep_kernel.specs.Running.{ListsSpread, Runs}
use Rattle.ep_kernel.specs.Turns.{Turns}
use Rattle.ep_kernel.specs.Wait.{ReportsInOrder}
use Rattle.ep_law.proofs.GraphLemmas.{graph_stays_legal}
use Rattle.ep_law.proofs.SoundLemmas.{sound_begun}
use Rattle.ep_law.specs.Laws.{is_reportable_in}
use Rattle.ep_machine.specs.Files.{is_live}
use Rattle.ep_machine.specs.Lists.{is_among}
use Rattle.ep_machine.specs.Run.{run}
use Rattle.ep_machine.specs.State.{State, opening}
use Rattle.ep_machine.specs.Step.{next_event}
use Rattle.ep_order.proofs.EventLemmas.{beginning_keeps_turns}
use Rattle.ep_order.specs.Event.{ListsGoOn}
use Rattle.ep_order.specs.Order.{IsFairOrder, Turns as Order}
use Rattle.ep_order.specs.Pick.{turns_of}
use Rattle.ep_rings.specs.KeyWalk.{entry_id}
use Rattle.ep_ready.specs.ReadyLists.{IsSound as AreSoundLists, Lists, Same, empty, instance_at, stands, stands_by}
use Rattle.ep_table.specs.Value.{Sound as SoundTables}
use Rattle.ep_view.proofs.AtRestLemmas.{quiet_begun}

-- no registration and no list
pub runs_opening : (limits : Limits) (p : Parts) (l : Lists) → AreOpening limits p → l ≡ empty → Runs [] p l
runs_opening limits p l opens is =
    let none : (id : EntryId) → entry_under p.interest id ≡ None = λ id. ap (λ (r : Registrations). entry_under r id) opens.interest in
    let hides : (k : ℕ) → key_shows p k ≡ false = λ k. ap (shows_found p) (none (entry_id k)) in
    let places : HavePlaces p.interest l = λ id. ap (λ (m : Lists). instance_at m id) is ∙ sym (ap (option_map (λ (x : Entry). x.instance.0)) (none id)) in
    let keeps = keeps_opening limits p opens in
    record {
      keeps = keeps;
      listed = record {
        places = places;
        sound = λ id x h t. absurd (let no : None ≡ Some x = sym (none id) ∙ h in cc);
        complete = λ k t. absurd (false≢true (sym (hides k) ∙ t));
      };
      fair = λ i. subst (λ (m : Lists). IsFairOrder (turns_of keeps.state (number_at p.tables.keys (record { 0 = i }))) (order_at p.interest m i)) (sym is) tt;
    }

pub hopes_opening : (limits : Limits) (p : Parts) (l : Lists) → AreOpening limits p → l ≡ empty → HopesFor p l
hopes_opening limits p l opens is = let listed = (runs_opening limits p l opens is).listed in record { places = listed.places; complete = listed.complete }

-- lists that are the same
stands_same : (l m : Lists) → Same l m → (id : EntryId) → stands l id ≡ stands m id
stands_same l m same id = ap (stands_by l id.0) (same.places id) ∙ by (instance_at m id) where
  by : (o : Option ℕ) → stands_by l id.0 o ≡ stands_by m id.0 o
  by None = refl
  by (Some i) = ap (λ (ks : List ℕ). is_among ks id.0) (same.lists i)

pub runs_same : (past : List Record) (p : Parts) (l m : Lists) → Same l m → Runs past p l → Runs past p m
runs_same past p l m same runs = record {
  keeps = runs.keeps;
  listed = record {
    places = λ id. sym (same.places id) ∙ runs.listed.places id;
    sound = λ id x h t. runs.listed.sound id x h (stands_same l m same id ∙ t);
    complete = λ k t. sym (stands_same l m same (entry_id k)) ∙ runs.listed.complete k t;
  };
  fair = λ i. subst (λ (ks : List ℕ). IsFairOrder (turns_of runs.keeps.state (number_at p.tables.keys (record { 0 = i }))) (map (λ k. unwrap_or (number_under p.interest (entry_id k)) 0) ks)) (same.lists i) (runs.fair i);
}

-- what an event does, at the state that the history leads to
pub does_fairly : (past : List Record) (old new : Parts) (l : Lists) (runs : Runs past old l) (n caller : ℕ) (event : Event) (outcome : Outcome) → n ≡ length past + 1
    → DoesEventIf (λ s. AreFair s old l) n caller event outcome old new → DoesAt (next_event runs.keeps.state) caller event outcome old new
does_fairly past old new l runs n caller event outcome at does =
    let keeps = runs.keeps in
    let s = keeps.state in
    let begins : (next_event s).n ≡ n = ap (λ (k : ℕ). k + 1) keeps.n ∙ sym at in
    let legal = graph_stays_legal old.tables.limits past s keeps.leads in
    let stand : StandFor old (next_event s) = record { now = keeps.stands.now; files = keeps.stands.files; watches = keeps.stands.watches; added = keeps.stands.added; waiters = keeps.stands.waiters } in
    let fair : AreFair (next_event s) old l = λ i. subst (λ (o : Order). IsFairOrder o (order_at old.interest l i)) (sym (beginning_keeps_turns s (number_at old.tables.keys (record { 0 = i })))) (runs.fair i) in
    record {
      goes = does.moves (next_event s) begins (sound_begun s keeps.sound) (quiet_begun s keeps.quiet) legal stand fair;
      raises = does.raises (next_event s) begins (sound_begun s keeps.sound) (quiet_begun s keeps.quiet) legal stand fair;
      raising = does.raising;
      limits = does.limits;
    }

module _ (law : ListsGoOn) (past : List Record) (old mid new : Parts) (l0 l1 l3 : Lists) (runs : Runs past old l0) (coherent : AreCoherent old) (tables : SoundTables old.tables) (was : IsSound old.interest) (before : AreSoundLists l0) (after : AreSoundLists l3)
    (caller : CallerId) (event : Event) (outcome : Outcome) (n : ℕ) (at : n ≡ length past + 1) (does : DoesEventIf (λ s. AreFair s old l0) n caller.0 event outcome old mid)
    (turns : Turns event outcome.picked old l0 mid l1) (left : Parts) (spreads : Spreads n outcome.raising mid left) (lists : ListsSpread n mid spreads.noted spreads.buried l1 l3)
    (rests : RestsBy (gets_mark_key n left (attends (left_at left.parked caller.0 (resumed_at old.parked caller.0 event)) outcome.raising)) left new) where
  -- once what the event raised was noted
  abbrev pub noted : Parts
  noted = record mid { interest = spreads.noted }

  -- once what was passed on is forgotten, before marks are set
  abbrev pub climbed : Parts
  climbed = record left { interest = new.interest }

  pub does_at : DoesAt (next_event runs.keeps.state) caller.0 event outcome old mid
  does_at = does_fairly past old mid l0 runs n caller.0 event outcome at does

  settled_so : SettlesMarks n outcome.raising old mid noted spreads.buried climbed new
  settled_so = settles_marks past old mid left runs.keeps caller event outcome n at does_at does.keys coherent spreads new rests

  pub follows : Follows n event outcome old mid noted spreads.buried climbed new l0 l1 lists.between l3
  follows = record {
    coherent = coherent;
    tables = tables;
    keys = does.keys;
    leaves = spreads.leaves;
    settles = settled_so;
    climbed_keys = rests.keys ∙ spreads.keys;
    was = was;
    now = sound_settled left.interest new.interest rests.entries rests.keys rests.added spreads.sound;
    turns = turns;
    loses = lists.loses;
    gains = lists.gains;
    lists_before = before;
    lists_after = after;
  }

  pub runs_on : Runs (past ++ record_of caller event outcome ∷ []) new l3
  runs_on = runs_next law past n event outcome old mid noted spreads.buried climbed new l0 l1 lists.between l3 follows caller at runs does_at

  pub adds_on : Adds old.tables.limits caller event outcome.answer (unwrap_or (run old.tables.limits opening past) opening) (unwrap_or (run new.tables.limits opening (past ++ record_of caller event outcome ∷ [])) opening) past (past ++ record_of caller event outcome ∷ [])
  adds_on = adds_marked past old mid noted spreads.buried climbed new runs.keeps caller event outcome n at does_at settled_so

  -- it reports in the order of the lists
  pub first_on : ReportsInOrder l0 n caller.0 event outcome old mid l1 → ReportsFirst (unwrap_or (run old.tables.limits opening past) opening) caller.0 event outcome.answer outcome.picked (list_of (lists_of old l0))
  first_on told =
      let keeps = runs.keeps in
      let s = keeps.state in
      let begins : (next_event s).n ≡ n = ap (λ (k : ℕ). k + 1) keeps.n ∙ sym at in
      let legal = graph_stays_legal old.tables.limits past s keeps.leads in
      let stand : StandFor old (next_event s) = record { now = keeps.stands.now; files = keeps.stands.files; watches = keeps.stands.watches; added = keeps.stands.added; waiters = keeps.stands.waiters } in
      let first = (told (next_event s) begins (sound_begun s keeps.sound) (quiet_begun s keeps.quiet) legal stand).0 in
      subst (λ (u : State). ReportsFirst u caller.0 event outcome.answer outcome.picked (list_of (lists_of old l0))) (sym (state_is past old keeps))
      (λ e most reports is waits. first e most reports is (waits_begun s caller.0 event e most waits)
      ∙ ap (λ (o : Order). take most (filter o.ready (list_of (lists_of old l0) e))) (beginning_keeps_turns s e))

  -- and where it finds few, what it leaves is reportable
  pub few_on : ReportsInOrder l0 n caller.0 event outcome old mid l1
      → LeavesReportable (unwrap_or (run old.tables.limits opening past) opening) (unwrap_or (run new.tables.limits opening (past ++ record_of caller event outcome ∷ [])) opening) caller.0 event outcome.answer (list_of (lists_of new l3))
  few_on told =
      let keeps = runs.keeps in
      let s = keeps.state in
      let begins : (next_event s).n ≡ n = ap (λ (k : ℕ). k + 1) keeps.n ∙ sym at in
      let legal = graph_stays_legal old.tables.limits past s keeps.leads in
      let stand : StandFor old (next_event s) = record { now = keeps.stands.now; files = keeps.stands.files; watches = keeps.stands.watches; added = keeps.stands.added; waiters = keeps.stands.waiters } in
      let leaves = (told (next_event s) begins (sound_begun s keeps.sound) (quiet_begun s keeps.quiet) legal stand).1 in
      let few = few_reportable law past n event outcome old mid noted spreads.buried climbed new l0 l1 lists.between l3 follows caller at runs does_at leaves in
      let after = keeps_after law past n event outcome old mid noted spreads.buried climbed new l0 l1 lists.between l3 follows caller at runs does_at in
      (λ e most reports is. subst (λ (u : State). (v : State) → v ≡ after.state → WaitsAt u caller.0 event e most → length reports < most → is_live v.files e ≡ true → (k : ℕ) → is_among (list_of (lists_of new l3) e) k ≡ true → is_reportable_in v e k ≡ true) (sym (state_is past old keeps))
      (λ v same waits short live k on. ap (λ (w : State). is_reportable_in w e k) same ∙ few e most reports is waits short (ap (λ (w : State). is_live w.files e) (sym same) ∙ live) k on)
      _ (state_is (past ++ record_of caller event outcome ∷ []) new after))

  -- what comes to a list was added to it
  pub added_on : AreAdded old.tables.limits caller.0 event outcome.picked (unwrap_or (run old.tables.limits opening past) opening) (unwrap_or (run new.tables.limits opening (past ++ record_of caller event outcome ∷ [])) opening) (list_of (lists_of old l0)) (list_of (lists_of new l3))
  added_on =
      let after = keeps_after law past n event outcome old mid noted spreads.buried climbed new l0 l1 lists.between l3 follows caller at runs does_at in
      let added = all_added law past n event outcome old mid noted spreads.buried climbed new l0 l1 lists.between l3 follows caller at runs does_at in
      subst (λ (u : State). AreAdded old.tables.limits caller.0 event outcome.picked u (unwrap_or (run new.tables.limits opening (past ++ record_of caller event outcome ∷ [])) opening) (list_of (lists_of old l0)) (list_of (lists_of new l3))) (sym (state_is past old runs.keeps))
      (subst (λ (v : State). AreAdded old.tables.limits caller.0 event outcome.picked runs.keeps.state v (list_of (lists_of old l0)) (list_of (lists_of new l3))) (sym (state_is (past ++ record_of caller event outcome ∷ []) new after)) added)
