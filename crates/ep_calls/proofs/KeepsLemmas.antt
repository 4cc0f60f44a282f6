-- What a kernel keeps, at the start and over one event.
use Rattle.std.proofs.Common.{◌≡◌, ◌+◌, ◌++◌, ◌∙◌, ℕ, Bool, List, [], ◌∷◌, Option, Some, ap, length, map, refl, subst, sym, unwrap_or}
use Rattle.std.proofs.lemmas.List.{length-append}
use Rattle.ep_base.specs.Limits.{Limits}
use Rattle.ep_base.specs.declared.call.Event.{Event}
use Rattle.ep_base.specs.declared.ids.CallerId.{CallerId}
use Rattle.ep_base.specs.declared.record.Record.{Record}
use Rattle.ep_interest.specs.Registrations.{Registrations}
use Rattle.ep_machine.specs.Marks.{marked_by}
use Rattle.ep_machine.specs.Refusal.{refusals}
use Rattle.ep_machine.specs.Run.{run}
use Rattle.ep_machine.specs.State.{State, Waiter, opening}
use Rattle.ep_machine.specs.Step.{next_event, change, step}
use Rattle.ep_view.proofs.AtRestLemmas.{quiet_opening}
use Rattle.ep_law.proofs.SoundLemmas.{sound_opening}
use Rattle.ep_law.proofs.StepLemmas.{run_next}
use Rattle.ep_calls.specs.Acts.{Adds}
use Rattle.ep_calls.specs.Burial.{Burial}
use Rattle.ep_calls.specs.Climb.{Climbs}
use Rattle.ep_calls.specs.Moves.{Goes, StandFor, StandsBuried, gets_mark_in}
use Rattle.ep_calls.specs.Parking.{raises_in}
use Rattle.ep_calls.specs.Raising.{IsRaising, Raises, Stirs}
use Rattle.ep_calls.specs.Stands.{number_at, waiters_at, watch_at}
use Rattle.ep_calls.specs.declared.raising.Raising.{Raising}
use Rattle.ep_calls.specs.Keeps.{Keeps}
use Rattle.ep_calls.specs.Parts.{AreCoherent, AreOpening, Parts}
use Rattle.ep_calls.specs.declared.outcome.Outcome.{Outcome}
use Rattle.ep_calls.proofs.StepLemmas.{Leads, leads, marked_stands}
use Rattle.ep_table.specs.Value.{Sound as SoundTables}

-- the opening parts stand for the opening state
pub keeps_opening : (limits : Limits) (p : Parts) → AreOpening limits p → Keeps [] p
keeps_opening limits p h = record {
  state = opening;
  leads = refl;
  n = refl;
  sound = sound_opening;
  quiet = quiet_opening;
  stands = record {
    now = sym h.clock;
    files = sym h.files;
    watches = ap (λ (r : Registrations). map (watch_at p.tables.keys) r.entries) (sym h.interest);
    added = ap (λ (r : Registrations). r.added) (sym h.interest);
    waiters = ap (waiters_at p.tables.keys) (sym h.parked);
  };
}

-- the state that contracts see is the one for which the parts stand
pub state_is : (past : List Record) (p : Parts) (keeps : Keeps past p) → unwrap_or (run p.tables.limits opening past) opening ≡ keeps.state
state_is past p keeps = ap (λ (o : Option State). unwrap_or o opening) keeps.leads

abbrev pub record_of : CallerId → Event → Outcome → Record
record_of caller event outcome = record { caller = caller; event = event; answer = outcome.answer; picked = outcome.picked }

-- what an event does, at one state of the machine
pub record DoesAt (s : State) (caller : ℕ) (event : Event) (outcome : Outcome) (old new : Parts) : Type 0 where
  pub goes : Goes (refusals old.tables.limits s caller event) (change old.tables.limits s caller event outcome.picked) s outcome.answer outcome.picked new
  pub raises : Raises (refusals old.tables.limits s caller event) (change old.tables.limits s caller event outcome.picked) outcome.raising new.tables new.clock
  pub raising : IsRaising outcome.raising new.tables
  pub limits : new.tables.limits ≡ old.tables.limits

-- what follows a change in event n: what it raised is noted, the dead are taken, what was raised climbs and is
-- forgotten, and marks are set by a test of the keys of instances
pub record SettlesBy (test : ℕ → Bool) (n : ℕ) (raising : Raising) (mid noted buried climbed new : Parts) : Type 0 where
  pub coherent : AreCoherent mid
  pub sound : SoundTables mid.tables
  pub stirs : Stirs raising mid.tables mid.clock n mid.interest noted.interest
  pub noted_others : noted ≡ record mid { interest = noted.interest }
  pub burial : Burial n noted.tables noted.interest buried.tables buried.interest
  pub parked : buried.parked ≡ noted.parked
  pub clock : buried.clock ≡ noted.clock
  pub coherent_buried : AreCoherent buried
  pub sound_buried : SoundTables buried.tables
  pub climbs : Climbs n buried.tables buried.interest climbed.interest
  pub climbed_others : climbed ≡ record buried { interest = climbed.interest }
  pub marks : new.parked ≡ marked_by test climbed.clock climbed.parked
  pub marked_others : new ≡ record climbed { parked = new.parked }

-- what the machine marks, by the keys of instances, for an event that began with the parts `old`: what is ready, and
-- unguarded or woken
abbrev pub machine_marks : ℕ → Raising → Parts → Parts → Parts → ℕ → Bool
machine_marks n raising old mid buried k =
    gets_mark_in n (waiters_at old.tables.keys old.parked) (raises_in raising mid.tables mid.clock) buried (number_at buried.tables.keys (record { 0 = k }))

-- by that
abbrev pub SettlesMarks : ℕ → Raising → Parts → Parts → Parts → Parts → Parts → Parts → Type 0
SettlesMarks n raising old mid noted buried climbed new =
    SettlesBy (machine_marks n raising old mid buried) n raising mid noted buried climbed new

-- by a test for which the parts at the end stand for each state to which the event leads
module _ (past : List Record) (old mid noted buried climbed new : Parts) (keeps : Keeps past old) (caller : CallerId) (event : Event) (outcome : Outcome) (n : ℕ) (at : n ≡ length past + 1)
    (does : DoesAt (next_event keeps.state) caller.0 event outcome old mid) (test : ℕ → Bool) (settles : SettlesBy test n outcome.raising mid noted buried climbed new)
    (stand : (t : State) → run old.tables.limits opening (past ++ record_of caller event outcome ∷ []) ≡ Some t → StandsBuried n keeps.state.waiters (raises_in outcome.raising mid.tables mid.clock) buried t
    → StandFor (record buried { interest = climbed.interest; parked = new.parked }) t) where
  abbrev after : List Record
  after = past ++ record_of caller event outcome ∷ []

  burial : Burial n mid.tables noted.interest buried.tables buried.interest
  burial = subst (λ (p : Parts). Burial n p.tables p.interest buried.tables buried.interest) settles.noted_others settles.burial

  next : Leads old.tables.limits keeps.state caller.0 event outcome.answer outcome.picked n (raises_in outcome.raising mid.tables mid.clock) buried
  next =
      leads n mid noted.interest outcome.raising settles.coherent settles.sound does.raising settles.stirs
      buried burial (settles.parked ∙ ap (λ (p : Parts). p.parked) settles.noted_others) (settles.clock ∙ ap (λ (p : Parts). p.clock) settles.noted_others) settles.sound_buried
      old.tables.limits keeps.state caller.0 event outcome.answer outcome.picked (ap (λ (k : ℕ). k + 1) keeps.n ∙ sym at) keeps.sound keeps.quiet past keeps.leads does.goes does.raises

  leads_on : run old.tables.limits opening after ≡ Some next.to
  leads_on = run_next old.tables.limits keeps.state next.to past (record_of caller event outcome) keeps.leads next.goes

  length_is : length after ≡ length past + 1
  length_is = length-append past (record_of caller event outcome ∷ [])

  settled_is : new ≡ record buried { interest = climbed.interest; parked = new.parked }
  settled_is = settles.marked_others ∙ ap (λ (p : Parts). record p { parked = new.parked }) settles.climbed_others

  limits_left : new.tables.limits ≡ old.tables.limits
  limits_left = ap (λ (p : Parts). p.tables.limits) settled_is ∙ (burial.buries.limits ∙ does.limits)

  pub keeps_after : Keeps after new
  keeps_after = record {
    state = next.to;
    leads = ap (λ (l : Limits). run l opening after) limits_left ∙ leads_on;
    n = next.n ∙ (at ∙ sym length_is);
    sound = next.sound;
    quiet = next.quiet;
    stands = subst (λ (p : Parts). StandFor p next.to) (sym settled_is) (stand next.to leads_on next.stands);
  }

  -- the state to which the history leads then
  state_now : unwrap_or (run new.tables.limits opening after) opening ≡ next.to
  state_now = ap (λ (o : Option State). unwrap_or o opening) (ap (λ (l : Limits). run l opening after) limits_left ∙ leads_on)

  pub step_after : step old.tables.limits keeps.state caller.0 event outcome.picked ≡ Some (outcome.answer, unwrap_or (run new.tables.limits opening after) opening)
  step_after = next.goes ∙ ap (λ (s : State). Some (outcome.answer, s)) (sym state_now)

  pub adds_after : Adds old.tables.limits caller event outcome.answer (unwrap_or (run old.tables.limits opening past) opening) (unwrap_or (run new.tables.limits opening after) opening) past after
  adds_after = record {
    picked = outcome.picked;
    goes = ap (λ (s : State). step old.tables.limits s caller.0 event outcome.picked) (state_is past old keeps) ∙ step_after;
    added = refl;
  }

-- whatever is exclusive
module _ (past : List Record) (old mid noted buried climbed new : Parts) (keeps : Keeps past old) (caller : CallerId) (event : Event) (outcome : Outcome) (n : ℕ) (at : n ≡ length past + 1)
    (does : DoesAt (next_event keeps.state) caller.0 event outcome old mid) (settles : SettlesMarks n outcome.raising old mid noted buried climbed new) where
  abbrev by_marks : ℕ → Bool
  by_marks = machine_marks n outcome.raising old mid buried

  stand_marked : (t : State) → run old.tables.limits opening (past ++ record_of caller event outcome ∷ []) ≡ Some t → StandsBuried n keeps.state.waiters (raises_in outcome.raising mid.tables mid.clock) buried t
      → StandFor (record buried { interest = climbed.interest; parked = new.parked }) t
  stand_marked t led h =
      marked_stands n buried climbed.interest new.parked keeps.state.waiters (raises_in outcome.raising mid.tables mid.clock) t settles.climbs settles.sound_buried settles.coherent_buried.placed
      (settles.marks
      ∙ ((λ i. marked_by by_marks (settles.climbed_others i).clock (settles.climbed_others i).parked)
      ∙ ap (λ (ws : List Waiter). marked_by (λ k. gets_mark_in n ws (raises_in outcome.raising mid.tables mid.clock) buried (number_at buried.tables.keys (record { 0 = k }))) buried.clock buried.parked) (sym keeps.stands.waiters))) h

  pub keeps_marked : Keeps (past ++ record_of caller event outcome ∷ []) new
  keeps_marked = keeps_after past old mid noted buried climbed new keeps caller event outcome n at does by_marks settles stand_marked

  pub step_marked : step old.tables.limits keeps.state caller.0 event outcome.picked ≡ Some (outcome.answer, unwrap_or (run new.tables.limits opening (past ++ record_of caller event outcome ∷ [])) opening)
  step_marked = step_after past old mid noted buried climbed new keeps caller event outcome n at does by_marks settles stand_marked

  pub adds_marked : Adds old.tables.limits caller event outcome.answer (unwrap_or (run old.tables.limits opening past) opening) (unwrap_or (run new.tables.limits opening (past ++ record_of caller event outcome ∷ [])) opening) past (past ++ record_of caller event outcome ∷ [])
  adds_marked = adds_after past old mid noted buried climbed new keeps caller event outcome n at does by_marks settles stand_marked
