-- The states of runs are regular.
use Rattle.std.proofs.Common.{◌≡◌, ℕ, true, List, [], ◌∷◌, None, Option, Some, MatchOption, ap, filter, subst, sym, ◌∙◌}
use Rattle.ep_facts.proofs.BoolFacts.{first_of_and}
use Rattle.ep_base.specs.Limits.{Limits}
use Rattle.ep_base.specs.declared.answer.Answer.{Answer}
use Rattle.ep_base.specs.declared.call.Event.{Event}
use Rattle.ep_base.specs.declared.errno.Errno.{Errno}
use Rattle.ep_base.specs.declared.record.Record.{Record}
use Rattle.ep_machine.specs.Deaths.{die_all, dying, is_kept}
use Rattle.ep_machine.specs.Effect.{first}
use Rattle.ep_machine.specs.Files.{is_live}
use Rattle.ep_machine.specs.Refusal.{refusals}
use Rattle.ep_machine.specs.Run.{run}
use Rattle.ep_machine.specs.Settle.{came, reportable_numbers, settle}
use Rattle.ep_machine.specs.Spread.{arrived}
use Rattle.ep_machine.specs.Deaths.{buried}
use Rattle.ep_machine.specs.State.{Change, State, Watch, opening}
use Rattle.ep_machine.specs.Step.{change, next_event, refused_or, settled, step}
use Rattle.ep_law.specs.Laws.{Member}
use Rattle.ep_law.specs.Narrow.{ChangesAreRegular, IsRegular, RunsAreRegular}
use Rattle.ep_law.specs.Sound.{Sound}
use Rattle.ep_law.proofs.GraphLemmas.{Linked, came_link, linked_begun, linked_change, linked_opening, linked_settle, linked_step, member_of_map}
use Rattle.ep_law.proofs.ListLemmas.{filtered_passes}
use Rattle.ep_law.proofs.SoundLemmas.{sound_begun, sound_change, sound_opening, sound_settle, sound_step}
use Rattle.ep_law.proofs.StepLemmas.{run_keeps}

-- each registration is of an instance that lives
abbrev Lives : State → Type 0
Lives s = (x : Watch) → Member x s.watches → is_live s.files x.instance ≡ true

lives_settle : (before after : State) (raised : List (ℕ × ℕ)) → Lives (settle before after raised)
lives_settle before after raised y m =
    let files = (die_all (after.files, raised) (dying after)).0 in
    let left = buried after raised in
    let kept = filter (is_kept (record after { files = files })) after.watches in
    let r = member_of_map (came (reportable_numbers before) (arrived left.0 left.1)) kept y m in
    let lives = first_of_and (is_live files r.0.instance) _ (filtered_passes (is_kept (record after { files = files })) after.watches r.0 r.1) in
    subst (λ (l : ℕ × ℕ). is_live files l.0 ≡ true) (sym (came_link (reportable_numbers before) (arrived left.0 left.1) r.0) ∙ ap (λ (x : Watch). (x.instance, x.target)) r.2) lives

IsStep : Option (Answer × State) → Type 0
IsStep o = MatchOption o (Unit {0}) (λ c. Lives c.1)

lives_settled : (before : State) (c : Option Change) → IsStep (settled before c)
unfolding IsStep
lives_settled before None = tt
lives_settled before (Some c) = lives_settle before c.1 c.2

lives_refused : (e : Option Errno) (s : State) (ks : List ℕ) (c : Option Change) → Lives s → IsStep (refused_or e s ks c)
unfolding IsStep
lives_refused None s ks c h = lives_settled s c
lives_refused (Some e) s [] c h = h
lives_refused (Some e) s (k ∷ ks) c h = tt

lives_step : (limits : Limits) (s t : State) (caller : ℕ) (event : Event) (picked : List ℕ) (a : Answer) → Lives s → step limits s caller event picked ≡ Some (a, t) → Lives t
unfolding IsStep
lives_step limits s t caller event picked a h e =
    let now = next_event s in
    subst IsStep e (lives_refused (first (refusals limits now caller event)) now picked (change limits now caller event picked) h)

regular : (s : State) → Linked s → Sound s → Lives s → IsRegular s
regular s linked sound lives = record {
  legal = linked.legal;
  instances = λ x m. (linked.instances x m).holds (lives x m);
  exclusive = λ x m is. (linked.exclusive x m is).target;
  numbers = sound.numbers;
}

-- what a step keeps, and what makes a state regular
pub record WellMade (s : State) : Type 0 where
  pub linked : Linked s
  pub sound : Sound s
  pub lives : Lives s

pub regular_from : (s : State) → WellMade s → IsRegular s
regular_from s h = regular s h.linked h.sound h.lives

pub well_made_step : (limits : Limits) (s t : State) (caller : ℕ) (event : Event) (picked : List ℕ) (a : Answer) → WellMade s → step limits s caller event picked ≡ Some (a, t) → WellMade t
well_made_step limits s t caller event picked a h e = record {
  linked = linked_step limits s t caller event picked a h.linked e;
  sound = sound_step limits s t caller event picked a h.sound e;
  lives = lives_step limits s t caller event picked a h.lives e;
}

pub well_made_opening : WellMade opening
well_made_opening = record { linked = linked_opening; sound = sound_opening; lives = λ x m. absurd m }

pub well_made_run : (limits : Limits) (past : List Record) (s : State) → run limits opening past ≡ Some s → WellMade s
well_made_run limits past s is = run_keeps WellMade limits (well_made_step limits) opening s past well_made_opening is

pub runs_are_regular : RunsAreRegular
runs_are_regular limits past s is = regular_from s (well_made_run limits past s is)

-- the settling of a change
pub regular_settle : (limits : Limits) (s : State) (caller : ℕ) (event : Event) (picked : List ℕ) (c : Change) → WellMade s → first (refusals limits (next_event s) caller event) ≡ None
    → change limits (next_event s) caller event picked ≡ Some c → IsRegular (settle (next_event s) c.1 c.2)
regular_settle limits s caller event picked c h allowed made =
    let b = next_event s in
    let linked = linked_change limits b caller event picked c allowed made (linked_begun s h.linked) in
    let sound = sound_change limits b caller event picked c made (sound_begun s h.sound) in
    regular (settle b c.1 c.2) (linked_settle b c.1 c.2 linked) (sound_settle b c.1 c.2 sound) (lives_settle b c.1 c.2)

pub changes_are_regular : ChangesAreRegular
changes_are_regular limits past s caller event picked c is = regular_settle limits s caller event picked c (well_made_run limits past s is)
