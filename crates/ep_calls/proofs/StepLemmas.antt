-- An event of a kernel as a step of the machine.
use Rattle.std.proofs.Common.{◌≡◌, ◌+◌, ◌&&◌, ◌∙◌, nat_lt, ℕ, All, Bool, List, [], ◌∷◌, Option, Some, None, ap, map, refl, subst, sym}
use Rattle.std.specs.Prelude.{MatchOption}
use Rattle.std.proofs.lemmas.List.Elements.{All-head, All-tail}
use Rattle.ep_base.specs.Limits.{Limits}
use Rattle.ep_base.specs.declared.answer.Answer.{Answer}
use Rattle.ep_base.specs.declared.answer.Answer.TheVariants.{Refused}
use Rattle.ep_base.specs.declared.call.Event.{Event}
use Rattle.ep_base.specs.declared.errno.Errno.{Errno}
use Rattle.ep_interest.specs.Registrations.{Registrations}
use Rattle.ep_machine.specs.Effect.{first}
use Rattle.ep_machine.specs.Counts.{brings}
use Rattle.ep_base.specs.declared.record.Record.{Record}
use Rattle.ep_law.proofs.ListLemmas.{all_member}
use Rattle.ep_law.proofs.RegularLemmas.{changes_are_regular, well_made_run}
use Rattle.ep_machine.specs.Bits.{IN, asked, has_bit}
use Rattle.ep_machine.specs.Files.{object_of}
use Rattle.ep_machine.specs.Run.{run}
use Rattle.ep_view.specs.KernelView.{freshened, freshened_by, kernel_watches, kernel_watch, stirred as raised_in, at_number}
use Rattle.ep_machine.specs.Marks.{marked_by}
use Rattle.ep_view.specs.AtRest.{Changed, Settles, IsSteady, AtRest, kind_of}
use Rattle.ep_machine.specs.Refusal.{refusals}
use Rattle.ep_machine.specs.Settle.{settle}
use Rattle.ep_law.specs.Sound.{Sound}
use Rattle.ep_machine.specs.State.{Change, State, Waiter, Watch, opening}
use Rattle.ep_machine.specs.Step.{next_event, change, step}
use Rattle.ep_law.proofs.StepLemmas.{after_first, change_counted, change_n, refused_step, step_changed}
use Rattle.ep_view.proofs.AtRestLemmas.{quiet_begun, quiet_change, quiet_step, weaken}
use Rattle.ep_view.proofs.WaiterLemmas.{marks_at}
use Rattle.ep_view.proofs.SettleLemmas.{settle_changed, settled_quiet}
use Rattle.ep_law.proofs.SoundLemmas.{sound_begun, sound_step}
use Rattle.ep_calls.specs.Burial.{Burial}
use Rattle.ep_calls.specs.Climb.{Climbs}
use Rattle.ep_calls.specs.Moves.{Goes, gets_mark_in, Makes, Refuses, StandFor, StandsBuried, StandsRaised}
use Rattle.ep_calls.specs.Parking.{raises_in}
use Rattle.ep_calls.specs.Raising.{AsRaised, AsRaisedIn, IsRaising, Raises, Stirs, raised_bits}
use Rattle.ep_calls.specs.Stands.{ArePlaced, number_at, waiters_at}
use Rattle.ep_calls.specs.declared.raising.Raising.{Raising}
use Rattle.ep_calls.proofs.HoldLemmas.{numbers_apart_at}
use Rattle.ep_calls.proofs.RaiseLemmas.{Freshens, stirs_added, stirs_watches}
use Rattle.ep_calls.specs.Parts.{AreCoherent, Parts}
use Rattle.ep_calls.proofs.DeathLemmas.{buried_stands, remains_of}
use Rattle.ep_calls.proofs.PartsLemmas.{coherent_raised}
use Rattle.ep_table.specs.Value.{Sound as SoundTables}

settle_n : (before after : State) (raised : List (ℕ × ℕ)) → (settle before after raised).n ≡ after.n
settle_n before after raised = refl

-- what an event leads to, once the dead are gone
pub record Leads (limits : Limits) (s : State) (caller : ℕ) (event : Event) (answer : Answer) (picked : List ℕ) (events : ℕ) (raised : ℕ → Bool) (buried : Parts) : Type 0 where
  pub to : State
  pub goes : step limits s caller event picked ≡ Some (answer, to)
  pub n : to.n ≡ events
  pub sound : Sound to
  pub quiet : AtRest to
  pub stands : StandsBuried events s.waiters raised buried to

-- what is noted in event n of what it raised, in the registrations `noted`
module _ (n : ℕ) (mid : Parts) (noted : Registrations) (raising : Raising) (coherent : AreCoherent mid) (sound : SoundTables mid.tables) (is : IsRaising raising mid.tables) (stirs : Stirs raising mid.tables mid.clock n mid.interest noted) where
  abbrev bits : ℕ → ℕ
  bits = raised_bits raising mid.tables mid.clock

  freshens : Freshens mid.tables n bits mid.interest.entries noted.entries
  freshens = stirs_watches raising mid.tables mid.clock n mid.interest noted stirs sound is coherent.linked

  module _ (made : State) (raised : List (ℕ × ℕ)) (as_raised : AsRaisedIn made.files raising mid.tables mid.clock raised) where
    freshened_same : (ws : List Watch) → All (λ w. IsSteady made.files w.instance w.target) ws → map (freshened n raised) (kernel_watches made ws) ≡ map (freshened_by n bits) (kernel_watches made ws)
    freshened_same [] h = refl
    freshened_same (w ∷ ws) h =
        let one = ap (λ (b : ℕ). raised_in n (brings w.mask b) (w.armed && nat_lt 0 (asked w.mask b)) (kernel_watch made w)) (as_raised w.target (All-head (λ w. IsSteady made.files w.instance w.target) w ws h).target_shows) in
        let rest = freshened_same ws (All-tail (λ w. IsSteady made.files w.instance w.target) w ws h) in λ i. one i ∷ rest i

    pub raised_stands : StandFor mid made → All (λ w. IsSteady made.files w.instance w.target) made.watches → StandsRaised n (record mid { interest = noted }) raised made
    raised_stands stands steady = record {
      now = stands.now;
      files = stands.files;
      watches = freshened_same made.watches steady ∙ (ap (map (freshened_by n bits)) stands.watches ∙ sym freshens.watches);
      added = stands.added ∙ sym (stirs_added raising mid.tables mid.clock n mid.interest noted stirs);
      waiters = stands.waiters;
    }

  -- and once the dead are gone
  module _ (buried : Parts) (burial : Burial n mid.tables noted buried.tables buried.interest) (parked : buried.parked ≡ mid.parked) (clock : buried.clock ≡ mid.clock) (sound_buried : SoundTables buried.tables) where
    abbrev raised_now : ℕ → Bool
    raised_now = raises_in raising mid.tables mid.clock

    left_stands : (waited : List Waiter) (made t : State) (raised : List (ℕ × ℕ)) → StandFor mid made → Changed made → Settles waited made raised t → made.n ≡ n → AsRaisedIn made.files raising mid.tables mid.clock raised → StandsBuried n waited raised_now buried t
    left_stands waited made t raised stands changed settled at as_raised =
        buried_stands n (record mid { interest = noted }) buried (coherent_raised n mid raising noted coherent sound is stirs) burial parked clock sound_buried made t raised (remains_of waited made t raised settled) at
        (raised_stands made raised as_raised stands changed.watches) waited settled raised_now (λ w m.
        let one = all_member (λ u. kind_of (object_of made.files u.instance) ≡ 1) made.waiters w changed.waiting m in
        ap (λ (b : ℕ). has_bit b IN) (as_raised w.instance (ap (λ (k : ℕ). nat_lt 0 k) one)))

    -- from the state before, as the event begins
    module _ (limits : Limits) (s : State) (caller : ℕ) (event : Event) (answer : Answer) (picked : List ℕ) (at : s.n + 1 ≡ n) (sound_old : Sound s) (quiet : AtRest s) (past : List Record) (led : run limits opening past ≡ Some s) where
      by_refusal : (e : Errno) → first (refusals limits (next_event s) caller event) ≡ Some e → Refuses (next_event s) e answer picked mid → AsRaised raising mid.tables mid.clock [] → Leads limits s caller event answer picked n raised_now buried
      by_refusal e h r none =
          let P : Answer → List ℕ → Type 0 = λ a ks. step limits s caller event ks ≡ Some (a, next_event s) in
          let still = quiet_begun s quiet in
          record {
            to = next_event s;
            goes = subst (λ (a : Answer). P a picked) (sym r.answers) (subst (P (Refused e)) (sym r.unpicked) (refused_step limits s caller event e h));
            n = at;
            sound = sound_begun s sound_old;
            quiet = still;
            stands = left_stands s.waiters (next_event s) (next_event s) [] r.stands (weaken (next_event s) still) (settled_quiet (next_event s) (after_first s.n) still) at (λ d w. none d);
          }

      by_change : first (refusals limits (next_event s) caller event) ≡ None → Makes (change limits (next_event s) caller event picked) answer mid
          → ((made : Change) → change limits (next_event s) caller event picked ≡ Some made → AsRaisedIn made.1.files raising mid.tables mid.clock made.2) → Leads limits s caller event answer picked n raised_now buried
      by_change h m raises =
          let t = settle (next_event s) m.made.1 m.made.2 in
          let changed = quiet_change limits (next_event s) caller event picked m.made (quiet_begun s quiet) h m.is in
          let settled = settle_changed (next_event s) m.made.1 m.made.2 (change_counted limits s caller event picked m.made m.is) changed (changes_are_regular limits past s caller event picked m.made led h m.is) in
          let made_at = change_n limits (next_event s) caller event picked m.made m.is ∙ at in
          let goes : step limits s caller event picked ≡ Some (answer, t) = step_changed limits s caller event picked m.made h m.is ∙ ap (λ (a : Answer). Some (a, t)) m.answers in
          record {
            to = t;
            goes = goes;
            n = settle_n (next_event s) m.made.1 m.made.2 ∙ made_at;
            sound = sound_step limits s t caller event picked answer sound_old goes;
            quiet = quiet_step limits s t caller event picked answer (well_made_run limits past s led) quiet goes;
            stands = left_stands s.waiters m.made.1 t m.made.2 m.stands changed settled made_at (raises m.made m.is);
          }

      by_cases : (o : Option Errno) → first (refusals limits (next_event s) caller event) ≡ o → MatchOption o (Makes (change limits (next_event s) caller event picked) answer mid) (λ e. Refuses (next_event s) e answer picked mid)
          → MatchOption o ((made : Change) → change limits (next_event s) caller event picked ≡ Some made → AsRaisedIn made.1.files raising mid.tables mid.clock made.2) (λ e. AsRaised raising mid.tables mid.clock []) → Leads limits s caller event answer picked n raised_now buried
      by_cases None h m raises = by_change h m raises
      by_cases (Some e) h r raises = by_refusal e h r raises

      pub leads : Goes (refusals limits (next_event s) caller event) (change limits (next_event s) caller event picked) (next_event s) answer picked mid
          → Raises (refusals limits (next_event s) caller event) (change limits (next_event s) caller event picked) raising mid.tables mid.clock → Leads limits s caller event answer picked n raised_now buried
      leads goes raises = by_cases (first (refusals limits (next_event s) caller event)) refl goes raises

-- Once what was raised has climbed, and marks are set.
pub marked_stands : (n : ℕ) (buried : Parts) (interest : Registrations) (ws : List Waiter) (waited : List Waiter) (raised : ℕ → Bool) (t : State) → Climbs n buried.tables buried.interest interest → SoundTables buried.tables → ArePlaced buried.tables buried.parked
    → ws ≡ marked_by (λ k. gets_mark_in n waited raised buried (number_at buried.tables.keys (record { 0 = k }))) buried.clock buried.parked → StandsBuried n waited raised buried t → StandFor (record buried { interest = interest; parked = ws }) t
marked_stands n buried interest ws waited raised t climbs sound placed marks h =
    let keys = buried.tables.keys in
    let number : ℕ → ℕ = λ k. number_at keys (record { 0 = k }) in
    record {
      now = h.now;
      files = h.files;
      watches = h.watches ∙ sym climbs.watches;
      added = h.added ∙ sym climbs.added;
      waiters =
          h.waiters
          ∙ ((λ i. marked_by (gets_mark_in n waited raised buried) (h.now i) (waiters_at keys buried.parked))
          ∙ (marks_at number (gets_mark_in n waited raised buried) buried.clock buried.parked (numbers_apart_at buried.tables sound buried.parked placed)
          ∙ ap (map (at_number number)) (sym marks)));
    }
