-- What an event does whose report is of given registrations.
use Rattle.std.proofs.Common.{◌≡◌, ◌∙◌, ℕ, Bool, true, false, List, [], ◌∷◌, None, Option, Some, ap, is_none, is_some, refl, subst, sym}
use Rattle.std.specs.Prelude.{MatchOption}
use Rattle.std.proofs.lemmas.Bool.{false≢true}
use Rattle.ep_facts.proofs.OptionFacts.{some_not_none}
use Rattle.ep_base.specs.declared.answer.Answer.{Answer}
use Rattle.ep_base.specs.declared.call.Event.{Event}
use Rattle.ep_base.specs.declared.call.Event.TheVariants.{Call as CallOf, Resume}
use Rattle.ep_base.specs.declared.errno.Errno.{Errno}
use Rattle.ep_base.specs.declared.errno.Errno.TheVariants.{Ebusy, Esrch}
use Rattle.ep_base.specs.declared.ids.DescId.{DescId}
use Rattle.ep_machine.specs.Effect.{first}
use Rattle.ep_machine.specs.Files.{Files, table_of}
use Rattle.ep_machine.specs.Lists.{is_empty}
use Rattle.ep_machine.specs.Refusal.{call_refusals, refusals}
use Rattle.ep_machine.specs.State.{Change, State}
use Rattle.ep_machine.specs.Step.{change, refused_or, settled}
use Rattle.ep_machine.specs.Waits.{is_parked}
use Rattle.ep_machine.specs.Watches.{number_in}
use Rattle.ep_park.specs.declared.waiter.Waiter.{Waiter}
use Rattle.ep_calls.proofs.OutcomeLemmas.{goes_past, raises_past}
use Rattle.ep_calls.proofs.RegistrationLemmas.{caller_waits}
use Rattle.ep_calls.specs.Does.{Does, DoesCallIf, DoesEvent, DoesEventIf}
use Rattle.ep_calls.specs.Moves.{Makes, MovesBy, MovesIf, Refuses, StandFor}
use Rattle.ep_calls.specs.Parts.{Parts}
use Rattle.ep_calls.specs.Wait.{wait_call}
use Rattle.ep_calls.specs.declared.outcome.Outcome.{Outcome}
use Rattle.ep_calls.specs.declared.wait.Wait.{Wait}
use Rattle.ep_plain.proofs.WaitingLemmas.{resume_goes, wait_goes}
use Rattle.ep_plain.specs.These.{AsksFor, CallsWait, MayGo, MayPick, MayReport, PicksThese, Resumes, WherePicked, goes_with}

-- from states of which more holds
pub does_where : (Also Other : State → Type 0) (n : ℕ) (tests : State → List (Bool × Errno)) (changed : State → List ℕ → Option Change) (outcome : Outcome) (old new : Parts)
    → Does (MovesIf Also n old) tests changed outcome old new → MovesBy n old (λ s. Other s → Also s) → Does (MovesIf Other n old) tests changed outcome old new
does_where Also Other n tests changed outcome old new does also = record {
  moves = λ s at sound quiet legal stands other. does.moves s at sound quiet legal stands (also s at sound quiet legal stands other);
  raises = λ s at sound quiet legal stands other. does.raises s at sound quiet legal stands (also s at sound quiet legal stands other);
  raising = does.raising;
  limits = does.limits;
  keys = does.keys;
}

-- a call that waits
module _ (p : Parts) (n caller : ℕ) (args : Wait) (instance : DescId) (picks : List ℕ) where
  abbrev call : Event
  call = CallOf args.pid (wait_call args)

  abbrev may : State → Type 0
  may = MayPick p instance (number_in args.max) picks

  calls_does : (outcome : Outcome) (new : Parts) → CallsWait p caller call args instance → DoesCallIf may n caller args.pid.0 (wait_call args) outcome p new → DoesEventIf (MayGo p caller call picks) n caller call outcome p new
  calls_does outcome new of does =
      let limits = p.tables.limits in
      let pid = args.pid.0 in
      let here : (s : State) → StandFor p s → is_none (table_of s.files pid) ≡ false = λ s stands. some_not_none (table_of s.files pid) (ap (λ (f : Files). is_some (table_of f pid)) stands.files ∙ of.there) in
      let free : (s : State) → StandFor p s → is_parked s caller ≡ false = λ s stands. caller_waits p.tables p.interest p.parked p.clock s caller stands ∙ of.free in
      record {
        moves = λ s at sound quiet legal stands goes.
            goes_past (is_none (table_of s.files pid)) (is_parked s caller) Esrch Ebusy (call_refusals limits s pid (wait_call args)) (change limits s caller call outcome.picked) s outcome.answer outcome.picked new
            (here s stands) (free s stands) (does.moves s at sound quiet legal stands (sym (wait_goes p caller call args instance s picks of legal stands) ∙ goes));
        raises = λ s at sound quiet legal stands goes.
            raises_past (is_none (table_of s.files pid)) (is_parked s caller) Esrch Ebusy (call_refusals limits s pid (wait_call args)) (change limits s caller call outcome.picked) new.tables new.clock outcome.raising
            (here s stands) (free s stands) (does.raises s at sound quiet legal stands (sym (wait_goes p caller call args instance s picks of legal stands) ∙ goes));
        raising = does.raising;
        limits = does.limits;
        keys = does.keys;
      }

  pub call_does : (event : Event) (outcome : Outcome) (new : Parts) → CallsWait p caller event args instance → DoesCallIf may n caller args.pid.0 (wait_call args) outcome p new → DoesEventIf (MayGo p caller event picks) n caller event outcome p new
  call_does event outcome new of does =
      subst (λ (ev : Event). DoesEventIf (MayGo p caller ev picks) n caller ev outcome p new) (sym of.is)
      (calls_does outcome new (record { is = refl; there = of.there; free = of.free; waits = of.waits }) does)

  pub call_picks : (event : Event) (picked : List ℕ) → CallsWait p caller event args instance → WherePicked p instance (number_in args.max) picks (picked ≡ picks) → PicksThese n p caller event picks picked
  call_picks event picked of told = λ s at sound quiet legal stands goes. told s sound legal stands (sym (wait_goes p caller event args instance s picks of legal stands) ∙ goes)

-- the resumption of a marked caller
module _ (p : Parts) (n caller : ℕ) (event : Event) (w : Waiter) (picks : List ℕ) (of : Resumes p caller event w) where
  pub resume_does : (outcome : Outcome) (new : Parts) → DoesEventIf (MayPick p w.instance (number_in w.max) picks) n caller Resume outcome p new → DoesEventIf (MayGo p caller event picks) n caller event outcome p new
  resume_does outcome new does =
      does_where (MayPick p w.instance (number_in w.max) picks) (MayGo p caller event picks) n (λ s. refusals p.tables.limits s caller event) (λ s picked. change p.tables.limits s caller event picked) outcome p new
      (subst (λ (ev : Event). DoesEventIf (MayPick p w.instance (number_in w.max) picks) n caller ev outcome p new) (sym of.is) does)
      (λ s at sound quiet legal stands goes. sym (resume_goes p caller event w s picks of legal stands) ∙ goes)

  pub resume_picks : (picked : List ℕ) → WherePicked p w.instance (number_in w.max) picks (picked ≡ picks) → PicksThese n p caller event picks picked
  resume_picks picked told = λ s at sound quiet legal stands goes. told s sound legal stands (sym (resume_goes p caller event w s picks of legal stands) ∙ goes)

-- what the machine does it has a step for
settled_is : (s : State) (o : Option Change) (c : Change) → o ≡ Some c → is_some (settled s o) ≡ true
settled_is s o c is = ap (λ (x : Option Change). is_some (settled s x)) is

goes_some : (e : Option Errno) (o : Option Change) (s : State) (answer : Answer) (picked : List ℕ) (new : Parts) → MatchOption e (Makes o answer new) (λ f. Refuses s f answer picked new) → is_some (refused_or e s picked o) ≡ true
goes_some None o s answer picked new made = settled_is s o made.made made.is
goes_some (Some e) o s answer picked new refuses = ap (λ (ks : List ℕ). is_some (refused_or (Some e) s ks o)) refuses.unpicked

is_none_of : (ks : List ℕ) → is_empty ks ≡ true → ks ≡ []
is_none_of [] h = refl
is_none_of (k ∷ ks) h = absurd (false≢true h)

-- an event that makes no report picks nothing
pub none_picks : (p new : Parts) (n caller : ℕ) (event : Event) (picks : List ℕ) (outcome : Outcome) → AsksFor p caller event None → DoesEvent n caller event outcome p new → PicksThese n p caller event picks outcome.picked
none_picks p new n caller event picks outcome asks does = λ s at sound quiet legal stands goes.
    let limits = p.tables.limits in
    let some : goes_with limits caller event outcome.picked s ≡ true = goes_some (first (refusals limits s caller event)) (change limits s caller event outcome.picked) s outcome.answer outcome.picked new (does.moves s at sound quiet legal stands) in
    is_none_of outcome.picked (sym (asks s sound legal stands outcome.picked) ∙ some) ∙ sym (is_none_of picks (sym (asks s sound legal stands picks) ∙ goes))

-- from every state, where nothing is asked of it
pub does_always : (n caller : ℕ) (event : Event) (outcome : Outcome) (old new : Parts) → DoesEvent n caller event outcome old new → DoesEventIf (MayReport old caller event None) n caller event outcome old new
does_always n caller event outcome old new does = record {
  moves = λ s at sound quiet legal stands _. does.moves s at sound quiet legal stands;
  raises = λ s at sound quiet legal stands _. does.raises s at sound quiet legal stands;
  raising = does.raising;
  limits = does.limits;
  keys = does.keys;
}
