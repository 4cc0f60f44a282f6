-- What a kernel promises of a step whose report is given, by the numbers of the registrations that it is of.
use Rattle.std.specs.Prelude.{◌≡◌, List, [], ◌∷◌, ◌++◌, IfSome, MatchBool, MatchOption, None, Option, Some, is_some, true, ℕ}
use Rattle.ep_base.specs.Limits.{Limits}
use Rattle.ep_base.specs.declared.answer.Answer.{Answer}
use Rattle.ep_base.specs.declared.call.Event.{Event}
use Rattle.ep_base.specs.declared.ids.CallerId.{CallerId}
use Rattle.ep_base.specs.declared.record.Record.{Record}
use Rattle.ep_calls.specs.Acts.{Adds, Stays, is_no_memory}
use Rattle.ep_machine.specs.State.{State}
use Rattle.ep_machine.specs.Step.{step}

-- one record was added, with these numbers, by the step of the machine that reports them
pub record AddsWith (limits : Limits) (caller : CallerId) (event : Event) (picks : List ℕ) (answer : Answer) (s t : State) (past now : List Record) : Type 0 where
  pub goes : step limits s caller.0 event picks ≡ Some (answer, t)
  pub added : now ≡ past ++ record { caller = caller; event = event; answer = answer; picked = picks } ∷ []

-- the machine has a step that reports these, and nothing changed
pub record Lacks (limits : Limits) (caller : CallerId) (event : Event) (picks : List ℕ) (s t : State) (past now : List Record) : Type 0 where
  pub has : is_some (step limits s caller.0 event picks) ≡ true
  pub stays : Stays s t past now

-- the machine has no step that reports these, and nothing changed
pub record Declines (limits : Limits) (caller : CallerId) (event : Event) (picks : List ℕ) (s t : State) (past now : List Record) : Type 0 where
  pub none : step limits s caller.0 event picks ≡ None
  pub stays : Stays s t past now

-- no answer where the machine has no such step; want of memory changes nothing, and any other answer is that of the
-- step
abbrev pub StepsWith : Limits → CallerId → Event → List ℕ → Option Answer → State → State → List Record → List Record → Type 0
StepsWith limits caller event picks result s t past now =
    MatchOption result (Declines limits caller event picks s t past now)
    (λ answer. MatchBool (is_no_memory answer) (Lacks limits caller event picks s t past now) (AddsWith limits caller event picks answer s t past now))

-- the machine has a step that reports what is given, if anything is
abbrev pub HasStep : Limits → State → CallerId → Event → Option (List ℕ) → Type 0
HasStep limits s caller event given = IfSome given (λ picks. is_some (step limits s caller.0 event picks) ≡ true)

-- one record was added, with what is given, if anything is
abbrev pub AddsBy : Limits → CallerId → Event → Option (List ℕ) → Answer → State → State → List Record → List Record → Type 0
AddsBy limits caller event given answer s t past now =
    MatchOption given (Adds limits caller event answer s t past now) (λ picks. AddsWith limits caller event picks answer s t past now)
