-- What a kernel promises of a step, and of a list of events.
use Rattle.std.specs.Prelude.{◌≡◌, ℕ, List, [], ◌∷◌, ◌++◌, None, Some, MatchBool, true}
pub use Rattle.ep_base.specs.Answer.{is_no_memory}
use Rattle.ep_base.specs.Limits.{Limits}
use Rattle.ep_base.specs.declared.answer.Answer.{Answer}
use Rattle.ep_base.specs.declared.call.Event.{Event}
use Rattle.ep_base.specs.declared.ids.CallerId.{CallerId}
use Rattle.ep_base.specs.declared.record.Record.{Record}
use Rattle.ep_machine.specs.Effect.{first}
use Rattle.ep_machine.specs.Refusal.{refusals}
use Rattle.ep_machine.specs.State.{State}
use Rattle.ep_machine.specs.Step.{next_event, step}

-- one record was added, by a step of the machine with this caller, event and answer
pub record Adds (limits : Limits) (caller : CallerId) (event : Event) (answer : Answer) (s t : State) (past now : List Record) : Type 0 where
  pub picked : List ℕ
  pub goes : step limits s caller.0 event picked ≡ Some (answer, t)
  pub added : now ≡ past ++ record { caller = caller; event = event; answer = answer; picked = picked } ∷ []

pub record Stays (s t : State) (past now : List Record) : Type 0 where
  pub state : t ≡ s
  pub history : now ≡ past

-- want of memory changes nothing, and any other answer is that of a step
abbrev pub Acts : Limits → CallerId → Event → Answer → State → State → List Record → List Record → Type 0
Acts limits caller event answer s t past now = MatchBool (is_no_memory answer) (Stays s t past now) (Adds limits caller event answer s t past now)

-- no refusal of an event holds
abbrev pub IsUnrefused : Limits → CallerId → Event → State → Type 0
IsUnrefused limits caller event s = first (refusals limits (next_event s) caller.0 event) ≡ None

-- want of memory comes last: it is answered only if no refusal holds
abbrev pub ComesLast : Limits → CallerId → Event → Answer → State → Type 0
ComesLast limits caller event answer s = is_no_memory answer ≡ true → IsUnrefused limits caller event s

-- one answer for each event, in order, each by one step
abbrev pub Answers : Limits → List (CallerId × Event) → List Answer → State → State → List Record → List Record → Type 0
Answers limits [] [] s t past now = Stays s t past now
Answers limits (e ∷ es) (a ∷ rs) s t past now =
    (mid : State) × (then : List Record) × Acts limits e.0 e.1 a s mid past then × Answers limits es rs mid t then now
Answers limits [] (a ∷ rs) s t past now = ⊥
Answers limits (e ∷ es) [] s t past now = ⊥
