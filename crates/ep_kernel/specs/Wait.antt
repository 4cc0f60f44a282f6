-- What calls and events do where ready lists are in a fair order.
use Rattle.std.specs.Prelude.{◌≡◌, ◌<◌, List, Some, length, true, ℕ}
use Rattle.ep_base.specs.declared.answer.Answer.TheVariants.{Events}
use Rattle.ep_base.specs.declared.answer.Report.{Report}
use Rattle.ep_base.specs.declared.call.Call.{Call}
use Rattle.ep_base.specs.declared.call.Event.{Event}
use Rattle.ep_base.specs.declared.ids.DescId.{DescId}
use Rattle.ep_calls.specs.Does.{DoesCallIf, DoesEventIf}
use Rattle.ep_calls.specs.Moves.{MovesBy}
use Rattle.ep_calls.specs.Parts.{Parts}
use Rattle.ep_calls.specs.declared.outcome.Outcome.{Outcome}
use Rattle.ep_kernel.specs.Listed.{AreFair, lists_of}
use Rattle.ep_kernel.specs.ReadyBook.{ReportsFirst, WaitsAt, list_of}
use Rattle.ep_kernel.specs.Take.{key_stays}
use Rattle.ep_interest.specs.Registrations.{Registrations}
use Rattle.ep_machine.specs.Lists.{is_among}
use Rattle.ep_machine.specs.State.{State}
use Rattle.ep_ready.specs.ReadyLists.{Lists, list_at}
use Rattle.ep_table.specs.Value.{Seen, number_under}

-- a call at event n, from the states of the machine at which these lists are in a fair order
abbrev pub DoesCallFairly : Lists → ℕ → ℕ → ℕ → Call → Outcome → Parts → Parts → Type 0
DoesCallFairly l n caller p call outcome old new =
    DoesCallIf (λ s. AreFair s old l) n caller p call outcome old new

-- event n, from those states
abbrev pub DoesEventFairly : Lists → ℕ → ℕ → Event → Outcome → Parts → Parts → Type 0
DoesEventFairly l n caller event outcome old new =
    DoesEventIf (λ s. AreFair s old l) n caller event outcome old new

-- a wait in event n that reports fewer than it asked for leaves on the list of its instance what stays after its
-- report, and nothing else
abbrev pub LeavesStaying : State → ℕ → ℕ → Event → Outcome → Seen → Registrations → Lists → Type 0
LeavesStaying s n caller event outcome tables r l = (e most : ℕ) (reports : List Report) → outcome.answer ≡ Events reports
    → WaitsAt s caller event e most → length outcome.picked < most
    → (i : DescId) → number_under tables i ≡ Some e → (k : ℕ) → is_among (list_at l i.0) k ≡ true → key_stays n r k ≡ true

-- event n, from every state of the machine for which the old parts stand: a wait reports in the order of these lists,
-- and where it finds few, what it leaves on its list stays after its report
abbrev pub ReportsInOrder : Lists → ℕ → ℕ → Event → Outcome → Parts → Parts → Lists → Type 0
ReportsInOrder l n caller event outcome old new m =
    MovesBy n old (λ s. ReportsFirst s caller event outcome.answer outcome.picked (list_of (lists_of old l))
    × LeavesStaying s n caller event outcome old.tables new.interest m)
