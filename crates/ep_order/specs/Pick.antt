-- A list of an instance of the machine, and what a wait picks of it.
use Rattle.std.specs.Option.{option_map}
use Rattle.std.specs.Prelude.{◌≡◌, filter, List, take, true, unwrap_or, ℕ}
use Rattle.ep_law.specs.Laws.{is_reportable_in}
use Rattle.ep_machine.specs.Lists.{are_distinct}
use Rattle.ep_machine.specs.Report.{find_watch, is_pick}
use Rattle.ep_law.specs.Sound.{Sound}
use Rattle.ep_machine.specs.State.{State, Watch}
use Rattle.ep_order.specs.Order.{IsComplete, IsFairOrder, Turns}

-- a field of the registration with a number; 0 where there is none
abbrev pub of_number : State → (Watch → ℕ) → ℕ → ℕ
of_number s f k = unwrap_or (option_map f (find_watch s.watches k)) 0

-- the turns of the registrations of instance e
abbrev pub turns_of : State → ℕ → Turns
turns_of s e = record { ready = is_reportable_in s e; rep = of_number s (λ x. x.rep); from = of_number s (λ x. x.from) }

-- the first reportable ones of a list that is complete and in a fair order
abbrev pub FirstArePick : Type 0
FirstArePick = (s : State) (e most : ℕ) (order : List ℕ)
    → Sound s → are_distinct order ≡ true → IsFairOrder (turns_of s e) order → IsComplete (turns_of s e) order
    → is_pick s e most (take most (filter (is_reportable_in s e) order)) ≡ true
