-- The end of each event.
use Rattle.std.specs.Prelude.{List, filter, if◌then◌else◌, map, not, ℕ, ◌&&◌}
use Rattle.ep_machine.specs.Deaths.{buried}
use Rattle.ep_machine.specs.Readiness.{is_reportable}
use Rattle.ep_machine.specs.Spread.{arrived, raised_alive}
use Rattle.ep_machine.specs.State.{State, Watch}
use Rattle.ep_machine.specs.Marks.{with_marks}
use Rattle.ep_machine.specs.Lists.{is_among}

abbrev pub reportable_numbers : State → List ℕ
reportable_numbers s = map (λ x. x.number) (filter (is_reportable s) s.watches)

-- from is n where it was not reportable and is
abbrev pub came : List ℕ → State → Watch → Watch
came earlier s x = if not (is_among earlier x.number) && is_reportable s x then record x { from = s.n } else x

abbrev pub with_from : State → State → State
with_from before s = let earlier = reportable_numbers before in record s { watches = map (came earlier s) s.watches }

-- from the state before, the state after the change and what the change raised:
-- the dead go; spread and counts; from; marks
abbrev pub settle : State → State → List (ℕ × ℕ) → State
settle before after raised =
    let left = buried after raised in
    with_marks before (raised_alive left.0 left.1) (with_from before (arrived left.0 left.1))
