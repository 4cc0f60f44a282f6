-- Where an order has come to, who can go on there, and what a turn does.
use Rattle.std.specs.Prelude.{◌≡◌, ◌+◌, ◌++◌, ◌-◌, ◌==◌, ◌&&◌, ◌||◌, ◌∷◌, [], Bool, List, None, Option, Some, false, filter, flat_map, if◌then◌else◌, is_some, length, nat_lt, not, slice_index, slice_set, true, ℕ}
use Rattle.std.specs.List.{list_any, range_with_len, slice_get}
use Rattle.std.specs.Option.{option_map}
use Rattle.ep_base.specs.Limits.{Limits}
use Rattle.ep_base.specs.declared.call.Event.{Event}
use Rattle.ep_base.specs.declared.call.Event.TheVariants.{Resume, Tick}
use Rattle.ep_base.specs.declared.ids.CallerId.{CallerId}
use Rattle.ep_base.specs.declared.record.Record.{Record}
use Rattle.ep_machine.specs.State.{State}
use Rattle.ep_machine.specs.Step.{step}
use Rattle.ep_machine.specs.Waits.{is_marked, is_parked}
use Rattle.ep_calls.specs.Driver.{TellsNext}
use Rattle.ep_orders.specs.declared.scenario.Line.{Line}
use Rattle.ep_orders.specs.declared.turn.ClockTurns.{ClockTurns}
use Rattle.ep_orders.specs.declared.turn.ClockTurns.TheVariants.{Any, Idle}
use Rattle.ep_orders.specs.declared.turn.Rules.{Rules}
use Rattle.ep_orders.specs.declared.turn.Turn.{Turn}
use Rattle.ep_orders.specs.declared.turn.Turn.TheVariants as turn

-- what stays the same in all orders
pub record World : Type 0 where
  pub limits : Limits
  pub rules : Rules
  pub lines : List Line

-- between two turns
pub record Place : Type 0 where
  pub state : State
  pub done : List ℕ  -- of each line, how many of its events were asked for
  pub last : Option ℕ  -- whose line went last, if that wasn't the clock
  pub spent : ℕ  -- pre-emptions so far

-- ---- who can go on

-- what a caller does next, if it can go on: one that is parked resumes once it is marked
abbrev pub next_of : State → Line → ℕ → Option Event
next_of s line done =
    if is_parked s line.caller.0 then (if is_marked s line.caller.0 then Some Resume else None)
    else slice_get line.events.items done

abbrev pub next_in : State → ℕ → Option Line → Option Event
next_in s done None = None
next_in s done (Some line) = next_of s line done

abbrev pub next_at : World → Place → ℕ → Option Event
next_at w p number = next_in p.state (slice_index p.done number) (slice_get w.lines number)

abbrev pub can_go : World → Place → ℕ → Bool
can_go w p number = is_some (next_at w p number)

abbrev pub can_any_go : World → Place → Bool
can_any_go w p = list_any (can_go w p) (range_with_len 0 (length w.lines))

-- ---- pre-emptions

abbrev pub is_last : Option ℕ → ℕ → Bool
is_last None number = false
is_last (Some last) number = last == number

abbrev pub can_again : World → Place → Option ℕ → Bool
can_again w p None = false
can_again w p (Some last) = can_go w p last

-- another's turn while whoever went last could go on; the clock's while a caller could
abbrev pub is_preemption : World → Place → Turn → Bool
is_preemption w p (turn.Line number) = can_again w p p.last && not (is_last p.last number)
is_preemption w p turn.Clock = can_any_go w p

abbrev pub affords : Option ℕ → ℕ → Bool → Bool
affords None spent preempts = true
affords (Some bound) spent preempts = not preempts || nat_lt spent bound

-- ---- whose turn it may be

abbrev pub may_pass : ClockTurns → Bool → Bool
may_pass Idle anybody = not anybody
may_pass Any anybody = true

-- `moment` is the next one at which something happens
abbrev pub may_go : World → Place → Option ℕ → Turn → Bool
may_go w p moment (turn.Line number) = can_go w p number && affords w.rules.bound p.spent (is_preemption w p (turn.Line number))
may_go w p moment turn.Clock = is_some moment && may_pass w.rules.clock (can_any_go w p) && affords w.rules.bound p.spent (is_preemption w p turn.Clock)

-- whoever went last, the others in their order, and the clock
abbrev pub again : Option ℕ → List Turn
again None = []
again (Some last) = turn.Line last ∷ []

abbrev pub other : Option ℕ → ℕ → List Turn
other last number = if is_last last number then [] else turn.Line number ∷ []

abbrev pub others : Option ℕ → ℕ → List Turn
others last count = flat_map (other last) (range_with_len 0 count)

abbrev pub candidates : Option ℕ → ℕ → List Turn
candidates last count = again last ++ others last count ++ turn.Clock ∷ []

abbrev pub ways_at : World → Place → Option ℕ → List Turn
ways_at w p moment = filter (may_go w p moment) (candidates p.last (length w.lines))

-- ---- a turn

abbrev pub asked_by : State → ℕ → Option Line → Option (CallerId × Event)
asked_by s done None = None
asked_by s done (Some line) = option_map (λ e. (line.caller, e)) (next_of s line done)

-- what is asked for in a turn, and by whom: the clock is caller 0
abbrev pub asked : World → Place → Option ℕ → Turn → Option (CallerId × Event)
asked w p moment (turn.Line number) = asked_by p.state (slice_index p.done number) (slice_get w.lines number)
asked w p moment turn.Clock = option_map (λ m. (record { 0 = 0 }, Tick (m - p.state.now))) moment

abbrev pub done_by : State → List ℕ → ℕ → Option Line → List ℕ
done_by s done number None = done
done_by s done number (Some line) =
    if is_parked s line.caller.0 then done else slice_set done number (slice_index done number + 1)

-- a resumption is no event of the line
abbrev pub done_after : World → Place → Turn → List ℕ
done_after w p (turn.Line number) = done_by p.state p.done number (slice_get w.lines number)
done_after w p turn.Clock = p.done

abbrev pub last_after : Turn → Option ℕ
last_after (turn.Line number) = Some number
last_after turn.Clock = None

abbrev pub place_after : World → Place → Turn → State → Place
place_after w p t s = record {
  state = s;
  done = done_after w p t;
  last = last_after t;
  spent = if is_preemption w p t then p.spent + 1 else p.spent;
}

-- a turn, and its record
abbrev pub Move : Type 0
Move = Turn × Record

-- the machine makes this step with this record
abbrev pub Steps : Limits → State → Record → State → Type 0
Steps limits s r t = step limits s r.caller.0 r.event r.picked ≡ Some (r.answer, t)

-- one turn
pub record Goes (w : World) (p : Place) (m : Move) (q : Place) : Type 0 where
  pub moment : Option ℕ
  pub tells : TellsNext p.state moment
  pub may : may_go w p moment m.0 ≡ true
  pub asks : asked w p moment m.0 ≡ Some (m.1.caller, m.1.event)
  pub steps : Steps w.limits p.state m.1 q.state
  pub after : q ≡ place_after w p m.0 q.state

-- turn by turn
abbrev pub Leads : World → Place → List Move → Place → Type 0
Leads w p [] q = p ≡ q
Leads w p (m ∷ ms) q = (between : Place) × Goes w p m between × Leads w between ms q
