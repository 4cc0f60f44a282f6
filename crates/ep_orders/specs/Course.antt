-- An order as it is made: words for contracts inside this crate.
use Rattle.std.specs.Prelude.{◌≡◌, ◌++◌, ◌∷◌, ◌⊎◌, [], List, Option, Some, length, slice_get, zip, ℕ}
use Rattle.std.specs.List.{AllByRecursion}
use Rattle.ep_base.specs.Limits.{Limits}
use Rattle.ep_base.specs.declared.call.Event.{Event}
use Rattle.ep_base.specs.declared.call.Event.TheVariants.{Resume}
use Rattle.ep_base.specs.declared.record.Record.{Record}
use Rattle.ep_base.specs.declared.ids.CallerId.{CallerId}
use Rattle.ep_machine.specs.State.{State, opening}
use Rattle.ep_calls.specs.Driver.{TellsNext}
use Rattle.ep_paths.specs.declared.choice.Choice.{Choice}
use Rattle.ep_paths.specs.Paths.{IsFirst, Taken}
use Rattle.ep_orders.specs.declared.course.Next.{Next}
use Rattle.ep_orders.specs.declared.course.Next.TheVariants as next
use Rattle.ep_orders.specs.declared.course.Course.{Course}
use Rattle.ep_orders.specs.declared.turn.Turn.{Turn}
use Rattle.ep_orders.specs.Orders.{HasEnded, SetsUp, first_place}
use Rattle.ep_orders.specs.Place.{Move, Place, Steps, World, asked, place_after, ways_at}

abbrev pub event_of : Next → Event
event_of next.Resume = Resume
event_of (next.Event e) = e.now

abbrev pub world_of : {K : Type 0} → (K → Limits) → Course K → World
world_of bounds w = record { limits = bounds w.kernel; rules = w.rules; lines = w.scenario.now.lines.items }

abbrev pub place_of : {K : Type 0} → (K → State) → Course K → Place
place_of state w = record { state = state w.kernel; done = w.done.items; last = w.last; spent = w.spent }

-- one turn, by a choice among the ways
pub record GoesBy (w : World) (p : Place) (c : Choice) (m : Move) (q : Place) : Type 0 where
  pub moment : Option ℕ
  pub tells : TellsNext p.state moment
  pub ways : c.ways ≡ length (ways_at w p moment)
  pub way : slice_get (ways_at w p moment) c.way ≡ Some m.0
  pub asks : asked w p moment m.0 ≡ Some (m.1.caller, m.1.event)
  pub steps : Steps w.limits p.state m.1 q.state
  pub after : q ≡ place_after w p m.0 q.state

-- turn by turn, each by its choice
abbrev pub Chooses : World → Place → List (Taken Move) → Place → Type 0
Chooses w p [] q = p ≡ q
Chooses w p (t ∷ ts) q = (between : Place) × GoesBy w p t.0 t.1 between × Chooses w between ts q

-- the machine made a step by this event, and the history gained its record
pub record Enters (limits : Limits) (caller : CallerId) (event : Event) (s t : State) (past now : List Record) : Type 0 where
  pub entry : Record
  pub caller_is : entry.caller ≡ caller
  pub event_is : entry.event ≡ event
  pub steps : Steps limits s entry t
  pub past_is : now ≡ past ++ entry ∷ []

-- a turn was done: the machine made a step, with this record
pub record Took (w : World) (p : Place) (moment : Option ℕ) (t : Turn) (q : Place) (r : Record) : Type 0 where
  pub asks : asked w p moment t ≡ Some (r.caller, r.event)
  pub steps : Steps w.limits p.state r q.state
  pub after : q ≡ place_after w p t q.state

-- the path stays, or gets a first way at its end
abbrev pub PathGrows : List Choice → ℕ → Choice → List Choice → Type 0
PathGrows path place c then =
    (slice_get path place ≡ Some c) × (then ≡ path) ⊎ (place ≡ length path) × (then ≡ path ++ c ∷ []) × IsFirst c

-- one turn by the path
pub record GoesOn (w : World) (p q : Place) (path then : List Choice) (place : ℕ) (turns later : List Turn) (past now : List Record) : Type 0 where
  pub choice : Choice
  pub turn : Turn
  pub entry : Record
  pub goes : GoesBy w p choice (turn, entry) q
  pub grows : PathGrows path place choice then
  pub turns_are : later ≡ turns ++ turn ∷ []
  pub past_is : now ≡ past ++ entry ∷ []

-- a whole order, by a path
pub record Walked (w : World) (setup : List (CallerId × Event)) (path whole : List Choice) (turns : List Turn) (past : List Record) : Type 0 where
  pub before : List Record
  pub records : List Record
  pub start : State
  pub end : Place
  pub more : List Choice
  pub sets_up : SetsUp w.limits opening setup before start
  pub leads : Chooses w (first_place w start) (zip whole (zip turns records)) end
  pub ended : HasEnded w end
  pub past_is : past ≡ before ++ records
  pub whole_is : whole ≡ path ++ more
  pub first : AllByRecursion IsFirst more
  pub turns_each : length turns ≡ length whole
  pub records_each : length records ≡ length whole
