-- Orders, and what it is that they are all.
use Rattle.std.specs.Prelude.{◌≡◌, ◌≢◌, ◌++◌, ◌∷◌, [], All, AllPairs, Bool, Contains, List, None, Option, false, length, replicate, true, ℕ}
use Rattle.ep_base.specs.Limits.{Limits}
use Rattle.ep_base.specs.declared.call.Event.{Event}
use Rattle.ep_base.specs.declared.ids.CallerId.{CallerId}
use Rattle.ep_base.specs.declared.record.Record.{Record}
use Rattle.ep_machine.specs.State.{State, opening}
use Rattle.ep_calls.specs.Driver.{HasNoEffect, TellsNext}
use Rattle.ep_paths.specs.Paths.{Follows}
use Rattle.ep_orders.specs.declared.turn.Turn.{Turn}
use Rattle.ep_orders.specs.Place.{Leads, Move, Place, Steps, World, may_go, next_at}

-- ---- an order

-- the setup: one record for each event, in order
abbrev pub SetsUp : Limits → State → List (CallerId × Event) → List Record → State → Type 0
SetsUp limits s [] [] t = s ≡ t
SetsUp limits s (e ∷ es) (r ∷ rs) t =
    (r.caller ≡ e.0) × (r.event ≡ e.1) × ((between : State) × Steps limits s r between × SetsUp limits between es rs t)
SetsUp limits s [] (r ∷ rs) t = ⊥
SetsUp limits s (e ∷ es) [] t = ⊥

-- before the first turn
abbrev pub first_place : World → State → Place
first_place w s = record { state = s; done = replicate (length w.lines) 0; last = None; spent = 0 }

-- nobody can go on, and nothing happens by itself
pub record HasEnded (w : World) (p : Place) : Type 0 where
  pub callers : (number : ℕ) → next_at w p number ≡ None
  pub clock : HasNoEffect p.state

-- turns from here to the end
pub record IsOrder (w : World) (start : Place) (moves : List Move) : Type 0 where
  pub end : Place
  pub leads : Leads w start moves end
  pub ended : HasEnded w end

-- ---- all of them

-- the same up to a turn, which is another's
pub record Part (xs ys : List Move) : Type 0 where
  pub shared : List Move
  pub x : Move
  pub y : Move
  pub behind_x : List Move
  pub behind_y : List Move
  pub xs_is : xs ≡ shared ++ x ∷ behind_x
  pub ys_is : ys ≡ shared ++ y ∷ behind_y
  pub differ : x.0 ≢ y.0

-- in one of the orders it is that one's turn, behind these
pub record Takes (found : List (List Move)) (before : List Move) (turn : Turn) : Type 0 where
  pub record_of : Record
  pub behind : List Move
  pub is_there : Contains found (before ++ (turn, record_of) ∷ behind)

-- Every order, each once: wherever one of them has come to, each turn that may be comes in one of them.
pub record AreTheOrders (w : World) (start : Place) (found : List (List Move)) : Type 0 where
  pub some : (moves : List Move) × Contains found moves
  pub are : All (IsOrder w start) found
  pub once : AllPairs Part found
  pub all : (before behind : List Move) → Contains found (before ++ behind)
      → (p : Place) → Leads w start before p → (moment : Option ℕ) → TellsNext p.state moment
      → (turn : Turn) → may_go w p moment turn ≡ true → Takes found before turn

-- ---- an exploration

-- Orders were run behind one setup, and told to the visitor one after another: all of them, or else as many as allowed.
pub record Explores {V : Type 0} (w : World) (setup : List (CallerId × Event)) (most : ℕ) (notes : V → List Move → V → Type 0)
    (visitor then : V) (whole : Bool) : Type 0 where
  pub records : List Record
  pub start : State
  pub sets_up : SetsUp w.limits opening setup records start
  pub found : List (List Move)
  pub noted : Follows notes visitor found then
  pub are : All (IsOrder w (first_place w start)) found
  pub once : AllPairs Part found
  pub few : whole ≡ false → length found ≡ most
  pub all : whole ≡ true → AreTheOrders w (first_place w start) found
