-- One order after another: words for contracts inside this crate.
use Rattle.std.specs.Prelude.{◌≡◌, List, drop, length, map, take, zip, ℕ}
use Rattle.ep_base.specs.Limits.{Limits}
use Rattle.ep_base.specs.declared.record.Record.{Record}
use Rattle.ep_machine.specs.State.{State, opening}
use Rattle.ep_paths.specs.Paths.{Taken}
use Rattle.ep_orders.specs.declared.explorer.Explorer.{Explorer}
use Rattle.ep_orders.specs.Orders.{HasEnded, SetsUp, first_place}
use Rattle.ep_orders.specs.Place.{Move, Place, World}
use Rattle.ep_orders.specs.Course.{Chooses}

abbrev pub world_in : {M K V : Type 0} → (M → Limits) → Explorer M K V → World
world_in limits e = record { limits = limits e.maker.now; rules = e.rules; lines = e.scenario.now.lines.items }

-- how many records the setup makes
abbrev pub begun : {M K V : Type 0} → Explorer M K V → ℕ
begun e = length e.scenario.now.setup.items

-- the turns of the last order, each with its record
abbrev pub given_of : {M K V : Type 0} → (K → List Record) → Explorer M K V → List Move
given_of past e = zip e.turns.items (drop (begun e) (past e.kernel))

-- an order, by choices
pub record IsChosen (w : World) (start : State) (run : List (Taken Move)) : Type 0 where
  pub end : Place
  pub leads : Chooses w (first_place w start) run end
  pub ended : HasEnded w end

-- what an order does to an explorer: after the same setup it was told to the visitor
pub record Told {M K V : Type 0} (past : K → List Record) (limits : M → Limits) (notes : V → List Move → V → Type 0)
    (e : Explorer M K V) (run : List (Taken Move)) (f : Explorer M K V) : Type 0 where
  pub maker : f.maker.now ≡ e.maker.now
  pub scenario : f.scenario.now ≡ e.scenario.now
  pub rules : f.rules ≡ e.rules
  pub same : take (begun e) (past f.kernel) ≡ take (begun e) (past e.kernel)
  pub start : State
  pub sets_up : SetsUp (limits e.maker.now) opening e.scenario.now.setup.items (take (begun e) (past f.kernel)) start
  pub chosen : IsChosen (world_in limits e) start run
  pub noted : notes e.visitor (map (λ t. t.1) run) f.visitor
