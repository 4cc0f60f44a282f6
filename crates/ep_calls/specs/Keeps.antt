-- What a kernel keeps.
use Rattle.std.specs.Prelude.{◌≡◌, List, Some, length}
use Rattle.ep_base.specs.declared.record.Record.{Record}
use Rattle.ep_view.specs.AtRest.{AtRest}
use Rattle.ep_machine.specs.Run.{run}
use Rattle.ep_law.specs.Sound.{Sound}
use Rattle.ep_machine.specs.State.{State, opening}
use Rattle.ep_calls.specs.Moves.{StandFor}
use Rattle.ep_calls.specs.Parts.{Parts}

-- the history leads to a state for which the parts stand
pub record Keeps (past : List Record) (p : Parts) : Type 0 where
  pub state : State
  pub leads : run p.tables.limits opening past ≡ Some state
  pub n : state.n ≡ length past
  pub sound : Sound state
  pub quiet : AtRest state
  pub stands : StandFor p state
