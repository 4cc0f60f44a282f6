-- No connection waits to be accepted yet.
use Rattle.std.specs.Prelude.{[], false, ◌≡◌}
use Rattle.ep_machine.specs.Connections.{pending_in}
use Rattle.ep_machine.specs.Objects.{Object, is_waiting}

-- an object is no connection that waits, and none waits at it
pub record IsQuiet (x : Object) : Type 0 where
  pub accepted : is_waiting x ≡ false
  pub alone : pending_in x ≡ []
