-- Sockets that connect and that listen, as laws above this crate name them.
use Rattle.std.specs.Prelude.{Some, ℕ, ◌≡◌}
use Rattle.std.specs.List.{remove}
use Rattle.ep_base.specs.declared.socket.Family.TheVariants.{Unix}
use Rattle.ep_base.specs.declared.socket.Name.{Name}
use Rattle.ep_machine.specs.Listening.{Listener}
use Rattle.ep_machine.specs.Objects.{Object, idle, listener, pair}
use Rattle.ep_machine.specs.Sockets.{new_connection}
use Rattle.ep_machine.specs.Unconnected.{Idle}

abbrev pub IsIdle : Object → Idle → Type 0
IsIdle x i = x ≡ idle i

abbrev pub IsListener : Object → Listener → Type 0
IsListener x l = x ≡ listener l

-- what an idle socket becomes that connects by a name
abbrev pub connection : ℕ → Idle → Name → Object
connection capacity i name = pair (new_connection i.family capacity i.name (Some name))

-- and that of an object
abbrev pub connection_of : ℕ → Object → Name → Object
connection_of capacity (idle i) name = connection capacity i name
connection_of capacity x name = x

-- a Unix socket without a connection
abbrev pub IsUnix : Object → Type 0
IsUnix (idle i) = i.family ≡ Unix
IsUnix x = ⊥

-- a listener without what came there after so many others
abbrev pub without_nth : ℕ → Object → Object
without_nth i (listener l) = listener (record l { pending = remove l.pending i })
without_nth i x = x
