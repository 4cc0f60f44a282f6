-- What a call asks of an object, as contracts see it.
use Rattle.std.specs.Prelude.{Bool, None, Option, Some, false, if◌then◌else◌, is_some, true}
use Rattle.ep_base.specs.declared.call.Call.{Call}
use Rattle.ep_base.specs.declared.call.Call.TheVariants.{Bind, Connect, Listen}
use Rattle.ep_base.specs.declared.ids.Fd.{Fd}
use Rattle.ep_base.specs.declared.socket.Hearing.{Hearing}
use Rattle.ep_base.specs.declared.socket.Hearing.TheVariants.{Nobody}
use Rattle.ep_base.specs.declared.socket.Name.{Name}
use Rattle.ep_machine.specs.Objects.{ObjectCall, asks_name, asks_time, binds, connects, listens, object_call, peeks, shuts_down, takes_error}

-- its socket may get a name by it
abbrev pub is_naming : Call → Bool
is_naming (Bind fd name) = true
is_naming (Listen fd backlog) = true
is_naming (Connect fd name) = true
is_naming call = false

-- What such a call asks, and what any other call on an object does: of that it plays no part which names are taken.
abbrev pub naming_call : Option Name → Hearing → Call → Option (Fd × ObjectCall)
naming_call found heard call = if is_naming call then object_call found heard call else None

abbrev pub plain_call : Call → Option (Fd × ObjectCall)
plain_call call = if is_naming call then None else object_call None Nobody call

-- what a call on an object asks of it; any other call stands for a question that nobody puts
abbrev pub asked_in : Option (Fd × ObjectCall) → ObjectCall
asked_in None = asks_time
asked_in (Some on) = on.1

-- the name that was found free for it
abbrev pub found_in : ObjectCall → Option Name
found_in (binds space found) = found
found_in (listens backlog found) = found
found_in (connects space found heard) = found
found_in asked = None

-- it gives the socket a name, unless it is refused or the socket has one
abbrev pub takes_name : ObjectCall → Bool
takes_name asked = is_some (found_in asked)

-- only a socket answers it
abbrev pub IsOfSocket : ObjectCall → Type 0
IsOfSocket (peeks n) = Unit {0}
IsOfSocket (shuts_down how) = Unit {0}
IsOfSocket takes_error = Unit {0}
IsOfSocket (asks_name of_peer) = Unit {0}
IsOfSocket asked = ⊥

-- a bind, a listen or a connect
abbrev pub IsNaming : ObjectCall → Type 0
IsNaming (binds space found) = Unit {0}
IsNaming (listens backlog found) = Unit {0}
IsNaming (connects space found heard) = Unit {0}
IsNaming asked = ⊥
