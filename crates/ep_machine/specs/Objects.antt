-- The eight kinds of object. What an instance shows is judged in Readiness.
use Rattle.std.specs.List.{list_any}
use Rattle.std.specs.Prelude.{Bool, List, None, Option, Some, [], false, if◌then◌else◌, length, not, true, ℕ, ℤ, ◌&&◌, ◌++◌, ◌||◌, ◌∷◌}
use Rattle.ep_base.specs.declared.answer.Answer.TheVariants.{Bytes, Done, Named, Num}
use Rattle.ep_base.specs.declared.call.Call.{Call}
use Rattle.ep_base.specs.declared.call.Call.TheVariants.{Bind, Connect, GetTime, Listen, Peek, Read, SetTime, Shutdown, SocketName, TakeError, Write}
use Rattle.ep_base.specs.declared.errno.Errno.{Errno}
use Rattle.ep_base.specs.declared.errno.Errno.TheVariants.{Einval, Eisconn, Enotconn, Enotsock}
use Rattle.ep_base.specs.declared.ids.Fd.{Fd}
use Rattle.ep_base.specs.declared.object.End.{End}
use Rattle.ep_base.specs.declared.object.Raised.{Raised}
use Rattle.ep_base.specs.declared.socket.Hearing.{Hearing}
use Rattle.ep_base.specs.declared.socket.Hearing.TheVariants.{Nobody}
use Rattle.ep_base.specs.declared.socket.How.{How}
use Rattle.ep_base.specs.declared.socket.Name.{Name}
use Rattle.ep_base.specs.declared.socket.Space.{Space}
use Rattle.ep_base.specs.declared.socket.Space.TheVariants.{V4}
use Rattle.ep_machine.specs.Bits.{nothing}
use Rattle.ep_machine.specs.Counters.{Counter, counter_present, counter_read, counter_read_refusals, counter_write, counter_write_refusals}
use Rattle.ep_machine.specs.Effect.{Effect}
use Rattle.ep_machine.specs.Listening.{Listener, hearing_at, idle_listen_refusals, listener_bind_refusals, listener_connect_refusals, listener_listen}
use Rattle.ep_machine.specs.Listening.{listener_present, listener_read_refusals, listener_write_refusals, new_listener}
use Rattle.ep_machine.specs.Names.{free_name, given, is_there, same_name}
use Rattle.ep_machine.specs.Pipe.{Pipe, pipe_close, pipe_present, pipe_read, pipe_read_refusals, pipe_write, pipe_write_refusals}
use Rattle.ep_machine.specs.Sockets.{SocketPair, pair_close, pair_name, pair_name_refusals, pair_peek, pair_present, pair_read, pair_read_refusals}
use Rattle.ep_machine.specs.Sockets.{pair_shut_refusals, pair_shutdown, pair_take_error, pair_write, pair_write_refusals}
use Rattle.ep_machine.specs.Timer.{Timer, timer_advance, timer_present, timer_read, timer_read_refusals, timer_set_refusals, timer_setting, timer_settime}
use Rattle.ep_machine.specs.Unconnected.{Idle, family_refusals, idle_bind, idle_bind_refusals, idle_connect, idle_connect_refusals, idle_name, name_or, unheard_refusals}
use Rattle.ep_machine.specs.Unconnected.{idle_present, idle_read, idle_read_refusals, idle_take_error, idle_write, idle_write_refusals}

pub data Object : Type 0 where
  plain : Object
  pipe : Pipe → Object
  pair : SocketPair → Object
  idle : Idle → Object
  listener : Listener → Object
  counter : Counter → Object
  timer : Timer → Object
  instance : Object

abbrev pub is_plain : Object → Bool
is_plain plain = true
is_plain x = false

abbrev pub is_instance : Object → Bool
is_instance instance = true
is_instance x = false

abbrev pub is_pair : Object → Bool
is_pair (pair p) = true
is_pair x = false

abbrev pub is_idle : Object → Bool
is_idle (idle i) = true
is_idle x = false

abbrev pub is_listener : Object → Bool
is_listener (listener l) = true
is_listener x = false

abbrev pub is_socket : Object → Bool
is_socket x = is_pair x || is_idle x || is_listener x

-- a connection whose second end nobody has yet: it waits at a listener
abbrev pub is_waiting : Object → Bool
is_waiting (pair p) = not p.is_accepted && not p.second_end.is_closed
is_waiting x = false

abbrev pub is_timer : Object → Bool
is_timer (timer t) = true
is_timer x = false

-- the bits that hold now at an end
abbrev pub object_present : Object → End → ℕ → ℕ
object_present plain e now = 0
object_present (pipe p) e now = pipe_present p e
object_present (pair p) e now = pair_present p e
object_present (idle i) e now = idle_present i
object_present (listener l) e now = listener_present l
object_present (counter c) e now = counter_present c
object_present (timer t) e now = timer_present t now
object_present instance e now = 0

abbrev pub effect_on : {X : Type 0} → (X → Object) → Effect X → Effect Object
effect_on wrap f = (f.0, wrap f.1, f.2)

abbrev pub read_refusals : Object → End → ℕ → ℕ → List (Bool × Errno)
read_refusals plain e n now = []
read_refusals (pipe p) e n now = pipe_read_refusals p e n
read_refusals (pair p) e n now = pair_read_refusals p e n
read_refusals (idle i) e n now = idle_read_refusals i n
read_refusals (listener l) e n now = listener_read_refusals l n
read_refusals (counter c) e n now = counter_read_refusals c n
read_refusals (timer t) e n now = timer_read_refusals t n now
read_refusals instance e n now = (true, Einval) ∷ []

abbrev pub read : Object → End → ℕ → ℕ → Effect Object
read plain e n now = (Bytes [], plain, nothing)
read (pipe p) e n now = effect_on pipe (pipe_read p n)
read (pair p) e n now = effect_on pair (pair_read p e n)
read (idle i) e n now = effect_on idle (idle_read i n)
read (listener l) e n now = (Bytes [], listener l, nothing)
read (counter c) e n now = effect_on counter (counter_read c)
read (timer t) e n now = effect_on timer (timer_read t now)
read instance e n now = (Done, instance, nothing)

abbrev pub write_refusals : Object → End → List ℕ → List (Bool × Errno)
write_refusals plain e bytes = []
write_refusals (pipe p) e bytes = pipe_write_refusals p e bytes
write_refusals (pair p) e bytes = pair_write_refusals p e bytes
write_refusals (idle i) e bytes = idle_write_refusals i bytes
write_refusals (listener l) e bytes = listener_write_refusals l bytes
write_refusals (counter c) e bytes = counter_write_refusals c bytes
write_refusals (timer t) e bytes = (true, Einval) ∷ []
write_refusals instance e bytes = (true, Einval) ∷ []

abbrev pub write : Object → End → List ℕ → Effect Object
write plain e bytes = (Num (length bytes), plain, nothing)
write (pipe p) e bytes = effect_on pipe (pipe_write p bytes)
write (pair p) e bytes = effect_on pair (pair_write p e bytes)
write (idle i) e bytes = effect_on idle (idle_write i bytes)
write (listener l) e bytes = (Num 0, listener l, nothing)
write (counter c) e bytes = effect_on counter (counter_write c bytes)
write (timer t) e bytes = (Done, timer t, nothing)
write instance e bytes = (Done, instance, nothing)

-- what reads, but takes no bytes
abbrev pub peek : Object → End → ℕ → Effect Object
peek (pair p) e n = effect_on pair (pair_peek p e n)
peek (idle i) e n = effect_on idle (idle_read i n)
peek (listener l) e n = (Bytes [], listener l, nothing)
peek x e n = (Done, x, nothing)

-- The calls of sockets and of timers: what another kind of object does is never asked.
abbrev pub shutdown : Object → End → How → Effect Object
shutdown (pair p) e how = effect_on pair (pair_shutdown p e how)
shutdown x e how = (Done, x, nothing)

abbrev pub shutdown_refusals : Object → End → List (Bool × Errno)
shutdown_refusals (pair p) e = pair_shut_refusals p e
shutdown_refusals x e = (true, Enotconn) ∷ []

abbrev pub take_error : Object → End → Effect Object
take_error (pair p) e = effect_on pair (pair_take_error p e)
take_error (idle i) e = effect_on idle (idle_take_error i)
take_error (listener l) e = (Num 0, listener l, nothing)
take_error x e = (Done, x, nothing)

abbrev pub name_of : Object → End → Bool → Effect Object
name_of (pair p) e of_peer = effect_on pair (pair_name p e of_peer)
name_of (idle i) e of_peer = effect_on idle (idle_name i)
name_of (listener l) e of_peer = (Named (Some l.name), listener l, nothing)
name_of x e of_peer = (Done, x, nothing)

abbrev pub name_refusals : Object → End → Bool → List (Bool × Errno)
name_refusals (pair p) e of_peer = pair_name_refusals p e of_peer
name_refusals x e of_peer = (of_peer, Enotconn) ∷ []

-- An end of a connection has what a name is for, and connects and listens no more.
abbrev pub bind_refusals : Object → Space → Option Name → List (Bool × Errno)
bind_refusals (pair p) space found = family_refusals p.family space ++ (true, Einval) ∷ []
bind_refusals (idle i) space found = idle_bind_refusals i space found
bind_refusals (listener l) space found = listener_bind_refusals l space
bind_refusals x space found = []

abbrev pub bind : Object → Option Name → Effect Object
bind (idle i) found = effect_on idle (idle_bind i found)
bind x found = (Done, x, nothing)

-- Who hears it is told of Unix before a connection is.
abbrev pub pair_connect_refusals : Space → Hearing → List (Bool × Errno)
pair_connect_refusals space heard = unheard_refusals space heard ++ (true, Eisconn) ∷ []

abbrev pub connect_refusals : Object → Space → Option Name → Hearing → List (Bool × Errno)
connect_refusals (pair p) space found heard = pair_connect_refusals space heard
connect_refusals (idle i) space found heard = idle_connect_refusals i space found heard
connect_refusals (listener l) space found heard = listener_connect_refusals l.family space heard
connect_refusals x space found heard = []

abbrev pub connect : Object → Option Name → Effect Object
connect (idle i) found = effect_on idle (idle_connect i found)
connect x found = (Done, x, nothing)

abbrev pub listen_refusals : Object → Option Name → List (Bool × Errno)
listen_refusals (pair p) found = (true, Einval) ∷ []
listen_refusals (idle i) found = idle_listen_refusals i found
listen_refusals x found = []

-- from now on it listens at this name
abbrev pub listening : Idle → ℤ → Option Name → Object
listening x backlog None = idle x
listening x backlog (Some name) = listener (new_listener x.family name backlog)

abbrev pub listen : Object → ℤ → Option Name → Effect Object
listen (idle i) backlog found = (Done, listening i backlog (name_or i.name found), nothing)
listen (listener l) backlog found = (Done, listener (listener_listen l backlog), nothing)
listen x backlog found = (Done, x, nothing)

-- what only sockets answer
abbrev pub of_socket : Object → List (Bool × Errno) → List (Bool × Errno)
of_socket x refusals = (not (is_socket x), Enotsock) ∷ refusals

abbrev pub settime : Object → Bool → ℕ → ℕ → ℕ → Effect Object
settime (timer t) absolute value interval now = effect_on timer (timer_settime t absolute value interval now)
settime x absolute value interval now = (Done, x, nothing)

abbrev pub gettime : Object → ℕ → Effect Object
gettime (timer t) now = (timer_setting t now, timer t, nothing)
gettime x now = (Done, x, nothing)

-- what a call asks of an object
pub data ObjectCall : Type 0 where
  reads : ℕ → ObjectCall
  writes : List ℕ → ObjectCall
  peeks : ℕ → ObjectCall
  shuts_down : How → ObjectCall
  takes_error : ObjectCall
  asks_name : Bool → ObjectCall
  binds : Space → Option Name → ObjectCall  -- by a name of this space; the name that was found free for it
  listens : ℤ → Option Name → ObjectCall
  connects : Space → Option Name → Hearing → ObjectCall  -- and who hears it at the name that it asks for
  sets_time : Bool → ℕ → ℕ → ObjectCall
  asks_time : ObjectCall

-- the name that an object has and keeps from others: of a connection its first end's, until that closes
abbrev pub name_in : Object → Option Name
name_in (idle i) = i.name
name_in (listener l) = Some l.name
name_in (pair p) = if p.first_end.is_closed then None else p.first_end.name
name_in x = None

abbrev pub has_name : Name → Option Object → Bool
has_name name None = false
has_name name (Some x) = is_there name (name_in x)

abbrev pub is_taken : List (Option Object) → Name → Bool
is_taken objects name = list_any (has_name name) objects

-- the name that is free for a call that gives one, by which are taken
abbrev pub found_for : (Name → Bool) → Call → Option Name
found_for taken (Bind fd name) = free_name taken name
found_for taken (Listen fd backlog) = given taken V4
found_for taken (Connect fd name) = given taken name.space
found_for taken call = None

-- somebody listens at a name
abbrev pub listens_at : Name → Option Object → Bool
listens_at name (Some (listener l)) = same_name l.name name
listens_at name x = false

-- who hears at an object
abbrev pub heard_by : Option Object → Hearing
heard_by (Some (listener l)) = hearing_at l
heard_by x = Nobody

-- and at a name: who listens there first, if anybody does
abbrev pub hearing_in : List (Option Object) → Name → Hearing
hearing_in [] name = Nobody
hearing_in (x ∷ xs) name = if listens_at name x then heard_by x else hearing_in xs name

-- who hears a call by the name by which it connects
abbrev pub hearing : List (Option Object) → Call → Hearing
hearing objects (Connect fd name) = hearing_in objects name
hearing objects call = Nobody

-- The descriptor on whose object a call is, and what it asks of that, with the name that was found free for it, and
-- who hears it. Any other call has neither.
abbrev pub object_call : Option Name → Hearing → Call → Option (Fd × ObjectCall)
object_call found heard (Read fd n) = Some (fd, reads n)
object_call found heard (Write fd bytes) = Some (fd, writes bytes)
object_call found heard (Peek fd n) = Some (fd, peeks n)
object_call found heard (Shutdown fd how) = Some (fd, shuts_down how)
object_call found heard (TakeError fd) = Some (fd, takes_error)
object_call found heard (SocketName fd of_peer) = Some (fd, asks_name of_peer)
object_call found heard (Bind fd name) = Some (fd, binds name.space found)
object_call found heard (Listen fd backlog) = Some (fd, listens backlog found)
object_call found heard (Connect fd name) = Some (fd, connects name.space found heard)
object_call found heard (SetTime fd absolute value interval) = Some (fd, sets_time absolute value interval)
object_call found heard (GetTime fd) = Some (fd, asks_time)
object_call found heard call = None

-- the same, beside these objects
abbrev pub asks : List (Option Object) → Call → Option (Fd × ObjectCall)
asks objects call = object_call (found_for (is_taken objects) call) (hearing objects call) call

-- the refusals of a call on an end of an object, in order
abbrev pub object_refusals : Object → End → ℕ → ObjectCall → List (Bool × Errno)
object_refusals x e now (reads n) = read_refusals x e n now
object_refusals x e now (writes bytes) = write_refusals x e bytes
object_refusals x e now (peeks n) = of_socket x (read_refusals x e n now)
object_refusals x e now (shuts_down how) = of_socket x (shutdown_refusals x e)
object_refusals x e now takes_error = of_socket x []
object_refusals x e now (asks_name of_peer) = of_socket x (name_refusals x e of_peer)
object_refusals x e now (binds space found) = of_socket x (bind_refusals x space found)
object_refusals x e now (listens backlog found) = of_socket x (listen_refusals x found)
object_refusals x e now (connects space found heard) = of_socket x (connect_refusals x space found heard)
object_refusals x e now (sets_time absolute value interval) = (not (is_timer x), Einval) ∷ timer_set_refusals value interval
object_refusals x e now asks_time = (not (is_timer x), Einval) ∷ []

-- what such a call does where it isn't refused
abbrev pub object_effect : Object → End → ℕ → ObjectCall → Effect Object
object_effect x e now (reads n) = read x e n now
object_effect x e now (writes bytes) = write x e bytes
object_effect x e now (peeks n) = peek x e n
object_effect x e now (shuts_down how) = shutdown x e how
object_effect x e now takes_error = take_error x e
object_effect x e now (asks_name of_peer) = name_of x e of_peer
object_effect x e now (binds space found) = bind x found
object_effect x e now (listens backlog found) = listen x backlog found
object_effect x e now (connects space found heard) = connect x found
object_effect x e now (sets_time absolute value interval) = settime x absolute value interval now
object_effect x e now asks_time = gettime x now

-- what the clock's going on raises
abbrev pub advance : Object → ℕ → ℕ → ℕ
advance (timer t) old now = timer_advance t old now
advance x old now = 0

abbrev pub close_end : Object → End → Object × Raised
close_end (pipe p) e = let closed = pipe_close p e in (pipe closed.0, closed.1)
close_end (pair p) e = let closed = pair_close p e in (pair closed.0, closed.1)
close_end x e = (x, nothing)
