-- Kinds of calls, and calls and events that are copied without memory.
use Rattle.std.specs.Prelude.{[], ◌≡◌}
use Rattle.ep_base.specs.declared.call.Call.{Call}
use Rattle.ep_base.specs.declared.call.Call.TheVariants.{EpollCreate, EpollCtl, EpollWait, EventFd}
use Rattle.ep_base.specs.declared.call.Call.TheVariants.{GetTime, Pipe, Plain, Read, SetTime}
use Rattle.ep_base.specs.declared.call.Call.TheVariants.{Accept, Bind, Connect, Listen, Peek, SocketName, TakeError}
use Rattle.ep_base.specs.declared.call.Call.TheVariants.{Shutdown, Socket, SocketPair, TimerFd, Write}
use Rattle.ep_base.specs.declared.call.Event.{Event}
use Rattle.ep_base.specs.declared.call.Event.TheVariants.{Call as CallOf, Resume, Tick}

-- it writes no bytes
abbrev pub HasNoBytes : Call → Type 0
HasNoBytes (Write fd bytes) = bytes ≡ []
HasNoBytes call = Unit {0}

-- its call, if it has one, writes no bytes
abbrev pub EventHasNoBytes : Event → Type 0
EventHasNoBytes (CallOf pid call) = HasNoBytes call
EventHasNoBytes (Tick n) = Unit {0}
EventHasNoBytes Resume = Unit {0}

-- it makes descriptions, and descriptors for them
abbrev pub MakesFiles : Call → Type 0
MakesFiles (Pipe cloexec) = Unit {0}
MakesFiles (EventFd init semaphore cloexec) = Unit {0}
MakesFiles (TimerFd clock cloexec) = Unit {0}
MakesFiles (SocketPair cloexec) = Unit {0}
MakesFiles (Socket family cloexec) = Unit {0}
MakesFiles (Plain cloexec) = Unit {0}
MakesFiles (EpollCreate cloexec) = Unit {0}
MakesFiles call = ⊥

-- it acts on an object, and writes no bytes
abbrev pub IsOnObject : Call → Type 0
IsOnObject (EpollCtl epfd op fd mask tag) = Unit {0}
IsOnObject (EpollWait epfd max timeout) = Unit {0}
IsOnObject (Read fd n) = Unit {0}
IsOnObject (Shutdown fd how) = Unit {0}
IsOnObject (SetTime fd absolute value interval) = Unit {0}
IsOnObject (GetTime fd) = Unit {0}
IsOnObject call = ⊥

-- a socket alone answers it
abbrev pub IsOnSocket : Call → Type 0
IsOnSocket (Peek fd n) = Unit {0}
IsOnSocket (TakeError fd) = Unit {0}
IsOnSocket (SocketName fd peer) = Unit {0}
IsOnSocket (Bind fd name) = Unit {0}
IsOnSocket (Listen fd backlog) = Unit {0}
IsOnSocket (Connect fd name) = Unit {0}
IsOnSocket (Accept fd cloexec) = Unit {0}
IsOnSocket call = ⊥
