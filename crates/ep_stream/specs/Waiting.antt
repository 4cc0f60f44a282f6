-- How much a read could give.
use Rattle.std.specs.Prelude.{length, ℕ}
use Rattle.ep_base.specs.declared.object.End.TheVariants.{First, Second}
use Rattle.ep_base.specs.declared.object.End.{End}
use Rattle.ep_machine.specs.Pipe.{Pipe}
use Rattle.ep_machine.specs.Sockets.{SocketPair, own}

-- only the first end of a pipe is read
abbrev pub pipe_waiting : Pipe → End → ℕ
pipe_waiting p First = length p.bytes
pipe_waiting p Second = 0

-- each end of a pair is read from its own queue
abbrev pub pair_waiting : SocketPair → End → ℕ
pair_waiting p e = length (own p e).queue
