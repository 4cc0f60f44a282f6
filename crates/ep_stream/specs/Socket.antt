-- A connection of Unix as the abstract machine has it: two sockets, and what is kept beside them.
use Rattle.std.specs.Prelude.{Bool, true, ◌&&◌}
use Rattle.ep_base.specs.declared.socket.Family.TheVariants.{Unix}
use Rattle.ep_machine.specs.Sockets.{Socket as MachineSocket, SocketPair}
use Rattle.ep_stream.specs.declared.sock_pair.SockPair.TheInside.{Inside}
use Rattle.ep_stream.specs.declared.sock_pair.Socket.{Socket}

abbrev pub socket_of : Bool → Socket → MachineSocket
socket_of is_reset s = record {
  queue = s.queue.items;
  is_shut = s.is_shut;
  is_deaf = s.is_deaf;
  is_reset = is_reset;
  is_closed = s.is_closed;
  error = s.error;
  name = s.name;
}

-- its connection is gone only once both ends are closed
abbrev pub pair_of : Inside → SocketPair
pair_of p =
    let is_reset = p.first_end.is_closed && p.second_end.is_closed in
    record {
      family = Unix;
      capacity = p.first_end.queue.capacity;
      tells_loss = p.tells_loss;
      is_confirmed = true;
      is_accepted = p.is_accepted;
      first_end = socket_of is_reset p.first_end;
      second_end = socket_of is_reset p.second_end;
    }
