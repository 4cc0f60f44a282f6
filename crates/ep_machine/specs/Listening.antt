-- Sockets that listen, and what waits there to be accepted.
use Rattle.std.specs.Prelude.{Bool, List, Option, [], if◌then◌else◌, is_none, length, min, nat_lt, negsuc, not, pos, true, ℕ, ℤ, ◌&&◌, ◌++◌, ◌∷◌}
use Rattle.ep_base.specs.declared.errno.Errno.{Errno}
use Rattle.ep_base.specs.declared.errno.Errno.TheVariants.{Eaddrinuse, Einval, Eisconn}
use Rattle.ep_base.specs.declared.socket.Family.{Family}
use Rattle.ep_base.specs.declared.socket.Family.TheVariants as families
use Rattle.ep_base.specs.declared.socket.Hearing.{Hearing}
use Rattle.ep_base.specs.declared.socket.Hearing.TheVariants.{Full, Somebody}
use Rattle.ep_base.specs.declared.socket.Name.{Name}
use Rattle.ep_base.specs.declared.socket.Space.{Space}
use Rattle.ep_machine.specs.Bits.{IN, when}
use Rattle.ep_machine.specs.Lists.{is_empty}
use Rattle.ep_machine.specs.Sockets.{is_tcp}
use Rattle.ep_machine.specs.Unconnected.{Idle, family_refusals, name_or, unheard_refusals, unread_error, unwritten_error}

pub record Listener : Type 0 where
  pub family : Family
  pub name : Name
  pub backlog : ℕ
  pub pending : List ℕ  -- the numbers of the connections that came, the first of them first

-- as many may wait; a negative number asks for the most
abbrev pub greatest_backlog : ℕ
greatest_backlog = 4096

abbrev pub backlog_of : ℤ → ℕ
backlog_of (pos k) = min k greatest_backlog
backlog_of (negsuc k) = greatest_backlog

-- Listening, by a socket that has a name or, of TCP, gets the one that was found free.
abbrev pub idle_listen_refusals : Idle → Option Name → List (Bool × Errno)
idle_listen_refusals x found =
    (x.has_failed, Einval)
    ∷ (not (is_tcp x.family) && is_none x.name, Einval)
    ∷ (is_none (name_or x.name found), Eaddrinuse) ∷ []

abbrev pub new_listener : Family → Name → ℤ → Listener
new_listener family name backlog = record { family = family; name = name; backlog = backlog_of backlog; pending = [] }

-- A listener once more: what may wait there is another number.
abbrev pub listener_listen : Listener → ℤ → Listener
listener_listen x backlog = record x { backlog = backlog_of backlog }

-- One more connection may wait there, until more wait than its backlog.
abbrev pub hearing_at : Listener → Hearing
hearing_at x = if nat_lt x.backlog (length x.pending) then Full else Somebody

-- it can be read once something waits there
abbrev pub listener_present : Listener → ℕ
listener_present x = when (not (is_empty x.pending)) IN

-- No bytes ever come to it, or go from it.
abbrev pub listener_read_refusals : Listener → ℕ → List (Bool × Errno)
listener_read_refusals x n = (nat_lt 0 n, unread_error x.family) ∷ []

abbrev pub listener_write_refusals : Listener → List ℕ → List (Bool × Errno)
listener_write_refusals x bytes = (not (is_empty bytes), unwritten_error x.family) ∷ []

abbrev pub listener_bind_refusals : Listener → Space → List (Bool × Errno)
listener_bind_refusals x space = family_refusals x.family space ++ (true, Einval) ∷ []

-- It connects to nobody. Who hears it is told first of Unix.
abbrev pub listener_connect_refusals : Family → Space → Hearing → List (Bool × Errno)
listener_connect_refusals families.Unix space heard = unheard_refusals space heard ++ (true, Einval) ∷ []
listener_connect_refusals families.Tcp space heard = (true, Eisconn) ∷ []
