-- Short forms for the records of worked runs. Each call is made by caller 0 where no other is named.
use Rattle.std.specs.Prelude.{Bool, List, [], false, pos, ℕ, ℤ}
use Rattle.ep_base.specs.Limits.{Limits}
use Rattle.ep_base.specs.declared.answer.Answer.{Answer}
use Rattle.ep_base.specs.declared.answer.Answer.TheVariants.{Done, Events, Refused, Two}
use Rattle.ep_base.specs.declared.answer.Report.{Report}
use Rattle.ep_base.specs.declared.call.Call.{Call}
use Rattle.ep_base.specs.declared.call.Call.TheVariants.{Accept, Bind, Close, Connect, Dup, Dup2, EpollCreate, EpollCtl, EpollWait}
use Rattle.ep_base.specs.declared.call.Call.TheVariants.{EventFd, GetTime, Listen, Peek, Pipe as PipeCall, Plain, Read}
use Rattle.ep_base.specs.declared.call.Call.TheVariants.{SetTime, Shutdown, Socket, SocketName, SocketPair, TakeError, TimerFd, Write}
use Rattle.ep_base.specs.declared.call.Event.{Event}
use Rattle.ep_base.specs.declared.call.Event.TheVariants.{Call as CallOf, Resume, Tick}
use Rattle.ep_base.specs.declared.errno.Errno.{Errno}
use Rattle.ep_base.specs.declared.ids.Fd.{Fd}
use Rattle.ep_base.specs.declared.record.Record.{Record}
use Rattle.ep_base.specs.declared.socket.Family.{Family}
use Rattle.ep_base.specs.declared.socket.How.{How}
use Rattle.ep_base.specs.declared.socket.How.TheVariants as hows
use Rattle.ep_base.specs.declared.socket.Name.{Name}
use Rattle.ep_base.specs.declared.socket.Space.{Space}

-- limits on descriptors, files and registrations; the others don't matter here
abbrev pub small_limits : ℕ → ℕ → ℕ → Limits
small_limits descriptors files watches =
    record {
      descriptors = descriptors;
      files = files;
      processes = 2;
      watches = watches;
      pipe_bytes = 4096;
      sock_bytes = 4096;
    }

-- 6 descriptors, 5 files and 2 processes
abbrev pub tight_limits : Limits
tight_limits = record { descriptors = 6; files = 5; processes = 2; watches = 8; pipe_bytes = 4096; sock_bytes = 1 }

-- so many bytes wait in one direction of a socket pair
abbrev pub socket_limits : ℕ → Limits
socket_limits sock_bytes = record (small_limits 16 16 8) { sock_bytes = sock_bytes }

abbrev pub fd_of : ℤ → Fd
fd_of k = record { 0 = k }

abbrev pub pipe_call : Call
pipe_call = PipeCall false

abbrev pub create_call : Call
create_call = EpollCreate false

abbrev pub counter_call : ℕ → Bool → Call
counter_call init semaphore = EventFd init semaphore false

abbrev pub timer_call : ℕ → Call
timer_call clock = TimerFd (pos clock) false

abbrev pub pair_call : Call
pair_call = SocketPair false

abbrev pub socket_call : Family → Call
socket_call family = Socket family false

abbrev pub plain_call : Call
plain_call = Plain false

-- any operation, on any numbers
abbrev pub ctl_call : ℤ → ℤ → ℤ → ℕ → ℕ → Call
ctl_call epfd op fd mask tag = EpollCtl (fd_of epfd) op (fd_of fd) (record { 0 = mask }) tag

abbrev pub add_call : ℕ → ℕ → ℕ → ℕ → Call
add_call epfd fd mask tag = ctl_call (pos epfd) (pos 1) (pos fd) mask tag

abbrev pub mod_call : ℕ → ℕ → ℕ → ℕ → Call
mod_call epfd fd mask tag = ctl_call (pos epfd) (pos 3) (pos fd) mask tag

abbrev pub del_call : ℕ → ℕ → Call
del_call epfd fd = ctl_call (pos epfd) (pos 2) (pos fd) 0 0

abbrev pub wait_call_for : ℤ → ℤ → ℤ → Call
wait_call_for epfd most timeout = EpollWait (fd_of epfd) most timeout

-- with a timeout of 0
abbrev pub wait_call : ℕ → ℕ → Call
wait_call epfd most = wait_call_for (pos epfd) (pos most) (pos 0)

abbrev pub read_call : ℤ → ℕ → Call
read_call fd n = Read (fd_of fd) n

abbrev pub write_call : ℤ → List ℕ → Call
write_call fd bytes = Write (fd_of fd) bytes

abbrev pub shutdown_call : ℤ → Call
shutdown_call fd = Shutdown (fd_of fd) hows.Write

-- shutdown(2) of more than the writing
abbrev pub shut_call : ℤ → How → Call
shut_call fd how = Shutdown (fd_of fd) how

abbrev pub peek_call : ℤ → ℕ → Call
peek_call fd n = Peek (fd_of fd) n

abbrev pub error_call : ℤ → Call
error_call fd = TakeError (fd_of fd)

abbrev pub name_call : ℤ → Bool → Call
name_call fd of_peer = SocketName (fd_of fd) of_peer

abbrev pub name_at : Space → ℕ → Name
name_at space number = record { space = space; number = number }

abbrev pub bind_call : ℤ → Space → ℕ → Call
bind_call fd space number = Bind (fd_of fd) (name_at space number)

abbrev pub connect_call : ℤ → Space → ℕ → Call
connect_call fd space number = Connect (fd_of fd) (name_at space number)

abbrev pub listen_call : ℤ → ℤ → Call
listen_call fd backlog = Listen (fd_of fd) backlog

abbrev pub accept_call : ℤ → Call
accept_call fd = Accept (fd_of fd) false

abbrev pub settime_call : ℤ → Bool → ℕ → ℕ → Call
settime_call fd absolute value interval = SetTime (fd_of fd) absolute value interval

abbrev pub gettime_call : ℤ → Call
gettime_call fd = GetTime (fd_of fd)

abbrev pub dup_call : ℤ → Call
dup_call fd = Dup (fd_of fd)

abbrev pub dup2_call : ℤ → ℤ → Call
dup2_call fd to = Dup2 (fd_of fd) (fd_of to)

abbrev pub close_call : ℤ → Call
close_call fd = Close (fd_of fd)

abbrev pub two : ℕ → ℕ → Answer
two a b = Two (fd_of (pos a)) (fd_of (pos b))

abbrev pub report : ℕ → ℕ → Report
report bits tag = record { bits = record { 0 = bits }; tag = tag }

abbrev pub of_event : Event → Answer → List ℕ → Record
of_event event answer picked = record { caller = record { 0 = 0 }; event = event; answer = answer; picked = picked }

abbrev pub by_process : ℕ → Call → Answer → List ℕ → Record
by_process pid call answer picked = of_event (CallOf (record { 0 = pid }) call) answer picked

-- the clock goes on by so much, or is refused to
abbrev pub ticked : ℕ → Record
ticked k = of_event (Tick k) Done []

abbrev pub tick_refused : ℕ → Errno → Record
tick_refused k errno = of_event (Tick k) (Refused errno) []

-- process 1 is answered, and nothing is reported
abbrev pub answered : Call → Answer → Record
answered call answer = by_process 1 call answer []

-- process 1 is refused
abbrev pub refused : Call → Errno → Record
refused call errno = answered call (Refused errno)

-- process 1 is given these reports, of the registrations of these numbers
abbrev pub reporting : Call → List Report → List ℕ → Record
reporting call reports picked = by_process 1 call (Events reports) picked

-- the same, asked for by another caller
abbrev pub by_caller : ℕ → Record → Record
by_caller c r = record r { caller = record { 0 = c } }

-- a caller asks whether it may go on
abbrev pub resumed : ℕ → Answer → List ℕ → Record
resumed c answer picked = by_caller c (of_event Resume answer picked)
