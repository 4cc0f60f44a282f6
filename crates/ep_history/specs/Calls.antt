-- A call as an object: its operation under `op`, and each field under its key.
use Rattle.std.specs.Prelude.{Bool, List, None, Option, Some, [], codes, false, if◌then◌else◌, length, slice_index, true, ℕ, ℤ, ◌==◌, ◌∷◌}
use Rattle.serde_json.specs.Data.{Data, boolean, string}
use Rattle.serde_json.specs.Find.{as_bool, as_str, get}
use Rattle.ep_base.specs.declared.call.Call.{Call}
use Rattle.ep_base.specs.declared.call.Call.TheVariants.{Accept, Bind, Close, Connect, Dup, Dup2, EpollCreate, EpollCtl, EpollWait, EventFd, Exec, Exit, Fork, GetTime, Listen, Peek, Pipe, Plain, Read, SetTime, Shutdown, Socket, SocketName, SocketPair, TakeError, TimerFd, Write}
use Rattle.ep_base.specs.declared.ids.Fd.{Fd}
use Rattle.ep_base.specs.declared.socket.How.{How}
use Rattle.ep_base.specs.declared.socket.How.TheVariants as hows
use Rattle.ep_base.specs.declared.socket.Name.{Name}
use Rattle.ep_base.specs.declared.socket.Space.{Space}
use Rattle.hex.specs.Hex.{encode_lower}
use Rattle.ep_history.specs.Fields.{i32_value, i64_value, integer, named, natural, object_of, pair, required, size, u32_value, u64_value, ◌>>=◌}
use Rattle.ep_history.specs.Bytes.{is_run, written}
use Rattle.ep_history.specs.Sockets.{family_text, family_value, how_text, how_value, space_text, space_value}

-- ---- what is printed

abbrev pub operation : List ℕ → List (List ℕ × Data) → Data
operation op fields = object_of ((codes "op", string op) ∷ fields)

abbrev pub of_flag : List ℕ → Bool → Data
of_flag op cloexec = operation op ((codes "cloexec", boolean cloexec) ∷ [])

abbrev pub of_fd : List ℕ → ℤ → Data
of_fd op fd = operation op ((codes "fd", integer fd) ∷ [])

abbrev pub of_ctl : ℤ → ℤ → ℤ → ℕ → ℕ → Data
of_ctl epfd op fd mask tag =
    operation (codes "ctl") ((codes "ep", integer epfd) ∷ (codes "act", integer op) ∷ (codes "fd", integer fd) ∷
    (codes "mask", natural mask) ∷ (codes "data", natural tag) ∷ [])

abbrev pub of_wait : ℤ → ℤ → ℤ → Data
of_wait epfd max timeout =
    operation (codes "wait") ((codes "ep", integer epfd) ∷ (codes "max", integer max) ∷ (codes "timeout", integer timeout) ∷ [])

-- a write of a run, or of other bytes
abbrev pub of_write : ℤ → List ℕ → Bool → Data
of_write fd bytes true =
    operation (codes "write") ((codes "fd", integer fd) ∷ (codes "fill", pair (natural (slice_index bytes 0)) (natural (length bytes))) ∷ [])
of_write fd bytes false = operation (codes "write") ((codes "fd", integer fd) ∷ (codes "hex", string (encode_lower bytes)) ∷ [])

-- what goes out is shut if nothing says otherwise
abbrev pub of_shutdown : ℤ → How → Data
of_shutdown fd hows.Write = of_fd (codes "shutdown") fd
of_shutdown fd how = operation (codes "shutdown") ((codes "fd", integer fd) ∷ (codes "how", string (how_text how)) ∷ [])

abbrev pub of_name : List ℕ → ℤ → Space → ℕ → Data
of_name op fd space number =
    operation op ((codes "fd", integer fd) ∷ (codes "space", string (space_text space)) ∷ (codes "name", natural number) ∷ [])

abbrev pub name_operation : Bool → List ℕ
name_operation false = codes "sockname"
name_operation true = codes "peername"

abbrev pub call_data : Call → Data
call_data (Pipe cloexec) = of_flag (codes "pipe") cloexec
call_data (SocketPair cloexec) = of_flag (codes "socketpair") cloexec
call_data (Plain cloexec) = of_flag (codes "plain") cloexec
call_data (EpollCreate cloexec) = of_flag (codes "epoll") cloexec
call_data (EventFd init semaphore cloexec) =
    operation (codes "eventfd") ((codes "init", natural init) ∷ (codes "sem", boolean semaphore) ∷ (codes "cloexec", boolean cloexec) ∷ [])
call_data (TimerFd clock cloexec) =
    operation (codes "timerfd") ((codes "clock", integer clock) ∷ (codes "cloexec", boolean cloexec) ∷ [])
call_data (EpollCtl epfd op fd mask tag) = of_ctl epfd.0 op fd.0 mask.0 tag
call_data (EpollWait epfd max timeout) = of_wait epfd.0 max timeout
call_data (Read fd n) = operation (codes "read") ((codes "fd", integer fd.0) ∷ (codes "n", natural n) ∷ [])
call_data (Write fd bytes) = of_write fd.0 bytes (is_run bytes)
call_data (Shutdown fd how) = of_shutdown fd.0 how
call_data (Socket family cloexec) =
    operation (codes "socket") ((codes "family", string (family_text family)) ∷ (codes "cloexec", boolean cloexec) ∷ [])
call_data (Peek fd n) = operation (codes "peek") ((codes "fd", integer fd.0) ∷ (codes "n", natural n) ∷ [])
call_data (TakeError fd) = of_fd (codes "sockerr") fd.0
call_data (SocketName fd peer) = of_fd (name_operation peer) fd.0
call_data (Bind fd name) = of_name (codes "bind") fd.0 name.space name.number
call_data (Listen fd backlog) = operation (codes "listen") ((codes "fd", integer fd.0) ∷ (codes "backlog", integer backlog) ∷ [])
call_data (Connect fd name) = of_name (codes "connect") fd.0 name.space name.number
call_data (Accept fd cloexec) = operation (codes "accept") ((codes "fd", integer fd.0) ∷ (codes "cloexec", boolean cloexec) ∷ [])
call_data (SetTime fd absolute value interval) =
    operation (codes "settime") ((codes "fd", integer fd.0) ∷ (codes "abs", boolean absolute) ∷
    (codes "value", natural value) ∷ (codes "interval", natural interval) ∷ [])
call_data (GetTime fd) = of_fd (codes "gettime") fd.0
call_data (Dup fd) = of_fd (codes "dup") fd.0
call_data (Dup2 fd to) = operation (codes "dup2") ((codes "fd", integer fd.0) ∷ (codes "to", integer to.0) ∷ [])
call_data (Close fd) = of_fd (codes "close") fd.0
call_data Fork = operation (codes "fork") []
call_data Exec = operation (codes "exec") []
call_data Exit = operation (codes "exit") []

-- ---- what is read

abbrev pub flag_call : (Bool → Call) → Data → Option Call
flag_call make d = do
  cloexec ← required (codes "cloexec") as_bool d
  Some (make cloexec)

abbrev pub pipe_call : Data → Option Call
pipe_call = flag_call (λ cloexec. Pipe cloexec)

abbrev pub socketpair_call : Data → Option Call
socketpair_call = flag_call (λ cloexec. SocketPair cloexec)

abbrev pub plain_call : Data → Option Call
plain_call = flag_call (λ cloexec. Plain cloexec)

abbrev pub epoll_call : Data → Option Call
epoll_call = flag_call (λ cloexec. EpollCreate cloexec)

abbrev pub fd_call : (Fd → Call) → Data → Option Call
fd_call make d = do
  fd ← required (codes "fd") i32_value d
  Some (make (record { 0 = fd }))

-- what goes out is shut if nothing says otherwise
abbrev pub how_under : Option Data → Option How
how_under None = Some hows.Write
how_under (Some d) = how_value d

abbrev pub shutdown_call : Data → Option Call
shutdown_call d = do
  fd ← required (codes "fd") i32_value d
  how ← how_under (get (codes "how") d)
  Some (Shutdown (record { 0 = fd }) how)

abbrev pub socket_call : Data → Option Call
socket_call d = do
  family ← required (codes "family") family_value d
  cloexec ← required (codes "cloexec") as_bool d
  Some (Socket family cloexec)

abbrev pub peek_call : Data → Option Call
peek_call d = do
  fd ← required (codes "fd") i32_value d
  n ← required (codes "n") u32_value d
  Some (Peek (record { 0 = fd }) n)

abbrev pub sockerr_call : Data → Option Call
sockerr_call = fd_call (λ fd. TakeError fd)

abbrev pub sockname_call : Data → Option Call
sockname_call = fd_call (λ fd. SocketName fd false)

abbrev pub peername_call : Data → Option Call
peername_call = fd_call (λ fd. SocketName fd true)

abbrev pub name_call : (Fd → Name → Call) → Data → Option Call
name_call make d = do
  fd ← required (codes "fd") i32_value d
  space ← required (codes "space") space_value d
  number ← required (codes "name") u32_value d
  Some (make (record { 0 = fd }) (record { space = space; number = number }))

abbrev pub bind_call : Data → Option Call
bind_call = name_call (λ fd name. Bind fd name)

abbrev pub connect_call : Data → Option Call
connect_call = name_call (λ fd name. Connect fd name)

abbrev pub listen_call : Data → Option Call
listen_call d = do
  fd ← required (codes "fd") i32_value d
  backlog ← required (codes "backlog") i32_value d
  Some (Listen (record { 0 = fd }) backlog)

abbrev pub accept_call : Data → Option Call
accept_call d = do
  fd ← required (codes "fd") i32_value d
  cloexec ← required (codes "cloexec") as_bool d
  Some (Accept (record { 0 = fd }) cloexec)

abbrev pub gettime_call : Data → Option Call
gettime_call = fd_call (λ fd. GetTime fd)

abbrev pub dup_call : Data → Option Call
dup_call = fd_call (λ fd. Dup fd)

abbrev pub close_call : Data → Option Call
close_call = fd_call (λ fd. Close fd)

abbrev pub eventfd_call : Data → Option Call
eventfd_call d = do
  init ← required (codes "init") u32_value d
  semaphore ← required (codes "sem") as_bool d
  cloexec ← required (codes "cloexec") as_bool d
  Some (EventFd init semaphore cloexec)

abbrev pub timerfd_call : Data → Option Call
timerfd_call d = do
  clock ← required (codes "clock") i32_value d
  cloexec ← required (codes "cloexec") as_bool d
  Some (TimerFd clock cloexec)

abbrev pub ctl_call : Data → Option Call
ctl_call d = do
  epfd ← required (codes "ep") i32_value d
  op ← required (codes "act") i32_value d
  fd ← required (codes "fd") i32_value d
  mask ← required (codes "mask") u32_value d
  tag ← required (codes "data") u64_value d
  Some (EpollCtl (record { 0 = epfd }) op (record { 0 = fd }) (record { 0 = mask }) tag)

abbrev pub wait_call : Data → Option Call
wait_call d = do
  epfd ← required (codes "ep") i32_value d
  max ← required (codes "max") i32_value d
  timeout ← required (codes "timeout") i64_value d
  Some (EpollWait (record { 0 = epfd }) max timeout)

abbrev pub read_call : Data → Option Call
read_call d = do
  fd ← required (codes "fd") i32_value d
  n ← required (codes "n") u32_value d
  Some (Read (record { 0 = fd }) n)

abbrev pub write_call : Data → Option Call
write_call d = do
  fd ← required (codes "fd") i32_value d
  bytes ← written (get (codes "hex") d) (get (codes "fill") d)
  Some (Write (record { 0 = fd }) bytes)

abbrev pub settime_call : Data → Option Call
settime_call d = do
  fd ← required (codes "fd") i32_value d
  absolute ← required (codes "abs") as_bool d
  value ← required (codes "value") u64_value d
  interval ← required (codes "interval") u64_value d
  Some (SetTime (record { 0 = fd }) absolute value interval)

abbrev pub dup2_call : Data → Option Call
dup2_call d = do
  fd ← required (codes "fd") i32_value d
  to ← required (codes "to") i32_value d
  Some (Dup2 (record { 0 = fd }) (record { 0 = to }))

-- those that only sockets have
abbrev pub socket_operations : List (List ℕ × (Data → Option Call))
socket_operations =
    (codes "socket", socket_call) ∷
    (codes "bind", bind_call) ∷
    (codes "listen", listen_call) ∷
    (codes "connect", connect_call) ∷
    (codes "accept", accept_call) ∷
    (codes "peek", peek_call) ∷
    (codes "sockname", sockname_call) ∷
    (codes "peername", peername_call) ∷
    (codes "sockerr", sockerr_call) ∷ []

abbrev pub other_operations : List (List ℕ × (Data → Option Call))
other_operations =
    (codes "pipe", pipe_call) ∷
    (codes "socketpair", socketpair_call) ∷
    (codes "plain", plain_call) ∷
    (codes "epoll", epoll_call) ∷
    (codes "eventfd", eventfd_call) ∷
    (codes "timerfd", timerfd_call) ∷
    (codes "ctl", ctl_call) ∷
    (codes "wait", wait_call) ∷
    (codes "read", read_call) ∷
    (codes "shutdown", shutdown_call) ∷
    (codes "settime", settime_call) ∷
    (codes "gettime", gettime_call) ∷
    (codes "dup", dup_call) ∷
    (codes "dup2", dup2_call) ∷
    (codes "close", close_call) ∷
    (codes "fork", λ d. Some Fork) ∷
    (codes "exec", λ d. Some Exec) ∷
    (codes "exit", λ d. Some Exit) ∷ socket_operations

abbrev pub operations : List (List ℕ × (Data → Option Call))
operations = (codes "write", write_call) ∷ other_operations

-- a call has no members but those that it is printed with
abbrev pub whole : Data → Call → Option Call
whole d call = if size d == size (call_data call) then Some call else None

abbrev pub call_of : Data → Option Call
call_of d = do
  op ← required (codes "op") as_str d
  call ← named operations op d
  whole d call
