-- Calls on the tables alone: what refuses each, in order, its answer, the files after it, and what it raises.
use Rattle.std.specs.Prelude.{Bool, List, [], is_none, length, nat_le, not, ℕ, ℤ, ◌++◌, ◌||◌, ◌∷◌}
use Rattle.ep_base.specs.Limits.{Limits}
use Rattle.ep_base.specs.declared.answer.Answer.{Answer}
use Rattle.ep_base.specs.declared.answer.Answer.TheVariants.{Done, Num}
use Rattle.ep_base.specs.declared.call.Call.{Call}
use Rattle.ep_base.specs.declared.call.Call.TheVariants.{Accept, Close, Dup, Dup2, EpollCreate, EventFd, Exec, Exit, Fork}
use Rattle.ep_base.specs.declared.call.Call.TheVariants.{Pipe as PipeCall, Plain, Socket, SocketPair, TimerFd}
use Rattle.ep_base.specs.declared.errno.Errno.{Errno}
use Rattle.ep_base.specs.declared.errno.Errno.TheVariants.{Eagain, Ebadf, Ebusy, Einval, Emfile}
use Rattle.ep_base.specs.declared.socket.Family.{Family}
use Rattle.ep_machine.specs.Connections.{accept, first_waiting, pending_in, without_abandoned}
use Rattle.ep_machine.specs.Files.{Files, named_by, names_nothing, numbers_of, object_number, object_under, place_of}
use Rattle.ep_machine.specs.Lists.{numbered}
use Rattle.ep_machine.specs.Objects.{Object, counter, idle, instance, is_listener, of_socket, pair, pipe, plain, timer}
use Rattle.ep_machine.specs.Pipe.{new_pipe}
use Rattle.ep_machine.specs.Sockets.{new_pair}
use Rattle.ep_machine.specs.Tables.{answer_one, answer_two, close, create_one, create_two, dup, dup2, exec}
use Rattle.ep_machine.specs.Tables.{exit, fork, is_in_range, one_free, one_refusals, two_refusals}
use Rattle.ep_machine.specs.Timer.{new_timer}
use Rattle.ep_machine.specs.Unconnected.{new_idle}
use Rattle.ep_machine.specs.Watches.{is_op, number_in}

pub record FilesCall : Type 0 where
  pub refusals : List (Bool × Errno)
  pub answer : Answer
  pub after : Files
  pub raised : List (ℕ × ℕ)

-- one that raises nothing
abbrev pub quietly : List (Bool × Errno) → Answer → Files → FilesCall
quietly refusals answer after = record { refusals = refusals; answer = answer; after = after; raised = [] }

-- one that may take the last name of a listener, with which goes what waits there
abbrev pub letting_go : List (Bool × Errno) → Answer → Files → FilesCall
letting_go refusals answer after = let left = without_abandoned after in record { refusals = refusals; answer = answer; after = left.0; raised = left.1 }

-- makes an object with one description, or with two
abbrev pub one_of : Limits → Files → ℕ → Object → Bool → FilesCall
one_of limits s p x cloexec = quietly (one_refusals limits s p) (answer_one s p) (create_one s p x cloexec)

abbrev pub two_of : Limits → Files → ℕ → Object → Bool → FilesCall
two_of limits s p x cloexec = quietly (two_refusals limits s p) (answer_two s p) (create_two s p x cloexec)

abbrev pub pipe_of : Limits → Files → ℕ → Bool → FilesCall
pipe_of limits s p cloexec = two_of limits s p (pipe (new_pipe limits.pipe_bytes)) cloexec

abbrev pub socketpair_of : Limits → Files → ℕ → Bool → FilesCall
socketpair_of limits s p cloexec = two_of limits s p (pair (new_pair limits.sock_bytes)) cloexec

abbrev pub socket_of : Limits → Files → ℕ → Family → Bool → FilesCall
socket_of limits s p family cloexec = one_of limits s p (idle (new_idle family)) cloexec

abbrev pub eventfd_of : Limits → Files → ℕ → ℕ → Bool → Bool → FilesCall
eventfd_of limits s p init semaphore cloexec = one_of limits s p (counter (record { count = init; is_semaphore = semaphore })) cloexec

abbrev pub plain_of : Limits → Files → ℕ → Bool → FilesCall
plain_of limits s p cloexec = one_of limits s p plain cloexec

abbrev pub epoll_create_of : Limits → Files → ℕ → Bool → FilesCall
epoll_create_of limits s p cloexec = one_of limits s p instance cloexec

-- both clocks are the one simulated clock
abbrev pub is_clock : ℤ → Bool
is_clock clock = is_op 0 clock || is_op 1 clock

abbrev pub timerfd_of : Limits → Files → ℕ → ℤ → Bool → FilesCall
timerfd_of limits s p clock cloexec =
    let made = one_of limits s p (timer new_timer) cloexec in
    record made { refusals = (not (is_clock clock), Einval) ∷ made.refusals }

abbrev pub dup_of : Limits → Files → ℕ → ℤ → FilesCall
dup_of limits s p fd =
    quietly ((names_nothing s p fd, Ebadf) ∷ (nat_le limits.descriptors (one_free (numbers_of s p)), Emfile) ∷ []) (answer_one s p) (dup s p (named_by s p fd))

abbrev pub dup2_of : Limits → Files → ℕ → ℤ → ℤ → FilesCall
dup2_of limits s p fd to =
    letting_go ((names_nothing s p fd, Ebadf) ∷ (not (is_in_range limits to), Ebadf) ∷ []) (Num (number_in to)) (dup2 s p fd to (named_by s p fd))

abbrev pub close_of : Files → ℕ → ℤ → FilesCall
close_of s p fd = letting_go ((names_nothing s p fd, Ebadf) ∷ []) Done (close s p fd)

abbrev pub fork_of : Limits → Files → ℕ → FilesCall
fork_of limits s p = quietly ((nat_le limits.processes (length (numbered 0 s.tables)), Eagain) ∷ []) (Num (length s.tables)) (fork s p)

-- busy: some caller of the process is parked
abbrev pub exec_of : Files → ℕ → Bool → FilesCall
exec_of s p busy = letting_go ((busy, Ebusy) ∷ []) Done (exec s p)

abbrev pub exit_of : Files → ℕ → Bool → FilesCall
exit_of s p busy = letting_go ((busy, Ebusy) ∷ []) Done (exit s p)

-- Linux tells of a full table before it looks at what the descriptor names.
abbrev pub accept_of : Limits → Files → ℕ → ℤ → Bool → FilesCall
accept_of limits s p fd cloexec =
    let x = object_under s p fd in
    let found = first_waiting s (pending_in x) in
    quietly
    ((names_nothing s p fd, Ebadf)
    ∷ (nat_le limits.descriptors (one_free (numbers_of s p)), Emfile)
    ∷ of_socket x (one_refusals limits s p ++ (not (is_listener x), Einval) ∷ (is_none found, Eagain) ∷ []))
    (answer_one s p)
    (accept s p (object_number (place_of s (named_by s p fd))) found cloexec)

-- a call on the tables alone; any other does nothing here
abbrev pub files_call : Limits → Files → ℕ → Bool → Call → FilesCall
files_call limits s p busy (PipeCall cloexec) = pipe_of limits s p cloexec
files_call limits s p busy (SocketPair cloexec) = socketpair_of limits s p cloexec
files_call limits s p busy (EventFd init semaphore cloexec) = eventfd_of limits s p init semaphore cloexec
files_call limits s p busy (TimerFd clock cloexec) = timerfd_of limits s p clock cloexec
files_call limits s p busy (Plain cloexec) = plain_of limits s p cloexec
files_call limits s p busy (EpollCreate cloexec) = epoll_create_of limits s p cloexec
files_call limits s p busy (Dup fd) = dup_of limits s p fd.0
files_call limits s p busy (Dup2 fd to) = dup2_of limits s p fd.0 to.0
files_call limits s p busy (Close fd) = close_of s p fd.0
files_call limits s p busy Fork = fork_of limits s p
files_call limits s p busy Exec = exec_of s p busy
files_call limits s p busy Exit = exit_of s p busy
files_call limits s p busy (Socket family cloexec) = socket_of limits s p family cloexec
files_call limits s p busy (Accept fd cloexec) = accept_of limits s p fd.0 cloexec
files_call limits s p busy call = quietly [] Done s
