-- Runs that meet every refusal of the six calls. Each takes one of its answers, so that another answer is no run.
use Rattle.std.specs.Prelude.{List, [], negsuc, pos, replicate, ◌++◌, ◌∷◌}
use Rattle.ep_base.specs.declared.answer.Answer.{Answer}
use Rattle.ep_base.specs.declared.answer.Answer.TheVariants.{Bytes, Done, Num, Refused}
use Rattle.ep_base.specs.declared.errno.Errno.{Errno}
use Rattle.ep_base.specs.declared.errno.Errno.TheVariants.{Eagain, Ebadf, Eexist, Einval, Emfile, Enoent, Enfile, Eperm, Esrch}
use Rattle.ep_base.specs.declared.record.Record.{Record}
use Rattle.ep_runs.specs.Records.{add_call, answered, by_process, create_call, ctl_call, del_call, mod_call}
use Rattle.ep_runs.specs.Records.{pipe_call, read_call, refused, reporting, two, wait_call, wait_call_for}
use Rattle.ep_runs.specs.Records.{write_call}

-- where one descriptor number is free: a pipe wants two
abbrev pub descriptors_run : Answer → List Record
descriptors_run of_pipe =
    answered pipe_call of_pipe
    ∷ answered create_call (Num 3)
    ∷ refused create_call Emfile
    ∷ refused pipe_call Emfile
    ∷ []

-- where one description is left: a pipe wants two
abbrev pub files_run : Answer → List Record
files_run of_pipe =
    answered pipe_call of_pipe
    ∷ answered create_call (Num 3)
    ∷ refused create_call Enfile
    ∷ refused pipe_call Enfile
    ∷ []

-- where neither is left, numbers are tested first
abbrev pub descriptors_first_run : Errno → List Record
descriptors_first_run errno = refused pipe_call errno ∷ refused create_call errno ∷ []

-- every call, by processes that are not there
abbrev pub process_run : Errno → List Record
process_run errno =
    by_process 2 pipe_call (Refused errno) []
    ∷ by_process 0 create_call (Refused Esrch) []
    ∷ by_process 2 (ctl_call (pos 99) (pos 9) (pos 98) 1 0) (Refused Esrch) []
    ∷ by_process 2 (wait_call 99 0) (Refused Esrch) []
    ∷ by_process 2 (read_call (pos 0) 8) (Refused Esrch) []
    ∷ by_process 99 (write_call (pos 0) (97 ∷ [])) (Refused Esrch) []
    ∷ []

-- 3 is an instance, 4 and 5 are the ends of a pipe
abbrev pub opened : List Record
opened = answered create_call (Num 3) ∷ answered pipe_call (two 4 5) ∷ []

-- epoll_ctl: what its numbers name, its operation, the order of these tests
abbrev pub ctl_run : Errno → List Record
ctl_run of_plain =
    opened
    ++ refused (ctl_call (pos 99) (pos 1) (pos 98) 1 0) Ebadf
    ∷ refused (ctl_call (negsuc 0) (pos 1) (pos 0) 1 0) Ebadf
    ∷ refused (ctl_call (pos 3) (pos 1) (pos 99) 1 0) Ebadf
    ∷ refused (ctl_call (pos 4) (pos 1) (negsuc 0) 1 0) Ebadf
    ∷ refused (add_call 3 0 1 0) of_plain
    ∷ refused (ctl_call (pos 3) (pos 9) (pos 0) 1 0) Eperm
    ∷ refused (add_call 4 0 1 0) Eperm
    ∷ refused (add_call 4 5 1 0) Einval
    ∷ refused (add_call 0 3 1 0) Einval
    ∷ refused (add_call 3 3 1 0) Einval
    ∷ refused (ctl_call (pos 3) (pos 0) (pos 4) 1 0) Einval
    ∷ refused (ctl_call (pos 3) (pos 9) (pos 4) 1 0) Einval
    ∷ refused (ctl_call (pos 3) (negsuc 0) (pos 4) 1 0) Einval
    ∷ []

-- epoll_ctl: EXCLUSIVE beside a bit that it may not stand beside, bits without effect, a key that is there or is not
abbrev pub masks_run : Answer → List Record
masks_run of_bits =
    opened
    ++ answered create_call (Num 6)
    ∷ refused (del_call 3 4) Enoent
    ∷ refused (mod_call 3 4 1 0) Enoent
    ∷ refused (add_call 3 4 268435459 0) Einval
    ∷ answered (add_call 3 4 536870915 0) of_bits
    ∷ refused (add_call 3 4 268435459 0) Einval
    ∷ refused (mod_call 3 4 268435457 0) Einval
    ∷ refused (add_call 3 4 1 0) Eexist
    ∷ answered (add_call 3 5 0 0) Done
    ∷ answered (add_call 6 4 1 0) Done
    ∷ refused (del_call 6 5) Enoent
    ∷ answered (ctl_call (pos 3) (pos 2) (pos 4) 2415919105 0) Done
    ∷ refused (del_call 3 4) Enoent
    ∷ []

-- where one registration is allowed
abbrev pub watches_run : Errno → List Record
watches_run errno =
    opened
    ++ answered (add_call 3 4 1 0) Done
    ∷ refused (add_call 3 4 1 0) Eexist
    ∷ refused (add_call 3 5 4 0) errno
    ∷ []

-- epoll_wait: max, then what its number names, whatever its timeout
abbrev pub wait_run : Errno → List Record
wait_run of_max =
    opened
    ++ refused (wait_call 99 0) of_max
    ∷ refused (wait_call_for (pos 99) (negsuc 0) (pos 0)) Einval
    ∷ refused (wait_call_for (pos 99) (pos 0) (pos 5)) Einval
    ∷ refused (wait_call_for (pos 99) (pos 1) (pos 5)) Ebadf
    ∷ refused (wait_call_for (pos 4) (pos 1) (negsuc 0)) Einval
    ∷ refused (wait_call 99 1) Ebadf
    ∷ refused (wait_call_for (negsuc 0) (pos 1) (pos 0)) Ebadf
    ∷ refused (wait_call 0 1) Einval
    ∷ refused (wait_call 4 1) Einval
    ∷ reporting (wait_call 3 1) [] []
    ∷ []

-- read: what its number names, the written end, an empty pipe
abbrev pub read_run : Errno → List Record
read_run of_empty =
    opened
    ++ refused (read_call (pos 99) 8) Ebadf
    ∷ refused (read_call (negsuc 0) 8) Ebadf
    ∷ refused (read_call (pos 5) 8) Ebadf
    ∷ refused (read_call (pos 5) 0) Ebadf
    ∷ refused (read_call (pos 4) 8) of_empty
    ∷ answered (read_call (pos 4) 0) (Bytes [])
    ∷ answered (read_call (pos 0) 8) (Bytes [])
    ∷ refused (read_call (pos 3) 8) Einval
    ∷ refused (read_call (pos 3) 0) Einval
    ∷ []

-- write: what its number names, the read end, a pipe of 4,096 bytes that is full
abbrev pub write_run : Errno → List Record
write_run of_full =
    opened
    ++ refused (write_call (pos 99) (97 ∷ [])) Ebadf
    ∷ refused (write_call (negsuc 0) []) Ebadf
    ∷ refused (write_call (pos 4) (97 ∷ [])) Ebadf
    ∷ refused (write_call (pos 4) []) Ebadf
    ∷ answered (write_call (pos 5) []) (Num 0)
    ∷ answered (write_call (pos 0) (97 ∷ 98 ∷ 99 ∷ [])) (Num 3)
    ∷ refused (write_call (pos 3) (97 ∷ [])) Einval
    ∷ refused (write_call (pos 3) []) Einval
    ∷ answered (write_call (pos 5) (replicate 4096 97)) (Num 4096)
    ∷ refused (write_call (pos 5) (98 ∷ [])) of_full
    ∷ refused (write_call (pos 5) (replicate 4097 97)) Eagain
    ∷ answered (write_call (pos 5) []) (Num 0)
    ∷ []
