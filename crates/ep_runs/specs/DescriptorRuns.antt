-- Descriptors, processes and deaths.
use Rattle.std.specs.Prelude.{List, [], false, negsuc, pos, true, ℕ, ◌∷◌}
use Rattle.ep_base.specs.declared.answer.Answer.TheVariants.{Bytes, Done, Num, Refused}
use Rattle.ep_base.specs.declared.call.Call.TheVariants.{Exec, Exit, Fork, Pipe as PipeCall}
use Rattle.ep_base.specs.declared.errno.Errno.{Errno}
use Rattle.ep_base.specs.declared.errno.Errno.TheVariants.{Ebadf, Emfile, Enfile, Epipe, Esrch}
use Rattle.ep_base.specs.declared.record.Record.{Record}
use Rattle.ep_runs.specs.Records.{add_call, answered, by_process, close_call, counter_call, create_call}
use Rattle.ep_runs.specs.Records.{del_call, dup2_call, dup_call, pair_call, pipe_call, read_call, refused}
use Rattle.ep_runs.specs.Records.{report, reporting, two, wait_call, write_call}

-- the read end of a pipe is closed
abbrev pub closed_reader_run : ℕ → List Record
closed_reader_run shown =
    answered pipe_call (two 3 4)
    ∷ answered create_call (Num 5)
    ∷ answered (add_call 5 4 4 4) Done
    ∷ answered (close_call (pos 3)) Done
    ∷ reporting (wait_call 5 8) (report shown 4 ∷ []) (1 ∷ [])
    ∷ refused (write_call (pos 4) (97 ∷ [])) Epipe
    ∷ answered (write_call (pos 4) []) (Num 0)
    ∷ []

-- one of two connected sockets is closed
abbrev pub closed_socket_run : ℕ → List Record
closed_socket_run shown =
    answered pair_call (two 3 4)
    ∷ answered create_call (Num 5)
    ∷ answered (add_call 5 3 4 3) Done
    ∷ answered (write_call (pos 3) (97 ∷ 98 ∷ 99 ∷ 100 ∷ [])) (Num 4)
    ∷ reporting (wait_call 5 8) [] []
    ∷ answered (close_call (pos 4)) Done
    ∷ reporting (wait_call 5 8) (report shown 3 ∷ []) (1 ∷ [])
    ∷ answered (read_call (pos 3) 8) (Bytes [])
    ∷ refused (write_call (pos 3) (97 ∷ [])) Epipe
    ∷ []

-- where there are 6 numbers, 5 descriptions and 2 processes
abbrev pub full_tables_run : Errno → List Record
full_tables_run of_fork =
    answered pipe_call (two 3 4)
    ∷ refused pipe_call Emfile
    ∷ answered Fork (Num 2)
    ∷ refused Fork of_fork
    ∷ answered (close_call (pos 3)) Done
    ∷ answered (counter_call 0 false) (Num 3)
    ∷ answered (counter_call 0 false) (Num 5)
    ∷ by_process 2 (counter_call 0 false) (Refused Enfile) []
    ∷ answered (write_call (pos 4) (97 ∷ [])) (Num 1)
    ∷ by_process 2 (read_call (pos 3) 8) (Bytes (97 ∷ [])) []
    ∷ by_process 2 Exit Done []
    ∷ refused (write_call (pos 4) (97 ∷ [])) Epipe
    ∷ refused (dup2_call (pos 4) (pos 9)) Ebadf
    ∷ by_process 2 (close_call (pos 0)) (Refused Esrch) []
    ∷ []

-- a registration lives as long as its description, which a dup of its descriptor names
abbrev pub exec_run : ℕ → List Record
exec_run shown =
    answered (PipeCall true) (two 3 4)
    ∷ answered create_call (Num 5)
    ∷ answered (dup_call (pos 3)) (Num 6)
    ∷ answered (add_call 5 3 1 1) Done
    ∷ answered (add_call 5 6 1 2) Done
    ∷ answered (write_call (pos 4) (97 ∷ [])) (Num 1)
    ∷ reporting (wait_call 5 8) (report 1 1 ∷ report 1 2 ∷ []) (1 ∷ 2 ∷ [])
    ∷ answered Exec Done
    ∷ reporting (wait_call 5 8) (report shown 1 ∷ report shown 2 ∷ []) (1 ∷ 2 ∷ [])
    ∷ refused (read_call (pos 3) 8) Ebadf
    ∷ answered (read_call (pos 6) 8) (Bytes (97 ∷ []))
    ∷ answered (read_call (pos 6) 8) (Bytes [])
    ∷ answered (del_call 5 6) Done
    ∷ reporting (wait_call 5 8) (report 16 1 ∷ []) (1 ∷ [])
    ∷ answered (close_call (pos 6)) Done
    ∷ reporting (wait_call 5 8) [] []
    ∷ []

-- the lowest free number, two equal numbers, and what names nothing
abbrev pub numbers_run : ℕ → List Record
numbers_run free =
    answered pipe_call (two 3 4)
    ∷ answered (dup2_call (pos 3) (pos 7)) (Num 7)
    ∷ answered (close_call (pos 3)) Done
    ∷ answered (write_call (pos 4) (97 ∷ [])) (Num 1)
    ∷ answered (dup_call (pos 7)) (Num free)
    ∷ answered (dup2_call (pos 7) (pos 7)) (Num 7)
    ∷ answered pipe_call (two 5 6)
    ∷ refused (dup_call (pos 99)) Ebadf
    ∷ refused (dup2_call (pos 99) (pos 7)) Ebadf
    ∷ refused (dup2_call (pos 7) (negsuc 0)) Ebadf
    ∷ refused (close_call (pos 99)) Ebadf
    ∷ answered (dup2_call (pos 4) (pos 7)) (Num 7)
    ∷ answered (read_call (pos 3) 8) (Bytes (97 ∷ []))
    ∷ refused (read_call (pos 7) 8) Ebadf
    ∷ []
