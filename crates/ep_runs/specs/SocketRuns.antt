-- Socket pairs: shut for writing, and full. Files that can't be polled.
use Rattle.std.specs.Prelude.{List, [], false, pos, ℕ, ◌∷◌}
use Rattle.ep_base.specs.declared.answer.Answer.TheVariants.{Bytes, Done, Num}
use Rattle.ep_base.specs.declared.errno.Errno.{Errno}
use Rattle.ep_base.specs.declared.errno.Errno.TheVariants.{Eagain, Ebadf, Emfile, Enfile, Eperm}
use Rattle.ep_base.specs.declared.record.Record.{Record}
use Rattle.ep_runs.specs.Records.{add_call, answered, counter_call, create_call, pair_call, plain_call}
use Rattle.ep_runs.specs.Records.{read_call, refused, report, reporting, shutdown_call, two, wait_call}
use Rattle.ep_runs.specs.Records.{write_call}

-- what waits is still read after the other end shut its writing
abbrev pub shut_run : Errno → List Record
shut_run of_write =
    answered pair_call (two 3 4)
    ∷ answered create_call (Num 5)
    ∷ answered (add_call 5 3 8193 3) Done
    ∷ answered (write_call (pos 4) (104 ∷ 105 ∷ [])) (Num 2)
    ∷ answered (shutdown_call (pos 4)) Done
    ∷ reporting (wait_call 5 8) (report 8193 3 ∷ []) (1 ∷ [])
    ∷ answered (read_call (pos 3) 8) (Bytes (104 ∷ 105 ∷ []))
    ∷ reporting (wait_call 5 8) (report 8193 3 ∷ []) (1 ∷ [])
    ∷ answered (read_call (pos 3) 8) (Bytes [])
    ∷ refused (write_call (pos 4) (97 ∷ [])) of_write
    ∷ answered (write_call (pos 4) []) (Num 0)
    ∷ answered (shutdown_call (pos 3)) Done
    ∷ reporting (wait_call 5 8) (report 8209 3 ∷ []) (1 ∷ [])
    ∷ []

-- where 4 bytes fit in one direction
abbrev pub full_run : ℕ → List Record
full_run taken =
    answered pair_call (two 3 4)
    ∷ answered create_call (Num 5)
    ∷ answered (add_call 5 3 4 3) Done
    ∷ answered (write_call (pos 3) (97 ∷ 98 ∷ 99 ∷ 100 ∷ 101 ∷ [])) (Num taken)
    ∷ refused (write_call (pos 3) (97 ∷ [])) Eagain
    ∷ reporting (wait_call 5 8) [] []
    ∷ answered (read_call (pos 4) 1) (Bytes (97 ∷ []))
    ∷ reporting (wait_call 5 8) (report 4 3 ∷ []) (1 ∷ [])
    ∷ []

-- what is no socket, and what is left of numbers and descriptions
abbrev pub no_socket_run : Errno → List Record
no_socket_run of_counter =
    answered (counter_call 1 false) (Num 3)
    ∷ refused (shutdown_call (pos 3)) of_counter
    ∷ refused (shutdown_call (pos 99)) Ebadf
    ∷ refused pair_call Emfile
    ∷ answered plain_call (Num 4)
    ∷ answered (write_call (pos 4) (97 ∷ 98 ∷ 99 ∷ [])) (Num 3)
    ∷ answered (read_call (pos 4) 8) (Bytes [])
    ∷ refused plain_call Emfile
    ∷ refused (add_call 3 4 1 0) Eperm
    ∷ []

-- where one description is left
abbrev pub last_description_run : Errno → List Record
last_description_run of_pair =
    refused pair_call of_pair
    ∷ answered (counter_call 0 false) (Num 3)
    ∷ refused (counter_call 0 false) Enfile
    ∷ refused plain_call Enfile
    ∷ []
