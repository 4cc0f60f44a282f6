-- Counters: the greatest value, and semaphore mode.
use Rattle.std.specs.Prelude.{List, [], false, pos, replicate, true, ℕ, ◌∷◌}
use Rattle.ep_base.specs.declared.answer.Answer.TheVariants.{Bytes, Done, Num}
use Rattle.ep_base.specs.declared.errno.Errno.{Errno}
use Rattle.ep_base.specs.declared.errno.Errno.TheVariants.{Eagain, Einval}
use Rattle.ep_base.specs.declared.record.Record.{Record}
use Rattle.ep_machine.specs.Effect.{to_bytes}
use Rattle.ep_runs.specs.Records.{add_call, answered, counter_call, create_call, read_call, refused, report, reporting, wait_call, write_call}

-- 2^64 - 2, the lowest byte first
abbrev pub greatest_bytes : List ℕ
greatest_bytes = 254 ∷ replicate 7 255

-- a counter that is full takes nothing, and is writable again once it is read
abbrev pub greatest_run : Errno → List Record
greatest_run of_full =
    answered (counter_call 0 false) (Num 3)
    ∷ answered create_call (Num 4)
    ∷ answered (add_call 4 3 4 3) Done
    ∷ reporting (wait_call 4 8) (report 4 3 ∷ []) (1 ∷ [])
    ∷ answered (write_call (pos 3) greatest_bytes) (Num 8)
    ∷ reporting (wait_call 4 8) [] []
    ∷ refused (write_call (pos 3) (to_bytes 8 1)) of_full
    ∷ refused (write_call (pos 3) (replicate 8 255)) Einval
    ∷ refused (read_call (pos 3) 7) Einval
    ∷ answered (read_call (pos 3) 8) (Bytes greatest_bytes)
    ∷ refused (read_call (pos 3) 8) Eagain
    ∷ reporting (wait_call 4 8) (report 4 3 ∷ []) (1 ∷ [])
    ∷ []

-- in semaphore mode a read takes 1
abbrev pub semaphore_run : ℕ → List Record
semaphore_run given =
    answered (counter_call 2 true) (Num 3)
    ∷ answered (read_call (pos 3) 8) (Bytes (to_bytes 8 given))
    ∷ answered (read_call (pos 3) 8) (Bytes (to_bytes 8 1))
    ∷ refused (read_call (pos 3) 8) Eagain
    ∷ refused (write_call (pos 3) (replicate 7 0)) Einval
    ∷ []
