-- Level-triggered registrations: one is reported as long as its bits hold.
use Rattle.std.specs.Prelude.{List, [], pos, ℕ, ◌∷◌, replicate, false, map, ◌+◌, ◌++◌}
use Rattle.ep_base.specs.declared.answer.Answer.TheVariants.{Bytes, Done, Num}
use Rattle.ep_base.specs.declared.answer.Report.{Report}
use Rattle.ep_base.specs.declared.record.Record.{Record}
use Rattle.ep_runs.specs.Records.{add_call, answered, create_call, pipe_call, read_call, report, reporting, two, wait_call, write_call, refused, counter_call}
use Rattle.ep_base.specs.declared.answer.Answer.{Answer}
use Rattle.ep_base.specs.declared.errno.Errno.TheVariants.{Eagain}

-- Level-triggered: a registration is reported as long as its bits hold.

-- with these reports in the second wait, of the registrations of these numbers
abbrev pub level_run : List Report → List ℕ → List Record
level_run second picked =
    answered pipe_call (two 3 4)
    ∷ answered create_call (Num 5)
    ∷ answered (add_call 5 3 1 3) Done
    ∷ answered (write_call (pos 4) (97 ∷ 98 ∷ 99 ∷ [])) (Num 3)
    ∷ reporting (wait_call 5 8) (report 1 3 ∷ []) (1 ∷ [])
    ∷ reporting (wait_call 5 8) second picked
    ∷ answered (read_call (pos 3) 3) (Bytes (97 ∷ 98 ∷ 99 ∷ []))
    ∷ reporting (wait_call 5 8) [] []
    ∷ []

-- A full pipe: OUT holds again once there is room for 4,096 bytes, and as many are written whole or not at all.

-- with this answer to the last write
abbrev pub full_pipe_run : Answer → List Record
full_pipe_run last =
    answered pipe_call (two 3 4)
    ∷ answered create_call (Num 5)
    ∷ answered (add_call 5 4 4 4) Done
    ∷ answered (write_call (pos 4) (replicate 65536 97)) (Num 65536)
    ∷ reporting (wait_call 5 8) [] []
    ∷ refused (write_call (pos 4) (97 ∷ [])) Eagain
    ∷ answered (read_call (pos 3) 4095) (Bytes (replicate 4095 97))
    ∷ reporting (wait_call 5 8) [] []
    ∷ answered (read_call (pos 3) 1) (Bytes (97 ∷ []))
    ∷ reporting (wait_call 5 8) (report 4 4 ∷ []) (1 ∷ [])
    ∷ answered (write_call (pos 4) (replicate 4097 97)) (Num 4096)
    ∷ answered (read_call (pos 3) 4095) (Bytes (replicate 4095 97))
    ∷ answered (write_call (pos 4) (replicate 4096 97)) last
    ∷ []

-- Rounds: of registrations that stay reportable each is reported once before any is reported again.

-- three counters, all readable, in one instance
abbrev pub all_readable : List Record
all_readable =
    answered (counter_call 1 false) (Num 3)
    ∷ answered (counter_call 1 false) (Num 4)
    ∷ answered (counter_call 1 false) (Num 5)
    ∷ answered create_call (Num 6)
    ∷ answered (add_call 6 3 1 3) Done
    ∷ answered (add_call 6 4 1 4) Done
    ∷ answered (add_call 6 5 1 5) Done
    ∷ []

-- one of these registrations is reported alone
abbrev pub told_alone : ℕ → Record
told_alone k = reporting (wait_call 6 1) (report 1 (k + 2) ∷ []) (k ∷ [])

abbrev pub fair_run : List ℕ → List Record
fair_run ks = all_readable ++ map told_alone ks
