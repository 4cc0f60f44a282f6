-- Edge-triggered registrations: each arrival is reported once.
use Rattle.std.specs.Prelude.{List, [], false, pos, replicate, true, ℕ, ◌++◌, ◌∷◌}
use Rattle.ep_base.specs.declared.answer.Answer.TheVariants.{Bytes, Done, Num, Time}
use Rattle.ep_base.specs.declared.answer.Report.{Report}
use Rattle.ep_base.specs.declared.record.Record.{Record}
use Rattle.ep_machine.specs.Effect.{to_bytes}
use Rattle.ep_runs.specs.Records.{add_call, answered, counter_call, create_call, mod_call, pair_call}
use Rattle.ep_runs.specs.Records.{pipe_call, read_call, report, reporting, settime_call, shutdown_call}
use Rattle.ep_runs.specs.Records.{ticked, timer_call, two, wait_call, write_call}

-- a byte that waits is reported once for each write
abbrev pub edge_run : List Report → List ℕ → List Record
edge_run again picked =
    answered pipe_call (two 3 4)
    ∷ answered create_call (Num 5)
    ∷ answered (add_call 5 3 2147483649 3) Done
    ∷ answered (write_call (pos 4) (97 ∷ [])) (Num 1)
    ∷ reporting (wait_call 5 8) (report 1 3 ∷ []) (1 ∷ [])
    ∷ reporting (wait_call 5 8) again picked
    ∷ answered (write_call (pos 4) (97 ∷ [])) (Num 1)
    ∷ reporting (wait_call 5 8) (report 1 3 ∷ []) (1 ∷ [])
    ∷ answered (read_call (pos 3) 8) (Bytes (97 ∷ 97 ∷ []))
    ∷ reporting (wait_call 5 8) [] []
    ∷ answered (write_call (pos 4) (97 ∷ [])) (Num 1)
    ∷ answered (read_call (pos 3) 8) (Bytes (97 ∷ []))
    ∷ reporting (wait_call 5 8) [] []
    ∷ []

-- a tick, and a wait that reports this
abbrev after_tick : List Report → List ℕ → List Record
after_tick reports picked = ticked 1 ∷ reporting (wait_call 4 8) reports picked ∷ []

-- a periodic timer raises nothing while expirations are unread
abbrev pub periodic_run : List Report → List ℕ → List Record
periodic_run unread picked =
    answered (timer_call 1) (Num 3)
    ∷ answered create_call (Num 4)
    ∷ answered (add_call 4 3 2147483649 9) Done
    ∷ answered (settime_call (pos 3) false 5 2) (Time 0 0)
    ∷ after_tick [] []
    ++ after_tick [] []
    ++ after_tick [] []
    ++ after_tick [] []
    ++ after_tick (report 1 9 ∷ []) (1 ∷ [])
    ++ after_tick [] []
    ++ after_tick unread picked
    ++ after_tick [] []
    ++ after_tick [] []
    ++ after_tick [] []
    ++ answered (read_call (pos 3) 8) (Bytes (to_bytes 8 3))
    ∷ after_tick (report 1 9 ∷ []) (1 ∷ [])

-- MOD makes a registration fresh
abbrev pub modified_run : List Report → List ℕ → List Record
modified_run after picked =
    answered (counter_call 1 false) (Num 3)
    ∷ answered create_call (Num 4)
    ∷ answered (add_call 4 3 2147483649 3) Done
    ∷ reporting (wait_call 4 8) (report 1 3 ∷ []) (1 ∷ [])
    ∷ reporting (wait_call 4 8) [] []
    ∷ answered (mod_call 4 3 2147483649 5) Done
    ∷ reporting (wait_call 4 8) after picked
    ∷ []

-- a second shutdown of an end raises nothing at the other
abbrev pub shut_again_run : List Report → List ℕ → List Record
shut_again_run again picked =
    answered pair_call (two 3 4)
    ∷ answered create_call (Num 5)
    ∷ answered (add_call 5 3 2147491841 3) Done
    ∷ answered (shutdown_call (pos 4)) Done
    ∷ reporting (wait_call 5 8) (report 8193 3 ∷ []) (1 ∷ [])
    ∷ answered (shutdown_call (pos 4)) Done
    ∷ reporting (wait_call 5 8) again picked
    ∷ []

-- reads raise OUT at the other end of a pipe where it begins to hold, and then no more
abbrev pub drained_run : List Report → List ℕ → List Record
drained_run later picked =
    answered pipe_call (two 3 4)
    ∷ answered create_call (Num 5)
    ∷ answered (add_call 5 4 2147483652 4) Done
    ∷ reporting (wait_call 5 8) (report 4 4 ∷ []) (1 ∷ [])
    ∷ answered (write_call (pos 4) (replicate 4096 97)) (Num 4096)
    ∷ reporting (wait_call 5 8) [] []
    ∷ answered (read_call (pos 3) 4095) (Bytes (replicate 4095 97))
    ∷ reporting (wait_call 5 8) [] []
    ∷ answered (read_call (pos 3) 0) (Bytes [])
    ∷ reporting (wait_call 5 8) [] []
    ∷ answered (read_call (pos 3) 1) (Bytes (97 ∷ []))
    ∷ reporting (wait_call 5 8) (report 4 4 ∷ []) (1 ∷ [])
    ∷ answered (write_call (pos 4) []) (Num 0)
    ∷ reporting (wait_call 5 8) later picked
    ∷ []

-- settime forgets what was unread, and an arming that expires at once raises IN
abbrev pub armed_again_run : List Report → List ℕ → List Record
armed_again_run at_once picked =
    answered (timer_call 0) (Num 3)
    ∷ answered create_call (Num 4)
    ∷ answered (add_call 4 3 2147483649 3) Done
    ∷ answered (settime_call (pos 3) false 2 0) (Time 0 0)
    ∷ ticked 2
    ∷ reporting (wait_call 4 8) (report 1 3 ∷ []) (1 ∷ [])
    ∷ answered (settime_call (pos 3) true 1 0) (Time 0 0)
    ∷ reporting (wait_call 4 8) at_once picked
    ∷ reporting (wait_call 4 8) [] []
    ∷ []
