-- Waits that park.
use Rattle.std.specs.Prelude.{List, [], false, negsuc, pos, ℕ, ℤ, ◌∷◌}
use Rattle.ep_base.specs.declared.answer.Answer.{Answer}
use Rattle.ep_base.specs.declared.answer.Answer.TheVariants.{Bytes, Done, Events, Num, Parked, Refused, Still, Time}
use Rattle.ep_base.specs.declared.answer.Report.{Report}
use Rattle.ep_base.specs.declared.call.Call.TheVariants.{Exec, Exit}
use Rattle.ep_base.specs.declared.errno.Errno.{Errno}
use Rattle.ep_base.specs.declared.errno.Errno.TheVariants.{Ebusy, Einval, Enospc}
use Rattle.ep_base.specs.declared.record.Record.{Record}
use Rattle.ep_machine.specs.Effect.{to_bytes}
use Rattle.ep_runs.specs.Records.{add_call, answered, by_caller, close_call, counter_call, create_call}
use Rattle.ep_runs.specs.Records.{gettime_call, read_call, refused, report, reporting, resumed, settime_call}
use Rattle.ep_runs.specs.Records.{ticked, timer_call, wait_call, wait_call_for, write_call}

-- a caller waits at a descriptor for at most so many reports and so long, and is parked
abbrev pub parks : ℕ → ℕ → ℕ → ℤ → Record
parks c epfd most timeout = by_caller c (answered (wait_call_for (pos epfd) (pos most) timeout) Parked)

-- it goes on with a report of one registration
abbrev pub told : ℕ → ℕ → ℕ → Record
told c tag number = resumed c (Events (report 1 tag ∷ [])) (number ∷ [])

-- one is written to a counter
abbrev pub counted : ℕ → Record
counted fd = answered (write_call (pos fd) (to_bytes 8 1)) (Num 8)

-- who was parked first is marked first, who is due is marked too, and nobody is marked without need
abbrev pub turns_run : Record → Record → Record → List Record
turns_run early first second =
    answered (counter_call 0 false) (Num 3)
    ∷ answered (counter_call 0 false) (Num 4)
    ∷ answered create_call (Num 5)
    ∷ answered (add_call 5 3 2147483649 3) Done
    ∷ answered (add_call 5 4 2147483649 4) Done
    ∷ parks 1 5 1 (negsuc 0)
    ∷ parks 2 5 1 (negsuc 0)
    ∷ counted 3
    ∷ counted 4
    ∷ early
    ∷ first
    ∷ second
    ∷ parks 1 5 1 (pos 5)
    ∷ ticked 4
    ∷ resumed 1 Still []
    ∷ ticked 1
    ∷ resumed 1 (Events []) []
    ∷ resumed 1 (Refused Einval) []
    ∷ []

-- what a parked caller asks for, and what would end or replace its process
abbrev pub busy_run : Errno → List Record
busy_run of_exec =
    answered create_call (Num 3)
    ∷ parks 1 3 1 (negsuc 0)
    ∷ by_caller 1 (refused (close_call (pos 3)) Ebusy)
    ∷ by_caller 1 (refused (wait_call 3 1) Ebusy)
    ∷ refused Exit Ebusy
    ∷ refused Exec of_exec
    ∷ ticked 1
    ∷ resumed 1 Still []
    ∷ resumed 2 (Refused Einval) []
    ∷ answered (close_call (pos 3)) Done
    ∷ resumed 1 Still []
    ∷ []

-- an instance lives on without a descriptor while a caller waits at it, and not longer
abbrev pub closed_run : Answer → List Record
closed_run of_last =
    answered (counter_call 0 false) (Num 3)
    ∷ answered create_call (Num 4)
    ∷ answered (add_call 4 3 1 3) Done
    ∷ answered (counter_call 0 false) (Num 5)
    ∷ refused (add_call 4 5 1 5) Enospc
    ∷ parks 1 4 1 (negsuc 0)
    ∷ answered (close_call (pos 4)) Done
    ∷ counted 3
    ∷ told 1 3 1
    ∷ answered create_call (Num 4)
    ∷ answered (add_call 4 5 1 5) of_last
    ∷ []

-- a deadline passes while timers expire: what is reportable is told
abbrev pub expired_run : List Report → List ℕ → List Record
expired_run reports picked =
    answered (timer_call 0) (Num 3)
    ∷ answered (timer_call 0) (Num 4)
    ∷ answered create_call (Num 5)
    ∷ answered (add_call 5 3 2147483649 3) Done
    ∷ answered (add_call 5 4 2147483649 4) Done
    ∷ answered (settime_call (pos 3) false 2 3) (Time 0 0)
    ∷ answered (settime_call (pos 4) false 7 0) (Time 0 0)
    ∷ parks 1 5 8 (pos 9)
    ∷ ticked 20
    ∷ resumed 1 (Events reports) picked
    ∷ answered (read_call (pos 3) 8) (Bytes (to_bytes 8 7))
    ∷ answered (gettime_call (pos 3)) (Time 3 3)
    ∷ answered (read_call (pos 4) 8) (Bytes (to_bytes 8 1))
    ∷ ticked 2
    ∷ reporting (wait_call 5 8) [] []
    ∷ ticked 1
    ∷ reporting (wait_call 5 8) (report 1 3 ∷ []) (1 ∷ [])
    ∷ []

-- a marked waiter at which nothing is left goes on waiting, and is marked again
abbrev pub taken_run : Record → List Record
taken_run of_taken =
    answered (counter_call 0 false) (Num 3)
    ∷ answered create_call (Num 4)
    ∷ answered (add_call 4 3 1 3) Done
    ∷ parks 1 4 1 (pos 5)
    ∷ counted 3
    ∷ answered (read_call (pos 3) 8) (Bytes (to_bytes 8 1))
    ∷ of_taken
    ∷ counted 3
    ∷ told 1 3 1
    ∷ []
