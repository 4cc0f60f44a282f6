-- Timers: a moment that has passed, a single expiration, and the end of the clock.
use Rattle.std.specs.Prelude.{List, [], false, pos, true, ℕ, ◌∷◌}
use Rattle.ep_base.specs.declared.answer.Answer.TheVariants.{Bytes, Done, Num, Time}
use Rattle.ep_base.specs.declared.errno.Errno.{Errno}
use Rattle.ep_base.specs.declared.errno.Errno.TheVariants.{Eagain, Ebadf, Einval, Emfile}
use Rattle.ep_base.specs.declared.record.Record.{Record}
use Rattle.ep_machine.specs.Effect.{to_bytes}
use Rattle.ep_runs.specs.Records.{add_call, answered, create_call, gettime_call, pipe_call, read_call}
use Rattle.ep_runs.specs.Records.{refused, report, reporting, settime_call, tick_refused, ticked, timer_call}
use Rattle.ep_runs.specs.Records.{two, wait_call, write_call}

-- an absolute moment that has passed expires at once
abbrev pub passed_run : ℕ → List Record
passed_run unread =
    ticked 10
    ∷ answered (timer_call 0) (Num 3)
    ∷ answered create_call (Num 4)
    ∷ answered (add_call 4 3 1 3) Done
    ∷ answered (settime_call (pos 3) true 4 5) (Time 0 0)
    ∷ reporting (wait_call 4 8) (report 1 3 ∷ []) (1 ∷ [])
    ∷ answered (gettime_call (pos 3)) (Time 4 5)
    ∷ answered (read_call (pos 3) 8) (Bytes (to_bytes 8 unread))
    ∷ answered (settime_call (pos 3) false 0 0) (Time 4 5)
    ∷ refused (read_call (pos 3) 8) Eagain
    ∷ answered (gettime_call (pos 3)) (Time 0 0)
    ∷ refused (timer_call 7) Einval
    ∷ []

-- a timer without an interval expires once, and the clock goes no further than its last moment
abbrev pub once_run : Errno → List Record
once_run of_last =
    answered (timer_call 0) (Num 3)
    ∷ answered (settime_call (pos 3) false 3 0) (Time 0 0)
    ∷ ticked 2
    ∷ answered (gettime_call (pos 3)) (Time 1 0)
    ∷ ticked 1
    ∷ answered (gettime_call (pos 3)) (Time 0 0)
    ∷ answered (read_call (pos 3) 8) (Bytes (to_bytes 8 1))
    ∷ refused (settime_call (pos 3) true 1000000000000001 0) Einval
    ∷ ticked 999999999999997
    ∷ tick_refused 1 of_last
    ∷ ticked 0
    ∷ []

-- what calls on timers refuse, in order
abbrev pub timer_refused_run : Errno → List Record
timer_refused_run of_pipe =
    answered (timer_call 1) (Num 3)
    ∷ answered pipe_call (two 4 5)
    ∷ refused (settime_call (pos 99) true 1000000000000001 0) Ebadf
    ∷ refused (settime_call (pos 4) true 1 0) of_pipe
    ∷ refused (settime_call (pos 3) false 1 1000000000000001) Einval
    ∷ refused (gettime_call (pos 99)) Ebadf
    ∷ refused (gettime_call (pos 5)) Einval
    ∷ refused (read_call (pos 3) 7) Einval
    ∷ refused (write_call (pos 3) []) Einval
    ∷ refused (timer_call 0) Emfile
    ∷ refused (timer_call 2) Einval
    ∷ []
