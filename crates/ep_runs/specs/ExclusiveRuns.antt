-- Registrations with EXCLUSIVE.
use Rattle.std.specs.Prelude.{List, [], false, negsuc, ℕ, ◌++◌, ◌∷◌}
use Rattle.ep_base.specs.declared.answer.Answer.TheVariants.{Done, Num, Still}
use Rattle.ep_base.specs.declared.errno.Errno.{Errno}
use Rattle.ep_base.specs.declared.errno.Errno.TheVariants.{Eexist, Einval}
use Rattle.ep_base.specs.declared.record.Record.{Record}
use Rattle.ep_runs.specs.ParkRuns.{counted, parks, told}
use Rattle.ep_runs.specs.Records.{add_call, answered, counter_call, create_call, del_call}
use Rattle.ep_runs.specs.Records.{mod_call, refused, report, reporting, resumed, wait_call}

-- an exclusive registration that asks for IN
abbrev pub watches_alone : ℕ → ℕ → ℕ → Record
watches_alone epfd fd tag = answered (add_call epfd fd 268435457 tag) Done

-- Three instances watch one counter, two of them exclusively. Each write wakes one of these two, and the third.
abbrev pub shared_run : Record → Record → Record → Errno → List Record
shared_run early first second of_mod =
    answered (counter_call 0 false) (Num 3)
    ∷ answered create_call (Num 4)
    ∷ answered create_call (Num 5)
    ∷ answered create_call (Num 6)
    ∷ watches_alone 4 3 4
    ∷ watches_alone 5 3 5
    ∷ answered (add_call 6 3 1 6) Done
    ∷ parks 1 4 1 (negsuc 0)
    ∷ parks 2 5 1 (negsuc 0)
    ∷ parks 3 6 1 (negsuc 0)
    ∷ counted 3
    ∷ early
    ∷ first
    ∷ told 3 6 3
    ∷ counted 3
    ∷ second
    ∷ refused (mod_call 4 3 1 4) of_mod
    ∷ refused (mod_call 6 3 268435457 6) Einval
    ∷ refused (add_call 4 3 268435457 4) Eexist
    ∷ refused (add_call 6 3 1342177281 6) Einval
    ∷ refused (add_call 5 4 268435457 0) Einval
    ∷ answered (del_call 4 3) Done
    ∷ []

-- an addition that is reportable at once wakes its instance
abbrev pub added_run : Record → List Record
added_run of_parked =
    answered (counter_call 1 false) (Num 3)
    ∷ answered create_call (Num 4)
    ∷ parks 1 4 1 (negsuc 0)
    ∷ watches_alone 4 3 4
    ∷ of_parked
    ∷ []

-- 7 watches 6, edge-triggered, and 6 is ready by the counter 4. The write to 3 wakes 5 alone, and leaves 7 ready with a
-- waiter.
abbrev pub passed_over : List Record
passed_over =
    answered (counter_call 0 false) (Num 3)
    ∷ answered (counter_call 1 false) (Num 4)
    ∷ answered create_call (Num 5)
    ∷ answered create_call (Num 6)
    ∷ answered create_call (Num 7)
    ∷ watches_alone 5 3 5
    ∷ watches_alone 6 3 6
    ∷ answered (add_call 6 4 1 6) Done
    ∷ answered (add_call 7 6 2147483649 7) Done
    ∷ reporting (wait_call 7 1) (report 1 7 ∷ []) (4 ∷ [])
    ∷ parks 1 5 1 (negsuc 0)
    ∷ parks 2 7 1 (negsuc 0)
    ∷ counted 3
    ∷ resumed 2 Still []
    ∷ []

-- if it loses its guard, the waiter is marked
abbrev pub unguarded_run : Record → List Record
unguarded_run then = passed_over ++ answered (del_call 6 3) Done ∷ then ∷ []

-- a caller that leaves an instance that is still ready wakes it
abbrev pub leaving_run : Record → List Record
leaving_run second =
    answered (counter_call 0 false) (Num 3)
    ∷ answered create_call (Num 4)
    ∷ watches_alone 4 3 4
    ∷ parks 1 4 1 (negsuc 0)
    ∷ parks 2 4 1 (negsuc 0)
    ∷ counted 3
    ∷ resumed 2 Still []
    ∷ told 1 4 1
    ∷ second
    ∷ []
