-- Instances that watch instances.
use Rattle.std.specs.Prelude.{List, [], false, pos, ℕ, ◌++◌, ◌∷◌}
use Rattle.ep_base.specs.declared.answer.Answer.TheVariants.{Done, Num}
use Rattle.ep_base.specs.declared.answer.Report.{Report}
use Rattle.ep_base.specs.declared.errno.Errno.{Errno}
use Rattle.ep_base.specs.declared.errno.Errno.TheVariants.{Einval, Eloop, Enospc}
use Rattle.ep_base.specs.declared.record.Record.{Record}
use Rattle.ep_machine.specs.Effect.{to_bytes}
use Rattle.ep_runs.specs.Records.{add_call, answered, counter_call, create_call, dup_call, mod_call, refused, report, reporting, wait_call, write_call}

-- so many instances, at the numbers from one on
abbrev instances_4_to_8 : List Record
instances_4_to_8 = answered create_call (Num 4) ∷ answered create_call (Num 5)
    ∷ answered create_call (Num 6) ∷ answered create_call (Num 7) ∷ answered create_call (Num 8)
    ∷ []

-- one more is written to counter 3
abbrev counted_up : Record
counted_up = answered (write_call (pos 3) (to_bytes 8 1)) (Num 8)

-- no chain has more than five instances, above and below counted together, and none is a loop
abbrev pub depth_run : Errno → List Record
depth_run of_sixth =
    answered create_call (Num 3)
    ∷ instances_4_to_8
    ++ answered (add_call 3 4 1 4) Done
    ∷ answered (add_call 4 5 1 5) Done
    ∷ answered (add_call 5 6 1 6) Done
    ∷ answered (add_call 6 7 1 7) Done
    ∷ refused (add_call 8 3 1 0) Eloop
    ∷ refused (add_call 7 8 1 0) of_sixth
    ∷ refused (add_call 7 3 1 0) Eloop
    ∷ answered (dup_call (pos 3)) (Num 9)
    ∷ refused (add_call 3 9 1 0) Einval
    ∷ answered (counter_call 1 false) (Num 10)
    ∷ answered (add_call 7 10 1 10) Done
    ∷ reporting (wait_call 3 1) (report 1 4 ∷ []) (1 ∷ [])
    ∷ []

-- ELOOP is tested before ENOSPC
abbrev pub loop_first_run : Errno → List Record
loop_first_run of_loop =
    answered create_call (Num 3)
    ∷ answered create_call (Num 4)
    ∷ answered (add_call 3 4 1 0) Done
    ∷ refused (add_call 4 3 1 0) of_loop
    ∷ answered (counter_call 0 false) (Num 5)
    ∷ refused (add_call 4 5 1 0) Enospc
    ∷ []

-- an inner instance that was emptied is not reported outside, and an arrival is reported there once
abbrev pub emptied_run : List Report → List ℕ → List Record
emptied_run emptied picked =
    answered (counter_call 0 false) (Num 3)
    ∷ answered create_call (Num 4)
    ∷ answered create_call (Num 5)
    ∷ answered (add_call 4 3 2147483649 3) Done
    ∷ answered (add_call 5 4 2147483649 4) Done
    ∷ counted_up
    ∷ reporting (wait_call 4 8) (report 1 3 ∷ []) (1 ∷ [])
    ∷ reporting (wait_call 5 8) emptied picked
    ∷ counted_up
    ∷ reporting (wait_call 5 8) (report 1 4 ∷ []) (2 ∷ [])
    ∷ reporting (wait_call 5 8) [] []
    ∷ []

-- a disarmed registration passes nothing on
abbrev pub disarmed_run : List Report → List ℕ → List Record
disarmed_run disarmed picked =
    answered (counter_call 0 false) (Num 3)
    ∷ answered (counter_call 1 false) (Num 4)
    ∷ answered create_call (Num 5)
    ∷ answered create_call (Num 6)
    ∷ answered (add_call 5 3 1073741825 3) Done
    ∷ answered (add_call 5 4 1 4) Done
    ∷ answered (add_call 6 5 2147483649 5) Done
    ∷ reporting (wait_call 6 8) (report 1 5 ∷ []) (3 ∷ [])
    ∷ counted_up
    ∷ reporting (wait_call 6 8) (report 1 5 ∷ []) (3 ∷ [])
    ∷ reporting (wait_call 5 8) (report 1 3 ∷ report 1 4 ∷ []) (1 ∷ 2 ∷ [])
    ∷ counted_up
    ∷ reporting (wait_call 6 8) disarmed picked
    ∷ answered (mod_call 5 3 1 3) Done
    ∷ reporting (wait_call 6 8) (report 1 5 ∷ []) (3 ∷ [])
    ∷ []

-- an arrival climbs through five instances
abbrev pub levels_run : List Report → List ℕ → List Record
levels_run at_top picked =
    answered (counter_call 0 false) (Num 3)
    ∷ instances_4_to_8
    ++ answered (add_call 4 3 2147483649 3) Done
    ∷ answered (add_call 5 4 2147483649 4) Done
    ∷ answered (add_call 6 5 2147483649 5) Done
    ∷ answered (add_call 7 6 2147483649 6) Done
    ∷ answered (add_call 8 7 2147483649 7) Done
    ∷ counted_up
    ∷ reporting (wait_call 8 8) at_top picked
    ∷ reporting (wait_call 8 8) [] []
    ∷ reporting (wait_call 6 8) (report 1 5 ∷ []) (3 ∷ [])
    ∷ reporting (wait_call 7 8) [] []
    ∷ reporting (wait_call 4 8) (report 1 3 ∷ []) (1 ∷ [])
    ∷ reporting (wait_call 5 8) [] []
    ∷ counted_up
    ∷ reporting (wait_call 8 8) (report 1 7 ∷ []) (5 ∷ [])
    ∷ []

-- an ADD below that leaves its registration reportable wakes the outermost instance
abbrev pub added_below_run : List Report → List ℕ → List Record
added_below_run at_top picked =
    answered (counter_call 1 false) (Num 3)
    ∷ instances_4_to_8
    ++ answered (add_call 8 7 2147483649 7) Done
    ∷ answered (add_call 7 6 2147483649 6) Done
    ∷ answered (add_call 6 5 2147483649 5) Done
    ∷ answered (add_call 5 4 2147483649 4) Done
    ∷ reporting (wait_call 8 8) [] []
    ∷ answered (add_call 4 3 1 3) Done
    ∷ reporting (wait_call 8 8) at_top picked
    ∷ reporting (wait_call 8 8) [] []
    ∷ []
