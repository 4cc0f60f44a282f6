-- Scripts with EXCLUSIVE, as records. Each takes its last record.
use Rattle.std.specs.Prelude.{List, [], false, negsuc, pos, ◌∷◌}
use Rattle.ep_base.specs.declared.answer.Answer.TheVariants.{Bytes, Done, Num, Still, Time}
use Rattle.ep_base.specs.declared.call.Call.TheVariants.{Exit, Fork}
use Rattle.ep_base.specs.declared.errno.Errno.TheVariants.{Eexist, Einval, Enoent, Eperm}
use Rattle.ep_base.specs.declared.record.Record.{Record}
use Rattle.ep_machine.specs.Effect.{to_bytes}
use Rattle.ep_runs.specs.ExclusiveRuns.{watches_alone}
use Rattle.ep_runs.specs.ParkRuns.{counted, parks, told}
use Rattle.ep_runs.specs.Records.{add_call, answered, by_caller, by_process, close_call, counter_call}
use Rattle.ep_runs.specs.Records.{create_call, ctl_call, del_call, dup_call, mod_call, pipe_call}
use Rattle.ep_runs.specs.Records.{read_call, refused, report, reporting, resumed}
use Rattle.ep_runs.specs.Records.{settime_call, ticked, timer_call, two, wait_call, write_call}

abbrev pub leaver_wakes_the_next : Record → List Record
leaver_wakes_the_next last =
    answered (counter_call 0 false) (Num 3)
    ∷ answered create_call (Num 4)
    ∷ watches_alone 4 3 4
    ∷ parks 1 4 1 (negsuc 0)
    ∷ parks 2 4 1 (negsuc 0)
    ∷ counted 3
    ∷ resumed 2 Still []
    ∷ told 1 4 1
    ∷ last
    ∷ []

abbrev pub a_wait_that_did_not_park_wakes_nobody : Record → List Record
a_wait_that_did_not_park_wakes_nobody last =
    answered (counter_call 0 false) (Num 3)
    ∷ answered create_call (Num 4)
    ∷ answered create_call (Num 5)
    ∷ watches_alone 4 3 4
    ∷ watches_alone 5 3 5
    ∷ parks 1 4 1 (negsuc 0)
    ∷ parks 2 5 1 (negsuc 0)
    ∷ counted 3
    ∷ reporting (wait_call 5 1) (report 1 5 ∷ []) (2 ∷ [])
    ∷ resumed 2 Still []
    ∷ ticked 1
    ∷ resumed 2 Still []
    ∷ told 1 4 1
    ∷ resumed 2 Still []
    ∷ counted 3
    ∷ last
    ∷ []

abbrev pub first_in_order_of_registration : Record → List Record
first_in_order_of_registration last =
    answered (counter_call 0 false) (Num 3)
    ∷ answered create_call (Num 4)
    ∷ answered create_call (Num 5)
    ∷ answered create_call (Num 6)
    ∷ watches_alone 6 3 6
    ∷ watches_alone 5 3 5
    ∷ watches_alone 4 3 4
    ∷ parks 1 4 1 (negsuc 0)
    ∷ parks 2 5 1 (negsuc 0)
    ∷ parks 3 6 1 (negsuc 0)
    ∷ counted 3
    ∷ resumed 1 Still []
    ∷ resumed 2 Still []
    ∷ told 3 6 1
    ∷ counted 3
    ∷ resumed 1 Still []
    ∷ told 2 5 2
    ∷ counted 3
    ∷ last
    ∷ []

abbrev pub a_deadline_mark_comes_first : Record → List Record
a_deadline_mark_comes_first last =
    answered (timer_call 0) (Num 3)
    ∷ answered create_call (Num 4)
    ∷ answered create_call (Num 5)
    ∷ watches_alone 4 3 4
    ∷ watches_alone 5 3 5
    ∷ answered (settime_call (pos 3) false 5 0) (Time 0 0)
    ∷ parks 1 4 1 (pos 5)
    ∷ parks 2 5 1 (negsuc 0)
    ∷ ticked 5
    ∷ told 2 5 2
    ∷ last
    ∷ []

abbrev pub two_targets_one_choice_each : Record → List Record
two_targets_one_choice_each last =
    answered (timer_call 0) (Num 3)
    ∷ answered (timer_call 0) (Num 4)
    ∷ answered create_call (Num 5)
    ∷ answered create_call (Num 6)
    ∷ watches_alone 5 3 53
    ∷ watches_alone 5 4 54
    ∷ watches_alone 6 3 63
    ∷ watches_alone 6 4 64
    ∷ answered (settime_call (pos 3) false 5 0) (Time 0 0)
    ∷ answered (settime_call (pos 4) false 5 0) (Time 0 0)
    ∷ parks 1 5 8 (negsuc 0)
    ∷ parks 2 6 8 (negsuc 0)
    ∷ ticked 5
    ∷ resumed 2 Still []
    ∷ answered (read_call (pos 4) 8) (Bytes (to_bytes 8 1))
    ∷ told 1 53 1
    ∷ last
    ∷ []

abbrev pub two_targets_two_instances : Record → List Record
two_targets_two_instances last =
    answered (timer_call 0) (Num 3)
    ∷ answered (timer_call 0) (Num 4)
    ∷ answered create_call (Num 5)
    ∷ answered create_call (Num 6)
    ∷ watches_alone 5 3 53
    ∷ watches_alone 6 4 64
    ∷ watches_alone 6 3 63
    ∷ answered (settime_call (pos 3) false 5 0) (Time 0 0)
    ∷ answered (settime_call (pos 4) false 5 0) (Time 0 0)
    ∷ parks 1 5 8 (negsuc 0)
    ∷ parks 2 6 1 (negsuc 0)
    ∷ ticked 5
    ∷ told 1 53 1
    ∷ answered (read_call (pos 3) 8) (Bytes (to_bytes 8 1))
    ∷ last
    ∷ []

abbrev pub a_waiter_above : Record → List Record
a_waiter_above last =
    answered (counter_call 0 false) (Num 3)
    ∷ answered create_call (Num 4)
    ∷ answered create_call (Num 5)
    ∷ answered create_call (Num 6)
    ∷ watches_alone 4 3 4
    ∷ watches_alone 5 3 5
    ∷ answered (add_call 6 4 1 64) Done
    ∷ parks 1 5 1 (negsuc 0)
    ∷ parks 2 6 1 (negsuc 0)
    ∷ counted 3
    ∷ resumed 1 Still []
    ∷ last
    ∷ []

abbrev pub everybody_above_the_chosen_one : Record → List Record
everybody_above_the_chosen_one last =
    answered (counter_call 0 false) (Num 3)
    ∷ answered create_call (Num 4)
    ∷ answered create_call (Num 5)
    ∷ answered create_call (Num 6)
    ∷ answered create_call (Num 7)
    ∷ watches_alone 4 3 4
    ∷ watches_alone 7 3 7
    ∷ answered (add_call 5 4 1 54) Done
    ∷ answered (add_call 6 5 1 65) Done
    ∷ parks 1 4 1 (negsuc 0)
    ∷ parks 2 5 1 (negsuc 0)
    ∷ parks 3 6 1 (negsuc 0)
    ∷ parks 4 7 1 (negsuc 0)
    ∷ counted 3
    ∷ resumed 4 Still []
    ∷ told 3 65 4
    ∷ told 2 54 3
    ∷ last
    ∷ []

abbrev pub a_disarmed_link_carries_nothing : Record → List Record
a_disarmed_link_carries_nothing last =
    answered (counter_call 0 false) (Num 3)
    ∷ answered create_call (Num 4)
    ∷ answered create_call (Num 5)
    ∷ answered create_call (Num 6)
    ∷ answered (counter_call 1 false) (Num 7)
    ∷ answered (add_call 4 7 1 47) Done
    ∷ answered (add_call 6 4 1073741825 64) Done
    ∷ reporting (wait_call 6 1) (report 1 64 ∷ []) (2 ∷ [])
    ∷ answered (read_call (pos 7) 8) (Bytes (to_bytes 8 1))
    ∷ answered (del_call 4 7) Done
    ∷ watches_alone 4 3 4
    ∷ watches_alone 5 3 5
    ∷ parks 1 6 1 (negsuc 0)
    ∷ parks 2 5 1 (negsuc 0)
    ∷ counted 3
    ∷ resumed 1 Still []
    ∷ last
    ∷ []

abbrev pub err_and_hup_unasked : Record → List Record
err_and_hup_unasked last =
    answered pipe_call (two 3 4)
    ∷ answered create_call (Num 5)
    ∷ answered create_call (Num 6)
    ∷ answered (add_call 5 3 268435460 5) Done
    ∷ watches_alone 6 3 6
    ∷ parks 1 5 1 (negsuc 0)
    ∷ parks 2 6 1 (negsuc 0)
    ∷ answered (write_call (pos 4) (97 ∷ [])) (Num 1)
    ∷ resumed 1 Still []
    ∷ told 2 6 2
    ∷ by_caller 2 (reporting (wait_call 6 1) (report 1 6 ∷ []) (2 ∷ []))
    ∷ answered (read_call (pos 3) 8) (Bytes (97 ∷ []))
    ∷ parks 2 6 1 (negsuc 0)
    ∷ answered (close_call (pos 4)) Done
    ∷ resumed 2 Still []
    ∷ last
    ∷ []

abbrev pub judged_before_any_other_mark : Record → List Record
judged_before_any_other_mark last =
    answered (counter_call 0 false) (Num 3)
    ∷ answered (dup_call (pos 3)) (Num 4)
    ∷ answered create_call (Num 5)
    ∷ answered create_call (Num 6)
    ∷ watches_alone 5 3 53
    ∷ watches_alone 6 3 63
    ∷ answered (add_call 5 4 1 54) Done
    ∷ parks 1 5 1 (negsuc 0)
    ∷ parks 2 6 1 (negsuc 0)
    ∷ counted 3
    ∷ last
    ∷ []

abbrev pub add_reaches_above : Record → List Record
add_reaches_above last =
    answered (counter_call 1 false) (Num 3)
    ∷ answered create_call (Num 4)
    ∷ answered create_call (Num 5)
    ∷ answered (add_call 5 4 1 54) Done
    ∷ parks 1 4 1 (negsuc 0)
    ∷ parks 2 5 1 (negsuc 0)
    ∷ watches_alone 4 3 4
    ∷ told 2 54 1
    ∷ last
    ∷ []

abbrev pub an_unmarked_resumption_wakes_nobody : Record → List Record
an_unmarked_resumption_wakes_nobody last =
    answered (counter_call 0 false) (Num 3)
    ∷ answered create_call (Num 4)
    ∷ answered create_call (Num 5)
    ∷ watches_alone 4 3 4
    ∷ watches_alone 5 3 5
    ∷ parks 1 4 1 (negsuc 0)
    ∷ parks 2 5 1 (negsuc 0)
    ∷ parks 3 5 1 (negsuc 0)
    ∷ counted 3
    ∷ resumed 2 Still []
    ∷ resumed 3 Still []
    ∷ resumed 2 Still []
    ∷ ticked 0
    ∷ last
    ∷ []

abbrev pub refusals_in_order : Record → List Record
refusals_in_order last =
    answered (counter_call 0 false) (Num 3)
    ∷ answered create_call (Num 4)
    ∷ answered create_call (Num 5)
    ∷ refused (mod_call 4 3 268435457 0) Einval
    ∷ refused (mod_call 4 3 1 0) Enoent
    ∷ refused (add_call 4 3 268443648 0) Einval
    ∷ refused (add_call 4 3 268435458 0) Einval
    ∷ answered (add_call 4 3 2952790045 1) Done
    ∷ refused (add_call 4 3 268443648 0) Einval
    ∷ refused (add_call 4 3 1 0) Eexist
    ∷ refused (mod_call 4 3 1 0) Einval
    ∷ refused (add_call 4 5 268435457 0) Einval
    ∷ refused (add_call 4 0 268435457 0) Eperm
    ∷ refused (add_call 4 4 268435457 0) Einval
    ∷ refused (ctl_call (pos 4) (pos 9) (pos 3) 268435457 0) Einval
    ∷ answered (del_call 4 3) Done
    ∷ refused (mod_call 4 3 1 0) Enoent
    ∷ last
    ∷ []

abbrev pub del_of_the_guard_marks_above : Record → List Record
del_of_the_guard_marks_above last =
    answered (counter_call 0 false) (Num 3)
    ∷ answered (counter_call 1 false) (Num 4)
    ∷ answered create_call (Num 5)
    ∷ answered create_call (Num 6)
    ∷ answered create_call (Num 7)
    ∷ watches_alone 5 3 53
    ∷ watches_alone 6 3 63
    ∷ answered (add_call 6 4 1 64) Done
    ∷ answered (add_call 7 6 2147483649 76) Done
    ∷ reporting (wait_call 7 1) (report 1 76 ∷ []) (4 ∷ [])
    ∷ parks 1 5 1 (negsuc 0)
    ∷ parks 2 7 1 (negsuc 0)
    ∷ counted 3
    ∷ resumed 2 Still []
    ∷ answered (del_call 6 3) Done
    ∷ last
    ∷ []

abbrev pub close_of_the_target_marks_above : Record → List Record
close_of_the_target_marks_above last =
    answered (counter_call 0 false) (Num 3)
    ∷ answered (counter_call 1 false) (Num 4)
    ∷ answered create_call (Num 5)
    ∷ answered create_call (Num 6)
    ∷ answered create_call (Num 7)
    ∷ watches_alone 5 3 53
    ∷ watches_alone 6 3 63
    ∷ answered (add_call 6 4 1 64) Done
    ∷ answered (add_call 7 6 2147483649 76) Done
    ∷ reporting (wait_call 7 1) (report 1 76 ∷ []) (4 ∷ [])
    ∷ parks 1 5 1 (negsuc 0)
    ∷ parks 2 7 1 (negsuc 0)
    ∷ counted 3
    ∷ resumed 2 Still []
    ∷ answered (dup_call (pos 3)) (Num 8)
    ∷ answered (close_call (pos 3)) Done
    ∷ resumed 2 Still []
    ∷ answered (close_call (pos 8)) Done
    ∷ last
    ∷ []

abbrev pub a_disarmed_link_guards : Record → List Record
a_disarmed_link_guards last =
    answered (counter_call 0 false) (Num 3)
    ∷ answered (counter_call 1 false) (Num 4)
    ∷ answered create_call (Num 5)
    ∷ answered create_call (Num 6)
    ∷ answered create_call (Num 7)
    ∷ answered create_call (Num 8)
    ∷ watches_alone 8 4 84
    ∷ answered (add_call 7 8 1073741825 78) Done
    ∷ reporting (wait_call 7 1) (report 1 78 ∷ []) (2 ∷ [])
    ∷ watches_alone 5 3 53
    ∷ watches_alone 6 3 63
    ∷ answered (add_call 6 4 1 64) Done
    ∷ answered (add_call 7 6 2147483649 76) Done
    ∷ reporting (wait_call 7 1) (report 1 76 ∷ []) (6 ∷ [])
    ∷ parks 1 5 1 (negsuc 0)
    ∷ parks 2 7 1 (negsuc 0)
    ∷ counted 3
    ∷ resumed 2 Still []
    ∷ answered (del_call 6 3) Done
    ∷ resumed 2 Still []
    ∷ answered (del_call 7 8) Done
    ∷ last
    ∷ []

abbrev pub del_of_a_link_below_marks_above : Record → List Record
del_of_a_link_below_marks_above last =
    answered (counter_call 0 false) (Num 3)
    ∷ answered (counter_call 1 false) (Num 4)
    ∷ answered create_call (Num 5)
    ∷ answered create_call (Num 6)
    ∷ answered create_call (Num 7)
    ∷ answered create_call (Num 8)
    ∷ watches_alone 5 3 53
    ∷ watches_alone 6 3 63
    ∷ answered (add_call 7 6 1 76) Done
    ∷ answered (add_call 7 4 1 74) Done
    ∷ answered (add_call 8 7 2147483649 87) Done
    ∷ reporting (wait_call 8 1) (report 1 87 ∷ []) (5 ∷ [])
    ∷ parks 1 5 1 (negsuc 0)
    ∷ parks 2 8 1 (negsuc 0)
    ∷ counted 3
    ∷ resumed 2 Still []
    ∷ answered (del_call 7 6) Done
    ∷ last
    ∷ []

abbrev pub a_leavers_instance_dies : Record → List Record
a_leavers_instance_dies last =
    answered (counter_call 0 false) (Num 3)
    ∷ answered (counter_call 1 false) (Num 4)
    ∷ answered create_call (Num 5)
    ∷ answered create_call (Num 6)
    ∷ answered create_call (Num 7)
    ∷ answered create_call (Num 8)
    ∷ watches_alone 5 3 53
    ∷ watches_alone 6 3 63
    ∷ answered (add_call 7 6 1 76) Done
    ∷ answered (add_call 7 4 1 74) Done
    ∷ answered (add_call 8 7 2147483649 87) Done
    ∷ reporting (wait_call 8 1) (report 1 87 ∷ []) (5 ∷ [])
    ∷ parks 1 5 1 (negsuc 0)
    ∷ parks 3 6 1 (pos 5)
    ∷ answered (close_call (pos 6)) Done
    ∷ parks 2 8 1 (negsuc 0)
    ∷ counted 3
    ∷ resumed 2 Still []
    ∷ resumed 3 Still []
    ∷ ticked 5
    ∷ resumed 2 Still []
    ∷ told 3 63 2
    ∷ last
    ∷ []

abbrev pub exit_takes_a_guard : Record → List Record
exit_takes_a_guard last =
    answered (counter_call 0 false) (Num 3)
    ∷ answered (counter_call 1 false) (Num 4)
    ∷ answered create_call (Num 5)
    ∷ answered create_call (Num 6)
    ∷ answered create_call (Num 7)
    ∷ answered create_call (Num 8)
    ∷ watches_alone 5 3 53
    ∷ watches_alone 6 3 63
    ∷ answered (add_call 7 6 1 76) Done
    ∷ answered (add_call 7 4 1 74) Done
    ∷ answered (add_call 8 7 2147483649 87) Done
    ∷ reporting (wait_call 8 1) (report 1 87 ∷ []) (5 ∷ [])
    ∷ parks 1 5 1 (negsuc 0)
    ∷ parks 2 8 1 (negsuc 0)
    ∷ answered Fork (Num 2)
    ∷ answered (close_call (pos 6)) Done
    ∷ counted 3
    ∷ resumed 2 Still []
    ∷ by_process 2 Exit Done []
    ∷ last
    ∷ []

abbrev pub an_instance_that_is_not_ready_is_passed_over : Record → List Record
an_instance_that_is_not_ready_is_passed_over last =
    answered (counter_call 0 false) (Num 3)
    ∷ answered create_call (Num 4)
    ∷ answered create_call (Num 5)
    ∷ watches_alone 4 3 4
    ∷ answered (add_call 5 3 2415919109 5) Done
    ∷ reporting (wait_call 5 1) (report 4 5 ∷ []) (2 ∷ [])
    ∷ parks 1 4 1 (negsuc 0)
    ∷ parks 2 5 1 (negsuc 0)
    ∷ answered (write_call (pos 3) (to_bytes 8 0)) (Num 8)
    ∷ resumed 1 Still []
    ∷ last
    ∷ []

abbrev pub a_marked_waiter_above_is_none : Record → List Record
a_marked_waiter_above_is_none last =
    answered (counter_call 0 false) (Num 3)
    ∷ answered create_call (Num 4)
    ∷ answered create_call (Num 5)
    ∷ answered create_call (Num 6)
    ∷ watches_alone 4 3 4
    ∷ watches_alone 5 3 5
    ∷ answered (add_call 6 4 1 64) Done
    ∷ parks 1 6 1 (negsuc 0)
    ∷ parks 2 5 1 (negsuc 0)
    ∷ counted 3
    ∷ resumed 2 Still []
    ∷ counted 3
    ∷ told 2 5 2
    ∷ last
    ∷ []

abbrev pub a_lost_mark : Record → List Record
a_lost_mark last =
    answered (counter_call 0 false) (Num 3)
    ∷ answered create_call (Num 4)
    ∷ answered create_call (Num 5)
    ∷ watches_alone 4 3 4
    ∷ watches_alone 5 3 5
    ∷ parks 1 4 1 (negsuc 0)
    ∷ parks 2 5 1 (negsuc 0)
    ∷ counted 3
    ∷ answered (read_call (pos 3) 8) (Bytes (to_bytes 8 1))
    ∷ resumed 1 Still []
    ∷ resumed 2 Still []
    ∷ counted 3
    ∷ resumed 2 Still []
    ∷ last
    ∷ []

abbrev pub leaving_empty_wakes : Record → List Record
leaving_empty_wakes last =
    answered (counter_call 0 false) (Num 3)
    ∷ answered (counter_call 1 false) (Num 4)
    ∷ answered create_call (Num 5)
    ∷ answered create_call (Num 6)
    ∷ answered create_call (Num 7)
    ∷ watches_alone 5 3 53
    ∷ watches_alone 6 3 63
    ∷ parks 1 5 1 (negsuc 0)
    ∷ parks 2 6 1 (pos 5)
    ∷ parks 3 6 1 (negsuc 0)
    ∷ counted 3
    ∷ resumed 2 Still []
    ∷ ticked 5
    ∷ resumed 3 Still []
    ∷ told 2 63 2
    ∷ last
    ∷ []

abbrev pub a_disarmed_link_finds_nobody : Record → List Record
a_disarmed_link_finds_nobody last =
    answered (counter_call 0 false) (Num 3)
    ∷ answered (counter_call 1 false) (Num 4)
    ∷ answered create_call (Num 5)
    ∷ answered create_call (Num 6)
    ∷ answered create_call (Num 7)
    ∷ answered create_call (Num 8)
    ∷ answered (counter_call 1 false) (Num 9)
    ∷ answered create_call (Num 10)
    ∷ watches_alone 8 9 89
    ∷ answered (add_call 7 8 1073741825 78) Done
    ∷ reporting (wait_call 7 1) (report 1 78 ∷ []) (2 ∷ [])
    ∷ answered (read_call (pos 9) 8) (Bytes (to_bytes 8 1))
    ∷ watches_alone 10 9 109
    ∷ watches_alone 5 3 53
    ∷ watches_alone 6 3 63
    ∷ answered (add_call 6 4 1 64) Done
    ∷ answered (add_call 7 6 2147483649 76) Done
    ∷ reporting (wait_call 7 1) (report 1 76 ∷ []) (7 ∷ [])
    ∷ parks 1 5 1 (negsuc 0)
    ∷ parks 2 7 1 (negsuc 0)
    ∷ parks 3 10 1 (negsuc 0)
    ∷ counted 3
    ∷ resumed 2 Still []
    ∷ counted 9
    ∷ resumed 2 Still []
    ∷ last
    ∷ []

abbrev pub an_entry_that_does_not_ask_is_passed_over : Record → List Record
an_entry_that_does_not_ask_is_passed_over last =
    answered (counter_call 0 false) (Num 3)
    ∷ answered create_call (Num 4)
    ∷ answered create_call (Num 5)
    ∷ answered create_call (Num 6)
    ∷ answered (counter_call 0 false) (Num 7)
    ∷ watches_alone 4 3 43
    ∷ watches_alone 5 3 53
    ∷ answered (add_call 5 7 268435456 57) Done
    ∷ watches_alone 6 7 67
    ∷ parks 1 4 1 (negsuc 0)
    ∷ parks 2 5 1 (negsuc 0)
    ∷ parks 3 6 1 (negsuc 0)
    ∷ counted 3
    ∷ resumed 2 Still []
    ∷ counted 7
    ∷ resumed 2 Still []
    ∷ last
    ∷ []
