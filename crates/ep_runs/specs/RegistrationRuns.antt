-- Registrations: one-shots, and what a registration is found by.
use Rattle.std.specs.Prelude.{List, [], pos, ℕ, ◌∷◌}
use Rattle.ep_base.specs.declared.answer.Answer.TheVariants.{Done, Num}
use Rattle.ep_base.specs.declared.answer.Report.{Report}
use Rattle.ep_base.specs.declared.errno.Errno.{Errno}
use Rattle.ep_base.specs.declared.errno.Errno.TheVariants.{Eexist}
use Rattle.ep_base.specs.declared.record.Record.{Record}
use Rattle.ep_runs.specs.Records.{add_call, answered, close_call, create_call, del_call, dup2_call, mod_call}
use Rattle.ep_runs.specs.Records.{pipe_call, refused, report, reporting, two, wait_call, write_call}

-- a one-shot is reported once, until MOD arms it again
abbrev pub one_shot_run : List Report → List ℕ → List Record
one_shot_run again picked =
    answered pipe_call (two 3 4)
    ∷ answered create_call (Num 5)
    ∷ answered (add_call 5 3 1073741841 7) Done
    ∷ answered (write_call (pos 4) (97 ∷ [])) (Num 1)
    ∷ reporting (wait_call 5 8) (report 1 7 ∷ []) (1 ∷ [])
    ∷ answered (close_call (pos 4)) Done
    ∷ reporting (wait_call 5 8) again picked
    ∷ refused (add_call 5 3 17 7) Eexist
    ∷ answered (mod_call 5 3 17 8) Done
    ∷ reporting (wait_call 5 8) (report 17 8 ∷ []) (1 ∷ [])
    ∷ []

-- a registration is found by its number and its description, so that a number that is used again names another
abbrev pub key_run : Errno → List Record
key_run of_removal =
    answered pipe_call (two 3 4)
    ∷ answered create_call (Num 5)
    ∷ answered (add_call 5 3 1 3) Done
    ∷ answered (dup2_call (pos 3) (pos 7)) (Num 7)
    ∷ answered (close_call (pos 3)) Done
    ∷ answered (write_call (pos 4) (97 ∷ [])) (Num 1)
    ∷ reporting (wait_call 5 8) (report 1 3 ∷ []) (1 ∷ [])
    ∷ refused (del_call 5 7) of_removal
    ∷ answered pipe_call (two 3 6)
    ∷ answered (add_call 5 3 1 33) Done
    ∷ reporting (wait_call 5 8) (report 1 3 ∷ []) (1 ∷ [])
    ∷ []
