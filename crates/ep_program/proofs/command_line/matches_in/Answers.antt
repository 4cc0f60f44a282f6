use Rattle.std.proofs.Common.{map, string_bytes}
use Rattle.std.proofs.lemmas.Result.{IfOk-weaker}
use Rattle.ep_program.proofs.CommandLine.{fails_so, rows_found}
use Rattle.ep_program.proofs.command_line.matches_in.Goals as goal

pub returns-clause-rows : goal.returns-clause-rows
returns-clause-rows c =
    IfOk-weaker c.try_get_matches_from.result _ _ (λ m h. rows_found _ (map string_bytes c.args.words.now) m c.in_ok-command.ensures h) c.try_get_matches_from.ensures.matches

pub returns-clause-fault : goal.returns-clause-fault
returns-clause-fault c =
    fails_so _ (map string_bytes c.args.words.now) c.try_get_matches_from.result c.in_ok-command.ensures c.try_get_matches_from.ensures.kinds
