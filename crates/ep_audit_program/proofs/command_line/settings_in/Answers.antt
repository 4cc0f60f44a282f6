use Rattle.std.proofs.Common.{ap, codes, map, string_bytes, sym, ◌∙◌}
use Rattle.clap.specs.Words.{App, fault_of, found_of}
use Rattle.clap.specs.Faults.{is_simple_and_free}
use Rattle.clap.proofs.WalkLemmas.{first_value-rows}
use Rattle.ep_audit_program.proofs.CommandLine.{history_found, limits_found, program_is_free}
use Rattle.ep_audit_program.proofs.command_line.settings_in.Goals as goal

pub returns-clause-limits : goal.returns-clause-limits
returns-clause-limits c =
    c.get_str.ensures ∙ first_value-rows (found_of c.in_ok-matches.matches) (codes "limits")
    ∙ limits_found _ (map string_bytes c.args.words.now) c.in_ok-matches.matches c.in_ok-command.ensures c.in_ok-matches.ensures.matches

pub returns-clause-history : goal.returns-clause-history
returns-clause-history c =
    c.get_str-2.ensures ∙ first_value-rows (found_of c.in_ok-matches.matches) (codes "history")
    ∙ history_found _ (map string_bytes c.args.words.now) c.in_ok-matches.matches c.in_ok-command.ensures c.in_ok-matches.ensures.matches

pub returns-clause-faults : goal.returns-clause-faults
returns-clause-faults c =
    ap (λ (a : App). fault_of a (map string_bytes c.args.words.now)) (sym c.in_ok-command.ensures) ∙ c.in_ok-matches.ensures.kinds (ap is_simple_and_free c.in_ok-command.ensures ∙ program_is_free)
