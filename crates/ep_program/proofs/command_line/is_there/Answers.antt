use Rattle.std.proofs.Common.{rules, sym, ◌∙◌, ◌≡◌}
use Rattle.clap.specs.Words.{found_of, rows_of}
use Rattle.ep_program.specs.Options.{source_of}
use Rattle.ep_program.proofs.CommandLine.{source-rows}
use Rattle.ep_program.proofs.command_line.is_there.Goals as goal

pub returns : goal.returns
returns c =
    let source : source_of c.args.name.now (rows_of (found_of c.args.matches.now)) ≡ c.value_source.result =
    sym (c.value_source.ensures ∙ source-rows (found_of c.args.matches.now) c.args.name.now) in
    rw source (search rules)
