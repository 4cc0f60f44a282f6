use Rattle.std.proofs.Common.{ap, option_map, sym, ◌∙◌}
use Rattle.serde_json.specs.View.{view}
use Rattle.ep_text.specs.Event.{command_in}
use Rattle.ep_text.proofs.HeaderLemmas.{no_command_first}
use Rattle.ep_text.proofs.line_reader.line_in.Goals as goal

pub returns-in-Some-clause-command : goal.returns-in-Some-clause-command
returns-in-Some-clause-command c =
    ap (λ o. option_map (command_in c.args.version) o) (sym (no_command_first c.args.is_first (view c.args.value.now) c.in-Some.named (sym c.in-Some.is ∙ c.header_at.ensures)))
