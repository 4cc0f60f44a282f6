use Rattle.std.proofs.Common.{◌∙◌, ◌≡◌}
use Rattle.std.proofs.lemmas.Bool.{false≢true}
use Rattle.ep_text.specs.Header.{header}
use Rattle.ep_text.proofs.HeaderLemmas.{no_event, no_json, read_json}
use Rattle.ep_text.proofs.header.read_header.Goals as goal

pub returns-else-is_memory-clause-named : goal.returns-else-is_memory-clause-named
returns-else-is_memory-clause-named c = no_json c.args.line.now (c.in-Err.ensures.err (λ m. false≢true (c.if-is_memory.ensures.1 m)))

read : (c : goal.Joined-value) → c.header_in.result ≡ header c.args.line.now
read c = c.header_in.ensures ∙ read_json c.args.line.now _ c.in-Ok.ensures.ok.0 c.in-Ok.ensures.ok.1

pub returns-in-Ok-clause-named : goal.returns-in-Ok-clause-named
returns-in-Ok-clause-named c = read c

pub returns-in-Ok-clause-no_command : goal.returns-in-Ok-clause-no_command
returns-in-Ok-clause-no_command c = λ version is. no_event version c.args.line.now _ (read c) is
