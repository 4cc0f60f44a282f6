use Rattle.ep_text.proofs.HeaderLemmas.{no_header_written}
use Rattle.ep_text.proofs.line_reader.LineReader.read_plain.Goals as goal

pub returns-in-Some-clause-header : goal.returns-in-Some-clause-header
returns-in-Some-clause-header c =
    no_header_written c.args.is_first c.args.line.now (c.in-Some.caller, c.in-Some.event) (rw c.in-Some.is at c.in_ok-caller.ensures)
