use Rattle.std.proofs.Common.{ap, option_and_then, sym, ◌∙◌}
use Rattle.std.proofs.lemmas.Bool.{false≢true}
use Rattle.std.proofs.lemmas.Result.{IfOk-weaker}
use Rattle.ep_history.specs.Records.{record_of}
use Rattle.ep_history.proofs.LineLemmas.{line_data-read, line_record-refused}
use Rattle.ep_history.proofs.record.read_record.Goals as goal

pub returns-else-is_memory : goal.returns-else-is_memory
returns-else-is_memory c = line_record-refused c.args.line.now (c.in-Err.ensures.err (λ m. false≢true (c.if-is_memory.ensures.1 m)))

pub returns : goal.returns
returns c =
    IfOk-weaker c.record_of.result _ _
    (λ r h. h ∙ ap (option_and_then record_of) (sym (line_data-read c.args.line.now _ c.in-Ok.ensures.ok.0 c.in-Ok.ensures.ok.1)))
    c.record_of.ensures
