use Rattle.std.proofs.Common.{◌∙◌}
use Rattle.std.proofs.lemmas.Bool.{false≢true}
use Rattle.std.proofs.lemmas.Result.{IfOk-weaker}
use Rattle.ep_text.proofs.ReadLemmas.{no_json, read_json}
use Rattle.ep_text.proofs.read.reading.Goals as goal

pub returns-else-is_memory : goal.returns-else-is_memory
returns-else-is_memory c = rw c.unread.ensures (no_json c.args.line.now (c.in-Err.ensures.err (λ m. false≢true (c.if-is_memory.ensures.1 m))))

pub returns : goal.returns
returns c = IfOk-weaker c.command.result _ _ (λ r h. h ∙ read_json c.args.line.now _ c.in-Ok.ensures.ok.0 c.in-Ok.ensures.ok.1) c.command.ensures
