use Rattle.std.proofs.Common.{ap, option_and_then, option_map, sym, ◌∙◌}
use Rattle.std.proofs.lemmas.Result.{IfOk-weaker}
use Rattle.serde_json.specs.View.{view}
use Rattle.ep_history.specs.Records.{record_of}
use Rattle.ep_history.proofs.record_reader.RecordReader.read_any.Goals as goal

pub returns-in-None : goal.returns-in-None
returns-in-None c = ap (λ o. option_and_then record_of (option_map view o)) (sym c.in-None.is) ∙ ap (option_and_then record_of) c.in_ok-value.ensures

pub returns-in-Some : goal.returns-in-Some
returns-in-Some c =
    IfOk-weaker c.record_of.result _ _
    (λ r h. h ∙ ap (λ o. option_and_then record_of (option_map view o)) (sym c.in-Some.is) ∙ ap (option_and_then record_of) c.in_ok-value.ensures)
    c.record_of.ensures
