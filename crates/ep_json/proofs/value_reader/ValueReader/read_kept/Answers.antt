use Rattle.std.proofs.Common.{ap, ◌∙◌}
use Rattle.std.proofs.lemmas.Result.{IfOk-weaker}
use Rattle.json.specs.Json.{value}
use Rattle.json.specs.Lex.{tokens}
use Rattle.ep_json.specs.Text.{whole}
use Rattle.ep_json.proofs.TextLemmas.{text_data-no_utf8, text_data-utf8}
use Rattle.ep_json.proofs.value_reader.ValueReader.read_kept.Goals as goal

pub returns-in_default : goal.returns-in_default
returns-in_default c = text_data-no_utf8 c.args.text.now c.in_default.ensures.cases.0

pub returns : goal.returns
returns c =
    let text = c.in-Ok.ensures.cases in
    IfOk-weaker c.whole_tree.result _ _
    (λ r h. h ∙ ap (λ ts. whole (value 127 ts)) c.in_ok-reader.ensures ∙ ap (λ l. whole (value 127 (tokens l))) text.0 ∙ text_data-utf8 c.args.text.now text.1)
    c.whole_tree.ensures
