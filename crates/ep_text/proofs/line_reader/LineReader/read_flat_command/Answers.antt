use Rattle.std.proofs.Common.{Some, ap, sym, ◌∙◌, ◌≡◌}
use Rattle.std.proofs.lemmas.Option.{IfSome_then}
use Rattle.std.proofs.lemmas.Result.{IfOk-weaker}
use Rattle.json.specs.Json.{value}
use Rattle.json.specs.Lex.{tokens}
use Rattle.serde_json.specs.Read.{read as json}
use Rattle.ep_json.specs.Text.{whole}
use Rattle.ep_text.specs.Event.{command}
use Rattle.ep_text.specs.Source.{flat_data}
use Rattle.ep_text.proofs.ReadLemmas.{command_read}
use Rattle.ep_text.proofs.line_reader.LineReader.read_flat_command.Goals as goal

pub returns : goal.returns
returns c =
    let ms = c.read_flat.new.found.items in
    let text = c.in-Ok.ensures.cases in
    let read : json c.args.line.now ≡ Some (flat_data ms) =
    ap (λ l. whole (value 127 (tokens l))) (sym text.0) ∙ ap (λ ts. whole (value 127 ts)) (sym c.in_ok-reader.ensures) ∙ c.in-Ok-read_flat.ensures in
    IfOk-weaker c.flat_command.result _ _
    (λ r h. IfSome_then r h (λ x e. command_read c.args.line.now (flat_data ms) x text.1 read (ap (λ l. command (flat_data l)) (sym c.as_slice.ensures.value) ∙ e)))
    c.flat_command.ensures
