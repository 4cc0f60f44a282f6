use Rattle.std.proofs.Common.{Some, ap, sym, ◌∙◌, ◌∷◌, ◌≡◌}
use Rattle.json.specs.Json.{value}
use Rattle.json.specs.Reads.{token_of}
use Rattle.json.specs.Token.{Token}
use Rattle.json.proofs.Grammar.{value_is}
use Rattle.serde_json.specs.Data.{number}
use Rattle.serde_json.specs.Read.{converted, of_json}
use Rattle.serde_json.specs.View.{number_view}
use Rattle.ep_text.proofs.FlatLemmas.{unsigned_of}
use Rattle.ep_text.proofs.flat.whole_number.Goals as goal

pub returns-in-Some-as_u64-clause-value : goal.returns-in-Some-as_u64-clause-value
returns-in-Some-as_u64-clause-value c =
    let rest = c.next.new.self in
    let token = c.in-Some-Number in
    let is : c.args.reader.now ≡ Token.number token.text.now ∷ rest = token.ensures.value ∙ ap (λ t. token_of t ∷ rest) token.field-0-is in
    let read : converted of_json (value 125 c.args.reader.now) ≡ Some (number (number_view c.in-Some.number), rest) =
    ap (converted of_json) (ap (value 125) is ∙ value_is 125 _) ∙ rw (← c.in-Some.ensures) in
    read ∙ ap (λ a. Some (number a, rest)) (unsigned_of (number_view c.in-Some.number) c.in-Some-as_u64.whole (sym c.in-Some-as_u64.ensures))
