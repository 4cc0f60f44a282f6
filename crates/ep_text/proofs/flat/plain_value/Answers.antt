use Rattle.std.proofs.Common.{ap, ◌∙◌, ◌∷◌, ◌≡◌}
use Rattle.json.specs.Json.{value}
use Rattle.json.specs.Reads.{token_of}
use Rattle.json.specs.Token.{Token}
use Rattle.json.proofs.Grammar.{value_is}
use Rattle.serde_json.specs.Read.{converted, of_json}
use Rattle.ep_text.specs.Flat.{flat_depth}
use Rattle.ep_text.specs.Source.{pair_items}
use Rattle.ep_text.proofs.FlatLemmas.{list_read}
use Rattle.ep_text.proofs.flat.plain_value.Goals as goal

pub returns-in-String-clause-value : goal.returns-in-String-clause-value
returns-in-String-clause-value c =
    let first : c.args.reader.now ≡ token_of c.in-Some.token ∷ c.next.new.self = c.in-Some.ensures.value in
    let is : c.args.reader.now ≡ Token.string c.in-String.text.now ∷ c.next.new.self = first ∙ ap (λ t. token_of t ∷ c.next.new.self) c.in-String.is in
    ap (converted of_json) (ap (value flat_depth) is ∙ value_is flat_depth _)

pub returns-in-Bool-clause-value : goal.returns-in-Bool-clause-value
returns-in-Bool-clause-value c =
    let first : c.args.reader.now ≡ token_of c.in-Some.token ∷ c.next.new.self = c.in-Some.ensures.value in
    let is : c.args.reader.now ≡ Token.boolean c.in-Bool.is_true ∷ c.next.new.self = first ∙ ap (λ t. token_of t ∷ c.next.new.self) c.in-Bool.is in
    ap (converted of_json) (ap (value flat_depth) is ∙ value_is flat_depth _)

pub returns-in-Some-parse_number-clause-value : goal.returns-in-Some-parse_number-clause-value
returns-in-Some-parse_number-clause-value c =
    let first : c.args.reader.now ≡ token_of c.in-Some.token ∷ c.next.new.self = c.in-Some.ensures.value in
    let is : c.args.reader.now ≡ Token.number c.in-Number.text.now ∷ c.next.new.self = first ∙ ap (λ t. token_of t ∷ c.next.new.self) c.in-Number.is in
    ap (converted of_json) (ap (value flat_depth) is ∙ value_is flat_depth _) ∙ rw (← c.in-Some-parse_number.ensures)

pub returns-in_ok-first-in-BeginArray-clause-value : goal.returns-in_ok-first-in-BeginArray-clause-value
returns-in_ok-first-in-BeginArray-clause-value c =
    let pair = c.in_ok-first-in-BeginArray in
    let first : c.args.reader.now ≡ token_of c.in-Some.token ∷ c.next.new.self = c.in-Some.ensures.value in
    let is : c.args.reader.now ≡ Token.begin_array ∷ c.next.new.self = first ∙ ap (λ t. token_of t ∷ c.next.new.self) c.in-BeginArray.is in
    ap (λ ts. converted of_json (value flat_depth ts)) is
    ∙ list_read c.next.new.self c.number_pair.new.reader (pair_items pair.first pair.second) pair.ensures.value
