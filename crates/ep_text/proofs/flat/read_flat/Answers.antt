use Rattle.std.proofs.Common.{Some, ap, ◌∙◌, ◌∷◌}
use Rattle.json.specs.Json.{value}
use Rattle.json.specs.Reads.{token_of}
use Rattle.serde_json.specs.Data.{no_members}
use Rattle.ep_json.specs.Text.{whole}
use Rattle.ep_text.specs.Source.{put_all}
use Rattle.ep_text.proofs.FlatLemmas.{object_read}
use Rattle.ep_text.proofs.flat.read_flat.Goals as goal

pub returns-in-None : goal.returns-in-None
returns-in-None c =
    let found = put_all no_members c.read_members.new.found.items in
    ap (λ ts. whole (value 127 ts)) (c.in-Some-BeginObject.ensures.value ∙ ap (λ t. token_of t ∷ c.next.new.self) c.in-Some-BeginObject.field-0-is)
    ∙ object_read c.next.new.self found (c.in_ok-read_members.ensures ∙ ap (λ r. Some (found, r)) c.in-None.ensures.value.0)
