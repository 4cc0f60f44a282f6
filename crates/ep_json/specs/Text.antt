-- The value that a text is.
use Rattle.std.specs.Prelude.{List, None, Option, if◌then◌else◌, option_and_then, ℕ}
use Rattle.std.specs.Str.{is_utf8}
use Rattle.json.specs.Json.{Json, if_last}
use Rattle.json.specs.Token.{Token}
use Rattle.serde_json.specs.Data.{Data}
use Rattle.serde_json.specs.Read.{of_json, read}

-- what was read, where nothing is left
abbrev pub whole : Option (Json × List Token) → Option Data
whole found = option_and_then of_json (option_and_then (λ p. if_last p.0 p.1) found)

-- bytes that are no UTF-8 are no JSON
abbrev pub text_data : List ℕ → Option Data
text_data bytes = if is_utf8 bytes then read bytes else None
