-- Texts that are no JSON, and texts that are.
use Rattle.std.proofs.Common.{Bool, IsUtf8, List, None, Option, Some, ap, false, if◌then◌else◌, option_and_then, refl, sym, true, ℕ, ◌≡◌}
use Rattle.std.specs.Str.{is_utf8}
use Rattle.std.proofs.lemmas.Str.{IsUtf8-from_is_utf8, is_utf8-from_IsUtf8}
use Rattle.serde_json.specs.Data.{Data}
use Rattle.serde_json.specs.Read.{read as json}
use Rattle.ep_history.specs.Records.{line_data, line_record, record_of}

guarded_none : (b : Bool) (o : Option Data) → (b ≡ true → o ≡ None) → None ≡ option_and_then record_of (if b then o else None)
guarded_none true o h = ap (option_and_then record_of) (sym (h refl))
guarded_none false o h = refl

pub line_record-refused : (line : List ℕ) → (IsUtf8 line → json line ≡ None) → None ≡ line_record line
line_record-refused line h = guarded_none (is_utf8 line) (json line) (λ e. h (IsUtf8-from_is_utf8 line e))

guarded_some : (b : Bool) (o : Option Data) (d : Data) → b ≡ true → o ≡ Some d → (if b then o else None) ≡ Some d
guarded_some true o d e h = h
guarded_some false o d e h = cc

pub line_data-read : (line : List ℕ) (d : Data) → IsUtf8 line → json line ≡ Some d → line_data line ≡ Some d
line_data-read line d u h = guarded_some (is_utf8 line) (json line) d (is_utf8-from_IsUtf8 line u) h
