-- Bytes that are a JSON text, and bytes that are none.
use Rattle.std.proofs.Common.{Bool, IsUtf8, List, None, Option, false, if◌then◌else◌, refl, true, ℕ, ◌≡◌}
use Rattle.std.specs.Str.{is_utf8}
use Rattle.std.proofs.lemmas.Str.{IsUtf8-from_is_utf8, is_utf8-from_IsUtf8}
use Rattle.serde_json.specs.Data.{Data}
use Rattle.serde_json.specs.Read.{read}
use Rattle.ep_json.specs.Text.{text_data}

guarded_none : (b : Bool) (o : Option Data) → (b ≡ true → ⊥) → None ≡ (if b then o else None)
guarded_none true o h = absurd (h refl)
guarded_none false o h = refl

pub text_data-no_utf8 : (bytes : List ℕ) → (IsUtf8 bytes → ⊥) → None ≡ text_data bytes
text_data-no_utf8 bytes h = guarded_none (is_utf8 bytes) (read bytes) (λ e. h (IsUtf8-from_is_utf8 bytes e))

guarded : (b : Bool) (o : Option Data) → b ≡ true → o ≡ (if b then o else None)
guarded true o e = refl
guarded false o e = cc

pub text_data-utf8 : (bytes : List ℕ) → IsUtf8 bytes → read bytes ≡ text_data bytes
text_data-utf8 bytes u = guarded (is_utf8 bytes) (read bytes) (is_utf8-from_IsUtf8 bytes u)
