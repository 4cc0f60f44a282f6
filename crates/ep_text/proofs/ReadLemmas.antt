-- What is left of reading a line: lists that are no pair, and texts that are no JSON.
use Rattle.std.proofs.Common.{◌≡◌, ℕ, List, [], ◌∷◌, length, Bool, true, false, Option, Some, None, refl, sym, ap, ok_or, Err, Ok, IsUtf8, ◌∙◌, if◌then◌else◌}
use Rattle.std.specs.Result.{result_ok}
use Rattle.std.specs.Str.{is_utf8}
use Rattle.std.proofs.lemmas.Str.{IsUtf8-from_is_utf8, is_utf8-from_IsUtf8}
use Rattle.serde_json.specs.Data.{Data, no_members}
use Rattle.serde_json.specs.Find.{get}
use Rattle.serde_json.specs.Read.{read as json}
use Rattle.serde_json.specs.View.{items_view}
use Rattle.serde_json.specs.declared.value.Value.{Value}
use Rattle.ep_text.specs.Bytes.{repeated}
use Rattle.ep_text.specs.declared.reason.Reason.{Reason}
use Rattle.ep_text.specs.declared.key.Key.TheVariants as key
use Rattle.ep_text.specs.declared.source.Member.{Member}
use Rattle.ep_text.specs.Event.{Command, Operation, as_written, asked, command, operation_in, reading}
use Rattle.ep_text.specs.Key.{key_name}
use Rattle.ep_text.specs.Keys.{first_other, ◌>>=◌}
use Rattle.ep_text.specs.Source.{flat_data, put_all}
use Rattle.ep_text.specs.Reason.{unread}

pub repeated-other : (vs : List Value) → (length vs ≡ 2 → ⊥) → None ≡ repeated (items_view vs)
repeated-other [] h = refl
repeated-other (a ∷ []) h = refl
repeated-other (a ∷ b ∷ []) h = absurd (h refl)
repeated-other (a ∷ b ∷ c ∷ vs) h = refl

guarded_none : (b : Bool) (o : Option Data) (e : Reason) → (b ≡ true → o ≡ None) → Err e ≡ (if b then ok_or o e >>= command else Err e)
guarded_none true o e h = ap (λ p. ok_or p e >>= command) (sym (h refl))
guarded_none false o e h = refl

pub no_json : (line : List ℕ) → (IsUtf8 line → json line ≡ None) → Err (unread line) ≡ reading line
no_json line h = guarded_none (is_utf8 line) (json line) (unread line) (λ e. h (IsUtf8-from_is_utf8 line e))

guarded_some : (b : Bool) (o : Option Data) (d : Data) (r : Reason) → b ≡ true → o ≡ Some d → command d ≡ (if b then ok_or o r >>= command else Err r)
guarded_some true o d r e h = ap (λ p. ok_or p r >>= command) (sym h)
guarded_some false o d r e h = cc

pub read_json : (line : List ℕ) (d : Data) → IsUtf8 line → json line ≡ Some d → command d ≡ reading line
read_json line d u h = guarded_some (is_utf8 line) (json line) d (unread line) (is_utf8-from_IsUtf8 line u) h

pub command_read : (line : List ℕ) (d : Data) (c : Command) → IsUtf8 line → json line ≡ Some d → command d ≡ Ok c → as_written line ≡ Some c
command_read line d c u h e = ap result_ok (sym (read_json line d u h) ∙ e)

pub flat_asked : (ms : List Member) (d : Data) (o : Operation) (c : Command) → get (key_name key.Op) (flat_data ms) ≡ Some d → operation_in d ≡ Ok o
    → first_other (key.Op ∷ key.By ∷ o.keys) (put_all no_members ms) ≡ None → asked o (flat_data ms) ≡ Ok c
    → command (flat_data ms) ≡ Ok c
unfolding command
flat_asked ms d o c there named known e = rw (there, named, known) e
