-- The bytes of a write: `hex` or `fill`, and never both.
use Rattle.std.specs.Prelude.{Err, List, None, Option, Result, Some, option_and_then, replicate, ℕ}
use Rattle.hex.specs.Hex.{decode_of}
use Rattle.serde_json.specs.Data.{Data, Items, item, no_items}
use Rattle.serde_json.specs.Find.{as_array, as_str, get}
use Rattle.ep_text.specs.declared.key.Key.TheVariants as key
use Rattle.ep_text.specs.declared.reason.Reason.{Reason}
use Rattle.ep_text.specs.declared.reason.Reason.TheVariants.{HexAndFill, NeitherHexNorFill}
use Rattle.ep_text.specs.declared.value_kind.ValueKind.TheVariants as kinds
use Rattle.ep_text.specs.Key.{key_name}
use Rattle.ep_text.specs.Keys.{Meaning, meant}
use Rattle.ep_text.specs.Mask.{accepted}
use Rattle.ep_text.specs.Values.{below}

-- an even number of hexadecimal digits, of either case
abbrev pub hex_value : Data → Option (List ℕ)
hex_value d = option_and_then (λ text. accepted (decode_of text)) (as_str d)

-- a byte, and how often it comes
abbrev pub repeated : Items → Option (List ℕ)
repeated (item byte (item count no_items)) =
    option_and_then (λ b. option_and_then (λ n. Some (replicate n b)) (below 1048577 count)) (below 256 byte)
repeated items = None

abbrev pub fill_value : Data → Option (List ℕ)
fill_value d = option_and_then repeated (as_array d)

abbrev pub hex : Meaning (List ℕ)
hex = record { kind = kinds.Hex; value = hex_value }

abbrev pub fill : Meaning (List ℕ)
fill = record { kind = kinds.Fill; value = fill_value }

abbrev pub one_of : Option Data → Option Data → Result (List ℕ) Reason
one_of (Some d) None = meant hex key.Hex d
one_of None (Some d) = meant fill key.Fill d
one_of None None = Err NeitherHexNorFill
one_of (Some d) (Some e) = Err HexAndFill

abbrev pub bytes_in : Data → Result (List ℕ) Reason
bytes_in d = one_of (get (key_name key.Hex) d) (get (key_name key.Fill) d)
