-- The bytes of a write or of an answer, as digits or as a run.
use Rattle.std.specs.Prelude.{Bool, List, None, Option, Result, Ok, Err, Some, bytes_eq, if◌then◌else◌, length, nat_le, nat_lt, option_and_then, replicate, slice_index, ℕ, ◌&&◌}
use Rattle.hex.specs.Hex.{decode_of}
use Rattle.serde_json.specs.Data.{Data}
use Rattle.serde_json.specs.Find.{as_str}
use Rattle.ep_history.specs.Fields.{pair_of, u64_value, ◌>>=◌}

abbrev pub accepted : {A E : Type 0} → Result A E → Option A
accepted (Ok x) = Some x
accepted (Err e) = None

-- two hexadecimal digits a byte, of either case
abbrev pub hex_value : Data → Option (List ℕ)
hex_value d = option_and_then (λ text. accepted (decode_of text)) (as_str d)

abbrev pub byte_value : Data → Option ℕ
byte_value d = option_and_then (λ n. if nat_lt n 256 then Some n else None) (u64_value d)

-- a byte, and how often it comes
abbrev pub fill_value : Data → Option (List ℕ)
fill_value d = do
  both ← pair_of d
  byte ← byte_value both.0
  count ← u64_value both.1
  Some (replicate count byte)

-- what stands under `hex`, or else under `fill`
abbrev pub written : Option Data → Option Data → Option (List ℕ)
written (Some hex) fill = hex_value hex
written None fill = option_and_then fill_value fill

-- one byte, 16 times or more: a line has it and its count
abbrev pub is_run : List ℕ → Bool
is_run bytes = nat_le 16 (length bytes) && bytes_eq bytes (replicate (length bytes) (slice_index bytes 0))
