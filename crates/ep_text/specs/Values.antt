-- What a JSON value means where a number is asked for. A fraction, an exponent and `-0` are no whole number.
use Rattle.std.specs.Prelude.{Option, Some, None, if◌then◌else◌, int_le, int_lt, nat_lt, neg_ℤ, option_and_then, pos, ℕ, ℤ, ◌&&◌, ◌^◌}
use Rattle.serde_json.specs.Data.{Data}
use Rattle.serde_json.specs.Find.{as_i64, as_number, as_u64}

abbrev pub u64_value : Data → Option ℕ
u64_value d = option_and_then as_u64 (as_number d)

abbrev pub i64_value : Data → Option ℤ
i64_value d = option_and_then as_i64 (as_number d)

abbrev pub below : ℕ → Data → Option ℕ
below limit d = option_and_then (λ n. if nat_lt n limit then Some n else None) (u64_value d)

abbrev pub u32_value : Data → Option ℕ
u32_value = below (2 ^ 32)

abbrev pub i32_value : Data → Option ℤ
i32_value d = option_and_then (λ z. if int_le (neg_ℤ (pos (2 ^ 31))) z && int_lt z (pos (2 ^ 31)) then Some z else None) (i64_value d)
