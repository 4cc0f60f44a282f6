-- A mask and an operation of epoll_ctl(2), each a number or a text.
use Rattle.std.specs.Prelude.{List, None, Option, Result, Ok, Err, Some, [], bytes_eq, codes, if◌then◌else◌, pos, ℕ, ℤ, ◌∷◌}
use Rattle.bitflags.specs.Text.{name_piece, read_text}
use Rattle.serde_json.specs.Data.{Data}
use Rattle.serde_json.specs.Find.{as_str}
use Rattle.ep_text.specs.declared.value_kind.ValueKind.TheVariants as kinds
use Rattle.ep_text.specs.Keys.{Meaning}
use Rattle.ep_text.specs.Values.{i32_value, u32_value}

abbrev pub mask_names : List (List ℕ × ℕ)
mask_names =
    (codes "IN", 1) ∷ (codes "PRI", 2) ∷ (codes "OUT", 4) ∷ (codes "ERR", 8) ∷ (codes "HUP", 16) ∷ (codes "RDHUP", 8192) ∷
    (codes "EXCLUSIVE", 268435456) ∷ (codes "WAKEUP", 536870912) ∷ (codes "ONESHOT", 1073741824) ∷ (codes "ET", 2147483648) ∷ []

abbrev pub accepted : {A E : Type 0} → Result A E → Option A
accepted (Ok x) = Some x
accepted (Err e) = None

-- the names, joined by `|`, as the strict reader of `bitflags` takes them
abbrev pub mask_of_text : List ℕ → Option ℕ
mask_of_text text = accepted (read_text (name_piece mask_names) text)

abbrev pub operation_of_text : List ℕ → Option ℤ
operation_of_text text =
    if bytes_eq text (codes "add") then Some (pos 1)
    else if bytes_eq text (codes "del") then Some (pos 2)
    else if bytes_eq text (codes "mod") then Some (pos 3)
    else None

abbrev pub text_or_number : {A : Type 0} → (List ℕ → Option A) → (Data → Option A) → Data → Option (List ℕ) → Option A
text_or_number of_text of_number d (Some text) = of_text text
text_or_number of_text of_number d None = of_number d

abbrev pub mask_value : Data → Option ℕ
mask_value d = text_or_number mask_of_text u32_value d (as_str d)

abbrev pub operation_value : Data → Option ℤ
operation_value d = text_or_number operation_of_text i32_value d (as_str d)

abbrev pub mask : Meaning ℕ
mask = record { kind = kinds.Mask; value = mask_value }

abbrev pub operation : Meaning ℤ
operation = record { kind = kinds.Operation; value = operation_value }
