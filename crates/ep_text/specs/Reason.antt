-- Why a line is no JSON text, and why a value is not what its key wants.
--
-- `NoJson` has a column, of which nothing is told: it stands as `tt`.
use Rattle.std.specs.Prelude.{Bool, List, [], bytes_eq, if◌then◌else◌, is_some, take, ℕ, ◌||◌, ◌∷◌}
use Rattle.serde_json.specs.Data.{Data}
use Rattle.serde_json.specs.Find.{as_array, as_bool, as_number, as_str}
use Rattle.ep_text.specs.declared.key.Key.{Key}
use Rattle.ep_text.specs.declared.reason.Reason.{Reason}
use Rattle.ep_text.specs.declared.reason.Reason.TheVariants.{ByteOrderMark, Empty, NoJson, OutOfRange, WrongKind}
use Rattle.ep_text.specs.declared.value_kind.ValueKind.{ValueKind}
use Rattle.ep_text.specs.declared.value_kind.ValueKind.TheVariants as kinds

abbrev pub byte_order_mark : List ℕ
byte_order_mark = 239 ∷ 187 ∷ 191 ∷ []

abbrev pub unread : List ℕ → Reason
unread [] = Empty
unread (x ∷ xs) = if bytes_eq (take 3 (x ∷ xs)) byte_order_mark then ByteOrderMark else NoJson tt

-- in its range or not
abbrev pub is_of_kind : ValueKind → Data → Bool
is_of_kind kinds.Text d = is_some (as_str d)
is_of_kind kinds.Truth d = is_some (as_bool d)
is_of_kind kinds.Signed32 d = is_some (as_number d)
is_of_kind kinds.Signed64 d = is_some (as_number d)
is_of_kind kinds.Unsigned32 d = is_some (as_number d)
is_of_kind kinds.Unsigned64 d = is_some (as_number d)
is_of_kind kinds.Mask d = is_some (as_str d) || is_some (as_number d)
is_of_kind kinds.Operation d = is_some (as_str d) || is_some (as_number d)
is_of_kind kinds.Hex d = is_some (as_str d)
is_of_kind kinds.Fill d = is_some (as_array d)
is_of_kind kinds.How d = is_some (as_str d)
is_of_kind kinds.Family d = is_some (as_str d)
is_of_kind kinds.Space d = is_some (as_str d)
is_of_kind kinds.Port d = is_some (as_number d)

abbrev pub unfit : Key → ValueKind → Data → Reason
unfit key kind d = if is_of_kind kind d then OutOfRange key kind else WrongKind key kind
