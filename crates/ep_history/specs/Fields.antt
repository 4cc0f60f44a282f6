-- Values, and the members of an object, each under its key.
use Rattle.std.specs.Prelude.{List, None, Option, Some, [], bytes_eq, if◌then◌else◌, int_le, int_lt, nat_lt, neg_ℤ, option_and_then, option_map, pos, unwrap_or, ℕ, ℤ, ◌&&◌, ◌^◌, ◌∷◌}
use Rattle.serde_json.specs.Data.{Data, Items, Members, array, item, member, no_items, no_members, number, object, put, unsigned}
use Rattle.serde_json.specs.Events.{members_len}
use Rattle.serde_json.specs.Find.{as_array, as_i64, as_number, as_object, as_u64, get, of_integer}
use Rattle.serde_json.specs.View.{items_of}

infixl 10 ◌>>=◌
abbrev pub ◌>>=◌ : {A B : Type 0} → Option A → (A → Option B) → Option B
o >>= f = option_and_then f o

-- ---- what is printed

abbrev pub natural : ℕ → Data
natural n = number (unsigned n)

abbrev pub integer : ℤ → Data
integer z = number (of_integer z)

abbrev pub array_of : List Data → Data
array_of ds = array (items_of ds)

abbrev pub pair : Data → Data → Data
pair a b = array_of (a ∷ b ∷ [])

abbrev pub with_members : List (List ℕ × Data) → Members → Members
with_members [] found = found
with_members (m ∷ ms) found = with_members ms (put m.0 m.1 found)

abbrev pub object_of : List (List ℕ × Data) → Data
object_of ms = object (with_members ms no_members)

-- an object of one member
abbrev pub tagged : List ℕ → Data → Data
tagged key d = object_of ((key, d) ∷ [])

-- ---- what is read

abbrev pub u64_value : Data → Option ℕ
u64_value d = option_and_then as_u64 (as_number d)

abbrev pub i64_value : Data → Option ℤ
i64_value d = option_and_then as_i64 (as_number d)

abbrev pub u32_value : Data → Option ℕ
u32_value d = option_and_then (λ n. if nat_lt n (2 ^ 32) then Some n else None) (u64_value d)

abbrev pub i32_value : Data → Option ℤ
i32_value d = option_and_then (λ z. if int_le (neg_ℤ (pos (2 ^ 31))) z && int_lt z (pos (2 ^ 31)) then Some z else None) (i64_value d)

abbrev pub two_items : Items → Option (Data × Data)
two_items (item a (item b no_items)) = Some (a, b)
two_items items = None

abbrev pub pair_of : Data → Option (Data × Data)
pair_of d = option_and_then two_items (as_array d)

-- what each of the items means
abbrev pub meanings : {A : Type 0} → (Data → Option A) → Items → Option (List A)
meanings meaning no_items = Some []
meanings meaning (item d ds) = do
  x ← meaning d
  xs ← meanings meaning ds
  Some (x ∷ xs)

abbrev pub each_of : {A : Type 0} → (Data → Option A) → Data → Option (List A)
each_of meaning d = option_and_then (meanings meaning) (as_array d)

abbrev pub required : {A : Type 0} → List ℕ → (Data → Option A) → Data → Option A
required key meaning d = option_and_then meaning (get key d)

-- how many members an object has
abbrev pub size : Data → ℕ
size d = unwrap_or (option_map members_len (as_object d)) 0

abbrev pub only_member : Members → Option (List ℕ × Data)
only_member (member key d no_members) = Some (key, d)
only_member ms = None

-- the key and the value of an object of one member
abbrev pub single : Data → Option (List ℕ × Data)
single d = option_and_then only_member (as_object d)

-- what the first of these names says of the value
abbrev pub named : {A : Type 0} → List (List ℕ × (Data → Option A)) → List ℕ → Data → Option A
named [] name d = None
named (m ∷ ms) name d = if bytes_eq name m.0 then m.1 d else named ms name d
