-- The keys of an object: those that must be there, those that may be left out, and no other.
use Rattle.std.specs.Prelude.{Bool, Err, List, None, Ok, Option, Result, Some, [], bytes_eq, false}
use Rattle.std.specs.Prelude.{if◌then◌else◌, ok_or, ℕ, ℤ, ⊤, ◌||◌, ◌∷◌}
use Rattle.serde_json.specs.Data.{Data, Members, member, no_members}
use Rattle.serde_json.specs.Find.{as_bool, as_str, get}
use Rattle.ep_text.specs.declared.key.Key.{Key}
use Rattle.ep_text.specs.declared.op.Op.{Op}
use Rattle.ep_text.specs.declared.reason.Reason.{Reason}
use Rattle.ep_text.specs.declared.reason.Reason.TheVariants.{Missing, UnknownKey}
use Rattle.ep_text.specs.declared.value_kind.ValueKind.{ValueKind}
use Rattle.ep_text.specs.declared.value_kind.ValueKind.TheVariants as kinds
use Rattle.ep_text.specs.Key.{key_name}
use Rattle.ep_text.specs.Reason.{unfit}
use Rattle.ep_text.specs.Values.{i32_value, i64_value, u32_value, u64_value}

infixl 10 ◌>>=◌
abbrev pub ◌>>=◌ : {A B E : Type 0} → Result A E → (A → Result B E) → Result B E
Ok x >>= f = f x
Err e >>= f = Err e

-- what a value of a kind means, where it is in its range
pub record Meaning (A : Type 0) : Type 0 where
  pub kind : ValueKind
  pub value : Data → Option A

abbrev pub text : Meaning (List ℕ)
text = record { kind = kinds.Text; value = as_str }

abbrev pub truth : Meaning Bool
truth = record { kind = kinds.Truth; value = as_bool }

abbrev pub signed32 : Meaning ℤ
signed32 = record { kind = kinds.Signed32; value = i32_value }

abbrev pub signed64 : Meaning ℤ
signed64 = record { kind = kinds.Signed64; value = i64_value }

abbrev pub unsigned32 : Meaning ℕ
unsigned32 = record { kind = kinds.Unsigned32; value = u32_value }

abbrev pub unsigned64 : Meaning ℕ
unsigned64 = record { kind = kinds.Unsigned64; value = u64_value }

abbrev pub meant : {A : Type 0} → Meaning A → Key → Data → Result A Reason
meant m key d = ok_or (m.value d) (unfit key m.kind d)

abbrev pub must_mean : {A : Type 0} → Meaning A → Key → Option Data → Result A Reason
must_mean m key None = Err (Missing key)
must_mean m key (Some d) = meant m key d

abbrev pub required : {A : Type 0} → Meaning A → Key → Data → Result A Reason
required m key d = must_mean m key (get (key_name key) d)

abbrev pub may_mean : {A : Type 0} → Meaning A → A → Key → Option Data → Result A Reason
may_mean m missing key None = Ok missing
may_mean m missing key (Some d) = meant m key d

abbrev pub optional : {A : Type 0} → Meaning A → A → Key → Data → Result A Reason
optional m missing key d = may_mean m missing key (get (key_name key) d)

-- a flag is false where it is left out
abbrev pub flag : Key → Data → Result Bool Reason
flag = optional truth false

-- ---- no other

abbrev pub is_among : List Key → List ℕ → Bool
is_among [] name = false
is_among (k ∷ ks) name = bytes_eq (key_name k) name || is_among ks name

-- the first member under none of these keys
abbrev pub first_other : List Key → Members → Option (List ℕ)
first_other keys no_members = None
first_other keys (member name d ms) = if is_among keys name then first_other keys ms else Some name

abbrev pub no_other : Op → Option (List ℕ) → Result ⊤ Reason
no_other op None = Ok tt
no_other op (Some name) = Err (UnknownKey op name)

-- of an operation that has these keys
abbrev pub has_only : Op → List Key → Members → Result ⊤ Reason
has_only op keys ms = no_other op (first_other keys ms)

-- ---- a result

abbrev pub ok_map : {A B E : Type 0} → (A → B) → Result A E → Result B E
ok_map f (Ok x) = Ok (f x)
ok_map f (Err e) = Err e
