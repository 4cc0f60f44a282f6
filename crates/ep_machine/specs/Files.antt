-- Descriptor tables, open file descriptions and objects.
use Rattle.std.specs.Prelude.{Bool, List, None, Option, Some, [], false, filter, is_none, is_some, map}
use Rattle.std.specs.Prelude.{negsuc, pos, slice_index_or, slice_set, unwrap_or, ℕ, ℤ, ◌==◌, ◌∷◌}
use Rattle.ep_base.specs.declared.object.End.{End}
use Rattle.ep_base.specs.declared.object.End.TheVariants.{First}
use Rattle.ep_base.specs.declared.object.Raised.{Raised}
use Rattle.ep_machine.specs.Bits.{at_end}
use Rattle.ep_machine.specs.Lists.{numbered}
use Rattle.ep_machine.specs.Objects.{Object, plain}

-- what a descriptor number names
pub record Slot : Type 0 where
  pub description : ℕ
  pub cloexec : Bool

abbrev pub Table : Type 0
Table = List (Option Slot)

-- an end of an object
pub record Place : Type 0 where
  pub object : ℕ
  pub side : End

-- each list goes by number; nothing stands where something was that is no more
pub record Files : Type 0 where
  pub tables : List (Option Table)  -- of each process
  pub descriptions : List (Option Place)
  pub objects : List (Option Object)

-- process 1, with three numbers for one plain description; there is no process 0
abbrev pub opening_files : Files
opening_files =
    let slot : Option Slot = Some (record { description = 0; cloexec = false }) in
    record {
      tables = None ∷ Some (slot ∷ slot ∷ slot ∷ []) ∷ [];
      descriptions = Some (record { object = 0; side = First }) ∷ [];
      objects = Some plain ∷ [];
    }

abbrev pub place_of : Files → ℕ → Option Place
place_of s d = slice_index_or s.descriptions d None

abbrev pub is_live : Files → ℕ → Bool
is_live s d = is_some (place_of s d)

abbrev pub live : Files → List (ℕ × Place)
live s = numbered 0 s.descriptions

abbrev pub object_at : Files → Option Place → Option Object
object_at s None = None
object_at s (Some p) = slice_index_or s.objects p.object None

abbrev pub object_of : Files → ℕ → Option Object
object_of s d = object_at s (place_of s d)

abbrev pub side_in : Option Place → End
side_in None = First
side_in (Some p) = p.side

abbrev pub side_of : Files → ℕ → End
side_of s d = side_in (place_of s d)

abbrev pub object_number : Option Place → ℕ
object_number None = 0
object_number (Some p) = p.object

abbrev pub table_of : Files → ℕ → Option Table
table_of s p = slice_index_or s.tables p None

abbrev pub numbers_of : Files → ℕ → Table
numbers_of s p = unwrap_or (table_of s p) []

abbrev pub slot_under : Table → ℤ → Option Slot
slot_under table (pos k) = slice_index_or table k None
slot_under table (negsuc k) = None

abbrev pub description_in : Option Slot → Option ℕ
description_in None = None
description_in (Some x) = Some x.description

-- the description under a number of a process
abbrev pub under : Files → ℕ → ℤ → Option ℕ
under s p fd = description_in (slot_under (numbers_of s p) fd)

abbrev pub names_nothing : Files → ℕ → ℤ → Bool
names_nothing s p fd = is_none (under s p fd)

-- where it names something
abbrev pub named_by : Files → ℕ → ℤ → ℕ
named_by s p fd = unwrap_or (under s p fd) 0

abbrev pub object_under : Files → ℕ → ℤ → Object
object_under s p fd = unwrap_or (object_of s (named_by s p fd)) plain

abbrev pub side_under : Files → ℕ → ℤ → End
side_under s p fd = side_of s (named_by s p fd)

abbrev pub content_at : Files → ℕ → Object
content_at s k = unwrap_or (slice_index_or s.objects k None) plain

abbrev pub with_object : Files → ℕ → Object → Files
with_object s k x = record s { objects = slice_set s.objects k (Some x) }

-- what is raised at the ends of an object, at their descriptions
abbrev pub raised_at : Files → ℕ → Raised → List (ℕ × ℕ)
raised_at s k r = map (λ x. (x.0, at_end r x.1.side)) (filter (λ x. x.1.object == k) (live s))
