-- What calls do to descriptor tables and to what they name.
use Rattle.std.specs.Prelude.{Bool, List, None, Option, Some, [], false, if◌then◌else◌, length, map, nat_le}
use Rattle.std.specs.Prelude.{nat_lt, negsuc, pos, slice_set, ℕ, ℤ, ◌++◌, ◌+◌, ◌==◌, ◌∷◌}
use Rattle.ep_base.specs.Limits.{Limits}
use Rattle.ep_base.specs.declared.answer.Answer.{Answer}
use Rattle.ep_base.specs.declared.answer.Answer.TheVariants.{Num, Two}
use Rattle.ep_base.specs.declared.errno.Errno.{Errno}
use Rattle.ep_base.specs.declared.errno.Errno.TheVariants.{Emfile, Enfile}
use Rattle.ep_base.specs.declared.object.End.{End}
use Rattle.ep_base.specs.declared.object.End.TheVariants.{First, Second}
use Rattle.ep_machine.specs.Effect.{Effect}
use Rattle.ep_machine.specs.Files.{Files, Slot, Table, live, numbers_of, object_number, place_of, raised_at, with_object}
use Rattle.ep_machine.specs.Lists.{enter, lowest_free, place_at}
use Rattle.ep_machine.specs.Objects.{Object}

abbrev pub with_table : Files → ℕ → Table → Files
with_table s p table = record s { tables = slice_set s.tables p (Some table) }

abbrev pub slot : ℕ → Bool → Slot
slot d cloexec = record { description = d; cloexec = cloexec }

-- the two lowest free numbers
abbrev pub one_free : Table → ℕ
one_free table = lowest_free table

abbrev pub second_free : Table → ℕ
second_free table = lowest_free (enter table (slot 0 false))

-- where so many descriptions are made, and the last of them takes this number
abbrev pub create_refusals : Limits → Files → ℕ → ℕ → List (Bool × Errno)
create_refusals limits s last count =
    (nat_le limits.descriptors last, Emfile)
    ∷ (nat_lt limits.files (length (live s) + count), Enfile) ∷ []

abbrev pub one_refusals : Limits → Files → ℕ → List (Bool × Errno)
one_refusals limits s p = create_refusals limits s (one_free (numbers_of s p)) 1

abbrev pub two_refusals : Limits → Files → ℕ → List (Bool × Errno)
two_refusals limits s p = create_refusals limits s (second_free (numbers_of s p)) 2

-- a description of an end of the object of number k, at the lowest free number
abbrev pub describe : Files → ℕ → ℕ → End → Bool → Files
describe s p k e cloexec =
    let table = numbers_of s p in record s {
      descriptions = s.descriptions ++ Some (record { object = k; side = e }) ∷ [];
      tables = slice_set s.tables p (Some (enter table (slot (length s.descriptions) cloexec)));
    }

abbrev pub new_object : Files → Object → Files
new_object s x = record s { objects = s.objects ++ Some x ∷ [] }

-- an object with one description
abbrev pub create_one : Files → ℕ → Object → Bool → Files
create_one s p x cloexec = describe (new_object s x) p (length s.objects) First cloexec

-- an object with two, the lower number for its first end
abbrev pub create_two : Files → ℕ → Object → Bool → Files
create_two s p x cloexec = describe (describe (new_object s x) p (length s.objects) First cloexec) p (length s.objects) Second cloexec

abbrev pub answer_one : Files → ℕ → Answer
answer_one s p = Num (one_free (numbers_of s p))

abbrev pub answer_two : Files → ℕ → Answer
answer_two s p = Two (record { 0 = pos (one_free (numbers_of s p)) }) (record { 0 = pos (second_free (numbers_of s p)) })

abbrev pub dup : Files → ℕ → ℕ → Files
dup s p d = let table = numbers_of s p in with_table s p (enter table (slot d false))

abbrev pub same_number : ℤ → ℤ → Bool
same_number (pos a) (pos b) = a == b
same_number (negsuc a) (negsuc b) = a == b
same_number (pos a) (negsuc b) = false
same_number (negsuc a) (pos b) = false

abbrev pub is_in_range : Limits → ℤ → Bool
is_in_range limits (pos k) = nat_lt k limits.descriptors
is_in_range limits (negsuc k) = false

abbrev pub dup2 : Files → ℕ → ℤ → ℤ → ℕ → Files
dup2 s p fd (negsuc k) d = s
dup2 s p fd (pos k) d = if same_number fd (pos k) then s else with_table s p (place_at (numbers_of s p) k (slot d false))

abbrev pub unname : Table → ℤ → Table
unname table (pos k) = slice_set table k None
unname table (negsuc k) = table

abbrev pub close : Files → ℕ → ℤ → Files
close s p fd = with_table s p (unname (numbers_of s p) fd)

-- the child has a copy of the table
abbrev pub fork : Files → ℕ → Files
fork s p = record s { tables = s.tables ++ Some (numbers_of s p) ∷ [] }

abbrev pub kept_by_exec : Option Slot → Option Slot
kept_by_exec None = None
kept_by_exec (Some x) = if x.cloexec then None else Some x

abbrev pub exec : Files → ℕ → Files
exec s p = with_table s p (map kept_by_exec (numbers_of s p))

abbrev pub exit : Files → ℕ → Files
exit s p = record s { tables = slice_set s.tables p None }

-- the effect of a call on a description's object
abbrev pub affected : Files → ℕ → Effect Object → Files
affected s d f = with_object s (object_number (place_of s d)) f.1

-- what it raises
abbrev pub affected_raises : Files → ℕ → Effect Object → List (ℕ × ℕ)
affected_raises s d f = raised_at s (object_number (place_of s d)) f.2
