-- Which names of sockets are taken: those that objects have, each by one, whose key is kept.
use Rattle.std.specs.Prelude.{◌≡◌, Bool, List, None, Option, Some, false, if◌then◌else◌, is_some, slice_index_or, true, ℕ}
use Rattle.ep_base.specs.declared.object.End.{End}
use Rattle.ep_base.specs.declared.socket.Name.{Name}
use Rattle.ep_machine.specs.Objects.{Object, ObjectCall, has_name, is_taken, name_in}
use Rattle.ep_names.specs.Names.{Taken, holds, owner_of}
use Rattle.ep_object.specs.Asked.{found_in}
use Rattle.ep_table.specs.Closing.{closed_in, remains}
use Rattle.ep_table.specs.declared.words.Shared.{Shared}

-- no two objects have one name
abbrev pub AreApart : List (Option Object) → Type 0
AreApart objects = (i j : ℕ) (name : Name) → has_name name (slice_index_or objects i None) ≡ true
    → has_name name (slice_index_or objects j None) ≡ true → i ≡ j

pub record Taking (names : Taken) (objects : List (Option Object)) : Type 0 where
  pub agree : (name : Name) → holds names name ≡ is_taken objects name
  pub apart : AreApart objects

abbrev pub object_slot : Option Shared → Option Object
object_slot None = None
object_slot (Some s) = Some s.object

-- the object under the key that is kept for a name has that name
abbrev pub AreOwners : Taken → List (Option Shared) → Type 0
AreOwners names slots = (name : Name) (at : ℕ) → owner_of names name ≡ Some at → has_name name (object_slot (slice_index_or slots at None)) ≡ true

-- the name that was found for a call is free
abbrev pub IsFree : List (Option Object) → Option Name → Type 0
IsFree objects None = Unit {0}
IsFree objects (Some name) = is_taken objects name ≡ false

abbrev pub FindsFree : List (Option Object) → ObjectCall → Type 0
FindsFree objects asked = IsFree objects (found_in asked)

-- the name that goes as an object x becomes y: with the object, unless it stays, or before it
abbrev pub freed_if : Bool → Object → Object → Option Name
freed_if false x y = name_in x
freed_if true x y = if is_some (name_in y) then None else name_in x

abbrev pub freed_slot : Option Shared → End → Option Name
freed_slot None e = None
freed_slot (Some s) e = freed_if (remains s e) s.object (closed_in s e).object
