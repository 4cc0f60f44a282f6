-- The name of an object, before a call and after it.
use Rattle.std.specs.Prelude.{◌≡◌, None, Option, Some, ℕ}
use Rattle.ep_base.specs.declared.object.End.{End}
use Rattle.ep_base.specs.declared.socket.Name.{Name}
use Rattle.ep_machine.specs.Effect.{attempt}
use Rattle.ep_machine.specs.Objects.{Object, ObjectCall, binds, connects, idle, listens, name_in, object_effect, object_refusals}
use Rattle.ep_machine.specs.Unconnected.{Idle}

-- what a call leaves of an object
abbrev pub called : Object → End → ℕ → ObjectCall → Object
called x e now asked = (attempt (object_refusals x e now asked) x (object_effect x e now asked)).1

-- x had no name and has this one as y, or its name stays
abbrev pub Gains : Object → Object → Option Name → Type 0
Gains x y None = name_in y ≡ name_in x
Gains x y (Some name) = (name_in x ≡ None) × (name_in y ≡ Some name)

-- the same of a socket without a connection
abbrev pub GainsName : Idle → Idle → Option Name → Type 0
GainsName x y found = Gains (idle x) (idle y) found

-- a call by which no socket gets a name
abbrev pub NamesNobody : ObjectCall → Type 0
NamesNobody (binds space found) = ⊥
NamesNobody (listens backlog found) = ⊥
NamesNobody (connects space found heard) = ⊥
NamesNobody asked = Unit {0}
