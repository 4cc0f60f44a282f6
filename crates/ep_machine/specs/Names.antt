-- Names of sockets: numbers, each in a space of its own.
use Rattle.std.specs.Prelude.{Bool, None, Option, Some, false, if◌then◌else◌, suc, true, zero, ℕ, ◌&&◌, ◌+◌, ◌==◌}
use Rattle.ep_base.specs.declared.socket.Family.{Family}
use Rattle.ep_base.specs.declared.socket.Family.TheVariants as families
use Rattle.ep_base.specs.declared.socket.Name.{Name}
use Rattle.ep_base.specs.declared.socket.Space.{Space}
use Rattle.ep_base.specs.declared.socket.Space.TheVariants as spaces

abbrev pub space_number : Space → ℕ
space_number spaces.V4 = 0
space_number spaces.V6 = 1
space_number spaces.Local = 2

abbrev pub same_name : Name → Name → Bool
same_name a b = space_number a.space == space_number b.space && a.number == b.number

-- is it a name of this family?
abbrev pub fits_family : Family → Space → Bool
fits_family families.Tcp spaces.Local = false
fits_family families.Tcp space = true
fits_family families.Unix spaces.Local = true
fits_family families.Unix space = false

-- is it this name?
abbrev pub is_there : Name → Option Name → Bool
is_there name None = false
is_there name (Some other) = same_name other name

-- the first of so many names from this number on that isn't taken
abbrev pub free_from : (Name → Bool) → ℕ → ℕ → Space → Option Name
free_from taken zero k space = None
free_from taken (suc left) k space =
    let name : Name = record { space = space; number = k } in
    if taken name then free_from taken left (k + 1) space else Some name

-- those that the machine gives go from 32,768 to 60,999
abbrev pub given : (Name → Bool) → Space → Option Name
given taken space = free_from taken 28232 32768 space

-- the name that is asked for, where it is free; number 0 asks for any
abbrev pub free_name : (Name → Bool) → Name → Option Name
free_name taken name =
    if name.number == 0 then given taken name.space
    else if taken name then None
    else Some name
