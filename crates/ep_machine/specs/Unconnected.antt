-- Sockets without a connection that don't listen: a name, and a connect that found nobody.
use Rattle.std.specs.Prelude.{Bool, List, None, Option, Some, [], false, if◌then◌else◌, is_none, is_some, nat_lt, not, true, unwrap_or, ℕ}
use Rattle.std.specs.Prelude.{◌&&◌, ◌++◌, ◌||◌, ◌∷◌}
use Rattle.ep_base.specs.declared.answer.Answer.TheVariants.{Bytes, Connecting, Done, Failed, Named, Num}
use Rattle.ep_base.specs.declared.errno.Errno.{Errno}
use Rattle.ep_base.specs.declared.errno.Errno.TheVariants.{Eaddrinuse, Eaddrnotavail, Eafnosupport, Eagain, Econnaborted, Econnrefused, Einval, Enotconn, Epipe}
use Rattle.ep_base.specs.declared.socket.Family.{Family}
use Rattle.ep_base.specs.declared.socket.Family.TheVariants as families
use Rattle.ep_base.specs.declared.socket.Hearing.{Hearing}
use Rattle.ep_base.specs.declared.socket.Hearing.TheVariants.{Full, Nobody}
use Rattle.ep_base.specs.declared.socket.Name.{Name}
use Rattle.ep_base.specs.declared.socket.Space.{Space}
use Rattle.ep_machine.specs.Bits.{ERR, HUP, IN, OUT, RDHUP, nothing, raises, union, when}
use Rattle.ep_machine.specs.Effect.{Effect}
use Rattle.ep_machine.specs.Lists.{is_empty}
use Rattle.ep_machine.specs.Names.{fits_family}
use Rattle.ep_machine.specs.Sockets.{error_code, is_tcp}

pub record Idle : Type 0 where
  pub family : Family
  pub name : Option Name
  pub has_failed : Bool  -- its connect failed, and no further one has told so
  pub error : Option Errno  -- waits to be taken; none unless it failed

abbrev pub new_idle : Family → Idle
new_idle family = record { family = family; name = None; has_failed = false; error = None }

-- all five
abbrev pub failed_bits : ℕ
failed_bits = union (IN ∷ OUT ∷ ERR ∷ HUP ∷ RDHUP ∷ [])

-- its connect found nobody
abbrev pub idle_failed : Idle → Idle
idle_failed x = record x { has_failed = true; error = Some Econnrefused }

abbrev pub idle_present : Idle → ℕ
idle_present x = union (when x.has_failed IN ∷ OUT ∷ when (is_some x.error) ERR ∷ HUP ∷ when x.has_failed RDHUP ∷ [])

-- what a family answers a read, and a write, where no connection ever was
abbrev pub unread_error : Family → Errno
unread_error families.Tcp = Enotconn
unread_error families.Unix = Einval

abbrev pub unwritten_error : Family → Errno
unwritten_error families.Tcp = Epipe
unwritten_error families.Unix = Enotconn

abbrev pub idle_read_refusals : Idle → ℕ → List (Bool × Errno)
idle_read_refusals x n = (nat_lt 0 n && not x.has_failed, unread_error x.family) ∷ []

abbrev pub idle_taken : Idle → Idle
idle_taken x = record x { error = None }

-- what takes an error that is there
abbrev pub idle_fails : Idle → Option Errno → Effect Idle → Effect Idle
idle_fails x None otherwise = otherwise
idle_fails x (Some error) otherwise = (Failed error, idle_taken x, nothing)

abbrev pub idle_read : Idle → ℕ → Effect Idle
idle_read x n = if nat_lt 0 n then idle_fails x x.error (Bytes [], x, nothing) else (Bytes [], x, nothing)

abbrev pub idle_write_refusals : Idle → List ℕ → List (Bool × Errno)
idle_write_refusals x bytes = (not (is_empty bytes) && not (is_some x.error), unwritten_error x.family) ∷ []

abbrev pub idle_write : Idle → List ℕ → Effect Idle
idle_write x [] = (Num 0, x, nothing)
idle_write x (b ∷ bs) = idle_fails x x.error (Num 0, x, nothing)

abbrev pub idle_take_error : Idle → Effect Idle
idle_take_error x = (Num (error_code x.error), idle_taken x, nothing)

abbrev pub idle_name : Idle → Effect Idle
idle_name x = (Named x.name, x, nothing)

-- Binding, by a name of this space, to the name that was found free.
abbrev pub family_refusals : Family → Space → List (Bool × Errno)
family_refusals families.Tcp space = (not (fits_family families.Tcp space), Eafnosupport) ∷ []
family_refusals families.Unix space = (not (fits_family families.Unix space), Einval) ∷ []

abbrev pub idle_bind_refusals : Idle → Space → Option Name → List (Bool × Errno)
idle_bind_refusals x space found =
    family_refusals x.family space ++ (x.has_failed || is_some x.name, Einval) ∷ (is_none found, Eaddrinuse) ∷ []

abbrev pub idle_bind : Idle → Option Name → Effect Idle
idle_bind x found = (Done, record x { name = found }, nothing)

-- Connecting, by a name of this space. TCP gives a socket that has no name the one that was found free.
abbrev pub name_or : Option Name → Option Name → Option Name
name_or (Some name) found = Some name
name_or None found = found

abbrev pub is_nobody : Hearing → Bool
is_nobody Nobody = true
is_nobody heard = false

abbrev pub is_full : Hearing → Bool
is_full Full = true
is_full heard = false

-- Nobody listens, or as many wait there as may: of Unix it is told at once, in this order, before all but the family.
abbrev pub unheard_refusals : Space → Hearing → List (Bool × Errno)
unheard_refusals space heard = family_refusals families.Unix space ++ (is_nobody heard, Econnrefused) ∷ (is_full heard, Eagain) ∷ []

-- Where somebody listens nobody gets through yet, and that is refused.
abbrev pub connect_refusals_of : Family → Idle → Space → Option Name → Hearing → List (Bool × Errno)
connect_refusals_of families.Unix x space found heard = unheard_refusals space heard ++ (true, Einval) ∷ []
connect_refusals_of families.Tcp x space found heard =
    (not x.has_failed && not (fits_family families.Tcp space), Eafnosupport)
    ∷ (not x.has_failed && is_none (name_or x.name found), Eaddrnotavail)
    ∷ (not x.has_failed && not (is_nobody heard), Einval) ∷ []

abbrev pub idle_connect_refusals : Idle → Space → Option Name → Hearing → List (Bool × Errno)
idle_connect_refusals x space found heard = connect_refusals_of x.family x space found heard

-- What it does to the socket itself. TCP has failed when the call returns, tells so once, and then the socket is fresh
-- again. Of Unix the connection that is made is all.
abbrev pub idle_connect : Idle → Option Name → Effect Idle
idle_connect x found =
    if not (is_tcp x.family) then (Done, x, nothing)
    else if x.has_failed then (Failed (unwrap_or x.error Econnaborted), record x { has_failed = false; error = None }, nothing)
    else (Connecting, idle_failed (record x { name = name_or x.name found }), raises failed_bits 0)
