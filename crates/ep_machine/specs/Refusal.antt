-- Every refusal of every call, in order. The first that holds is answered.
use Rattle.std.specs.Prelude.{Bool, List, None, Option, Some, [], is_none, length, nat_le, nat_lt, not, ℕ, ℤ, ◌&&◌, ◌+◌, ◌==◌, ◌||◌, ◌∷◌}
use Rattle.ep_base.specs.Limits.{Limits}
use Rattle.ep_base.specs.declared.call.Call.{Call}
use Rattle.ep_base.specs.declared.call.Call.TheVariants.{EpollCtl, EpollWait}
use Rattle.ep_base.specs.declared.call.Event.{Event}
use Rattle.ep_base.specs.declared.call.Event.TheVariants.{Call as CallOf, Resume, Tick}
use Rattle.ep_base.specs.declared.errno.Errno.{Errno}
use Rattle.ep_base.specs.declared.errno.Errno.TheVariants.{Ebadf, Ebusy, Eexist, Einval, Eloop, Enoent, Enospc, Eperm, Esrch}
use Rattle.ep_base.specs.declared.ids.Fd.{Fd}
use Rattle.ep_machine.specs.Bits.{EXCLUSIVE, exclusive_bits, has_bit, has_only}
use Rattle.ep_machine.specs.Files.{named_by, names_nothing, object_under, side_under, table_of}
use Rattle.ep_machine.specs.FilesCalls.{files_call}
use Rattle.ep_machine.specs.Objects.{ObjectCall, asks, is_instance, is_plain, object_refusals}
use Rattle.ep_machine.specs.State.{State}
use Rattle.ep_machine.specs.Timer.{last_moment}
use Rattle.ep_machine.specs.Waits.{has_parked, is_parked, is_positive}
use Rattle.ep_machine.specs.Watches.{is_add, is_del, is_exclusive_there, is_legal, is_mod, is_there, links, number_in}

abbrev pub ctl_refusals : Limits → State → ℕ → ℤ → ℤ → ℤ → ℕ → List (Bool × Errno)
ctl_refusals limits s p epfd op fd mask =
    let e = named_by s.files p epfd in
    let d = named_by s.files p fd in
    let target = object_under s.files p fd in
    let there = is_there s e (number_in fd) d in
    (names_nothing s.files p epfd, Ebadf)
    ∷ (names_nothing s.files p fd, Ebadf)
    ∷ (is_plain target, Eperm)
    ∷ (not (is_instance (object_under s.files p epfd)) || e == d, Einval)
    ∷ (not (is_add op || is_del op || is_mod op), Einval)
    ∷ (is_add op && has_bit mask EXCLUSIVE && (is_instance target || not (has_only mask exclusive_bits)), Einval)
    ∷ (is_mod op && has_bit mask EXCLUSIVE, Einval)
    ∷ (not (is_add op) && not there, Enoent)
    ∷ (is_add op && there, Eexist)
    ∷ (is_mod op && is_exclusive_there s e (number_in fd) d, Einval)
    ∷ (is_add op && is_instance target && not (is_legal ((e, d) ∷ links s)), Eloop)
    ∷ (is_add op && nat_le limits.watches (length s.watches), Enospc) ∷ []

abbrev pub wait_refusals : State → ℕ → ℤ → ℤ → List (Bool × Errno)
wait_refusals s p epfd most =
    (not (is_positive most), Einval)
    ∷ (names_nothing s.files p epfd, Ebadf)
    ∷ (not (is_instance (object_under s.files p epfd)), Einval) ∷ []

-- of a call on the object under a descriptor number
abbrev pub on_object : State → ℕ → ℤ → ObjectCall → List (Bool × Errno)
on_object s p fd asked = (names_nothing s.files p fd, Ebadf) ∷ object_refusals (object_under s.files p fd) (side_under s.files p fd) s.now asked

-- of such a call, or of one on the tables alone
abbrev pub refusals_on : Limits → State → ℕ → Call → Option (Fd × ObjectCall) → List (Bool × Errno)
refusals_on limits s p call (Some on) = on_object s p on.0.0 on.1
refusals_on limits s p call None = (files_call limits s.files p (has_parked s p) call).refusals

abbrev pub call_refusals : Limits → State → ℕ → Call → List (Bool × Errno)
call_refusals limits s p (EpollCtl epfd op fd mask tag) = ctl_refusals limits s p epfd.0 op fd.0 mask.0
call_refusals limits s p (EpollWait epfd most timeout) = wait_refusals s p epfd.0 most
call_refusals limits s p call = refusals_on limits s p call (asks s.files.objects call)

abbrev pub refusals : Limits → State → ℕ → Event → List (Bool × Errno)
refusals limits s caller (CallOf p call) = (is_none (table_of s.files p.0), Esrch) ∷ (is_parked s caller, Ebusy) ∷ call_refusals limits s p.0 call
refusals limits s caller Resume = (not (is_parked s caller), Einval) ∷ []
refusals limits s caller (Tick k) = (nat_lt last_moment (s.now + k), Einval) ∷ []
