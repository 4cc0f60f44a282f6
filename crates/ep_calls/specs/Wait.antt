-- epoll_wait over the parts of a kernel.
use Rattle.std.specs.Prelude.{◌≡◌, false, true, All, Bool, IsSome, List, None, Option, Some, []}
use Rattle.std.specs.Prelude.{if◌then◌else◌, map, negsuc, not, pos, ℕ, ℤ, ◌&&◌, ◌+◌, ◌∷◌}
use Rattle.ep_base.specs.declared.answer.Report.{Report}
use Rattle.ep_base.specs.declared.call.Call.{Call}
use Rattle.ep_base.specs.declared.call.Call.TheVariants.{EpollWait}
use Rattle.ep_base.specs.declared.errno.Errno.{Errno}
use Rattle.ep_base.specs.declared.errno.Errno.TheVariants.{Ebadf, Einval}
use Rattle.ep_base.specs.declared.ids.DescId.{DescId}
use Rattle.ep_interest.specs.Registrations.{Registrations, number_under as number_of_entry, numbered}
use Rattle.ep_interest.specs.declared.entry.Entry.{Entry}
use Rattle.ep_machine.specs.Bits.{ONESHOT, has_bit}
use Rattle.ep_machine.specs.Effect.{first}
use Rattle.ep_machine.specs.Files.{Files, names_nothing, object_under, under}
use Rattle.ep_machine.specs.Lists.{is_among}
use Rattle.ep_machine.specs.Objects.{is_instance}
use Rattle.ep_machine.specs.Report.{is_pick}
use Rattle.ep_machine.specs.State.{State}
use Rattle.ep_machine.specs.Waits.{is_positive}
use Rattle.ep_table.specs.Value.{Seen, number_under}
use Rattle.ep_calls.specs.Readiness.{entry_bits, readiness}
use Rattle.ep_calls.specs.Stands.{number_at}
use Rattle.ep_calls.specs.declared.wait.Reportable.{Reportable}
use Rattle.ep_calls.specs.declared.wait.Wait.{Wait}

-- the call with these arguments
abbrev pub wait_call : Wait → Call
wait_call args = EpollWait args.epfd args.max args.timeout

abbrev pub wait_tests : Files → Wait → List (Bool × Errno)
wait_tests files args =
    (not (is_positive args.max), Einval)
    ∷ (names_nothing files args.pid.0 args.epfd.0, Ebadf)
    ∷ (not (is_instance (object_under files args.pid.0 args.epfd.0)), Einval) ∷ []

-- the key of the instance that is waited for, and no refusal
pub record Waits (tables : Seen) (args : Wait) (desc : DescId) : Type 0 where
  pub accepted : first (wait_tests tables.files args) ≡ None
  pub named : number_under tables desc ≡ under tables.files args.pid.0 args.epfd.0
  pub lives : IsSome (number_under tables desc)

-- it is a registration that is there, with its key and the bits that it shows
pub record IsKeyed (tables : Seen) (now : ℕ) (interest : Registrations) (x : Reportable) : Type 0 where
  pub key : number_of_entry interest x.id ≡ Some x.entry.number
  pub there : numbered interest.entries x.entry.number ≡ Some x.entry
  pub bits : x.bits.0 ≡ entry_bits (readiness tables now interest) tables now x.entry

abbrev pub AreKeyed : Seen → ℕ → Registrations → List Reportable → Type 0
AreKeyed tables now interest xs = All (IsKeyed tables now interest) xs

abbrev pub numbers_of : List Reportable → List ℕ
numbers_of xs = map (λ x. x.entry.number) xs

-- the machine may pick these at the instance under a key
abbrev pub IsPick : Seen → DescId → ℕ → List Reportable → State → Type 0
IsPick tables instance most chosen s = is_pick s (number_at tables.keys instance) most (numbers_of chosen) ≡ true

abbrev pub report_of : Reportable → Report
report_of x = record { bits = x.bits; tag = x.entry.tag }

-- those that are reported in event n: a one-shot is disarmed
abbrev pub with_report : ℕ → List ℕ → Entry → Entry
with_report n ks x = if is_among ks x.number then record x { armed = x.armed && not (has_bit x.mask.0 ONESHOT); fresh = false; reported_in = n } else x

-- a negative timeout has no end
abbrev pub deadline_of : ℕ → ℤ → Option ℕ
deadline_of now (pos k) = Some (now + k)
deadline_of now (negsuc k) = None
