-- Which calls take no memory.
use Rattle.std.proofs.Common.{◌≡◌, Option, ap, subst, unwrap_or, ℕ, ℤ}
use Rattle.ep_base.specs.declared.call.Call.{Call}
use Rattle.ep_base.specs.declared.call.Call.TheVariants.{EpollCtl, EpollWait}
use Rattle.ep_base.specs.declared.ids.Fd.{Fd}
use Rattle.ep_calls.specs.FileCall.{IsFileCall}
use Rattle.ep_calls.specs.Spared.{AsksForNone, TakesNoMemory, waiting_under}
use Rattle.ep_calls.specs.ObjectCall.{waiting_at}
use Rattle.ep_base.specs.declared.ids.DescId.{DescId}
use Rattle.ep_object.specs.Memory.{object_waiting}
use Rattle.ep_table.specs.Value.{Seen, content_of, number_under}
use Rattle.ep_machine.specs.Files.{Files, side_of, under}
use Rattle.ep_machine.specs.Objects.{ObjectCall, asks}

-- a call on files takes none as what it is taken apart into takes none
pub takes_none : (files : Files) (p : ℕ) (call : Call) (on : Option (Fd × ObjectCall)) → IsFileCall call → asks files.objects call ≡ on → TakesNoMemory files p call → AsksForNone files p call on
takes_none files p (EpollCtl epfd op fd mask tag) on t is h = absurd t
takes_none files p (EpollWait epfd most timeout) on t is h = absurd t
takes_none files p call on t is h = subst (AsksForNone files p call) is h

-- what waits at a description is what waits under the number that names it
pub waits_under : (v : Seen) (desc : DescId) (p : ℕ) (fd : ℤ) (asked : ObjectCall) → number_under v desc ≡ under v.files p fd → waiting_at v desc asked ≡ waiting_under v.files p fd asked
waits_under v desc p fd asked found = ap (λ (o : Option ℕ). object_waiting (content_of v.files (unwrap_or o 0)) (side_of v.files (unwrap_or o 0)) asked) found
