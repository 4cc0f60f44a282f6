-- One step: a refusal, or a change and then its settling. Once the picked registrations are given nothing is free.
use Rattle.std.specs.Prelude.{List, None, Option, Some, if◌then◌else◌, ℕ, ℤ, ◌++◌, ◌+◌}
use Rattle.ep_base.specs.Limits.{Limits}
use Rattle.ep_base.specs.declared.answer.Answer.{Answer}
use Rattle.ep_base.specs.declared.answer.Answer.TheVariants.{Refused}
use Rattle.ep_base.specs.declared.call.Call.{Call}
use Rattle.ep_base.specs.declared.call.Call.TheVariants.{Connect, EpollCtl, EpollWait}
use Rattle.ep_base.specs.declared.call.Event.{Event}
use Rattle.ep_base.specs.declared.call.Event.TheVariants.{Call as CallOf, Resume, Tick}
use Rattle.ep_base.specs.declared.errno.Errno.{Errno}
use Rattle.ep_base.specs.declared.ids.Fd.{Fd}
use Rattle.ep_base.specs.declared.socket.Name.{Name}
use Rattle.ep_machine.specs.Connections.{join, listening_at}
use Rattle.ep_machine.specs.Files.{named_by, object_number, object_under, place_of, side_under}
use Rattle.ep_machine.specs.FilesCalls.{FilesCall, files_call}
use Rattle.ep_machine.specs.Objects.{Object, ObjectCall, asks, idle, object_effect}
use Rattle.ep_machine.specs.Effect.{first}
use Rattle.ep_machine.specs.Refusal.{refusals}
use Rattle.ep_machine.specs.Report.{plainly}
use Rattle.ep_machine.specs.Settle.{settle}
use Rattle.ep_machine.specs.Sockets.{is_tcp}
use Rattle.ep_machine.specs.State.{Change, State}
use Rattle.ep_machine.specs.Tables.{affected, affected_raises}
use Rattle.ep_machine.specs.Waits.{has_parked, resume, tick, wait}
use Rattle.ep_machine.specs.Watches.{ctl, number_in}

-- of a call on the object under a descriptor number
abbrev pub object_change : State → ℕ → ℤ → ObjectCall → Change
object_change s p fd asked =
    let d = named_by s.files p fd in
    let f = object_effect (object_under s.files p fd) (side_under s.files p fd) s.now asked in
    (f.0, record s { files = affected s.files d f }, affected_raises s.files d f)

-- of a connect: once its own socket has done its part, one of Unix joins who listens there
abbrev pub join_change : ℕ → Name → ℕ → Object → Option ℕ → Change → Change
join_change capacity name k (idle x) (Some m) c =
    let joined = join capacity c.1.files k x name m in
    if is_tcp x.family then c else (c.0, record c.1 { files = joined.0 }, c.2 ++ joined.1)
join_change capacity name k x m c = c

abbrev pub joined : Limits → ℕ → Call → Change → Change
joined limits p (Connect fd name) c =
    let s = c.1.files in
    join_change limits.sock_bytes name (object_number (place_of s (named_by s p fd.0))) (object_under s p fd.0) (listening_at s name) c
joined limits p call c = c

-- of a call on the tables alone
abbrev pub files_change : State → FilesCall → Change
files_change s c = (c.answer, record s { files = c.after }, c.raised)

-- of the one or the other
abbrev pub change_on : Limits → State → ℕ → Call → Option (Fd × ObjectCall) → Change
change_on limits s p call (Some on) = joined limits p call (object_change s p on.0.0 on.1)
change_on limits s p call None = files_change s (files_call limits s.files p (has_parked s p) call)

-- of a call that isn't refused
abbrev pub call_change : Limits → State → ℕ → ℕ → Call → List ℕ → Option Change
call_change limits s caller p (EpollCtl epfd op fd mask tag) picked = plainly picked (ctl s p epfd.0 op fd.0 mask.0 tag)
call_change limits s caller p (EpollWait epfd most timeout) picked = wait s caller p (named_by s.files p epfd.0) (number_in most) timeout picked
call_change limits s caller p call picked = plainly picked (change_on limits s p call (asks s.files.objects call))

abbrev pub change : Limits → State → ℕ → Event → List ℕ → Option Change
change limits s caller (CallOf p call) picked = call_change limits s caller p.0 call picked
change limits s caller Resume picked = resume s caller picked
change limits s caller (Tick k) picked = plainly picked (tick s k)

abbrev pub settled : State → Option Change → Option (Answer × State)
settled before None = None
settled before (Some c) = Some (c.0, settle before c.1 c.2)

abbrev pub refused_or : Option Errno → State → List ℕ → Option Change → Option (Answer × State)
refused_or (Some e) s picked c = plainly picked (Refused e, s)
refused_or None s picked c = settled s c

abbrev pub next_event : State → State
next_event s = record s { n = s.n + 1 }

abbrev pub step : Limits → State → ℕ → Event → List ℕ → Option (Answer × State)
step limits s caller event picked =
    let now = next_event s in
    refused_or (first (refusals limits now caller event)) now picked (change limits now caller event picked)
