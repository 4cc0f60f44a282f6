-- Which event a request asks for, and how an answer is laid out.
use Rattle.std.specs.Prelude.{Bool, List, None, Option, Some, [], if◌then◌else◌, option_map, ◌++◌, ◌≡◌, ◌<◌, ◌≤◌, ◌⊎◌, ◌==◌, ◌-◌, bit_and, not, length, take, drop, min, ℕ, ℤ, pos, negsuc, ◌&&◌, ◌||◌, nat_lt}
use Rattle.ep_base.specs.declared.answer.Answer.{Answer}
use Rattle.ep_base.specs.declared.answer.Answer.TheVariants.{Done, Num, Two, Bytes, Events, Time, Parked, Still, Connecting, Failed, Named, Refused}
use Rattle.ep_base.specs.declared.answer.Report.{Report}
use Rattle.ep_base.specs.declared.call.Call.{Call}
use Rattle.ep_base.specs.declared.call.Call.TheVariants.{Pipe, EventFd, TimerFd, SocketPair, Plain, EpollCreate, EpollCtl, EpollWait, Read, Write, Shutdown, SetTime, GetTime, Dup, Dup2, Close, Fork, Exec, Exit}
use Rattle.ep_base.specs.declared.call.Call.TheVariants.{Socket, Bind, Listen, Connect, Accept, Peek, SocketName, TakeError}
use Rattle.ep_base.specs.declared.call.Event.{Event}
use Rattle.ep_base.specs.declared.call.Event.TheVariants.{Call as CallOf, Resume, Tick}
use Rattle.ep_base.specs.declared.socket.Family.{Family}
use Rattle.ep_base.specs.declared.socket.Family.TheVariants.{Tcp, Unix}
use Rattle.ep_base.specs.declared.socket.How.{How}
use Rattle.ep_base.specs.declared.socket.How.TheVariants as hows
use Rattle.ep_base.specs.declared.socket.Name.{Name}
use Rattle.ep_base.specs.declared.socket.Space.{Space}
use Rattle.ep_base.specs.declared.socket.Space.TheVariants.{V4, V6, Local}
use Rattle.ep_base.specs.Errno.{errno_number}
use Rattle.ep_flat.specs.declared.flat.FlatReply.{FlatReply}
use Rattle.ep_flat.specs.declared.flat.FlatReport.{FlatReport}
use Rattle.ep_flat.specs.declared.flat.FlatRequest.{FlatRequest}

abbrev pub has_flag : ℕ → ℕ → Bool
has_flag bits flag = not (bit_and bits flag == 0)

abbrev pub cloexec_in : FlatRequest → Bool
cloexec_in r = has_flag r.flags 1

abbrev pub semaphore_in : FlatRequest → Bool
semaphore_in r = has_flag r.flags 2

abbrev pub absolute_in : FlatRequest → Bool
absolute_in r = has_flag r.flags 4

abbrev pub peer_in : FlatRequest → Bool
peer_in r = has_flag r.flags 8

-- what shutdown(2) shuts, as Linux numbers it
abbrev pub how_of : ℤ → Option How
how_of (pos n) =
    if n == 0 then Some hows.Read else if n == 1 then Some hows.Write else if n == 2 then Some hows.Both else None
how_of (negsuc n) = None

abbrev pub family_of : ℤ → Option Family
family_of (pos n) = if n == 0 then Some Tcp else if n == 1 then Some Unix else None
family_of (negsuc n) = None

abbrev pub space_of : ℤ → Option Space
space_of (pos n) = if n == 0 then Some V4 else if n == 1 then Some V6 else if n == 2 then Some Local else None
space_of (negsuc n) = None

abbrev pub name_in : FlatRequest → Option Name
name_in r = option_map (λ space. record { space = space; number = r.count }) (space_of r.number)

-- the request, with these bytes beside it, asks for this call
abbrev pub AsksCall : FlatRequest → List ℕ → Call → Type 0
AsksCall r given (Pipe cloexec) = (r.event ≡ 1) × (cloexec ≡ cloexec_in r)
AsksCall r given (EventFd init semaphore cloexec) =
    (r.event ≡ 2) × (init ≡ r.count) × (semaphore ≡ semaphore_in r) × (cloexec ≡ cloexec_in r)
AsksCall r given (TimerFd clock cloexec) = (r.event ≡ 3) × (clock ≡ r.number) × (cloexec ≡ cloexec_in r)
AsksCall r given (SocketPair cloexec) = (r.event ≡ 4) × (cloexec ≡ cloexec_in r)
AsksCall r given (Plain cloexec) = (r.event ≡ 5) × (cloexec ≡ cloexec_in r)
AsksCall r given (EpollCreate cloexec) = (r.event ≡ 6) × (cloexec ≡ cloexec_in r)
AsksCall r given (EpollCtl epfd op fd mask tag) =
    (r.event ≡ 7) × (epfd.0 ≡ r.fd) × (op ≡ r.number) × (fd.0 ≡ r.target) × (mask.0 ≡ r.count) × (tag ≡ r.value)
AsksCall r given (EpollWait epfd max timeout) =
    (r.event ≡ 8) × (epfd.0 ≡ r.fd) × (max ≡ r.number) × (timeout ≡ r.timeout)
AsksCall r given (Read fd n) = (r.event ≡ 9) × (fd.0 ≡ r.fd) × (n ≡ r.count)
AsksCall r given (Write fd bytes) = (r.event ≡ 10) × (fd.0 ≡ r.fd) × (bytes ≡ given)
AsksCall r given (Shutdown fd how) = (r.event ≡ 11) × (fd.0 ≡ r.fd) × (how_of r.number ≡ Some how)
AsksCall r given (SetTime fd absolute value interval) =
    (r.event ≡ 12) × (fd.0 ≡ r.fd) × (absolute ≡ absolute_in r) × (value ≡ r.value) × (interval ≡ r.interval)
AsksCall r given (GetTime fd) = (r.event ≡ 13) × (fd.0 ≡ r.fd)
AsksCall r given (Dup fd) = (r.event ≡ 14) × (fd.0 ≡ r.fd)
AsksCall r given (Dup2 fd to) = (r.event ≡ 15) × (fd.0 ≡ r.fd) × (to.0 ≡ r.target)
AsksCall r given (Close fd) = (r.event ≡ 16) × (fd.0 ≡ r.fd)
AsksCall r given Fork = r.event ≡ 17
AsksCall r given Exec = r.event ≡ 18
AsksCall r given Exit = r.event ≡ 19
AsksCall r given (Socket family cloexec) = (r.event ≡ 22) × (family_of r.number ≡ Some family) × (cloexec ≡ cloexec_in r)
AsksCall r given (Bind fd name) = (r.event ≡ 23) × (fd.0 ≡ r.fd) × (name_in r ≡ Some name)
AsksCall r given (Listen fd backlog) = (r.event ≡ 24) × (fd.0 ≡ r.fd) × (backlog ≡ r.number)
AsksCall r given (Connect fd name) = (r.event ≡ 25) × (fd.0 ≡ r.fd) × (name_in r ≡ Some name)
AsksCall r given (Accept fd cloexec) = (r.event ≡ 26) × (fd.0 ≡ r.fd) × (cloexec ≡ cloexec_in r)
AsksCall r given (Peek fd n) = (r.event ≡ 27) × (fd.0 ≡ r.fd) × (n ≡ r.count)
AsksCall r given (SocketName fd peer) = (r.event ≡ 28) × (fd.0 ≡ r.fd) × (peer ≡ peer_in r)
AsksCall r given (TakeError fd) = (r.event ≡ 29) × (fd.0 ≡ r.fd)

-- the request, with these bytes beside it, asks for this event
abbrev pub Asks : FlatRequest → List ℕ → Event → Type 0
Asks r given (CallOf pid call) = (pid.0 ≡ r.pid) × AsksCall r given call
Asks r given Resume = r.event ≡ 20
Asks r given (Tick n) = (r.event ≡ 21) × (n ≡ r.value)

-- it asks to shut something that there isn't
abbrev pub ShutsNothing : FlatRequest → Type 0
ShutsNothing r = (r.event ≡ 11) × (how_of r.number ≡ None)

-- it asks for a socket of no family
abbrev pub HasNoFamily : FlatRequest → Type 0
HasNoFamily r = (r.event ≡ 22) × (family_of r.number ≡ None)

-- it asks for a name in no space
abbrev pub HasNoSpace : FlatRequest → Type 0
HasNoSpace r = ((r.event ≡ 23) ⊎ (r.event ≡ 25)) × (name_in r ≡ None)

-- one of its numbers, which stands for a word, is that of none
abbrev pub LacksWord : FlatRequest → Type 0
LacksWord r = ShutsNothing r ⊎ HasNoFamily r ⊎ HasNoSpace r

-- its number is that of no call, or it lacks a word of one
abbrev pub AsksNoCall : FlatRequest → Type 0
AsksNoCall r = (r.event < 1) ⊎ ((20 ≤ r.event) × (r.event < 22)) ⊎ (30 ≤ r.event) ⊎ LacksWord r

-- its number is that of no event, or it lacks a word of it
abbrev pub AsksNothing : FlatRequest → Type 0
AsksNothing r = (r.event ≡ 0) ⊎ (30 ≤ r.event) ⊎ LacksWord r

-- what is given lies over the beginning of what there was, as far as that reaches
abbrev pub overlaid : {X : Type 0} → List X → List X → List X
overlaid old given = take (length old) given ++ drop (length given) old

abbrev pub flat_report : Report → FlatReport
flat_report report = record { events = report.bits.0; tag = report.tag }

-- what is above 2^63 - 1 is cut to it
abbrev pub as_result : ℕ → ℤ
as_result n = pos (min n 9223372036854775807)

abbrev pub parked_result : ℤ
parked_result = negsuc 4095

-- minus the error number
abbrev pub refused : ℕ → ℤ
refused n = negsuc (n - 1)

-- of EINPROGRESS, 115, which no kernel refuses with
abbrev pub connecting_result : ℤ
connecting_result = negsuc 114

abbrev pub space_number : Space → ℤ
space_number V4 = pos 0
space_number V6 = pos 1
space_number Local = pos 2

-- a reply of a result alone
abbrev pub plain_reply : ℤ → ℕ → FlatReply
plain_reply result now = record { result = result; first = pos 0; second = pos 0; value = 0; interval = 0; now = now }

-- the reply of an answer at this moment
abbrev pub reply_of : Answer → ℕ → FlatReply
reply_of Done now = plain_reply (pos 0) now
reply_of (Num n) now = plain_reply (as_result n) now
reply_of (Two a b) now = record (plain_reply (pos 0) now) { first = a.0; second = b.0 }
reply_of (Bytes given) now = plain_reply (pos (length given)) now
reply_of (Events given) now = plain_reply (pos (length given)) now
reply_of (Time value interval) now = record (plain_reply (pos 0) now) { value = value; interval = interval }
reply_of Parked now = plain_reply parked_result now
reply_of Still now = plain_reply parked_result now
reply_of Connecting now = plain_reply connecting_result now
reply_of (Failed errno) now = plain_reply (refused (errno_number errno)) now
reply_of (Named None) now = plain_reply (pos 0) now
reply_of (Named (Some name)) now = record (plain_reply (pos 1) now) { first = space_number name.space; value = name.number }
reply_of (Refused errno) now = plain_reply (refused (errno_number errno)) now

-- the bytes of a read
abbrev pub bytes_of : Answer → List ℕ
bytes_of (Bytes given) = given
bytes_of answer = []

-- the reports of a wait
abbrev pub reports_of : Answer → List Report
reports_of (Events given) = given
reports_of answer = []

-- a count that is passed as a signed number
abbrev pub count_of : ℤ → ℕ
count_of (pos n) = n
count_of (negsuc n) = 0

-- a read or a peek asks for more bytes, or a wait for more reports, than there is room for
abbrev pub lacks_room : FlatRequest → ℕ → ℕ → Bool
lacks_room r bytes reports =
    ((r.event == 9 || r.event == 27) && nat_lt bytes r.count) || (r.event == 8 && nat_lt reports (count_of r.number))
