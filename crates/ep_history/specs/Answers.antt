-- An answer as an object of one member, whose key says which answer it is.
use Rattle.std.specs.Prelude.{List, None, Option, Some, [], bytes_eq, codes, if◌then◌else◌, is_some, map, option_and_then, true, ℕ, ◌==◌, ◌∷◌}
use Rattle.hex.specs.Hex.{encode_lower}
use Rattle.serde_json.specs.Data.{Data, boolean, null, string}
use Rattle.serde_json.specs.Find.{as_bool, as_null, as_str}
use Rattle.ep_base.specs.declared.answer.Answer.{Answer}
use Rattle.ep_base.specs.declared.answer.Answer.TheVariants.{Bytes, Connecting, Done, Events, Failed, Named, Num, Parked, Refused, Still, Time, Two}
use Rattle.ep_base.specs.declared.answer.Report.{Report}
use Rattle.ep_base.specs.declared.errno.Errno.{Errno}
use Rattle.ep_base.specs.declared.errno.Errno.TheVariants.{Eaddrinuse, Eaddrnotavail, Eafnosupport, Eagain, Ealready, Ebadf, Ebusy, Econnaborted, Econnrefused, Econnreset, Eexist, Einval, Eisconn, Eloop, Emfile, Enfile, Enoent, Enomem, Enospc, Enotconn, Enotsock, Eperm, Epipe, Esrch}
use Rattle.ep_base.specs.declared.socket.Name.{Name}
use Rattle.ep_base.specs.Errno.{errno_name, errno_number}
use Rattle.ep_history.specs.Bytes.{hex_value}
use Rattle.ep_history.specs.Sockets.{space_text, space_value}
use Rattle.ep_history.specs.Fields.{array_of, each_of, i32_value, integer, named, natural, pair, pair_of, single, tagged, u32_value, u64_value, ◌>>=◌}

-- ---- what is printed

abbrev pub report_data : Report → Data
report_data report = pair (natural report.bits.0) (natural report.tag)

abbrev pub answer_data : Answer → Data
answer_data Done = tagged (codes "done") (boolean true)
answer_data (Num n) = tagged (codes "num") (natural n)
answer_data (Two first second) = tagged (codes "two") (pair (integer first.0) (integer second.0))
answer_data (Bytes bytes) = tagged (codes "bytes") (string (encode_lower bytes))
answer_data (Events reports) = tagged (codes "events") (array_of (map report_data reports))
answer_data (Time value interval) = tagged (codes "time") (pair (natural value) (natural interval))
answer_data Parked = tagged (codes "parked") (boolean true)
answer_data Still = tagged (codes "still") (boolean true)
answer_data Connecting = tagged (codes "connecting") (boolean true)
answer_data (Failed errno) = tagged (codes "failed") (pair (natural (errno_number errno)) (string (errno_name errno)))
answer_data (Named None) = tagged (codes "name") null
answer_data (Named (Some name)) = tagged (codes "name") (pair (string (space_text name.space)) (natural name.number))
answer_data (Refused errno) = tagged (codes "err") (pair (natural (errno_number errno)) (string (errno_name errno)))

-- ---- what is read

abbrev pub affirmed : {A : Type 0} → A → Data → Option A
affirmed x d = option_and_then (λ b. if b then Some x else None) (as_bool d)

abbrev pub num_answer : Data → Option Answer
num_answer d = do
  n ← u64_value d
  Some (Num n)

abbrev pub two_answer : Data → Option Answer
two_answer d = do
  both ← pair_of d
  first ← i32_value both.0
  second ← i32_value both.1
  Some (Two (record { 0 = first }) (record { 0 = second }))

abbrev pub bytes_answer : Data → Option Answer
bytes_answer d = do
  bytes ← hex_value d
  Some (Bytes bytes)

abbrev pub report_of : Data → Option Report
report_of d = do
  both ← pair_of d
  bits ← u32_value both.0
  tag ← u64_value both.1
  Some (record { bits = record { 0 = bits }; tag = tag })

abbrev pub events_answer : Data → Option Answer
events_answer d = do
  reports ← each_of report_of d
  Some (Events reports)

abbrev pub time_answer : Data → Option Answer
time_answer d = do
  both ← pair_of d
  value ← u64_value both.0
  interval ← u64_value both.1
  Some (Time value interval)

abbrev pub errnos : List Errno
errnos =
    Eperm ∷ Enoent ∷ Esrch ∷ Ebadf ∷ Eagain ∷ Enomem ∷ Ebusy ∷ Eexist ∷ Einval ∷ Enfile ∷ Emfile ∷ Enospc ∷ Epipe ∷ Eloop ∷ Enotsock ∷
    Eafnosupport ∷ Eaddrinuse ∷ Eaddrnotavail ∷ Econnaborted ∷ Econnreset ∷ Eisconn ∷ Enotconn ∷ Econnrefused ∷ Ealready ∷ []

abbrev pub numbered : List Errno → ℕ → Option Errno
numbered [] n = None
numbered (e ∷ es) n = if n == errno_number e then Some e else numbered es n

-- the number and the name of one error
abbrev pub errno_in : Data → Option Errno
errno_in d = do
  both ← pair_of d
  number ← u32_value both.0
  errno ← numbered errnos number
  name ← as_str both.1
  if bytes_eq name (errno_name errno) then Some errno else None

abbrev pub err_answer : Data → Option Answer
err_answer d = do
  errno ← errno_in d
  Some (Refused errno)

abbrev pub failed_answer : Data → Option Answer
failed_answer d = do
  errno ← errno_in d
  Some (Failed errno)

abbrev pub name_of : Data → Option Name
name_of d = do
  both ← pair_of d
  space ← space_value both.0
  number ← u32_value both.1
  Some (record { space = space; number = number })

-- a socket has one or none
abbrev pub name_answer : Data → Option Answer
name_answer d =
    if is_some (as_null d) then Some (Named None)
    else option_and_then (λ name. Some (Named (Some name))) (name_of d)

abbrev pub other_answers : List (List ℕ × (Data → Option Answer))
other_answers =
    (codes "done", affirmed Done) ∷
    (codes "num", num_answer) ∷
    (codes "two", two_answer) ∷
    (codes "time", time_answer) ∷
    (codes "parked", affirmed Parked) ∷
    (codes "still", affirmed Still) ∷
    (codes "err", err_answer) ∷
    (codes "connecting", affirmed Connecting) ∷
    (codes "failed", failed_answer) ∷
    (codes "name", name_answer) ∷ []

abbrev pub answers : List (List ℕ × (Data → Option Answer))
answers = (codes "bytes", bytes_answer) ∷ (codes "events", events_answer) ∷ other_answers

abbrev pub answer_of : Data → Option Answer
answer_of d = do
  only ← single d
  named answers only.0 only.1
