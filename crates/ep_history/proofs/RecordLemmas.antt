-- Records whose numbers fit are read back from their lines.
use Rattle.std.proofs.Common.{Bool, List, None, SFits, Some, [], append-nil, ap, ap₂, arith, codes, map, max, false, length, option_and_then, refl, slice_index, suc, sym, true, w32, w64, ℕ, ℤ, ◌<◌, ◌^◌, ◌∷◌, ◌≡◌, ◌≤◌, ◌∙◌}
use Rattle.std.specs.List.{AllByRecursion}
use Rattle.std.proofs.lemmas.Bool.{lt-ltb}
use Rattle.std.proofs.lemmas.List.Elements.{recursion_from_All}
use Rattle.hex.specs.Hex.{IsBytes, encode_lower}
use Rattle.hex.proofs.HexLemmas.{decode_of-encode_lower}
use Rattle.json.specs.Json as json
use Rattle.json.specs.Lex.{tokens}
use Rattle.json.specs.Tree as tree
use Rattle.json.proofs.Printed.Tokens.{tokens-print}
use Rattle.json.proofs.Printed.Trees.{ArePrintable-json_tokens, value-json_tokens}
use Rattle.serde_json.specs.Data.{Data, Items, Members, array, boolean, depth, item, items_depth, member, members_depth, no_items, no_members, null, number, object, string}
use Rattle.serde_json.specs.Read.{max_depth, read}
use Rattle.serde_json.specs.View.{items_of}
use Rattle.serde_json.specs.Written.{compact_text, items_outline, members_outline, outline}
use Rattle.serde_json.proofs.Texts.{print-outline}
use Rattle.ep_base.specs.declared.answer.Answer.{Answer}
use Rattle.ep_base.specs.declared.answer.Answer.TheVariants.{Bytes, Connecting, Done, Events, Failed, Named, Num, Parked, Refused, Still, Time, Two}
use Rattle.ep_base.specs.declared.answer.Report.{Report}
use Rattle.ep_base.specs.declared.call.Call.{Call}
use Rattle.ep_base.specs.declared.call.Call.TheVariants.{Accept, Bind, Close, Connect, Dup, Dup2, EpollCtl, EpollWait, EventFd, GetTime, Listen, Peek, Read, SetTime, Shutdown, Socket, SocketName, TakeError, TimerFd, Write}
use Rattle.ep_base.specs.declared.call.Event.{Event}
use Rattle.ep_base.specs.declared.call.Event.TheVariants.{Call as CallOf, Resume, Tick}
use Rattle.ep_base.specs.declared.errno.Errno.{Errno}
use Rattle.ep_base.specs.declared.errno.Errno.TheVariants.{Eaddrinuse, Eaddrnotavail, Eafnosupport, Eagain, Ealready, Ebadf, Ebusy, Econnaborted, Econnrefused, Econnreset, Eexist, Einval, Eisconn, Eloop, Emfile, Enfile, Enoent, Enomem, Enospc, Enotconn, Enotsock, Eperm, Epipe, Esrch}
use Rattle.ep_base.specs.declared.record.Record.{Record}
use Rattle.ep_base.specs.declared.socket.Family.TheVariants.{Tcp, Unix}
use Rattle.ep_base.specs.declared.socket.How.{How}
use Rattle.ep_base.specs.declared.socket.How.TheVariants as hows
use Rattle.ep_base.specs.declared.socket.Space.{Space}
use Rattle.ep_base.specs.declared.socket.Space.TheVariants.{Local, V4, V6}
use Rattle.ep_history.specs.Answers.{answer_data, answer_of, report_data, report_of}
use Rattle.ep_history.specs.Bytes.{accepted, hex_value, is_run}
use Rattle.ep_history.specs.Calls.{call_data, call_of, of_name, of_shutdown, of_write}
use Rattle.ep_history.specs.Fields.{natural}
use Rattle.ep_history.specs.Fits.{AnswerFits, AreLongs, CallFits, EventFits, RecordFits, ReportFits}
use Rattle.ep_history.specs.Records.{event_data, event_of, line_data, line_record, record_data, record_line, record_of}
use Rattle.ep_json.specs.Text.{whole}
use Rattle.ep_history.proofs.CallLemmas.{again_i32, again_u32, close_again, ctl_again, dup_again, dup2_again, gettime_again, read_again, record_again, settime_again, shutdown_again, wait_again, write_again}
use Rattle.ep_history.proofs.CallLemmas.{accept_again, bind_again, connect_again, listen_again, peek_again}
use Rattle.ep_history.proofs.DataLemmas.{record_nests}
use Rattle.ep_history.proofs.EscapeLemmas.{hex_ascii}
use Rattle.ep_history.proofs.FieldLemmas.{read_back}
use Rattle.ep_history.proofs.LineLemmas.{line_data-read}
use Rattle.ep_history.proofs.ToldLemmas.{fits_64, integer_fits, is_told, items_told, told_numbers, told_read, told_utf8}
use Rattle.serde_json.specs.Find.{of_integer}

-- ---- what is printed is told

short_fits : (z : ℤ) → SFits w32 z → fits_64 (of_integer z) ≡ true
short_fits z h = let long : SFits w64 z = grind arith in integer_fits z long

below_64 : (n : ℕ) → n < 2 ^ 32 → n < 2 ^ 64
below_64 n h = omega arith

write_told : (fd : ℤ) (bytes : List ℕ) (b : Bool) → SFits w32 fd → IsBytes bytes → length bytes < 2 ^ 64 → is_told (of_write fd bytes b) ≡ true
write_told fd bytes true f fits long =
    let byte : slice_index bytes 0 < 256 = fits 0 in
    rw (short_fits fd f, lt-ltb (slice_index bytes 0) (2 ^ 64) (omega (arith, byte)), lt-ltb (length bytes) (2 ^ 64) long) refl
write_told fd bytes false f fits long = rw (short_fits fd f, hex_ascii bytes fits) refl

shutdown_told : (fd : ℤ) (how : How) → SFits w32 fd → is_told (of_shutdown fd how) ≡ true
shutdown_told fd hows.Read f = rw (short_fits fd f) refl
shutdown_told fd hows.Write f = rw (short_fits fd f) refl
shutdown_told fd hows.Both f = rw (short_fits fd f) refl

bind_told : (fd : ℤ) (space : Space) (n : ℕ) → SFits w32 fd → n < 2 ^ 32 → is_told (of_name (codes "bind") fd space n) ≡ true
bind_told fd V4 n f h = rw (short_fits fd f, lt-ltb n (2 ^ 64) (below_64 n h)) refl
bind_told fd V6 n f h = rw (short_fits fd f, lt-ltb n (2 ^ 64) (below_64 n h)) refl
bind_told fd Local n f h = rw (short_fits fd f, lt-ltb n (2 ^ 64) (below_64 n h)) refl

connect_told : (fd : ℤ) (space : Space) (n : ℕ) → SFits w32 fd → n < 2 ^ 32 → is_told (of_name (codes "connect") fd space n) ≡ true
connect_told fd V4 n f h = rw (short_fits fd f, lt-ltb n (2 ^ 64) (below_64 n h)) refl
connect_told fd V6 n f h = rw (short_fits fd f, lt-ltb n (2 ^ 64) (below_64 n h)) refl
connect_told fd Local n f h = rw (short_fits fd f, lt-ltb n (2 ^ 64) (below_64 n h)) refl

call_told : (c : Call) → CallFits c → is_told (call_data c) ≡ true
call_told (EventFd init semaphore cloexec) h = rw (lt-ltb init (2 ^ 64) (below_64 init h)) refl
call_told (TimerFd clock cloexec) h = rw (short_fits clock h) refl
call_told (EpollCtl epfd op fd mask tag) h =
    rw (short_fits epfd.0 h.0, short_fits op h.1, short_fits fd.0 h.2, lt-ltb mask.0 (2 ^ 64) (below_64 mask.0 h.3), lt-ltb tag (2 ^ 64) h.4) refl
call_told (EpollWait epfd max timeout) h = rw (short_fits epfd.0 h.0, short_fits max h.1, integer_fits timeout h.2) refl
call_told (Read fd n) h = rw (short_fits fd.0 h.0, lt-ltb n (2 ^ 64) (below_64 n h.1)) refl
call_told (Write fd bytes) h = write_told fd.0 bytes (is_run bytes) h.0 h.1 h.2
call_told (Shutdown fd how) h = shutdown_told fd.0 how h
call_told (Socket Tcp cloexec) h = refl
call_told (Socket Unix cloexec) h = refl
call_told (Peek fd n) h = rw (short_fits fd.0 h.0, lt-ltb n (2 ^ 64) (below_64 n h.1)) refl
call_told (TakeError fd) h = rw (short_fits fd.0 h) refl
call_told (SocketName fd false) h = rw (short_fits fd.0 h) refl
call_told (SocketName fd true) h = rw (short_fits fd.0 h) refl
call_told (Bind fd name) h = bind_told fd.0 name.space name.number h.0 h.1
call_told (Listen fd backlog) h = rw (short_fits fd.0 h.0, short_fits backlog h.1) refl
call_told (Connect fd name) h = connect_told fd.0 name.space name.number h.0 h.1
call_told (Accept fd cloexec) h = rw (short_fits fd.0 h) refl
call_told (SetTime fd absolute value interval) h = rw (short_fits fd.0 h.0, lt-ltb value (2 ^ 64) h.1, lt-ltb interval (2 ^ 64) h.2) refl
call_told (GetTime fd) h = rw (short_fits fd.0 h) refl
call_told (Dup fd) h = rw (short_fits fd.0 h) refl
call_told (Dup2 fd to) h = rw (short_fits fd.0 h.0, short_fits to.0 h.1) refl
call_told (Close fd) h = rw (short_fits fd.0 h) refl
call_told call h = refl

event_told : (e : Event) → EventFits e → is_told (event_data e) ≡ true
event_told (CallOf pid call) h = rw (call_told call h.1, lt-ltb pid.0 (2 ^ 64) h.0) refl
event_told Resume h = refl
event_told (Tick n) h = rw (lt-ltb n (2 ^ 64) h) refl

refused_told : (e : Errno) → is_told (answer_data (Refused e)) ≡ true
refused_told Eperm = refl
refused_told Enoent = refl
refused_told Esrch = refl
refused_told Ebadf = refl
refused_told Eagain = refl
refused_told Enomem = refl
refused_told Ebusy = refl
refused_told Eexist = refl
refused_told Einval = refl
refused_told Enfile = refl
refused_told Emfile = refl
refused_told Enospc = refl
refused_told Epipe = refl
refused_told Eloop = refl
refused_told Enotsock = refl
refused_told Eafnosupport = refl
refused_told Eaddrinuse = refl
refused_told Eaddrnotavail = refl
refused_told Econnaborted = refl
refused_told Econnreset = refl
refused_told Eisconn = refl
refused_told Enotconn = refl
refused_told Econnrefused = refl
refused_told Ealready = refl

failed_told : (e : Errno) → is_told (answer_data (Failed e)) ≡ true
failed_told Eperm = refl
failed_told Enoent = refl
failed_told Esrch = refl
failed_told Ebadf = refl
failed_told Eagain = refl
failed_told Enomem = refl
failed_told Ebusy = refl
failed_told Eexist = refl
failed_told Einval = refl
failed_told Enfile = refl
failed_told Emfile = refl
failed_told Enospc = refl
failed_told Epipe = refl
failed_told Eloop = refl
failed_told Enotsock = refl
failed_told Eafnosupport = refl
failed_told Eaddrinuse = refl
failed_told Eaddrnotavail = refl
failed_told Econnaborted = refl
failed_told Econnreset = refl
failed_told Eisconn = refl
failed_told Enotconn = refl
failed_told Econnrefused = refl
failed_told Ealready = refl

name_told : (space : Space) (n : ℕ) → n < 2 ^ 32 → is_told (answer_data (Named (Some (record { space = space; number = n })))) ≡ true
name_told V4 n h = rw (lt-ltb n (2 ^ 64) (below_64 n h)) refl
name_told V6 n h = rw (lt-ltb n (2 ^ 64) (below_64 n h)) refl
name_told Local n h = rw (lt-ltb n (2 ^ 64) (below_64 n h)) refl

reports_told : (rs : List Report) → AllByRecursion ReportFits rs → items_told (items_of (map report_data rs)) ≡ true
reports_told [] h = refl
reports_told (r ∷ rs) h = rw (lt-ltb r.bits.0 (2 ^ 64) (below_64 r.bits.0 h.0.0), lt-ltb r.tag (2 ^ 64) h.0.1, reports_told rs h.1) refl

answer_told : (a : Answer) → AnswerFits a → is_told (answer_data a) ≡ true
answer_told Done h = refl
answer_told (Num n) h = rw (lt-ltb n (2 ^ 64) h) refl
answer_told (Two first second) h = rw (short_fits first.0 h.0, short_fits second.0 h.1) refl
answer_told (Bytes bytes) h = rw (hex_ascii bytes h) refl
answer_told (Events reports) h = rw (reports_told reports (recursion_from_All ReportFits reports h)) refl
answer_told (Time value interval) h = rw (lt-ltb value (2 ^ 64) h.0, lt-ltb interval (2 ^ 64) h.1) refl
answer_told Parked h = refl
answer_told Still h = refl
answer_told Connecting h = refl
answer_told (Failed e) h = failed_told e
answer_told (Named None) h = refl
answer_told (Named (Some name)) h = name_told name.space name.number h
answer_told (Refused e) h = refused_told e

naturals_told : (ns : List ℕ) → AreLongs ns → items_told (items_of (map natural ns)) ≡ true
naturals_told [] h = refl
naturals_told (n ∷ ns) h = rw (lt-ltb n (2 ^ 64) (h 0), naturals_told ns (λ i. h (suc i))) refl

record_told : (r : Record) → RecordFits r → is_told (record_data r) ≡ true
record_told r h =
    rw (answer_told r.answer h.answer, lt-ltb r.caller.0 (2 ^ 64) (below_64 r.caller.0 h.caller), event_told r.event h.event, naturals_told r.picked h.picked) refl

-- ---- what is told is read back from its text

mutual
  outline_depth : (d : Data) → tree.depth (outline d) ≡ depth d
  outline_depth null = refl
  outline_depth (boolean b) = refl
  outline_depth (number n) = refl
  outline_depth (string s) = refl
  outline_depth (array ds) = ap suc (items_outline_depth ds)
  outline_depth (object ms) = ap suc (members_outline_depth ms)

  items_outline_depth : (ds : Items) → tree.items_depth (items_outline ds) ≡ items_depth ds
  items_outline_depth no_items = refl
  items_outline_depth (item d ds) = ap₂ max (outline_depth d) (items_outline_depth ds)

  members_outline_depth : (ms : Members) → tree.members_depth (members_outline ms) ≡ members_depth ms
  members_outline_depth no_members = refl
  members_outline_depth (member k d ms) = ap₂ max (outline_depth d) (members_outline_depth ms)

text_read : (d : Data) → is_told d ≡ true → depth d ≤ max_depth → read (compact_text d) ≡ Some d
text_read d told shallow =
    let j = outline d in
    let same : tokens (compact_text d) ≡ tree.json_tokens j = ap tokens (sym (print-outline d)) ∙ tokens-print (tree.json_tokens j) (ArePrintable-json_tokens j (told_numbers d told)) in
    let less : tree.depth j ≤ max_depth = omega (arith, shallow, outline_depth d) in
    ap whole (ap (json.value max_depth) (same ∙ sym (append-nil (tree.json_tokens j))) ∙ value-json_tokens j max_depth [] less) ∙ told_read d told

-- ---- what is read is what was printed

hex_again : (bytes : List ℕ) → IsBytes bytes → hex_value (string (encode_lower bytes)) ≡ Some bytes
hex_again bytes h = ap accepted (decode_of-encode_lower bytes h)

call_again : (c : Call) → CallFits c → call_of (call_data c) ≡ Some c
call_again (EventFd init semaphore cloexec) h = rw (again_u32 init h) refl
call_again (TimerFd clock cloexec) h = rw (again_i32 clock h) refl
call_again (EpollCtl epfd op fd mask tag) h = ctl_again epfd op fd mask tag (again_i32 epfd.0 h.0) h.1 (again_i32 fd.0 h.2) (again_u32 mask.0 h.3)
call_again (EpollWait epfd max timeout) h = wait_again epfd max timeout (again_i32 epfd.0 h.0) h.1 h.2
call_again (Read fd n) h = read_again fd n (again_i32 fd.0 h.0) h.1
call_again (Write fd bytes) h = write_again fd bytes (again_i32 fd.0 h.0) (hex_again bytes h.1) h.1
call_again (Shutdown fd how) h = shutdown_again fd how (again_i32 fd.0 h)
call_again (Socket Tcp cloexec) h = refl
call_again (Socket Unix cloexec) h = refl
call_again (Peek fd n) h = peek_again fd n (again_i32 fd.0 h.0) h.1
call_again (TakeError fd) h = rw (again_i32 fd.0 h) refl
call_again (SocketName fd false) h = rw (again_i32 fd.0 h) refl
call_again (SocketName fd true) h = rw (again_i32 fd.0 h) refl
call_again (Bind fd name) h = bind_again fd name.space name.number (again_i32 fd.0 h.0) h.1
call_again (Listen fd backlog) h = listen_again fd backlog (again_i32 fd.0 h.0) h.1
call_again (Connect fd name) h = connect_again fd name.space name.number (again_i32 fd.0 h.0) h.1
call_again (Accept fd cloexec) h = accept_again fd cloexec (again_i32 fd.0 h)
call_again (SetTime fd absolute value interval) h = settime_again fd absolute value interval (again_i32 fd.0 h.0)
call_again (GetTime fd) h = gettime_again fd (again_i32 fd.0 h)
call_again (Dup fd) h = dup_again fd (again_i32 fd.0 h)
call_again (Dup2 fd to) h = dup2_again fd to (again_i32 fd.0 h.0) (again_i32 to.0 h.1)
call_again (Close fd) h = close_again fd (again_i32 fd.0 h)
call_again call h = refl

event_again : (e : Event) → EventFits e → event_of (event_data e) ≡ Some e
event_again (CallOf pid call) h = rw (call_again call h.1) refl
event_again Resume h = refl
event_again (Tick n) h = refl

report_again : (r : Report) → ReportFits r → report_of (report_data r) ≡ Some r
report_again r h = rw (again_u32 r.bits.0 h.0) refl

reports_again : (rs : List Report) → AllByRecursion ReportFits rs → AllByRecursion (λ r. report_of (report_data r) ≡ Some r) rs
reports_again [] h = tt
reports_again (r ∷ rs) h = (report_again r h.0, reports_again rs h.1)

refused_again : (e : Errno) → answer_of (answer_data (Refused e)) ≡ Some (Refused e)
refused_again Eperm = refl
refused_again Enoent = refl
refused_again Esrch = refl
refused_again Ebadf = refl
refused_again Eagain = refl
refused_again Enomem = refl
refused_again Ebusy = refl
refused_again Eexist = refl
refused_again Einval = refl
refused_again Enfile = refl
refused_again Emfile = refl
refused_again Enospc = refl
refused_again Epipe = refl
refused_again Eloop = refl
refused_again Enotsock = refl
refused_again Eafnosupport = refl
refused_again Eaddrinuse = refl
refused_again Eaddrnotavail = refl
refused_again Econnaborted = refl
refused_again Econnreset = refl
refused_again Eisconn = refl
refused_again Enotconn = refl
refused_again Econnrefused = refl
refused_again Ealready = refl

failed_again : (e : Errno) → answer_of (answer_data (Failed e)) ≡ Some (Failed e)
failed_again Eperm = refl
failed_again Enoent = refl
failed_again Esrch = refl
failed_again Ebadf = refl
failed_again Eagain = refl
failed_again Enomem = refl
failed_again Ebusy = refl
failed_again Eexist = refl
failed_again Einval = refl
failed_again Enfile = refl
failed_again Emfile = refl
failed_again Enospc = refl
failed_again Epipe = refl
failed_again Eloop = refl
failed_again Enotsock = refl
failed_again Eafnosupport = refl
failed_again Eaddrinuse = refl
failed_again Eaddrnotavail = refl
failed_again Econnaborted = refl
failed_again Econnreset = refl
failed_again Eisconn = refl
failed_again Enotconn = refl
failed_again Econnrefused = refl
failed_again Ealready = refl

name_again : (space : Space) (n : ℕ) → n < 2 ^ 32
    → answer_of (answer_data (Named (Some (record { space = space; number = n })))) ≡ Some (Named (Some (record { space = space; number = n })))
name_again V4 n h = rw (again_u32 n h) refl
name_again V6 n h = rw (again_u32 n h) refl
name_again Local n h = rw (again_u32 n h) refl

answer_again : (a : Answer) → AnswerFits a → answer_of (answer_data a) ≡ Some a
answer_again Done h = refl
answer_again (Num n) h = refl
answer_again (Two first second) h = rw (again_i32 first.0 h.0, again_i32 second.0 h.1) refl
answer_again (Bytes bytes) h = rw (hex_again bytes h) refl
answer_again (Events reports) h = rw (read_back report_data report_of reports (reports_again reports (recursion_from_All ReportFits reports h))) refl
answer_again (Time value interval) h = refl
answer_again Parked h = refl
answer_again Still h = refl
answer_again Connecting h = refl
answer_again (Failed e) h = failed_again e
answer_again (Named None) h = refl
answer_again (Named (Some name)) h = name_again name.space name.number h
answer_again (Refused e) h = refused_again e

-- ---- lines

pub line_data-printed : (r : Record) → RecordFits r → line_data (record_line r) ≡ Some (record_data r)
line_data-printed r h =
    let told = record_told r h in
    line_data-read (record_line r) (record_data r) (told_utf8 (record_data r) told) (text_read (record_data r) told (record_nests r))

pub line_record-printed : (r : Record) → RecordFits r → line_record (record_line r) ≡ Some r
line_record-printed r h =
    ap (option_and_then record_of) (line_data-printed r h) ∙ record_again r h.caller (event_again r.event h.event) (answer_again r.answer h.answer)
