-- Calls and records that read back as what they were printed from, where their parts do.
use Rattle.std.proofs.Common.{Bool, List, SFits, Some, arith, codes, false, length, negsuc, pos, refl, replicate, slice_index, true, w32, w64, ℕ, ℤ, ◌<◌, ◌^◌, ◌≡◌}
use Rattle.std.proofs.lemmas.Bool.{lt-ltb}
use Rattle.std.proofs.lemmas.Grind.{common_steps}
use Rattle.hex.specs.Hex.{IsBytes, encode_lower}
use Rattle.serde_json.specs.Data.{string}
use Rattle.ep_base.specs.declared.call.Call.TheVariants.{Accept, Bind, Close, Connect, Dup, Dup2, EpollCtl, EpollWait, GetTime, Listen, Peek, Read, SetTime, Shutdown, Write}
use Rattle.ep_base.specs.declared.ids.Fd.{Fd}
use Rattle.ep_base.specs.declared.mask.Mask.{Mask}
use Rattle.ep_base.specs.declared.record.Record.{Record}
use Rattle.ep_base.specs.declared.socket.How.{How}
use Rattle.ep_base.specs.declared.socket.How.TheVariants as hows
use Rattle.ep_base.specs.declared.socket.Space.{Space}
use Rattle.ep_base.specs.declared.socket.Space.TheVariants.{Local, V4, V6}
use Rattle.ep_history.specs.Answers.{answer_data, answer_of}
use Rattle.ep_history.specs.Bytes.{hex_value, is_run}
use Rattle.ep_history.specs.Calls.{call_data, call_of, of_name, of_write}
use Rattle.ep_history.specs.Fields.{i32_value, i64_value, integer, natural, size, u32_value}
use Rattle.ep_history.specs.Records.{event_data, event_of, record_data, record_of}
use Rattle.ep_history.proofs.FieldLemmas.{naturals_printed}
use Rattle.ep_history.proofs.RunLemmas.{run_is_filled}

pub again_u32 : (n : ℕ) → n < 2 ^ 32 → u32_value (natural n) ≡ Some n
again_u32 n h = rw (lt-ltb n (2 ^ 32) h) refl

pub again_i32 : (z : ℤ) → SFits w32 z → i32_value (integer z) ≡ Some z
again_i32 (pos n) h = grind (arith, common_steps)
again_i32 (negsuc n) h = grind (arith, common_steps)

pub again_i64 : (z : ℤ) → SFits w64 z → i64_value (integer z) ≡ Some z
again_i64 (pos n) h = grind (arith, common_steps)
again_i64 (negsuc n) h = grind (arith, common_steps)

pub ctl_again : (epfd : Fd) (op : ℤ) (fd : Fd) (mask : Mask) (tag : ℕ) → i32_value (integer epfd.0) ≡ Some epfd.0 → SFits w32 op
    → i32_value (integer fd.0) ≡ Some fd.0 → u32_value (natural mask.0) ≡ Some mask.0
    → call_of (call_data (EpollCtl epfd op fd mask tag)) ≡ Some (EpollCtl epfd op fd mask tag)
ctl_again epfd op fd mask tag e o f m = rw (e, again_i32 op o, f, m) refl

pub wait_again : (epfd : Fd) (max timeout : ℤ) → i32_value (integer epfd.0) ≡ Some epfd.0 → SFits w32 max → SFits w64 timeout
    → call_of (call_data (EpollWait epfd max timeout)) ≡ Some (EpollWait epfd max timeout)
wait_again epfd max timeout e m t = rw (e, again_i32 max m, again_i64 timeout t) refl

pub read_again : (fd : Fd) (n : ℕ) → i32_value (integer fd.0) ≡ Some fd.0 → n < 2 ^ 32 → call_of (call_data (Read fd n)) ≡ Some (Read fd n)
read_again fd n f m = rw (f, again_u32 n m) refl

write_size : (fd : ℤ) (bytes : List ℕ) (b : Bool) → size (of_write fd bytes b) ≡ 3
write_size fd bytes true = refl
write_size fd bytes false = refl

digits_again : (fd : Fd) (bytes : List ℕ) → i32_value (integer fd.0) ≡ Some fd.0 → hex_value (string (encode_lower bytes)) ≡ Some bytes
    → call_of (of_write fd.0 bytes false) ≡ Some (Write fd bytes)
digits_again fd bytes f h = rw (f, h, write_size fd.0 bytes (is_run bytes)) refl

run_again : (fd : Fd) (bytes : List ℕ) → i32_value (integer fd.0) ≡ Some fd.0 → slice_index bytes 0 < 256
    → replicate (length bytes) (slice_index bytes 0) ≡ bytes → call_of (of_write fd.0 bytes true) ≡ Some (Write fd bytes)
run_again fd bytes f byte same = rw (f, lt-ltb (slice_index bytes 0) 256 byte, same, write_size fd.0 bytes (is_run bytes)) refl

pub write_again : (fd : Fd) (bytes : List ℕ) → i32_value (integer fd.0) ≡ Some fd.0 → hex_value (string (encode_lower bytes)) ≡ Some bytes
    → IsBytes bytes → call_of (call_data (Write fd bytes)) ≡ Some (Write fd bytes)
write_again fd bytes f h fits = either (is_run bytes) refl where
  either : (b : Bool) → is_run bytes ≡ b → call_of (of_write fd.0 bytes b) ≡ Some (Write fd bytes)
  either true e = run_again fd bytes f (fits 0) (run_is_filled bytes e)
  either false e = digits_again fd bytes f h

pub settime_again : (fd : Fd) (absolute : Bool) (value interval : ℕ) → i32_value (integer fd.0) ≡ Some fd.0
    → call_of (call_data (SetTime fd absolute value interval)) ≡ Some (SetTime fd absolute value interval)
settime_again fd absolute value interval f = rw f refl

pub dup2_again : (fd to : Fd) → i32_value (integer fd.0) ≡ Some fd.0 → i32_value (integer to.0) ≡ Some to.0
    → call_of (call_data (Dup2 fd to)) ≡ Some (Dup2 fd to)
dup2_again fd to f t = rw (f, t) refl

pub shutdown_again : (fd : Fd) (how : How) → i32_value (integer fd.0) ≡ Some fd.0 → call_of (call_data (Shutdown fd how)) ≡ Some (Shutdown fd how)
shutdown_again fd hows.Read f = rw f refl
shutdown_again fd hows.Write f = rw f refl
shutdown_again fd hows.Both f = rw f refl

pub peek_again : (fd : Fd) (n : ℕ) → i32_value (integer fd.0) ≡ Some fd.0 → n < 2 ^ 32 → call_of (call_data (Peek fd n)) ≡ Some (Peek fd n)
peek_again fd n f m = rw (f, again_u32 n m) refl

pub bind_again : (fd : Fd) (space : Space) (n : ℕ) → i32_value (integer fd.0) ≡ Some fd.0 → n < 2 ^ 32
    → call_of (of_name (codes "bind") fd.0 space n) ≡ Some (Bind fd (record { space = space; number = n }))
bind_again fd V4 n f m = rw (f, again_u32 n m) refl
bind_again fd V6 n f m = rw (f, again_u32 n m) refl
bind_again fd Local n f m = rw (f, again_u32 n m) refl

pub connect_again : (fd : Fd) (space : Space) (n : ℕ) → i32_value (integer fd.0) ≡ Some fd.0 → n < 2 ^ 32
    → call_of (of_name (codes "connect") fd.0 space n) ≡ Some (Connect fd (record { space = space; number = n }))
connect_again fd V4 n f m = rw (f, again_u32 n m) refl
connect_again fd V6 n f m = rw (f, again_u32 n m) refl
connect_again fd Local n f m = rw (f, again_u32 n m) refl

pub listen_again : (fd : Fd) (backlog : ℤ) → i32_value (integer fd.0) ≡ Some fd.0 → SFits w32 backlog
    → call_of (call_data (Listen fd backlog)) ≡ Some (Listen fd backlog)
listen_again fd backlog f b = rw (f, again_i32 backlog b) refl

pub accept_again : (fd : Fd) (cloexec : Bool) → i32_value (integer fd.0) ≡ Some fd.0 → call_of (call_data (Accept fd cloexec)) ≡ Some (Accept fd cloexec)
accept_again fd cloexec f = rw f refl

pub gettime_again : (fd : Fd) → i32_value (integer fd.0) ≡ Some fd.0 → call_of (call_data (GetTime fd)) ≡ Some (GetTime fd)
gettime_again fd f = rw f refl

pub dup_again : (fd : Fd) → i32_value (integer fd.0) ≡ Some fd.0 → call_of (call_data (Dup fd)) ≡ Some (Dup fd)
dup_again fd f = rw f refl

pub close_again : (fd : Fd) → i32_value (integer fd.0) ≡ Some fd.0 → call_of (call_data (Close fd)) ≡ Some (Close fd)
close_again fd f = rw f refl

-- ---- records

pub record_again : (r : Record) → r.caller.0 < 2 ^ 32 → event_of (event_data r.event) ≡ Some r.event
    → answer_of (answer_data r.answer) ≡ Some r.answer → record_of (record_data r) ≡ Some r
unfolding record_of
record_again r c e a = rw (again_u32 r.caller.0 c, e, a, naturals_printed r.picked) refl
