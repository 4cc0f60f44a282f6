-- The texts of calls, their members in the order of the keys.
use Rattle.std.proofs.Common.{Bool, ap, List, append_assoc, codes, decimal, false, length, refl, slice_index, true, ℕ, ℤ, ◌++◌, ◌∷◌, ◌≡◌, ◌∙◌, []}
use Rattle.json.specs.Print.{escape, escape_byte}
use Rattle.hex.specs.Hex.{encode_lower}
use Rattle.serde_json.specs.Data.{boolean}
use Rattle.serde_json.specs.Written.{compact_text}
use Rattle.ep_base.specs.declared.call.Call.TheVariants.{Accept, Dup2, EpollCtl, EpollWait, EventFd, Listen, Peek, Read, SetTime, Socket, TimerFd}
use Rattle.ep_base.specs.declared.ids.Fd.{Fd}
use Rattle.ep_base.specs.declared.mask.Mask.{Mask}
use Rattle.ep_base.specs.declared.socket.Family.TheVariants.{Tcp, Unix}
use Rattle.ep_history.specs.Calls.{call_data, of_write}
use Rattle.ep_history.specs.Fields.{integer}

pub eventfd_text : (init : ℕ) (semaphore cloexec : Bool) → compact_text (call_data (EventFd init semaphore cloexec))
    ≡ codes "{\"cloexec\":" ++ (compact_text (boolean cloexec) ++ (codes ",\"init\":" ++ (decimal init ++ (codes ",\"op\":\"eventfd\",\"sem\":" ++ (compact_text (boolean semaphore) ++ codes "}")))))
unfolding escape_byte
eventfd_text init semaphore cloexec = refl

pub timerfd_text : (clock : ℤ) (cloexec : Bool) → compact_text (call_data (TimerFd clock cloexec))
    ≡ codes "{\"clock\":" ++ (compact_text (integer clock) ++ (codes ",\"cloexec\":" ++ (compact_text (boolean cloexec) ++ codes ",\"op\":\"timerfd\"}")))
unfolding escape_byte
timerfd_text clock cloexec = refl

pub ctl_text : (epfd : Fd) (op : ℤ) (fd : Fd) (mask : Mask) (tag : ℕ) → compact_text (call_data (EpollCtl epfd op fd mask tag))
    ≡ codes "{\"act\":" ++ (compact_text (integer op) ++ (codes ",\"data\":" ++ (decimal tag ++ (codes ",\"ep\":" ++ (compact_text (integer epfd.0) ++ (codes ",\"fd\":" ++ (compact_text (integer fd.0) ++ (codes ",\"mask\":" ++ (decimal mask.0 ++ codes ",\"op\":\"ctl\"}")))))))))
unfolding escape_byte
ctl_text epfd op fd mask tag = refl

pub wait_text : (epfd : Fd) (max timeout : ℤ) → compact_text (call_data (EpollWait epfd max timeout))
    ≡ codes "{\"ep\":" ++ (compact_text (integer epfd.0) ++ (codes ",\"max\":" ++ (compact_text (integer max) ++ (codes ",\"op\":\"wait\",\"timeout\":" ++ (compact_text (integer timeout) ++ codes "}")))))
unfolding escape_byte
wait_text epfd max timeout = refl

pub read_text : (fd : Fd) (n : ℕ) → compact_text (call_data (Read fd n))
    ≡ codes "{\"fd\":" ++ (compact_text (integer fd.0) ++ (codes ",\"n\":" ++ (decimal n ++ codes ",\"op\":\"read\"}")))
unfolding escape_byte
read_text fd n = refl

pub peek_text : (fd : Fd) (n : ℕ) → compact_text (call_data (Peek fd n))
    ≡ codes "{\"fd\":" ++ (compact_text (integer fd.0) ++ (codes ",\"n\":" ++ (decimal n ++ codes ",\"op\":\"peek\"}")))
unfolding escape_byte
peek_text fd n = refl

pub tcp_text : (cloexec : Bool) → compact_text (call_data (Socket Tcp cloexec))
    ≡ codes "{\"cloexec\":" ++ (compact_text (boolean cloexec) ++ codes ",\"family\":\"tcp\",\"op\":\"socket\"}")
unfolding escape_byte
tcp_text cloexec = refl

pub unix_text : (cloexec : Bool) → compact_text (call_data (Socket Unix cloexec))
    ≡ codes "{\"cloexec\":" ++ (compact_text (boolean cloexec) ++ codes ",\"family\":\"unix\",\"op\":\"socket\"}")
unfolding escape_byte
unix_text cloexec = refl

pub listen_text : (fd : Fd) (backlog : ℤ) → compact_text (call_data (Listen fd backlog))
    ≡ codes "{\"backlog\":" ++ (compact_text (integer backlog) ++ (codes ",\"fd\":" ++ (compact_text (integer fd.0) ++ codes ",\"op\":\"listen\"}")))
unfolding escape_byte
listen_text fd backlog = refl

pub accept_text : (fd : Fd) (cloexec : Bool) → compact_text (call_data (Accept fd cloexec))
    ≡ codes "{\"cloexec\":" ++ (compact_text (boolean cloexec) ++ (codes ",\"fd\":" ++ (compact_text (integer fd.0) ++ codes ",\"op\":\"accept\"}")))
unfolding escape_byte
accept_text fd cloexec = refl

pub run_text : (fd : ℤ) (bytes : List ℕ) → compact_text (of_write fd bytes true)
    ≡ codes "{\"fd\":" ++ (compact_text (integer fd) ++ (codes ",\"fill\":[" ++ (decimal (slice_index bytes 0) ++ (codes "," ++ (decimal (length bytes) ++ codes "],\"op\":\"write\"}")))))
unfolding escape_byte
run_text fd bytes =
    ap (λ t. codes "{\"fd\":" ++ (compact_text (integer fd) ++ (codes ",\"fill\":[" ++ t)))
    (append_assoc (decimal (slice_index bytes 0)) (44 ∷ (decimal (length bytes) ++ 93 ∷ [])) (codes ",\"op\":\"write\"}")
    ∙ ap (λ t. decimal (slice_index bytes 0) ++ 44 ∷ t) (append_assoc (decimal (length bytes)) (93 ∷ []) (codes ",\"op\":\"write\"}")))

pub digits_text : (fd : ℤ) (bytes : List ℕ) → compact_text (of_write fd bytes false)
    ≡ codes "{\"fd\":" ++ (compact_text (integer fd) ++ (codes ",\"hex\":\"" ++ (escape (encode_lower bytes) ++ codes "\",\"op\":\"write\"}")))
unfolding escape_byte
digits_text fd bytes = ap (λ t. codes "{\"fd\":" ++ (compact_text (integer fd) ++ (codes ",\"hex\":\"" ++ t))) (append_assoc (escape (encode_lower bytes)) (34 ∷ []) (codes ",\"op\":\"write\"}"))

pub settime_text : (fd : Fd) (absolute : Bool) (value interval : ℕ) → compact_text (call_data (SetTime fd absolute value interval))
    ≡ codes "{\"abs\":" ++ (compact_text (boolean absolute) ++ (codes ",\"fd\":" ++ (compact_text (integer fd.0) ++ (codes ",\"interval\":" ++ (decimal interval ++ (codes ",\"op\":\"settime\",\"value\":" ++ (decimal value ++ codes "}")))))))
unfolding escape_byte
settime_text fd absolute value interval = refl

pub dup2_text : (fd to : Fd) → compact_text (call_data (Dup2 fd to))
    ≡ codes "{\"fd\":" ++ (compact_text (integer fd.0) ++ (codes ",\"op\":\"dup2\",\"to\":" ++ (compact_text (integer to.0) ++ codes "}")))
unfolding escape_byte
dup2_text fd to = refl

-- five fields and an end, put one after another
pub five_joined : (s a x b y c z d u e v t : List ℕ) → (((((s ++ (a ++ x)) ++ (b ++ y)) ++ (c ++ z)) ++ (d ++ u)) ++ (e ++ v)) ++ t
    ≡ s ++ (a ++ (x ++ (b ++ (y ++ (c ++ (z ++ (d ++ (u ++ (e ++ (v ++ t))))))))))
five_joined s a x b y c z d u e v t = simp append_assoc
