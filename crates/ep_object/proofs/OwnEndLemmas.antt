-- A bit ends only at the end of an object on which a call is made.
use Rattle.std.proofs.Common.{◌≡◌, ◌≢◌, ◌≤◌, ◌<◌, ◌+◌, ◌-◌, ◌/◌, ◌==◌, ◌++◌, ◌∙◌, ℕ, Bool, true, false, List, [], ◌∷◌, None, Option, Some, ap, arith, length, nat_lt, if◌then◌else◌, not, refl, ℤ}
use Rattle.std.specs.Prelude.{nat_le}
use Rattle.std.proofs.lemmas.Bool.{false≢true}
use Rattle.std.proofs.lemmas.Bool.Decides.{nat_tests}
use Rattle.std.proofs.lemmas.List.{length-drop}
use Rattle.std.proofs.lemmas.Nat.{le-div}
use Rattle.std.proofs.Math.Nat.{div-mul-le_self}
use Rattle.ep_base.specs.declared.errno.Errno.{Errno}
use Rattle.ep_base.specs.declared.object.End.{End}
use Rattle.ep_base.specs.declared.object.End.TheVariants.{First, Second}
use Rattle.ep_base.specs.declared.socket.How.{How}
use Rattle.ep_base.specs.declared.socket.Name.{Name}
use Rattle.ep_machine.specs.Bits.{ERR, HUP, IN, OUT}
use Rattle.ep_machine.specs.Effect.{Effect, attempt, first, unless}
use Rattle.ep_machine.specs.Lists.{is_empty}
use Rattle.ep_machine.specs.Objects.{Object, ObjectCall, asks_name, asks_time, bind, binds, close_end, connect, connects, gettime, idle, instance, name_of, object_effect, object_present, object_refusals, pair, listens, listen}
use Rattle.ep_machine.specs.Objects.{peek, peeks, pipe, plain, read, read_refusals, reads, sets_time, settime, shutdown, shuts_down, take_error, takes_error, timer}
use Rattle.ep_machine.specs.Objects.{write, write_refusals, writes}
use Rattle.ep_machine.specs.Pipe.{Pipe, pipe_present, pipe_room, pipe_taken}
use Rattle.ep_machine.specs.Timer.{Timer, expirations_from, unread}
use Rattle.ep_object.proofs.BitLemmas.{covers_self, from_bits}
use Rattle.ep_object.proofs.PairEndLemmas.{close_stays as pair_closes, failed_stays as pair_fails, peek_stays as pair_peeks, read_stays as pair_reads}
use Rattle.ep_object.proofs.PairEndLemmas.{shut_stays as pair_shuts, write_stays as pair_writes}
use Rattle.ep_object.proofs.StayLemmas.{Stay, or_stays, when_stays}
use Rattle.ep_object.specs.Law.{CallEndsHereOnly, ClockEndsNothing, CloseEndsNothing, object_has}

-- Queues.
some_more : (xs ys : List ℕ) → not (is_empty xs) ≡ true → not (is_empty (xs ++ ys)) ≡ true
some_more [] ys h = absurd (false≢true h)
some_more (x ∷ xs) ys h = refl

room_left : (capacity n k : ℕ) → nat_le 4096 (capacity - k) ≡ true → nat_le 4096 (capacity - (k - n)) ≡ true
room_left capacity n k h = grind (arith, nat_tests, h)

-- Pipes.
pipe_reader : (p : Pipe) (n : ℕ) → Stay (pipe_present (pipe_taken p n) Second) (pipe_present p Second)
pipe_reader p n =
    let room : nat_le 4096 (pipe_room p) ≡ true → nat_le 4096 (pipe_room (pipe_taken p n)) ≡ true =
    λ h. ap (λ (k : ℕ). nat_le 4096 (p.capacity - k)) (length-drop n p.bytes) ∙ room_left p.capacity n (length p.bytes) h in
    or_stays _ _ _ _ (when_stays _ _ OUT room) (covers_self _ 0)

pipe_writer : (p : Pipe) (more : List ℕ) → Stay (pipe_present (record p { bytes = p.bytes ++ more }) First) (pipe_present p First)
pipe_writer p more = or_stays _ _ _ _ (when_stays _ _ IN (some_more p.bytes more)) (covers_self _ 0)

-- Calls.
-- object x, of which a call makes y, shows at this end what it showed
abbrev pub Shows : Object → Object → End → ℕ → ℕ → Type 0
Shows x y o old new = Stay (object_present y o new) (object_present x o old)

-- a call that is refused changes nothing
unless_stays : (refusal : Option Errno) (x : Object) (f : Effect Object) (o : End) (now : ℕ) → Shows x f.1 o now now → Shows x (unless refusal x f).1 o now now
unless_stays None x f o now h = h
unless_stays (Some e) x f o now h = covers_self _ 0

-- at an object that has the first end alone, no other end is called
one_end : {P : Type 0} (e o : End) → e ≢ o → object_has instance e ≡ true → object_has instance o ≡ true → P
one_end First First ne h k = absurd (ne refl)
one_end First Second ne h k = absurd (false≢true k)
one_end Second o ne h k = absurd (false≢true h)

read_stays : (x : Object) (e o : End) (n now : ℕ) → e ≢ o → object_has x e ≡ true → object_has x o ≡ true → Shows x (attempt (read_refusals x e n now) x (read x e n now)).1 o now now
read_stays (pipe p) First First n now ne h k = absurd (ne refl)
read_stays (pipe p) First Second n now ne h k = unless_stays _ (pipe p) (read (pipe p) First n now) Second now (pipe_reader p n)
read_stays (pipe p) Second o n now ne h k = covers_self _ 0
read_stays (pair p) e o n now ne h k = unless_stays (first (read_refusals (pair p) e n now)) (pair p) (read (pair p) e n now) o now (pair_reads p e o n ne)
read_stays x e o n now ne h k = one_end e o ne h k

write_stays : (x : Object) (e o : End) (bytes : List ℕ) (now : ℕ) → e ≢ o → object_has x e ≡ true → object_has x o ≡ true → Shows x (attempt (write_refusals x e bytes) x (write x e bytes)).1 o now now
write_stays (pipe p) First o bytes now ne h k = covers_self _ 0
write_stays (pipe p) Second First bytes now ne h k = unless_stays (first (write_refusals (pipe p) Second bytes)) (pipe p) (write (pipe p) Second bytes) First now (pipe_writer p _)
write_stays (pipe p) Second Second bytes now ne h k = absurd (ne refl)
write_stays (pair p) e o bytes now ne h k = unless_stays (first (write_refusals (pair p) e bytes)) (pair p) (write (pair p) e bytes) o now (pair_writes p e o bytes ne)
write_stays x e o bytes now ne h k = one_end e o ne h k

peek_stays : (x : Object) (e o : End) (n now : ℕ) → e ≢ o → object_has x e ≡ true → object_has x o ≡ true → Shows x (peek x e n).1 o now now
peek_stays (pair p) e o n now ne h k = pair_peeks p e o n ne
peek_stays (idle i) e o n now ne h k = one_end e o ne h k
peek_stays x e o n now ne h k = covers_self _ 0

shutdown_stays : (x : Object) (e o : End) (how : How) (now : ℕ) → e ≢ o → Shows x (shutdown x e how).1 o now now
shutdown_stays (pair p) e o how now ne = pair_shuts p e o how ne
shutdown_stays x e o how now ne = covers_self _ 0

error_stays : (x : Object) (e o : End) (now : ℕ) → e ≢ o → object_has x e ≡ true → object_has x o ≡ true → Shows x (take_error x e).1 o now now
error_stays (pair p) e o now ne h k = pair_fails p e o ne
error_stays (idle i) e o now ne h k = one_end e o ne h k
error_stays x e o now ne h k = covers_self _ 0

name_stays : (x : Object) (e o : End) (of_peer : Bool) (now : ℕ) → Shows x (name_of x e of_peer).1 o now now
name_stays (pair p) e o of_peer now = covers_self _ 0
name_stays x e o of_peer now = covers_self _ 0

-- a name is not shown
bind_stays : (x : Object) (found : Option Name) (o : End) (now : ℕ) → Shows x (bind x found).1 o now now
bind_stays (idle i) found o now = covers_self _ 0
bind_stays x found o now = covers_self _ 0

-- a socket that comes to listen has the called end alone
listen_stays : (x : Object) (backlog : ℤ) (found : Option Name) (e o : End) (now : ℕ) → e ≢ o → object_has x e ≡ true → object_has x o ≡ true → Shows x (listen x backlog found).1 o now now
listen_stays (idle i) backlog found e o now ne h k = one_end e o ne h k
listen_stays x backlog found e o now ne h k = covers_self _ 0

connect_stays : (x : Object) (found : Option Name) (e o : End) (now : ℕ) → e ≢ o → object_has x e ≡ true → object_has x o ≡ true → Shows x (connect x found).1 o now now
connect_stays (idle i) found e o now ne h k = one_end e o ne h k
connect_stays x found e o now ne h k = covers_self _ 0

settime_stays : (x : Object) (e o : End) (absolute : Bool) (value interval now : ℕ) → e ≢ o → object_has x e ≡ true → object_has x o ≡ true → Shows x (settime x absolute value interval now).1 o now now
settime_stays (timer t) e o absolute value interval now ne h k = one_end e o ne h k
settime_stays x e o absolute value interval now ne h k = covers_self _ 0

gettime_stays : (x : Object) (o : End) (now : ℕ) → Shows x (gettime x now).1 o now now
gettime_stays plain o now = covers_self _ 0
gettime_stays x o now = covers_self _ 0

-- any call, at the other end
pub call_stays : (x : Object) (e o : End) (now : ℕ) (asked : ObjectCall) → e ≢ o → object_has x e ≡ true → object_has x o ≡ true → Shows x (attempt (object_refusals x e now asked) x (object_effect x e now asked)).1 o now now
call_stays x e o now (reads n) ne h k = read_stays x e o n now ne h k
call_stays x e o now (writes bytes) ne h k = write_stays x e o bytes now ne h k
call_stays x e o now (peeks n) ne h k = unless_stays (first (object_refusals x e now (peeks n))) x (peek x e n) o now (peek_stays x e o n now ne h k)
call_stays x e o now (shuts_down how) ne h k = unless_stays (first (object_refusals x e now (shuts_down how))) x (shutdown x e how) o now (shutdown_stays x e o how now ne)
call_stays x e o now takes_error ne h k = unless_stays (first (object_refusals x e now takes_error)) x (take_error x e) o now (error_stays x e o now ne h k)
call_stays x e o now (asks_name of_peer) ne h k = unless_stays (first (object_refusals x e now (asks_name of_peer))) x (name_of x e of_peer) o now (name_stays x e o of_peer now)
call_stays x e o now (binds space found) ne h k = unless_stays (first (object_refusals x e now (binds space found))) x (bind x found) o now (bind_stays x found o now)
call_stays x e o now (listens backlog found) ne h k =
    unless_stays (first (object_refusals x e now (listens backlog found))) x (listen x backlog found) o now (listen_stays x backlog found e o now ne h k)
call_stays x e o now (connects space found heard) ne h k =
    unless_stays (first (object_refusals x e now (connects space found heard))) x (connect x found) o now (connect_stays x found e o now ne h k)
call_stays x e o now (sets_time absolute value interval) ne h k =
    unless_stays (first (object_refusals x e now (sets_time absolute value interval))) x (settime x absolute value interval now) o now (settime_stays x e o absolute value interval now ne h k)
call_stays x e o now asks_time ne h k = unless_stays (first (object_refusals x e now asks_time)) x (gettime x now) o now (gettime_stays x o now)

-- Closes.
pub close_stays : (x : Object) (e o : End) (now : ℕ) → Shows x (close_end x e).0 o now now
close_stays (pipe p) First Second now = or_stays _ _ _ _ (covers_self _ 0) (or_stays _ _ _ _ (when_stays true (not p.has_reader) ERR (λ h. refl)) (covers_self _ 0))
close_stays (pipe p) Second First now = or_stays _ _ _ _ (covers_self _ 0) (or_stays _ _ _ _ (when_stays true (not p.has_writer) HUP (λ h. refl)) (covers_self _ 0))
close_stays (pair p) e o now = pair_closes p e o
close_stays x e o now = covers_self _ 0

-- The clock.
div_grows : (a b k : ℕ) → 0 < k → a ≤ b → a / k ≤ b / k
div_grows a b k some le = let part = div-mul-le_self a k in le-div (a / k) b k some (omega (arith, part, le))

expirations_grow : (moment : Option ℕ) (interval old new : ℕ) → old ≤ new → expirations_from moment interval old ≤ expirations_from moment interval new
expirations_grow None interval old new le = omega arith
expirations_grow (Some m) interval old new le = by (nat_lt old m) (nat_lt new m) (interval == 0) refl refl refl where
  by : (a b z : Bool) → nat_lt old m ≡ a → nat_lt new m ≡ b → (interval == 0) ≡ z
      → (if a then 0 else (if z then 1 else 1 + (old - m) / interval)) ≤ (if b then 0 else (if z then 1 else 1 + (new - m) / interval))
  by true true z p q r = omega arith
  by true false true p q r = omega arith
  by true false false p q r = omega arith
  by false true z p q r = let no : ⊥ = grind (arith, nat_tests, le, p, q) in absurd no
  by false false true p q r = omega arith
  by false false false p q r =
      let some : 0 < interval = grind (arith, nat_tests, r) in
      let grows = div_grows (old - m) (new - m) interval some (omega (arith, le)) in
      omega (arith, grows)

timer_stays : (t : Timer) (old new : ℕ) → old ≤ new → nat_lt 0 (unread t old) ≡ true → nat_lt 0 (unread t new) ≡ true
timer_stays t old new le h = let more = expirations_grow t.first_moment t.interval old new le in grind (arith, nat_tests, more, h)

pub clock_stays : (x : Object) (e : End) (old new : ℕ) → old ≤ new → Shows x x e old new
clock_stays (timer t) e old new le = when_stays _ _ IN (timer_stays t old new le)
clock_stays x e old new le = covers_self _ 0

-- The laws.
pub call_ends_here_only : CallEndsHereOnly
call_ends_here_only x e o now call ne h k = from_bits _ _ 0 (call_stays x e o now call ne h k)

pub close_ends_nothing : CloseEndsNothing
close_ends_nothing x e o now = from_bits _ _ 0 (close_stays x e o now)

pub clock_ends_nothing : ClockEndsNothing
clock_ends_nothing x e old new le = from_bits _ _ 0 (clock_stays x e old new le)
