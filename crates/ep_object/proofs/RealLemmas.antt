-- No call on an object is answered with want of memory.
use Rattle.std.proofs.Common.{◌≡◌, ◌++◌, ◌∷◌, [], ℕ, Bool, List, Option, false, refl, true, ℤ}
use Rattle.std.specs.Prelude.{if◌then◌else◌, ◌&&◌}
use Rattle.ep_base.specs.Answer.{is_no_memory}
use Rattle.ep_base.specs.declared.answer.Answer.TheVariants.{Refused}
use Rattle.ep_base.specs.declared.errno.Errno.{Errno}
use Rattle.ep_base.specs.declared.object.End.{End}
use Rattle.ep_base.specs.declared.object.End.TheVariants.{First, Second}
use Rattle.ep_base.specs.declared.socket.Family.{Family}
use Rattle.ep_base.specs.declared.socket.Family.TheVariants.{Tcp, Unix}
use Rattle.ep_base.specs.declared.socket.How.{How}
use Rattle.ep_base.specs.declared.socket.Hearing.{Hearing}
use Rattle.ep_base.specs.declared.socket.Name.{Name}
use Rattle.ep_base.specs.declared.socket.Space.{Space}
use Rattle.ep_machine.specs.Effect.{Effect, attempt, first, unless}
use Rattle.ep_machine.specs.Objects.{Object, ObjectCall, asks_name, asks_time, bind, bind_refusals, binds, connect, connect_refusals, connects, counter, idle, gettime, instance, name_of, name_refusals, object_effect, object_refusals, pair, peek, peeks, pipe, plain, read, read_refusals, reads, sets_time, settime, shutdown, shutdown_refusals, shuts_down, take_error, takes_error, timer, write, write_refusals, writes, listen_refusals, listener, listens, listen}
use Rattle.ep_machine.specs.Sockets.{SocketPair, failed, fails_reading, wants_more}
use Rattle.ep_machine.specs.Unconnected.{Idle, connect_refusals_of, family_refusals, unread_error, unwritten_error}
use Rattle.ep_object.proofs.AnswerLemmas.{by_write}
use Rattle.ep_object.proofs.IdleLemmas.{by_connect, by_read}
use Rattle.ep_machine.specs.Listening.{listener_connect_refusals}

-- none of these errors is that
abbrev AreReal : List (Bool × Errno) → Type 0
AreReal [] = Unit {0}
AreReal ((b, e) ∷ rest) = (is_no_memory (Refused e) ≡ false) × AreReal rest

real_unless : (tests : List (Bool × Errno)) (x : Object) (f : Effect Object) → AreReal tests → is_no_memory f.0 ≡ false → is_no_memory (unless (first tests) x f).0 ≡ false
real_unless [] x f all h = h
real_unless ((true, e) ∷ rest) x f all h = all.0
real_unless ((false, e) ∷ rest) x f all h = real_unless rest x f all.1 h

read_error_real : (family : Family) → is_no_memory (Refused (unread_error family)) ≡ false
read_error_real Tcp = refl
read_error_real Unix = refl

write_error_real : (family : Family) → is_no_memory (Refused (unwritten_error family)) ≡ false
write_error_real Tcp = refl
write_error_real Unix = refl

family_real : (family : Family) (space : Space) (rest : List (Bool × Errno)) → AreReal rest → AreReal (family_refusals family space ++ rest)
family_real Tcp space rest all = (refl, all)
family_real Unix space rest all = (refl, all)

read_refusals_real : (x : Object) (e : End) (n now : ℕ) → AreReal (read_refusals x e n now)
read_refusals_real plain e n now = tt
read_refusals_real (pipe p) First n now = (refl, tt)
read_refusals_real (pipe p) Second n now = (refl, tt)
read_refusals_real (pair p) e n now = (refl, tt)
read_refusals_real (idle i) e n now = (read_error_real i.family, tt)
read_refusals_real (listener l) e n now = (read_error_real l.family, tt)
read_refusals_real (counter c) e n now = (refl, (refl, tt))
read_refusals_real (timer t) e n now = (refl, (refl, tt))
read_refusals_real instance e n now = (refl, tt)

write_refusals_real : (x : Object) (e : End) (bytes : List ℕ) → AreReal (write_refusals x e bytes)
write_refusals_real plain e bytes = tt
write_refusals_real (pipe p) First bytes = (refl, tt)
write_refusals_real (pipe p) Second [] = tt
write_refusals_real (pipe p) Second (b ∷ bs) = (refl, (refl, tt))
write_refusals_real (pair p) e [] = tt
write_refusals_real (pair p) e (b ∷ bs) = (refl, (refl, tt))
write_refusals_real (idle i) e bytes = (write_error_real i.family, tt)
write_refusals_real (listener l) e bytes = (write_error_real l.family, tt)
write_refusals_real (counter c) e bytes = (refl, (refl, (refl, tt)))
write_refusals_real (timer t) e bytes = (refl, tt)
write_refusals_real instance e bytes = (refl, tt)

shutdown_refusals_real : (x : Object) (e : End) → AreReal (shutdown_refusals x e)
shutdown_refusals_real (pair p) e = (refl, tt)
shutdown_refusals_real x e = (refl, tt)

name_refusals_real : (x : Object) (e : End) (of_peer : Bool) → AreReal (name_refusals x e of_peer)
name_refusals_real (pair p) e of_peer = (refl, tt)
name_refusals_real x e of_peer = (refl, tt)

bind_refusals_real : (x : Object) (space : Space) (found : Option Name) → AreReal (bind_refusals x space found)
bind_refusals_real (pair p) space found = family_real p.family space _ (refl, tt)
bind_refusals_real (idle i) space found = family_real i.family space _ (refl, (refl, tt))
bind_refusals_real (listener l) space found = family_real l.family space _ (refl, tt)
bind_refusals_real x space found = tt

listen_refusals_real : (x : Object) (found : Option Name) → AreReal (listen_refusals x found)
listen_refusals_real (pair p) found = (refl, tt)
listen_refusals_real (idle i) found = (refl, (refl, (refl, tt)))
listen_refusals_real x found = tt

idle_connect_real : (i : Idle) (family : Family) (space : Space) (found : Option Name) (heard : Hearing) → AreReal (connect_refusals_of family i space found heard)
idle_connect_real i Tcp space found heard = (refl, (refl, (refl, tt)))
idle_connect_real i Unix space found heard = (refl, (refl, (refl, (refl, tt))))

listener_connect_real : (family : Family) (space : Space) (heard : Hearing) → AreReal (listener_connect_refusals family space heard)
listener_connect_real Tcp space heard = (refl, tt)
listener_connect_real Unix space heard = (refl, (refl, (refl, (refl, tt))))

connect_refusals_real : (x : Object) (space : Space) (found : Option Name) (heard : Hearing) → AreReal (connect_refusals x space found heard)
connect_refusals_real (pair p) space found heard = (refl, (refl, (refl, (refl, tt))))
connect_refusals_real (idle i) space found heard = idle_connect_real i i.family space found heard
connect_refusals_real (listener l) space found heard = listener_connect_real l.family space heard
connect_refusals_real x space found heard = tt

refusals_real : (x : Object) (e : End) (now : ℕ) (asked : ObjectCall) → AreReal (object_refusals x e now asked)
refusals_real x e now (reads n) = read_refusals_real x e n now
refusals_real x e now (writes bytes) = write_refusals_real x e bytes
refusals_real x e now (peeks n) = (refl, read_refusals_real x e n now)
refusals_real x e now (shuts_down how) = (refl, shutdown_refusals_real x e)
refusals_real x e now takes_error = (refl, tt)
refusals_real x e now (asks_name of_peer) = (refl, name_refusals_real x e of_peer)
refusals_real x e now (binds space found) = (refl, bind_refusals_real x space found)
refusals_real x e now (listens backlog found) = (refl, listen_refusals_real x found)
refusals_real x e now (connects space found heard) = (refl, connect_refusals_real x space found heard)
refusals_real x e now (sets_time absolute value interval) = (refl, (refl, tt))
refusals_real x e now asks_time = (refl, tt)

-- What isn't refused.
by_if : (b : Bool) (f g : Effect SocketPair) → is_no_memory f.0 ≡ false → is_no_memory g.0 ≡ false → is_no_memory (if b then f else g).0 ≡ false
by_if true f g h i = h
by_if false f g h i = i

abbrev IsReal : Effect Idle → Type 0
IsReal f = is_no_memory f.0 ≡ false

read_real : (x : Object) (e : End) (n now : ℕ) → is_no_memory (read x e n now).0 ≡ false
read_real (pair p) e n now = by_if (wants_more p e n && fails_reading p e) (failed p e) _ refl refl
read_real (idle i) e n now = by_read i IsReal (λ e. refl) n refl
read_real x e n now = refl

peek_real : (x : Object) (e : End) (n : ℕ) → is_no_memory (peek x e n).0 ≡ false
peek_real (pair p) e n = by_if (wants_more p e n && fails_reading p e) (failed p e) _ refl refl
peek_real (idle i) e n = by_read i IsReal (λ e. refl) n refl
peek_real x e n = refl

write_real : (x : Object) (e : End) (bytes : List ℕ) → is_no_memory (write x e bytes).0 ≡ false
write_real x e bytes = by_write (λ a. is_no_memory a ≡ false) (λ k. refl) (λ error. refl) refl x e bytes

shutdown_real : (x : Object) (e : End) (how : How) → is_no_memory (shutdown x e how).0 ≡ false
shutdown_real (pair p) e how = refl
shutdown_real x e how = refl

error_real : (x : Object) (e : End) → is_no_memory (take_error x e).0 ≡ false
error_real (pair p) e = refl
error_real x e = refl

name_real : (x : Object) (e : End) (of_peer : Bool) → is_no_memory (name_of x e of_peer).0 ≡ false
name_real (pair p) e of_peer = refl
name_real x e of_peer = refl

bind_real : (x : Object) (found : Option Name) → is_no_memory (bind x found).0 ≡ false
bind_real (idle i) found = refl
bind_real x found = refl

listen_real : (x : Object) (backlog : ℤ) (found : Option Name) → is_no_memory (listen x backlog found).0 ≡ false
listen_real (idle i) backlog found = refl
listen_real x backlog found = refl

connect_real : (x : Object) (found : Option Name) → is_no_memory (connect x found).0 ≡ false
connect_real (idle i) found = by_connect i IsReal found refl refl refl
connect_real x found = refl

settime_real : (x : Object) (absolute : Bool) (value interval now : ℕ) → is_no_memory (settime x absolute value interval now).0 ≡ false
settime_real (timer t) absolute value interval now = refl
settime_real x absolute value interval now = refl

gettime_real : (x : Object) (now : ℕ) → is_no_memory (gettime x now).0 ≡ false
gettime_real (timer t) now = refl
gettime_real x now = refl

effect_real : (x : Object) (e : End) (now : ℕ) (asked : ObjectCall) → is_no_memory (object_effect x e now asked).0 ≡ false
effect_real x e now (reads n) = read_real x e n now
effect_real x e now (writes bytes) = write_real x e bytes
effect_real x e now (peeks n) = peek_real x e n
effect_real x e now (shuts_down how) = shutdown_real x e how
effect_real x e now takes_error = error_real x e
effect_real x e now (asks_name of_peer) = name_real x e of_peer
effect_real x e now (binds space found) = bind_real x found
effect_real x e now (listens backlog found) = listen_real x backlog found
effect_real x e now (connects space found heard) = connect_real x found
effect_real x e now (sets_time absolute value interval) = settime_real x absolute value interval now
effect_real x e now asks_time = gettime_real x now

pub answer_real : (x : Object) (e : End) (now : ℕ) (asked : ObjectCall) → is_no_memory (attempt (object_refusals x e now asked) x (object_effect x e now asked)).0 ≡ false
answer_real x e now asked = real_unless (object_refusals x e now asked) x (object_effect x e now asked) (refusals_real x e now asked) (effect_real x e now asked)
