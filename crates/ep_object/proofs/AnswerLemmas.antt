-- How many bytes a call on an object gives, and when it is not refused.
use Rattle.std.proofs.Common.{◌≡◌, ◌≤◌, ◌<◌, ◌&&◌, ◌==◌, ◌∷◌, [], ℕ, Bool, List, None, Option, ap, arith, false, length, max, min, nat_lt, not, refl, subst, sym, take, true}
use Rattle.std.specs.Prelude.{if◌then◌else◌}
use Rattle.std.proofs.lemmas.Bool.{ltb-false}
use Rattle.std.proofs.lemmas.List.{length-take}
use Rattle.std.proofs.lemmas.Option.{none-some}
use Rattle.ep_base.specs.declared.errno.Errno.{Errno}
use Rattle.ep_base.specs.declared.errno.Errno.TheVariants.{Eagain, Einval}
use Rattle.ep_base.specs.declared.object.End.{End}
use Rattle.ep_base.specs.declared.socket.Name.{Name}
use Rattle.ep_base.specs.declared.object.End.TheVariants.{First, Second}
use Rattle.ep_machine.specs.Effect.{first}
use Rattle.ep_machine.specs.Lists.{is_empty}
use Rattle.ep_machine.specs.Effect.{Effect}
use Rattle.ep_machine.specs.Objects.{Object, ObjectCall, connect, connects, counter, idle, instance, listener, object_effect, object_refusals, of_socket, pair, peek, peeks, pipe, plain, read, read_refusals, reads, write, writes}
use Rattle.ep_machine.specs.Objects.{timer}
use Rattle.ep_machine.specs.Sockets.{SocketPair, comes_back, comes_no_more, failed, fails_reading, fails_writing, own, peer, wants_more}
use Rattle.ep_machine.specs.Timer.{unread}
use Rattle.ep_object.proofs.IdleLemmas.{by_connect, by_read, by_write as by_idle_write}
use Rattle.ep_object.specs.Memory.{GivesAtMost, asked_of, object_waiting}
use Rattle.ep_stream.proofs.PairClosed.{either}
use Rattle.ep_base.specs.declared.answer.Answer.{Answer}
use Rattle.ep_base.specs.declared.answer.Answer.TheVariants.{Bytes, Done, Failed, Num}

-- What is given.
past_first : (b : Bool) (e : Errno) (rest : List (Bool × Errno)) → first ((b, e) ∷ rest) ≡ None → b ≡ false
past_first true e rest h = absurd (none-some e (sym h))
past_first false e rest h = refl

-- the bytes that are taken from a queue
taken_few : (n : ℕ) (xs : List ℕ) → length (take n xs) ≤ min n (max 16 (length xs))
taken_few n xs = omega (arith, length-take n xs)

-- the 8 bytes of a number, if there is room for them
number_few : (n : ℕ) (rest : List (Bool × Errno)) → first ((nat_lt n 8, Einval) ∷ rest) ≡ None → 8 ≤ min n (max 16 0)
number_few n rest h = let room = ltb-false n 8 (past_first (nat_lt n 8) Einval rest h) in omega (arith, room)

-- a read or a peek of a pair, which may fail in place of giving
pair_few : (p : SocketPair) (e : End) (n : ℕ) (f : Effect SocketPair) → f.0 ≡ Bytes (take n (own p e).queue)
    → GivesAtMost (min n (max 16 (length (own p e).queue))) (if wants_more p e n && fails_reading p e then failed p e else f).0
pair_few p e n f is =
    either (λ (g : Effect SocketPair). GivesAtMost (min n (max 16 (length (own p e).queue))) g.0) (wants_more p e n && fails_reading p e) (failed p e) f tt
    (subst (GivesAtMost (min n (max 16 (length (own p e).queue)))) (sym is) (taken_few n (own p e).queue))

read_few : (x : Object) (e : End) (n now : ℕ) → first (read_refusals x e n now) ≡ None → GivesAtMost (min n (max 16 (object_waiting x e (reads n)))) (read x e n now).0
read_few plain e n now h = omega arith
read_few (pipe p) First n now h = taken_few n p.bytes
read_few (pipe p) Second n now h = absurd (none-some _ (sym h))
read_few (pair p) e n now h = pair_few p e n _ refl
read_few (idle i) e n now h = by_read i (λ f. GivesAtMost (min n (max 16 0)) f.0) (λ e. tt) n (omega arith)
read_few (listener l) e n now h = omega arith
read_few (counter c) e n now h = number_few n ((c.count == 0, Eagain) ∷ []) h
read_few (timer t) e n now h = number_few n ((unread t now == 0, Eagain) ∷ []) h
read_few instance e n now h = tt

peek_few : (x : Object) (e : End) (n now : ℕ) → first (of_socket x (read_refusals x e n now)) ≡ None → GivesAtMost (min n (max 16 (object_waiting x e (peeks n)))) (peek x e n).0
peek_few (pair p) e n now h = pair_few p e n _ refl
peek_few (idle i) e n now h = by_read i (λ f. GivesAtMost (min n (max 16 0)) f.0) (λ e. tt) n (omega arith)
peek_few (listener l) e n now h = omega arith
peek_few x e n now h = tt

-- a write is answered by a number, or by the error that waited, of whatever kind the object is
pub by_write : (P : Answer → Type 0) → ((k : ℕ) → P (Num k)) → ((error : Errno) → P (Failed error)) → P Done → (x : Object) (e : End) (bytes : List ℕ) → P (write x e bytes).0
by_write P number fails done (pair p) e bytes =
    one_of (is_empty bytes) _ _ (number _) (one_of (fails_writing p e) (failed p e) _ (fails _) (one_of (comes_back p e) _ _ (number _) (number _))) where
      one_of : (b : Bool) (f g : Effect SocketPair) → P f.0 → P g.0 → P (if b then f else g).0
      one_of b f g = either (λ (h : Effect SocketPair). P h.0) b f g
by_write P number fails done (idle i) e bytes = by_idle_write i (λ f. P f.0) fails bytes (number _)
by_write P number fails done (listener l) e bytes = number _
by_write P number fails done plain e bytes = number _
by_write P number fails done (pipe p) e bytes = number _
by_write P number fails done (counter c) e bytes = number _
by_write P number fails done (timer t) e bytes = done
by_write P number fails done instance e bytes = done

write_few : (x : Object) (e : End) (bytes : List ℕ) (most : ℕ) → GivesAtMost most (write x e bytes).0
write_few x e bytes most = by_write (GivesAtMost most) (λ k. tt) (λ error. tt) tt x e bytes

connect_few : (x : Object) (found : Option Name) (most : ℕ) → GivesAtMost most (connect x found).0
connect_few (idle i) found most = by_connect i (λ f. GivesAtMost most f.0) found tt tt tt
connect_few x found most = tt

pub gives_few : (x : Object) (e : End) (now : ℕ) (asked : ObjectCall) → first (object_refusals x e now asked) ≡ None → GivesAtMost (min (asked_of asked) (max 16 (object_waiting x e asked))) (object_effect x e now asked).0
gives_few x e now (reads n) h = read_few x e n now h
gives_few x e now (peeks n) h = peek_few x e n now h
gives_few x e now (writes bytes) h = write_few x e bytes _
gives_few x e now (connects space found heard) h = connect_few x found _
gives_few plain e now asked h = tt
gives_few x e now asked h = tt

-- What is not refused.
filled : (bytes : List ℕ) (n : ℕ) → 0 < min n (length bytes) → is_empty bytes ≡ false
filled [] n h = absurd (omega (arith, h))
filled (b ∷ bs) n h = refl

not_again : (a empty b : Bool) → empty ≡ false → first ((a && empty && b, Eagain) ∷ []) ≡ None
not_again true empty b h = ap (λ (x : Bool). first ((x && b, Eagain) ∷ [])) h
not_again false empty b h = refl

not_starved : (a empty fails over : Bool) → empty ≡ false → first ((a && empty && fails && over, Eagain) ∷ []) ≡ None
not_starved true empty fails over h = ap (λ (x : Bool). first ((x && fails && over, Eagain) ∷ [])) h
not_starved false empty fails over h = refl

waiting_pair : (p : SocketPair) (e : End) (n : ℕ) → 0 < min n (length (own p e).queue) → first (read_refusals (pair p) e n 0) ≡ None
waiting_pair p e n h =
    not_starved (nat_lt 0 n) (is_empty (own p e).queue) (not (fails_reading p e)) (not (comes_no_more p.family (own p e) (peer p e))) (filled (own p e).queue n h)

waiting_read : (x : Object) (e : End) (now n : ℕ) → 0 < min n (object_waiting x e (reads n)) → first (read_refusals x e n now) ≡ None
waiting_read (pipe p) First now n h = not_again (nat_lt 0 n) (is_empty p.bytes) p.has_writer (filled p.bytes n h)
waiting_read (pair p) e now n h = waiting_pair p e n h
waiting_read x e now n h = absurd (omega (arith, h))

waiting_peek : (x : Object) (e : End) (now n : ℕ) → 0 < min n (object_waiting x e (peeks n)) → first (of_socket x (read_refusals x e n now)) ≡ None
waiting_peek (pair p) e now n h = waiting_pair p e n h
waiting_peek x e now n h = absurd (omega (arith, h))

pub waiting_is_given : (x : Object) (e : End) (now : ℕ) (asked : ObjectCall) → 0 < min (asked_of asked) (object_waiting x e asked) → first (object_refusals x e now asked) ≡ None
waiting_is_given x e now (reads n) h = waiting_read x e now n h
waiting_is_given x e now (peeks n) h = waiting_peek x e now n h
waiting_is_given x e now asked h = absurd (omega (arith, h))
