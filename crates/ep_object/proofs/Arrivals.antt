-- The law of what objects raise, from the laws of the kinds.
use Rattle.std.proofs.Common.{refl, Bool, List, None, Option, Some, [], ℕ, ◌∷◌, ℤ}
use Rattle.std.proofs.lemmas.Bool.{false≢true}
use Rattle.std.specs.Prelude.{not}
use Rattle.ep_base.specs.declared.errno.Errno.{Errno}
use Rattle.ep_base.specs.declared.answer.Answer.TheVariants.{Done, Bytes, Named, Num}
use Rattle.ep_base.specs.declared.errno.Errno.TheVariants.{Einval, Enotconn}
use Rattle.ep_base.specs.declared.object.End.TheVariants.{First, Second}
use Rattle.ep_base.specs.declared.object.End.{End}
use Rattle.ep_base.specs.declared.object.Raised.{Raised}
use Rattle.ep_base.specs.declared.answer.Answer.{Answer}
use Rattle.ep_base.specs.declared.socket.How.{How}
use Rattle.ep_base.specs.declared.socket.Hearing.{Hearing}
use Rattle.ep_base.specs.declared.socket.Name.{Name}
use Rattle.ep_base.specs.declared.socket.Space.{Space}
use Rattle.ep_counters.specs.Law.{CounterReadLaw, CounterWriteLaw, NextTellsAdvance, TimerAdvanceLaw, TimerReadLaw, TimerSettimeLaw}
use Rattle.ep_machine.specs.Bits.{IsCovered, at_end, nothing}
use Rattle.ep_machine.specs.Counters.{counter_present, counter_read, counter_read_refusals, counter_write, counter_write_refusals}
use Rattle.ep_machine.specs.Effect.{Effect, attempt, first, unless}
use Rattle.ep_machine.specs.Objects.{Object, asks_name, asks_time, bind, bind_refusals, binds, connect, connect_refusals, connects, counter, effect_on, listener, listens, listen_refusals, listening, listen}
use Rattle.ep_machine.specs.Objects.{gettime, idle, instance, is_timer, name_of, name_refusals, object_present}
use Rattle.ep_machine.specs.Objects.{of_socket, pair, peek, peeks, pipe, plain, read, read_refusals, reads, sets_time, settime, shutdown, shutdown_refusals}
use Rattle.ep_machine.specs.Objects.{shuts_down, take_error, takes_error, timer, write, write_refusals, writes}
use Rattle.ep_machine.specs.Pipe.{pipe_present, pipe_read, pipe_read_refusals, pipe_write, pipe_write_refusals}
use Rattle.ep_machine.specs.Sockets.{pair_name, pair_name_refusals, pair_peek, pair_present, pair_read, pair_read_refusals, pair_shut_refusals, pair_shutdown}
use Rattle.ep_machine.specs.Sockets.{pair_write, pair_write_refusals}
use Rattle.ep_machine.specs.Timer.{timer_present, timer_read, timer_read_refusals, timer_set_refusals, timer_settime}
use Rattle.ep_machine.specs.Unconnected.{Idle, idle_bind, idle_bind_refusals, idle_connect, idle_connect_refusals, idle_name, idle_present, idle_read, name_or}
use Rattle.ep_machine.specs.Unconnected.{idle_read_refusals, idle_take_error, idle_write, idle_write_refusals}
use Rattle.ep_object.proofs.IdleLemmas.{Raises, connect_raises, read_raises, stays_raises, take_raises, unless_raises, write_raises}
use Rattle.ep_object.specs.Law.{AdvanceLaw, ApplyLaw, CloseLaw, is_first, object_has, present_at}
use Rattle.ep_stream.proofs.Arrivals.{attempted, unchanged}
use Rattle.ep_stream.specs.Law.{PairCloseLaw, PairErrorLaw, PairPeekLaw, PairReadLaw, PairShutdownLaw, PairWriteLaw, PipeCloseLaw, PipeReadLaw, PipeWriteLaw, RaisesArrivals, pair_has}
use Rattle.ep_machine.specs.Listening.{listener_read_refusals, listener_write_refusals, idle_listen_refusals, listener_present}

-- what an event leaves as it was raises enough
stays : (now : ℕ) (x : Object) (raised : Raised) → RaisesArrivals object_has (present_at now) x x raised
stays now x raised = λ e before after. unchanged (object_present x e now) (at_end raised e)

-- a law of the ends of a kind is one of the object
within : {X : Type 0} (wrap : X → Object) (now : ℕ) (x : X) (f : Effect X) (refusal : Option Errno) → RaisesArrivals (λ y. object_has (wrap y)) (λ y. present_at now (wrap y)) x (unless refusal x f).1 (unless refusal x f).2 → RaisesArrivals object_has (present_at now) (wrap x) (unless refusal (wrap x) (effect_on wrap f)).1 (unless refusal (wrap x) (effect_on wrap f)).2
within wrap now x f None law = law
within wrap now x f (Some e) law = law

-- so is a law of the one end that a kind has
alone : {X : Type 0} (present : X → ℕ) (x y : X) (raised : Raised) → IsCovered (present x) (present y) (at_end raised First) → RaisesArrivals (λ (z : X). is_first) (λ z e. present z) x y raised
alone present x y raised law First before after = law
alone present x y raised law Second before after = absurd (false≢true before)

-- a socket without a connection has the first end alone
idle_law : (now : ℕ) (i : Idle) (refusals : List (Bool × Errno)) (f : Effect Idle) → Raises i f
    → RaisesArrivals object_has (present_at now) (idle i) (attempt refusals (idle i) (effect_on idle f)).1 (attempt refusals (idle i) (effect_on idle f)).2
idle_law now i refusals f law =
    let made = attempt refusals i f in
    within idle now i f (first refusals) (alone idle_present i made.1 made.2 (unless_raises i (first refusals) f law))

-- refused or not, the object stays
kept_law : (now : ℕ) (x : Object) (answer : Answer) (refusal : Option Errno)
    → RaisesArrivals object_has (present_at now) x (unless refusal x (answer, x, nothing)).1 (unless refusal x (answer, x, nothing)).2
kept_law now x answer None = stays now x nothing
kept_law now x answer (Some e) = stays now x nothing

-- each call on an object, from the laws of the kinds that answer it
abbrev CallLaw : (Object → List (Bool × Errno)) → (Object → Effect Object) → ℕ → Type 0
CallLaw refusals effect now = (x : Object) → let made = attempt (refusals x) x (effect x) in RaisesArrivals object_has (present_at now) x made.1 made.2

read_law : PipeReadLaw → PairReadLaw → CounterReadLaw → TimerReadLaw → (e : End) (n now : ℕ) → CallLaw (λ x. read_refusals x e n now) (λ x. read x e n now) now
read_law pipes pairs counters timers e n now plain = stays now plain nothing
read_law pipes pairs counters timers e n now (pipe p) = within pipe now p (pipe_read p n) (first (pipe_read_refusals p e n)) (pipes p e n)
read_law pipes pairs counters timers e n now (pair p) = within pair now p (pair_read p e n) (first (pair_read_refusals p e n)) (pairs p e n)
read_law pipes pairs counters timers e n now (idle i) = idle_law now i (idle_read_refusals i n) (idle_read i n) (read_raises i n)
read_law pipes pairs counters timers e n now (listener l) = kept_law now (listener l) (Bytes []) (first (listener_read_refusals l n))
read_law pipes pairs counters timers e n now (counter c) =
    let made = attempt (counter_read_refusals c n) c (counter_read c) in
    within counter now c (counter_read c) (first (counter_read_refusals c n)) (alone counter_present c made.1 made.2 (counters c n))
read_law pipes pairs counters timers e n now (timer t) =
    let made = attempt (timer_read_refusals t n now) t (timer_read t now) in
    within timer now t (timer_read t now) (first (timer_read_refusals t n now)) (alone (λ y. timer_present y now) t made.1 made.2 (timers t now n))
read_law pipes pairs counters timers e n now instance = stays now instance nothing

write_law : PipeWriteLaw → PairWriteLaw → CounterWriteLaw → (e : End) (bytes : List ℕ) (now : ℕ) → CallLaw (λ x. write_refusals x e bytes) (λ x. write x e bytes) now
write_law pipes pairs counters e bytes now (pipe p) = within pipe now p (pipe_write p bytes) (first (pipe_write_refusals p e bytes)) (pipes p e bytes)
write_law pipes pairs counters e bytes now (pair p) = within pair now p (pair_write p e bytes) (first (pair_write_refusals p e bytes)) (pairs p e bytes)
write_law pipes pairs counters e bytes now (idle i) = idle_law now i (idle_write_refusals i bytes) (idle_write i bytes) (write_raises i bytes)
write_law pipes pairs counters e bytes now (listener l) = kept_law now (listener l) (Num 0) (first (listener_write_refusals l bytes))
write_law pipes pairs counters e bytes now (counter c) =
    let made = attempt (counter_write_refusals c bytes) c (counter_write c bytes) in
    within counter now c (counter_write c bytes) (first (counter_write_refusals c bytes)) (alone counter_present c made.1 made.2 (counters c bytes))
write_law pipes pairs counters e bytes now x = stays now x nothing

-- what only sockets answer
peek_law : PairPeekLaw → (e : End) (n now : ℕ) → CallLaw (λ x. of_socket x (read_refusals x e n now)) (λ x. peek x e n) now
peek_law pairs e n now (pair p) = within pair now p (pair_peek p e n) (first (pair_read_refusals p e n)) (pairs p e n)
peek_law pairs e n now (idle i) = idle_law now i (idle_read_refusals i n) (idle_read i n) (read_raises i n)
peek_law pairs e n now (listener l) = kept_law now (listener l) (Bytes []) (first (of_socket (listener l) (read_refusals (listener l) e n now)))
peek_law pairs e n now x = stays now x nothing

shutdown_law : PairShutdownLaw → (e : End) (how : How) (now : ℕ) → CallLaw (λ x. of_socket x (shutdown_refusals x e)) (λ x. shutdown x e how) now
shutdown_law pairs e how now (pair p) =
    within pair now p (pair_shutdown p e how) (first (pair_shut_refusals p e)) (attempted pair_has pair_present p (pair_shutdown p e how) (pair_shut_refusals p e) (pairs p e how))
shutdown_law pairs e how now x = stays now x nothing

error_law : PairErrorLaw → (e : End) (now : ℕ) → CallLaw (λ x. of_socket x []) (λ x. take_error x e) now
error_law pairs e now (pair p) = pairs p e
error_law pairs e now (idle i) = idle_law now i [] (idle_take_error i) (take_raises i)
error_law pairs e now x = stays now x nothing

name_law : (e : End) (of_peer : Bool) (now : ℕ) → CallLaw (λ x. of_socket x (name_refusals x e of_peer)) (λ x. name_of x e of_peer) now
name_law e of_peer now (pair p) =
    within pair now p (pair_name p e of_peer) (first (pair_name_refusals p e of_peer)) (attempted pair_has pair_present p (pair_name p e of_peer) (pair_name_refusals p e of_peer) (λ o before after. unchanged (pair_present p o) (at_end nothing o)))
name_law e of_peer now (idle i) = idle_law now i ((of_peer, Enotconn) ∷ []) (idle_name i) (stays_raises i)
name_law e of_peer now (listener l) = kept_law now (listener l) (Named (Some l.name)) (first (of_socket (listener l) (name_refusals (listener l) e of_peer)))
name_law e of_peer now x = stays now x nothing

bind_law : (space : Space) (found : Option Name) (now : ℕ) → CallLaw (λ x. of_socket x (bind_refusals x space found)) (λ x. bind x found) now
bind_law space found now (pair p) = kept_law now (pair p) Done (first (of_socket (pair p) (bind_refusals (pair p) space found)))
bind_law space found now (idle i) = idle_law now i (idle_bind_refusals i space found) (idle_bind i found) (stays_raises i)
bind_law space found now (listener l) = kept_law now (listener l) Done (first (of_socket (listener l) (bind_refusals (listener l) space found)))
bind_law space found now x = stays now x nothing

-- where nothing holds afterwards, nothing has begun
none_begin : (before raised : ℕ) → IsCovered before 0 raised
none_begin before raised = refl

-- a listener shows nothing, so nothing begins to hold where a socket comes to listen
listens_law : (now : ℕ) (i : Idle) (backlog : ℤ) (name : Option Name) (refusal : Option Errno) → let made = unless refusal (idle i) (Done, listening i backlog name, nothing) in
    RaisesArrivals object_has (present_at now) (idle i) made.1 made.2
listens_law now i backlog name (Some e) = stays now (idle i) nothing
listens_law now i backlog None None = stays now (idle i) nothing
listens_law now i backlog (Some name) None = λ e before after. none_begin (idle_present i) (at_end nothing e)

listen_law : (backlog : ℤ) (found : Option Name) (now : ℕ) → CallLaw (λ x. of_socket x (listen_refusals x found)) (λ x. listen x backlog found) now
listen_law backlog found now (pair p) = kept_law now (pair p) Done (first (of_socket (pair p) (listen_refusals (pair p) found)))
listen_law backlog found now (idle i) = listens_law now i backlog (name_or i.name found) (first (idle_listen_refusals i found))
listen_law backlog found now (listener l) = λ e before after. unchanged (listener_present l) (at_end nothing e)
listen_law backlog found now x = stays now x nothing

connect_law : (space : Space) (found : Option Name) (heard : Hearing) (now : ℕ) → CallLaw (λ x. of_socket x (connect_refusals x space found heard)) (λ x. connect x found) now
connect_law space found heard now (pair p) = kept_law now (pair p) Done (first (of_socket (pair p) (connect_refusals (pair p) space found heard)))
connect_law space found heard now (idle i) = idle_law now i (idle_connect_refusals i space found heard) (idle_connect i found) (connect_raises i found)
connect_law space found heard now (listener l) = kept_law now (listener l) Done (first (of_socket (listener l) (connect_refusals (listener l) space found heard)))
connect_law space found heard now x = stays now x nothing

settime_law : TimerSettimeLaw → (absolute : Bool) (value interval now : ℕ) → CallLaw (λ x. (not (is_timer x), Einval) ∷ timer_set_refusals value interval) (λ x. settime x absolute value interval now) now
settime_law timers absolute value interval now (timer t) =
    let set = timer_settime t absolute value interval now in
    let made = attempt (timer_set_refusals value interval) t set in
    within timer now t set (first (timer_set_refusals value interval)) (alone (λ y. timer_present y now) t made.1 made.2 (timers t absolute value interval now))
settime_law timers absolute value interval now x = stays now x nothing

gettime_law : (now : ℕ) → CallLaw (λ x. (not (is_timer x), Einval) ∷ []) (λ x. gettime x now) now
gettime_law now plain = stays now plain nothing
gettime_law now x = stays now x nothing

-- the laws of the kinds
pub record Kinds : Type 0 where
  pub pipe_read : PipeReadLaw
  pub pipe_write : PipeWriteLaw
  pub pair_read : PairReadLaw
  pub pair_peek : PairPeekLaw
  pub pair_write : PairWriteLaw
  pub pair_shutdown : PairShutdownLaw
  pub pair_error : PairErrorLaw
  pub pipe_close : PipeCloseLaw
  pub pair_close : PairCloseLaw
  pub counter_read : CounterReadLaw
  pub counter_write : CounterWriteLaw
  pub timer_read : TimerReadLaw
  pub timer_settime : TimerSettimeLaw
  pub timer_advance : TimerAdvanceLaw
  pub timer_next : NextTellsAdvance

pub apply_law : Kinds → ApplyLaw
apply_law kinds x e now (reads n) = read_law kinds.pipe_read kinds.pair_read kinds.counter_read kinds.timer_read e n now x
apply_law kinds x e now (writes bytes) = write_law kinds.pipe_write kinds.pair_write kinds.counter_write e bytes now x
apply_law kinds x e now (peeks n) = peek_law kinds.pair_peek e n now x
apply_law kinds x e now (shuts_down how) = shutdown_law kinds.pair_shutdown e how now x
apply_law kinds x e now takes_error = error_law kinds.pair_error e now x
apply_law kinds x e now (asks_name of_peer) = name_law e of_peer now x
apply_law kinds x e now (binds space found) = bind_law space found now x
apply_law kinds x e now (listens backlog found) = listen_law backlog found now x
apply_law kinds x e now (connects space found heard) = connect_law space found heard now x
apply_law kinds x e now (sets_time absolute value interval) = settime_law kinds.timer_settime absolute value interval now x
apply_law kinds x e now asks_time = gettime_law now x

pub close_law : PipeCloseLaw → PairCloseLaw → CloseLaw
close_law pipes pairs (pipe p) e now = pipes p e
close_law pipes pairs (pair p) e now = pairs p e
close_law pipes pairs x e now = stays now x nothing

-- only a timer looks at the clock
pub advance_law : TimerAdvanceLaw → AdvanceLaw
advance_law timers plain old new e has = unchanged 0 0
advance_law timers (pipe p) old new e has = unchanged (pipe_present p e) _
advance_law timers (pair p) old new e has = unchanged (pair_present p e) _
advance_law timers (idle i) old new e has = unchanged (idle_present i) _
advance_law timers (listener l) old new e has = unchanged (listener_present l) _
advance_law timers (counter c) old new e has = unchanged (counter_present c) _
advance_law timers (timer t) old new First has = timers t old new
advance_law timers (timer t) old new Second has = absurd (false≢true has)
advance_law timers instance old new e has = unchanged 0 0
