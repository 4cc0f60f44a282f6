-- Connections of stream sockets: two ends, each with a queue of what it may read. A socket pair is a Unix one that
-- tells of no loss.
use Rattle.std.specs.Prelude.{Bool, List, None, Option, Some, [], bit_and, drop, false, if◌then◌else◌, is_some, length, min, nat_lt, not}
use Rattle.std.specs.Prelude.{take, true, unwrap_or, ℕ, ◌&&◌, ◌++◌, ◌-◌, ◌==◌, ◌||◌, ◌∷◌}
use Rattle.ep_base.specs.Errno.{errno_number}
use Rattle.ep_base.specs.declared.answer.Answer.TheVariants.{Bytes, Done, Failed, Named, Num}
use Rattle.ep_base.specs.declared.object.End.{End}
use Rattle.ep_base.specs.declared.object.End.TheVariants.{First, Second}
use Rattle.ep_base.specs.declared.errno.Errno.{Errno}
use Rattle.ep_base.specs.declared.errno.Errno.TheVariants.{Eagain, Econnreset, Enotconn, Epipe}
use Rattle.ep_base.specs.declared.object.Raised.{Raised}
use Rattle.ep_base.specs.declared.socket.Family.{Family}
use Rattle.ep_base.specs.declared.socket.Family.TheVariants as families
use Rattle.ep_base.specs.declared.socket.How.{How}
use Rattle.ep_base.specs.declared.socket.How.TheVariants as hows
use Rattle.ep_base.specs.declared.socket.Name.{Name}
use Rattle.ep_machine.specs.Bits.{ERR, HUP, IN, OUT, RDHUP, beginning, nothing, raises, union, when}
use Rattle.ep_machine.specs.Effect.{Effect}
use Rattle.ep_machine.specs.Lists.{is_empty}

abbrev pub is_tcp : Family → Bool
is_tcp families.Tcp = true
is_tcp families.Unix = false

abbrev pub shuts_read : How → Bool
shuts_read hows.Read = true
shuts_read hows.Write = false
shuts_read hows.Both = true

abbrev pub shuts_write : How → Bool
shuts_write hows.Read = false
shuts_write hows.Write = true
shuts_write hows.Both = true

pub record Socket : Type 0 where
  pub queue : List ℕ
  pub is_shut : Bool  -- it did SHUT_WR, or (tcp) closed in good order
  pub is_deaf : Bool  -- it did SHUT_RD
  pub is_reset : Bool  -- tcp: the connection is gone for it
  pub is_closed : Bool
  pub error : Option Errno  -- waits to be taken
  pub name : Option Name

pub record SocketPair : Type 0 where
  pub family : Family
  pub capacity : ℕ
  pub tells_loss : Bool  -- what is lost with an end is told as an error: not of socketpair(2)
  pub is_confirmed : Bool  -- the connect of the first end was answered
  pub is_accepted : Bool  -- the second end has left its listener
  pub first_end : Socket
  pub second_end : Socket

abbrev pub new_socket : Option Name → Socket
new_socket name = record { queue = []; is_shut = false; is_deaf = false; is_reset = false; is_closed = false; error = None; name = name }

-- what socketpair(2) makes
abbrev pub new_pair : ℕ → SocketPair
new_pair capacity = record {
  family = families.Unix;
  capacity = capacity;
  tells_loss = false;
  is_confirmed = true;
  is_accepted = true;
  first_end = new_socket None;
  second_end = new_socket None;
}

-- what connect(2) makes: the first end connected, and the second waits at a listener
abbrev pub new_connection : Family → ℕ → Option Name → Option Name → SocketPair
new_connection family capacity own_name name = record {
  family = family;
  capacity = capacity;
  tells_loss = true;
  is_confirmed = not (is_tcp family);
  is_accepted = false;
  first_end = new_socket own_name;
  second_end = new_socket name;
}

abbrev pub own : SocketPair → End → Socket
own p First = p.first_end
own p Second = p.second_end

abbrev pub peer : SocketPair → End → Socket
peer p First = p.second_end
peer p Second = p.first_end

-- the pair whose end is this one, and the other that
abbrev pub with_ends : SocketPair → End → Socket → Socket → SocketPair
with_ends p First mine other = record p { first_end = mine; second_end = other }
with_ends p Second mine other = record p { first_end = other; second_end = mine }

-- bits at the own end, and at the other
abbrev pub raised_ends : End → ℕ → ℕ → Raised
raised_ends First mine other = raises mine other
raised_ends Second mine other = raises other mine

-- nothing more comes to an end, by its family, itself and its peer
abbrev pub comes_no_more : Family → Socket → Socket → Bool
comes_no_more family mine other = mine.is_deaf || other.is_shut || (if is_tcp family then mine.is_reset else other.is_closed)

-- nothing more goes from it
abbrev pub goes_no_more : Family → Socket → Socket → Bool
goes_no_more family mine other = mine.is_shut || (if is_tcp family then mine.is_reset else other.is_deaf || other.is_closed)

abbrev pub socket_present : Family → ℕ → Socket → Socket → ℕ
socket_present family capacity mine other =
    let no_input = comes_no_more family mine other in
    let no_output = goes_no_more family mine other in
    union (
    when (not (is_empty mine.queue) || no_input) IN
    ∷ when no_input RDHUP
    ∷ when (no_input && no_output) HUP
    ∷ when (other.is_closed || is_tcp family && no_output || nat_lt (length other.queue) capacity) OUT
    ∷ when (is_some mine.error) ERR ∷ [])

abbrev pub pair_present : SocketPair → End → ℕ
pair_present p e = socket_present p.family p.capacity (own p e) (peer p e)

-- those that begin to hold at the own end, and at the other, where the pair becomes q
abbrev pub own_beginning : SocketPair → SocketPair → End → ℕ
own_beginning p q First = beginning (pair_present p First) (pair_present q First)
own_beginning p q Second = beginning (pair_present p Second) (pair_present q Second)

abbrev pub peer_beginning : SocketPair → SocketPair → End → ℕ
peer_beginning p q First = own_beginning p q Second
peer_beginning p q Second = own_beginning p q First

-- what a change to q raises: what it tells at the own end and at the other, and whatever begins to hold
abbrev pub changed : SocketPair → SocketPair → End → ℕ → ℕ → Raised
changed p q e mine other = raised_ends e (union (mine ∷ own_beginning p q e ∷ [])) (union (other ∷ peer_beginning p q e ∷ []))

-- tcp: the connection of an end is gone, or both directions are shut
abbrev pub is_over : SocketPair → End → Bool
is_over p e = let mine = own p e in is_tcp p.family && (mine.is_reset || mine.is_shut && (peer p e).is_shut)

-- The error of an end is taken.
abbrev pub without_error : SocketPair → End → SocketPair
without_error p e = let mine = own p e in with_ends p e (record mine { error = None }) (peer p e)

-- another error where none waits
abbrev pub error_or : SocketPair → End → Errno → Errno
error_or p e x = unwrap_or (own p e).error x

abbrev pub failed : SocketPair → End → Effect SocketPair
failed p e = (Failed (error_or p e Epipe), without_error p e, nothing)

-- Reading. What waits comes first; tcp tells the end before the error, once the peer shut its writing.
abbrev pub fails_reading : SocketPair → End → Bool
fails_reading p e = is_some (own p e).error && not (is_tcp p.family && (peer p e).is_shut)

abbrev pub wants_more : SocketPair → End → ℕ → Bool
wants_more p e n = nat_lt 0 n && is_empty (own p e).queue

abbrev pub pair_read_refusals : SocketPair → End → ℕ → List (Bool × Errno)
pair_read_refusals p e n = (wants_more p e n && not (fails_reading p e) && not (comes_no_more p.family (own p e) (peer p e)), Eagain) ∷ []

abbrev pub pair_taken : SocketPair → End → ℕ → SocketPair
pair_taken p e n = let mine = own p e in with_ends p e (record mine { queue = drop n mine.queue }) (peer p e)

abbrev pub pair_read : SocketPair → End → ℕ → Effect SocketPair
pair_read p e n =
    if wants_more p e n && fails_reading p e then failed p e
    else (Bytes (take n (own p e).queue), pair_taken p e n, raised_ends e 0 (bit_and OUT (peer_beginning p (pair_taken p e n) e)))

abbrev pub pair_peek : SocketPair → End → ℕ → Effect SocketPair
pair_peek p e n = if wants_more p e n && fails_reading p e then failed p e else (Bytes (take n (own p e).queue), p, nothing)

-- Writing.
abbrev pub pair_room : SocketPair → End → ℕ
pair_room p e = p.capacity - length (peer p e).queue

abbrev pub fails_writing : SocketPair → End → Bool
fails_writing p e = is_tcp p.family && is_some (own p e).error

abbrev pub pair_write_refusals : SocketPair → End → List ℕ → List (Bool × Errno)
pair_write_refusals p e [] = []
pair_write_refusals p e (b ∷ bs) =
    (not (fails_writing p e) && goes_no_more p.family (own p e) (peer p e), Epipe)
    ∷ (not (fails_writing p e) && pair_room p e == 0, Eagain) ∷ []

-- a reset comes to an end, with this error
abbrev pub reset : Socket → Errno → Socket
reset x error = record x { is_reset = true; error = Some error }

abbrev pub reset_bits : ℕ
reset_bits = union (IN ∷ RDHUP ∷ HUP ∷ ERR ∷ [])

-- tcp: nobody is there any more, or nobody reads, and so what is written comes back as a reset
abbrev pub comes_back : SocketPair → End → Bool
comes_back p e = let other = peer p e in is_tcp p.family && (other.is_closed || other.is_deaf && other.is_shut)

abbrev pub sent_back : SocketPair → End → SocketPair
sent_back p e =
    let other = peer p e in
    with_ends p e (reset (own p e) Epipe) (if other.is_closed then other else reset other Econnreset)

-- as many bytes as fit wait at the peer
abbrev pub sent : SocketPair → End → List ℕ → SocketPair
sent p e bytes = let other = peer p e in with_ends p e (own p e) (record other { queue = other.queue ++ take (pair_room p e) bytes })

abbrev pub pair_write : SocketPair → End → List ℕ → Effect SocketPair
pair_write p e bytes =
    let count = Num (min (length bytes) (pair_room p e)) in
    if is_empty bytes then (count, p, nothing)
    else if fails_writing p e then failed p e
    else if comes_back p e then
    (count, sent_back p e, changed p (sent_back p e) e reset_bits (when (not (peer p e).is_closed) reset_bits))
    else (count, sent p e bytes, raised_ends e 0 IN)

-- Shutting.
abbrev pub pair_shut_refusals : SocketPair → End → List (Bool × Errno)
pair_shut_refusals p e = (is_over p e, Enotconn) ∷ []

-- Linux: it counts as the answer to a connect.
abbrev pub confirmed_by : SocketPair → End → SocketPair
confirmed_by p First = record p { is_confirmed = true }
confirmed_by p Second = p

abbrev pub pair_shut : SocketPair → End → How → SocketPair
pair_shut p e how =
    let mine = own p e in
    confirmed_by (with_ends p e (record mine { is_shut = mine.is_shut || shuts_write how; is_deaf = mine.is_deaf || shuts_read how }) (peer p e)) e

-- a direction that is shut already raises nothing
abbrev pub pair_shutdown : SocketPair → End → How → Effect SocketPair
pair_shutdown p e how =
    let mine = own p e in
    let tidings = union (IN ∷ RDHUP ∷ []) in (
      Done,
      pair_shut p e how,
      changed p (pair_shut p e how) e
          (when (shuts_read how && not mine.is_deaf) tidings)
          (when (shuts_write how && not mine.is_shut) tidings),
    )

-- Closing.
abbrev pub is_second : End → Bool
is_second First = false
is_second Second = true

-- something is lost with an end, and is told: bytes that nobody read, or a connection that nobody accepted
abbrev pub loses : SocketPair → End → Bool
loses p e = p.tells_loss && (not (is_empty (own p e).queue) || is_second e && not p.is_accepted)

-- tcp: nothing goes from either end any more
abbrev pub is_done : SocketPair → End → Bool
is_done p e = let mine = own p e in let other = peer p e in mine.is_reset || other.is_reset || mine.is_shut && other.is_shut

abbrev pub tcp_closed : SocketPair → End → SocketPair
tcp_closed p e =
    let mine = own p e in
    let other = peer p e in
    let gone = record mine { is_closed = true } in
    if is_done p e then with_ends p e gone other
    else if loses p e then with_ends p e gone (reset other (if mine.is_shut then Epipe else Econnreset))
    else with_ends p e (record gone { is_shut = true }) other

abbrev pub unix_closed : SocketPair → End → SocketPair
unix_closed p e =
    let mine = own p e in
    let other = peer p e in
    with_ends p e (record mine { is_closed = true }) (if loses p e then record other { error = Some Econnreset } else other)

-- an end of which every bit holds
abbrev pub ended : Socket
ended = record { queue = []; is_shut = true; is_deaf = true; is_reset = true; is_closed = true; error = Some Econnreset; name = None }

-- Where both ends are closed, nothing tells which was first.
abbrev pub pair_closed : SocketPair → End → SocketPair
pair_closed p e =
    if (peer p e).is_closed then record p { is_confirmed = true; is_accepted = true; first_end = ended; second_end = ended }
    else if is_tcp p.family then tcp_closed p e
    else unix_closed p e

-- what is told at the peer, whether it held before or not
abbrev pub tcp_tidings : SocketPair → End → ℕ
tcp_tidings p e =
    if is_done p e then 0
    else if loses p e then reset_bits
    else when (not (own p e).is_shut) (union (IN ∷ RDHUP ∷ []))

abbrev pub tidings : SocketPair → End → ℕ
tidings p e = if is_tcp p.family then tcp_tidings p e else union (IN ∷ RDHUP ∷ HUP ∷ when (loses p e) ERR ∷ [])

abbrev pub pair_close : SocketPair → End → SocketPair × Raised
pair_close p e = (
  pair_closed p e,
  if (peer p e).is_closed then nothing else raised_ends e 0 (union (tidings p e ∷ peer_beginning p (pair_closed p e) e ∷ [])),
)

-- Errors and names.
abbrev pub error_code : Option Errno → ℕ
error_code None = 0
error_code (Some x) = errno_number x

abbrev pub pair_take_error : SocketPair → End → Effect SocketPair
pair_take_error p e = (Num (error_code (own p e).error), without_error p e, nothing)

abbrev pub pair_name_refusals : SocketPair → End → Bool → List (Bool × Errno)
pair_name_refusals p e of_peer = (of_peer && is_over p e, Enotconn) ∷ []

abbrev pub pair_name : SocketPair → End → Bool → Effect SocketPair
pair_name p e of_peer = (Named (if of_peer then (peer p e).name else (own p e).name), p, nothing)
