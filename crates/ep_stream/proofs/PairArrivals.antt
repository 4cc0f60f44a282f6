-- The law of what socket pairs raise.
use Rattle.std.proofs.Common.{Bool, List, None, [], ap, arith, drop, false, is_some, length, length-append, nat_lt, refl, subst, sym, take, true, ℕ, ◌&&◌, ◌++◌, ◌+◌, ◌||◌, ◌∙◌, ◌∷◌, ◌≡◌}
use Rattle.std.proofs.lemmas.Bool.{false≢true}
use Rattle.std.proofs.lemmas.Bool.Decides.{nat_tests}
use Rattle.std.proofs.lemmas.Nat.{and_comm, and_or_self}
use Rattle.std.specs.Int.Bits.{or_zero_r}
use Rattle.std.specs.Prelude.{IsTrue, bit_and, bit_or, if◌then◌else◌, min, not}
use Rattle.ep_base.specs.declared.answer.Answer.TheVariants.{Bytes, Num}
use Rattle.ep_base.specs.declared.object.End.TheVariants.{First, Second}
use Rattle.ep_base.specs.declared.object.End.{End}
use Rattle.ep_base.specs.declared.object.Raised.{Raised}
use Rattle.ep_base.specs.declared.socket.Family.{Family}
use Rattle.ep_machine.specs.Bits.{IsCovered, ERR, HUP, IN, OUT, RDHUP, at_end, beginning, nothing, union, when}
use Rattle.ep_machine.specs.Effect.{Effect}
use Rattle.ep_machine.specs.Lists.{is_empty}
use Rattle.ep_machine.specs.Sockets.{Socket, SocketPair, changed, comes_back, comes_no_more, failed, fails_reading, fails_writing, goes_no_more, is_tcp, own}
use Rattle.ep_machine.specs.Sockets.{pair_closed, pair_peek, pair_present, pair_read, pair_read_refusals, pair_room, pair_taken, pair_write}
use Rattle.ep_machine.specs.Sockets.{pair_write_refusals, peer, peer_beginning, raised_ends, reset_bits, sent, sent_back, socket_present, tidings, wants_more}
use Rattle.ep_stream.specs.Law.{PairCloseLaw, PairErrorLaw, PairPeekLaw, PairReadLaw, PairShutdownLaw, PairWriteLaw, RaisesArrivals, pair_has}
use Rattle.ep_stream.proofs.Arrivals.{attempted, covered, covers, unchanged, waited}
use Rattle.ep_stream.proofs.PairClosed.{either, first_closed, second_closed}
use Rattle.ep_stream.proofs.Truths.{narrowed, of_five, of_six}

-- what an end shows. In the tables w says that bytes wait at it, i that nothing more comes to it, g that nothing more
-- goes from it, u that a write would not block, and x that an error waits.
abbrev bits : Bool → Bool → Bool → Bool → Bool → ℕ
bits w i g u x = union (when (w || i) IN ∷ when i RDHUP ∷ when (i && g) HUP ∷ when u OUT ∷ when x ERR ∷ [])

-- what is raised at an end where OUT may begin
abbrev with_room : ℕ → ℕ → ℕ
with_room before after = bit_and OUT (beginning before after)

fewer_wait : (w v i g u x : Bool) → IsCovered (bits w i g u x) (bits (w && v) i g u x) 0
fewer_wait w v i g u x = covered _ _ _ (of_six (λ w v i g u x. covers (bits w i g u x) (bits (w && v) i g u x) 0) refl w v i g u x)

more_wait : (w v i g u x : Bool) → IsCovered (bits w i g u x) (bits v i g u x) IN
more_wait w v i g u x = covered _ _ _ (of_six (λ w v i g u x. covers (bits w i g u x) (bits v i g u x) IN) refl w v i g u x)

less_room : (w i g u x q : Bool) → IsCovered (bits w i g u x) (bits w i g (u && q) x) 0
less_room w i g u x q = covered _ _ _ (of_six (λ w i g u x q. covers (bits w i g u x) (bits w i g (u && q) x) 0) refl w i g u x q)

more_room : (w i g u x q : Bool) → IsCovered (bits w i g u x) (bits w i g q x) (with_room (bits w i g u x) (bits w i g q x))
more_room w i g u x q = covered _ _ _ (of_six (λ w i g u x q. covers (bits w i g u x) (bits w i g q x) (with_room (bits w i g u x) (bits w i g q x))) refl w i g u x q)

error_goes : (w i g u x : Bool) → IsCovered (bits w i g u x) (bits w i g u false) 0
error_goes w i g u x = covered _ _ _ (of_five (λ w i g u x. covers (bits w i g u x) (bits w i g u false) 0) refl w i g u x)

-- what is told, and whatever begins, covers what begins
told_covers : (before after told : ℕ) → IsCovered before after (union (told ∷ beginning before after ∷ []))
told_covers before after told =
    let x = beginning before after in
    ap (λ (n : ℕ). bit_and x (bit_or told n)) (or_zero_r x) ∙ (and_comm x (bit_or told x) ∙ and_or_self x told)

had_room : (n m capacity : ℕ) → nat_lt (n + m) capacity ≡ true → nat_lt n capacity ≡ true
had_room n m capacity room = grind (arith, nat_tests, room)

or_falls : (a b c : Bool) → (b ≡ true → c ≡ true) → (a || b) ≡ true → (a || c) ≡ true
or_falls true b c h e = refl
or_falls false b c h e = h e

-- two ends of a pair: what mine shows where other is its peer
module _ (family : Family) (capacity : ℕ) (mine other : Socket) where
  abbrev waits : Bool
  waits = not (is_empty mine.queue)

  abbrev no_input : Bool
  no_input = comes_no_more family mine other

  abbrev no_output : Bool
  no_output = goes_no_more family mine other

  abbrev is_free : Bool
  is_free = other.is_closed || is_tcp family && no_output

  abbrev room : Bool
  room = nat_lt (length other.queue) capacity

  abbrev has_error : Bool
  has_error = is_some mine.error

  abbrev shown : ℕ
  shown = socket_present family capacity mine other

  takes : (n : ℕ) → IsCovered shown (socket_present family capacity (record mine { queue = drop n mine.queue }) other) 0
  takes n =
      let left = not (is_empty (drop n mine.queue)) in
      subst (λ (v : Bool). IsCovered shown (bits v no_input no_output (is_free || room) has_error) 0) (narrowed waits left (waited mine.queue n)) (fewer_wait waits left no_input no_output (is_free || room) has_error)

  peer_takes : (n : ℕ) → let after = socket_present family capacity mine (record other { queue = drop n other.queue }) in IsCovered shown after (with_room shown after)
  peer_takes n = more_room waits no_input no_output (is_free || room) has_error (is_free || nat_lt (length (drop n other.queue)) capacity)

  gives : (more : List ℕ) → IsCovered shown (socket_present family capacity mine (record other { queue = other.queue ++ more })) 0
  gives more =
      let has = nat_lt (length (other.queue ++ more)) capacity in
      let falls : has ≡ true → room ≡ true = λ enough. had_room (length other.queue) (length more) capacity (rw length-append at enough) in
      subst (λ (v : Bool). IsCovered shown (bits waits no_input no_output v has_error) 0) (narrowed (is_free || room) (is_free || has) (or_falls is_free has room falls)) (less_room waits no_input no_output (is_free || room) has_error (is_free || has))

  is_given : (more : List ℕ) → IsCovered shown (socket_present family capacity (record mine { queue = mine.queue ++ more }) other) IN
  is_given more = more_wait waits (not (is_empty (mine.queue ++ more))) no_input no_output (is_free || room) has_error

  gives_error : IsCovered shown (socket_present family capacity (record mine { error = None }) other) 0
  gives_error = error_goes waits no_input no_output (is_free || room) has_error

-- Effects.
abbrev Raises : SocketPair → Effect SocketPair → Type 0
Raises p f = RaisesArrivals pair_has pair_present p f.1 f.2

of_two : (p : SocketPair) (b : Bool) (f g : Effect SocketPair) → Raises p f → Raises p g → Raises p (if b then f else g)
of_two p b f g = either (Raises p) b f g

fails : (p : SocketPair) (e : End) → Raises p (failed p e)
fails p First First before after = gives_error p.family p.capacity p.first_end p.second_end
fails p First Second before after = unchanged (pair_present p Second) 0
fails p Second First before after = unchanged (pair_present p First) 0
fails p Second Second before after = gives_error p.family p.capacity p.second_end p.first_end

reads : (p : SocketPair) (e : End) (n : ℕ) → Raises p (Bytes (take n (own p e).queue), pair_taken p e n, raised_ends e 0 (bit_and OUT (peer_beginning p (pair_taken p e n) e)))
reads p First n First before after = takes p.family p.capacity p.first_end p.second_end n
reads p First n Second before after = peer_takes p.family p.capacity p.second_end p.first_end n
reads p Second n First before after = peer_takes p.family p.capacity p.first_end p.second_end n
reads p Second n Second before after = takes p.family p.capacity p.second_end p.first_end n

pub pair_read_law : PairReadLaw
pair_read_law p e n = attempted pair_has pair_present p (pair_read p e n) (pair_read_refusals p e n) (of_two p (wants_more p e n && fails_reading p e) (failed p e) _ (fails p e) (reads p e n))

pub pair_peek_law : PairPeekLaw
pair_peek_law p e n =
    attempted pair_has pair_present p (pair_peek p e n) (pair_read_refusals p e n)
    (of_two p (wants_more p e n && fails_reading p e) (failed p e) _ (fails p e) (λ end before after. unchanged (pair_present p end) (at_end nothing end)))

pub pair_error_law : PairErrorLaw
pair_error_law p e = fails p e

module _ (p : SocketPair) (bytes : List ℕ) where
  abbrev count : End → ℕ
  count e = min (length bytes) (pair_room p e)

  sends : (e : End) → Raises p (Num (count e), sent p e bytes, raised_ends e 0 IN)
  sends First First before after = gives p.family p.capacity p.first_end p.second_end (take (pair_room p First) bytes)
  sends First Second before after = is_given p.family p.capacity p.second_end p.first_end (take (pair_room p First) bytes)
  sends Second First before after = is_given p.family p.capacity p.first_end p.second_end (take (pair_room p Second) bytes)
  sends Second Second before after = gives p.family p.capacity p.second_end p.first_end (take (pair_room p Second) bytes)

  gets_back : (e : End) → Raises p (Num (count e), sent_back p e, changed p (sent_back p e) e reset_bits (when (not (peer p e).is_closed) reset_bits))
  gets_back First First before after = told_covers _ _ reset_bits
  gets_back First Second before after = told_covers _ _ _
  gets_back Second First before after = told_covers _ _ _
  gets_back Second Second before after = told_covers _ _ reset_bits

  writes : (e : End) → Raises p (pair_write p e bytes)
  writes e =
      of_two p (is_empty bytes) _ _ (λ end before after. unchanged (pair_present p end) (at_end nothing end))
      (of_two p (fails_writing p e) (failed p e) _ (fails p e) (of_two p (comes_back p e) _ _ (gets_back e) (sends e)))

pub pair_write_law : PairWriteLaw
pair_write_law p e bytes = attempted pair_has pair_present p (pair_write p e bytes) (pair_write_refusals p e bytes) (writes p bytes e)

pub pair_shutdown_law : PairShutdownLaw
pair_shutdown_law p First how First before after = told_covers _ _ _
pair_shutdown_law p First how Second before after = told_covers _ _ _
pair_shutdown_law p Second how First before after = told_covers _ _ _
pair_shutdown_law p Second how Second before after = told_covers _ _ _

-- Closing. The end that closes is not there any more.
not_there : (c : Bool) → c ≡ true → IsTrue (not c) → ⊥
not_there true e h = absurd (false≢true h)
not_there false e h = absurd (false≢true e)

second_holds : (a b : Bool) → IsTrue (a && b) → IsTrue b
second_holds true b h = h
second_holds false b h = absurd (false≢true h)

-- of what is raised only where the peer lives, where it lives
living : (c : Bool) (x y : Raised) → IsTrue (not c) → (if c then x else y) ≡ y
living true x y h = absurd (false≢true h)
living false x y h = refl

abbrev told : SocketPair → End → Raised
told p e = raised_ends e 0 (union (tidings p e ∷ peer_beginning p (pair_closed p e) e ∷ []))

pub pair_close_law : PairCloseLaw
pair_close_law p First First before after = absurd (not_there _ (first_closed p) after)
pair_close_law p First Second before after =
    subst (λ (r : Raised). IsCovered (pair_present p Second) (pair_present (pair_closed p First) Second) (at_end r Second)) (sym (living (peer p First).is_closed nothing (told p First) (second_holds p.is_accepted _ before))) (told_covers _ _ _)
pair_close_law p Second First before after =
    subst (λ (r : Raised). IsCovered (pair_present p First) (pair_present (pair_closed p Second) First) (at_end r First)) (sym (living (peer p Second).is_closed nothing (told p Second) before)) (told_covers _ _ _)
pair_close_law p Second Second before after = absurd (not_there _ (second_closed p) (second_holds (pair_closed p Second).is_accepted _ after))
