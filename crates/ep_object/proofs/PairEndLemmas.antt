-- What the other end of a socket pair goes on showing as a call is made on one, and both as one closes.
use Rattle.std.proofs.Common.{◌≡◌, ◌≢◌, ◌-◌, ◌&&◌, ◌||◌, ◌++◌, ◌∙◌, ℕ, Bool, true, List, Some, [], ◌∷◌, ap, arith, drop, is_some, length, nat_lt, not, refl, take}
use Rattle.std.specs.Prelude.{if◌then◌else◌}
use Rattle.std.proofs.lemmas.Bool.{false≢true}
use Rattle.std.proofs.lemmas.Bool.Decides.{nat_tests}
use Rattle.std.proofs.lemmas.List.{length-drop}
use Rattle.ep_base.specs.declared.errno.Errno.{Errno}
use Rattle.ep_base.specs.declared.errno.Errno.TheVariants.{Econnreset, Epipe}
use Rattle.ep_base.specs.declared.object.End.{End}
use Rattle.ep_base.specs.declared.object.End.TheVariants.{First, Second}
use Rattle.ep_base.specs.declared.socket.Family.{Family}
use Rattle.ep_base.specs.declared.socket.Family.TheVariants.{Tcp, Unix}
use Rattle.ep_base.specs.declared.socket.How.{How}
use Rattle.ep_machine.specs.Bits.{ERR, HUP, IN, OUT, RDHUP}
use Rattle.ep_machine.specs.Effect.{Effect}
use Rattle.ep_machine.specs.Lists.{is_empty}
use Rattle.ep_machine.specs.Sockets.{Socket, SocketPair, comes_back, comes_no_more, ended, failed, fails_reading, fails_writing, goes_no_more, is_tcp, loses}
use Rattle.ep_machine.specs.Sockets.{pair_closed, pair_peek, pair_present, pair_read, pair_room, pair_shut, pair_write, reset, sent, sent_back, shuts_read, shuts_write}
use Rattle.ep_machine.specs.Sockets.{socket_present, wants_more}
use Rattle.ep_object.proofs.BitLemmas.{covers_self}
use Rattle.ep_object.proofs.StayLemmas.{Stay, and_both, or_both, or_stays, when_stays}
use Rattle.ep_stream.proofs.PairClosed.{by_close, either}

-- An end that becomes another, at which all holds that held but for what waits there.
record Grows (old new : Socket) : Type 0 where
  shut : old.is_shut ≡ true → new.is_shut ≡ true
  deaf : old.is_deaf ≡ true → new.is_deaf ≡ true
  gone : old.is_reset ≡ true → new.is_reset ≡ true
  closed : old.is_closed ≡ true → new.is_closed ≡ true
  error : is_some old.error ≡ true → is_some new.error ≡ true

abbrev waits : Socket → Bool
waits x = not (is_empty x.queue)

abbrev fits : ℕ → Socket → Bool
fits capacity x = nat_lt (length x.queue) capacity

module _ (mine other left right : Socket) (one : Grows mine left) (two : Grows other right) where
  comes_stays : (family : Family) → comes_no_more family mine other ≡ true → comes_no_more family left right ≡ true
  comes_stays Tcp = or_both _ _ _ _ (or_both mine.is_deaf other.is_shut left.is_deaf right.is_shut one.deaf two.shut) one.gone
  comes_stays Unix = or_both _ _ _ _ (or_both mine.is_deaf other.is_shut left.is_deaf right.is_shut one.deaf two.shut) two.closed

  goes_stays : (family : Family) → goes_no_more family mine other ≡ true → goes_no_more family left right ≡ true
  goes_stays Tcp = or_both mine.is_shut mine.is_reset left.is_shut left.is_reset one.shut one.gone
  goes_stays Unix = or_both _ _ _ _ one.shut (or_both other.is_deaf other.is_closed right.is_deaf right.is_closed two.deaf two.closed)

  socket_stays : (family : Family) (capacity : ℕ) → (waits mine ≡ true → waits left ≡ true) → (fits capacity other ≡ true → fits capacity right ≡ true)
      → Stay (socket_present family capacity left right) (socket_present family capacity mine other)
  socket_stays family capacity waiting room =
      let comes = comes_stays family in
      let goes = goes_stays family in
      let free = or_both other.is_closed (is_tcp family && goes_no_more family mine other) right.is_closed (is_tcp family && goes_no_more family left right)
      two.closed (and_both (is_tcp family) _ (is_tcp family) _ (λ h. h) goes) in
      or_stays _ _ _ _ (when_stays _ _ IN (or_both (waits mine) (comes_no_more family mine other) (waits left) (comes_no_more family left right) waiting comes))
      (or_stays _ _ _ _ (when_stays (comes_no_more family left right) (comes_no_more family mine other) RDHUP comes)
      (or_stays _ _ _ _ (when_stays _ _ HUP (and_both (comes_no_more family mine other) (goes_no_more family mine other) (comes_no_more family left right) (goes_no_more family left right) comes goes))
      (or_stays _ _ _ _ (when_stays _ _ OUT (or_both _ (fits capacity other) _ (fits capacity right) free room))
      (or_stays _ 0 _ 0 (when_stays (is_some left.error) (is_some mine.error) ERR one.error) (covers_self 0 0)))))

same : (x : Socket) → Grows x x
same x = record { shut = λ h. h; deaf = λ h. h; gone = λ h. h; closed = λ h. h; error = λ h. h }

requeued : (x : Socket) (queue : List ℕ) → Grows x (record x { queue = queue })
requeued x queue = record { shut = λ h. h; deaf = λ h. h; gone = λ h. h; closed = λ h. h; error = λ h. h }

is_reset : (x : Socket) (e : Errno) → Grows x (reset x e)
is_reset x e = record { shut = λ h. h; deaf = λ h. h; gone = λ h. refl; closed = λ h. h; error = λ h. refl }

gets_error : (x : Socket) (e : Errno) → Grows x (record x { error = Some e })
gets_error x e = record { shut = λ h. h; deaf = λ h. h; gone = λ h. h; closed = λ h. h; error = λ h. refl }

closes : (x : Socket) → Grows x (record x { is_closed = true })
closes x = record { shut = λ h. h; deaf = λ h. h; gone = λ h. h; closed = λ h. refl; error = λ h. h }

closes_shut : (x : Socket) → Grows x (record x { is_closed = true; is_shut = true })
closes_shut x = record { shut = λ h. refl; deaf = λ h. h; gone = λ h. h; closed = λ h. refl; error = λ h. h }

-- Queues.
some_more : (xs ys : List ℕ) → not (is_empty xs) ≡ true → not (is_empty (xs ++ ys)) ≡ true
some_more [] ys h = absurd (false≢true h)
some_more (x ∷ xs) ys h = refl

fits_still : (capacity n k : ℕ) → nat_lt k capacity ≡ true → nat_lt (k - n) capacity ≡ true
fits_still capacity n k h = grind (arith, nat_tests, h)

drop_fits : (capacity n : ℕ) (x : Socket) → fits capacity x ≡ true → fits capacity (record x { queue = drop n x.queue }) ≡ true
drop_fits capacity n x h = ap (λ (k : ℕ). nat_lt k capacity) (length-drop n x.queue) ∙ fits_still capacity n (length x.queue) h

-- Calls, at the other end.
-- what pair q shows at this end has all that p shows
abbrev Shown : SocketPair → End → SocketPair → Type 0
Shown p o q = Stay (pair_present q o) (pair_present p o)

of_two : (p : SocketPair) (o : End) (b : Bool) (f g : Effect SocketPair) → Shown p o f.1 → Shown p o g.1 → Shown p o (if b then f else g).1
of_two p o b f g = either (λ (h : Effect SocketPair). Shown p o h.1) b f g

-- an error that goes is shown only where it waited
pub failed_stays : (p : SocketPair) (e o : End) → e ≢ o → Shown p o (failed p e).1
failed_stays p First First ne = absurd (ne refl)
failed_stays p First Second ne = covers_self _ 0
failed_stays p Second First ne = covers_self _ 0
failed_stays p Second Second ne = absurd (ne refl)

module _ (p : SocketPair) where
  peer_reads : (mine other : Socket) (n : ℕ) → Stay (socket_present p.family p.capacity mine (record other { queue = drop n other.queue })) (socket_present p.family p.capacity mine other)
  peer_reads mine other n = socket_stays mine other mine (record other { queue = drop n other.queue }) (same mine) (requeued other (drop n other.queue)) p.family p.capacity (λ h. h) (drop_fits p.capacity n other)

  pub read_stays : (e o : End) (n : ℕ) → e ≢ o → Shown p o (pair_read p e n).1
  read_stays First First n ne = absurd (ne refl)
  read_stays First Second n ne = of_two p Second (wants_more p First n && fails_reading p First) (failed p First) _ (failed_stays p First Second ne) (peer_reads p.second_end p.first_end n)
  read_stays Second First n ne = of_two p First (wants_more p Second n && fails_reading p Second) (failed p Second) _ (failed_stays p Second First ne) (peer_reads p.first_end p.second_end n)
  read_stays Second Second n ne = absurd (ne refl)

  pub peek_stays : (e o : End) (n : ℕ) → e ≢ o → Shown p o (pair_peek p e n).1
  peek_stays e o n ne = of_two p o (wants_more p e n && fails_reading p e) (failed p e) _ (failed_stays p e o ne) (covers_self _ 0)

  -- a reset comes to both, but for an end that is closed
  both_reset : (mine other : Socket) → Stay (socket_present p.family p.capacity (if mine.is_closed then mine else reset mine Econnreset) (reset other Epipe)) (socket_present p.family p.capacity mine other)
  both_reset mine other =
      either (λ (x : Socket). Stay (socket_present p.family p.capacity x (reset other Epipe)) (socket_present p.family p.capacity mine other)) mine.is_closed mine (reset mine Econnreset)
      (covers_self _ 0)
      (socket_stays mine other (reset mine Econnreset) (reset other Epipe) (is_reset mine Econnreset) (is_reset other Epipe) p.family p.capacity (λ h. h) (λ h. h))

  peer_writes : (mine other : Socket) (more : List ℕ) → Stay (socket_present p.family p.capacity (record mine { queue = mine.queue ++ more }) other) (socket_present p.family p.capacity mine other)
  peer_writes mine other more = socket_stays mine other (record mine { queue = mine.queue ++ more }) other (requeued mine (mine.queue ++ more)) (same other) p.family p.capacity (some_more mine.queue more) (λ h. h)

  sent_back_stays : (e o : End) → e ≢ o → Shown p o (sent_back p e)
  sent_back_stays First First ne = absurd (ne refl)
  sent_back_stays First Second ne = both_reset p.second_end p.first_end
  sent_back_stays Second First ne = both_reset p.first_end p.second_end
  sent_back_stays Second Second ne = absurd (ne refl)

  sent_stays : (e o : End) (bytes : List ℕ) → e ≢ o → Shown p o (sent p e bytes)
  sent_stays First First bytes ne = absurd (ne refl)
  sent_stays First Second bytes ne = peer_writes p.second_end p.first_end (take (pair_room p First) bytes)
  sent_stays Second First bytes ne = peer_writes p.first_end p.second_end (take (pair_room p Second) bytes)
  sent_stays Second Second bytes ne = absurd (ne refl)

  pub write_stays : (e o : End) (bytes : List ℕ) → e ≢ o → Shown p o (pair_write p e bytes).1
  write_stays e o bytes ne =
      of_two p o (is_empty bytes) _ _ (covers_self _ 0)
      (of_two p o (fails_writing p e) (failed p e) _ (failed_stays p e o ne) (of_two p o (comes_back p e) _ _ (sent_back_stays e o ne) (sent_stays e o bytes ne)))

  shuts : (x : Socket) (how : How) → Grows x (record x { is_shut = x.is_shut || shuts_write how; is_deaf = x.is_deaf || shuts_read how })
  shuts x how = record {
    shut = λ h. ap (λ (b : Bool). b || shuts_write how) h;
    deaf = λ h. ap (λ (b : Bool). b || shuts_read how) h;
    gone = λ h. h;
    closed = λ h. h;
    error = λ h. h;
  }

  pub shut_stays : (e o : End) (how : How) → e ≢ o → Shown p o (pair_shut p e how)
  shut_stays First First how ne = absurd (ne refl)
  shut_stays First Second how ne = socket_stays p.second_end p.first_end p.second_end _ (same p.second_end) (shuts p.first_end how) p.family p.capacity (λ h. h) (λ h. h)
  shut_stays Second First how ne = socket_stays p.first_end p.second_end p.first_end _ (same p.first_end) (shuts p.second_end how) p.family p.capacity (λ h. h) (λ h. h)
  shut_stays Second Second how ne = absurd (ne refl)

  -- Closes, at either end. Once both are closed, every bit holds.
  abbrev sees : Socket → Socket → ℕ
  sees mine other = socket_present p.family p.capacity mine other

  all_stay : (mine other : Socket) → Stay (sees ended ended) (sees mine other)
  all_stay mine other =
      or_stays _ _ _ _ (when_stays true _ IN (λ h. refl))
      (or_stays _ _ _ _ (when_stays true _ RDHUP (λ h. refl))
      (or_stays _ _ _ _ (when_stays true _ HUP (λ h. refl))
      (or_stays _ _ _ _ (when_stays true _ OUT (λ h. refl))
      (or_stays _ 0 _ 0 (when_stays true _ ERR (λ h. refl)) (covers_self 0 0)))))

  -- x is the end that closes, and y its peer
  module _ (x y : Socket) where
    grow : (left right : Socket) → Grows x left → Grows y right → (waits x ≡ true → waits left ≡ true) → (fits p.capacity y ≡ true → fits p.capacity right ≡ true) → Stay (sees left right) (sees x y)
    grow left right one two = socket_stays x y left right one two p.family p.capacity

    peer_grows : (left right : Socket) → Grows x left → Grows y right → (waits y ≡ true → waits right ≡ true) → (fits p.capacity x ≡ true → fits p.capacity left ≡ true) → Stay (sees right left) (sees y x)
    peer_grows left right one two = socket_stays y x right left two one p.family p.capacity

    own_told : (b : Bool) → Stay (sees (record x { is_closed = true }) (if b then record y { error = Some Econnreset } else y)) (sees x y)
    own_told b = either (λ (z : Socket). Stay (sees (record x { is_closed = true }) z) (sees x y)) b _ y (grow _ _ (closes x) (gets_error y Econnreset) (λ h. h) (λ h. h)) (grow _ y (closes x) (same y) (λ h. h) (λ h. h))

    peer_told : (b : Bool) → Stay (sees (if b then record y { error = Some Econnreset } else y) (record x { is_closed = true })) (sees y x)
    peer_told b = either (λ (z : Socket). Stay (sees z (record x { is_closed = true })) (sees y x)) b _ y (peer_grows _ _ (closes x) (gets_error y Econnreset) (λ h. h) (λ h. h)) (peer_grows _ y (closes x) (same y) (λ h. h) (λ h. h))

  pub close_stays : (e o : End) → Shown p o (pair_closed p e)
  close_stays First First =
      let x = p.first_end in
      let y = p.second_end in
      by_close (Shown p First) p First (all_stay x y) (grow x y _ y (closes x) (same y) (λ h. h) (λ h. h)) (grow x y _ _ (closes x) (is_reset y (if x.is_shut then Epipe else Econnreset)) (λ h. h) (λ h. h)) (grow x y _ y (closes_shut x) (same y) (λ h. h) (λ h. h)) (own_told x y (loses p First))
  close_stays First Second =
      let x = p.first_end in
      let y = p.second_end in
      by_close (Shown p Second) p First (all_stay y x) (peer_grows x y _ y (closes x) (same y) (λ h. h) (λ h. h)) (peer_grows x y _ _ (closes x) (is_reset y (if x.is_shut then Epipe else Econnreset)) (λ h. h) (λ h. h)) (peer_grows x y _ y (closes_shut x) (same y) (λ h. h) (λ h. h)) (peer_told x y (loses p First))
  close_stays Second First =
      let x = p.second_end in
      let y = p.first_end in
      by_close (Shown p First) p Second (all_stay y x) (peer_grows x y _ y (closes x) (same y) (λ h. h) (λ h. h)) (peer_grows x y _ _ (closes x) (is_reset y (if x.is_shut then Epipe else Econnreset)) (λ h. h) (λ h. h)) (peer_grows x y _ y (closes_shut x) (same y) (λ h. h) (λ h. h)) (peer_told x y (loses p Second))
  close_stays Second Second =
      let x = p.second_end in
      let y = p.first_end in
      by_close (Shown p Second) p Second (all_stay x y) (grow x y _ y (closes x) (same y) (λ h. h) (λ h. h)) (grow x y _ _ (closes x) (is_reset y (if x.is_shut then Epipe else Econnreset)) (λ h. h) (λ h. h)) (grow x y _ y (closes_shut x) (same y) (λ h. h) (λ h. h)) (own_told x y (loses p Second))
