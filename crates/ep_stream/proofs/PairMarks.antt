-- What one end of a pair's closing makes of the pair of the code, while the other end is open.
use Rattle.std.proofs.Common.{Bool, Some, ap, false, if◌then◌else◌, refl, sym, true, ◌&&◌, ◌∙◌, ◌≡◌}
use Rattle.std.proofs.lemmas.Bool.{false≢true}
use Rattle.ep_base.specs.declared.errno.Errno.TheVariants.{Econnreset}
use Rattle.ep_base.specs.declared.object.End.TheVariants.{First, Second}
use Rattle.ep_machine.specs.Sockets.{loses, unix_closed}
use Rattle.ep_stream.specs.Socket.{pair_of, socket_of}
use Rattle.ep_stream.specs.declared.sock_pair.SockPair.TheInside.{Inside}
use Rattle.ep_stream.specs.declared.sock_pair.Socket.{Socket}

not_both : (a b : Bool) → b ≡ false → b ≡ (a && b)
not_both a true h = absurd (false≢true (sym h))
not_both true false h = refl
not_both false false h = refl

neither : (a b : Bool) → a ≡ false → (a && true) ≡ (a && b)
neither true b h = absurd (false≢true (sym h))
neither false b h = refl

-- what a peer that is told, or isn't, is to the machine
abbrev told_code : Bool → Socket → Socket
told_code l s = if l then record s { error = Some Econnreset } else s

told : (l is_reset : Bool) (s : Socket) → socket_of is_reset (told_code l s) ≡ (if l then record (socket_of is_reset s) { error = Some Econnreset } else socket_of is_reset s)
told true is_reset s = refl
told false is_reset s = refl

still_open : (l : Bool) (s : Socket) → (told_code l s).is_closed ≡ s.is_closed
still_open true s = refl
still_open false s = refl

same_room : (l : Bool) (s : Socket) → (told_code l s).queue.capacity ≡ s.queue.capacity
same_room true s = refl
same_room false s = refl

module _ (k : Inside) where
  abbrev gone_first : Socket
  gone_first = record k.first_end { is_closed = true }

  abbrev gone_second : Socket
  gone_second = record k.second_end { is_closed = true }

  pub first_closes : (l : Bool) → k.second_end.is_closed ≡ false → l ≡ loses (pair_of k) First
      → pair_of (record k { first_end = gone_first; second_end = told_code l k.second_end }) ≡ unix_closed (pair_of k) First
  first_closes l h is =
      let r : Bool = k.first_end.is_closed && k.second_end.is_closed in
      let same : (true && (told_code l k.second_end).is_closed) ≡ r = still_open l k.second_end ∙ not_both k.first_end.is_closed k.second_end.is_closed h in
      (λ i. record (pair_of k) { first_end = socket_of (same i) gone_first; second_end = socket_of (same i) (told_code l k.second_end) })
      ∙ (λ i. record (pair_of k) { first_end = socket_of r gone_first; second_end = told l r k.second_end i })
      ∙ (λ i. record (pair_of k) {
        first_end = socket_of r gone_first;
        second_end = if is i then record (socket_of r k.second_end) { error = Some Econnreset } else socket_of r k.second_end;
      })

  pub second_closes : (l : Bool) → k.first_end.is_closed ≡ false → l ≡ loses (pair_of k) Second
      → pair_of (record k { first_end = told_code l k.first_end; second_end = gone_second }) ≡ unix_closed (pair_of k) Second
  second_closes l h is =
      let r : Bool = k.first_end.is_closed && k.second_end.is_closed in
      let same : ((told_code l k.first_end).is_closed && true) ≡ r = ap (λ (b : Bool). b && true) (still_open l k.first_end) ∙ neither k.first_end.is_closed k.second_end.is_closed h in
      (λ i. record (pair_of k) { capacity = same_room l k.first_end i; first_end = socket_of (same i) (told_code l k.first_end); second_end = socket_of (same i) gone_second })
      ∙ (λ i. record (pair_of k) { first_end = told l r k.first_end i; second_end = socket_of r gone_second })
      ∙ (λ i. record (pair_of k) {
        first_end = if is i then record (socket_of r k.first_end) { error = Some Econnreset } else socket_of r k.first_end;
        second_end = socket_of r gone_second;
      })
