-- What closing leaves of a socket pair, and that its two ends close in any order.
use Rattle.std.proofs.Common.{Bool, Some, false, refl, sym, true, ◌∙◌, ◌≡◌}
use Rattle.std.proofs.lemmas.Bool.{false≢true}
use Rattle.std.specs.Prelude.{if◌then◌else◌, not}
use Rattle.ep_base.specs.declared.errno.Errno.TheVariants.{Econnreset, Epipe}
use Rattle.ep_base.specs.declared.object.End.TheVariants.{First, Second}
use Rattle.ep_base.specs.declared.object.End.{End}
use Rattle.ep_machine.specs.Sockets.{Socket, SocketPair, ended, is_done, is_tcp, loses, own, pair_closed, peer, reset, tcp_closed, unix_closed, with_ends}

pub either : {X : Type 0} (P : X → Type 0) (b : Bool) (x y : X) → P x → P y → P (if b then x else y)
either P true x y px py = px
either P false x y px py = py

of_else : {X : Type 0} (P : X → Type 0) (b : Bool) (x y : X) → not b ≡ true → P y → P (if b then x else y)
of_else P true x y h py = absurd (false≢true h)
of_else P false x y h py = py

-- both ends closed
abbrev pub end_of : SocketPair → SocketPair
end_of p = record p { is_confirmed = true; is_accepted = true; first_end = ended; second_end = ended }

then_true : {X : Type 0} (b : Bool) (x y : X) → b ≡ true → (if b then x else y) ≡ x
then_true true x y h = refl
then_true false x y h = cc

-- what closing leaves, by cases
abbrev gone : SocketPair → End → Socket
gone p e = let mine = own p e in record mine { is_closed = true }

abbrev pub plain_end : SocketPair → End → SocketPair
plain_end p e = with_ends p e (gone p e) (peer p e)

abbrev pub lost_end : SocketPair → End → SocketPair
lost_end p e = with_ends p e (gone p e) (reset (peer p e) (if (own p e).is_shut then Epipe else Econnreset))

abbrev pub shut_end : SocketPair → End → SocketPair
shut_end p e = let mine = gone p e in with_ends p e (record mine { is_shut = true }) (peer p e)

abbrev pub told_end : SocketPair → End → SocketPair
told_end p e = let other = peer p e in with_ends p e (gone p e) (if loses p e then record other { error = Some Econnreset } else other)

-- what holds of each of them holds of what a close leaves
module _ (P : SocketPair → Type 0) (p : SocketPair) (e : End) where
  by_family : P (plain_end p e) → P (lost_end p e) → P (shut_end p e) → P (told_end p e) → P (if is_tcp p.family then tcp_closed p e else unix_closed p e)
  by_family plain lost shut told =
      either P (is_tcp p.family) (tcp_closed p e) (unix_closed p e) (either P (is_done p e) (plain_end p e) _ plain (either P (loses p e) (lost_end p e) (shut_end p e) lost shut)) told

  pub by_close : P (end_of p) → P (plain_end p e) → P (lost_end p e) → P (shut_end p e) → P (told_end p e) → P (pair_closed p e)
  by_close both plain lost shut told = either P (peer p e).is_closed (end_of p) _ both (by_family plain lost shut told)

  -- while the peer is open
  pub by_first_close : not (peer p e).is_closed ≡ true → P (plain_end p e) → P (lost_end p e) → P (shut_end p e) → P (told_end p e) → P (pair_closed p e)
  by_first_close lives plain lost shut told = of_else P (peer p e).is_closed (end_of p) _ lives (by_family plain lost shut told)

pub the_second : (p : SocketPair) (e : End) → (peer p e).is_closed ≡ true → pair_closed p e ≡ end_of p
the_second p e h = then_true (peer p e).is_closed (end_of p) _ h

same_end : (p : SocketPair) (e : End) → end_of (pair_closed p e) ≡ end_of p
same_end p First = by_close (λ q. end_of q ≡ end_of p) p First refl refl refl refl refl
same_end p Second = by_close (λ q. end_of q ≡ end_of p) p Second refl refl refl refl refl

pub first_closed : (p : SocketPair) → (pair_closed p First).first_end.is_closed ≡ true
first_closed p = by_close (λ q. q.first_end.is_closed ≡ true) p First refl refl refl refl refl

pub second_closed : (p : SocketPair) → (pair_closed p Second).second_end.is_closed ≡ true
second_closed p = by_close (λ q. q.second_end.is_closed ≡ true) p Second refl refl refl refl refl

either_first : (p : SocketPair) → pair_closed (pair_closed p First) Second ≡ pair_closed (pair_closed p Second) First
either_first p =
    the_second (pair_closed p First) Second (first_closed p)
    ∙ (same_end p First ∙ (sym (same_end p Second) ∙ sym (the_second (pair_closed p Second) First (second_closed p))))

pub pair_closed_twice : (p : SocketPair) (a b : End) → pair_closed (pair_closed p a) b ≡ pair_closed (pair_closed p b) a
pair_closed_twice p First First = refl
pair_closed_twice p First Second = either_first p
pair_closed_twice p Second First = sym (either_first p)
pair_closed_twice p Second Second = refl
