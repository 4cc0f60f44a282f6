-- No call and no close lets a connection wait to be accepted, or changes what waits at a listener.
use Rattle.std.proofs.Common.{◌≡◌, ◌&&◌, ◌∙◌, ℕ, Bool, true, false, None, Some, ap, not, refl, sym, ℤ, Option}
use Rattle.std.proofs.lemmas.Bool.{false≢true}
use Rattle.std.specs.Prelude.{if◌then◌else◌, []}
use Rattle.ep_base.specs.declared.object.End.{End}
use Rattle.ep_base.specs.declared.object.End.TheVariants.{First, Second}
use Rattle.ep_base.specs.declared.errno.Errno.TheVariants.{Econnreset}
use Rattle.ep_base.specs.declared.socket.Name.{Name}
use Rattle.ep_machine.specs.Connections.{accepted, pending_in, with_pending}
use Rattle.ep_machine.specs.Objects.{Object, ObjectCall, close_end, idle, is_waiting, listener, listening, listens, object_effect, pair, plain, reads}
use Rattle.ep_machine.specs.Sockets.{Socket, SocketPair, loses}
use Rattle.ep_machine.specs.Unconnected.{Idle, name_or}
use Rattle.ep_object.specs.Connecting.{without_nth}
use Rattle.ep_object.proofs.StandingLemmas.{Standing, call_keeps_standing, standing}
use Rattle.ep_stream.proofs.PairClosed.{by_close, by_first_close, either}

-- Whether a connection waits to be accepted.
abbrev waits : SocketPair → Bool
waits p = not p.is_accepted && not p.second_end.is_closed

abbrev waits_by : Option Standing → Bool
waits_by None = false
waits_by (Some s) = not s.is_accepted && not s.second_is_closed

waits_as : (x : Object) → is_waiting x ≡ waits_by (standing x)
waits_as (pair p) = refl
waits_as plain = refl
waits_as x = refl

pub call_keeps_waiting : (x : Object) (e : End) (now : ℕ) (asked : ObjectCall) → is_waiting (object_effect x e now asked).1 ≡ is_waiting x
call_keeps_waiting x e now asked =
    waits_as (object_effect x e now asked).1 ∙ (ap waits_by (call_keeps_standing x e now asked) ∙ sym (waits_as x))

none_and : (b : Bool) → (b && false) ≡ false
none_and true = refl
none_and false = refl

told_waits : (p : SocketPair) (b : Bool) → waits p ≡ false → (not p.is_accepted && not (if b then record p.second_end { error = Some Econnreset } else p.second_end).is_closed) ≡ false
told_waits p b h = either (λ (y : Socket). (not p.is_accepted && not y.is_closed) ≡ false) b _ _ h h

-- the second end's close ends the wait
pub second_closes_waiting : (x : Object) → is_waiting (close_end x Second).0 ≡ false
second_closes_waiting (pair p) =
    let gone = none_and (not p.is_accepted) in
    by_close (λ q. waits q ≡ false) p Second refl gone gone gone gone
second_closes_waiting plain = refl
second_closes_waiting x = refl

second_part : (a b : Bool) → (a && b) ≡ true → b ≡ true
second_part true b h = h
second_part false b h = absurd (false≢true h)

told_still : (p : SocketPair) (b : Bool) → waits p ≡ true → (not p.is_accepted && not (if b then record p.second_end { error = Some Econnreset } else p.second_end).is_closed) ≡ true
told_still p b h = either (λ (y : Socket). (not p.is_accepted && not y.is_closed) ≡ true) b _ _ h h

-- and the first end's leaves it
pub first_keeps_waiting : (x : Object) → is_waiting x ≡ true → is_waiting (close_end x First).0 ≡ true
first_keeps_waiting (pair p) h =
    by_first_close (λ q. waits q ≡ true) p First (second_part (not p.is_accepted) _ h) h h h (told_still p (loses p First) h)
first_keeps_waiting plain h = absurd (false≢true h)
first_keeps_waiting x h = absurd (false≢true h)

pub close_leaves_accepted : (x : Object) (e : End) → is_waiting x ≡ false → is_waiting (close_end x e).0 ≡ false
close_leaves_accepted (pair p) First h = by_close (λ q. waits q ≡ false) p First refl h h h (told_waits p (loses p First) h)
close_leaves_accepted (pair p) Second h =
    let gone = none_and (not p.is_accepted) in
    by_close (λ q. waits q ≡ false) p Second refl gone gone gone gone
close_leaves_accepted x e h = h

-- What waits at a listener.
listening_pending : (i : Idle) (backlog : ℤ) (name : Option Name) → pending_in (listening i backlog name) ≡ []
listening_pending i backlog None = refl
listening_pending i backlog (Some name) = refl

pub call_keeps_pending : (x : Object) (e : End) (now : ℕ) (asked : ObjectCall) → pending_in (object_effect x e now asked).1 ≡ pending_in x
call_keeps_pending plain e now (reads n) = refl
call_keeps_pending plain e now asked = refl
call_keeps_pending (idle i) e now (listens backlog found) = listening_pending i backlog (name_or i.name found)
call_keeps_pending x e now (reads n) = refl
call_keeps_pending x e now asked = refl

pub close_keeps_pending : (x : Object) (e : End) → pending_in (close_end x e).0 ≡ pending_in x
close_keeps_pending plain e = refl
close_keeps_pending x e = refl

-- What is accepted waits no more, and a listener waits at none.
pub accepted_waits : (x : Object) → is_waiting (accepted x) ≡ false
accepted_waits (pair p) = refl
accepted_waits plain = refl
accepted_waits x = refl

pub accepted_pending : (x : Object) → pending_in (accepted x) ≡ pending_in x
accepted_pending (pair p) = refl
accepted_pending plain = refl
accepted_pending x = refl

pub pushed_waits : (k : ℕ) (x : Object) → is_waiting (with_pending k x) ≡ is_waiting x
pushed_waits k (listener l) = refl
pushed_waits k plain = refl
pushed_waits k x = refl

pub removed_waits : (i : ℕ) (x : Object) → is_waiting (without_nth i x) ≡ is_waiting x
removed_waits i (listener l) = refl
removed_waits i plain = refl
removed_waits i x = refl
