-- What no call changes of a connection: which ends are closed, whether it was accepted, and the first end's name.
use Rattle.std.proofs.Common.{◌≡◌, ◌&&◌, ℕ, Bool, List, None, Some, refl, ℤ, Option}
use Rattle.std.specs.Prelude.{if◌then◌else◌}
use Rattle.ep_base.specs.declared.object.End.{End}
use Rattle.ep_base.specs.declared.object.End.TheVariants.{First, Second}
use Rattle.ep_base.specs.declared.socket.How.{How}
use Rattle.ep_base.specs.declared.socket.Name.{Name}
use Rattle.ep_machine.specs.Effect.{Effect}
use Rattle.ep_machine.specs.Lists.{is_empty}
use Rattle.ep_machine.specs.Objects.{Object, ObjectCall, idle, listening, listens, object_effect, pair, peek, peeks, plain, read, reads}
use Rattle.ep_machine.specs.Objects.{shutdown, shuts_down, take_error, takes_error, write, writes}
use Rattle.ep_machine.specs.Sockets.{Socket, SocketPair, comes_back, failed, fails_reading, fails_writing, sent, sent_back, wants_more}
use Rattle.ep_machine.specs.Unconnected.{Idle, name_or}
use Rattle.ep_stream.proofs.PairClosed.{either}

pub record Standing : Type 0 where
  pub is_accepted : Bool
  pub first_is_closed : Bool
  pub second_is_closed : Bool
  pub name : Option Name

abbrev stands : SocketPair → Standing
stands p = record {
  is_accepted = p.is_accepted;
  first_is_closed = p.first_end.is_closed;
  second_is_closed = p.second_end.is_closed;
  name = p.first_end.name;
}

abbrev pub standing : Object → Option Standing
standing (pair p) = Some (stands p)
standing x = None

-- a pair that became another stands as before
abbrev Keeps : SocketPair → SocketPair → Type 0
Keeps p q = Some (stands q) ≡ Some (stands p)

of_two : (p : SocketPair) (b : Bool) (f g : Effect SocketPair) → Keeps p f.1 → Keeps p g.1 → Keeps p (if b then f else g).1
of_two p b f g = either (λ (h : Effect SocketPair). Keeps p h.1) b f g

failed_stands : (p : SocketPair) (e : End) → Keeps p (failed p e).1
failed_stands p First = refl
failed_stands p Second = refl

read_stands : (x : Object) (e : End) (n now : ℕ) → standing (read x e n now).1 ≡ standing x
read_stands (pair p) First n now = of_two p (wants_more p First n && fails_reading p First) (failed p First) _ (failed_stands p First) refl
read_stands (pair p) Second n now = of_two p (wants_more p Second n && fails_reading p Second) (failed p Second) _ (failed_stands p Second) refl
read_stands x e n now = refl

peek_stands : (x : Object) (e : End) (n : ℕ) → standing (peek x e n).1 ≡ standing x
peek_stands (pair p) e n = of_two p (wants_more p e n && fails_reading p e) (failed p e) _ (failed_stands p e) refl
peek_stands x e n = refl

sent_back_stands : (p : SocketPair) (e : End) → Keeps p (sent_back p e)
sent_back_stands p First =
    either (λ (x : Socket). Some (record (stands p) { second_is_closed = x.is_closed }) ≡ Some (stands p)) p.second_end.is_closed _ _ refl refl
sent_back_stands p Second =
    either (λ (x : Socket). Some (record (stands p) { first_is_closed = x.is_closed; name = x.name }) ≡ Some (stands p)) p.first_end.is_closed _ _ refl refl

sent_stands : (p : SocketPair) (e : End) (bytes : List ℕ) → Keeps p (sent p e bytes)
sent_stands p First bytes = refl
sent_stands p Second bytes = refl

write_stands : (x : Object) (e : End) (bytes : List ℕ) → standing (write x e bytes).1 ≡ standing x
write_stands (pair p) e bytes =
    of_two p (is_empty bytes) _ _ refl
    (of_two p (fails_writing p e) (failed p e) _ (failed_stands p e) (of_two p (comes_back p e) _ _ (sent_back_stands p e) (sent_stands p e bytes)))
write_stands x e bytes = refl

shutdown_stands : (x : Object) (e : End) (how : How) → standing (shutdown x e how).1 ≡ standing x
shutdown_stands (pair p) First how = refl
shutdown_stands (pair p) Second how = refl
shutdown_stands x e how = refl

error_stands : (x : Object) (e : End) → standing (take_error x e).1 ≡ standing x
error_stands (pair p) e = failed_stands p e
error_stands x e = refl

listening_stands : (i : Idle) (backlog : ℤ) (name : Option Name) → standing (listening i backlog name) ≡ None
listening_stands i backlog None = refl
listening_stands i backlog (Some name) = refl

pub call_keeps_standing : (x : Object) (e : End) (now : ℕ) (asked : ObjectCall) → standing (object_effect x e now asked).1 ≡ standing x
call_keeps_standing x e now (reads n) = read_stands x e n now
call_keeps_standing x e now (writes bytes) = write_stands x e bytes
call_keeps_standing x e now (peeks n) = peek_stands x e n
call_keeps_standing x e now (shuts_down how) = shutdown_stands x e how
call_keeps_standing x e now takes_error = error_stands x e
call_keeps_standing (idle i) e now (listens backlog found) = listening_stands i backlog (name_or i.name found)
call_keeps_standing plain e now asked = refl
call_keeps_standing x e now asked = refl
