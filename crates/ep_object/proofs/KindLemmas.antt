-- What calls and closes keep of an object: its kind, and the ends that it has.
use Rattle.std.proofs.Common.{◌≡◌, ◌≢◌, ◌==◌, ◌&&◌, ◌∙◌, ℕ, Bool, true, List, None, Some, ap, not, refl, sym, ℤ, Option, false}
use Rattle.ep_base.specs.declared.object.End.{End}
use Rattle.ep_base.specs.declared.object.End.TheVariants.{First, Second}
use Rattle.std.specs.Prelude.{if◌then◌else◌}
use Rattle.ep_base.specs.declared.errno.Errno.TheVariants.{Econnreset}
use Rattle.ep_base.specs.declared.socket.How.{How}
use Rattle.ep_machine.specs.Effect.{Effect}
use Rattle.ep_machine.specs.Lists.{is_empty}
use Rattle.ep_machine.specs.Objects.{Object, ObjectCall, close_end, instance, is_instance, is_plain, object_effect, pair, peek, peeks, pipe, plain, read, reads, idle, listens, listen, listening}
use Rattle.ep_machine.specs.Objects.{shutdown, shuts_down, take_error, takes_error, write, writes}
use Rattle.ep_machine.specs.Sockets.{Socket, SocketPair, comes_back, failed, fails_reading, fails_writing, loses, sent, sent_back, wants_more}
use Rattle.ep_object.specs.Kinds.{kind_number}
use Rattle.ep_object.specs.Law.{object_has, is_first}
use Rattle.ep_stream.proofs.PairClosed.{by_first_close, either, pair_closed_twice}
use Rattle.ep_stream.specs.Law.{pair_has}
use Rattle.ep_machine.specs.Unconnected.{Idle, name_or}
use Rattle.ep_base.specs.declared.socket.Name.{Name}
use Rattle.std.proofs.lemmas.Bool.{false≢true}

-- Kinds.
listening_kind : (i : Idle) (backlog : ℤ) (name : Option Name) → kind_number (listening i backlog name) ≡ 6
listening_kind i backlog None = refl
listening_kind i backlog (Some name) = refl

pub call_keeps_kind : (x : Object) (e : End) (now : ℕ) (asked : ObjectCall) → kind_number (object_effect x e now asked).1 ≡ kind_number x
call_keeps_kind plain e now (reads n) = refl
call_keeps_kind plain e now asked = refl
call_keeps_kind (idle i) e now (listens backlog found) = listening_kind i backlog (name_or i.name found)
call_keeps_kind x e now (reads n) = refl
call_keeps_kind x e now asked = refl

pub close_keeps_kind : (x : Object) (e : End) → kind_number (close_end x e).0 ≡ kind_number x
close_keeps_kind plain e = refl
close_keeps_kind x e = refl

-- so they keep what tests for one kind
module _ (test : Object → Bool) (n : ℕ) (by_kind : (x : Object) → test x ≡ (kind_number x == n)) (x : Object) (e : End) where
  pub call_keeps : (now : ℕ) (asked : ObjectCall) → test (object_effect x e now asked).1 ≡ test x
  call_keeps now asked = by_kind (object_effect x e now asked).1 ∙ (ap (λ (k : ℕ). k == n) (call_keeps_kind x e now asked) ∙ sym (by_kind x))

  close_keeps : test (close_end x e).0 ≡ test x
  close_keeps = by_kind (close_end x e).0 ∙ (ap (λ (k : ℕ). k == n) (close_keeps_kind x e) ∙ sym (by_kind x))

plain_by_kind : (x : Object) → is_plain x ≡ (kind_number x == 0)
plain_by_kind plain = refl
plain_by_kind x = refl

pub call_keeps_plain : (x : Object) (e : End) (now : ℕ) (asked : ObjectCall) → is_plain (object_effect x e now asked).1 ≡ is_plain x
call_keeps_plain = call_keeps is_plain 0 plain_by_kind

pub close_keeps_plain : (x : Object) (e : End) → is_plain (close_end x e).0 ≡ is_plain x
close_keeps_plain = close_keeps is_plain 0 plain_by_kind

instance_by_kind : (x : Object) → is_instance x ≡ (kind_number x == 5)
instance_by_kind plain = refl
instance_by_kind x = refl

pub call_keeps_instance : (x : Object) (e : End) (now : ℕ) (asked : ObjectCall) → is_instance (object_effect x e now asked).1 ≡ is_instance x
call_keeps_instance = call_keeps is_instance 5 instance_by_kind

pub close_keeps_instance : (x : Object) (e : End) → is_instance (close_end x e).0 ≡ is_instance x
close_keeps_instance = close_keeps is_instance 5 instance_by_kind

pub plain_is : (x : Object) → is_plain x ≡ true → x ≡ plain
plain_is plain h = refl
plain_is x h = cc

pub instance_is : (x : Object) → is_instance x ≡ true → x ≡ instance
instance_is instance h = refl
instance_is x h = cc

-- Ends.
-- a pair that became another has this end as before
abbrev Keeps : SocketPair → End → SocketPair → Type 0
Keeps p s q = pair_has q s ≡ pair_has p s

of_two : (p : SocketPair) (s : End) (b : Bool) (f g : Effect SocketPair) → Keeps p s f.1 → Keeps p s g.1 → Keeps p s (if b then f else g).1
of_two p s b f g = either (λ (h : Effect SocketPair). Keeps p s h.1) b f g

failed_has : (p : SocketPair) (e s : End) → Keeps p s (failed p e).1
failed_has p First First = refl
failed_has p First Second = refl
failed_has p Second First = refl
failed_has p Second Second = refl

read_has : (x : Object) (e : End) (n now : ℕ) (s : End) → object_has (read x e n now).1 s ≡ object_has x s
read_has (pipe p) e n now First = refl
read_has (pipe p) e n now Second = refl
read_has (pair p) First n now First = of_two p First (wants_more p First n && fails_reading p First) (failed p First) _ (failed_has p First First) refl
read_has (pair p) First n now Second = of_two p Second (wants_more p First n && fails_reading p First) (failed p First) _ (failed_has p First Second) refl
read_has (pair p) Second n now First = of_two p First (wants_more p Second n && fails_reading p Second) (failed p Second) _ (failed_has p Second First) refl
read_has (pair p) Second n now Second = of_two p Second (wants_more p Second n && fails_reading p Second) (failed p Second) _ (failed_has p Second Second) refl
read_has x e n now s = refl

peek_has : (x : Object) (e : End) (n : ℕ) (s : End) → object_has (peek x e n).1 s ≡ object_has x s
peek_has (pair p) e n s = of_two p s (wants_more p e n && fails_reading p e) (failed p e) _ (failed_has p e s) refl
peek_has x e n s = refl

-- a reset closes nothing
sent_back_has : (p : SocketPair) (e s : End) → Keeps p s (sent_back p e)
sent_back_has p First First = refl
sent_back_has p First Second = either (λ (x : Socket). (p.is_accepted && not x.is_closed) ≡ (p.is_accepted && not p.second_end.is_closed)) p.second_end.is_closed _ _ refl refl
sent_back_has p Second First = either (λ (x : Socket). not x.is_closed ≡ not p.first_end.is_closed) p.first_end.is_closed _ _ refl refl
sent_back_has p Second Second = refl

sent_has : (p : SocketPair) (e : End) (bytes : List ℕ) (s : End) → Keeps p s (sent p e bytes)
sent_has p First bytes First = refl
sent_has p First bytes Second = refl
sent_has p Second bytes First = refl
sent_has p Second bytes Second = refl

write_has : (x : Object) (e : End) (bytes : List ℕ) (s : End) → object_has (write x e bytes).1 s ≡ object_has x s
write_has (pipe p) e bytes First = refl
write_has (pipe p) e bytes Second = refl
write_has (pair p) e bytes s =
    of_two p s (is_empty bytes) _ _ refl
    (of_two p s (fails_writing p e) (failed p e) _ (failed_has p e s) (of_two p s (comes_back p e) _ _ (sent_back_has p e s) (sent_has p e bytes s)))
write_has x e bytes s = refl

shutdown_has : (x : Object) (e : End) (how : How) (s : End) → object_has (shutdown x e how).1 s ≡ object_has x s
shutdown_has (pair p) First how First = refl
shutdown_has (pair p) First how Second = refl
shutdown_has (pair p) Second how First = refl
shutdown_has (pair p) Second how Second = refl
shutdown_has x e how s = refl

error_has : (x : Object) (e s : End) → object_has (take_error x e).1 s ≡ object_has x s
error_has (pair p) e s = failed_has p e s
error_has x e s = refl

listening_has : (i : Idle) (backlog : ℤ) (name : Option Name) (s : End) → object_has (listening i backlog name) s ≡ is_first s
listening_has i backlog None s = refl
listening_has i backlog (Some name) s = refl

listen_has : (x : Object) (backlog : ℤ) (found : Option Name) (s : End) → object_has (listen x backlog found).1 s ≡ object_has x s
listen_has (idle i) backlog found s = listening_has i backlog (name_or i.name found) s
listen_has x backlog found s = refl

pub effect_has : (x : Object) (e : End) (now : ℕ) (asked : ObjectCall) (s : End) → object_has (object_effect x e now asked).1 s ≡ object_has x s
effect_has x e now (reads n) s = read_has x e n now s
effect_has x e now (writes bytes) s = write_has x e bytes s
effect_has x e now (peeks n) s = peek_has x e n s
effect_has x e now (shuts_down how) s = shutdown_has x e how s
effect_has x e now takes_error s = error_has x e s
effect_has x e now (listens backlog found) s = listen_has x backlog found s
effect_has plain e now asked s = refl
effect_has x e now asked s = refl

both_hold : (a b : Bool) → (a && b) ≡ true → (a ≡ true) × (b ≡ true)
both_hold true b h = (refl, h)
both_hold false b h = absurd (false≢true h)

-- what is lost is told without closing anything
told_has : (x : Socket) (b : Bool) → not x.is_closed ≡ true → not (if b then record x { error = Some Econnreset } else x).is_closed ≡ true
told_has x b h = either (λ (y : Socket). not y.is_closed ≡ true) b _ _ h h

pub close_has : (x : Object) (e s : End) → s ≢ e → object_has x s ≡ true → object_has (close_end x e).0 s ≡ true
close_has (pipe p) First First ne h = absurd (ne refl)
close_has (pipe p) First Second ne h = h
close_has (pipe p) Second First ne h = h
close_has (pipe p) Second Second ne h = absurd (ne refl)
close_has (pair p) First First ne h = absurd (ne refl)
close_has (pair p) First Second ne h =
    let both = both_hold p.is_accepted (not p.second_end.is_closed) h in
    by_first_close (λ q. pair_has q Second ≡ true) p First both.1 h h h (rw (both.0) (told_has p.second_end (loses p First) both.1))
close_has (pair p) Second First ne h = by_first_close (λ q. pair_has q First ≡ true) p Second h h h h (told_has p.first_end (loses p Second) h)
close_has (pair p) Second Second ne h = absurd (ne refl)
close_has x e s ne h = h

-- in whichever order two ends close
pub closes_commute : (x : Object) (a b : End) → (close_end (close_end x a).0 b).0 ≡ (close_end (close_end x b).0 a).0
closes_commute (pipe p) First First = refl
closes_commute (pipe p) First Second = refl
closes_commute (pipe p) Second First = refl
closes_commute (pipe p) Second Second = refl
closes_commute (pair p) a b = ap pair (pair_closed_twice p a b)
closes_commute x a b = refl
