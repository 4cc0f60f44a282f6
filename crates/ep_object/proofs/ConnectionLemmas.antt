-- What connections change of objects that others have: who joins, who waits, and who is accepted.
use Rattle.std.proofs.Common.{◌≡◌, ◌≢◌, ℕ, ◌==◌, ◌&&◌, ◌++◌, ◌∙◌, Bool, true, false, List, [], ◌∷◌, None, Option, Some, filter, if◌then◌else◌, inr, not, refl, ap, subst, sym}
use Rattle.ep_machine.specs.Objects.{pair, listener, plain, idle, instance, is_waiting, is_instance, is_plain, object_present, listens_at, connect, Object}
use Rattle.ep_object.specs.Kinds.{kind_number}
use Rattle.ep_machine.specs.Connections.{with_pending, without_pending, first_waiting, pending_in, join, accepted}
use Rattle.std.proofs.lemmas.Bool.{false≢true}
use Rattle.ep_object.specs.Connecting.{IsIdle, IsListener, connection}
use Rattle.ep_base.specs.declared.object.End.{End}
use Rattle.ep_base.specs.declared.object.End.TheVariants.{First, Second}
use Rattle.ep_object.specs.Law.{is_first, object_has}
use Rattle.ep_base.specs.declared.socket.Hearing.{Hearing}
use Rattle.ep_base.specs.declared.socket.Name.{Name}
use Rattle.ep_machine.specs.Sockets.{is_tcp}
use Rattle.ep_object.proofs.BitLemmas.{Covers, to_bits, no_bit, covers_self}
use Rattle.ep_object.proofs.IdleLemmas.{connection_begins, by_connect}
use Rattle.ep_machine.specs.Lists.{is_empty}
use Rattle.std.specs.Int.{bit_at}
use Rattle.ep_machine.specs.Bits.{when, IN}
use Rattle.ep_object.proofs.StayLemmas.{when_stays}
use Rattle.ep_object.proofs.OwnEndLemmas.{Shows}
use Rattle.ep_machine.specs.Files.{Files}
use Rattle.ep_base.specs.declared.errno.Errno.{Errno}
use Rattle.ep_base.specs.declared.errno.Errno.TheVariants.{Einval, Enotsock}
use Rattle.ep_base.specs.declared.socket.Family.TheVariants.{Tcp, Unix}
use Rattle.ep_machine.specs.Effect.{first}
use Rattle.std.proofs.lemmas.Option.{none-some}
use Rattle.ep_base.specs.declared.socket.Family.{Family}
use Rattle.ep_base.specs.declared.socket.Space.{Space}
use Rattle.ep_machine.specs.Unconnected.{connect_refusals_of, Idle, unheard_refusals}
use Rattle.ep_machine.specs.Objects.{of_socket, connect_refusals, is_socket}
use Rattle.ep_machine.specs.State.{Change}
use Rattle.ep_machine.specs.Step.{join_change}
use Rattle.ep_machine.specs.Listening.{Listener}

-- what holds by a test
pub by_test : {X : Type 0} (P : X → Type 0) (b : Bool) (x y : X) → (b ≡ true → P x) → (b ≡ false → P y) → P (if b then x else y)
by_test P true x y f g = f refl
by_test P false x y f g = g refl

-- The kinds.
pub pending_kind : (k : ℕ) (x : Object) → kind_number (with_pending k x) ≡ kind_number x
pending_kind k (listener l) = refl
pending_kind k plain = refl
pending_kind k x = refl

pub without_kind : (k : ℕ) (x : Object) → kind_number (without_pending k x) ≡ kind_number x
without_kind k (listener l) = refl
without_kind k plain = refl
without_kind k x = refl

pub accepted_kind : (x : Object) → kind_number (accepted x) ≡ kind_number x
accepted_kind (pair p) = refl
accepted_kind plain = refl
accepted_kind x = refl

pub waiting_kind : (x : Object) → is_waiting x ≡ true → kind_number x ≡ 2
waiting_kind (pair p) w = refl
waiting_kind plain w = absurd (false≢true w)
waiting_kind x w = absurd (false≢true w)

pub idle_kind : (x : Object) (i : Idle) → IsIdle x i → kind_number x ≡ 6
idle_kind x i is = ap kind_number is

pub listener_kind : (x : Object) (l : Listener) → IsListener x l → kind_number x ≡ 6
listener_kind x l is = ap kind_number is

-- no instance and no plain file is told by its number
pub instance_by_kind : (x y : Object) → kind_number y ≡ kind_number x → is_instance y ≡ is_instance x
instance_by_kind x y same = told y ∙ (ap (λ (k : ℕ). k == 5) same ∙ sym (told x)) where
  told : (z : Object) → is_instance z ≡ (kind_number z == 5)
  told plain = refl
  told z = refl

pub plain_by_kind : (x y : Object) → kind_number y ≡ kind_number x → is_plain y ≡ is_plain x
plain_by_kind x y same = told y ∙ (ap (λ (k : ℕ). k == 0) same ∙ sym (told x)) where
  told : (z : Object) → is_plain z ≡ (kind_number z == 0)
  told plain = refl
  told z = refl

pub waiting_plain : (x : Object) → is_waiting x ≡ true → is_plain x ≡ false
waiting_plain plain w = absurd (false≢true w)
waiting_plain x w = refl

pub waiting_instance : (x : Object) → is_waiting x ≡ true → is_instance x ≡ false
waiting_instance instance w = absurd (false≢true w)
waiting_instance x w = refl

pub idle_plain : (x : Object) (i : Idle) → IsIdle x i → is_plain x ≡ false
idle_plain x i is = ap is_plain is

pub idle_instance : (x : Object) (i : Idle) → IsIdle x i → is_instance x ≡ false
idle_instance x i is = ap is_instance is

pub listener_plain : (x : Object) (l : Listener) → IsListener x l → is_plain x ≡ false
listener_plain x l is = ap is_plain is

pub idle_is_apart : (x y : Object) (i : Idle) (l : Listener) → IsIdle x i → IsListener y l → x ≢ y
idle_is_apart x y i l is also same = unlike (sym is ∙ (same ∙ also)) where
  unlike : idle i ≡ listener l → ⊥
  unlike h = cc

pub waiting_is_apart : (x : Object) (l : Listener) → IsListener x l → is_waiting x ≡ false
waiting_is_apart x l is = ap is_waiting is

-- The ends.
first_alone : (e : End) → is_first e ≡ true → e ≡ First
first_alone First h = refl
first_alone Second h = absurd (false≢true h)

pub listener_first : (x : Object) (l : Listener) → IsListener x l → (e : End) → object_has x e ≡ true → e ≡ First
listener_first x l is e h = first_alone e (ap (λ (y : Object). object_has y e) (sym is) ∙ h)

pub idle_first : (x : Object) (i : Idle) → IsIdle x i → (e : End) → object_has x e ≡ true → e ≡ First
idle_first x i is e h = first_alone e (ap (λ (y : Object). object_has y e) (sym is) ∙ h)

-- a connection that waits has the first end alone
pub waiting_first : (x : Object) (e : End) → is_waiting x ≡ true → object_has x e ≡ true → e ≡ First
waiting_first (pair p) First w h = refl
waiting_first (pair p) Second w h = absurd (both p.is_accepted p.second_end.is_closed w h) where
  both : (a c : Bool) → (not a && not c) ≡ true → (a && not c) ≡ true → ⊥
  both true c w h = false≢true w
  both false c w h = false≢true h
waiting_first plain e w h = absurd (false≢true w)
waiting_first x e w h = absurd (false≢true w)

second_part : (a b : Bool) → (a && b) ≡ true → b ≡ true
second_part true b h = h
second_part false b h = absurd (false≢true h)

-- once it is accepted it has the second one too
pub accepted_has : (x : Object) → is_waiting x ≡ true → object_has (accepted x) Second ≡ true
accepted_has (pair p) w = second_part (not p.is_accepted) _ w
accepted_has plain w = absurd (false≢true w)
accepted_has x w = absurd (false≢true w)

pub accepted_keeps : (x : Object) (e : End) → object_has x e ≡ true → object_has (accepted x) e ≡ true
accepted_keeps (pair p) First h = h
accepted_keeps (pair p) Second h = second_part p.is_accepted _ h
accepted_keeps plain e h = h
accepted_keeps x e h = h

pub without_has : (k : ℕ) (x : Object) (e : End) → object_has (without_pending k x) e ≡ object_has x e
without_has k (listener l) e = refl
without_has k plain e = refl
without_has k x e = refl

pub pending_has : (k : ℕ) (x : Object) (e : End) → object_has (with_pending k x) e ≡ object_has x e
pending_has k (listener l) e = refl
pending_has k plain e = refl
pending_has k x e = refl

pub connection_has : (capacity : ℕ) (i : Idle) (name : Name) → object_has (connection capacity i name) First ≡ true
connection_has capacity i name = refl

-- What they show.
pub accepted_shows : (x : Object) (e : End) (now : ℕ) → object_present (accepted x) e now ≡ object_present x e now
accepted_shows (pair p) First now = refl
accepted_shows (pair p) Second now = refl
accepted_shows plain e now = refl
accepted_shows x e now = refl

-- a new connection shows no more than the idle socket did
pub connection_shows : (capacity : ℕ) (x : Object) (i : Idle) (name : Name) (now : ℕ) → IsIdle x i → is_tcp i.family ≡ false → Covers (object_present x First now) (object_present (connection capacity i name) First now) 0
connection_shows capacity x i name now is unix =
    subst (λ (y : Object). Covers (object_present y First now) (object_present (connection capacity i name) First now) 0) (sym is)
    (to_bits _ _ _ (connection_begins i unix capacity i.name (Some name)))

shrinks : (p : ℕ → Bool) (xs : List ℕ) → not (is_empty (filter p xs)) ≡ true → not (is_empty xs) ≡ true
shrinks p [] h = h
shrinks p (x ∷ xs) h = refl

grows : (xs : List ℕ) (k : ℕ) → not (is_empty xs) ≡ true → not (is_empty (xs ++ k ∷ [])) ≡ true
grows [] k h = absurd (false≢true h)
grows (x ∷ xs) k h = refl

when_bit : (b : Bool) (n i : ℕ) → bit_at (when b n) i ≡ 1 → bit_at n i ≡ 1
when_bit true n i h = h
when_bit false n i h = absurd (no_bit i h)

-- nothing begins where one waits no more
pub without_shows : (k : ℕ) (x : Object) (e : End) (now : ℕ) → Covers (object_present x e now) (object_present (without_pending k x) e now) 0
without_shows k (listener l) e now = when_stays (not (is_empty l.pending)) (not (is_empty (filter (λ j. not (j == k)) l.pending))) IN (shrinks (λ j. not (j == k)) l.pending)
without_shows k plain e now = covers_self _ 0
without_shows k x e now = covers_self _ 0

-- IN alone begins where one comes to wait, and nothing ends
pub pending_begins : (k : ℕ) (x : Object) (l : Listener) (e : End) (now : ℕ) → IsListener x l → Covers (object_present x e now) (object_present (with_pending k x) e now) IN
pending_begins k x l e now is =
    subst (λ (y : Object). Covers (object_present y e now) (object_present (with_pending k y) e now) IN) (sym is) (λ i h. inr (when_bit (not (is_empty (l.pending ++ k ∷ []))) IN i h))

pub pending_stays : (k : ℕ) (x : Object) (e : End) (now : ℕ) → Shows x (with_pending k x) e now now
pending_stays k (listener l) e now = when_stays (not (is_empty (l.pending ++ k ∷ []))) (not (is_empty l.pending)) IN (grows l.pending k)
pending_stays k plain e now = covers_self _ 0
pending_stays k x e now = covers_self _ 0

-- Who is a listener: who is found by its name, and where something waits.
pub hears : (name : Name) (x : Object) → listens_at name (Some x) ≡ true → (l : Listener) × IsListener x l
hears name (listener l) h = (l, refl)
hears name plain h = absurd (false≢true h)
hears name x h = absurd (false≢true h)

pub pending_listener : (x : Object) (f : Files) (k : ℕ) → first_waiting f (pending_in x) ≡ Some k → (l : Listener) × IsListener x l
pending_listener (listener l) f k h = (l, refl)
pending_listener plain f k h = cc
pending_listener x f k h = cc

-- A connect of Unix that isn't refused. Nobody gets through yet, so there is none.
never_none : (xs : List (Bool × Errno)) (e : Errno) → first (xs ++ (true, e) ∷ []) ≡ None → ⊥
never_none [] e h = none-some e (sym h)
never_none ((true, x) ∷ xs) e h = none-some x (sym h)
never_none ((false, x) ∷ xs) e h = never_none xs e h

unix_refused : (family : Family) (i : Idle) (space : Space) (found : Option Name) (heard : Hearing) → is_tcp family ≡ false → first (connect_refusals_of family i space found heard) ≡ None → ⊥
unix_refused Tcp i space found heard unix h = false≢true (sym unix)
unix_refused Unix i space found heard unix h = never_none (unheard_refusals space heard) Einval h

past_test : (b : Bool) (e : Errno) (rest : List (Bool × Errno)) → first ((b, e) ∷ rest) ≡ None → first rest ≡ None
past_test true e rest h = absurd (none-some e (sym h))
past_test false e rest h = h

abbrev family_in : Object → Family
family_in (idle i) = i.family
family_in x = Unix

-- what a connect leaves idle was so, of the same family
left_idle : (x : Object) (found : Option Name) (i : Idle) → IsIdle (connect x found).1 i → (j : Idle) × IsIdle x j × (i.family ≡ j.family)
left_idle (idle j) found i h = (j, refl, sym (ap family_in h) ∙ by_connect j (λ f. f.1.family ≡ j.family) found refl refl refl)
left_idle plain found i h = cc
left_idle x found i h = cc

pub none_connects : (x : Object) (space : Space) (found : Option Name) (heard : Hearing) (i : Idle) → IsIdle (connect x found).1 i → is_tcp i.family ≡ false → first (of_socket x (connect_refusals x space found heard)) ≡ None → ⊥
none_connects x space found heard i is unix h =
    let was = left_idle x found i is in
    let tests = past_test (not (is_socket x)) Enotsock (connect_refusals x space found heard) h in
    unix_refused was.0.family was.0 space found heard (ap is_tcp (sym was.2) ∙ unix) (ap (λ (z : Object). first (connect_refusals z space found heard)) (sym was.1) ∙ tests)

-- What a join does to a change.
module _ (capacity : ℕ) (name : Name) (k : ℕ) (Q : Change → Type 0) where
  pub by_join_change : (c : Change) (y : Object) (o : Option ℕ) → Q c
      → ((x : Idle) (m : ℕ) → IsIdle y x → o ≡ Some m → is_tcp x.family ≡ false → let made = join capacity c.1.files k x name m in Q (c.0, record c.1 { files = made.0 }, c.2 ++ made.1))
      → Q (join_change capacity name k y o c)
  by_join_change c (idle x) (Some m) q j = by_test Q (is_tcp x.family) c _ (λ tcp. q) (λ unix. j x m refl refl unix)
  by_join_change c (idle x) None q j = q
  by_join_change c plain o q j = q
  by_join_change c y o q j = q
