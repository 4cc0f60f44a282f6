-- Connections by name: one is made where somebody listens, waits there, and is accepted, or goes with the listener.
use Rattle.std.specs.Prelude.{Bool, List, None, Option, Some, [], filter, if◌then◌else◌, not, slice_set, true, ℕ, ◌++◌, ◌==◌, ◌∷◌}
use Rattle.ep_base.specs.declared.object.End.TheVariants.{Second}
use Rattle.ep_base.specs.declared.socket.Name.{Name}
use Rattle.ep_machine.specs.Bits.{IN, raises}
use Rattle.ep_machine.specs.Deaths.{kept_object, named_in_tables}
use Rattle.ep_machine.specs.Files.{Files, Place, content_at, live, raised_at, with_object}
use Rattle.ep_machine.specs.Lists.{is_among, numbered}
use Rattle.ep_machine.specs.Objects.{Object, close_end, is_waiting, listener, listens_at, pair}
use Rattle.ep_machine.specs.Sockets.{new_connection}
use Rattle.ep_machine.specs.Tables.{describe}
use Rattle.ep_machine.specs.Unconnected.{Idle}

-- what waits at an object: only at a listener anything does
abbrev pub pending_in : Object → List ℕ
pending_in (listener l) = l.pending
pending_in x = []

-- Connecting: the socket becomes the first end, and the second one waits at the listener, which is told.
-- the object that listens at a name
abbrev pub first_listening : Name → List (ℕ × Object) → Option ℕ
first_listening name [] = None
first_listening name (x ∷ xs) = if listens_at name (Some x.1) then Some x.0 else first_listening name xs

abbrev pub listening_at : Files → Name → Option ℕ
listening_at s name = first_listening name (numbered 0 s.objects)

abbrev pub with_pending : ℕ → Object → Object
with_pending k (listener l) = listener (record l { pending = l.pending ++ k ∷ [] })
with_pending k x = x

-- object k, an idle socket, connects by this name to object m, which listens there
abbrev pub join : ℕ → Files → ℕ → Idle → Name → ℕ → Files × List (ℕ × ℕ)
join capacity s k x name m =
    let connected = with_object s k (pair (new_connection x.family capacity x.name (Some name))) in
    let after = with_object connected m (with_pending k (content_at s m)) in
    (after, raised_at after m (raises IN 0))

-- Accepting: the second end of the connection that waits longest gets a description.
abbrev pub first_waiting : Files → List ℕ → Option ℕ
first_waiting s [] = None
first_waiting s (k ∷ ks) = if is_waiting (content_at s k) then Some k else first_waiting s ks

abbrev pub without_pending : ℕ → Object → Object
without_pending k (listener l) = listener (record l { pending = filter (λ j. not (j == k)) l.pending })
without_pending k x = x

abbrev pub accepted : Object → Object
accepted (pair p) = pair (record p { is_accepted = true })
accepted x = x

-- by a process, of the connection k at the listener m
abbrev pub accept : Files → ℕ → ℕ → Option ℕ → Bool → Files
accept s p m None cloexec = s
accept s p m (Some k) cloexec =
    let left = with_object s m (without_pending k (content_at s m)) in
    describe (with_object left k (accepted (content_at s k))) p k Second cloexec

-- Leaving: what waits at a listener goes with the last name of that.
-- nobody will have the second end of connection k, which closes
abbrev pub let_go : Files × List (ℕ × ℕ) → ℕ → Files × List (ℕ × ℕ)
let_go now k =
    let s = now.0 in
    let x = content_at s k in
    let closed = close_end x Second in
    if is_waiting x then (record s { objects = slice_set s.objects k (kept_object s k closed.0) }, now.1 ++ raised_at s k closed.1) else now

abbrev pub let_all_go : Files × List (ℕ × ℕ) → List ℕ → Files × List (ℕ × ℕ)
let_all_go now [] = now
let_all_go now (k ∷ ks) = let_all_go (let_go now k) ks

abbrev pub pending_at : Files → List (ℕ × Place) → List ℕ
pending_at s [] = []
pending_at s (x ∷ xs) = pending_in (content_at s x.1.object) ++ pending_at s xs

-- what waits at listeners that no table names any more; no waiter holds a listener
abbrev pub abandoned : Files → List ℕ
abandoned s = let names = named_in_tables s.tables in pending_at s (filter (λ x. not (is_among names x.0)) (live s))

-- the files without it, and what that raises
abbrev pub without_abandoned : Files → Files × List (ℕ × ℕ)
without_abandoned s = let_all_go (s, []) (abandoned s)
