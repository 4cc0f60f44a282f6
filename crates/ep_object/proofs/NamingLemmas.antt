-- Only a bind and a connect give a name, and only a socket without a connection gets one. A close keeps it or frees it.
use Rattle.std.proofs.lemmas.Bool.{false≢true}
use Rattle.std.proofs.Common.{◌≡◌, ◌==◌, ◌∙◌, ◌⊎◌, Bool, None, Option, Some, ap, false, if◌then◌else◌, inl, inr, not, refl, sym, true, ℕ, ℤ}
use Rattle.ep_base.specs.declared.errno.Errno.{Errno}
use Rattle.ep_base.specs.declared.errno.Errno.TheVariants.{Econnreset}
use Rattle.ep_base.specs.declared.object.End.{End}
use Rattle.ep_base.specs.declared.object.End.TheVariants.{First, Second}
use Rattle.ep_base.specs.declared.socket.Name.{Name}
use Rattle.ep_machine.specs.Effect.{Effect, attempt, first, unless}
use Rattle.ep_machine.specs.Objects.{Object, ObjectCall, listen, listens, asks_name, asks_time, close_end, idle, is_waiting, name_in, object_effect, object_refusals, pair, peeks, plain, reads, sets_time, shuts_down, takes_error, writes, is_idle, listener}
use Rattle.ep_machine.specs.Sockets.{Socket, SocketPair, loses, pair_closed}
use Rattle.ep_machine.specs.Unconnected.{Idle}
use Rattle.ep_machine.specs.Connections.{accepted, with_pending}
use Rattle.ep_object.specs.Connecting.{without_nth}
use Rattle.ep_object.proofs.IdleLemmas.{by_read, by_write}
use Rattle.ep_object.proofs.KindLemmas.{call_keeps_kind}
use Rattle.ep_object.proofs.StandingLemmas.{Standing, call_keeps_standing, standing}
use Rattle.ep_object.specs.Kinds.{kind_number}
use Rattle.ep_object.specs.Naming.{Gains, NamesNobody, called}
use Rattle.ep_base.specs.declared.call.Call.{Call}
use Rattle.ep_base.specs.declared.call.Call.TheVariants.{Read}
use Rattle.ep_machine.specs.Listening.{idle_listen_refusals, Listener}
use Rattle.ep_object.specs.Asked.{asked_in, plain_call}
use Rattle.ep_stream.proofs.PairClosed.{by_close, by_first_close, either, first_closed, the_second}

after : (refusal : Option Errno) (x : Object) (f : Effect Object) → name_in f.1 ≡ name_in x → name_in (unless refusal x f).1 ≡ name_in x
after None x f h = h
after (Some e) x f h = refl

-- what is no socket without a connection and no listener has the name that a connection has, or none
abbrev name_by : Option Standing → Option Name
name_by None = None
name_by (Some s) = if s.first_is_closed then None else s.name

named_as : (x : Object) → (kind_number x == 6) ≡ false → name_in x ≡ name_by (standing x)
named_as (idle i) h = cc
named_as (listener l) h = cc
named_as (pair p) h = refl
named_as x h = refl

-- no call changes that
of_another : (x : Object) (e : End) (now : ℕ) (asked : ObjectCall) → (kind_number x == 6) ≡ false → name_in (called x e now asked) ≡ name_in x
of_another x e now asked h =
    let y = (object_effect x e now asked).1 in
    after (first (object_refusals x e now asked)) x (object_effect x e now asked)
    (named_as y (ap (λ (k : ℕ). k == 6) (call_keeps_kind x e now asked) ∙ h) ∙ (ap name_by (call_keeps_standing x e now asked) ∙ sym (named_as x h)))

-- a listener keeps its own
listener_keeps : (l : Listener) (e : End) (now : ℕ) (asked : ObjectCall) → name_in (object_effect (listener l) e now asked).1 ≡ Some l.name
listener_keeps l e now (reads n) = refl
listener_keeps l e now asked = refl

-- so only a socket that doesn't listen gets one
pub other_object : (x : Object) (e : End) (now : ℕ) (asked : ObjectCall) → is_idle x ≡ false → name_in (called x e now asked) ≡ name_in x
other_object (idle i) e now asked h = cc
other_object (listener l) e now asked h =
    after (first (object_refusals (listener l) e now asked)) (listener l) (object_effect (listener l) e now asked) (listener_keeps l e now asked)
other_object x e now asked h = of_another x e now asked refl

effect_keeps : (i : Idle) (e : End) (now : ℕ) (asked : ObjectCall) → NamesNobody asked → name_in (object_effect (idle i) e now asked).1 ≡ i.name
effect_keeps i e now (reads n) h = by_read i (λ f. f.1.name ≡ i.name) (λ x. refl) n refl
effect_keeps i e now (writes bytes) h = by_write i (λ f. f.1.name ≡ i.name) (λ x. refl) bytes refl
effect_keeps i e now (peeks n) h = by_read i (λ f. f.1.name ≡ i.name) (λ x. refl) n refl
effect_keeps i e now (shuts_down how) h = refl
effect_keeps i e now takes_error h = refl
effect_keeps i e now (asks_name of_peer) h = refl
effect_keeps i e now (sets_time absolute value interval) h = refl
effect_keeps i e now asks_time h = refl
effect_keeps i e now asked h = absurd h

other_call : (i : Idle) (e : End) (now : ℕ) (asked : ObjectCall) → NamesNobody asked → name_in (called (idle i) e now asked) ≡ i.name
other_call i e now asked h = after (first (object_refusals (idle i) e now asked)) (idle i) (object_effect (idle i) e now asked) (effect_keeps i e now asked h)

-- what a listen gives a socket it gives the object that is one
pub listening_gained : (x : Object) (asked : ObjectCall) (i : Idle) (backlog : ℤ) (found gained : Option Name) → idle i ≡ x → listens backlog found ≡ asked
    → Gains (idle i) (attempt (idle_listen_refusals i found) (idle i) (listen (idle i) backlog found)).1 gained
    → (e : End) (now : ℕ) → Gains x (called x e now asked) gained
listening_gained x asked i backlog found gained is asks h e now = rw (← is, ← asks) h

-- by a call that names nobody, no object gets one
pub nobody_named : (x : Object) (e : End) (now : ℕ) (asked : ObjectCall) → NamesNobody asked → name_in (called x e now asked) ≡ name_in x
nobody_named (idle i) e now asked h = other_call i e now asked h
nobody_named x e now asked h = other_object x e now asked refl

-- a call is such a one, unless it is a bind, a listen or a connect
pub plain_names_nobody : (call : Call) → NamesNobody (asked_in (plain_call call))
plain_names_nobody (Read fd n) = tt
plain_names_nobody call = tt

-- A close keeps the name of what it closes, or frees it.
abbrev KeepsOrFrees : Option Name → Option Name → Type 0
KeepsOrFrees was now = (now ≡ was) ⊎ (now ≡ None)

either_keeps : (b : Bool) (was : Option Name) (x y : Socket) → KeepsOrFrees was (if x.is_closed then None else x.name) → KeepsOrFrees was (if y.is_closed then None else y.name)
    → KeepsOrFrees was (let z = if b then x else y in if z.is_closed then None else z.name)
either_keeps true was x y f g = f
either_keeps false was x y f g = g

pub close_keeps_or_frees : (x : Object) (e : End) → KeepsOrFrees (name_in x) (name_in (close_end x e).0)
close_keeps_or_frees (pair p) First =
    by_close (λ q. KeepsOrFrees (name_in (pair p)) (name_in (pair q))) p First (inr refl) (inr refl) (inr refl) (inr refl) (inr refl)
close_keeps_or_frees (pair p) Second =
    by_close (λ q. KeepsOrFrees (name_in (pair p)) (name_in (pair q))) p Second (inr refl) (inl refl) (inl refl) (inl refl)
    (either_keeps (loses p Second) (name_in (pair p)) (record p.first_end { error = Some Econnreset }) p.first_end (inl refl) (inl refl))
close_keeps_or_frees plain e = inl refl
close_keeps_or_frees x e = inl refl

-- The second end's close keeps the name, and the first end's frees it.
pub second_keeps_name : (x : Object) → name_in (close_end x Second).0 ≡ name_in x
second_keeps_name (pair p) = by_test p.first_end.is_closed refl where
  by_test : (b : Bool) → p.first_end.is_closed ≡ b → name_in (pair (pair_closed p Second)) ≡ name_in (pair p)
  by_test true h = ap (λ (q : SocketPair). name_in (pair q)) (the_second p Second h) ∙ ap (λ (c : Bool). if c then None else p.first_end.name) (sym h)
  by_test false h =
      by_first_close (λ q. name_in (pair q) ≡ name_in (pair p)) p Second (ap not h) refl refl refl
      (either (λ (y : Socket). (if y.is_closed then None else y.name) ≡ name_in (pair p)) (loses p Second) (record p.first_end { error = Some Econnreset }) p.first_end refl refl)
second_keeps_name plain = refl
second_keeps_name x = refl

pub first_closes_name : (x : Object) → is_waiting x ≡ true → name_in (close_end x First).0 ≡ None
first_closes_name (pair p) h = ap (λ (c : Bool). if c then None else (pair_closed p First).first_end.name) (first_closed p)
first_closes_name plain h = absurd (false≢true h)
first_closes_name x h = absurd (false≢true h)

-- Being accepted leaves it, and so does what comes to a listener, and what goes.
pub accepted_name : (x : Object) → name_in (accepted x) ≡ name_in x
accepted_name (pair p) = refl
accepted_name plain = refl
accepted_name x = refl

pub pushed_name : (k : ℕ) (x : Object) → name_in (with_pending k x) ≡ name_in x
pushed_name k (listener l) = refl
pushed_name k plain = refl
pushed_name k x = refl

pub removed_name : (i : ℕ) (x : Object) → name_in (without_nth i x) ≡ name_in x
removed_name i (listener l) = refl
removed_name i plain = refl
removed_name i x = refl
