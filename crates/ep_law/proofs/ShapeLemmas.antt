-- The shapes of calls: whoever says the same of all calls of one shape goes by these, and not by each call.
use Rattle.std.proofs.Common.{◌≡◌, ℕ, ℤ, Bool, true, false, List, None, Option, Some, refl, pos, negsuc, if◌then◌else◌, ◌++◌, []}
use Rattle.ep_base.specs.Limits.{Limits}
use Rattle.ep_base.specs.declared.call.Call.{Call}
use Rattle.ep_base.specs.declared.call.Call.TheVariants.{Dup2, EpollCreate, EpollCtl, EpollWait, EventFd, Pipe as PipeCall, Plain, Socket, SocketPair, TimerFd}
use Rattle.ep_base.specs.declared.errno.Errno.{Errno}
use Rattle.ep_base.specs.declared.object.End.TheVariants.{First, Second}
use Rattle.ep_base.specs.declared.ids.Fd.{Fd}
use Rattle.ep_base.specs.declared.mask.Mask.{Mask}
use Rattle.ep_machine.specs.Files.{Files, named_by, place_of, object_number, object_under}
use Rattle.ep_machine.specs.FilesCalls.{files_call}
use Rattle.ep_machine.specs.Objects.{Object, ObjectCall, asks}
use Rattle.ep_object.specs.Law.{object_has}
use Rattle.ep_machine.specs.Refusal.{call_refusals, ctl_refusals, on_object, refusals_on, wait_refusals}
use Rattle.ep_machine.specs.Report.{plainly}
use Rattle.ep_machine.specs.State.{Change, State}
use Rattle.ep_machine.specs.Step.{call_change, change_on, files_change, object_change, joined}
use Rattle.ep_machine.specs.Tables.{create_one, create_two, dup2, same_number, close, exec, exit}
use Rattle.ep_machine.specs.Waits.{has_parked, wait}
use Rattle.ep_machine.specs.Watches.{ctl, number_in}
use Rattle.ep_machine.specs.Connections.{join, listening_at, first_waiting, pending_in, accept, without_abandoned}
use Rattle.ep_machine.specs.Unconnected.{Idle}
use Rattle.ep_machine.specs.Sockets.{is_tcp}
use Rattle.ep_base.specs.declared.socket.Name.{Name}
use Rattle.ep_base.specs.declared.call.Call.TheVariants.{Connect, Accept, Close, Exec, Exit}
use Rattle.ep_object.specs.Connecting.{IsIdle}
use Rattle.ep_object.proofs.ConnectionLemmas.{by_join_change}

-- What a call is refused for, and what it does if it isn't, has one of four shapes.
module _ (limits : Limits) (s : State) (caller p : ℕ) (ks : List ℕ) (P : Call → List (Bool × Errno) → Option Change → Type 0) where
  abbrev pub OfCtl : Type 0
  OfCtl = (epfd : Fd) (op : ℤ) (fd : Fd) (mask : Mask) (tag : ℕ) → P (EpollCtl epfd op fd mask tag) (ctl_refusals limits s p epfd.0 op fd.0 mask.0) (plainly ks (ctl s p epfd.0 op fd.0 mask.0 tag))

  abbrev pub OfWait : Type 0
  OfWait = (epfd : Fd) (most timeout : ℤ) → P (EpollWait epfd most timeout) (wait_refusals s p epfd.0 most) (wait s caller p (named_by s.files p epfd.0) (number_in most) timeout ks)

  abbrev pub OfObject : Type 0
  OfObject = (call : Call) (fd : Fd) (asked : ObjectCall) → asks s.files.objects call ≡ Some (fd, asked) → P call (on_object s p fd.0 asked) (plainly ks (joined limits p call (object_change s p fd.0 asked)))

  abbrev pub OfFiles : Type 0
  OfFiles = (call : Call) → asks s.files.objects call ≡ None → P call (files_call limits s.files p (has_parked s p) call).refusals (plainly ks (files_change s (files_call limits s.files p (has_parked s p) call)))

  by_asked : OfObject → OfFiles → (call : Call) (on : Option (Fd × ObjectCall)) → asks s.files.objects call ≡ on → P call (refusals_on limits s p call on) (plainly ks (change_on limits s p call on))
  by_asked o f call (Some on) is = o call on.0 on.1 is
  by_asked o f call None is = f call is

  pub by_shape : OfCtl → OfWait → OfObject → OfFiles → (call : Call) → P call (call_refusals limits s p call) (call_change limits s caller p call ks)
  by_shape c w o f (EpollCtl epfd op fd mask tag) = c epfd op fd mask tag
  by_shape c w o f (EpollWait epfd most timeout) = w epfd most timeout
  by_shape c w o f call = by_asked o f call (asks s.files.objects call) refl

pub dup2_same : (f : Files) (p : ℕ) (fd to : ℤ) (d : ℕ) → ((dup2 f p fd to d).descriptions ≡ f.descriptions) × ((dup2 f p fd to d).objects ≡ f.objects)
dup2_same f p fd (negsuc k) d = (refl, refl)
dup2_same f p fd (pos k) d = of_test (same_number fd (pos k)) _ refl refl where
  of_test : (b : Bool) (g : Files) → g.descriptions ≡ f.descriptions → g.objects ≡ f.objects → ((if b then f else g).descriptions ≡ f.descriptions) × ((if b then f else g).objects ≡ f.objects)
  of_test true g a b = (refl, refl)
  of_test false g a b = (a, b)

-- What a call on an object does it does to its own object, and a connect of Unix joins who listens, too.
module _ (limits : Limits) (p : ℕ) (Q : Change → Type 0) where
  -- what the join makes of a change
  abbrev pub Joins : Change → ℤ → Name → Idle → ℕ → Type 0
  Joins c fd name x m =
      let f = c.1.files in
      let made = join limits.sock_bytes f (object_number (place_of f (named_by f p fd))) x name m in
      Q (c.0, record c.1 { files = made.0 }, c.2 ++ made.1)

  abbrev pub MayJoin : Call → Change → Type 0
  MayJoin call c = (fd : Fd) (name : Name) (x : Idle) (m : ℕ) → call ≡ Connect fd name → IsIdle (object_under c.1.files p fd.0) x
      → listening_at c.1.files name ≡ Some m → is_tcp x.family ≡ false → Joins c fd.0 name x m

  pub by_joined : (call : Call) (c : Change) → Q c → MayJoin call c → Q (joined limits p call c)
  by_joined (Connect fd name) c q j =
      let f = c.1.files in
      by_join_change limits.sock_bytes name (object_number (place_of f (named_by f p fd.0))) Q c (object_under f p fd.0) (listening_at f name) q (λ x m is at unix. j fd name x m refl is at unix)
  by_joined call c q j = q

-- A call on the tables alone makes an object with one description or with two, accepts a connection, or leaves
-- descriptions and objects alone, but for what is left waiting.
module _ (limits : Limits) (f : Files) (p : ℕ) (busy : Bool) (P : Call → Files → List (ℕ × ℕ) → Type 0)
    (one : (call : Call) (x : Object) (cloexec : Bool) → object_has x First ≡ true → P call (create_one f p x cloexec) [])
    (two : (call : Call) (x : Object) (cloexec : Bool) → object_has x First ≡ true → object_has x Second ≡ true → P call (create_two f p x cloexec) [])
    (same : (call : Call) (g : Files) → g.descriptions ≡ f.descriptions → g.objects ≡ f.objects → P call g [])
    (gone : (call : Call) (g : Files) → g.descriptions ≡ f.descriptions → g.objects ≡ f.objects → P call (without_abandoned g).0 (without_abandoned g).1)
    (more : (fd : Fd) (cloexec : Bool) (k : ℕ) → first_waiting f (pending_in (object_under f p fd.0)) ≡ Some k → P (Accept fd cloexec) (accept f p (object_number (place_of f (named_by f p fd.0))) (Some k) cloexec) []) where
  by_waiting : (fd : Fd) (cloexec : Bool) (o : Option ℕ) → first_waiting f (pending_in (object_under f p fd.0)) ≡ o → P (Accept fd cloexec) (accept f p (object_number (place_of f (named_by f p fd.0))) o cloexec) []
  by_waiting fd cloexec None is = same (Accept fd cloexec) f refl refl
  by_waiting fd cloexec (Some k) is = more fd cloexec k is

  pub by_making : (call : Call) → P call (files_call limits f p busy call).after (files_call limits f p busy call).raised
  by_making (PipeCall cloexec) = two _ _ cloexec refl refl
  by_making (SocketPair cloexec) = two _ _ cloexec refl refl
  by_making (EventFd init semaphore cloexec) = one _ _ cloexec refl
  by_making (TimerFd clock cloexec) = one _ _ cloexec refl
  by_making (Plain cloexec) = one _ _ cloexec refl
  by_making (EpollCreate cloexec) = one _ _ cloexec refl
  by_making (Socket family cloexec) = one _ _ cloexec refl
  by_making (Accept fd cloexec) = by_waiting fd cloexec (first_waiting f (pending_in (object_under f p fd.0))) refl
  by_making (Dup2 fd to) = let left = dup2_same f p fd.0 to.0 (named_by f p fd.0) in gone (Dup2 fd to) (dup2 f p fd.0 to.0 (named_by f p fd.0)) left.0 left.1
  by_making (Close fd) = gone (Close fd) (close f p fd.0) refl refl
  by_making Exec = gone Exec (exec f p) refl refl
  by_making Exit = gone Exit (exit f p) refl refl
  by_making call = same call _ refl refl
