-- Waiting and resuming.
use Rattle.std.specs.List.{find, list_any}
use Rattle.std.specs.Prelude.{Bool, List, None, Option, Some, [], false, filter, if◌then◌else◌, map, nat_le}
use Rattle.std.specs.Prelude.{nat_lt, negsuc, not, pos, suc, unwrap_or, zero, ℕ, ℤ, ◌&&◌, ◌++◌, ◌+◌, ◌==◌}
use Rattle.std.specs.Prelude.{◌||◌, ◌∷◌}
use Rattle.ep_base.specs.declared.answer.Answer.TheVariants.{Done, Events, Parked, Still}
use Rattle.ep_machine.specs.Objects.{advance, plain}
use Rattle.ep_machine.specs.Readiness.{is_ready}
use Rattle.ep_machine.specs.Report.{plainly, report}
use Rattle.ep_machine.specs.Files.{Place, live, object_at}
use Rattle.ep_machine.specs.State.{Change, State, Waiter}

abbrev pub is_positive : ℤ → Bool
is_positive (pos k) = nat_lt 0 k
is_positive (negsuc k) = false

abbrev pub is_parked : State → ℕ → Bool
is_parked s caller = list_any (λ w. w.caller == caller) s.waiters

abbrev pub is_marked : State → ℕ → Bool
is_marked s caller = list_any (λ w. w.caller == caller && w.marked) s.waiters

abbrev pub has_parked : State → ℕ → Bool
has_parked s p = list_any (λ w. w.process == p) s.waiters

abbrev pub parked : State → ℕ → ℕ → ℕ → ℕ → Option ℕ → Change
parked s caller p e most deadline = (
  Parked,
  record s {
    waiters = s.waiters ++ record {
      caller = caller;
      process = p;
      instance = e;
      most = most;
      deadline = deadline;
      marked = false;
    } ∷ [];
  },
  [],
)

-- a negative timeout has no deadline
abbrev pub wait_for : State → ℕ → ℕ → ℕ → ℕ → ℤ → Change
wait_for s caller p e most (pos zero) = (Events [], s, [])
wait_for s caller p e most (pos (suc k)) = parked s caller p e most (Some (s.now + suc k))
wait_for s caller p e most (negsuc k) = parked s caller p e most None

abbrev pub wait : State → ℕ → ℕ → ℕ → ℕ → ℤ → List ℕ → Option Change
wait s caller p e most timeout picked =
    if is_ready s e then report s e most picked else plainly picked (wait_for s caller p e most timeout)

abbrev pub is_due : ℕ → Option ℕ → Bool
is_due now None = false
is_due now (Some deadline) = nat_le deadline now

abbrev pub waiter_of : State → ℕ → Option Waiter
waiter_of s caller = find (λ w. w.caller == caller) s.waiters

abbrev pub leave : ℕ → Change → Change
leave caller c = let s = c.1 in (c.0, record s { waiters = filter (λ w. not (w.caller == caller)) s.waiters }, c.2)

abbrev pub leave_after : ℕ → Option Change → Option Change
leave_after caller None = None
leave_after caller (Some c) = Some (leave caller c)

abbrev pub unmark : ℕ → Waiter → Waiter
unmark caller w = record w { marked = w.marked && not (w.caller == caller) }

abbrev pub unmarked : State → ℕ → State
unmarked s caller = record s { waiters = map (unmark caller) s.waiters }

-- nothing is reportable
abbrev pub resume_empty : State → Waiter → Change
resume_empty s w = if is_due s.now w.deadline then leave w.caller (Events [], s, []) else (Still, unmarked s w.caller, [])

abbrev pub resume_by : State → Option Waiter → List ℕ → Option Change
resume_by s None picked = plainly picked (Still, s, [])
resume_by s (Some w) picked =
    if not w.marked then plainly picked (Still, s, [])
    else if is_ready s w.instance then leave_after w.caller (report s w.instance w.most picked)
    else plainly picked (resume_empty s w)

abbrev pub resume : State → ℕ → List ℕ → Option Change
resume s caller picked = resume_by s (waiter_of s caller) picked

abbrev pub advance_at : State → ℕ → ℕ × Place → ℕ × ℕ
advance_at s now x = (x.0, advance (unwrap_or (object_at s.files (Some x.1)) plain) s.now now)

abbrev pub tick : State → ℕ → Change
tick s k = (Done, record s { now = s.now + k }, map (advance_at s (s.now + k)) (live s.files))

-- who is marked, and where
abbrev pub marked_if_due : ℕ → Waiter → Waiter
marked_if_due now w = record w { marked = w.marked || is_due now w.deadline }

abbrev pub waits_at : List Waiter → ℕ → Bool
waits_at ws e = list_any (λ w. w.instance == e) ws

abbrev pub is_marked_at : List Waiter → ℕ → Bool
is_marked_at ws e = list_any (λ w. w.instance == e && w.marked) ws
