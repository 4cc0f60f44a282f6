-- What holds at the end of each event: what lives is named and has its object, each registration watches an object
-- that can be watched, each waiter waits at an instance, no caller is parked twice, and no waiter is forgotten.
use Rattle.std.specs.List.{IsDistinct}
use Rattle.std.specs.Prelude.{All, Bool, List, None, Option, Some, filter, is_some, map, nat_eq, nat_lt, not, slice_index_or, true, ℕ, ◌&&◌, ◌≡◌, ◌≤◌, []}
use Rattle.ep_base.specs.declared.counts.Counts.{Counts}
use Rattle.ep_machine.specs.Deaths.{die_all, dying, named}
use Rattle.ep_machine.specs.Files.{Files, Place, is_live, object_of, place_of}
use Rattle.ep_view.specs.KernelView.{KernelWatch, climbing_all, freshened, kernel_watches, ready_now, settled_watches, stays_in}
use Rattle.ep_view.specs.Marking.{gets_mark_now, guarded_now, left_now, wakes_now}
use Rattle.ep_machine.specs.Bits.{IN, has_bit}
use Rattle.ep_machine.specs.Spread.{raised_of}
use Rattle.ep_machine.specs.Waits.{marked_if_due}
use Rattle.ep_machine.specs.Lists.{is_among}
use Rattle.ep_machine.specs.Marks.{marked_by}
use Rattle.ep_machine.specs.Objects.{Object, instance, plain}
use Rattle.ep_machine.specs.State.{State, Waiter, counts_of}
use Rattle.ep_machine.specs.Timer.{last_moment}

-- 0 where nothing can be watched, 1 at an instance, 2 at what shows bits of its own
abbrev pub kind_of : Option Object → ℕ
kind_of None = 0
kind_of (Some plain) = 0
kind_of (Some instance) = 1
kind_of (Some x) = 2

-- what epoll_ctl accepts as a target
abbrev pub can_be_watched : Option Object → Bool
can_be_watched o = nat_lt 0 (kind_of o)

-- a registration of an instance that lives watches what lives and can be watched
pub record IsSteady (files : Files) (instance target : ℕ) : Type 0 where
  pub instance_lives : is_live files instance ≡ true
  pub target_lives : is_live files target ≡ true
  pub target_shows : can_be_watched (object_of files target) ≡ true

-- no count was above what it is now
pub record IsPast (old now : Counts) : Type 0 where
  pub of_in : old.of_in ≤ now.of_in
  pub of_out : old.of_out ≤ now.of_out
  pub of_err : old.of_err ≤ now.of_err
  pub of_hup : old.of_hup ≤ now.of_hup
  pub of_rdhup : old.of_rdhup ≤ now.of_rdhup

abbrev pub HasSeen : Option Counts → Counts → Type 0
HasSeen None now = Unit {0}
HasSeen (Some old) now = IsPast old now

-- what lives has its object
abbrev pub is_backed : Files → Option Place → Bool
is_backed files None = true
is_backed files (Some p) = is_some (slice_index_or files.objects p.object None)

-- it is ready and unguarded
abbrev pub needs_mark : State → ℕ → Bool
needs_mark s e = let xs = kernel_watches s s.watches in ready_now s.files s.now xs e && not (guarded_now xs e)

-- what is marked of these waiters if nothing happens
abbrev pub marks_of : State → List Waiter → List Waiter
marks_of s ws = marked_by (needs_mark s) s.now ws

pub record AtRest (s : State) : Type 0 where
  pub now : s.now ≤ last_moment
  pub placed : (d : ℕ) → is_backed s.files (place_of s.files d) ≡ true
  pub named : (d : ℕ) → is_among (named s) d ≡ is_live s.files d  -- tables and waiters name what lives, and nothing else
  pub watches : All (λ x. IsSteady s.files x.instance x.target) s.watches
  pub seen : All (λ x. HasSeen x.seen (counts_of s x.target)) s.watches
  pub waiting : All (λ w. kind_of (object_of s.files w.instance) ≡ 1) s.waiters
  pub callers : IsDistinct nat_eq (map (λ w. w.caller) s.waiters)
  -- who is due is marked, and one at each unguarded ready instance that has waiters
  pub marks : marks_of s s.waiters ≡ s.waiters

-- the same after a change that is not settled: what lives may have lost its names, and marks are as they were
pub record Changed (s : State) : Type 0 where
  pub now : s.now ≤ last_moment
  pub placed : (d : ℕ) → is_backed s.files (place_of s.files d) ≡ true
  pub lives : (d : ℕ) → is_among (named s) d ≡ true → is_live s.files d ≡ true
  pub watches : All (λ x. IsSteady s.files x.instance x.target) s.watches
  pub seen : All (λ x. HasSeen x.seen (counts_of s x.target)) s.watches
  pub waiting : All (λ w. kind_of (object_of s.files w.instance) ≡ 1) s.waiters
  pub callers : IsDistinct nat_eq (map (λ w. w.caller) s.waiters)

-- what a change and its deaths raised
abbrev pub all_raised : State → List (ℕ × ℕ) → List (ℕ × ℕ)
all_raised after raised = (die_all (after.files, raised) (dying after)).1

-- the registrations that live, as they stand when marks are set: what arrived is fresh, and so is what IN reached from
-- below
abbrev pub standing : State → List (ℕ × ℕ) → Files → List KernelWatch
standing after raised files = climbing_all after.n files (map (freshened after.n (all_raised after raised)) (filter (stays_in files) (kernel_watches after after.watches)))

-- whether the end of an event that began with these waiters wakes an instance
abbrev pub wakes_at_end : List Waiter → State → List (ℕ × ℕ) → State → ℕ → Bool
wakes_at_end waited after raised t =
    wakes_now t.files t.now after.n (standing after raised t.files) (map (marked_if_due t.now) after.waiters)
    (λ e. has_bit (raised_of raised e) IN) (left_now waited after.waiters)

-- and whether it marks somebody there
abbrev pub marks_at_end : List Waiter → State → List (ℕ × ℕ) → State → ℕ → Bool
marks_at_end waited after raised t =
    gets_mark_now t.files t.now after.n (standing after raised t.files) (map (marked_if_due t.now) after.waiters)
    (λ e. has_bit (raised_of raised e) IN) (left_now waited after.waiters)

-- what nothing names is dead, and the registrations that live stay, as far as they are kept; waiters are marked by
-- registrations as they are then
pub record Settles (waited : List Waiter) (after : State) (raised : List (ℕ × ℕ)) (t : State) : Type 0 where
  pub n : t.n ≡ after.n
  pub now : t.now ≡ after.now
  pub files : t.files ≡ (die_all (after.files, []) (dying after)).0
  pub watches : kernel_watches t t.watches
      ≡ settled_watches after.n t.files (freshened after.n
      (all_raised after raised))
      (filter (stays_in t.files) (kernel_watches after after.watches))
  pub added : t.added ≡ after.added
  pub waiters : t.waiters ≡ marked_by (marks_at_end waited after raised t) t.now after.waiters
  pub seen : All (λ x. HasSeen x.seen (counts_of t x.target)) t.watches

-- the same of all but the waiters
pub record Remains (after : State) (raised : List (ℕ × ℕ)) (t : State) : Type 0 where
  pub n : t.n ≡ after.n
  pub now : t.now ≡ after.now
  pub files : t.files ≡ (die_all (after.files, []) (dying after)).0
  pub watches : kernel_watches t t.watches
      ≡ settled_watches after.n t.files (freshened after.n
      (all_raised after raised))
      (filter (stays_in t.files) (kernel_watches after after.watches))
  pub added : t.added ≡ after.added
  pub seen : All (λ x. HasSeen x.seen (counts_of t x.target)) t.watches
