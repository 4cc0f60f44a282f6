-- Which states of the machine the parts of a kernel stand for.
use Rattle.std.specs.Prelude.{true, ◌≡◌, ◌<◌, All, IsSome, List, None, Option, map, pos, slice_index_or, unwrap_or, ℕ, filter, length, ◌==◌}
use Rattle.ep_base.specs.declared.ids.DescId.{DescId}
use Rattle.ep_machine.specs.Files.{Files, object_of}
use Rattle.ep_view.specs.KernelView.{KernelWatch, kernel_watches, at_number}
use Rattle.ep_view.specs.AtRest.{can_be_watched, kind_of}
use Rattle.ep_machine.specs.State.{State, Waiter}
use Rattle.ep_machine.specs.Watches.{number_in}
use Rattle.ep_interest.specs.declared.entry.Entry.{Entry}
use Rattle.ep_interest.specs.Registrations.{Registrations}
use Rattle.ep_table.specs.Value.{Seen, holds_of}
pub use Rattle.ep_table.specs.Value.{KeepsHolds, KeepsKeys}

-- the number of the description under a key
abbrev pub number_at : List (Option ℕ) → DescId → ℕ
number_at keys key = unwrap_or (slice_index_or keys key.0 None) 0

-- a registration as the machine has it: numbers of descriptions stand in place of their keys
abbrev pub watch_at : List (Option ℕ) → Entry → KernelWatch
watch_at keys x = record {
  number = x.number;
  instance = number_at keys x.instance;
  fd = number_in x.fd.0;
  target = number_at keys x.desc;
  mask = x.mask.0;
  tag = x.tag;
  armed = x.armed;
  fresh = x.fresh;
  reported_in = x.reported_in;
  passes_in = x.passes_in;
}

-- its keys have descriptions, and it stands under a descriptor number
pub record IsLinked (keys : List (Option ℕ)) (x : Entry) : Type 0 where
  pub instance : IsSome (slice_index_or keys x.instance.0 None)
  pub desc : IsSome (slice_index_or keys x.desc.0 None)
  pub fd : x.fd.0 ≡ pos (number_in x.fd.0)

abbrev pub AreLinked : Seen → Registrations → Type 0
AreLinked tables interest = All (IsLinked tables.keys) interest.entries

-- the machine's waiters: numbers of instances stand in place of their keys
abbrev pub waiters_at : List (Option ℕ) → List Waiter → List Waiter
waiters_at keys ws = map (at_number (λ k. number_at keys (record { 0 = k }))) ws

-- it waits at an instance that has a description, for one report at least
pub record IsPlaced (keys : List (Option ℕ)) (w : Waiter) : Type 0 where
  pub instance : IsSome (slice_index_or keys w.instance None)
  pub most : 0 < w.most

abbrev pub ArePlaced : Seen → List Waiter → Type 0
ArePlaced tables ws = All (IsPlaced tables.keys) ws

pub record Stands (tables : Seen) (interest : Registrations) (parked : List Waiter) (clock : ℕ) (s : State) : Type 0 where
  pub now : s.now ≡ clock
  pub files : s.files ≡ tables.files
  pub watches : kernel_watches s s.watches ≡ map (watch_at tables.keys) interest.entries
  pub added : s.added ≡ interest.added
  pub waiters : s.waiters ≡ waiters_at tables.keys parked

-- what can be watched keeps its kind
abbrev pub KeepsKinds : Files → Files → Type 0
KeepsKinds f g = (d : ℕ) → can_be_watched (object_of f d) ≡ true → kind_of (object_of g d) ≡ kind_of (object_of f d)

-- a description is held once for each waiter at it
abbrev pub AreHeld : Seen → List Waiter → Type 0
AreHeld v ws = (d : ℕ) → holds_of v d ≡ length (filter (λ k. k == d) (map (λ w. w.instance) (waiters_at v.keys ws)))
