-- Which instances lose a registration that may have guarded them, and which are looked at for that.
use Rattle.std.specs.List.{Contains, list_any}
use Rattle.std.specs.Prelude.{Bool, IsSome, List, None, Option, Some, if◌then◌else◌, not, true, ℕ, ◌&&◌, ◌==◌, ◌||◌, ◌↔◌, ◌≡◌}
use Rattle.ep_base.specs.declared.ids.DescId.{DescId}
use Rattle.ep_calls.specs.Climb.{is_nested}
use Rattle.ep_calls.specs.Parking.{ready_key}
use Rattle.ep_calls.specs.Parts.{Parts}
use Rattle.ep_calls.specs.declared.control.Operation.TheVariants.{Delete}
use Rattle.ep_calls.specs.declared.control.Operation.{Operation}
use Rattle.ep_calls.specs.declared.control.Plan.{Plan}
use Rattle.ep_base.specs.declared.ids.EntryId.{EntryId}
use Rattle.ep_choice.specs.Guarded.{guarded_key}
use Rattle.ep_climb.specs.Reach.{IsFrom}
use Rattle.ep_interest.specs.Exclusive.{is_exclusive}
use Rattle.ep_interest.specs.Registrations.{Registrations, entry_under, is_on, numbered}
use Rattle.ep_interest.specs.declared.entry.Entry.{Entry}
use Rattle.ep_machine.specs.Lists.{is_among}
use Rattle.ep_machine.specs.State.{Waiter}
use Rattle.ep_park.specs.Waiters.{longest_marked}
use Rattle.ep_walk.specs.Walk.{Walk, with_reached}
use Rattle.ep_table.specs.Value.{Seen, number_under}

-- a registration that may guard its instance, or those above: an exclusive one, or one on an instance
abbrev pub may_guard : Seen → Entry → Bool
may_guard v x = is_exclusive x || is_nested v x

-- the instance of such a one
abbrev pub guard_home : Seen → Option Entry → Option DescId
guard_home v None = None
guard_home v (Some x) = if may_guard v x then Some x.instance else None

-- with it reached, if there is one
abbrev pub with_home : Option DescId → Walk → Walk
with_home None w = w
with_home (Some d) w = with_reached w d.0

-- those of such ones on a description
abbrev pub guard_homes : Seen → Registrations → DescId → ℕ → Bool
guard_homes v r desc k = list_any (λ x. is_on desc x && may_guard v x && x.instance.0 == k) r.entries

abbrev pub has_guards : Registrations → Bool
has_guards r = list_any is_exclusive r.entries

-- the one that a DEL takes such a registration from, while there are exclusive ones
abbrev pub deleted_home : Operation → Option EntryId → Parts → Option DescId
deleted_home Delete (Some id) p = if has_guards p.interest then guard_home p.tables (entry_under p.interest id) else None
deleted_home Delete None p = None
deleted_home operation found p = None

abbrev pub deleted_by : Plan → Parts → Option DescId
deleted_by plan p = deleted_home plan.operation plan.found p

-- and those that the death of these descriptions takes one from
abbrev pub dying_homes : Parts → List DescId → ℕ → Bool
dying_homes p dying k = has_guards p.interest && list_any (λ desc. guard_homes p.tables p.interest desc k) dying

-- the keys are exactly these and those from which links lead down to them
abbrev pub AreAbove : List (ℕ × ℕ) → List ℕ → List ℕ → Type 0
AreAbove es below ks = (i : ℕ) → (is_among ks i ≡ true) ↔ ((j : ℕ) × (is_among below j ≡ true) × IsFrom es i j)

-- an instance is ready and not guarded
abbrev pub is_loose : Parts → ℕ → Bool
is_loose p k = ready_key p.tables p.clock p.interest k && not (guarded_key p.tables p.interest k)

-- with a mark for the one that waits longest there, if none is marked
abbrev pub marked_loose : Parts → ℕ → List Waiter → List Waiter
marked_loose p e ws = if is_loose p e then longest_marked e ws else ws

-- Of the registrations before, those that may guard have their instances among these once they are gone, unless none
-- was exclusive, or the instance is gone, too; and what was among them is.
pub record NotesLost (old new : Parts) (ks ls : List ℕ) : Type 0 where
  pub noted : has_guards old.interest ≡ true → (x : Entry) → Contains old.interest.entries x → may_guard old.tables x ≡ true
      → numbered new.interest.entries x.number ≡ None → IsSome (number_under new.tables x.instance)
      → is_among ls x.instance.0 ≡ true
  pub still : (i : ℕ) → is_among ks i ≡ true → is_among ls i ≡ true
