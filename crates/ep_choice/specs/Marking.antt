-- Which instances get a mark at the end of an event, by their keys, and where they are looked for.
use Rattle.std.specs.Prelude.{Bool, List, Option, false, map, not, true, ℕ, ◌&&◌, ◌||◌, ◌≡◌, ◌⊎◌}
use Rattle.ep_base.specs.declared.ids.DescId.{DescId}
use Rattle.ep_calls.specs.Parking.{ready_key}
use Rattle.ep_calls.specs.Parts.{Parts}
use Rattle.ep_calls.specs.Readiness.{readiness, watches_of}
use Rattle.ep_calls.specs.Stands.{number_at, waiters_at}
use Rattle.ep_choice.specs.Choose.{HaveInstances}
use Rattle.ep_choice.specs.Guarded.{guarded_key}
use Rattle.ep_choice.specs.Room.{HaveRoom, Suits}
use Rattle.ep_choice.specs.declared.choice.Choice.{Choice}
use Rattle.ep_climb.specs.Mark.{attended}
use Rattle.ep_climb.specs.Reach.{AreRoomy, IsFrom}
use Rattle.ep_interest.specs.Registrations.{settled}
use Rattle.ep_machine.specs.Lists.{is_among}
use Rattle.ep_machine.specs.State.{Waiter}
use Rattle.ep_machine.specs.Waits.{is_marked_at, marked_if_due, waits_at}
use Rattle.ep_nest.specs.Links.{edges}
use Rattle.ep_walk.specs.Walk.{Walk}
use Rattle.ep_view.specs.KernelView.{KernelWatch, reached_now}
use Rattle.ep_view.specs.Marking.{narrowed_now}

-- each registration is of an instance, and there is room for all of them, and for those that lost one
pub record Fits (p : Parts) (w : Walk) (c : Choice) : Type 0 where
  pub instances : HaveInstances p
  pub reached : AreRoomy p.interest w
  pub choice : Suits p.interest c
  pub lost : HaveRoom c.lost.reached w

-- the waiters once marks for deadlines are set
abbrev pub due_in : Parts → List Waiter
due_in p = map (marked_if_due p.clock) p.parked

-- the registrations where of the exclusive ones on a target only the chosen one passes something on in event n
abbrev pub narrowed_in : ℕ → Parts → List KernelWatch
narrowed_in n p = narrowed_now p.tables.files n (watches_of p.tables p.interest) (readiness p.tables p.clock p.interest)
    (waiters_at p.tables.keys (due_in p))

-- event n wakes an instance: it reaches it by those, or attends it
abbrev pub woken_key : ℕ → Parts → Option DescId → ℕ → Bool
woken_key n p attend k =
    reached_now p.tables.files n (narrowed_in n p) (number_at p.tables.keys (record { 0 = k })) || is_among (attended attend) k

-- it is ready, and unguarded or woken
abbrev pub gets_mark_key : ℕ → Parts → Option DescId → ℕ → Bool
gets_mark_key n p attend k =
    ready_key p.tables p.clock p.interest k && (not (guarded_key p.tables p.interest k) || woken_key n p attend k)

-- an instance with waiters gets a mark in event n, and none is marked there once the due ones are: the event wakes it,
-- or it is among those that lost a registration, or above one of them
abbrev pub AreLookedAt : ℕ → Parts → List ℕ → Option DescId → Type 0
AreLookedAt n p lost attend = (e : ℕ) → waits_at p.parked e ≡ true → is_marked_at (due_in p) e ≡ false
    → gets_mark_key n p attend e ≡ true
    → (woken_key n p attend e ≡ true) ⊎ ((j : ℕ) × (is_among lost j ≡ true) × IsFrom (edges p.graph) e j)

-- the parts are the same but for what exclusive registrations pass on, if there are any, and for who is marked
pub record IsNarrowed (n : ℕ) (old new : Parts) : Type 0 where
  pub watches : watches_of old.tables new.interest ≡ narrowed_now old.tables.files n (watches_of old.tables old.interest)
      (readiness old.tables old.clock old.interest) (waiters_at old.tables.keys old.parked)
  pub entries : map settled new.interest.entries ≡ map settled old.interest.entries
  pub keys : new.interest.keys ≡ old.interest.keys
  pub added : new.interest.added ≡ old.interest.added
  pub next : new.interest.next ≡ old.interest.next
  pub others : new ≡ record old { interest = new.interest; parked = new.parked }
