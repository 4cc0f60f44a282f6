-- What an event reaches, as chains of links.
use Rattle.std.specs.Prelude.{◌≡◌, ◌&&◌, ◌==◌, ◌⊎◌, ◌↔◌, Bool, List, filter, map, nat_lt, true, ℕ}
use Rattle.ep_machine.specs.Bits.{IN, asked}
use Rattle.ep_machine.specs.Files.{Files}
use Rattle.ep_view.specs.KernelView.{KernelWatch, reached_now, watches_instance}
use Rattle.ep_law.specs.Laws.{Member, has_instance}
use Rattle.ep_view.specs.Marking.{above_now, guarded_now, is_guard}
use Rattle.ep_nest.specs.Chains.{IsAbove, IsShort}

-- an armed registration on an instance that asks for IN
abbrev pub lets_by : Files → KernelWatch → Bool
lets_by files x = x.armed && watches_instance files x && nat_lt 0 (asked x.mask IN)

-- from each instance to those from which something is passed on to it
abbrev pub open_links : Files → List KernelWatch → List (ℕ × ℕ)
open_links files xs = map (λ x. (x.instance, x.target)) (filter (lets_by files) xs)

-- an instance with a registration that passes something on, or one above it
abbrev pub IsReachedFrom : Files → ℕ → List KernelWatch → ℕ → Type 0
IsReachedFrom files n xs e = (x : KernelWatch) × Member x xs × ((x.passes_in == n) ≡ true) × ((e ≡ x.instance) ⊎ IsAbove (open_links files xs) e x.instance)

-- where no chain of such links is longer than four, IN reaches exactly these
abbrev pub ReachedIsAbove : Type 0
ReachedIsAbove = (files : Files) (n : ℕ) (xs : List KernelWatch) (e : ℕ)
    → IsShort (open_links files xs)
    → (reached_now files n xs e ≡ true) ↔ IsReachedFrom files n xs e

-- the instances above one by registrations that let IN climb are those to which a chain of such links leads
abbrev pub AboveIsAbove : Type 0
AboveIsAbove = (files : Files) (xs : List KernelWatch) (below e : ℕ)
    → IsShort (open_links files xs) → has_instance files below ≡ true
    → (above_now files xs below e ≡ true) ↔ IsAbove (open_links files xs) e below

-- from each instance to those that it watches, through whatever registration
abbrev pub all_links : Files → List KernelWatch → List (ℕ × ℕ)
all_links files xs = map (λ x. (x.instance, x.target)) (filter (watches_instance files) xs)

-- an exclusive registration is in it or in an instance beneath it
abbrev pub IsGuardedBy : Files → List KernelWatch → ℕ → Type 0
IsGuardedBy files xs e = (x : KernelWatch) × Member x xs × (is_guard x ≡ true) × ((e ≡ x.instance) ⊎ IsAbove (all_links files xs) e x.instance)

-- if registrations are of instances, and no chain of them is longer than four links, exactly these are guarded
abbrev pub GuardedIsAbove : Type 0
GuardedIsAbove = (files : Files) (xs : List KernelWatch) (e : ℕ)
    → IsShort (all_links files xs) → ((x : KernelWatch) → Member x xs → has_instance files x.instance ≡ true)
    → (guarded_now xs e ≡ true) ↔ IsGuardedBy files xs e
