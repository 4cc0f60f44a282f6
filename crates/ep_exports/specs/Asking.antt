-- Questions to the kernel behind a handle, which stays. `None` is an empty handle.
use Rattle.std.specs.Prelude.{◌≡◌, Bool, None, Option, Some, if◌then◌else◌, pos, ℕ, ℤ}
use Rattle.ep_calls.specs.Driver.{TellsNext, first_marked}
use Rattle.ep_kernel.specs.ReadyBook.{ReadyBook, state_of}
use Rattle.ep_machine.specs.Waits.{is_marked, is_parked}
use Rattle.ep_exports.specs.Status.{fine, no_kernel}

-- a number is told
abbrev pub AskedNow : Option ReadyBook → Option ReadyBook → ℕ → ℕ → ℤ → Type 0
AskedNow None new before after result = (result ≡ no_kernel) × (new ≡ None) × (after ≡ before)
AskedNow (Some kernel) new before after result =
    (result ≡ fine) × (new ≡ Some kernel) × (after ≡ (state_of kernel).now)

abbrev pub one_if : Bool → ℤ
one_if holds = if holds then pos 1 else pos 0

abbrev pub AskedParked : Option ReadyBook → ℕ → Option ReadyBook → ℤ → Type 0
AskedParked None caller new result = (result ≡ no_kernel) × (new ≡ None)
AskedParked (Some kernel) caller new result = (result ≡ one_if (is_parked (state_of kernel) caller)) × (new ≡ Some kernel)

abbrev pub AskedMarked : Option ReadyBook → ℕ → Option ReadyBook → ℤ → Type 0
AskedMarked None caller new result = (result ≡ no_kernel) × (new ≡ None)
AskedMarked (Some kernel) caller new result = (result ≡ one_if (is_marked (state_of kernel) caller)) × (new ≡ Some kernel)

-- 1 and a number, or 0 and the number that was there
abbrev pub Tells : ℤ → ℕ → ℕ → Option ℕ → Type 0
Tells result before after None = (result ≡ pos 0) × (after ≡ before)
Tells result before after (Some n) = (result ≡ pos 1) × (after ≡ n)

abbrev pub AskedFirst : Option ReadyBook → Option ReadyBook → ℕ → ℕ → ℤ → Type 0
AskedFirst None new before after result = (result ≡ no_kernel) × (new ≡ None) × (after ≡ before)
AskedFirst (Some kernel) new before after result =
    (new ≡ Some kernel) × Tells result before after (first_marked (state_of kernel))

abbrev pub AskedMoment : Option ReadyBook → Option ReadyBook → ℕ → ℕ → ℤ → Type 0
AskedMoment None new before after result = (result ≡ no_kernel) × (new ≡ None) × (after ≡ before)
AskedMoment (Some kernel) new before after result = (new ≡ Some kernel)
    × (moment : Option ℕ) × Tells result before after moment × TellsNext (state_of kernel) moment
