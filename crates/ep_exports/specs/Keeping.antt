-- From the opening of a kernel to its end: what lies behind a handle before and after. `None` is an empty handle.
use Rattle.std.specs.Prelude.{◌+◌, ◌≡◌, ◌≤◌, ◌⊎◌, IsSomeAnd, None, Option, Some, [], length, ℕ, ℤ}
use Rattle.ep_base.specs.Limits.{AreInRange, Limits}
use Rattle.ep_flat.specs.declared.flat.FlatLimits.{FlatLimits}
use Rattle.ep_kernel.specs.ReadyBook.{ReadyBook, state_of}
use Rattle.ep_exports.specs.Status.{fine, has_kernel, invalid, no_kernel, no_memory}

abbrev pub limits_in : FlatLimits → Limits
limits_in n = record {
  descriptors = n.descriptors;
  files = n.files;
  processes = n.processes;
  watches = n.watches;
  pipe_bytes = n.pipe_bytes;
  sock_bytes = n.sock_bytes;
}

-- a kernel in its opening state
abbrev pub opened : Limits → ReadyBook
opened limits = record { book = record { limits = limits; past = []; taken = []; capacity = 0 }; lists = [] }

abbrev pub Opened : Option ReadyBook → FlatLimits → Option ReadyBook → ℤ → Type 0
Opened None limits new result =
    ((result ≡ fine) × AreInRange (limits_in limits) × (new ≡ Some (opened (limits_in limits))))
    ⊎ ((result ≡ no_memory) × AreInRange (limits_in limits) × (new ≡ None))
    ⊎ ((result ≡ invalid) × (AreInRange (limits_in limits) → ⊥) × (new ≡ None))
Opened (Some kernel) limits new result = (result ≡ has_kernel) × (new ≡ Some kernel)

abbrev pub Closed : Option ReadyBook → Option ReadyBook → ℤ → Type 0
Closed None new result = (result ≡ no_kernel) × (new ≡ None)
Closed (Some kernel) new result = (result ≡ fine) × (new ≡ None)

-- state and history stay, and there may be more room for records
pub record KeepsAll (old new : ReadyBook) : Type 0 where
  pub limits : new.book.limits ≡ old.book.limits
  pub past : new.book.past ≡ old.book.past
  pub taken : new.book.taken ≡ old.book.taken
  pub capacity : old.book.capacity ≤ new.book.capacity

abbrev pub Reserved : Option ReadyBook → ℕ → Option ReadyBook → ℤ → Type 0
Reserved None additional new result = (result ≡ no_kernel) × (new ≡ None)
Reserved (Some old) additional new result = IsSomeAnd new (λ kernel. KeepsAll old kernel
    × (((result ≡ fine) × (length kernel.book.past + additional ≤ kernel.book.capacity)) ⊎ (result ≡ no_memory)))
