-- The limits of a kernel.
use Rattle.std.specs.Prelude.{ℕ, ◌≤◌}

pub record Limits : Type 0 where
  pub descriptors : ℕ  -- numbers of a process
  pub files : ℕ  -- live open file descriptions
  pub processes : ℕ  -- living processes
  pub watches : ℕ  -- registrations in the kernel
  pub pipe_bytes : ℕ  -- capacity of a pipe
  pub sock_bytes : ℕ  -- bytes waiting in one direction of a socket pair

abbrev pub IsBetween : ℕ → ℕ → ℕ → Type 0
IsBetween least greatest k = (least ≤ k) × (k ≤ greatest)

pub record AreInRange (limits : Limits) : Type 0 where
  pub descriptors : IsBetween 3 65536 limits.descriptors
  pub files : IsBetween 1 1000000 limits.files
  pub processes : IsBetween 1 10000 limits.processes
  pub watches : limits.watches ≤ 1000000
  pub pipe_bytes : IsBetween 4096 1048576 limits.pipe_bytes
  pub sock_bytes : IsBetween 1 1048576 limits.sock_bytes

-- those of a kernel of which nothing else is said
abbrev pub default_limits : Limits
default_limits = record {
  descriptors = 1024;
  files = 4096;
  processes = 64;
  watches = 4096;
  pipe_bytes = 65536;
  sock_bytes = 65536;
}
