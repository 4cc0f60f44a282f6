-- Pipes. The first end is read, the second written.
use Rattle.std.specs.Prelude.{Bool, List, [], bit_and, drop, false, if◌then◌else◌, length, min, nat_le}
use Rattle.std.specs.Prelude.{nat_lt, not, take, true, ℕ, ◌&&◌, ◌++◌, ◌-◌, ◌∷◌}
use Rattle.ep_base.specs.declared.answer.Answer.TheVariants.{Bytes, Num}
use Rattle.ep_base.specs.declared.object.End.{End}
use Rattle.ep_base.specs.declared.object.End.TheVariants.{First, Second}
use Rattle.ep_base.specs.declared.errno.Errno.{Errno}
use Rattle.ep_base.specs.declared.errno.Errno.TheVariants.{Eagain, Ebadf, Epipe}
use Rattle.ep_base.specs.declared.object.Raised.{Raised}
use Rattle.ep_machine.specs.Bits.{ERR, HUP, IN, OUT, beginning, raises, union, when}
use Rattle.ep_machine.specs.Effect.{Effect}
use Rattle.ep_machine.specs.Lists.{is_empty}

pub record Pipe : Type 0 where
  pub capacity : ℕ
  pub bytes : List ℕ
  pub has_reader : Bool
  pub has_writer : Bool

abbrev pub new_pipe : ℕ → Pipe
new_pipe capacity = record { capacity = capacity; bytes = []; has_reader = true; has_writer = true }

abbrev pub pipe_room : Pipe → ℕ
pipe_room p = p.capacity - length p.bytes

abbrev pub pipe_present : Pipe → End → ℕ
pipe_present p First = union (when (not (is_empty p.bytes)) IN ∷ when (not p.has_writer) HUP ∷ [])
pipe_present p Second = union (when (nat_le 4096 (pipe_room p)) OUT ∷ when (not p.has_reader) ERR ∷ [])

abbrev pub pipe_read_refusals : Pipe → End → ℕ → List (Bool × Errno)
pipe_read_refusals p Second n = (true, Ebadf) ∷ []
pipe_read_refusals p First n = (nat_lt 0 n && is_empty p.bytes && p.has_writer, Eagain) ∷ []

abbrev pub pipe_taken : Pipe → ℕ → Pipe
pipe_taken p n = record p { bytes = drop n p.bytes }

abbrev pub pipe_read : Pipe → ℕ → Effect Pipe
pipe_read p n = (Bytes (take n p.bytes), pipe_taken p n, raises 0 (bit_and OUT (beginning (pipe_present p Second) (pipe_present (pipe_taken p n) Second))))

-- at most 4096 bytes are written whole
abbrev pub pipe_is_full_for : Pipe → ℕ → Bool
pipe_is_full_for p k = nat_lt (pipe_room p) (if nat_le k 4096 then k else 1)

abbrev pub pipe_write_refusals : Pipe → End → List ℕ → List (Bool × Errno)
pipe_write_refusals p First bytes = (true, Ebadf) ∷ []
pipe_write_refusals p Second [] = []
pipe_write_refusals p Second (b ∷ bs) = (not p.has_reader, Epipe) ∷ (pipe_is_full_for p (length (b ∷ bs)), Eagain) ∷ []

abbrev pub pipe_write : Pipe → List ℕ → Effect Pipe
pipe_write p bytes = (
  Num (min (length bytes) (pipe_room p)),
  record p { bytes = p.bytes ++ take (pipe_room p) bytes },
  raises (when (not (is_empty bytes)) IN) 0,
)

abbrev pub pipe_close : Pipe → End → Pipe × Raised
pipe_close p First = (record p { has_reader = false }, raises 0 ERR)
pipe_close p Second = (record p { has_writer = false }, raises HUP 0)
