-- Sockets without a connection: which way a call on one can go, and what it raises.
use Rattle.std.proofs.Common.{Bool, List, None, Option, Some, [], false, is_some, nat_lt, not, refl, true, unwrap_or, ℕ, ◌∷◌, sym, ◌≡◌}
use Rattle.ep_base.specs.declared.answer.Answer.TheVariants.{Bytes, Connecting, Done, Failed, Num}
use Rattle.ep_base.specs.declared.errno.Errno.{Errno}
use Rattle.ep_base.specs.declared.errno.Errno.TheVariants.{Econnaborted}
use Rattle.ep_base.specs.declared.object.End.TheVariants.{First}
use Rattle.ep_base.specs.declared.socket.Family.{Family}
use Rattle.ep_base.specs.declared.socket.Family.TheVariants.{Tcp, Unix}
use Rattle.ep_base.specs.declared.socket.Name.{Name}
use Rattle.ep_machine.specs.Bits.{ERR, HUP, IN, IsCovered, OUT, RDHUP, at_end, nothing, raises, union, when}
use Rattle.ep_machine.specs.Effect.{Effect, unless}
use Rattle.ep_machine.specs.Sockets.{is_tcp, pair_present, new_connection}
use Rattle.ep_machine.specs.Unconnected.{Idle, failed_bits, idle_connect, idle_failed, idle_fails, idle_present, idle_read, idle_take_error, idle_taken, idle_write, name_or}
use Rattle.ep_stream.proofs.Arrivals.{covered, covers, unchanged}
use Rattle.ep_stream.proofs.PairClosed.{either}
use Rattle.ep_stream.proofs.Truths.{of_two}
use Rattle.std.proofs.lemmas.Bool.{false≢true}

-- what it shows, by whether its connect failed and whether an error waits
abbrev shown : Bool → Bool → ℕ
shown failed waits = union (when failed IN ∷ OUT ∷ when waits ERR ∷ HUP ∷ when failed RDHUP ∷ [])

error_goes : (failed waits : Bool) → IsCovered (shown failed waits) (shown failed false) 0
error_goes failed waits = covered _ _ _ (of_two (λ a b. covers (shown a b) (shown a false) 0) refl failed waits)

failure_goes : (failed waits : Bool) → IsCovered (shown failed waits) (shown false false) 0
failure_goes failed waits = covered _ _ _ (of_two (λ a b. covers (shown a b) (shown false false) 0) refl failed waits)

all_come : (failed waits : Bool) → IsCovered (shown failed waits) (shown true true) failed_bits
all_come failed waits = covered _ _ _ (of_two (λ a b. covers (shown a b) (shown true true) failed_bits) refl failed waits)

-- a new connection shows no more than room, at the end that connected
connection_comes : (room failed waits : Bool) → IsCovered (shown failed waits) (union (0 ∷ 0 ∷ 0 ∷ when room OUT ∷ 0 ∷ [])) 0
connection_comes true failed waits = covered (shown failed waits) OUT 0 (of_two (λ a b. covers (shown a b) OUT 0) refl failed waits)
connection_comes false failed waits = covered (shown failed waits) 0 0 (of_two (λ a b. covers (shown a b) 0 0) refl failed waits)

module _ (x : Idle) where
  -- The ways that a call can go.
  module _ (P : Effect Idle → Type 0) (on_error : (e : Errno) → P (Failed e, idle_taken x, nothing)) where
    by_error : (error : Option Errno) (f : Effect Idle) → P f → P (idle_fails x error f)
    by_error None f otherwise = otherwise
    by_error (Some e) f otherwise = on_error e

    pub by_read : (n : ℕ) → P (Bytes [], x, nothing) → P (idle_read x n)
    by_read n otherwise =
        let none : Effect Idle = (Bytes [], x, nothing) in
        either P (nat_lt 0 n) (idle_fails x x.error none) none (by_error x.error none otherwise) otherwise

    pub by_write : (bytes : List ℕ) → P (Num 0, x, nothing) → P (idle_write x bytes)
    by_write [] otherwise = otherwise
    by_write (b ∷ bs) otherwise = by_error x.error (Num 0, x, nothing) otherwise

  pub by_connect : (P : Effect Idle → Type 0) (found : Option Name)
      → P (Done, x, nothing)
      → P (Failed (unwrap_or x.error Econnaborted), record x { has_failed = false; error = None }, nothing)
      → P (Connecting, idle_failed (record x { name = name_or x.name found }), raises failed_bits 0)
      → P (idle_connect x found)
  by_connect P found joins told fails = either P (not (is_tcp x.family)) _ _ joins (either P x.has_failed _ _ told fails)

  -- What begins to hold is raised.
  abbrev pub Raises : Effect Idle → Type 0
  Raises f = IsCovered (idle_present x) (idle_present f.1) (at_end f.2 First)

  pub stays_raises : Raises (Num 0, x, nothing)
  stays_raises = unchanged (idle_present x) 0

  error_raises : Raises (Num 0, idle_taken x, nothing)
  error_raises = error_goes x.has_failed (is_some x.error)

  pub read_raises : (n : ℕ) → Raises (idle_read x n)
  read_raises n = by_read Raises (λ e. error_raises) n stays_raises

  pub write_raises : (bytes : List ℕ) → Raises (idle_write x bytes)
  write_raises bytes = by_write Raises (λ e. error_raises) bytes stays_raises

  pub take_raises : Raises (idle_take_error x)
  take_raises = error_raises

  pub connect_raises : (found : Option Name) → Raises (idle_connect x found)
  connect_raises found = by_connect Raises found stays_raises (failure_goes x.has_failed (is_some x.error)) (all_come x.has_failed (is_some x.error))

  pub unless_raises : (refusal : Option Errno) (f : Effect Idle) → Raises f → Raises (unless refusal x f)
  unless_raises None f law = law
  unless_raises (Some e) f law = stays_raises

  -- What begins where it becomes a connection, of Unix.
  of_family : (family : Family) → is_tcp family ≡ false → (capacity : ℕ) (name peer : Option Name) → IsCovered (idle_present x) (pair_present (new_connection family capacity name peer) First) 0
  of_family Tcp is capacity name peer = absurd (false≢true (sym is))
  of_family Unix is capacity name peer = connection_comes (nat_lt 0 capacity) x.has_failed (is_some x.error)

  pub connection_begins : is_tcp x.family ≡ false → (capacity : ℕ) (name peer : Option Name) → IsCovered (idle_present x) (pair_present (new_connection x.family capacity name peer) First) 0
  connection_begins is = of_family x.family is
