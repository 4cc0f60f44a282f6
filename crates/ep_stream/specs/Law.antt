-- The law of what is raised: a bit that begins to hold at an end is raised there.
use Rattle.std.specs.Prelude.{Bool, IsTrue, List, not, ℕ, ◌&&◌}
use Rattle.ep_base.specs.declared.object.End.{End}
use Rattle.ep_base.specs.declared.object.End.TheVariants.{First, Second}
use Rattle.ep_base.specs.declared.object.Raised.{Raised}
use Rattle.ep_base.specs.declared.socket.How.{How}
use Rattle.ep_machine.specs.Bits.{at_end, IsCovered}
use Rattle.ep_machine.specs.Effect.{attempt}
use Rattle.ep_machine.specs.Pipe.{Pipe, pipe_close, pipe_present, pipe_read, pipe_read_refusals, pipe_write, pipe_write_refusals}
use Rattle.ep_machine.specs.Sockets.{SocketPair, pair_close, pair_peek, pair_present, pair_read, pair_read_refusals}
use Rattle.ep_machine.specs.Sockets.{pair_shutdown, pair_take_error, pair_write, pair_write_refusals}

-- so it is at each end that is there before and after
abbrev pub RaisesArrivals : {X : Type 0} → (X → End → Bool) → (X → End → ℕ) → X → X → Raised → Type 0
RaisesArrivals has present x y raised = (e : End) → IsTrue (has x e) → IsTrue (has y e) → IsCovered (present x e) (present y e) (at_end raised e)

abbrev pub pipe_has : Pipe → End → Bool
pipe_has p First = p.has_reader
pipe_has p Second = p.has_writer

abbrev pub PipeReadLaw : Type 0
PipeReadLaw = (p : Pipe) (e : End) (n : ℕ)
    → let effect = attempt (pipe_read_refusals p e n) p (pipe_read p n) in
    RaisesArrivals pipe_has pipe_present p effect.1 effect.2

abbrev pub PipeWriteLaw : Type 0
PipeWriteLaw = (p : Pipe) (e : End) (bytes : List ℕ)
    → let effect = attempt (pipe_write_refusals p e bytes) p (pipe_write p bytes) in
    RaisesArrivals pipe_has pipe_present p effect.1 effect.2

abbrev pub PipeCloseLaw : Type 0
PipeCloseLaw = (p : Pipe) (e : End) → let closed = pipe_close p e in RaisesArrivals pipe_has pipe_present p closed.0 closed.1

-- the second end of a connection is there once it is accepted
abbrev pub pair_has : SocketPair → End → Bool
pair_has p First = not p.first_end.is_closed
pair_has p Second = p.is_accepted && not p.second_end.is_closed

abbrev pub PairReadLaw : Type 0
PairReadLaw = (p : SocketPair) (e : End) (n : ℕ)
    → let effect = attempt (pair_read_refusals p e n) p (pair_read p e n) in
    RaisesArrivals pair_has pair_present p effect.1 effect.2

abbrev pub PairPeekLaw : Type 0
PairPeekLaw = (p : SocketPair) (e : End) (n : ℕ)
    → let effect = attempt (pair_read_refusals p e n) p (pair_peek p e n) in
    RaisesArrivals pair_has pair_present p effect.1 effect.2

abbrev pub PairWriteLaw : Type 0
PairWriteLaw = (p : SocketPair) (e : End) (bytes : List ℕ)
    → let effect = attempt (pair_write_refusals p e bytes) p (pair_write p e bytes) in
    RaisesArrivals pair_has pair_present p effect.1 effect.2

abbrev pub PairShutdownLaw : Type 0
PairShutdownLaw = (p : SocketPair) (e : End) (how : How) → let effect = pair_shutdown p e how in RaisesArrivals pair_has pair_present p effect.1 effect.2

abbrev pub PairErrorLaw : Type 0
PairErrorLaw = (p : SocketPair) (e : End) → let effect = pair_take_error p e in RaisesArrivals pair_has pair_present p effect.1 effect.2

abbrev pub PairCloseLaw : Type 0
PairCloseLaw = (p : SocketPair) (e : End) → let closed = pair_close p e in RaisesArrivals pair_has pair_present p closed.0 closed.1
