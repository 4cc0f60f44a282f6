-- How many bytes a call could give, which decides whether it takes memory.
use Rattle.std.specs.Prelude.{Bool, false, if◌then◌else◌, length, true, ℕ, ◌≤◌}
use Rattle.ep_base.specs.declared.answer.Answer.{Answer}
use Rattle.ep_base.specs.declared.answer.Answer.TheVariants.{Bytes, Connecting, Done, Failed, Named, Num, Refused, Time}
use Rattle.ep_base.specs.declared.object.End.{End}
use Rattle.ep_machine.specs.Objects.{Object, ObjectCall, pair, peeks, pipe, reads}
use Rattle.ep_stream.specs.Waiting.{pair_waiting, pipe_waiting}

-- how many bytes the call asks for
abbrev pub asked_of : ObjectCall → ℕ
asked_of (reads n) = n
asked_of (peeks n) = n
asked_of asked = 0

abbrev pub is_peek : ObjectCall → Bool
is_peek (peeks n) = true
is_peek asked = false

-- how many bytes wait at this end that the call could give: nothing but a socket is peeked at
abbrev pub object_waiting : Object → End → ObjectCall → ℕ
object_waiting (pipe p) e asked = if is_peek asked then 0 else pipe_waiting p e
object_waiting (pair p) e asked = pair_waiting p e
object_waiting x e asked = 0

-- the answer has at most so many bytes, and it is one that a call on an object gives
abbrev pub GivesAtMost : ℕ → Answer → Type 0
GivesAtMost most (Bytes bytes) = length bytes ≤ most
GivesAtMost most (Num k) = Unit {0}
GivesAtMost most (Time value interval) = Unit {0}
GivesAtMost most Connecting = Unit {0}
GivesAtMost most (Failed e) = Unit {0}
GivesAtMost most (Named name) = Unit {0}
GivesAtMost most (Refused e) = Unit {0}
GivesAtMost most Done = Unit {0}
GivesAtMost most answer = ⊥
