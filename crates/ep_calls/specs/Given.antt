-- Which events are lent to a kernel, and the event that it is handed.
use Rattle.std.specs.Prelude.{List, [], ◌≡◌, ◌⊎◌, ℕ}
use Rattle.ep_base.specs.Call.{EventHasNoBytes}
use Rattle.ep_base.specs.declared.answer.Answer.{Answer}
use Rattle.ep_base.specs.declared.call.Event.{Event}
use Rattle.ep_calls.specs.declared.given.Kind.{Kind}
use Rattle.ep_calls.specs.declared.given.Kind.TheVariants.{Lent, Own}
use Rattle.ep_records.specs.Short.{IsSilentShort}
pub use Rattle.ep_records.specs.Short.{IsShortWrite, WritesFew}

-- an event of which nothing is copied beside the 48 bytes of its record
abbrev pub TakesNoCopy : Event → Type 0
TakesNoCopy event = EventHasNoBytes event ⊎ IsShortWrite event

-- a short write is answered by a number at most and reports nothing, so that its record takes no more
abbrev pub FitsSlot : Event → Answer → List ℕ → Type 0
FitsSlot event answer picked = IsShortWrite event → (picked ≡ []) × IsSilentShort event answer

-- the event that is handed over
abbrev pub event_in : Kind → Event
event_in (Own event) = event
event_in (Lent event) = event.now

-- it is lent only if nothing of it is copied
abbrev pub MayBeLent : Kind → Type 0
MayBeLent (Own event) = Unit {0}
MayBeLent (Lent event) = TakesNoCopy event.now
