-- One event on the kernel behind a handle. `None` is an empty handle.
use Rattle.std.specs.Prelude.{[], ◌<◌, ◌≡◌, ◌≤◌, ◌⊎◌, IsSomeAnd, List, None, Option, Some, false, length, map, true, ℕ, ℤ}
use Rattle.ep_base.specs.declared.answer.Answer.{Answer}
use Rattle.ep_base.specs.declared.call.Event.{Event}
use Rattle.ep_calls.specs.Acts.{Acts, ComesLast, is_no_memory}
use Rattle.ep_calls.specs.Spared.{IsSpared}
use Rattle.ep_flat.specs.Flat.{Asks, AsksNothing, bytes_of, flat_report, lacks_room, overlaid, reply_of, reports_of}
use Rattle.ep_flat.specs.declared.flat.FlatReply.{FlatReply}
use Rattle.ep_flat.specs.declared.flat.FlatReport.{FlatReport}
use Rattle.ep_flat.specs.declared.flat.FlatRequest.{FlatRequest}
use Rattle.ep_kernel.specs.ReadyBook.{ActsOnLists, ReadyBook, state_of}
use Rattle.ep_machine.specs.State.{State, Waiter}
use Rattle.ep_machine.specs.Waits.{waiter_of}
use Rattle.ep_exports.specs.Status.{fine, no_kernel, no_memory, no_room, no_such_event}

-- the reply, the room for bytes and the room for reports
pub record Room : Type 0 where
  pub reply : FlatReply
  pub bytes : List ℕ
  pub reports : List FlatReport

-- an answer was laid out at this moment
pub record IsLaidOut (answer : Answer) (now : ℕ) (before after : Room) : Type 0 where
  pub reply : after.reply ≡ reply_of answer now
  pub bytes : after.bytes ≡ overlaid before.bytes (bytes_of answer)
  pub reports : after.reports ≡ overlaid before.reports (map flat_report (reports_of answer))

-- nothing of it is cut where there is room for so many bytes and reports; of a resumption, where there is room for
-- the most reports of its wait
pub record Fits (s : State) (request : FlatRequest) (answer : Answer) (bytes reports : ℕ) : Type 0 where
  pub read : request.event ≡ 9 → length (bytes_of answer) ≤ bytes
  pub peek : request.event ≡ 27 → length (bytes_of answer) ≤ bytes
  pub wait : request.event ≡ 8 → length (reports_of answer) ≤ reports
  pub resumption : request.event ≡ 20 → (w : Waiter) → waiter_of s request.caller ≡ Some w → w.most ≤ reports
      → length (reports_of answer) ≤ reports

-- the kernel took one step of the machine by the event that was asked for, and the room has its answer
pub record Answered (old new : ReadyBook) (request : FlatRequest) (given : List ℕ) (before after : Room) : Type 0 where
  pub event : Event
  pub answer : Answer
  pub asked : Asks request given event
  pub limits : new.book.limits ≡ old.book.limits
  pub taken : new.book.taken ≡ old.book.taken
  pub capacity : old.book.capacity ≤ new.book.capacity
  pub spared : IsSpared (state_of old).files event → length old.book.past < old.book.capacity → is_no_memory answer ≡ false
  pub last : length old.book.past < old.book.capacity → ComesLast old.book.limits (record { 0 = request.caller }) event answer (state_of old)
  pub acts : Acts old.book.limits (record { 0 = request.caller }) event answer (state_of old) (state_of new) old.book.past new.book.past
  pub lists : ActsOnLists (record { 0 = request.caller }) event answer old new
  pub laid : IsLaidOut answer (state_of new).now before after
  pub fits : Fits (state_of old) request answer (length before.bytes) (length before.reports)

abbrev pub Called : Option ReadyBook → FlatRequest → List ℕ → Option ReadyBook → Room → Room → ℤ → Type 0
Called None request given new before after result = (result ≡ no_kernel) × (new ≡ None) × (after ≡ before)
Called (Some old) request given new before after result =
    ((result ≡ fine) × (lacks_room request (length before.bytes) (length before.reports) ≡ false)
    × IsSomeAnd new (λ kernel. Answered old kernel request given before after))
    ⊎ ((result ≡ no_room) × (lacks_room request (length before.bytes) (length before.reports) ≡ true) × (new ≡ Some old)
    × (after ≡ before))
    ⊎ ((result ≡ no_such_event) × AsksNothing request × (new ≡ Some old) × (after ≡ before))
    ⊎ ((result ≡ no_memory) × (request.event ≡ 10) × (given ≡ [] → ⊥) × (new ≡ Some old) × (after ≡ before))
