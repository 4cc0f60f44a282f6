-- A record as an object of four members, and the record that a line of JSON is.
use Rattle.std.specs.Prelude.{List, None, Option, Some, [], codes, if◌then◌else◌, map, option_and_then, true, ℕ, ◌==◌, ◌∷◌}
use Rattle.std.specs.Str.{is_utf8}
use Rattle.serde_json.specs.Data.{Data, boolean}
use Rattle.serde_json.specs.Read.{read as json}
use Rattle.serde_json.specs.Written.{compact_text}
use Rattle.ep_base.specs.declared.answer.Answer.{Answer}
use Rattle.ep_base.specs.declared.call.Event.{Event}
use Rattle.ep_base.specs.declared.call.Event.TheVariants.{Call as CallOf, Resume, Tick}
use Rattle.ep_base.specs.declared.record.Record.{Record}
use Rattle.ep_history.specs.Answers.{affirmed, answer_data, answer_of}
use Rattle.ep_history.specs.Calls.{call_data, call_of}
use Rattle.ep_history.specs.Fields.{array_of, each_of, named, natural, object_of, required, single, size, tagged, u32_value, u64_value, ◌>>=◌}

-- ---- what is printed

abbrev pub event_data : Event → Data
event_data (CallOf pid call) = object_of ((codes "pid", natural pid.0) ∷ (codes "call", call_data call) ∷ [])
event_data Resume = tagged (codes "resume") (boolean true)
event_data (Tick n) = tagged (codes "tick") (natural n)

abbrev pub record_object : ℕ → Data → Data → Data → Data
record_object caller event answer picked =
    object_of ((codes "caller", natural caller) ∷ (codes "event", event) ∷ (codes "answer", answer) ∷ (codes "picked", picked) ∷ [])

abbrev pub record_data : Record → Data
record_data r = record_object r.caller.0 (event_data r.event) (answer_data r.answer) (array_of (map natural r.picked))

-- the text of a record, with no space
abbrev pub record_line : Record → List ℕ
record_line r = compact_text (record_data r)

-- ---- what is read

abbrev pub call_event : Data → Option Event
call_event d = do
  pid ← required (codes "pid") u64_value d
  call ← required (codes "call") call_of d
  if size d == 2 then Some (CallOf (record { 0 = pid }) call) else None

abbrev pub tick_event : Data → Option Event
tick_event d = do
  n ← u64_value d
  Some (Tick n)

abbrev pub other_events : List (List ℕ × (Data → Option Event))
other_events = (codes "resume", affirmed Resume) ∷ (codes "tick", tick_event) ∷ []

abbrev pub event_or : Data → Option (List ℕ × Data) → Option Event
event_or d (Some only) = named other_events only.0 only.1
event_or d None = call_event d

abbrev pub event_of : Data → Option Event
event_of d = event_or d (single d)

abbrev pub result_of : Data → Option (Answer × List ℕ)
result_of d = do
  answer ← required (codes "answer") answer_of d
  picked ← required (codes "picked") (each_of u64_value) d
  if size d == 4 then Some (answer, picked) else None

unfoldable pub record_of : Data → Option Record
record_of d = do
  caller ← required (codes "caller") u32_value d
  event ← required (codes "event") event_of d
  result ← result_of d
  Some (record { caller = record { 0 = caller }; event = event; answer = result.0; picked = result.1 })

-- the value that a line is
abbrev pub line_data : List ℕ → Option Data
line_data line = if is_utf8 line then json line else None

-- the record that a line is
abbrev pub line_record : List ℕ → Option Record
line_record line = option_and_then record_of (line_data line)
