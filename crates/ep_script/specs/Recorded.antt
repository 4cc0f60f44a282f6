-- What a run writes of the history that it makes, and how it ends.
use Rattle.std.specs.Io.KnownBytes.{Appends}
use Rattle.std.specs.List.{slice_get}
use Rattle.std.specs.Prelude.{List, None, Option, Some, [], take, ℕ, ◌++◌, ◌≡◌, ◌∷◌}
use Rattle.ep_base.specs.declared.record.Record.{Record}
use Rattle.ep_history.specs.Records.{record_line}
use Rattle.ep_script.specs.declared.fault.RecordedFault.{RecordedFault}
use Rattle.ep_script.specs.declared.fault.RecordedFault.TheVariants.{History, Memory, Script}
use Rattle.ep_script.specs.Outcome.{Faulted, Stopped}

-- each record is a line
abbrev pub history_text : List Record → List ℕ
history_text [] = []
history_text (r ∷ rs) = record_line r ++ 10 ∷ history_text rs

abbrev pub line_if : Option Record → List ℕ
line_if None = []
line_if (Some r) = record_line r ++ 10 ∷ []

-- the line of the record at this place, where there is one
abbrev pub line_at : ℕ → List Record → List ℕ
line_at place records = line_if (slice_get records place)

-- the lines of the records that the history gained were written, and nothing else
abbrev pub Writes : Option (List ℕ) → Option (List ℕ) → List Record → List Record → Type 0
Writes before written start history =
    (gained : List Record) × (history ≡ start ++ gained) × Appends before written (history_text gained)

-- the first bytes of these lines were written, and nothing else
abbrev pub WritesPart : Option (List ℕ) → Option (List ℕ) → List Record → List Record → Type 0
WritesPart before written start history =
    (gained : List Record) × (history ≡ start ++ gained) × ((n : ℕ) × Appends before written (take n (history_text gained)))

-- After a fault of the history each line that was looked at stands answered. So many bytes of answers may wait.
abbrev pub EndsBy : ℕ → RecordedFault → List ℕ → Option (List ℕ) → Option (List ℕ) → List Record → List Record → Type 0
EndsBy room (Script fault) input before written start history = Faulted room fault input before written start history
EndsBy room History input before written start history = (left : List (List ℕ)) × Stopped input before written start history 0 left
EndsBy room Memory input before written start history = (left : List (List ℕ)) × Stopped input before written start history 0 left
