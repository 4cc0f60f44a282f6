-- What is written for the lines of a script, and what a history gains by them.
use Rattle.std.specs.Prelude.{List, None, Option, Some, [], if◌then◌else◌, map, ℕ, ◌+◌, ◌++◌, ◌==◌, ◌≡◌, ◌∷◌}
use Rattle.ep_base.specs.declared.answer.Answer.{Answer}
use Rattle.ep_base.specs.declared.call.Event.{Event}
use Rattle.ep_base.specs.declared.ids.CallerId.{CallerId}
use Rattle.ep_base.specs.declared.record.Record.{Record}
use Rattle.ep_calls.specs.Acts.{is_no_memory}
use Rattle.ep_version.specs.declared.version.Version.{Version}
use Rattle.ep_version.specs.declared.version.Version.TheVariants.{V1}
use Rattle.ep_text.specs.Event.{Command, event}
use Rattle.ep_text.specs.Line.{bad_line, header_line, line_of}
use Rattle.ep_text.specs.Header.{header}

-- ---- what a line is

pub data Asked : Type 0 where
  no_command : Asked
  names : Version → Asked
  asks_for : Command → Asked

abbrev pub header_or : Option Version → Option Command → Asked
header_or (Some version) c = names version
header_or None (Some c) = asks_for c
header_or None None = no_command

-- only the first line can be a header
abbrev pub header_at : ℕ → List ℕ → Option Version
header_at number line = if number == 1 then header line else None

abbrev pub asks : Version → ℕ → List ℕ → Asked
asks version number line = header_or (header_at number line) (event version line)

-- the version behind a line
abbrev pub then_in : Version → Asked → Version
then_in version (names v) = v
then_in version no_command = version
then_in version (asks_for c) = version

-- of lines that are counted from this number on
abbrev pub readings : Version → ℕ → List (List ℕ) → List Asked
readings version number [] = []
readings version number (l ∷ ls) = asks version number l ∷ readings (then_in version (asks version number l)) (number + 1) ls

-- ---- what became of it

-- a command, and what it was answered
pub record Exchange : Type 0 where
  pub caller : CallerId
  pub event : Event
  pub answer : Answer

pub data Outcome : Type 0 where
  bad : Outcome
  head : Version → Outcome
  answered : Exchange → Outcome

abbrev pub asked_in : Outcome → Asked
asked_in bad = no_command
asked_in (head version) = names version
asked_in (answered x) = asks_for (x.caller, x.event)

-- one answer for each line that is a command; the first line is read in version 1
abbrev pub AreOf : List Outcome → List (List ℕ) → Type 0
AreOf outcomes lines = map asked_in outcomes ≡ readings V1 1 lines

-- the version behind these lines
abbrev pub version_after : Version → List Outcome → Version
version_after version [] = version
version_after version (o ∷ os) = version_after (then_in version (asked_in o)) os

abbrev pub said : Version → ℕ → Outcome → List ℕ
said version number bad = bad_line number
said version number (head v) = header_line v
said version number (answered x) = line_of version x.answer

-- of lines that are counted from this number on
abbrev pub transcript : Version → ℕ → List Outcome → List ℕ
transcript version number [] = []
transcript version number (o ∷ os) = said version number o ++ transcript (then_in version (asked_in o)) (number + 1) os

-- want of memory makes no record
abbrev pub recorded : Outcome → List Exchange
recorded bad = []
recorded (head version) = []
recorded (answered x) = if is_no_memory x.answer then [] else x ∷ []

abbrev pub records : List Outcome → List Exchange
records [] = []
records (o ∷ os) = recorded o ++ records os

abbrev pub bad_line_count : List Outcome → ℕ
bad_line_count [] = 0
bad_line_count (bad ∷ os) = bad_line_count os + 1
bad_line_count (head version ∷ os) = bad_line_count os
bad_line_count (answered x ∷ os) = bad_line_count os

-- ---- a history

abbrev pub told : Record → Exchange
told r = record { caller = r.caller; event = r.event; answer = r.answer }

-- the history gains the records of these lines, and no other
abbrev pub Grows : List Record → List Record → List Outcome → Type 0
Grows before after outcomes = (gained : List Record) × (after ≡ before ++ gained) × (map told gained ≡ records outcomes)
