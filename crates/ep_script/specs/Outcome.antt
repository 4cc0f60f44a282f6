-- How the run of a script ends, and what then stands written and in the history. What the writer had before and has
-- then is known only where it tells its bytes; all else is said of every writer.
use Rattle.std.specs.Io.KnownBytes.{Appends}
use Rattle.std.specs.Prelude.{List, Option, [], length, map, ℕ, ◌+◌, ◌++◌, ◌<◌, ◌≡◌, ◌≤◌, ◌⊎◌, ◌∷◌}
use Rattle.ep_base.specs.declared.record.Record.{Record}
use Rattle.ep_script.specs.declared.fault.ScriptFault.{ScriptFault}
use Rattle.ep_script.specs.declared.fault.ScriptFault.TheVariants as fault
use Rattle.ep_script.specs.declared.summary.Summary.{Summary}
use Rattle.ep_script.specs.Lines.{AllFit, joined, lines_of, longest_line, most_lines, most_read}
use Rattle.ep_version.specs.declared.version.Version.TheVariants.{V1}
use Rattle.ep_script.specs.Transcript.{AreOf, Grows, Outcome, bad_line_count, records, said, told, transcript, version_after}

pub record Tallies (summary : Summary) (outcomes : List Outcome) : Type 0 where
  pub lines : summary.lines ≡ length outcomes
  pub records : summary.records ≡ length (records outcomes)
  pub bad : summary.bad ≡ bad_line_count outcomes

-- the history gained so many records
abbrev pub Gains : List Record → List Record → ℕ → Type 0
Gains start history count = (gained : List Record) × (history ≡ start ++ gained) × (length gained ≡ count)

-- the transcript of the whole input was written, and nothing else
pub record Whole (input : List ℕ) (before written : Option (List ℕ)) (start history : List Record) (summary : Summary) : Type 0 where
  pub outcomes : List Outcome
  pub of_lines : AreOf outcomes (lines_of input)
  pub text : Appends before written (transcript V1 1 outcomes)
  pub grows : Grows start history outcomes
  pub tally : Tallies summary outcomes
  pub fit : AllFit (lines_of input)

-- the history gained the records of these lines, and so many more at most
pub record GrowsBeyond (start history : List Record) (outcomes : List Outcome) (most : ℕ) : Type 0 where
  pub gained : List Record
  pub unanswered : List Record
  pub history_is : history ≡ start ++ (gained ++ unanswered)
  pub of_lines : map told gained ≡ records outcomes
  pub few : length unanswered ≤ most

-- the transcript of the first lines was written and nothing else, and these lines are left
pub record Stopped (input : List ℕ) (before written : Option (List ℕ)) (start history : List Record) (most : ℕ) (left : List (List ℕ)) : Type 0 where
  pub lines : List (List ℕ)
  pub outcomes : List Outcome
  pub cut : lines_of input ≡ lines ++ left
  pub of_lines : AreOf outcomes lines
  pub text : Appends before written (transcript V1 1 outcomes)
  pub grows : GrowsBeyond start history outcomes most
  pub fit : AllFit lines

-- The transcript of the first lines was written but for its last bytes. These are of the last line, and of the lines
-- before it so many at most.
pub record Broken (room : ℕ) (input : List ℕ) (before written : Option (List ℕ)) (start history : List Record) : Type 0 where
  pub lines : List (List ℕ)
  pub left : List (List ℕ)
  pub outcomes : List Outcome
  pub last : Outcome
  pub cut : lines_of input ≡ lines ++ left
  pub of_lines : AreOf (outcomes ++ last ∷ []) lines
  pub part : List ℕ
  pub unwritten : List ℕ
  pub text_is : transcript V1 1 (outcomes ++ last ∷ []) ≡ part ++ unwritten
  pub few : length unwritten ≤ room + length (said (version_after V1 outcomes) (length outcomes + 1) last)
  pub text : Appends before written part
  pub grows : Grows start history (outcomes ++ last ∷ [])

-- Only after a want of memory has the history a record that nothing was written of. So many bytes of answers may wait.
abbrev pub Faulted : ℕ → ScriptFault → List ℕ → Option (List ℕ) → Option (List ℕ) → List Record → List Record → Type 0
Faulted room fault.Read input before written start history = (left : List (List ℕ)) × Stopped input before written start history 0 left
Faulted room fault.Memory input before written start history = (left : List (List ℕ)) × Stopped input before written start history 1 left
Faulted room (fault.Line number) input before written start history =
    (long : List ℕ) × (left : List (List ℕ)) × (stopped : Stopped input before written start history 0 (long ∷ left))
    × (number ≡ length stopped.lines + 1) × (longest_line < length long)
Faulted room fault.Lines input before written start history =
    (next : List ℕ) × (left : List (List ℕ)) × (stopped : Stopped input before written start history 0 (next ∷ left))
    × (length stopped.lines ≡ most_lines)
Faulted room fault.Write input before written start history = Broken room input before written start history

-- a line of at most so many bytes with its end, and what one read gave behind it
abbrev pub IsHeldOf : ℕ → List ℕ → Type 0
IsHeldOf most part = length part ≤ most + 1 + most_read

-- what can be read and not answered
abbrev pub IsHeld : List ℕ → Type 0
IsHeld = IsHeldOf longest_line

-- the lines that stand answered are all that was read but for a part behind them, of which P holds
pub record Cut (P : List ℕ → Type 0) (most : ℕ) (input rest : List ℕ) (before written : Option (List ℕ)) (start history : List Record) : Type 0 where
  pub left : List (List ℕ)
  pub stopped : Stopped input before written start history most left
  pub all : ((part : List ℕ) × P part × (input ≡ joined stopped.lines ++ (part ++ rest))) ⊎ (left ≡ [])
