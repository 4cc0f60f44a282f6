-- What the verdict says of a history that is read from its lines.
use Rattle.std.specs.List.{slice_get}
use Rattle.std.specs.Prelude.{◌≡◌, ◌<◌, IfOk, IfSome, IsErrOf, List, None, Option, Result, Some, length, take, true, ℕ}
use Rattle.ep_base.specs.Limits.{Limits}
use Rattle.ep_base.specs.declared.record.Record.{Record}
use Rattle.ep_machine.specs.Run.{is_run}
use Rattle.ep_audit.specs.Audit.{IsFirstIllegal}
use Rattle.ep_audit.specs.Auditor.{HasAllowed, IsAllowedFor}
use Rattle.ep_script.specs.Lines.{lines_of}
use Rattle.ep_script.specs.ReadHistory.{AreLinesOf, IsFirstBad, IsFirstLong}
use Rattle.ep_script.specs.declared.fault.HistoryFault.{HistoryFault}
use Rattle.ep_script.specs.declared.fault.HistoryFault.TheVariants.{Line, NoRecord}
use Rattle.ep_history.specs.Records.{line_record}
use Rattle.ep_audit_program.specs.declared.judge.Illegal.{Illegal as IllegalRecord}
use Rattle.ep_audit_program.specs.declared.judge.Judge.{Judge}
use Rattle.ep_audit_program.specs.declared.judge.Verdict.{Verdict}
use Rattle.ep_audit_program.specs.declared.judge.Verdict.TheVariants.{Illegal, Legal}

-- the line of a record that the machine allows in place of the one there, behind those in front of it
pub record IsAllowedLine (limits : Limits) (records : List Record) (place : ℕ) (line : List ℕ) : Type 0 where
  pub next : Record
  pub there : slice_get records place ≡ Some next
  pub other : Record
  pub allowed : IsAllowedFor limits (take place records) next other
  pub reads : line_record line ≡ Some other

-- the first record that the machine does not allow, its line, and what would be allowed there
pub record IsIllegalAt (limits : Limits) (records : List Record) (lines : List (List ℕ)) (found : IllegalRecord) : Type 0 where
  pub within : found.place < length records
  pub first : IsFirstIllegal limits records found.place
  pub line : slice_get lines found.place ≡ Some found.line.items
  pub allowed : IsAllowedLine limits records found.place found.allowed.items

abbrev pub IsVerdict : Limits → List Record → List (List ℕ) → Verdict → Type 0
IsVerdict limits records lines (Legal count) = (is_run limits records ≡ true) × (count ≡ length records)
IsVerdict limits records lines (Illegal found) = IsIllegalAt limits records lines found

-- the lines are records, and this is the verdict on them
pub record Judged (limits : Limits) (lines : List (List ℕ)) (verdict : Verdict) : Type 0 where
  pub records : List Record
  pub of_lines : AreLinesOf records lines
  pub verdict_is : IsVerdict limits records lines verdict

-- ---- on the way

abbrev pub Found : Limits → List Record → List (List ℕ) → Judge → Option IllegalRecord → Type 0
Found limits records lines judge None = HasAllowed limits records judge.auditor
Found limits records lines judge (Some found) = IsIllegalAt limits records lines found

-- it was told these records, each with its line
abbrev pub WasTold : Limits → List Record → List (List ℕ) → Judge → Type 0
WasTold limits records lines judge = Found limits records lines judge judge.illegal

-- what a history of these bytes is read as, if they are known
pub record IsJudgedAs (limits : Limits) (input : Option (List ℕ)) (result : Result Verdict HistoryFault) : Type 0 where
  pub verdict : IfOk result (λ found. IfSome input (λ bytes. Judged limits (lines_of bytes) found))
  pub bad : (number : ℕ) → IsErrOf result (NoRecord number) → IfSome input (λ bytes. IsFirstBad number (lines_of bytes))
  pub long : (number : ℕ) → IsErrOf result (Line number) → IfSome input (λ bytes. IsFirstLong number (lines_of bytes))
