-- What the steps of a run do: words for contracts inside this crate.
use Rattle.std.specs.Io.KnownBytes.{Appends}
use Rattle.std.specs.Prelude.{IfSome, List, Option, [], if◌then◌else◌, length, take, ⊤, ℕ, ◌++◌, ◌<◌, ◌≡◌, ◌≢◌, ◌≤◌, ◌⊎◌, ◌∷◌}
use Rattle.ep_base.specs.declared.record.Record.{Record}
use Rattle.ep_calls.specs.Acts.{is_no_memory}
use Rattle.ep_script.specs.declared.fault.RecordedFault.{RecordedFault}
use Rattle.ep_script.specs.declared.fault.RecordedFault.TheVariants as recorded
use Rattle.ep_script.specs.declared.fault.ScriptFault.{ScriptFault}
use Rattle.ep_script.specs.declared.fault.ScriptFault.TheVariants as fault
use Rattle.ep_script.specs.declared.summary.LineKind.{LineKind}
use Rattle.ep_script.specs.declared.summary.LineKind.TheVariants as kind
use Rattle.ep_version.specs.declared.version.Version.{Version}
use Rattle.ep_script.specs.Known.{Leads}
use Rattle.ep_script.specs.Lines.{IsPlain, longest_line}
use Rattle.ep_script.specs.Outcome.{IsHeld}
use Rattle.ep_script.specs.Transcript.{Asked, Grows, Outcome, answered, asked_in, bad, head, said, then_in}

-- the first line of xs, and what is behind it
pub record TakesLine (xs line ys : List ℕ) : Type 0 where
  pub plain : IsPlain line
  pub cut : (xs ≡ line ++ 10 ∷ ys) ⊎ ((xs ≡ line) × (ys ≡ []) × (line ≢ []))

-- xs begins with a part of which P holds, and ys is behind it
abbrev pub Behind : (List ℕ → Type 0) → List ℕ → List ℕ → Type 0
Behind P xs ys = (part : List ℕ) × P part × (xs ≡ part ++ ys)

-- xs begins with more bytes than so many, none of which ends a line
pub record IsTooLong (most : ℕ) (xs : List ℕ) : Type 0 where
  pub front : List ℕ
  pub rest : List ℕ
  pub plain : IsPlain front
  pub long : most < length front
  pub cut : xs ≡ front ++ rest

abbrev pub kind_of : Outcome → LineKind
kind_of bad = kind.Bad
kind_of (head version) = kind.Head
kind_of (answered x) = if is_no_memory x.answer then kind.Unrecorded else kind.Recorded

-- what became of a line, the text that tells it, and the version behind it
pub record Tells (asked : Asked) (version next : Version) (number : ℕ) (kind : LineKind) (text : List ℕ) (before after : List Record) : Type 0 where
  pub outcome : Outcome
  pub of_line : asked_in outcome ≡ asked
  pub next_is : next ≡ then_in version asked
  pub text_is : text ≡ said version number outcome
  pub grows : Grows before after (outcome ∷ [])
  pub kind_is : kind ≡ kind_of outcome

-- what became of a line that was asked, be it told or not
pub record Becomes (asked : Asked) (before after : List Record) : Type 0 where
  pub outcome : Outcome
  pub of_line : asked_in outcome ≡ asked
  pub grows : Grows before after (outcome ∷ [])

-- a line that was not told may have been asked
abbrev pub MayBecome : Asked → List Record → List Record → Type 0
MayBecome asked before after = (after ≡ before) ⊎ Becomes asked before after

-- a record more at most
abbrev pub MayGain : List Record → List Record → Type 0
MayGain before after = (gained : List Record) × (after ≡ before ++ gained) × (length gained ≤ 1)

-- ---- answers that wait to be written

-- text came behind what waited, and the first of it was written; the rest waits
abbrev pub Gathers : Option (List ℕ) → Option (List ℕ) → List ℕ → List ℕ → List ℕ → Type 0
Gathers old new waited waits text = (written : List ℕ) × Appends old new written × (written ++ waits ≡ waited ++ text)

-- the first bytes of what waited were written, and there was any
abbrev pub MissesOf : Option (List ℕ) → Option (List ℕ) → List ℕ → Type 0
MissesOf old new waited = (waited ≢ []) × ((n : ℕ) × (n ≤ length waited) × Appends old new (take n waited))

-- the first bytes of what waited, and of text behind it, were written
abbrev pub Misses : Option (List ℕ) → Option (List ℕ) → List ℕ → List ℕ → Type 0
Misses old new waited text = (n : ℕ) × Appends old new (take n (waited ++ text))

-- what waited was written behind a fault, or that failed
abbrev pub EndsWith : ScriptFault → ScriptFault → Type 0 → Option (List ℕ) → Option (List ℕ) → List ℕ → Type 0
EndsWith given result failed old new waited = ((result ≡ given) × Appends old new waited) ⊎ ((result ≡ fault.Write) × failed × MissesOf old new waited)

-- how the next line did not come: what waited is written, and this was read
abbrev pub LineFault : ScriptFault → ℕ → Type 0 → Type 0 → Option (List ℕ) → Option (List ℕ) → Option (List ℕ) → Option (List ℕ) → List ℕ → Type 0
LineFault fault.Memory number reader_failed writer_failed before after old new waited = Leads before after (Behind IsHeld) × Appends old new waited
LineFault fault.Read number reader_failed writer_failed before after old new waited = Leads before after (Behind IsPlain) × reader_failed × Appends old new waited
LineFault (fault.Line k) number reader_failed writer_failed before after old new waited =
    (k ≡ number) × IfSome before (IsTooLong longest_line) × Appends old new waited
LineFault fault.Write number reader_failed writer_failed before after old new waited = writer_failed × MissesOf old new waited
LineFault fault.Lines number reader_failed writer_failed before after old new waited = ⊥

-- how the answer to a line failed
abbrev pub AnswerFault : ScriptFault → Asked → Version → ℕ → Option (List ℕ) → Option (List ℕ) → List ℕ → List Record → List Record → Type 0
AnswerFault fault.Memory asked version number old new waited before after = Appends old new waited × MayBecome asked before after
AnswerFault fault.Write asked version number old new waited before after =
    ((after ≡ before) × MissesOf old new waited) ⊎ ((became : Becomes asked before after) × Misses old new waited (said version number became.outcome))
AnswerFault fault.Read asked version number old new waited before after = ⊥
AnswerFault fault.Lines asked version number old new waited before after = ⊥
AnswerFault (fault.Line k) asked version number old new waited before after = ⊥

-- no fault of a history
abbrev pub IsOfScript : RecordedFault → Type 0
IsOfScript (recorded.Script fault) = ⊤
IsOfScript recorded.History = ⊥
IsOfScript recorded.Memory = ⊥
