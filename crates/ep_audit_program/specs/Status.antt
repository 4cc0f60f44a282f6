-- What the status of the program says of a history.
use Rattle.std.specs.Prelude.{◌≡◌, List, None, Option, Some, codes, if◌then◌else◌, ℕ}
use Rattle.std.specs.Str.{bytes_eq}
use Rattle.ep_base.specs.Limits.{Limits, default_limits}
use Rattle.ep_text.specs.Limits.{IsLimitsText}
use Rattle.ep_audit_program.specs.Verdict.{Judged}
use Rattle.ep_audit_program.specs.declared.judge.Verdict.{Verdict}
use Rattle.ep_audit_program.specs.declared.judge.Verdict.TheVariants.{Illegal, Legal}

abbrev pub status_of : Verdict → ℕ
status_of (Legal count) = 0
status_of (Illegal found) = 1

-- these lines were judged under these limits, and the status tells the verdict
pub record IsStatusOf (limits : Limits) (lines : List (List ℕ)) (status : ℕ) : Type 0 where
  pub verdict : Verdict
  pub judged : Judged limits lines verdict
  pub told : status ≡ status_of verdict

-- the bytes that are read: those of standard input for no name and for "-", else those of the file of that name
abbrev pub input_of : Option (List ℕ) → (List ℕ → Option (List ℕ)) → Option (List ℕ) → Option (List ℕ)
input_of standard content None = standard
input_of standard content (Some path) = if bytes_eq path (codes "-") then standard else content path

-- those that the text writes, and those by default if there is none
abbrev pub AreLimitsOf : Option (List ℕ) → Limits → Type 0
AreLimitsOf None limits = limits ≡ default_limits
AreLimitsOf (Some text) limits = IsLimitsText text limits

-- these lines were judged under the limits of the text, and the status tells the verdict
pub record IsAuditBy (text : Option (List ℕ)) (lines : List (List ℕ)) (status : ℕ) : Type 0 where
  pub limits : Limits
  pub given : AreLimitsOf text limits
  pub audit : IsStatusOf limits lines status
