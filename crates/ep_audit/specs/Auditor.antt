-- What an auditor has allowed.
use Rattle.std.specs.Prelude.{◌≡◌, ◌++◌, ◌∷◌, [], Bool, List, Some, false, true}
use Rattle.ep_base.specs.Limits.{Limits}
use Rattle.ep_base.specs.declared.record.Record.{Record}
use Rattle.ep_calls.specs.Book.{state_of}
use Rattle.ep_machine.specs.Run.{is_run, run}
use Rattle.ep_machine.specs.State.{opening}
use Rattle.ep_audit.specs.Audit.{HasMade, IsOfEvent}
use Rattle.ep_audit.specs.declared.auditor.Auditor.{Auditor}

-- these records are a run of the machine under these limits, and the auditor's kernel is in the state behind it
pub record HasAllowed (limits : Limits) (records : List Record) (auditor : Auditor) : Type 0 where
  pub limits_are : auditor.kernel.limits ≡ limits
  pub ran : run limits opening records ≡ Some (state_of auditor.kernel)

-- its last record is of the event, and the machine goes on by it from where the auditor stood
abbrev pub HasMadeInstead : Auditor → Record → Auditor → Type 0
HasMadeInstead old next new = HasMade old.kernel.limits (state_of old.kernel) next new.kernel.past

-- another record of the event, which the machine allows behind these
pub record IsAllowedFor (limits : Limits) (records : List Record) (next other : Record) : Type 0 where
  pub same : IsOfEvent next other
  pub allowed : is_run limits (records ++ other ∷ []) ≡ true

-- they are one, or none
abbrev pub Judges : Limits → List Record → Auditor → Bool → Type 0
Judges limits records auditor true = HasAllowed limits records auditor
Judges limits records auditor false = is_run limits records ≡ false
