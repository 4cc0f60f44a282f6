-- What an audit says of a list of records.
use Rattle.std.specs.Prelude.{◌≡◌, ◌++◌, ◌+◌, ◌∷◌, [], ℕ, Bool, List, None, Option, Result, Err, Some, false, if◌then◌else◌, is_some, take, true}
use Rattle.ep_base.specs.Limits.{Limits}
use Rattle.ep_base.specs.declared.record.Record.{Record}
use Rattle.ep_machine.specs.Run.{go_on, is_run}
use Rattle.ep_machine.specs.State.{State}
use Rattle.ep_audit.specs.declared.verdict.AuditFault.{AuditFault}
use Rattle.ep_audit.specs.declared.verdict.AuditFault.TheVariants.{Memory}

-- from one state to the next by a record, or by none
abbrev pub Follows : Limits → State → State → Record → Bool → Type 0
Follows limits s t next goes = go_on limits (Some s) next ≡ (if goes then Some t else None)

-- the same caller made the same event
pub record IsOfEvent (next other : Record) : Type 0 where
  pub caller : other.caller ≡ next.caller
  pub event : other.event ≡ next.event

-- the last record of these is of the event, and the machine goes on from a state by it
pub record HasMade (limits : Limits) (s : State) (next : Record) (past : List Record) : Type 0 where
  pub before : List Record
  pub last : Record
  pub made : past ≡ before ++ last ∷ []
  pub same : IsOfEvent next last
  pub goes : is_some (go_on limits (Some s) last) ≡ true

-- the records before this place are a run, and with the one there they are none
pub record IsFirstIllegal (limits : Limits) (records : List Record) (place : ℕ) : Type 0 where
  pub before : is_run limits (take place records) ≡ true
  pub with_it : is_run limits (take (place + 1) records) ≡ false

-- the first place that the machine does not allow, if there is one
abbrev pub Finds : Limits → List Record → Option ℕ → Type 0
Finds limits records None = is_run limits records ≡ true
Finds limits records (Some place) = IsFirstIllegal limits records place

-- where there was memory enough for a verdict
abbrev pub IfJudged : {V : Type 0} → Result V AuditFault → Type 0 → Type 0
IfJudged (Err Memory) p = Unit
IfJudged result p = p
