-- What contracts see of a kernel: its limits, its records, and room for them. Its state is the one to which the records
-- lead.
use Rattle.std.specs.Prelude.{List, unwrap_or, ℕ}
use Rattle.ep_base.specs.Limits.{Limits}
use Rattle.ep_base.specs.declared.record.Record.{Record}
use Rattle.ep_machine.specs.Run.{run}
use Rattle.ep_machine.specs.State.{State, opening}

pub record Book : Type 0 where
  pub limits : Limits
  pub past : List Record
  pub taken : List Record  -- those of them, from the first on, that were taken out
  pub capacity : ℕ  -- how many records may stand there before a step asks for memory for its own

abbrev pub state_of : Book → State
state_of b = unwrap_or (run b.limits opening b.past) opening
