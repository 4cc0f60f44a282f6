-- What contracts see of the kernel, and what holds of it.
use Rattle.std.specs.Prelude.{[], ◌+◌, List, length, ◌≡◌}
use Rattle.ep_alarms.specs.Alarms.{AreSet}
use Rattle.ep_base.specs.declared.record.Record.{Record}
use Rattle.ep_calls.specs.Book.{Book}
use Rattle.ep_calls.specs.Keeps.{Keeps}
use Rattle.ep_calls.specs.Parts.{Parts}
use Rattle.ep_dates.specs.Order.{AreInTurn}
use Rattle.ep_plain.specs.Dating.{Fits}
use Rattle.ep_plain.specs.Exact.{TellsReady}
use Rattle.ep_plain.specs.Since.{IsDated}
use Rattle.ep_plain.specs.declared.dating.Dating.{Dating}
use Rattle.ep_plain.specs.declared.plain.PlainKernel.TheInside.{Inside}
use Rattle.ep_records.specs.Past.{whole}

abbrev pub book_of : Inside → Book
book_of k = record {
  limits = k.parts.tables.limits;
  past = whole k.history;
  taken = k.history.taken;
  capacity = length (whole k.history) + k.history.room;
}

-- the history leads to a state for which the parts stand and whose dates are kept: they tell which instances are ready,
-- don't sink along a row, and fit the registrations
pub record Standing (past : List Record) (p : Parts) (d : Dating) : Type 0 where
  pub keeps : Keeps past p
  pub dated : IsDated keeps.state d.dates.since
  pub ready : TellsReady p d.dates
  pub order : AreInTurn (length past) p.interest d.dates
  pub fits : Fits p.interest d
  pub unlost : d.choice.lost.reached ≡ []

-- the same, and each timer has its moment
pub record IsStanding (k : Inside) : Type 0 where
  pub standing : Standing (whole k.history) k.parts k.dating
  pub set : AreSet k.parts.tables k.parts.clock k.alarms
