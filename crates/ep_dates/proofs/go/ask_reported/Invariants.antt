use Rattle.std.proofs.Common.{false, take}
use Rattle.ep_dates.specs.Ask.{Asks}
use Rattle.ep_dates.specs.Touched.{has_number}
use Rattle.ep_dates.proofs.go.ask_reported.Given as goal

abbrev pub invariant-loop-number : goal.invariant-loop-number
invariant-loop-number l = Asks false l.fn.event l.parts (has_number l.parts.interest (take l.number-index l.reported)) l.fn.dates l.dates
