use Rattle.std.proofs.Common.{take}
use Rattle.ep_dates.specs.Renew.{Renews}
use Rattle.ep_dates.proofs.renew.renew_each.Given as goal

abbrev pub invariant-loop-number : goal.invariant-loop-number
invariant-loop-number l = Renews l.event l.parts.interest (take l.number-index l.reported) l.fn.dates l.dates
