use Rattle.std.proofs.Common.{take}
use Rattle.ep_dates.specs.Ask.{Asks}
use Rattle.ep_dates.specs.Touched.{watches_fresh}
use Rattle.ep_dates.proofs.come.ask_above.Given as goal

abbrev pub invariant-loop-index : goal.invariant-loop-index
invariant-loop-index l = Asks l.question.comes l.question.event l.parts (watches_fresh l.parts.interest l.fn.dates.turned.reached (take l.index l.instances.reached)) l.fn.dates l.dates
