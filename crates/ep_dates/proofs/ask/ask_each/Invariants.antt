use Rattle.std.proofs.Common.{take}
use Rattle.ep_dates.specs.Ask.{Asks}
use Rattle.ep_interest.specs.Passes.{has_id}
use Rattle.ep_dates.proofs.ask.ask_each.Given as goal

abbrev pub invariant-loop-id : goal.invariant-loop-id
invariant-loop-id l = Asks l.question.comes l.question.event l.parts (has_id (take l.id-index l.ids)) l.fn.dates l.dates
