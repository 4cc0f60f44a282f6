use Rattle.ep_plain.proofs.CollectLemmas.{Collects}
use Rattle.ep_plain.specs.Choose.{reportables_at}
use Rattle.ep_plain.proofs.choose.reportables.Given as goal

abbrev pub invariant-loop-id : goal.invariant-loop-id
invariant-loop-id l = Collects l.parts.tables l.parts.clock l.parts.interest l.found.items l.id-iterator (reportables_at l.parts.tables l.parts.clock l.parts.interest l.fn.instance)
