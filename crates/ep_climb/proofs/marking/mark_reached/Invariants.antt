use Rattle.ep_climb.proofs.MarkLemmas.{HadTurns}
use Rattle.ep_climb.proofs.marking.mark_reached.Given as goal

abbrev pub invariant-loop-index : goal.invariant-loop-index
invariant-loop-index g l = record {
  turns : HadTurns l.fn.parts l.reached.reached l.index l.parts;
  knows : g.R.Readiness.knows l.ready l.fn.parts.tables l.fn.parts.clock l.fn.parts.interest;
}
