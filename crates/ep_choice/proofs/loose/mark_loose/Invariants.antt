use Rattle.ep_choice.proofs.LooseLemmas.{HadLoose}
use Rattle.ep_choice.proofs.loose.mark_loose.Given as goal

abbrev pub invariant-loop-index : goal.invariant-loop-index
invariant-loop-index g l = record {
  turns : HadLoose l.fn.parts l.reached.reached l.index l.parts;
  knows : g.R.Readiness.knows l.ready l.fn.parts.tables l.fn.parts.clock l.fn.parts.interest;
}
