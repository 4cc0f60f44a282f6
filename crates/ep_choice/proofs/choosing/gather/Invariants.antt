use Rattle.ep_choice.proofs.GatherLemmas.{Gathers}
use Rattle.ep_choice.proofs.choosing.gather.Given as goal

abbrev pub invariant-loop-id : goal.invariant-loop-id
invariant-loop-id l = Gathers l.interest l.fn.target l.fn.step l.fn.candidates l.id-iterator l.candidates
