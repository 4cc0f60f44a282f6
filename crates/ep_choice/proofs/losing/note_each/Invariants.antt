use Rattle.ep_choice.proofs.LosingLemmas.{homes_on}
use Rattle.ep_climb.proofs.WalkLemmas.{Reaching}
use Rattle.ep_choice.proofs.losing.note_each.Given as goal

abbrev pub invariant-loop-desc : goal.invariant-loop-desc
invariant-loop-desc l = Reaching (homes_on l.fn.parts.tables l.fn.parts.interest l.initial.desc-iterator) (homes_on l.fn.parts.tables l.fn.parts.interest l.desc-iterator) l.fn.lost l.lost
