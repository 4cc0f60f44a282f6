use Rattle.ep_choice.proofs.LosingLemmas.{homes_of}
use Rattle.ep_climb.proofs.WalkLemmas.{Reaching}
use Rattle.ep_choice.specs.Lost.{guard_homes}
use Rattle.ep_choice.proofs.losing.note_watchers.Given as goal

abbrev pub invariant-loop-id : goal.invariant-loop-id
invariant-loop-id l = Reaching (guard_homes l.fn.parts.tables l.fn.parts.interest l.fn.desc) (homes_of l.fn.parts.tables l.fn.parts.interest l.id-iterator) l.fn.lost l.lost
