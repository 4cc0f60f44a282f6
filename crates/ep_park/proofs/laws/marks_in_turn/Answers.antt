use Rattle.ep_park.proofs.TurnLemmas.{marks_agree}
use Rattle.ep_park.proofs.laws.marks_in_turn.Goals as goal

pub returns : goal.returns
returns c = marks_agree
