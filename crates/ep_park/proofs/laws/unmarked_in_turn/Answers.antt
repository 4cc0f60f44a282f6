use Rattle.ep_park.proofs.TurnLemmas.{marks_agree_unmarked}
use Rattle.ep_park.proofs.laws.unmarked_in_turn.Goals as goal

pub returns : goal.returns
returns c = marks_agree_unmarked
