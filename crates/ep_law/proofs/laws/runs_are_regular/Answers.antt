use Rattle.ep_law.proofs.RegularLemmas.{changes_are_regular, runs_are_regular}
use Rattle.ep_law.proofs.laws.runs_are_regular.Goals as goal

pub returns : goal.returns
returns c = record { runs = runs_are_regular; changes = changes_are_regular }
