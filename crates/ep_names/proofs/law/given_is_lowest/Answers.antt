use Rattle.ep_names.proofs.LawLemmas.{given_is_lowest as law}
use Rattle.ep_names.proofs.law.given_is_lowest.Goals as goal

pub returns : goal.returns
returns c = law
