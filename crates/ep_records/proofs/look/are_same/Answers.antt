use Rattle.std.proofs.lemmas.Slice.Eq.{slice_eq-Decides}
use Rattle.ep_records.proofs.SameLists.{same_report}
use Rattle.ep_records.proofs.look.are_same.Goals as goal

pub returns : goal.returns
returns c = slice_eq-Decides same_report c.args.one.now c.args.other.now c.eq.result c.eq.ensures
