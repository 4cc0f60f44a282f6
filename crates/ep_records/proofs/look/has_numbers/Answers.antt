use Rattle.std.proofs.Common.{◌∙◌, sym}
use Rattle.std.proofs.lemmas.Slice.Eq.{slice_eq-Decides}
use Rattle.ep_records.proofs.SameLists.{same_number}
use Rattle.ep_records.proofs.look.has_numbers.Goals as goal

pub returns : goal.returns
returns c =
    let same = slice_eq-Decides same_number c.as_slice.result.now c.args.numbers.now c.eq.result c.eq.ensures in
    (λ e. sym (same.0 e) ∙ c.as_slice.ensures, λ e. same.1 (c.as_slice.ensures ∙ sym e))
