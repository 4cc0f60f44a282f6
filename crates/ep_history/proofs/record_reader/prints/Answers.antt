use Rattle.std.proofs.Common.{ap, sym, ◌++◌, ◌∙◌, ◌≡◌}
use Rattle.std.proofs.lemmas.Bool.Decides.{Decides-eqb}
use Rattle.std.proofs.lemmas.Slice.Eq.{slice_eq-Decides}
use Rattle.ep_history.specs.Records.{line_record, record_line}
use Rattle.ep_history.proofs.RecordLemmas.{line_record-printed}
use Rattle.ep_history.proofs.record_reader.prints.Goals as goal

pub returns : goal.returns
returns c is_equal =
    let entry = c.args.entry.now in
    let printed : c.push_record.new.out.items ≡ record_line entry = c.in-Ok-push_record.ensures.text ∙ ap (λ s. s ++ record_line entry) (c.reserve_exact.ensures.items ∙ c.clear.ensures.items) in
    let same : c.as_slice.result.now ≡ c.args.line.now = (slice_eq-Decides Decides-eqb c.as_slice.result.now c.args.line.now c.eq.result c.eq.ensures).0 is_equal in
    ap line_record (sym same ∙ c.as_slice.ensures.value ∙ printed) ∙ line_record-printed entry c.in-Ok-push_record.ensures.fits
