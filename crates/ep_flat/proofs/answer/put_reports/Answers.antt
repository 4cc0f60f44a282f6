use Rattle.std.proofs.Common.{arith, ◌∙◌, ap, refl, List, slice_index_or, slice_set}
use Rattle.ep_base.specs.declared.answer.Report.{Report}
use Rattle.ep_flat.specs.Flat.{flat_report}
use Rattle.ep_flat.specs.declared.flat.FlatReport.{FlatReport}
use Rattle.ep_flat.proofs.Overlaid.{overlaid-step}
use Rattle.ep_flat.proofs.answer.put_reports.Goals as goal

pub loop-at-preserved : goal.loop-at-preserved
loop-at-preserved c =
    let none : Report = record { bits = record { 0 = 0 }; tag = 0 } in
    let i = c.loop-at.at in let given : List Report = c.args.given.now in let old : List FlatReport = c.args.reports.now in (
      omega (arith, c.loop-at-test.true),
      omega (arith, c.if-at-reports.true, c.loop-at.auto, c.loop-at.invariant),
      refl,
      ap (λ (l : List FlatReport). slice_set l i (flat_report (slice_index_or given i none))) c.loop-at.invariant.3
          ∙ overlaid-step flat_report none i given old (omega (arith, c.loop-at-test.true)) (omega (arith, c.if-at-reports.true, c.loop-at.auto)),
    )
