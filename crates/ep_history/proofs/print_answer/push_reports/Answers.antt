use Rattle.std.proofs.Common.{All, ap, drop, map, subst, true, ◌++◌, ◌+◌, ◌∙◌}
use Rattle.std.proofs.lemmas.List.{take_all}
use Rattle.std.proofs.lemmas.List.Elements.{All-more}
use Rattle.serde_json.specs.View.{items_of}
use Rattle.serde_json.specs.Written.{items_text}
use Rattle.ep_history.specs.Answers.{report_data}
use Rattle.ep_history.specs.Fits.{ReportFits}
use Rattle.ep_history.proofs.AnswerTextLemmas.{next_report}
use Rattle.ep_history.proofs.print_answer.push_reports.Goals as goal

pub loop-report-preserved : goal.loop-report-preserved
loop-report-preserved c =
    let l = c.loop-report in
    let rs = c.args.reports.now in
    let rest = items_text true (items_of (map report_data (drop (l.report-index + 1) rs))) in
    let inside = c.loop-report-test.true in
    record {
      text = ap (λ ns. ns ++ rest) c.in_ok-push_next.ensures.text ∙ next_report l.out.items _ l.is_later rs l.report-index _ inside l.invariant.text;
      fits = All-more ReportFits rs l.report-index _ inside l.invariant.fits c.in_ok-push_next.ensures.fits;
    }

pub returns-clause-fits : goal.returns-clause-fits
returns-clause-fits c = subst (All ReportFits) (take_all c.loop-report.report-index c.args.reports.now c.loop-report-test.false) c.loop-report.invariant.fits
