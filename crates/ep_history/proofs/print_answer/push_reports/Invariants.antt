use Rattle.std.proofs.Common.{All, drop, false, map, take, ◌++◌, ◌≡◌}
use Rattle.serde_json.specs.View.{items_of}
use Rattle.serde_json.specs.Written.{items_text}
use Rattle.ep_history.specs.Answers.{report_data}
use Rattle.ep_history.specs.Fits.{ReportFits}
use Rattle.ep_history.proofs.print_answer.push_reports.Given as goal

abbrev pub invariant-loop-report : goal.invariant-loop-report
invariant-loop-report l = record {
  text : l.out.items ++ items_text l.is_later (items_of (map report_data (drop l.report-index l.reports))) ≡ l.fn.out.items ++ items_text false (items_of (map report_data l.reports));
  fits : All ReportFits (take l.report-index l.reports);
}
