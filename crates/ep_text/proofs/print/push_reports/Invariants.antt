use Rattle.std.proofs.Common.{◌≡◌, ◌++◌, drop, true, string_bytes}
use Rattle.ep_text.specs.Line.{reports_text}
use Rattle.ep_text.proofs.print.push_reports.Given as goal

abbrev pub invariant-loop-report : goal.invariant-loop-report
invariant-loop-report l = string_bytes l.text ++ reports_text l.is_first (drop l.report-index l.reports) ≡ string_bytes l.fn.text ++ reports_text true l.reports
