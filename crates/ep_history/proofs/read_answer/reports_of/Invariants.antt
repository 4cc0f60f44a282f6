use Rattle.std.proofs.Common.{◌≡◌, ◌++◌, drop, option_map}
use Rattle.serde_json.specs.View.{items_view}
use Rattle.ep_history.specs.Answers.{report_of}
use Rattle.ep_history.specs.Fields.{meanings}
use Rattle.ep_history.proofs.read_answer.reports_of.Given as goal

abbrev pub invariant-loop-item : goal.invariant-loop-item
invariant-loop-item l =
    option_map (λ rest. l.reports.items ++ rest) (meanings report_of (items_view (drop l.item-index l.item-items))) ≡ meanings report_of (items_view l.item-items)
