use Rattle.std.proofs.Common.{◌+◌, ◌++◌, ◌≡◌, ◌∙◌, ap, arith, rules, string_bytes, sym}
use Rattle.std.proofs.lemmas.List.{take_rest}
use Rattle.ep_scenario.specs.Schedule.{block, row_of}
use Rattle.ep_scenario.proofs.ScheduleLemmas.{block_begins, block_goes_on}
use Rattle.ep_scenario.proofs.schedule.push_schedule.Goals as goal
use Rattle.ep_scenario.proofs.schedule.push_schedule.Goals.{else-left-gt0+in_ok-push_block, then-left-gt0}

pub loop-place-preserved : goal.loop-place-preserved
loop-place-preserved c =
    let lines = c.as_slice-lines.result.now in
    let steps = c.args.steps.now in
    let place = c.loop-place.place in
    let before = string_bytes c.loop-place.text in
    elim c.if-left-gt0.branch [
      | then-left-gt0 w ↦
          block_goes_on lines c.loop-place.is_first c.if-left-gt0.is_first steps place c.loop-place.left c.if-left-gt0.left before (string_bytes c.if-left-gt0.text) _
          (search rules) (ap string_bytes w.text-is) w.is_first-is (omega (arith, w.left-is, w.if-left-gt0)) c.loop-place.invariant
      | else-left-gt0+in_ok-push_block w ↦
          let s = w.index-steps-place.result in
          let grown : string_bytes w.push_block.new.text ≡ before ++ block lines c.loop-place.is_first s (w.row_of-left.result + 1) = search rules in
          block_begins lines c.loop-place.is_first c.if-left-gt0.is_first steps place c.loop-place.left c.if-left-gt0.left s before (string_bytes c.if-left-gt0.text) _
          (search rules) w.index-steps-place.is (omega (arith, w.if-left-gt0.false)) w.is_first-is (w.left-is ∙ (w.row_of-left.ensures.row ∙ ap (row_of s) (take_rest steps (place + 1))))
          (ap string_bytes w.text-is ∙ (grown ∙ ap (λ n. before ++ block lines c.loop-place.is_first s (n + 1)) (sym w.left-is))) c.loop-place.invariant
    ]
