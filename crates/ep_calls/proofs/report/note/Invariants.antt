use Rattle.std.proofs.Common.{◌≡◌, map, take}
use Rattle.ep_calls.specs.Wait.{with_report, numbers_of}
use Rattle.ep_calls.proofs.report.note.Given as goal

abbrev pub invariant-loop-x : goal.invariant-loop-x
invariant-loop-x l = record {
  entries : l.interest.entries ≡ map (with_report l.step (numbers_of (take l.x-index l.chosen))) l.fn.interest.entries;
  keys : l.interest.keys ≡ l.fn.interest.keys;
  added : l.interest.added ≡ l.fn.interest.added;
}
