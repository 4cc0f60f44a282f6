use Rattle.std.proofs.Common.{drop, false, map, slice_index, take, ℕ, ◌++◌, ◌<◌, ◌≡◌, ◌^◌}
use Rattle.serde_json.specs.View.{items_of}
use Rattle.serde_json.specs.Written.{items_text}
use Rattle.ep_history.specs.Fields.{natural}
use Rattle.ep_history.proofs.print.push_naturals.Given as goal

abbrev pub invariant-loop-number : goal.invariant-loop-number
invariant-loop-number l = record {
  text : l.out.items ++ items_text l.is_later (items_of (map natural (drop l.number-index l.numbers))) ≡ l.fn.out.items ++ items_text false (items_of (map natural l.numbers));
  fits : (i : ℕ) → i < l.number-index → slice_index l.numbers i < 2 ^ 64;
}
