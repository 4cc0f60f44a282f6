use Rattle.std.proofs.Common.{drop, option_map, ◌++◌, ◌≡◌}
use Rattle.serde_json.specs.View.{items_view}
use Rattle.ep_history.specs.Fields.{meanings, u64_value}
use Rattle.ep_history.proofs.picks.picks_of.Given as goal

abbrev pub invariant-loop-item : goal.invariant-loop-item
invariant-loop-item l =
    option_map (λ rest. l.picked.items ++ rest) (meanings u64_value (items_view (drop l.item-index l.item-items))) ≡ meanings u64_value (items_view l.item-items)
