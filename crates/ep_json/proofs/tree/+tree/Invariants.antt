use Rattle.std.proofs.Common.{length, ◌*◌, ◌+◌, ◌≡◌, ◌≤◌, ℕ}
use Rattle.json.specs.Json.{items, members, parse_map, value}
use Rattle.serde_json.specs.Data.{no_members}
use Rattle.serde_json.specs.Read.{converted, of_items, of_members}
use Rattle.serde_json.specs.View.{members_view}
use Rattle.ep_json.proofs.TreeLemmas.{items_before}
use Rattle.ep_json.proofs.tree.+tree.Given as goal

abbrev pub decreases-tree : goal.decreases-tree
decreases-tree l = 2 * l.depth

abbrev pub decreases-tree_items : goal.decreases-tree_items
decreases-tree_items l = 2 * l.depth + 1

abbrev pub decreases-tree_members : goal.decreases-tree_members
decreases-tree_members l = 2 * l.depth + 1

abbrev pub invariant-tree_items-items : goal.invariant-tree_items-items
invariant-tree_items-items l =
    (n : ℕ) × (length l.reader ≤ n)
    × (converted of_items (items (value l.depth) (length l.initial.reader) l.initial.reader) ≡ parse_map (items_before l.found.items) (converted of_items (items (value l.depth) n l.reader)))
    × (length l.reader ≤ length l.initial.reader)

abbrev pub decreases-tree_items-items : goal.decreases-tree_items-items
decreases-tree_items-items l = length l.reader

abbrev pub invariant-tree_members-members : goal.invariant-tree_members-members
invariant-tree_members-members l =
    (n : ℕ) × (length l.reader ≤ n)
    × (converted (λ ms. of_members ms no_members) (members (value l.depth) (length l.initial.reader) l.initial.reader) ≡ converted (λ ms. of_members ms (members_view l.found.entries)) (members (value l.depth) n l.reader))
    × (length l.reader ≤ length l.initial.reader)

abbrev pub decreases-tree_members-members : goal.decreases-tree_members-members
decreases-tree_members-members l = length l.reader
