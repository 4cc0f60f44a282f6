use Rattle.std.proofs.Common.{length, ◌≡◌, ◌≤◌, ℕ}
use Rattle.json.specs.Json.{members, value}
use Rattle.serde_json.specs.Data.{no_members}
use Rattle.serde_json.specs.Read.{converted, of_members}
use Rattle.ep_text.specs.Flat.{flat_depth}
use Rattle.ep_text.specs.Source.{put_all}
use Rattle.ep_text.proofs.flat.read_members.Given as goal

abbrev pub invariant-members : goal.invariant-members
invariant-members l =
    (n : ℕ) × (length l.reader ≤ n)
    × (converted (λ ms. of_members ms no_members) (members (value flat_depth) (length l.fn.reader) l.fn.reader) ≡ converted (λ ms. of_members ms (put_all no_members l.found.items)) (members (value flat_depth) n l.reader))

abbrev pub decreases-members : goal.decreases-members
decreases-members l = length l.reader
