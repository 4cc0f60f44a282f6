use Rattle.std.proofs.Common.{length, take, ◌≡◌, ◌≤◌}
use Rattle.serde_json.specs.Data.{no_members}
use Rattle.serde_json.specs.Find.{get_member}
use Rattle.ep_text.specs.Key.{key_name}
use Rattle.ep_text.specs.Source.{put_all}
use Rattle.ep_text.proofs.source.last_of.Given as goal

abbrev pub invariant-members : goal.invariant-members
invariant-members l =
    (l.left ≤ length l.members)
    × (get_member (key_name l.key) (put_all no_members (take l.left l.members)) ≡ get_member (key_name l.key) (put_all no_members l.members))

abbrev pub decreases-members : goal.decreases-members
decreases-members l = l.left
