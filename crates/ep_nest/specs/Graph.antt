-- What a graph keeps.
use Rattle.ep_machine.specs.Watches.{is_legal}
use Rattle.ep_nest.specs.Depths.{AreDeep}
use Rattle.ep_nest.specs.Links.{edges}
use Rattle.ep_nest.specs.Traversal.{HasRoom, IsClear}
use Rattle.ep_nest.specs.declared.depths.Depths.{Depths}
use Rattle.ep_nest.specs.declared.link.Link.{Link}
use Rattle.ep_nest.specs.declared.traversal.Traversal.{Traversal}
use Rattle.std.specs.Prelude.{List, true, ◌≡◌}

-- the links are legal, and a walk over them has its room, with no mark left
pub record IsKept {A : Type 0} (ls : List Link) (w : Traversal A) : Type 0 where
  pub legal : is_legal (edges ls) ≡ true
  pub room : HasRoom ls w
  pub clear : IsClear w

-- and each instance has bounds of the chains from it
pub record IsGraph {A : Type 0} (ls : List Link) (w : Traversal A) (d : Depths A) : Type 0 where
  pub kept : IsKept ls w
  pub deep : AreDeep ls d
