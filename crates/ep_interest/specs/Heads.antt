-- Where the circle of each owner begins, by the owner's number.
use Rattle.std.specs.Prelude.{ℕ, Option}
use Rattle.std.specs.declared.vec.Vec.{Vec}
use Rattle.ep_rings.specs.PlacedRows.{head_at}
use Rattle.ep_rings.specs.declared.circle.Circle.{Circle}

-- the circle of the owner with this number, and none without a place
abbrev pub circle_at : {A : Type 0} → Vec (Option Circle) A → ℕ → Option Circle
circle_at heads i = head_at heads.items i
