-- The registrations of each owner, by the circles of their keys.
use Rattle.std.specs.Prelude.{ℕ, List, Option}
use Rattle.ep_interest.specs.Heads.{circle_at}
use Rattle.ep_interest.specs.declared.rows.Rows.{Rows}
use Rattle.ep_rings.specs.Circles.{AreCircles, row_of}
use Rattle.ep_rings.specs.declared.circle.Circle.{Circle}

abbrev pub circle_of : {A : Type 0} → Rows A → ℕ → Option Circle
circle_of v i = circle_at v.heads i

-- the keys of an owner's registrations, in order
abbrev pub row : {A : Type 0} → Rows A → ℕ → List ℕ
row v i = row_of v.circles (circle_of v) i

abbrev pub IsRows : {A : Type 0} → Rows A → Type 0
IsRows v = AreCircles v.circles (circle_of v)
