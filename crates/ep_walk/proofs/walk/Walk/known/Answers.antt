use Rattle.std.proofs.Common.{◌≤◌, arith, length, subst}
use Rattle.std.proofs.lemmas.List.Sums.{count_by-le-length}
use Rattle.ep_walk.specs.Walk.{Walk}
use Rattle.ep_walk.proofs.walk.Walk.known.Goals as goal

pub returns-clause-few : goal.returns-clause-few
returns-clause-few g c =
    let few = count_by-le-length (λ m. m) c.self.inside.marks.items in
    subst (λ (w : Walk). length w.reached ≤ w.room) c.self.view_is (omega (arith, few, c.self.invariant.counted))
