use Rattle.std.proofs.Common.{List, subst, sym, ◌∙◌}
use Rattle.ep_rings.specs.KeyWalk.{AreLinked}
use Rattle.ep_rings.specs.declared.link.Link.{Link}
use Rattle.ep_rings.proofs.OwnerLemmas.{circle_linked}
use Rattle.ep_rings.proofs.circles.Circles.keys.Goals as goal

pub invariant_of-result : goal.invariant_of-result
invariant_of-result g c =
    let t = c.unwrap_or-circle.result in
    subst (λ (s : List Link). AreLinked s t.len t.first) (sym (c.deref.ensures.value ∙ c.self.view_is)) (circle_linked c.args.self.now c.args.circle t c.unwrap_or-circle.ensures c.requires)
