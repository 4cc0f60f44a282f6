use Rattle.std.proofs.Common.{◌<◌, ◌≤◌, IfSome, Option, ap, arith, length, subst}
use Rattle.ep_rings.specs.declared.circle.Circle.{Circle}
use Rattle.ep_rings.proofs.OwnerLemmas.{room}
use Rattle.ep_rings.proofs.circles.Circles.push.Goals as goal

pub longer-longer-requires : goal.longer-longer-requires
longer-longer-requires g c =
    let s = c.args.self.now in let j = c.requires.joins in
    let most = Rattle.std.below.core.specs.declared.int.usize.TheConstants.MAX in
    let fits : length s ≤ most = omega (arith, c.len-many.ensures, c.len-many.type_inv, ap length c.self.view_is, c.self.inside.links.ok.0) in
    subst (λ (o : Option Circle). IfSome o (λ t. t.len < most)) j.2 (room s j.0 c.args.key j.1 c.requires.linked most fits)
