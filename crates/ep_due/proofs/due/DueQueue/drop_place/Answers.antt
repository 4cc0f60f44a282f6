use Rattle.std.proofs.Common.{◌≡◌, ◌+◌, ◌-◌, ◌∙◌, ap, sym, subst, arith, None, IsSome, set}
use Rattle.ep_due.specs.DueQueue.{moments, moment_at}
use Rattle.ep_due.proofs.PlaceLemmas.{used_by}
use Rattle.ep_due.proofs.due.DueQueue.drop_place.Goals as goal

pub overflow_sub-self : goal.overflow_sub-self
overflow_sub-self g c =
    let u = used_by c.self.inside.live c.self.inside.heap.items c.self.inside.places.items c.args.place.0 (subst (λ v. IsSome (moment_at v c.args.place.0)) (sym c.self.view_is) c.requires) in
    omega (arith, u.1)

pub returns : goal.returns
returns g c =
    let u = used_by c.self.inside.live c.self.inside.heap.items c.self.inside.places.items c.args.place.0 (subst (λ v. IsSome (moment_at v c.args.place.0)) (sym c.self.view_is) c.requires) in
    let back : (c.self.inside.live - 1) + 1 ≡ c.self.inside.live = omega (arith, u.1) in
    c.withdraw.ensures.moments ∙ (ap (λ n. set (moments n c.self.inside.heap.items c.self.inside.places.items) c.args.place.0 None) back ∙ ap (λ v. set v c.args.place.0 None) c.self.view_is)
