use Rattle.std.proofs.Common.{◌<◌, List, length, subst, sym}
use Rattle.ep_rings.specs.Links.{Joined}
use Rattle.ep_rings.specs.declared.link.Link.{Link}
use Rattle.ep_rings.proofs.OwnerLemmas.{leaves, link_below, link_read, only}
use Rattle.ep_rings.proofs.circles.Circles.unlink.Goals as goal

pub join-requires-clause-before : goal.join-requires-clause-before
join-requires-clause-before g c =
    let s = c.args.self.now in let w = c.requires in let t = c.index.result.now in
    let is = link_read c.self.inside.links.items s w.0 c.args.key t c.self.view_is w.1 c.index.ensures in
    subst (λ (u : List Link). t.prev < length u) (sym c.self.view_is) (link_below s w.0 c.args.key t w.1 is).0

pub join-requires-clause-after : goal.join-requires-clause-after
join-requires-clause-after g c =
    let s = c.args.self.now in let w = c.requires in let t = c.index.result.now in
    let is = link_read c.self.inside.links.items s w.0 c.args.key t c.self.view_is w.1 c.index.ensures in
    subst (λ (u : List Link). t.next < length u) (sym c.self.view_is) (link_below s w.0 c.args.key t w.1 is).1

pub returns-clause-only : goal.returns-clause-only
returns-clause-only g c w can =
    only c.args.self.now w c.args.key c.index.result.now can (link_read c.self.inside.links.items c.args.self.now w c.args.key c.index.result.now c.self.view_is can c.index.ensures)

pub returns-clause-leaves : goal.returns-clause-leaves
returns-clause-leaves g c w can =
    let t = c.index.result.now in
    leaves c.args.self.now c.join.new.links.items w c.args.key t can (link_read c.self.inside.links.items c.args.self.now w c.args.key t c.self.view_is can c.index.ensures)
    (subst (λ (u : List Link). Joined u c.join.new.links.items t.prev t.next) c.self.view_is c.join.ensures)
