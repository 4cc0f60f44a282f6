use Rattle.std.proofs.Common.{◌<◌, ℕ, List, length, ap, subst, sym, ◌∙◌}
use Rattle.ep_rings.specs.Links.{Joined}
use Rattle.ep_rings.specs.declared.link.Link.{Link}
use Rattle.ep_rings.proofs.OwnerLemmas.{begin_below, end_below, joins}
use Rattle.ep_rings.proofs.circles.Circles.append.Goals as goal

pub last-last-requires : goal.last-last-requires
last-last-requires g c = let j = c.requires.joins in begin_below c.args.self.now j.0 c.args.key c.args.first j.1 c.requires.linked j.2

pub join-requires-clause-before : goal.join-requires-clause-before
join-requires-clause-before g c =
    let j = c.requires.joins in
    subst (λ (t : List Link). c.last-last.result < length t) (sym c.self.view_is) (end_below c.args.self.now j.0 c.args.key c.args.first c.last-last.result j.1 c.requires.linked j.2 c.last-last.ensures)

pub join-requires-2-clause-after : goal.join-requires-2-clause-after
join-requires-2-clause-after g c =
    let j = c.requires.joins in
    subst (λ (m : ℕ). c.args.first < m) (sym (c.join.ensures.same ∙ ap length c.self.view_is)) (begin_below c.args.self.now j.0 c.args.key c.args.first j.1 c.requires.linked j.2)

pub returns : goal.returns
returns g c w can begin =
    joins c.args.self.now c.join.new.links.items c.join-2.new.links.items w c.args.key c.args.first c.last-last.result can c.requires.linked begin c.last-last.ensures
    (subst (λ (t : List Link). Joined t c.join.new.links.items c.last-last.result c.args.key) c.self.view_is c.join.ensures)
    c.join-2.ensures
