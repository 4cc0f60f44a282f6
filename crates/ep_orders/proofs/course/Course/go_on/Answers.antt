use Rattle.std.proofs.Common.{◌∙◌, length, refl, sym}
use Rattle.ep_orders.specs.Course.{place_of, world_of}
use Rattle.ep_orders.proofs.CourseLemmas.{goes_on, none_left}
use Rattle.ep_orders.proofs.WaysLemmas.{has_ended}
use Rattle.ep_orders.proofs.course.Course.go_on.Goals as goal

pub returns-then-is_empty-clause-end : goal.returns-then-is_empty-clause-end
returns-then-is_empty-clause-end g c = λ _.
    has_ended (world_of g.K.Kernel.bounds c.args.self.now) (place_of g.K.Kernel.state c.args.self.now) c.next_moment-moment.result c.next_moment-moment.ensures
    (none_left _ _ c.is_empty.result c.is_empty.ensures c.if-is_empty.true (c.as_slice-found.ensures.value ∙ c.in_ok-find_ways.ensures))

pub returns-clause-turn : goal.returns-clause-turn
returns-clause-turn g c = λ _.
    goes_on (world_of g.K.Kernel.bounds c.args.self.now) (place_of g.K.Kernel.state c.args.self.now) (place_of g.K.Kernel.state c.take.new.self) c.args.path.now.items
    c.choose_way.new.path.items c.args.place c.in_ok-way.way (length c.as_slice-found.result.now) c.args.self.now.turns.items c.take.new.self.turns.items _ _ c.next_moment-moment.result
    c.as_slice-found.result.now c.in-Some.turn c.next_moment-moment.ensures (c.as_slice-found.ensures.value ∙ c.in_ok-find_ways.ensures) refl c.in_ok-way.ensures
    (sym c.way_at.ensures ∙ c.in-Some.is) c.in_ok-take.ensures.turns c.in_ok-take.ensures.took
