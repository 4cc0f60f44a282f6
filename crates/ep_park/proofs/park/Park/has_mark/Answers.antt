use Rattle.std.proofs.Common.{ap, nat_lt, ◌∙◌}
use Rattle.ep_machine.specs.Waits.{is_marked_at}
use Rattle.ep_park.proofs.TallyLemmas.{any_counted, marked_is, none_marked}
use Rattle.ep_park.specs.Tallies.{is_marked_of}
use Rattle.ep_park.specs.Waiters.{listed}
use Rattle.ep_park.proofs.park.Park.has_mark.Goals as goal

pub returns-in-Some : goal.returns-in-Some
returns-in-Some g c =
    let n = c.args.instance.0 in
    let ws = listed c.self.inside.queue in
    ap (nat_lt 0) (marked_is n ws c.in-Some.tally.now (c.in-Some.ensures.value ∙ c.self.invariant.0.of n))
    ∙ (any_counted (is_marked_of n) ws ∙ ap (λ ws. is_marked_at ws n) c.self.view_is)

pub returns-in-None : goal.returns-in-None
returns-in-None g c =
    let n = c.args.instance.0 in
    none_marked n (listed c.self.inside.queue) (c.in-None.ensures.value ∙ c.self.invariant.0.of n)
    ∙ ap (λ ws. is_marked_at ws n) c.self.view_is
