use Rattle.std.proofs.Common.{Some, [], ap, arith, option_map, ◌++◌, ◌∙◌, ◌∷◌, ℕ}
use Rattle.std.proofs.lemmas.List.{map-append}
use Rattle.std.specs.List.{list_any}
use Rattle.ep_park.proofs.DeadlineLemmas.{moments_follow, moments_same}
use Rattle.ep_park.proofs.ProcessLemmas.{counts_last, few_counted}
use Rattle.ep_park.proofs.TallyLemmas.{few_marked, tallied_last}
use Rattle.ep_park.proofs.ViewLemmas.{absent, lookup_last}
use Rattle.ep_park.specs.Deadlines.{awaited}
use Rattle.ep_park.specs.Waiters.{is_caller, listed, parked}
use Rattle.ep_park.specs.declared.waiter.Waiter.{Waiter}
use Rattle.ep_park.proofs.park.Park.park.Goals as goal

pub push-requires : goal.push-requires
push-requires g c = absent c.args.caller.0 c.self.inside.queue (ap (list_any (is_caller c.args.caller.0)) c.self.view_is ∙ c.requires)

pub add-requires-clause-none : goal.add-requires-clause-none
add-requires-clause-none g c =
    let none = absent c.args.caller.0 c.self.inside.queue (ap (list_any (is_caller c.args.caller.0)) c.self.view_is ∙ c.requires) in
    c.reserve-3.ensures.kept c.args.caller.0 ∙ (c.self.invariant.2.of c.args.caller.0 ∙ ap (option_map awaited) none)

pub count-requires-clause-most : goal.count-requires-clause-most
count-requires-clause-most g c =
    rw c.in_ok-reserve.ensures.entries (few_marked c.args.waiter.instance.0 _ c.self.inside.queue _ (c.self.invariant.0.of c.args.waiter.instance.0)
    (omega (arith, c.len.ensures.len, c.len.ensures.small)))

pub join-requires-clause-most : goal.join-requires-clause-most
join-requires-clause-most g c =
    rw c.in_ok-reserve-2.ensures.entries (few_counted c.args.waiter.process.0 _ c.self.inside.queue c.self.inside.processes.entries c.self.invariant.1
    (omega (arith, c.len.ensures.len, c.len.ensures.small)))

pub invariant_of-self-2 : goal.invariant_of-self-2
invariant_of-self-2 g c =
    let es = c.self.inside.queue in
    let caller = c.args.caller.0 in
    let w = c.args.waiter in
    let none = absent caller es (ap (list_any (is_caller caller)) c.self.view_is ∙ c.requires) in
    rw c.in_ok-push.ensures.pushed (
      tallied_last es c.self.inside.tallies.entries c.count.new.tallies.entries caller w c.self.invariant.0 (rw c.in_ok-reserve.ensures.entries at c.count.ensures),
      counts_last es c.self.inside.processes.entries c.join.new.processes.entries caller w c.self.invariant.1 (rw c.in_ok-reserve-2.ensures.entries at c.join.ensures),
      moments_follow es _ c.reserve-3.new.self c.add.new.self caller (Some w) (moments_same es c.self.inside.deadlines c.reserve-3.new.self c.self.invariant.2 c.reserve-3.ensures.kept)
          (rw (← c.awaited.ensures) c.add.ensures) (λ e. lookup_last caller e w es none),
    )

pub returns-clause-parked : goal.returns-clause-parked
returns-clause-parked g c =
    ap listed c.in_ok-push.ensures.pushed
    ∙ (map-append (λ (e : ℕ × Waiter). parked e.0 e.1) c.self.inside.queue ((c.args.caller.0, c.args.waiter) ∷ [])
    ∙ ap (λ ws. ws ++ parked c.args.caller.0 c.args.waiter ∷ []) c.self.view_is)
