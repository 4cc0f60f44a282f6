use Rattle.std.proofs.Common.{◌≡◌, ◌+◌, ◌∙◌, ap, arith, map, set, sym}
use Rattle.std.proofs.lemmas.List.{map-set}
use Rattle.ep_scenario.specs.Outcomes.{Seen, one_more, seen_of}
use Rattle.ep_scenario.proofs.CountLemmas.{seen_at}
use Rattle.ep_scenario.proofs.tally.Tally.count.Goals as goal

pub returns-clause-counted : goal.returns-clause-counted
returns-clause-counted c =
    let outcomes = c.args.self.now.outcomes.items in
    let at = seen_at outcomes c.args.place c.index_mut.result.now (omega arith) c.index_mut.ensures.value in
    let read = seen_at outcomes c.args.place c.index.result.now (omega arith) c.index.ensures in
    let same : c.index_mut.result.now.orders ≡ c.index.result.now.orders = ap (λ (s : Seen). s.orders) (sym at ∙ read) in
    let more : c.in-Some.orders ≡ c.index_mut.result.now.orders + 1 = omega (arith, c.in-Some.ensures, same) in
    map-set seen_of outcomes c.args.place _ ∙ ap (λ s. set (map seen_of outcomes) c.args.place s)
    (ap (λ n. record (seen_of c.index_mut.result.now) { orders = n }) more ∙ ap one_more (sym at))
