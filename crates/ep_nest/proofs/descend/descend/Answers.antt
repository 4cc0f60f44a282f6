use Rattle.std.proofs.Common.{List, arith, ap, get_or, length, subst, ◌<◌, ◌∙◌, ◌≡◌, ◌||◌}
use Rattle.std.proofs.lemmas.List.{length-append, length-map}
use Rattle.std.proofs.lemmas.List.Elements.{Contains-get_or}
use Rattle.ep_base.specs.declared.ids.DescId.{DescId}
use Rattle.ep_machine.specs.Lists.{is_among}
use Rattle.ep_nest.proofs.DescentLemmas.{descended, goes_further, starts_down}
use Rattle.ep_nest.proofs.ElementLemmas.{Contains-map, among}
use Rattle.ep_nest.proofs.NoteLemmas.{few_noted}
use Rattle.ep_nest.specs.Links.{ends, keys, starting_at}
use Rattle.ep_nest.specs.declared.link.Way.TheVariants.{Down}
use Rattle.ep_nest.proofs.descend.descend.Goals as goal

pub loop-done-init : goal.loop-done-init
loop-done-init g c = record {
  descends =
      starts_down c.args.links.now c.args.above.0 (keys c.go_down.new.walk.reached.items)
      (λ x. c.go_down.ensures.exact x ∙ ap (λ (ds : List DescId). is_among (ends Down (starting_at Down c.args.above.0 c.args.links.now)) x || is_among (keys ds) x) c.clear.ensures.items);
  noted = c.go_down.ensures.noted;
  within = omega arith;
  room = c.go_down.ensures.room;
}

pub loop-done-smaller : goal.loop-done-smaller
loop-done-smaller g c =
    let few = few_noted c.loop-done.walk.marks.items (keys c.loop-done.walk.reached.items) c.loop-done.invariant.noted in
    let long = length-map c.loop-done.walk.reached.items (λ (d : DescId). d.0) in
    let stays = c.go_down-in-loop-done.ensures.marks in
    let count = c.loop-done.walk.reached.ok.0 in
    omega (arith, few, long, stays, count, c.loop-done-test.true, c.len.ensures)

pub loop-done-preserved : goal.loop-done-preserved
loop-done-preserved g c =
    let before = c.loop-done.walk.reached in
    let after = c.go_down-in-loop-done.new.walk.reached in
    let lt : c.loop-done.done < length before.items = omega (arith, before.ok.0, c.loop-done-test.true, c.len.ensures) in
    let next = c.index-next.result.now in
    record {
      descends =
          goes_further c.args.links.now c.args.above.0 before.items after.items c.loop-done.done next lt
          (λ x. subst (λ (e : DescId). is_among (keys after.items) x ≡ (is_among (ends Down (starting_at Down e.0 c.args.links.now)) x || is_among (keys before.items) x)) c.index-next.ensures (c.go_down-in-loop-done.ensures.exact x))
          c.go_down-in-loop-done.ensures.grown
          (among (keys before.items) (get_or before.items c.loop-done.done next).0 (Contains-map (λ (d : DescId). d.0) before.items (get_or before.items c.loop-done.done next) (Contains-get_or before.items c.loop-done.done next lt)))
          c.loop-done.invariant.descends;
      noted = c.go_down-in-loop-done.ensures.noted;
      within =
          let grown = c.go_down-in-loop-done.ensures.grown in
          let long = ap (λ (ds : List DescId). length ds) grown.1 ∙ length-append before.items grown.0 in
          omega (arith, long, before.ok.0, after.ok.0, c.loop-done-test.true, c.len.ensures);
      room = c.go_down-in-loop-done.ensures.room;
    }

pub returns-clause-exact : goal.returns-clause-exact
returns-clause-exact g c =
    let long = length-map c.loop-done.walk.reached.items (λ (d : DescId). d.0) in
    let count = c.loop-done.walk.reached.ok.0 in
    descended c.args.links.now c.args.above.0 (keys c.loop-done.walk.reached.items) c.loop-done.done (omega (arith, long, count, c.loop-done-test.false, c.len.ensures)) c.loop-done.invariant.descends
