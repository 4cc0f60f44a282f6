use Rattle.std.proofs.Common.{Some, ap, sym, true, ◌∙◌, ◌≡◌}
use Rattle.std.specs.List.{list_any}
use Rattle.ep_park.proofs.MarkLemmas.{first_there, longest_by, longest_kept, longest_nobody}
use Rattle.ep_park.proofs.TallyLemmas.{first_is}
use Rattle.ep_park.specs.Changes.{with_mark_at}
use Rattle.ep_park.specs.Tallies.{tally_of}
use Rattle.ep_park.specs.Waiters.{is_caller, listed, longest_marked}
use Rattle.ep_park.proofs.park.Park.mark_longest.Goals as goal

pub returns-in_default : goal.returns-in_default
returns-in_default g c =
    let n = c.args.instance.0 in
    sym c.self.view_is
    ∙ (longest_nobody n (listed c.self.inside.queue) (sym c.in_default.is ∙ (c.copied.ensures ∙ (c.get.ensures.value ∙ c.self.invariant.0.of n)))
    ∙ ap (longest_marked n) c.self.view_is)

pub returns-then-tally-gt0 : goal.returns-then-tally-gt0
returns-then-tally-gt0 g c =
    let n = c.args.instance.0 in
    sym c.self.view_is
    ∙ (longest_kept n c.in-Some.tally (listed c.self.inside.queue) (sym c.in-Some.is ∙ (c.copied.ensures ∙ (c.get.ensures.value ∙ c.self.invariant.0.of n))) c.if-tally-gt0.true
    ∙ ap (longest_marked n) c.self.view_is)

pub set_mark-requires : goal.set_mark-requires
set_mark-requires g c =
    let n = c.args.instance.0 in
    let ws = listed c.self.inside.queue in
    let has : Some c.in-Some.tally ≡ tally_of n ws = sym c.in-Some.is ∙ (c.copied.ensures ∙ (c.get.ensures.value ∙ c.self.invariant.0.of n)) in
    ap (list_any (is_caller c.in-Some.tally.first.0)) (sym c.self.view_is) ∙ first_there n c.in-Some.tally.first.0 ws (first_is n ws c.in-Some.tally has)

pub returns : goal.returns
returns g c =
    let n = c.args.instance.0 in
    c.set_mark.ensures
    ∙ (ap (with_mark_at c.in-Some.tally.first.0 true) (sym c.self.view_is)
    ∙ (longest_by n c.in-Some.tally c.self.inside.queue c.len-parked.ensures.unique
    (sym c.in-Some.is ∙ (c.copied.ensures ∙ (c.get.ensures.value ∙ c.self.invariant.0.of n))) c.if-tally-gt0.false
    ∙ ap (longest_marked n) c.self.view_is))
