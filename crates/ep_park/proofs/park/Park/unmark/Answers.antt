use Rattle.std.proofs.Common.{ap, false, map, sym, ◌∙◌}
use Rattle.std.specs.List.{list_any}
use Rattle.ep_machine.specs.Waits.{unmark}
use Rattle.ep_park.proofs.MarkLemmas.{kept_absent, unmarked_by}
use Rattle.ep_park.proofs.ViewLemmas.{absent}
use Rattle.ep_park.specs.Changes.{with_mark_at}
use Rattle.ep_park.specs.Waiters.{is_caller}
use Rattle.ep_park.proofs.park.Park.unmark.Goals as goal

pub returns-then-is_parked : goal.returns-then-is_parked
returns-then-is_parked g c =
    let k = c.args.caller.0 in
    c.set_mark.ensures
    ∙ (ap (with_mark_at k false) (sym c.self.view_is)
    ∙ (unmarked_by k c.self.inside.queue c.len-parked.ensures.unique ∙ ap (map (unmark k)) c.self.view_is))

pub returns-else-is_parked : goal.returns-else-is_parked
returns-else-is_parked g c =
    let k = c.args.caller.0 in
    let off = ap (list_any (is_caller k)) c.self.view_is ∙ (sym c.is_parked.ensures ∙ c.if-is_parked.false) in
    sym c.self.view_is
    ∙ (kept_absent k c.self.inside.queue (absent k c.self.inside.queue off)
    ∙ ap (map (unmark k)) c.self.view_is)
