use Rattle.std.proofs.Common.{ap, sym, ◌∙◌}
use Rattle.std.specs.List.{list_any}
use Rattle.ep_park.proofs.MarkLemmas.{mark_found, mark_none}
use Rattle.ep_park.specs.Waiters.{is_marked_caller}
use Rattle.ep_park.proofs.park.Park.is_marked.Goals as goal

pub returns-in-Some : goal.returns-in-Some
returns-in-Some g c =
    mark_found c.args.caller.0 c.in-Some.waiter c.self.inside.queue c.get.ensures.unique (sym c.in-Some.ensures.value)
    ∙ ap (list_any (is_marked_caller c.args.caller.0)) c.self.view_is

pub returns-in-None : goal.returns-in-None
returns-in-None g c =
    mark_none c.args.caller.0 c.self.inside.queue (sym c.in-None.ensures.value)
    ∙ ap (list_any (is_marked_caller c.args.caller.0)) c.self.view_is
