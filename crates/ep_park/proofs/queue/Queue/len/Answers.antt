use Rattle.std.proofs.Common.{List, nat_eq, subst, ℕ}
use Rattle.std.specs.List.{IsDistinct}
use Rattle.std.specs.Map.{keys_of}
use Rattle.ep_park.proofs.QueueLemmas.{callers_apart}
use Rattle.ep_park.specs.declared.waiter.Waiter.{Waiter}
use Rattle.ep_park.proofs.queue.Queue.len.Goals as goal

pub returns-clause-unique : goal.returns-clause-unique
returns-clause-unique g c =
    subst (λ (es : List (ℕ × Waiter)). IsDistinct nat_eq (keys_of es)) c.self.view_is
    (callers_apart c.self.inside.tickets.entries c.self.inside.turns.entries c.self.invariant.ticketed.each c.self.invariant.numbered.rise)
