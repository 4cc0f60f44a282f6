use Rattle.std.proofs.Common.{Some, [], ap, arith, cond, nat_eq, refl, ◌++◌, ◌+◌, ◌<◌, ◌∙◌, ◌≡◌, ◌∷◌}
use Rattle.std.specs.BTreeMap.{is_at}
use Rattle.std.specs.Map.{lookup, remove_entry}
use Rattle.std.specs.Ordering.{is_eq}
use Rattle.ep_park.proofs.QueueLemmas.{next_is_new, pushed, pushed_view, put_back, put_last, ticket_test}
use Rattle.ep_park.specs.Queue.{in_turn, place_cmp}
use Rattle.ep_park.specs.declared.turn.Turn.{Turn}
use Rattle.ep_park.proofs.queue.Queue.push.Given.{Over}
use Rattle.ep_park.proofs.queue.Queue.push.Goals as goal
use Rattle.ep_park.proofs.queue.Queue.push.Goals.{After-into}

back : (g : Over) (c : After-into g) → c.remove.new.self.entries ≡ c.self.inside.turns.entries
back g c =
    let ts = c.self.inside.turns.entries in
    let last = c.self.inside.last in
    let t = last + 1 in
    let p : Turn = record { caller = c.args.caller; waiter = c.args.waiter } in
    let within = c.self.invariant.numbered.within in
    let lt : last < t = omega arith in
    c.remove.ensures.entries
    ∙ (ap (λ f. remove_entry f c.insert.new.self.entries) (ticket_test t)
    ∙ (ap (remove_entry (nat_eq t)) (c.in_ok-insert.ensures.entries ∙ put_last last t p ts within lt)
    ∙ put_back t p ts (next_is_new last t ts within lt)))

pub invariant_of-self-in-Err : goal.invariant_of-self-in-Err
invariant_of-self-in-Err g c = rw (back g c, c.in_ok-reserve.ensures.entries, c.in-Err.ensures.err) c.self.invariant

pub returns-in-Err-clause-kept : goal.returns-in-Err-clause-kept
returns-in-Err-clause-kept g c = ap in_turn (back g c) ∙ c.self.view_is

pub invariant_of-self-2 : goal.invariant_of-self-2
invariant_of-self-2 g c =
    let ts = c.self.inside.turns.entries in
    let ks = c.self.inside.tickets.entries in
    let ps = c.self.inside.places.entries in
    let k = c.args.caller.0 in
    let last = c.self.inside.last in
    let p : Turn = record { caller = c.args.caller; waiter = c.args.waiter } in
    let tickets = rw c.unwrap.ensures at c.insert-3.ensures.updates in
    pushed ts c.insert.new.self.entries ks c.insert-3.new.self.entries ps c.insert-2.new.self.entries last (last + 1) k p c.self.invariant (omega arith) refl
    (ap (lookup (nat_eq k)) c.self.view_is ∙ c.requires) c.in_ok-insert.ensures.entries c.insert.ensures.ordered
    (λ q. tickets.0 q ∙ (λ i. cond (nat_eq k q) (Some (last + 1)) (lookup (nat_eq q) (c.in_ok-reserve.ensures.entries i))))
    (λ q. c.in-Ok.ensures.updates.0 q ∙ (λ i. cond (is_eq (place_cmp (c.new.ensures i) q)) (Some c.args.caller) (lookup (is_at (place_cmp q)) ps)))

pub returns-clause-pushed : goal.returns-clause-pushed
returns-clause-pushed g c =
    let last = c.self.inside.last in
    let p : Turn = record { caller = c.args.caller; waiter = c.args.waiter } in
    ap in_turn c.in_ok-insert.ensures.entries
    ∙ (pushed_view c.self.inside.turns.entries last (last + 1) p c.self.invariant.numbered.within (omega arith)
    ∙ ap (λ es. es ++ (c.args.caller.0, c.args.waiter) ∷ []) c.self.view_is)
