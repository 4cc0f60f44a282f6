use Rattle.std.proofs.Common.{◌≡◌, ◌∙◌, ap, subst, sym, false}
use Rattle.std.specs.List.{list_any}
use Rattle.ep_calls.specs.Parts.{Parts}
use Rattle.ep_choice.proofs.ClimbLemmas.{climb_exact}
use Rattle.ep_choice.specs.Choose.{HaveInstances, awaited_key, finds_key}
use Rattle.ep_climb.proofs.ReachLemmas.{all_home}
use Rattle.ep_climb.proofs.WalkLemmas.{ascends_closed}
use Rattle.ep_climb.specs.Reach.{AreRoomy, IsClosed, open_edges}
use Rattle.ep_interest.specs.Registrations.{entry_found}
use Rattle.ep_table.specs.Value.{Sound}
use Rattle.ep_choice.proofs.choosing.climb_from.Goals as goal

pub ascend-requires-clause-room : goal.ascend-requires-clause-room
ascend-requires-clause-room c =
    let k = c.parts.inside in
    let under = ap (entry_found k.interest.entries) c.entry.ensures.number ∙ c.entry.ensures.entry in
    (subst (λ (q : Parts). AreRoomy q.interest c.args.reached.now) (sym c.parts.view_is) c.requires.room) c.args.id c.entry.result.now under

pub ascend-requires-clause-home : goal.ascend-requires-clause-home
ascend-requires-clause-home c =
    let k = c.parts.inside in
    let tables = subst (λ (q : Parts). Sound q.tables) (sym c.parts.view_is) c.known.ensures.sound in
    all_home k.tables tables k.interest c.known-2.ensures c.parts.invariant.linked k.graph c.parts.invariant.nested c.args.reached.now
    (subst (λ (q : Parts). AreRoomy q.interest c.args.reached.now) (sym c.parts.view_is) c.requires.room)

pub ascend-requires-clause-closed : goal.ascend-requires-clause-closed
ascend-requires-clause-closed c = subst (λ (q : Parts). IsClosed (open_edges q.interest q.graph) c.args.reached.now.reached) (sym c.parts.view_is) c.requires.vain.closed

pub returns-clause-closed : goal.returns-clause-closed
returns-clause-closed c =
    let k = c.parts.inside in
    let closed = subst (λ (q : Parts). IsClosed (open_edges q.interest q.graph) c.args.reached.now.reached) (sym c.parts.view_is) c.requires.vain.closed in
    subst (λ (q : Parts). IsClosed (open_edges q.interest q.graph) c.ascend.new.reached.reached) c.parts.view_is
    (ascends_closed (open_edges k.interest k.graph) c.entry.result.now.instance.0 c.args.reached.now c.ascend.new.reached closed c.ascend.ensures)

pub returns-clause-exact : goal.returns-clause-exact
returns-clause-exact c =
    let k = c.parts.inside in
    let p : Parts = record { tables = k.tables; interest = k.interest; graph = k.graph; parked = k.waiters; clock = k.clock } in
    let tables = subst (λ (q : Parts). Sound q.tables) (sym c.parts.view_is) c.known.ensures.sound in
    let instances = subst HaveInstances (sym c.parts.view_is) c.requires.instances in
    let under = ap (entry_found k.interest.entries) c.entry.ensures.number ∙ c.entry.ensures.entry in
    let vain = subst (λ (q : Parts). list_any (awaited_key q.tables q.clock q.interest q.parked) c.args.reached.now.reached ≡ false) (sym c.parts.view_is) c.requires.vain.none in
    subst (λ (q : Parts). list_any (awaited_key q.tables q.clock q.interest q.parked) c.ascend.new.reached.reached ≡ finds_key q.tables q.clock q.interest q.parked c.args.id.0) c.parts.view_is
    (climb_exact p c.parts.invariant tables c.known-2.ensures c.known-3.ensures.legal instances c.args.id c.entry.result.now under c.args.reached.now c.ascend.new.reached c.ascend.ensures vain)
