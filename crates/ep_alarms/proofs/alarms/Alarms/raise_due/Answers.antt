use Rattle.std.proofs.Common.{Some, ap, map, subst, ◌∙◌}
use Rattle.ep_base.specs.declared.object.Raised.{Raised}
use Rattle.ep_due.specs.DueMap.{Moments, SetsMoment}
use Rattle.ep_interest.specs.Registrations.{raised_on}
use Rattle.ep_alarms.proofs.DueLemmas.{due_begins, due_fewer, due_more, due_told}
use Rattle.ep_alarms.proofs.alarms.Alarms.raise_due.Goals as goal

pub loop-desc-init : goal.loop-desc-init
loop-desc-init c =
    due_begins c.args.since c.args.now c.next_arrivals.ensures.advance c.next_arrivals.ensures.stays c.requires.order c.args.tables.now c.args.step c.args.interest.now c.args.self.now c.requires.set

sets : (c : goal.After-set) → SetsMoment c.loop-desc.self c.set.new.self c.in-Some.desc.0 (Some c.next.result)
sets c = subst (λ (a : Moments). SetsMoment a c.set.new.self c.in-Some.desc.0 (Some c.next.result)) c.self.view_is c.set.ensures

pub loop-desc-smaller : goal.loop-desc-smaller
loop-desc-smaller c =
    due_fewer c.args.tables.now c.args.since c.args.now c.args.step c.args.interest.now c.loop-desc.self c.loop-desc.interest c.in-Some.desc c.loop-desc.invariant c.in-Some.ensures c.set.new.self c.next.result c.next.ensures (sets c)

pub loop-desc-preserved : goal.loop-desc-preserved
loop-desc-preserved c =
    due_more c.args.tables.now c.args.since c.args.now c.args.step c.args.interest.now c.loop-desc.self c.loop-desc.interest c.in-Some.desc c.loop-desc.invariant c.in-Some.ensures c.set.new.self c.next.result c.next.ensures (sets c)
    c.raise.new.self (c.raise.ensures.entries ∙ ap (λ (r : Raised). map (raised_on c.in-Some.desc r.first c.args.step) c.loop-desc.interest.entries) c.advance.ensures) c.raise.ensures.keys c.raise.ensures.added

pub returns-clause-entries : goal.returns-clause-entries
returns-clause-entries c = due_told c.args.tables.now c.args.since c.args.now c.args.step c.args.interest.now c.loop-desc.self c.loop-desc.interest c.loop-desc.invariant c.in_default.ensures
