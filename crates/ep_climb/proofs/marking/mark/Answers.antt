use Rattle.std.proofs.Common.{ap, subst, sym}
use Rattle.ep_calls.specs.Parts.{Parts}
use Rattle.ep_climb.proofs.MarkLemmas.{marked_both}
use Rattle.ep_climb.proofs.marking.mark.Goals as goal

pub mark_attended-requires : goal.mark_attended-requires
mark_attended-requires g c = subst (λ (p : Parts). g.R.Readiness.knows c.mark_reached.new.ready p.tables p.clock p.interest) (sym c.mark_reached.ensures.marks) c.mark_reached.ensures.knows

pub returns-clause-marks : goal.returns-clause-marks
returns-clause-marks g c =
    ap (λ (q : Parts). q.parked)
    (marked_both c.args.parts.now c.mark_reached.new.parts c.mark_attended.new.parts c.args.reached.now.reached c.args.attend c.mark_reached.ensures.marks c.mark_attended.ensures.marks)

pub returns-clause-knows : goal.returns-clause-knows
returns-clause-knows g c = subst (λ (p : Parts). g.R.Readiness.knows c.mark_attended.new.ready p.tables p.clock p.interest) (sym c.mark_attended.ensures.marks) c.mark_attended.ensures.knows
