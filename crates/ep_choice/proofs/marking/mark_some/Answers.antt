use Rattle.std.proofs.Common.{◌≡◌, ◌∙◌, [], ap, filter, length, refl, subst, sym}
use Rattle.ep_calls.specs.Parts.{Parts}
use Rattle.ep_choice.proofs.MarkingLemmas.{Woke, above_no, marked_at_end, none_lost, still_narrowed, woke_else, woke_then}
use Rattle.ep_choice.specs.declared.choice.Choice.{Choice}
use Rattle.ep_interest.specs.Exclusive.{is_exclusive}
use Rattle.ep_nest.specs.Links.{edges}
use Rattle.ep_walk.specs.Walk.{Walk}
use Rattle.ep_choice.proofs.marking.mark_some.Goals as goal
use Rattle.ep_choice.proofs.marking.mark_some.Goals.{else-guards-gt0, then-guards-gt0}

pub returns-then-count-gt0-clause-marks : goal.returns-then-count-gt0-clause-marks
returns-then-count-gt0-clause-marks g c =
    let p = c.args.parts.now in
    let n = c.args.step in
    let b = c.if-guards-gt0.parts in
    let w = c.if-guards-gt0.reached in
    let a = c.mark_due.new.parts in
    let counts = subst (λ (q : Parts). c.guards.result ≡ length (filter is_exclusive q.interest.entries)) c.parts.view_is c.guards.ensures in
    let woke : Woke n p b w = elim c.if-guards-gt0.branch [
      | then-guards-gt0 x ↦ woke_then n p a x.wake.new.parts b x.wake.new.reached w c.mark_due.ensures x.parts-is x.reached-is x.wake.ensures.narrowed x.wake.ensures.parked x.wake.ensures.reached
      | else-guards-gt0 x ↦ woke_else n p a b c.args.reached.now w c.guards.result c.mark_due.ensures x.parts-is x.reached-is counts x.if-guards-gt0.false c.requires.reached
    ] in
    let lost : c.if-guards-gt0.choice.lost.reached ≡ c.args.choice.now.lost.reached = elim c.if-guards-gt0.branch [
      | then-guards-gt0 x ↦ ap (λ (d : Choice). d.lost.reached) x.choice-is ∙ ap (λ (d : Walk). d.reached) x.wake.ensures.lost
      | else-guards-gt0 x ↦ ap (λ (d : Choice). d.lost.reached) x.choice-is
    ] in
    marked_at_end n p b c.mark.new.parts c.mark_loose.new.parts w c.args.attend c.if-guards-gt0.choice.lost.reached c.args.choice.now.lost.reached c.known.ensures.coherent woke lost c.requires.looked c.mark.ensures.marks c.mark.ensures.others c.mark_loose.ensures.marks

pub returns-then-count-gt0-clause-narrowed : goal.returns-then-count-gt0-clause-narrowed
returns-then-count-gt0-clause-narrowed g c =
    let p = c.args.parts.now in
    let n = c.args.step in
    let b = c.if-guards-gt0.parts in
    let w = c.if-guards-gt0.reached in
    let a = c.mark_due.new.parts in
    let counts = subst (λ (q : Parts). c.guards.result ≡ length (filter is_exclusive q.interest.entries)) c.parts.view_is c.guards.ensures in
    let woke : Woke n p b w = elim c.if-guards-gt0.branch [
      | then-guards-gt0 x ↦ woke_then n p a x.wake.new.parts b x.wake.new.reached w c.mark_due.ensures x.parts-is x.reached-is x.wake.ensures.narrowed x.wake.ensures.parked x.wake.ensures.reached
      | else-guards-gt0 x ↦ woke_else n p a b c.args.reached.now w c.guards.result c.mark_due.ensures x.parts-is x.reached-is counts x.if-guards-gt0.false c.requires.reached
    ] in
    still_narrowed n p b c.mark.new.parts c.mark_loose.new.parts w c.mark_loose.new.parts.parked woke c.mark.ensures.others
    (c.mark_loose.ensures.marks.2 ∙ (λ i. record c.mark.new.parts { parked = (sym c.mark_loose.ensures.marks.2 i).parked }))

pub returns-else-count-gt0-clause-marks : goal.returns-else-count-gt0-clause-marks
returns-else-count-gt0-clause-marks g c =
    let p = c.args.parts.now in
    let n = c.args.step in
    let b = c.if-guards-gt0.parts in
    let w = c.if-guards-gt0.reached in
    let a = c.mark_due.new.parts in
    let counts = subst (λ (q : Parts). c.guards.result ≡ length (filter is_exclusive q.interest.entries)) c.parts.view_is c.guards.ensures in
    let woke : Woke n p b w = elim c.if-guards-gt0.branch [
      | then-guards-gt0 x ↦ woke_then n p a x.wake.new.parts b x.wake.new.reached w c.mark_due.ensures x.parts-is x.reached-is x.wake.ensures.narrowed x.wake.ensures.parked x.wake.ensures.reached
      | else-guards-gt0 x ↦ woke_else n p a b c.args.reached.now w c.guards.result c.mark_due.ensures x.parts-is x.reached-is counts x.if-guards-gt0.false c.requires.reached
    ] in
    let lost : c.if-guards-gt0.choice.lost.reached ≡ c.args.choice.now.lost.reached = elim c.if-guards-gt0.branch [
      | then-guards-gt0 x ↦ ap (λ (d : Choice). d.lost.reached) x.choice-is ∙ ap (λ (d : Walk). d.reached) x.wake.ensures.lost
      | else-guards-gt0 x ↦ ap (λ (d : Choice). d.lost.reached) x.choice-is
    ] in
    let q = c.mark.new.parts in
    marked_at_end n p b q q w c.args.attend c.if-guards-gt0.choice.lost.reached c.args.choice.now.lost.reached c.known.ensures.coherent woke lost c.requires.looked c.mark.ensures.marks c.mark.ensures.others
    ([], above_no (edges q.graph) c.if-guards-gt0.choice.lost.reached (none_lost c.if-guards-gt0.choice.lost.reached c.count.result c.count.ensures c.if-count-gt0.false), refl)

pub returns-else-count-gt0-clause-narrowed : goal.returns-else-count-gt0-clause-narrowed
returns-else-count-gt0-clause-narrowed g c =
    let p = c.args.parts.now in
    let n = c.args.step in
    let b = c.if-guards-gt0.parts in
    let w = c.if-guards-gt0.reached in
    let a = c.mark_due.new.parts in
    let counts = subst (λ (q : Parts). c.guards.result ≡ length (filter is_exclusive q.interest.entries)) c.parts.view_is c.guards.ensures in
    let woke : Woke n p b w = elim c.if-guards-gt0.branch [
      | then-guards-gt0 x ↦ woke_then n p a x.wake.new.parts b x.wake.new.reached w c.mark_due.ensures x.parts-is x.reached-is x.wake.ensures.narrowed x.wake.ensures.parked x.wake.ensures.reached
      | else-guards-gt0 x ↦ woke_else n p a b c.args.reached.now w c.guards.result c.mark_due.ensures x.parts-is x.reached-is counts x.if-guards-gt0.false c.requires.reached
    ] in
    still_narrowed n p b c.mark.new.parts c.mark.new.parts w c.mark.new.parts.parked woke c.mark.ensures.others refl
