use Rattle.std.proofs.Common.{refl}
use Rattle.ep_records.proofs.KeptLemmas.{given_is, grown_by_bytes, slot_added}
use Rattle.ep_records.proofs.history.History.push_read.Goals as goal

pub returns-in-Some-clause-pushed : goal.returns-in-Some-clause-pushed
returns-in-Some-clause-pushed c =
    let b = c.self.inside.beside in
    let new = c.push_bytes.new.self in
    let given = given_is b new c.args.bytes.now c.in-Some.place c.in-Some.ensures.1 c.in-Some.ensures.0 in
    λ _. rw (← c.self.view_is)
    (slot_added b new _ _ _ _ (grown_by_bytes b new _ c.in-Some.ensures.1) c.push_reserved.ensures.items (rw given refl) c.self.invariant.0)
