use Rattle.std.proofs.Common.{rules, ◌≡◌, ◌+◌, ◌≤◌, ap, arith, length, refl}
use Rattle.ep_records.specs.Lists.{Lists}
use Rattle.ep_records.proofs.KeptLemmas.{ends_within, grown_by_reports, slot_added, told_is, within_added}
use Rattle.ep_records.proofs.history.History.push_resume.Goals as goal

pub invariant_of-self : goal.invariant_of-self
invariant_of-self c =
    let b = c.self.inside.beside in
    let new = c.push_reports.new.self in
    let n : c.in-Ok.n ≡ length c.args.reports.now = search rules in
    let as_many : c.in-Ok.n ≡ length c.args.numbers.now = search rules in
    let y : c.in-Some.y ≡ length b.reports = search rules in
    let z : c.in-Some.z ≡ length b.numbers = search rules in
    let reports = ends_within b.reports new.reports c.args.reports.now (ap (λ (l : Lists). l.reports) c.in-Some.ensures.2) in
    let numbers = ends_within b.numbers new.numbers c.args.numbers.now (ap (λ (l : Lists). l.numbers) c.in-Some.ensures.2) in
    let named : (c.in-Some.y + c.in-Ok.n ≤ length new.reports) × (c.in-Some.z + c.in-Ok.n ≤ length new.numbers) =
    (omega (arith, y, n, reports), omega (arith, z, as_many, numbers)) in
    let within = within_added b new _ _ _ (grown_by_reports b new _ _ c.in-Some.ensures.2) c.push_reserved.ensures.items named c.self.invariant.0 in
    (within, c.self.invariant.1, c.self.invariant.2)

pub returns-in-Some-clause-pushed : goal.returns-in-Some-clause-pushed
returns-in-Some-clause-pushed c =
    let b = c.self.inside.beside in
    let new = c.push_reports.new.self in
    let n : c.in-Ok.n ≡ length c.args.reports.now = search rules in
    let as_many : c.in-Ok.n ≡ length c.args.numbers.now = search rules in
    let y : c.in-Some.y ≡ length b.reports = search rules in
    let z : c.in-Some.z ≡ length b.numbers = search rules in
    let told = told_is b new c.args.reports.now c.args.numbers.now c.in-Some.y c.in-Some.z c.in-Ok.n c.in-Some.ensures.2 y z n as_many in
    λ _. rw (← c.self.view_is)
    (slot_added b new _ _ _ _ (grown_by_reports b new _ _ c.in-Some.ensures.2) c.push_reserved.ensures.items (rw (told.0, told.1) refl) c.self.invariant.0)
