use Rattle.std.proofs.Common.{None, Option, Some, ℕ, ◌≡◌, refl, sym, subst}
use Rattle.std.specs.List.{list_any}
use Rattle.ep_machine.specs.Waits.{is_due}
use Rattle.ep_calls.specs.Driver.{TellsNext}
use Rattle.ep_calls.specs.Parts.{Parts}
use Rattle.ep_calls.proofs.NextMomentLemmas.{next_moment, no_effect, told_by}
use Rattle.ep_park.specs.Deadlines.{awaits_mark}
use Rattle.ep_calls.proofs.parts.Parts.next_moment_with.Goals as goal

pub returns-in_err-moment : goal.returns-in_err-moment
returns-in_err-moment c = λ s rest stands.
    let p = c.args.self.now in
    let deadline = subst (λ (q : Parts). (now : ℕ) → is_due now c.first_deadline.result ≡ list_any (awaits_mark now) q.parked) c.self.view_is c.first_deadline.ensures in
    let told = told_by p s c.args.arrival c.first_deadline.result None stands c.requires deadline c.in_err-moment.ensures in
    subst (λ (o : Option ℕ). TellsNext s o) (sym c.from_residual.ensures) (no_effect s None told refl)

pub returns : goal.returns
returns c = λ s rest stands.
    let p = c.args.self.now in
    let moment = c.in_ok-moment.moment in
    let deadline = subst (λ (q : Parts). (now : ℕ) → is_due now c.first_deadline.result ≡ list_any (awaits_mark now) q.parked) c.self.view_is c.first_deadline.ensures in
    let told = told_by p s c.args.arrival c.first_deadline.result (Some moment) stands c.requires deadline c.in_ok-moment.ensures in
    next_moment s (Some moment) told moment c.new.result rest refl c.new.ensures.there c.new.ensures.at
