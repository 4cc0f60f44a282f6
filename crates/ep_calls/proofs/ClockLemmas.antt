-- What raises nothing by the clock leaves it.
use Rattle.std.proofs.Common.{◌≡◌, ℕ, Bool, false, filter, if◌then◌else◌, refl, subst, sym, true}
use Rattle.std.specs.List.{list_any}
use Rattle.ep_base.specs.declared.ids.DescId.{DescId}
use Rattle.ep_calls.specs.Clock.{ClockStays}
use Rattle.ep_calls.specs.Control.{Controls, is_done}
use Rattle.ep_calls.specs.Parts.{Parts}
use Rattle.ep_calls.specs.Readiness.{entry_shows, readiness}
use Rattle.ep_calls.specs.declared.control.Control.{Control}
use Rattle.ep_calls.specs.declared.control.Plan.{Plan}
use Rattle.ep_calls.specs.declared.outcome.Outcome.{Outcome}
use Rattle.ep_calls.specs.declared.raising.Raising.{Raising}
use Rattle.ep_calls.specs.declared.raising.Raising.TheVariants.{Instance, Nowhere}
use Rattle.ep_interest.specs.Registrations.{has_key}

raised_there : (a b : Bool) (desc : DescId) (before now : ℕ) → now ≡ before → ClockStays (if a then (if b then Instance desc else Nowhere) else Nowhere) before now
raised_there true true desc before now same = same
raised_there true false desc before now same = same
raised_there false b desc before now same = same

-- an epoll_ctl raises at its instance or nowhere
pub controls_stay : (plan : Plan) (args : Control) (outcome : Outcome) (p q : Parts) → Controls plan args outcome p q → ClockStays outcome.raising p.clock q.clock
controls_stay plan args outcome p q controls =
    subst (λ (r : Raising). ClockStays r p.clock q.clock) (sym controls.raising)
    (raised_there (is_done outcome.answer) (list_any (entry_shows (readiness q.tables q.clock q.interest) q.tables q.clock) (filter (has_key plan.named.instance args.fd plan.named.desc) q.interest.entries)) plan.named.instance p.clock q.clock controls.clock)

-- a refusal raises nothing
pub nowhere_stays : (raising : Raising) (now : ℕ) → raising ≡ Nowhere → ClockStays raising now now
nowhere_stays raising now is = subst (λ (r : Raising). ClockStays r now now) (sym is) refl
