use Rattle.std.proofs.Common.{◌≡◌, ◌&&◌, ◌∙◌, ℕ, Bool, Option, true, false, ap, filter, sym, unwrap_or}
use Rattle.ep_calls.specs.Climb.{is_nested_key}
use Rattle.ep_interest.specs.Passes.{has_id}
use Rattle.ep_interest.specs.Registrations.{entry_under, ids, is_on, lets_in}
use Rattle.ep_kernel.specs.Push.{comes_on}
use Rattle.ep_kernel.proofs.BesideLemmas.{each_map, each_start}
use Rattle.ep_kernel.proofs.PushLemmas.{gains_none, gains_same}
use Rattle.ep_kernel.proofs.push.push_above.Goals as goal
use Rattle.ep_machine.specs.Objects.{Object, is_instance, plain}
use Rattle.ep_rings.specs.KeyWalk.{entry_id}

pub returns-then-is_instance : goal.returns-then-is_instance
returns-then-is_instance c =
    let p = c.args.parts.now in
    let r = p.interest in
    let on : ℕ → Bool = λ k. has_id (ids r (filter (is_on c.args.desc) r.entries)) k && lets_in (entry_under r (entry_id k)) in
    let is : is_nested_key p.tables c.args.desc ≡ true = rw (← c.parts.view_is) (ap (λ (o : Option Object). is_instance (unwrap_or o plain)) (sym c.object.ensures) ∙ (sym c.is_instance.ensures ∙ c.if-is_instance.true)) in
    each_map (λ l m. gains_same on (comes_on p c.args.desc) l m (λ k. ap (λ (b : Bool). b && on k) (sym is))) (rw (← c.parts.view_is) c.push_watchers.ensures)

pub returns-else-is_instance : goal.returns-else-is_instance
returns-else-is_instance c =
    let p = c.args.parts.now in
    let r = p.interest in
    let on : ℕ → Bool = λ k. has_id (ids r (filter (is_on c.args.desc) r.entries)) k && lets_in (entry_under r (entry_id k)) in
    let is : is_nested_key p.tables c.args.desc ≡ false = rw (← c.parts.view_is) (ap (λ (o : Option Object). is_instance (unwrap_or o plain)) (sym c.object.ensures) ∙ (sym c.is_instance.ensures ∙ c.if-is_instance.false)) in
    each_start (λ l. gains_same (λ k. false) (comes_on p c.args.desc) l l (λ k. ap (λ (b : Bool). b && on k) (sym is)) (gains_none l))
