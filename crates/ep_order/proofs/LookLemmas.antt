-- Where a kernel has to look for whom it marks.
use Rattle.std.proofs.Common.{◌≡◌, ℕ, ◌||◌, ◌∙◌, Bool, Option, true, false, not, ap, inl, inr, map, refl, sym, unwrap_or}
use Rattle.std.proofs.lemmas.Bool.{cases_Bool, false≢true}
use Rattle.ep_facts.proofs.BoolFacts.{first_of_and, second_of_and}
use Rattle.ep_law.specs.Laws.{has_instance}
use Rattle.ep_law.proofs.MarkLemmas.{marked_parts}
use Rattle.ep_law.proofs.RegularLemmas.{changes_are_regular}
use Rattle.ep_law.proofs.StepLemmas.{change_counted}
use Rattle.ep_machine.specs.Objects.{Object, is_instance, plain}
use Rattle.ep_machine.specs.Files.{object_of}
use Rattle.ep_machine.specs.Settle.{settle}
use Rattle.ep_machine.specs.State.{Waiter}
use Rattle.ep_machine.specs.Step.{next_event}
use Rattle.ep_machine.specs.Waits.{waits_at}
use Rattle.ep_object.specs.Law.{AdvanceLaw, ApplyLaw, CloseLaw}
use Rattle.ep_order.specs.Mark.{MarkedAreLookedAt}
use Rattle.ep_order.proofs.GuardLemmas.{loses_guard}
use Rattle.ep_view.proofs.KindLemmas.{instance_of_kind}
use Rattle.ep_order.proofs.MarkLemmas.{at_any, unmarked_are_woken, waiter_there, waits_by}
use Rattle.ep_view.specs.AtRest.{AtRest, kind_of, marks_at_end, standing, wakes_at_end}
use Rattle.ep_view.specs.KernelView.{ready_now}
use Rattle.ep_view.specs.Marking.{guarded_now}
use Rattle.ep_view.proofs.AtRestLemmas.{quiet_begun, quiet_change, quiet_run}
use Rattle.ep_view.proofs.SettleLemmas.{guarded_at_end, quiet_settled, ready_at_end, settle_changed, woken_at_end}

free_if : (g w : Bool) → (not g || w) ≡ true → w ≡ false → g ≡ false
free_if true true h f = absurd (false≢true (sym f))
free_if true false h f = absurd (false≢true h)
free_if false w h f = refl

pub marked_are_looked_at : ApplyLaw → CloseLaw → AdvanceLaw → MarkedAreLookedAt
marked_are_looked_at apply close clock limits past s caller event picked c e is allowed made waits unmarked marks =
    let b = next_event s in
    let t = settle b c.1 c.2 in
    let counted = change_counted limits s caller event picked c made in
    let changed = quiet_change limits b caller event picked c (quiet_begun s (quiet_run limits past s is)) allowed made in
    let regular = changes_are_regular limits past s caller event picked c is allowed made in
    let settled = settle_changed b c.1 c.2 counted changed regular in
    let after : AtRest t = quiet_settled c.1 changed b.waiters c.2 t settled in
    let places : map (λ w. w.instance) t.waiters ≡ map (λ w. w.instance) c.1.waiters = ap (map (λ (w : Waiter). w.instance)) settled.waiters ∙ marked_parts (marks_at_end b.waiters c.1 c.2 t) (λ w. w.instance) (λ w x. refl) t.now c.1.waiters in
    let there : waits_at t.waiters e ≡ true = waits_by t.waiters e ∙ (ap (at_any e) places ∙ (sym (waits_by c.1.waiters e) ∙ waits)) in
    let who = waiter_there (λ w. kind_of (object_of t.files w.instance) ≡ 1) t.waiters e after.waiting there in
    let inst : has_instance t.files e ≡ true = ap (λ (o : Option Object). is_instance (unwrap_or o plain)) (instance_of_kind (object_of t.files e) (ap (λ (d : ℕ). kind_of (object_of t.files d)) (sym who.2) ∙ who.1)) in
    let zs = standing c.1 c.2 t.files in
    let ready = first_of_and (ready_now t.files t.now zs e) _ marks in
    let either = second_of_and (ready_now t.files t.now zs e) _ marks in
    elim (cases_Bool (wakes_at_end s.waiters c.1 c.2 t e)) [
      | inl woken ↦ inl woken
      | inr sleeps ↦
          let free = guarded_at_end b c.1 c.2 counted changed regular e ∙ free_if (guarded_now zs e) (wakes_at_end s.waiters c.1 c.2 t e) either sleeps in
          elim (unmarked_are_woken apply close clock limits past s caller event picked c e is allowed made waits unmarked (ready_at_end b c.1 c.2 counted changed regular e ∙ ready) free) [
            | inl woken ↦ absurd (false≢true (sym sleeps ∙ (sym (woken_at_end b c.1 c.2 counted changed regular e inst) ∙ woken)))
            | inr guarded ↦ inr (guarded, loses_guard limits past s caller event picked c e is allowed made guarded free)
          ]
    ]
