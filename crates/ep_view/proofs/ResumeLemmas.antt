-- A resumption: who is refused, and one that is not marked.
use Rattle.std.proofs.Common.{◌≡◌, ◌==◌, ◌||◌, ◌∷◌, ◌∙◌, [], ap, cond, false, if◌then◌else◌, is_some, List, None, not, Option, refl, Some, true, Bool, ℕ}
use Rattle.std.specs.List.{find, list_any}
use Rattle.ep_base.specs.Limits.{Limits}
use Rattle.ep_base.specs.declared.answer.Answer.TheVariants.{Still}
use Rattle.ep_base.specs.declared.call.Event.TheVariants.{Resume}
use Rattle.ep_base.specs.declared.errno.Errno.TheVariants.{Einval}
use Rattle.ep_machine.specs.Effect.{first}
use Rattle.ep_machine.specs.Readiness.{is_ready}
use Rattle.ep_machine.specs.Refusal.{refusals}
use Rattle.ep_machine.specs.Report.{plainly, report}
use Rattle.ep_machine.specs.State.{State, Waiter}
use Rattle.ep_machine.specs.Waits.{is_parked, leave_after, resume, resume_by, resume_empty, waiter_of}

-- one that is not marked
pub resume_unmarked : (s : State) (caller : ℕ) (w : Waiter) → waiter_of s caller ≡ Some w → w.marked ≡ false → resume s caller [] ≡ Some (Still, s, [])
resume_unmarked s caller w parked unmarked =
    ap (λ (o : Option Waiter). resume_by s o []) parked
    ∙ ap (λ (b : Bool). if not b then plainly [] (Still, s, []) else if is_ready s w.instance then leave_after w.caller (report s w.instance w.most []) else plainly [] (resume_empty s w)) unmarked

-- a caller is parked where its waiter is found
pub parked_found : (s : State) (caller : ℕ) → is_parked s caller ≡ is_some (waiter_of s caller)
parked_found s caller = any_find s.waiters where
  any_find : (ws : List Waiter) → list_any (λ w. w.caller == caller) ws ≡ is_some (find (λ w. w.caller == caller) ws)
  any_find [] = refl
  any_find (w ∷ ws) = let rest = any_find ws in elim (w.caller == caller) as (λ b. (b || list_any (λ v. v.caller == caller) ws) ≡ is_some (cond b (Some w) (find (λ v. v.caller == caller) ws))) [ true ↦ refl | false ↦ rest ]

-- one that is not parked is refused
pub resume_refused : (limits : Limits) (s : State) (caller : ℕ) → is_parked s caller ≡ false → first (refusals limits s caller Resume) ≡ Some Einval
resume_refused limits s caller free = ap (λ (b : Bool). first ((not b, Einval) ∷ [])) free

pub resume_allowed : (limits : Limits) (s : State) (caller : ℕ) → is_parked s caller ≡ true → first (refusals limits s caller Resume) ≡ None
resume_allowed limits s caller parked = ap (λ (b : Bool). first ((not b, Einval) ∷ [])) parked
