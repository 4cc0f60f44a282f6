-- Calls on the tables alone, as the machine makes them whatever is registered.
use Rattle.std.proofs.Common.{◌≡◌, ℕ, Bool, List, [], Option, Some, ap, subst, sym}
use Rattle.std.specs.List.{list_any}
use Rattle.ep_base.specs.Limits.{Limits}
use Rattle.ep_base.specs.declared.call.Call.{Call}
use Rattle.ep_base.specs.declared.call.Call.TheVariants.{EpollCtl, EpollWait}
use Rattle.ep_base.specs.declared.errno.Errno.{Errno}
use Rattle.ep_machine.specs.Files.{Files}
use Rattle.ep_machine.specs.FilesCalls.{FilesCall, files_call}
use Rattle.ep_base.specs.declared.ids.Fd.{Fd}
use Rattle.ep_machine.specs.Objects.{ObjectCall}
use Rattle.ep_machine.specs.Refusal.{call_refusals, refusals_on}
use Rattle.ep_machine.specs.State.{Change, State}
use Rattle.ep_machine.specs.Step.{call_change, change_on, files_change}
use Rattle.ep_machine.specs.Waits.{has_parked}
use Rattle.ep_park.specs.Waiters.{is_of}
use Rattle.ep_calls.specs.Does.{DoesCall}
use Rattle.ep_calls.specs.Moves.{Goes}
use Rattle.ep_calls.specs.Parts.{AreCoherent, Parts}
use Rattle.ep_calls.specs.Raising.{IsRaising, Raises}
use Rattle.ep_calls.specs.TableCall.{IsTableCall, called, raised_by}
use Rattle.ep_calls.specs.declared.outcome.Outcome.{Outcome}
use Rattle.ep_calls.specs.declared.raising.Raising.{Raising}
use Rattle.ep_calls.proofs.AskedLemmas.{asks_none}
use Rattle.ep_calls.proofs.FilesCallLemmas.{does_goes, does_keys, does_limits}
use Rattle.ep_calls.proofs.RegistrationLemmas.{process_waits}
use Rattle.ep_calls.proofs.TableRaiseLemmas.{never_refused, table_raises, table_raising}
use Rattle.ep_table.specs.Value.{Does, IsTold, Seen}

-- what the machine asks of such a call and does
abbrev IsMade : Limits → State → ℕ → ℕ → Call → Type 0
IsMade limits s caller p call =
    let c = files_call limits s.files p (has_parked s p) call in
    (call_refusals limits s p call ≡ c.refusals) × (call_change limits s caller p call [] ≡ Some (files_change s c))

is_made : (limits : Limits) (s : State) (caller p : ℕ) (call : Call) → IsTableCall call → IsMade limits s caller p call
is_made limits s caller p (EpollCtl epfd op fd mask tag) h = absurd h
is_made limits s caller p (EpollWait epfd most timeout) h = absurd h
is_made limits s caller p call h =
    let none = asks_none s.files.objects call h in
    (ap (refusals_on limits s p call) none, ap (λ (on : Option (Fd × ObjectCall)). Some (change_on limits s p call on)) none)

-- so the parts do what the machine does
pub table_does : (p : Parts) (new : Seen) (pid : ℕ) (call : Call) (outcome : Outcome) → AreCoherent p → IsTableCall call → Does (called p.tables p.parked pid call) outcome.answer p.tables new → IsTold (called p.tables p.parked pid call) new → outcome.picked ≡ [] → outcome.raising ≡ raised_by outcome.answer
    → (n caller : ℕ) → DoesCall n caller pid call outcome p (record p { tables = new })
table_does p new pid call outcome h is does told picked raising n caller =
    let limits = p.tables.limits in
    let busy = list_any (is_of pid) p.parked in
    let after : Parts = record p { tables = new } in
    let real = never_refused limits p.tables.files pid busy call is in
    record {
      moves = λ s at sound quiet legal stands.
          let both = is_made limits s caller pid call is in
          let G : List (Bool × Errno) → Option Change → Type 0 = λ tests o. Goes tests o s outcome.answer [] after in
          let F : Files → Bool → Type 0 = λ f b. let c = files_call limits f pid b call in G c.refusals (Some (files_change s c)) in
          let P : List ℕ → Type 0 = λ ks. Goes (call_refusals limits s pid call) (call_change limits s caller pid call ks) s outcome.answer ks after in
          subst P (sym picked)
          (subst (λ (tests : List (Bool × Errno)). G tests (call_change limits s caller pid call [])) (sym both.0)
          (subst (G (files_call limits s.files pid (has_parked s pid) call).refusals) (sym both.1)
          (subst (F s.files) (sym (process_waits p.tables p.interest p.parked p.clock s pid stands))
          (subst (λ (f : Files). F f busy) (sym stands.files)
          (does_goes (called p.tables p.parked pid call) outcome.answer p.tables new does p.graph p.interest h.linked h.placed p.clock s (called p.tables p.parked pid call).raised stands)))));
      raises = λ s at sound quiet legal stands.
          let both = is_made limits s caller pid call is in
          let made = called p.tables p.parked pid call in
          let same : files_call limits s.files pid (has_parked s pid) call ≡ made =
          λ i. files_call limits (stands.files i) pid (process_waits p.tables p.interest p.parked p.clock s pid stands i) call in
          let R : List (Bool × Errno) → Option Change → Type 0 = λ tests o. Raises tests o outcome.raising new p.clock in
          let P : List ℕ → Type 0 = λ ks. R (call_refusals limits s pid call) (call_change limits s caller pid call ks) in
          subst P (sym picked)
          (subst (λ (tests : List (Bool × Errno)). R tests (call_change limits s caller pid call [])) (sym both.0)
          (subst (R (files_call limits s.files pid (has_parked s pid) call).refusals) (sym both.1)
          (subst (λ (c : FilesCall). R c.refusals (Some (files_change s c))) (sym same)
          (subst (λ (r : Raising). Raises made.refusals (Some (files_change s made)) r new p.clock) (sym raising)
          (table_raises made real outcome.answer p.tables new does told s p.clock)))));
      raising = subst (λ (r : Raising). IsRaising r new) (sym raising) (table_raising (called p.tables p.parked pid call) real outcome.answer p.tables new does told);
      limits = does_limits (called p.tables p.parked pid call) outcome.answer p.tables new does;
      keys = does_keys (called p.tables p.parked pid call) outcome.answer p.tables new does;
    }
