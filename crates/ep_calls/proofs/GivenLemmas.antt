-- A short write is answered by a number or an error at most, and reports nothing.
use Rattle.std.proofs.Common.{◌≡◌, ◌<◌, ◌^◌, [], ◌∷◌, List, None, Option, Some, refl, subst, sym, ℕ}
use Rattle.std.specs.Prelude.{MatchOption}
use Rattle.ep_base.specs.Limits.{Limits}
use Rattle.ep_base.specs.declared.answer.Answer.{Answer}
use Rattle.ep_base.specs.declared.call.Call.{Call}
use Rattle.ep_base.specs.declared.call.Call.TheVariants.{Write}
use Rattle.ep_base.specs.declared.call.Event.{Event}
use Rattle.ep_base.specs.declared.call.Event.TheVariants.{Call as CallOf}
use Rattle.ep_base.specs.declared.errno.Errno.{Errno}
use Rattle.ep_base.specs.declared.ids.Pid.{Pid}
use Rattle.ep_base.specs.declared.object.End.{End}
use Rattle.ep_machine.specs.Objects.{Object, write}
use Rattle.ep_machine.specs.Refusal.{refusals}
use Rattle.ep_machine.specs.Report.{plainly}
use Rattle.ep_machine.specs.State.{Change, State}
use Rattle.ep_machine.specs.Step.{change}
use Rattle.ep_object.proofs.AnswerLemmas.{by_write}
use Rattle.ep_records.specs.Short.{IsBrief, IsShortCall, as_still}
use Rattle.ep_calls.specs.Given.{FitsSlot, WritesFew}
use Rattle.ep_calls.specs.Moves.{Goes, Makes, Refuses}
use Rattle.ep_calls.specs.Parts.{Parts}

-- its record takes no more than its slot
write_brief : (x : Object) (e : End) (bytes : List ℕ) → IsBrief (as_still (write x e bytes).0)
write_brief x e bytes = by_write (λ a. IsBrief (as_still a)) (λ k. tt) (λ error. tt) tt x e bytes

told_plainly : (picked : List ℕ) (x made : Change) (answer : Answer) → plainly picked x ≡ Some made → made.0 ≡ answer → IsBrief (as_still x.0) → (picked ≡ []) × IsBrief (as_still answer)
told_plainly [] x made answer is same brief = let e : x.0 ≡ answer = cc in (refl, subst (λ (a : Answer). IsBrief (as_still a)) e brief)
told_plainly (k ∷ ks) x made answer is same brief = absurd cc

told : (r : Option Errno) (x : Change) (s : State) (answer : Answer) (picked : List ℕ) (new : Parts) → IsBrief (as_still x.0)
    → MatchOption r (Makes (plainly picked x) answer new) (λ e. Refuses s e answer picked new) → (picked ≡ []) × IsBrief (as_still answer)
told None x s answer picked new brief goes = told_plainly picked x goes.made answer goes.is goes.answers brief
told (Some e) x s answer picked new brief goes = (goes.unpicked, subst (λ (a : Answer). IsBrief (as_still a)) (sym goes.answers) tt)

module _ (limits : Limits) (s : State) (caller : ℕ) (answer : Answer) (picked : List ℕ) (new : Parts) where
  told_call : (pid : Pid) (call : Call) → Goes (refusals limits s caller (CallOf pid call)) (change limits s caller (CallOf pid call) picked) s answer picked new → WritesFew pid.0 call → (picked ≡ []) × ((pid.0 < 2 ^ 32) × IsShortCall call (as_still answer))
  told_call pid (Write fd bytes) goes few = let h = told _ _ s answer picked new (write_brief _ _ bytes) goes in (h.0, (few.0, (few.1, h.1)))
  told_call pid call goes few = absurd few

  pub fits_slot : (event : Event) → Goes (refusals limits s caller event) (change limits s caller event picked) s answer picked new → FitsSlot event answer picked
  fits_slot (CallOf pid call) goes few = told_call pid call goes few
  fits_slot event goes few = absurd few
