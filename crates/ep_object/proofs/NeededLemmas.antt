-- Each premise of the laws of endings is needed: without it, an object refutes the law.
use Rattle.std.proofs.Common.{◌≡◌, ◌≢◌, ◌≤◌, ℕ, suc, false, Some, refl, arith}
use Rattle.std.specs.Prelude.{IsTrue}
use Rattle.ep_base.specs.declared.object.End.{End}
use Rattle.ep_base.specs.declared.object.End.TheVariants.{First, Second}
use Rattle.ep_machine.specs.Effect.{attempt}
use Rattle.ep_machine.specs.Objects.{Object, ObjectCall, close_end, counter, object_effect, object_refusals, pipe, reads, timer}
use Rattle.ep_machine.specs.Pipe.{new_pipe}
use Rattle.ep_object.specs.Law.{EndsNothing, object_has}

-- one less is no number
no_number : (n : ℕ) → 0 ≡ suc n → ⊥
no_number n h = absurd (omega (arith, h))

module _ (now : ℕ) (asked : ObjectCall) where
  abbrev after_call : Object → End → Object
  after_call x e = (attempt (object_refusals x e now asked) x (object_effect x e now asked)).1

-- not at the called end
CallEndsNothing : Type 0
CallEndsNothing = (x : Object) (e o : End) (now : ℕ) (asked : ObjectCall)
    → e ≡ o → IsTrue (object_has x e) → IsTrue (object_has x o) → EndsNothing x (after_call now asked x e) o now now

abbrev of_one : Object
of_one = counter (record { count = 1; is_semaphore = false })

read_ends_here : CallEndsNothing → ⊥
unfolding CallEndsNothing
read_ends_here law = no_number 0 (law of_one First First 0 (reads 8) refl refl refl)

-- nor where the called end is not there
AbsentEndsNothing : Type 0
AbsentEndsNothing = (x : Object) (e o : End) (now : ℕ) (asked : ObjectCall)
    → e ≢ o → IsTrue (object_has x o) → EndsNothing x (after_call now asked x e) o now now

absent_end_ends : AbsentEndsNothing → ⊥
unfolding AbsentEndsNothing
absent_end_ends law = no_number 0 (law of_one Second First 0 (reads 8) (λ e. cc) refl)

-- nor at an end that is not there
LostEndsNothing : Type 0
LostEndsNothing = (x : Object) (e o : End) (now : ℕ) (asked : ObjectCall)
    → e ≢ o → IsTrue (object_has x e) → EndsNothing x (after_call now asked x e) o now now

lost_end_ends : LostEndsNothing → ⊥
unfolding LostEndsNothing
lost_end_ends law = no_number 0 (law of_one First Second 0 (reads 8) (λ e. cc) refl)

-- nor as the clock goes back
BackwardsEndsNothing : Type 0
BackwardsEndsNothing = (x : Object) (e : End) (old new : ℕ) → new ≤ old → EndsNothing x x e old new

backwards_ends : BackwardsEndsNothing → ⊥
unfolding BackwardsEndsNothing
backwards_ends law = no_number 0 (law (timer (record { first_moment = Some 5; interval = 0; taken = 0 })) First 5 4 (omega arith))

-- and a close begins bits
CloseBeginsNothing : Type 0
CloseBeginsNothing = (x : Object) (e o : End) (now : ℕ) → EndsNothing (close_end x e).0 x o now now

close_begins : CloseBeginsNothing → ⊥
unfolding CloseBeginsNothing
close_begins law = no_number 7 (law (pipe (new_pipe 4096)) First Second 0)
