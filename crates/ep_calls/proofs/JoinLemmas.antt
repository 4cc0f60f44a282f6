-- Nobody joins who listens yet: a connect that would is refused.
use Rattle.std.proofs.Common.{◌≡◌, ℕ, zero, suc, ◌∙◌, Bool, true, false, List, [], ◌∷◌, None, Option, Some, get_or, refl, ap, set, sym, unwrap_or}
use Rattle.ep_machine.specs.Effect.{first}
use Rattle.std.proofs.lemmas.Option.{none-some}
use Rattle.ep_base.specs.declared.errno.Errno.{Errno}
use Rattle.ep_base.specs.declared.errno.Errno.TheVariants.{Ebadf}
use Rattle.ep_base.specs.declared.call.Call.TheVariants.{Connect}
use Rattle.ep_machine.specs.Unconnected.{Idle}
use Rattle.ep_base.specs.declared.socket.Name.{Name}
use Rattle.ep_machine.specs.Sockets.{is_tcp}
use Rattle.ep_machine.specs.Objects.{connect, plain, asks, ObjectCall, found_for, is_taken, hearing, connects, connect_refusals, of_socket, Object}
use Rattle.ep_machine.specs.Files.{with_object, object_at, object_number, Files, Place, object_under, place_of, named_by, names_nothing}
use Rattle.ep_base.specs.Limits.{Limits}
use Rattle.ep_machine.specs.State.{State, Change}
use Rattle.ep_base.specs.declared.ids.Fd.{Fd}
use Rattle.ep_machine.specs.Step.{object_change, joined}
use Rattle.ep_machine.specs.Refusal.{on_object}
use Rattle.ep_law.proofs.ShapeLemmas.{by_joined}
use Rattle.ep_base.specs.declared.call.Call.{Call}
use Rattle.ep_object.proofs.ConnectionLemmas.{none_connects}
use Rattle.ep_object.specs.Connecting.{IsIdle}

past_test : (b : Bool) (e : Errno) (rest : List (Bool × Errno)) → first ((b, e) ∷ rest) ≡ None → first rest ≡ None
past_test true e rest h = absurd (none-some e (sym h))
past_test false e rest h = h

-- what stands where an object was set
set_there : (os : List (Option Object)) (k : ℕ) (y : Object) (x : Idle) → IsIdle (unwrap_or (get_or (set os k (Some y)) k None) plain) x → IsIdle y x
set_there [] k y x h = cc
set_there (o ∷ os) zero y x h = h
set_there (o ∷ os) (suc k) y x h = set_there os k y x h

at_place : (f : Files) (o : Option Place) (y : Object) (x : Idle) → IsIdle (unwrap_or (object_at (with_object f (object_number o) y) o) plain) x → IsIdle y x
at_place f None y x h = cc
at_place f (Some p) y x h = set_there f.objects p.object y x h

module _ (limits : Limits) (s : State) (p : ℕ) where
  asked_connect : (at fd : Fd) (name : Name) (asked : ObjectCall) → asks s.files.objects (Connect at name) ≡ Some (fd, asked) → (x : Idle) → is_tcp x.family ≡ false
      → IsIdle (object_under (object_change s p fd.0 asked).1.files p at.0) x → first (on_object s p fd.0 asked) ≡ None → ⊥
  asked_connect at fd name asked is x unix under allowed =
      let found = found_for (is_taken s.files.objects) (Connect at name) in
      let heard = hearing s.files.objects (Connect at name) in
      let same : (at, connects name.space found heard) ≡ (fd, asked) = cc in
      let y = object_under s.files p at.0 in
      let here : IsIdle (object_under (object_change s p at.0 (connects name.space found heard)).1.files p at.0) x = ap (λ (on : Fd × ObjectCall). object_under (object_change s p on.0.0 on.1).1.files p at.0) same ∙ under in
      let free : first (on_object s p at.0 (connects name.space found heard)) ≡ None = ap (λ (on : Fd × ObjectCall). first (on_object s p on.0.0 on.1)) same ∙ allowed in
      none_connects y name.space found heard x (at_place s.files (place_of s.files (named_by s.files p at.0)) (connect y found).1 x here) unix
      (past_test (names_nothing s.files p at.0) Ebadf (of_socket y (connect_refusals y name.space found heard)) free)

  pub joined_none : (call : Call) (fd : Fd) (asked : ObjectCall) → asks s.files.objects call ≡ Some (fd, asked) → first (on_object s p fd.0 asked) ≡ None → joined limits p call (object_change s p fd.0 asked) ≡ object_change s p fd.0 asked
  joined_none call fd asked is allowed =
      let c = object_change s p fd.0 asked in
      by_joined limits p (λ (made : Change). made ≡ c) call c refl (λ at name x m same under found unix.
      absurd (asked_connect at fd name asked (ap (asks s.files.objects) (sym same) ∙ is) x unix under allowed))
