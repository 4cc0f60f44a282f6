-- A call on an object over the parts.
use Rattle.std.proofs.Common.{◌≡◌, ◌∙◌, ◌==◌, ◌∷◌, ℕ, Bool, true, List, MatchOption, [], IsSome, None, Option, Some, false, ap, is_none, refl, slice_index_or, subst, sym, unwrap_or}
use Rattle.std.proofs.lemmas.Bool.{false≢true}
use Rattle.ep_base.specs.declared.call.Call.{Call}
use Rattle.ep_base.specs.declared.answer.Answer.TheVariants.{Refused}
use Rattle.ep_base.specs.declared.errno.Errno.{Errno}
use Rattle.ep_base.specs.declared.errno.Errno.TheVariants.{Ebadf}
use Rattle.ep_base.specs.declared.ids.DescId.{DescId}
use Rattle.ep_base.specs.declared.ids.Fd.{Fd}
use Rattle.ep_base.specs.declared.object.End.{End}
use Rattle.ep_law.proofs.EndLemmas.{set_object}
use Rattle.ep_machine.specs.Bits.{nothing}
use Rattle.ep_machine.specs.Effect.{Effect, attempt, first, unless}
use Rattle.ep_machine.specs.Files.{Files, Place, named_by, names_nothing, object_at, object_number, object_of, object_under, place_of, side_of, side_under, under}
use Rattle.ep_machine.specs.Objects.{Object, ObjectCall, instance, asks, is_instance, object_effect, object_refusals, reads}
use Rattle.ep_view.specs.AtRest.{kind_of}
use Rattle.ep_machine.specs.Refusal.{call_refusals}
use Rattle.ep_machine.specs.Step.{call_change}
use Rattle.ep_machine.specs.Tables.{affected, affected_raises}
use Rattle.ep_view.proofs.FilesLemmas.{extends_with_object}
use Rattle.ep_view.proofs.AtRestLemmas.{kind_at, kind_there}
use Rattle.ep_calls.specs.Does.{DoesCall}
use Rattle.ep_calls.specs.ObjectCall.{AppliesAt, CallsObject, object_call_of, object_effect_of}
use Rattle.ep_calls.specs.Parts.{AreCoherent, Parts}
use Rattle.ep_calls.specs.declared.outcome.Outcome.{Outcome}
use Rattle.ep_calls.specs.Moves.{Goes}
use Rattle.ep_calls.specs.Raising.{AsRaised, IsRaising, Raises, RaisesByCall, raised_bits}
use Rattle.ep_calls.specs.Stands.{KeepsKinds}
use Rattle.ep_calls.specs.declared.raising.Raising.{Raising}
use Rattle.ep_calls.specs.declared.raising.Raising.TheVariants.{Nowhere, Object as AtObject}
use Rattle.ep_calls.proofs.ObjectCallLemmas.{calls_object}
use Rattle.ep_calls.proofs.ObjectRaiseLemmas.{object_raises, raises_object}
use Rattle.ep_calls.proofs.PartsLemmas.{coherent_kept}
use Rattle.ep_calls.proofs.FilesCallLemmas.{object_called, object_keys, object_limits, on_object_is}
use Rattle.ep_view.proofs.KindLemmas.{effect_kind, instance_kind}
use Rattle.ep_table.specs.Value.{Refuses, Seen, Sound, Succeeds, content_of, effect_at, effect_under, files_after, holds_of, number_of, number_under, unwrapped}
use Rattle.ep_calls.proofs.KeyLemmas.{object_there, under_key}

some_not_none : {X : Type 0} (o : Option X) → IsSome o → is_none o ≡ false
some_not_none None h = absurd (false≢true h)
some_not_none (Some x) h = refl

unless_kind : (refusal : Option Errno) (x : Object) (e : End) (now : ℕ) (asked : ObjectCall) → kind_of (Some (unless refusal x (object_effect x e now asked)).1) ≡ kind_of (Some x)
unless_kind (Some error) x e now asked = refl
unless_kind None x e now asked = effect_kind x e now asked

-- a call on an object keeps the kind of what can be watched
pub applied_kinds : (v : Seen) (key : DescId) (now : ℕ) (asked : ObjectCall) → Sound v → IsSome (number_under v key) → KeepsKinds v.files (affected v.files (number_of v key) (effect_at v.files (number_of v key) now asked))
applied_kinds v key now asked sound there =
    let f = v.files in
    let d = number_of v key in
    let x = content_of f d in
    let u = under_key v.keys key there in
    let place : IsSome (place_of f d) = subst (λ (n : ℕ). IsSome (place_of f n)) (sym (ap (λ (o : Option ℕ). unwrap_or o 0) u.is)) (sound.place key u.number u.is) in
    (extends_with_object f (object_number (place_of f d)) (effect_at f d now asked).1
    (λ shows. unless_kind (first (object_refusals x (side_of f d) now asked)) x (side_of f d) now asked ∙ (kind_there (object_of f d) ∙ kind_at f (place_of f d) (some_not_none (place_of f d) place)))).shows

-- a call on an instance is refused
refused_raises : (x : Object) (e : End) (now : ℕ) (asked : ObjectCall) → is_instance x ≡ true → (attempt (object_refusals x e now asked) x (object_effect x e now asked)).2 ≡ nothing
refused_raises instance e now (reads n) h = refl
refused_raises instance e now asked h = refl
refused_raises x e now asked h = absurd (false≢true h)

-- so it raises nothing at the object of what is an instance after it
module _ (f : Files) (d now : ℕ) (asked : ObjectCall) where
  abbrev x : Object
  x = content_of f d

  abbrev made : Effect Object
  made = effect_at f d now asked

  -- where that object is an instance
  abbrev RaisesNothing : Object → Type 0
  RaisesNothing y = is_instance y ≡ true → made.2 ≡ nothing

  old_raises : RaisesNothing x
  old_raises = refused_raises x (side_of f d) now asked

  new_raises : RaisesNothing made.1
  new_raises h =
      let kind = unless_kind (first (object_refusals x (side_of f d) now asked)) x (side_of f d) now asked in
      old_raises (instance_kind (Some x) ∙ (ap (λ (k : ℕ). k == 1) (sym kind) ∙ (sym (instance_kind (Some made.1)) ∙ h)))

  raises_at : (o : Option Place) → place_of f d ≡ o → RaisesNothing (unwrapped (object_at (affected f d made) o))
  raises_at None is h = absurd (false≢true h)
  raises_at (Some p) is h =
      let was : RaisesNothing (unwrapped (object_at f (Some p))) = subst (λ (o : Option Place). RaisesNothing (unwrapped (object_at f o))) is old_raises in
      set_object RaisesNothing f.objects (object_number (place_of f d)) p.object (Some made.1) (λ e. new_raises) was h

  pub instance_raises : is_instance (content_of (affected f d made) d) ≡ true → made.2 ≡ nothing
  instance_raises h = raises_at (place_of f d) refl h

-- so the parts do what the machine does
pub object_does : (p : Parts) (new : Seen) (pid : ℕ) (fd : Fd) (asked : ObjectCall) (outcome : Outcome) → AreCoherent p → CallsObject pid fd p.clock asked outcome.answer p.tables new
    → RaisesByCall p.tables new pid fd.0 p.clock asked outcome.raising → outcome.picked ≡ [] → IsRaising outcome.raising new
    → (n caller : ℕ) (call : Call) → asks p.tables.files.objects call ≡ Some (fd, asked) → DoesCall n caller pid call outcome p (record p { tables = new })
object_does p new pid fd asked outcome h calls raises picked is n caller call on =
    let limits = p.tables.limits in
    let here = on_object_is p.tables.files.objects call fd asked on in
    record {
      moves = λ s at sound quiet legal stands.
          let P : List ℕ → Type 0 = λ ks. Goes (call_refusals limits s pid call) (call_change limits s caller pid call ks) s outcome.answer ks (record p { tables = new }) in
          subst P (sym picked) (object_called p.tables new pid fd p.clock asked outcome.answer calls call p.graph limits p.interest s caller h.linked h.placed stands refl here);
      raises = λ s at sound quiet legal stands.
          let P : List ℕ → Type 0 = λ ks. Raises (call_refusals limits s pid call) (call_change limits s caller pid call ks) outcome.raising new p.clock in
          subst P (sym picked) (object_raises p.tables new pid fd p.clock asked call outcome.raising raises limits p.interest s caller stands here);
      raising = is;
      limits = object_limits p.tables new pid fd p.clock asked outcome.answer calls;
      keys = object_keys p.tables new pid fd p.clock asked outcome.answer calls;
    }

-- a descriptor that names nothing is refused
pub unnamed_calls : (p : Parts) (pid : ℕ) (fd : Fd) (asked : ObjectCall) (outcome : Outcome) → under p.tables.files pid fd.0 ≡ None
    → outcome.answer ≡ Refused Ebadf → CallsObject pid fd p.clock asked outcome.answer p.tables p.tables
unnamed_calls p pid fd asked outcome none answer =
    let v = p.tables in
    let c = object_call_of v.files pid fd.0 p.clock asked in
    let tests = object_refusals (object_under v.files pid fd.0) (side_under v.files pid fd.0) p.clock asked in
    let refuses : Refuses Ebadf outcome.answer v v = record { answers = answer; tables = refl } in
    subst (λ (b : Bool). MatchOption (first ((b, Ebadf) ∷ tests)) (Succeeds c outcome.answer v v) (λ e. Refuses e outcome.answer v v)) (sym (ap is_none none)) refuses

pub unnamed_does : (p : Parts) (pid : ℕ) (fd : Fd) (asked : ObjectCall) (outcome : Outcome) → AreCoherent p → under p.tables.files pid fd.0 ≡ None
    → outcome.answer ≡ Refused Ebadf → outcome.picked ≡ [] → outcome.raising ≡ Nowhere
    → (n caller : ℕ) (call : Call) → asks p.tables.files.objects call ≡ Some (fd, asked) → DoesCall n caller pid call outcome p p
unnamed_does p pid fd asked outcome h none answer picked raising =
    let v = p.tables in
    let tests = object_refusals (object_under v.files pid fd.0) (side_under v.files pid fd.0) p.clock asked in
    let nothing_named : names_nothing v.files pid fd.0 ≡ true = ap is_none none in
    let calls = unnamed_calls p pid fd asked outcome none answer in
    let raises : RaisesByCall v v pid fd.0 p.clock asked outcome.raising =
    subst (λ (b : Bool). MatchOption (first ((b, Ebadf) ∷ tests)) (AsRaised outcome.raising v p.clock (affected_raises v.files (named_by v.files pid fd.0) (object_effect_of v.files pid fd.0 p.clock asked))) (λ e. AsRaised outcome.raising v p.clock [])) (sym nothing_named)
    (λ d. sym (ap (λ (r : Raising). raised_bits r v p.clock d) raising)) in
    object_does p v pid fd asked outcome h calls raises picked (subst (λ (r : Raising). IsRaising r v) (sym raising) tt)

-- what a call on the object of a description that was found comes to
module _ (p : Parts) (new : Seen) (pid : ℕ) (fd : Fd) (desc : DescId) (asked : ObjectCall) (outcome : Outcome) (sound : Sound p.tables) (found : number_under p.tables desc ≡ under p.tables.files pid fd.0) (live : IsSome (number_under p.tables desc))
    (applies : AppliesAt desc p.clock asked outcome p.tables new) where
  pub applied_calls : CallsObject pid fd p.clock asked outcome.answer p.tables new
  applied_calls = calls_object p.tables new pid fd.0 desc p.clock asked outcome.answer found live (object_there p.tables desc sound live) applies.answer applies.files

  applied_raises : RaisesByCall p.tables new pid fd.0 p.clock asked outcome.raising
  applied_raises =
      let v = p.tables in
      raises_object v desc p.clock asked (effect_under v desc p.clock asked).2 outcome.raising applies.raising new pid fd.0 found live (ap (λ (t : Seen). t.keys) applies.files) (ap (λ (t : Seen). t.files.descriptions) applies.files) refl

  applied_raising : IsRaising outcome.raising new
  applied_raising =
      let v = p.tables in
      let d = number_of v desc in
      let raised = (effect_under v desc p.clock asked).2 in
      subst (λ (r : Raising). IsRaising r new) (sym applies.raising)
      (subst (IsRaising (AtObject desc raised)) (sym applies.files) (live, λ h. instance_raises v.files d p.clock asked h))

  pub applied_does : AreCoherent p → (n caller : ℕ) (call : Call) → asks p.tables.files.objects call ≡ Some (fd, asked) → DoesCall n caller pid call outcome p (record p { tables = new })
  applied_does h = object_does p new pid fd asked outcome h applied_calls applied_raises applies.picked applied_raising

-- and the parts stay coherent
pub applied_coherent : (p : Parts) (new : Seen) (desc : DescId) (asked : ObjectCall) → Sound p.tables → IsSome (number_under p.tables desc) → new ≡ record p.tables { files = files_after p.tables desc p.clock asked } → AreCoherent p → AreCoherent (record p { tables = new })
applied_coherent p new desc asked sound live same h =
    coherent_kept p new h (λ key d stood. ap (λ (v : Seen). slice_index_or v.keys key.0 None) same ∙ stood)
    (subst (λ (v : Seen). KeepsKinds p.tables.files v.files) (sym same) (applied_kinds p.tables desc p.clock asked sound live))
    (λ d. ap (λ (v : Seen). holds_of v d) same)
