-- What a call on the object of a descriptor raises.
use Rattle.std.proofs.Common.{is_none, ◌≡◌, ◌==◌, ◌∙◌, ℕ, ℤ, Bool, true, false, List, [], ◌∷◌, None, Option, Some, IsSome, ap, refl, subst, sym, unwrap_or}
use Rattle.std.specs.Prelude.{MatchOption}
use Rattle.ep_base.specs.declared.call.Call.{Call}
use Rattle.ep_base.specs.declared.errno.Errno.{Errno}
use Rattle.ep_base.specs.declared.errno.Errno.TheVariants.{Ebadf}
use Rattle.ep_base.specs.declared.ids.DescId.{DescId}
use Rattle.ep_base.specs.declared.ids.Fd.{Fd}
use Rattle.ep_base.specs.declared.object.End.{End}
use Rattle.ep_base.specs.declared.object.End.TheVariants.{First, Second}
use Rattle.ep_base.specs.declared.object.Raised.{Raised}
use Rattle.ep_base.specs.Limits.{Limits}
use Rattle.ep_machine.specs.Bits.{at_end, nothing, when}
use Rattle.ep_machine.specs.Effect.{Effect, first, unless}
use Rattle.ep_machine.specs.Files.{Files, Place, named_by, names_nothing, object_number, object_under, place_of, side_of, side_under, under}
use Rattle.ep_machine.specs.Objects.{Object, ObjectCall, object_effect, object_refusals}
use Rattle.ep_machine.specs.Refusal.{call_refusals, on_object}
use Rattle.ep_machine.specs.Spread.{raised_of}
use Rattle.ep_machine.specs.State.{Change, State, Waiter}
use Rattle.ep_machine.specs.Step.{call_change, object_change}
use Rattle.ep_machine.specs.Tables.{affected_raises}
use Rattle.ep_facts.proofs.RaisedFacts.{raised_live, raised_place}
use Rattle.ep_calls.specs.ObjectCall.{object_effect_of}
use Rattle.ep_calls.specs.Raising.{AsRaised, AsRaisedIn, Raises, RaisesByCall, object_bits, raised_bits}
use Rattle.ep_calls.specs.Stands.{Stands}
use Rattle.ep_calls.specs.declared.raising.Raising.{Raising}
use Rattle.ep_calls.specs.declared.raising.Raising.TheVariants.{Object as AtObject}
use Rattle.ep_calls.proofs.ObjectCallLemmas.{named_some, past_first}
use Rattle.ep_calls.proofs.FilesCallLemmas.{IsOnObject}
use Rattle.ep_interest.specs.Registrations.{Registrations}
use Rattle.ep_table.specs.Value.{Seen, content_of, effect_at, number_of, number_under}

place_bits : (k : ℕ) (r : Raised) (o : Option Place) → raised_place (λ q. q.object == k) (λ q. at_end r q.side) o ≡ object_bits k r o
place_bits k r None = refl
place_bits k r (Some q) = refl

no_bits : (b : Bool) (e : End) → when b (at_end nothing e) ≡ 0
no_bits true First = refl
no_bits true Second = refl
no_bits false e = refl

nothing_bits : (k : ℕ) (o : Option Place) → object_bits k nothing o ≡ 0
nothing_bits k None = refl
nothing_bits k (Some q) = no_bits (q.object == k) q.side

module _ (old : Seen) (desc : DescId) (now : ℕ) (asked : ObjectCall) (raised : Raised) (raising : Raising) (is : raising ≡ AtObject desc raised) where
  abbrev d : ℕ
  d = number_of old desc

  abbrev content : Object
  content = content_of old.files d

  abbrev effect : Effect Object
  effect = object_effect content (side_of old.files d) now asked

  -- the bits go by places, which such a call keeps
  bits_are : (new : Seen) → new.keys ≡ old.keys → new.files.descriptions ≡ old.files.descriptions → (t : ℕ) → raised_bits raising new now t ≡ object_bits (object_number (place_of old.files d)) raised (place_of old.files t)
  bits_are new keys places t =
      ap (λ (r : Raising). raised_bits r new now t) is
      ∙ (λ i. object_bits (object_number (place_in (places i) (unwrap_or (place_key (keys i) desc.0) 0))) raised (place_in (places i) t)) where
        place_in : List (Option Place) → ℕ → Option Place
        place_in ds n = place_of (record old.files { descriptions = ds }) n

        place_key : List (Option ℕ) → ℕ → Option ℕ
        place_key ks n = number_under (record old { keys = ks }) (record { 0 = n })

  by_refusal : (new : Seen) → new.keys ≡ old.keys → new.files.descriptions ≡ old.files.descriptions → (refusal : Option Errno) → raised ≡ (unless refusal content effect).2
      → MatchOption refusal (AsRaised raising new now (affected_raises old.files d effect)) (λ e. AsRaised raising new now [])
  by_refusal new keys places None h = λ t.
      raised_live (λ q. q.object == object_number (place_of old.files d)) (λ q. at_end effect.2 q.side) old.files t
      ∙ (place_bits (object_number (place_of old.files d)) effect.2 (place_of old.files t)
      ∙ (ap (λ (r : Raised). object_bits (object_number (place_of old.files d)) r (place_of old.files t)) (sym h)
      ∙ sym (bits_are new keys places t)))
  by_refusal new keys places (Some e) h = λ t.
      sym (bits_are new keys places t ∙ (ap (λ (r : Raised). object_bits (object_number (place_of old.files d)) r (place_of old.files t)) h ∙ nothing_bits (object_number (place_of old.files d)) (place_of old.files t)))

  pub raises_object : (new : Seen) (p : ℕ) (fd : ℤ) → number_under old desc ≡ under old.files p fd → IsSome (number_under old desc) → new.keys ≡ old.keys → new.files.descriptions ≡ old.files.descriptions → raised ≡ (effect_at old.files d now asked).2 → RaisesByCall old new p fd now asked raising
  raises_object new p fd found there keys places h =
      let number_is : named_by old.files p fd ≡ d = ap (λ (o : Option ℕ). unwrap_or o 0) (sym found) in
      let names_some : names_nothing old.files p fd ≡ false = ap is_none (sym found) ∙ named_some (number_under old desc) there in
      let at : ℕ → Type 0 = λ n. MatchOption (first (object_refusals (content_of old.files n) (side_of old.files n) now asked)) (AsRaised raising new now (affected_raises old.files n (object_effect (content_of old.files n) (side_of old.files n) now asked))) (λ e. AsRaised raising new now []) in
      let here : at (named_by old.files p fd) = subst at (sym number_is) (by_refusal new keys places (first (object_refusals content (side_of old.files d) now asked)) h) in
      let P : Option Errno → Type 0 = λ r. MatchOption r (AsRaised raising new now (affected_raises old.files (named_by old.files p fd) (object_effect_of old.files p fd now asked))) (λ e. AsRaised raising new now []) in
      subst P (sym (past_first (names_nothing old.files p fd) Ebadf (object_refusals (object_under old.files p fd) (side_under old.files p fd) now asked) names_some)) here

-- for the machine
abbrev Told : Seen → ℕ → ℕ → Fd → ObjectCall → Raising → ℕ → Files → Type 0
Told new now p fd asked raising at f =
    MatchOption (first ((names_nothing f p fd.0, Ebadf) ∷ object_refusals (object_under f p fd.0) (side_under f p fd.0) at asked))
    (AsRaised raising new now (affected_raises f (named_by f p fd.0) (object_effect (object_under f p fd.0) (side_under f p fd.0) at asked))) (λ e. AsRaised raising new now [])

pub object_raises : (v new : Seen) (p : ℕ) (fd : Fd) (now : ℕ) (asked : ObjectCall) (call : Call) (raising : Raising) → RaisesByCall v new p fd.0 now asked raising
    → {ws : List Waiter} (limits : Limits) (r : Registrations) (s : State) (caller : ℕ) → Stands v r ws now s → IsOnObject v.files.objects fd asked call → Raises (call_refusals limits s p call) (call_change limits s caller p call []) raising new now
object_raises v new p fd now asked call raising h limits r s caller stands is =
    let P : List (Bool × Errno) → Option Change → Type 0 = λ tests o. Raises tests o raising new now in
    subst (λ (tests : List (Bool × Errno)). P tests (call_change limits s caller p call [])) (sym both.0)
    (by_state (first (on_object s p fd.0 asked)) refl moved) where
      both : (call_refusals limits s p call ≡ on_object s p fd.0 asked) × (first (on_object s p fd.0 asked) ≡ None → call_change limits s caller p call [] ≡ Some (object_change s p fd.0 asked))
      both = is limits s caller p (ap (λ (f : Files). f.objects) stands.files)

      moved : Told new now p fd asked raising s.now s.files
      moved = subst (λ (n : ℕ). Told new now p fd asked raising n s.files) (sym stands.now) (subst (Told new now p fd asked raising now) (sym stands.files) h)

      by_state : (o : Option Errno) → first (on_object s p fd.0 asked) ≡ o → MatchOption o (AsRaised raising new now (object_change s p fd.0 asked).2) (λ e. AsRaised raising new now [])
          → MatchOption o ((made : Change) → call_change limits s caller p call [] ≡ Some made → AsRaisedIn made.1.files raising new now made.2) (λ e. AsRaised raising new now [])
      by_state None is h = λ made e d watched.
          let same : Some (object_change s p fd.0 asked) ≡ Some made = sym (both.1 is) ∙ e in
          ap (λ (c : Change). raised_of c.2 d) (sym (ap (λ (x : Option Change). unwrap_or x (object_change s p fd.0 asked)) same)) ∙ h d
      by_state (Some e) is h = h
