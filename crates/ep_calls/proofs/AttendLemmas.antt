-- At which instance an event raised IN.
use Rattle.std.proofs.Common.{◌≡◌, ◌∙◌, ◌==◌, ℕ, Bool, true, false, IsSome, None, Option, Some, ap, refl, slice_index_or, subst, sym, unwrap_or}
use Rattle.std.specs.Int.{bit_at}
use Rattle.std.proofs.lemmas.Bool.{false≢true}
use Rattle.ep_facts.proofs.NatFacts.{from_test}
use Rattle.ep_base.specs.declared.ids.DescId.{DescId}
use Rattle.ep_base.specs.declared.object.End.{End}
use Rattle.ep_base.specs.declared.object.End.TheVariants.{First, Second}
use Rattle.ep_base.specs.declared.object.Raised.{Raised}
use Rattle.ep_calls.proofs.KeyLemmas.{same_keys, under_key}
use Rattle.ep_calls.specs.Parking.{raises_at, raises_in}
use Rattle.ep_calls.specs.Raising.{IsRaising, clock_bits, object_bits, raised_bits}
use Rattle.ep_calls.specs.declared.raising.Raising.{Raising}
use Rattle.ep_calls.specs.declared.raising.Raising.TheVariants.{Clock, Instance, Losses, Nowhere, Object as AtObject}
use Rattle.ep_law.proofs.NarrowLemmas.{has_in}
use Rattle.ep_object.proofs.BitLemmas.{no_bit}
use Rattle.ep_machine.specs.Bits.{IN, at_end, has_bit, nothing, when}
use Rattle.ep_machine.specs.Files.{Place, object_at, object_number, object_of, place_of}
use Rattle.ep_machine.specs.Objects.{Object, advance, instance, is_instance, plain}
use Rattle.ep_table.specs.Value.{Seen, Sound, number_of, number_under, unwrapped}

when_true : (b : Bool) (n i : ℕ) → bit_at (when b n) i ≡ 1 → b ≡ true
when_true true n i h = refl
when_true false n i h = absurd (no_bit i h)

none_when : (b : Bool) (s : End) → when b (at_end nothing s) ≡ 0
none_when true First = refl
none_when true Second = refl
none_when false s = refl

in_when : (b : Bool) → has_bit (when b IN) IN ≡ b
in_when true = refl
in_when false = refl

not_in : (n : ℕ) → (bit_at n 0 ≡ 1 → ⊥) → has_bit n IN ≡ false
not_in n h = by (has_bit n IN) refl where
  by : (b : Bool) → has_bit n IN ≡ b → has_bit n IN ≡ false
  by true is = absurd (h (has_in n is))
  by false is = is

module _ (v : Seen) (sound : Sound v) (i : DescId) (d now : ℕ) (is : number_under v i ≡ Some d) (here : object_of v.files d ≡ Some instance) where
  clock_there : (since : ℕ) (o : Option Place) → object_at v.files o ≡ Some instance → bit_at (clock_bits v.files since now o) 0 ≡ 1 → ⊥
  clock_there since None at h = no_bit 0 h
  clock_there since (Some p) at h = no_bit 0 (ap (λ (x : Option Object). bit_at (advance (unwrap_or x plain) since now) 0) (sym at) ∙ h)

  object_there : (q : Option Place) (raised : Raised) → IsSome q → (is_instance (unwrap_or (object_at v.files q) plain) ≡ true → raised ≡ nothing)
      → (o : Option Place) → object_at v.files o ≡ Some instance → bit_at (object_bits (object_number q) raised o) 0 ≡ 1 → ⊥
  object_there None raised some nothing_at o at h = absurd (false≢true some)
  object_there (Some q) raised some nothing_at None at h = no_bit 0 h
  object_there (Some q) raised some nothing_at (Some p) at h =
      let same : p.object ≡ q.object = from_test p.object q.object (when_true (p.object == q.object) (at_end raised p.side) 0 h) in
      let none = nothing_at (ap (λ (k : ℕ). is_instance (unwrap_or (slice_index_or v.files.objects k None) plain)) (sym same) ∙ ap (λ (x : Option Object). is_instance (unwrap_or x plain)) at) in
      no_bit 0 (ap (λ (n : ℕ). bit_at n 0) (sym (ap (λ (r : Raised). when (p.object == q.object) (at_end r p.side)) none ∙ none_when (p.object == q.object) p.side)) ∙ h)

  -- IN is raised there if an epoll_ctl raised it
  pub raises_in_is : (raising : Raising) → IsRaising raising v → raises_in raising v now d ≡ raises_at raising i
  raises_in_is Nowhere lives = not_in 0 (λ h. no_bit 0 h)
  raises_in_is (AtObject desc raised) lives =
      let u = under_key v.keys desc lives.0 in
      let number : number_of v desc ≡ u.number = ap (λ (o : Option ℕ). unwrap_or o 0) u.is in
      let some : IsSome (place_of v.files (number_of v desc)) = subst (λ (k : ℕ). IsSome (place_of v.files k)) (sym number) (sound.place desc u.number u.is) in
      not_in (raised_bits (AtObject desc raised) v now d) (λ h. object_there (place_of v.files (number_of v desc)) raised some lives.1 (place_of v.files d) here h)
  raises_in_is (Instance desc) lives =
      in_when (number_of v desc == d)
      ∙ (ap (λ (k : ℕ). number_of v desc == k) (ap (λ (o : Option ℕ). unwrap_or o 0) (sym is))
      ∙ same_keys v desc i sound lives (subst (λ (o : Option ℕ). IsSome o) (sym is) refl))
  raises_in_is Losses lives =
      let none = lives.1 d (ap (λ (x : Option Object). is_instance (unwrapped x)) here) in
      not_in (raised_bits Losses v now d) (λ h. no_bit 0 (ap (λ (n : ℕ). bit_at n 0) (sym none) ∙ h))
  raises_in_is (Clock since) lives = not_in (raised_bits (Clock since) v now d) (λ h. clock_there since (place_of v.files d) here h)
