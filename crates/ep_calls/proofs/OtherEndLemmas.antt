-- What is raised at the description across, at each registration.
use Rattle.std.proofs.Common.{◌||◌, if◌then◌else◌, nat_lt, ◌≡◌, ◌≢◌, ◌==◌, ◌&&◌, ◌⊎◌, ◌∙◌, ℕ, Bool, true, false, IsSome, List, None, Option, Some, ap, cond, inl, inr, refl, slice_index_or, sym, unwrap_or}
use Rattle.std.proofs.lemmas.Bool.{cases_Bool, false_from_ne_true, false≢true}
use Rattle.std.proofs.Math.Bool.{and-false}
use Rattle.ep_facts.proofs.NatFacts.{from_test, same_test}
use Rattle.ep_base.specs.declared.ids.DescId.{DescId}
use Rattle.ep_base.specs.declared.mask.Mask.{Mask}
use Rattle.ep_base.specs.declared.object.End.{End}
use Rattle.ep_base.specs.declared.object.End.TheVariants.{First, Second}
use Rattle.ep_base.specs.declared.object.Raised.{Raised}
use Rattle.ep_interest.specs.Registrations.{is_on}
use Rattle.ep_interest.specs.declared.entry.Entry.{Entry}
use Rattle.ep_machine.specs.Bits.{asked, at_end, when}
use Rattle.ep_machine.specs.Counts.{brings}
use Rattle.ep_view.specs.KernelView.{stirred}
use Rattle.ep_view.proofs.ClimbLemmas.{zero_asked, zero_brings}
use Rattle.ep_machine.specs.Files.{Files, Place, place_of}
use Rattle.ep_view.proofs.DeathLemmas.{Apart}
use Rattle.ep_calls.specs.Raising.{raised_there}
use Rattle.ep_calls.specs.Stands.{IsLinked, number_at, watch_at}
use Rattle.ep_calls.proofs.KeyLemmas.{under_key}
use Rattle.ep_table.specs.Closing.{IsAt, across, opposite}

-- what a registration notes of these bits, raised at its target in event n
abbrev pub noted : ℕ → ℕ → Entry → Entry
noted n bits x = record x { fresh = brings x.mask.0 bits || x.fresh; passes_in = if x.armed && nat_lt 0 (asked x.mask.0 bits) then n else x.passes_in }

-- of no bits nothing
pub zero_noted : (n : ℕ) (x : Entry) → noted n 0 x ≡ x
zero_noted n x = λ i. record x { fresh = zero_brings x.mask.0 i || x.fresh; passes_in = if (ap (λ (b : Bool). x.armed && b) (zero_asked x.mask.0) ∙ and-false x.armed) i then n else x.passes_in }

pub watch_noted : (keys : List (Option ℕ)) (n bits : ℕ) (x : Entry) → watch_at keys (noted n bits x) ≡ stirred n (brings x.mask.0 bits) (x.armed && nat_lt 0 (asked x.mask.0 bits)) (watch_at keys x)
watch_noted keys n bits x = refl

pub link_noted : (keys : List (Option ℕ)) (n bits : ℕ) (x : Entry) → IsLinked keys x → IsLinked keys (noted n bits x)
link_noted keys n bits x h = record { instance = h.instance; desc = h.desc; fd = h.fd }

pub some_place : (p q : Place) → Some p ≡ Some q → p ≡ q
some_place p q h = ap (λ (o : Option Place). unwrap_or o p) h

pub a_place : (o : Option Place) → IsSome o → (p : Place) × (o ≡ Some p)
a_place None h = absurd (false≢true h)
a_place (Some p) h = (p, refl)

end_cases : (a b : End) → (b ≡ a) ⊎ (b ≡ opposite a)
end_cases First First = inl refl
end_cases First Second = inr refl
end_cases Second First = inr refl
end_cases Second Second = inl refl

pub not_opposite : (a : End) → opposite a ≢ a
not_opposite First = λ e. cc
not_opposite Second = λ e. cc

there_off : (n : ℕ) (o : Option DescId) (m : Mask) (y : Entry) → ((k : DescId) → o ≡ Some k → is_on k y ≡ false) → raised_there o m n y ≡ y
there_off n None m y off = refl
there_off n (Some k) m y off = ap (λ (b : Bool). cond b (noted n m.0 y) y) (off k refl)

other_cases : (o : Option DescId) → (o ≡ None) ⊎ ((k : DescId) × (o ≡ Some k))
other_cases None = inl refl
other_cases (Some k) = inr (k, refl)

-- at what is across from a place, for a registration whose target has a place of its own
module _ (keys : List (Option ℕ)) (files : Files) (p : Place) (raised : Raised) (other : Option DescId) (is_at : IsAt files keys (across (Some p)) other)
    (one : (j k : DescId) (d : ℕ) → slice_index_or keys j.0 None ≡ Some d → slice_index_or keys k.0 None ≡ Some d → j.0 ≡ k.0) (apart : Apart files) (n : ℕ) (m : Mask) (m_is : m.0 ≡ at_end raised (opposite p.side))
    (x : Entry) (link : IsLinked keys x) (q : Place) (there : place_of files (number_at keys x.desc) ≡ Some q) where
  abbrev t : ℕ
  t = number_at keys x.desc

  number_is : (e : ℕ) (o : DescId) → slice_index_or keys o.0 None ≡ Some e → x.desc.0 ≡ o.0 → t ≡ e
  number_is e o h same = ap (λ (k : ℕ). unwrap_or (slice_index_or keys k None) 0) same ∙ ap (λ (u : Option ℕ). unwrap_or u 0) h

  -- on the one across, where it is on that
  pub is_across : (o : DescId) → other ≡ Some o → is_on o x ≡ true → q ≡ across (Some p)
  is_across o h on =
      let a = is_at.some o h in
      let same = number_is a.0 o a.1 (from_test x.desc.0 o.0 on) in
      some_place q (across (Some p)) (sym there ∙ (ap (place_of files) same ∙ a.2))

  key_across : (o : DescId) → other ≡ Some o → q ≡ across (Some p) → is_on o x ≡ true
  key_across o h at =
      let a = is_at.some o h in
      let u = under_key keys x.desc link.desc in
      let t_is : t ≡ u.number = ap (λ (z : Option ℕ). unwrap_or z 0) u.is in
      let same : u.number ≡ a.0 = apart u.number a.0 (across (Some p)) (ap (place_of files) (sym t_is) ∙ (there ∙ ap (λ (z : Place). Some z) at)) a.2 in
      same_test x.desc.0 o.0 (one x.desc o a.0 (u.is ∙ ap (λ (n : ℕ). Some n) same) a.1)

  -- where it is at the place itself, it is not on the one across
  pub off_own : q ≡ p → (y : Entry) → y.desc ≡ x.desc → raised_there other m n y ≡ y
  off_own same y d = there_off n other m y (λ k h. false_from_ne_true (is_on k y) (λ on. not_opposite p.side (ap (λ (z : Place). z.side) (sym (is_across k h (ap (λ (e : DescId). e.0 == k.0) (sym d) ∙ on)) ∙ same))))

  pub elsewhere : q ≢ p → raised_there other m n x ≡ noted n (when (q.object == p.object) (at_end raised q.side)) x
  elsewhere ne = elim (cases_Bool (q.object == p.object)) [
    | inl at ↦
        let object : q.object ≡ p.object = from_test q.object p.object at in
        elim (end_cases p.side q.side) [
          | inl e ↦ absurd (ne (λ i. record { object = object i; side = e i }))
          | inr e ↦
              let qa : q ≡ across (Some p) = λ i. record { object = object i; side = e i } in
              elim (other_cases other) [
                | inl none ↦ absurd (is_at.none none t (there ∙ ap (λ (z : Place). Some z) qa))
                | inr k ↦
                    let on = key_across k.0 k.1 qa in
                    ap (λ (z : Option DescId). raised_there z m n x) k.1
                    ∙ (ap (λ (b : Bool). cond b (noted n m.0 x) x) on
                    ∙ ((λ i. noted n (m_is i) x)
                    ∙ sym (λ i. noted n (when (at i) (at_end raised (e i))) x)))
              ]
        ]
    | inr apart_object ↦
        let off : (k : DescId) → other ≡ Some k → is_on k x ≡ false = λ k h. false_from_ne_true (is_on k x) (λ on. false≢true (sym apart_object ∙ same_test q.object p.object (ap (λ (z : Place). z.object) (is_across k h on)))) in
        there_off n other m x off
        ∙ sym (ap (λ (b : Bool). noted n (when b (at_end raised q.side)) x) apart_object ∙ zero_noted n x)
  ]
