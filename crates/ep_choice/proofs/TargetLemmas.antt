-- The targets of the exclusive registrations that pass something on.
use Rattle.std.proofs.Common.{◌≡◌, ◌∙◌, ◌+◌, ◌<◌, ◌==◌, ◌||◌, ℕ, Bool, true, List, None, Option, Some, ap, cond, get_or, inl, inr, length, refl, subst, sym, take}
use Rattle.std.proofs.lemmas.Bool.{cases_Bool}
use Rattle.std.proofs.lemmas.List.{take_more}
use Rattle.std.proofs.lemmas.List.Recursion.{or_push}
use Rattle.ep_facts.proofs.NatFacts.{from_test, same_test}
use Rattle.ep_facts.proofs.BoolFacts.{or_cases, or_right}
use Rattle.ep_base.specs.declared.ids.DescId.{DescId}
use Rattle.ep_base.specs.declared.ids.EntryId.{EntryId}
use Rattle.ep_choice.specs.Narrow.{AreTargets, exclusive_target, with_target}
use Rattle.ep_climb.proofs.WalkLemmas.{reaches_one}
use Rattle.ep_interest.specs.Exclusive.{is_exclusive}
use Rattle.ep_interest.specs.Passes.{has_id}
use Rattle.ep_interest.specs.Registrations.{Registrations, entry_under}
use Rattle.ep_interest.specs.declared.entry.Entry.{Entry}
use Rattle.ep_machine.specs.Lists.{is_among}
use Rattle.ep_walk.specs.Walk.{Walk}

-- an exclusive registration with this target
target_from : (o : Option Entry) (d : DescId) → exclusive_target o ≡ Some d → (x : Entry) × (o ≡ Some x) × (is_exclusive x ≡ true) × (x.desc ≡ d)
target_from None d e = absurd cc
target_from (Some x) d e = elim (cases_Bool (is_exclusive x)) [
  | inl t ↦ (x, refl, t, (let s : Some x.desc ≡ Some d = sym (ap (λ (b : Bool). cond b (Some x.desc) None) t) ∙ e in cc))
  | inr f ↦ absurd (let s : None ≡ Some d = sym (ap (λ (b : Bool). cond b (Some x.desc) None) f) ∙ e in cc)
]

-- once these registrations were asked
pub record Gone (r : Registrations) (ids : List EntryId) (old new : Walk) : Type 0 where
  pub room : new.room ≡ old.room
  pub sound : AreTargets r new.reached
  pub complete : (k : ℕ) (x : Entry) → has_id ids k ≡ true → entry_under r (record { 0 = k }) ≡ Some x → is_exclusive x ≡ true → is_among new.reached x.desc.0 ≡ true

pub gone_next : (r : Registrations) (ids : List EntryId) (i : ℕ) (z : EntryId) (old mid new : Walk) → i < length ids → Gone r (take i ids) old mid
    → new ≡ with_target (exclusive_target (entry_under r (get_or ids i z))) mid → Gone r (take (i + 1) ids) old new
gone_next r ids i z old mid new lt h is = by (exclusive_target (entry_under r id)) refl is where
  id : EntryId
  id = get_or ids i z

  has_more : (k : ℕ) → has_id (take (i + 1) ids) k ≡ (has_id (take i ids) k || k == id.0)
  has_more k = ap (λ (xs : List EntryId). has_id xs k) (take_more ids i z lt) ∙ or_push (λ xs. has_id xs k) (λ x. k == x.0) refl (λ x xs. refl) (take i ids) id

  by : (o : Option DescId) → exclusive_target (entry_under r id) ≡ o → new ≡ with_target o mid → Gone r (take (i + 1) ids) old new
  by None none same = record {
    room = ap (λ (w : Walk). w.room) same ∙ h.room;
    sound = subst (λ (w : Walk). AreTargets r w.reached) (sym same) h.sound;
    complete = λ k x t under exclusive. elim (or_cases (has_id (take i ids) k) (k == id.0) (sym (has_more k) ∙ t)) [
      | inl before ↦ subst (λ (w : Walk). is_among w.reached x.desc.0 ≡ true) (sym same) (h.complete k x before under exclusive)
      | inr here ↦
          let at : entry_under r id ≡ Some x = ap (λ (m : ℕ). entry_under r (record { 0 = m })) (sym (from_test k id.0 here)) ∙ under in
          absurd (let s : Some x.desc ≡ None = sym (ap exclusive_target at ∙ ap (λ (b : Bool). cond b (Some x.desc) None) exclusive) ∙ none in cc)
    ];
  }
  by (Some d) some same =
      let one = reaches_one mid d.0 new same in
      record {
        room = one.room ∙ h.room;
        sound = λ k t. elim (or_cases (is_among mid.reached k) (k == d.0) (sym (one.each k) ∙ t)) [
          | inl before ↦ h.sound k before
          | inr here ↦ let x = target_from (entry_under r id) d some in (id, x.0, x.1, ap (λ (e : DescId). e.0) x.3 ∙ sym (from_test k d.0 here))
        ];
        complete = λ k x t under exclusive. elim (or_cases (has_id (take i ids) k) (k == id.0) (sym (has_more k) ∙ t)) [
          | inl before ↦ one.each x.desc.0 ∙ (λ j. h.complete k x before under exclusive j || x.desc.0 == d.0)
          | inr here ↦
              let at : entry_under r id ≡ Some x = ap (λ (m : ℕ). entry_under r (record { 0 = m })) (sym (from_test k id.0 here)) ∙ under in
              let same_target : x.desc ≡ d = (let s : Some x.desc ≡ Some d = sym (ap exclusive_target at ∙ ap (λ (b : Bool). cond b (Some x.desc) None) exclusive) ∙ some in cc) in
              one.each x.desc.0 ∙ (or_right (is_among mid.reached x.desc.0) (x.desc.0 == d.0) (same_test x.desc.0 d.0 (ap (λ (e : DescId). e.0) same_target)))
        ];
      }
