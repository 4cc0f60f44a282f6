-- Registrations after one was added, modified or deleted, by their keys.
use Rattle.std.proofs.Common.{◌≡◌, ◌≢◌, ◌++◌, ◌==◌, ◌∙◌, ◌+◌, ◌≤◌, ℕ, zero, suc, Bool, true, false, IsSome, List, [], ◌∷◌, None, Option, Some, ap, arith, cond, filter, inl, inr, map, not, refl, slice_index_or, slice_set, sym, unwrap_or}
use Rattle.std.specs.Option.{option_map}
use Rattle.std.proofs.lemmas.Bool.{cases_eq}
use Rattle.std.proofs.lemmas.List.{get_or-set_other}
use Rattle.std.proofs.lemmas.Map.Entries.{option_filter}
use Rattle.std.proofs.lemmas.Option.{none-some}
use Rattle.ep_facts.proofs.OptionFacts.{some_same, value_of}
use Rattle.ep_facts.proofs.NatFacts.{same_nat, test_apart}
use Rattle.ep_base.specs.declared.ids.EntryId.{EntryId}
use Rattle.ep_base.specs.declared.mask.Mask.{Mask}
use Rattle.ep_interest.specs.Registrations.{GainsKey, IsSound, Registrations, entry_found, entry_under, is_other, modified, number_under, numbered}
use Rattle.ep_interest.specs.declared.entry.Entry.{Entry}
use Rattle.ep_interest.proofs.RangeLemmas.{numbered_filter}
use Rattle.ep_interest.proofs.PurgeLemmas.{numbered_number}
use Rattle.ep_calls.proofs.MappedLemmas.{numbered_mapped}
use Rattle.ep_calls.specs.Ids.{HadOrAdds}
use Rattle.ep_calls.proofs.AdditionLemmas.{found_passes}
use Rattle.ep_calls.proofs.EntryLemmas.{number_of}

-- one registration is set, and the others stay
pub record Sets (old new : Registrations) (id : EntryId) (y : Entry) : Type 0 where
  pub here : entry_under new id ≡ Some y
  pub others : (k : EntryId) → k.0 ≢ id.0 → entry_under new k ≡ entry_under old k
  pub ids : HadOrAdds old new

-- one registration is gone
pub record Clears (old new : Registrations) (id : EntryId) : Type 0 where
  pub gone : number_under new id ≡ None
  pub others : (k : EntryId) → k.0 ≢ id.0 → entry_under new k ≡ entry_under old k
  pub ids : HadOrAdds old new

-- Added.
numbered_more : (xs : List Entry) (y x : Entry) (n : ℕ) → numbered xs n ≡ Some x → numbered (xs ++ y ∷ []) n ≡ Some x
numbered_more [] y x n h = absurd (none-some x h)
numbered_more (z ∷ xs) y x n h =
    elim (z.number == n) as (λ b. cond b (Some z) (numbered xs n) ≡ Some x → cond b (Some z) (numbered (xs ++ y ∷ []) n) ≡ Some x) [
      | true ↦ λ e. e
      | false ↦ λ e. numbered_more xs y x n e
    ] h

numbered_last : (xs : List Entry) (y : Entry) → numbered xs y.number ≡ None → numbered (xs ++ y ∷ []) y.number ≡ Some y
numbered_last [] y h = ap (λ (b : Bool). cond b (Some y) None) (same_nat y.number)
numbered_last (z ∷ xs) y h =
    elim (z.number == y.number) as (λ b. cond b (Some z) (numbered xs y.number) ≡ None → cond b (Some z) (numbered (xs ++ y ∷ []) y.number) ≡ Some y) [
      | true ↦ λ e. absurd (none-some z (sym e))
      | false ↦ λ e. numbered_last xs y e
    ] h

none_above : (r : Registrations) → IsSound r → (n : ℕ) → n ≡ r.added + 1 → numbered r.entries n ≡ None
none_above r sound n is = by_case (numbered r.entries n) refl where
  by_case : (o : Option Entry) → numbered r.entries n ≡ o → o ≡ None
  by_case None h = refl
  by_case (Some x) h =
      let within : x.number ≤ r.added = found_passes (λ z. z.number ≤ r.added) (λ z. z.number == n) x r.entries sound.within h in
      let same : x.number ≡ n = numbered_number r.entries n x h in
      absurd (omega (arith, within, same, is))

module _ (old new : Registrations) (was : IsSound old) (id : EntryId) (y : Entry) (number : y.number ≡ old.added + 1) (entries : new.entries ≡ old.entries ++ y ∷ []) (keys : GainsKey old new id (old.added + 1)) where
  added_here : entry_under new id ≡ Some y
  added_here =
      ap (entry_found new.entries) (keys.is ∙ ap (λ (n : ℕ). Some n) (sym number))
      ∙ (ap (λ (xs : List Entry). numbered xs y.number) entries ∙ numbered_last old.entries y (none_above old was y.number number))

  found_still : (o : Option ℕ) → ((n : ℕ) → o ≡ Some n → IsSome (numbered old.entries n)) → entry_found new.entries o ≡ entry_found old.entries o
  found_still None h = refl
  found_still (Some n) h =
      let x = value_of (numbered old.entries n) (h n refl) in
      ap (λ (xs : List Entry). numbered xs n) entries ∙ (numbered_more old.entries y x.0 n x.1 ∙ sym x.1)

  added_ids : HadOrAdds old new
  added_ids k n h = elim (cases_eq k.0 id.0) [
    | inl is ↦
        let here : number_under new id ≡ Some n = ap (λ (j : ℕ). number_under new (record { 0 = j })) (sym is) ∙ h in
        inr (ap (λ (j : ℕ). number_under old (record { 0 = j })) is ∙ keys.was, some_same n (old.added + 1) (sym here ∙ keys.is))
    | inr ne ↦ inl (sym (keys.others k ne) ∙ h)
  ]

  pub sets_added : Sets old new id y
  sets_added = record {
    here = added_here;
    others = λ k ne. ap (entry_found new.entries) (keys.others k ne) ∙ found_still (number_under old k) (was.keyed k);
    ids = added_ids;
  }

-- Modified.
modified_number : (n : ℕ) (mask : Mask) (tag : ℕ) (x : Entry) → (modified n mask tag x).number ≡ x.number
modified_number n mask tag x = elim (x.number == n) as (λ b. (cond b (record x { mask = mask; tag = tag; armed = true; fresh = true }) x).number ≡ x.number) [ true ↦ refl | false ↦ refl ]

numbered_modified : (n : ℕ) (mask : Mask) (tag : ℕ) (xs : List Entry) (m : ℕ) → numbered (map (modified n mask tag) xs) m ≡ option_map (modified n mask tag) (numbered xs m)
numbered_modified n mask tag = numbered_mapped (modified n mask tag) (modified_number n mask tag)

found_modified : (n : ℕ) (mask : Mask) (tag : ℕ) (xs : List Entry) (o : Option ℕ) → entry_found (map (modified n mask tag) xs) o ≡ option_map (modified n mask tag) (entry_found xs o)
found_modified n mask tag xs None = refl
found_modified n mask tag xs (Some m) = numbered_modified n mask tag xs m

abbrev pub renewed : Mask → ℕ → Entry → Entry
renewed mask tag x = record x { mask = mask; tag = tag; armed = true; fresh = true }

module _ (old new : Registrations) (was : IsSound old) (id : EntryId) (x : Entry) (here : entry_under old id ≡ Some x) (mask : Mask) (tag : ℕ) (entries : new.entries ≡ map (modified (unwrap_or (number_under old id) 0) mask tag) old.entries) (keys : new.keys ≡ old.keys) where
  number_is : unwrap_or (number_under old id) 0 ≡ x.number
  number_is = ap (λ (o : Option ℕ). unwrap_or o 0) (number_of old id x here)

  under_modified : (k : EntryId) → entry_under new k ≡ option_map (modified x.number mask tag) (entry_under old k)
  under_modified k =
      (λ i. entry_found (entries i) (slice_index_or (keys i) k.0 None))
      ∙ (ap (λ (n : ℕ). entry_found (map (modified n mask tag) old.entries) (number_under old k)) number_is ∙ found_modified x.number mask tag old.entries (number_under old k))

  other_stays : (k : EntryId) → k.0 ≢ id.0 → (o : Option Entry) → entry_under old k ≡ o → option_map (modified x.number mask tag) o ≡ o
  other_stays k ne None h = refl
  other_stays k ne (Some z) h =
      let apart : z.number ≢ x.number = λ e. ne (ap (λ (j : EntryId). j.0) (was.one_key k id x.number ((number_of old k z h) ∙ ap (λ (n : ℕ). Some n) e) (number_of old id x here))) in
      ap (λ (b : Bool). Some (cond b (renewed mask tag z) z)) (test_apart z.number x.number apart)

  pub sets_modified : Sets old new id (renewed mask tag x)
  sets_modified = record {
    here = under_modified id ∙ (ap (option_map (modified x.number mask tag)) here ∙ ap (λ (b : Bool). Some (cond b (renewed mask tag x) x)) (same_nat x.number));
    others = λ k ne. under_modified k ∙ other_stays k ne (entry_under old k) refl;
    ids = λ k n h. inl (ap (λ (ks : List (Option ℕ)). slice_index_or ks k.0 None) (sym keys) ∙ h);
  }

-- Deleted.
cleared : (keys : List (Option ℕ)) (a : ℕ) → slice_index_or (slice_set keys a None) a None ≡ None
cleared [] a = refl
cleared (o ∷ keys) zero = refl
cleared (o ∷ keys) (suc a) = cleared keys a

module _ (old new : Registrations) (was : IsSound old) (id : EntryId) (x : Entry) (here : entry_under old id ≡ Some x) (entries : new.entries ≡ filter (is_other (unwrap_or (number_under old id) 0)) old.entries) (keys : new.keys ≡ slice_set old.keys id.0 None) where
  number_gone : number_under new id ≡ None
  number_gone = ap (λ (ks : List (Option ℕ)). slice_index_or ks id.0 None) keys ∙ cleared old.keys id.0

  number_stays : (k : EntryId) → k.0 ≢ id.0 → number_under new k ≡ number_under old k
  number_stays k ne = ap (λ (ks : List (Option ℕ)). slice_index_or ks k.0 None) keys ∙ get_or-set_other old.keys id.0 k.0 None None ne

  gone_number : unwrap_or (number_under old id) 0 ≡ x.number
  gone_number = ap (λ (o : Option ℕ). unwrap_or o 0) (number_of old id x here)

  left_found : (k : EntryId) → k.0 ≢ id.0 → (o : Option ℕ) → number_under old k ≡ o → entry_found (filter (is_other x.number) old.entries) o ≡ entry_found old.entries o
  left_found k ne None h = refl
  left_found k ne (Some m) h =
      let z = value_of (numbered old.entries m) (was.keyed k m h) in
      let same : z.0.number ≡ m = numbered_number old.entries m z.0 z.1 in
      let apart : z.0.number ≢ x.number = λ e. ne (ap (λ (j : EntryId). j.0) (was.one_key k id x.number (h ∙ ap (λ (n : ℕ). Some n) (sym same ∙ e)) (number_of old id x here))) in
      numbered_filter (is_other x.number) old.entries 0 m was.rises
      ∙ (ap (option_filter (is_other x.number)) z.1
      ∙ (ap (λ (b : Bool). cond (not b) (Some z.0) None) (test_apart z.0.number x.number apart) ∙ sym z.1))

  pub clears_deleted : Clears old new id
  clears_deleted = record {
    gone = number_gone;
    others = λ k ne.
        ap (entry_found new.entries) (number_stays k ne)
        ∙ (ap (λ (xs : List Entry). entry_found xs (number_under old k)) (entries ∙ ap (λ (n : ℕ). filter (is_other n) old.entries) gone_number) ∙ left_found k ne (number_under old k) refl);
    ids = λ k n h. elim (cases_eq k.0 id.0) [
      | inl is ↦ absurd (none-some n (sym number_gone ∙ (ap (λ (j : ℕ). number_under new (record { 0 = j })) (sym is) ∙ h)))
      | inr ne ↦ inl (sym (number_stays k ne) ∙ h)
    ];
  }
