-- The key of a registration after a call on it that is done.
use Rattle.std.proofs.Common.{◌≡◌, ◌∙◌, ◌+◌, ◌≤◌, ◌&&◌, ◌||◌, ◌++◌, ◌==◌, ◌∷◌, [], ℕ, ℤ, All, Bool, IsSome, List, None, Option, Some, ap, arith, cond, false, find, map, refl, subst, sym, true, unwrap_or}
use Rattle.std.specs.List.{list_any}
use Rattle.std.specs.Prelude.{option_map}
use Rattle.std.specs.Ordering.{int_eq}
use Rattle.std.proofs.lemmas.Bool.{false≢true}
use Rattle.std.proofs.lemmas.Bool.Decides.{Decides-int_eq, nat_tests}
use Rattle.std.proofs.lemmas.List.Elements.{All-head, All-tail}
use Rattle.ep_facts.proofs.NatFacts.{same_nat}
use Rattle.ep_base.specs.declared.ids.EntryId.{EntryId}
use Rattle.ep_base.specs.declared.mask.Mask.{Mask}
use Rattle.ep_interest.specs.Registrations.{IsSound, Registrations, has_key, modified, number_under, numbered}
use Rattle.ep_interest.specs.declared.entry.Entry.{Entry}
use Rattle.ep_calls.specs.Control.{Changes, IsFound, key_left, next_entry}
use Rattle.ep_calls.specs.declared.control.Control.{Control}
use Rattle.ep_calls.specs.declared.control.Named.{Named}
use Rattle.ep_calls.specs.declared.control.Operation.{Operation}
use Rattle.ep_calls.specs.declared.control.Operation.TheVariants.{Add, Delete, Modify}
use Rattle.ep_calls.proofs.FindLemmas.{has_number}
use Rattle.ep_calls.proofs.IsBelowLemmas.{none_left}

-- What a modification leaves of a test that doesn't ask for what it changes.
module _ (k : ℕ) (mask : Mask) (tag : ℕ) (p : Entry → Bool) (blind : (x : Entry) → p (record x { mask = mask; tag = tag; armed = true; fresh = true }) ≡ p x) where
  one : (x : Entry) → p (modified k mask tag x) ≡ p x
  one x = elim (x.number == k) as (λ b. p (cond b (record x { mask = mask; tag = tag; armed = true; fresh = true }) x) ≡ p x) [ true ↦ blind x | false ↦ refl ]

  pub any_modified : (xs : List Entry) → list_any p (map (modified k mask tag) xs) ≡ list_any p xs
  any_modified [] = refl
  any_modified (x ∷ xs) = let rest = any_modified xs in λ i. one x i || rest i

  pub find_modified : (xs : List Entry) → find p (map (modified k mask tag) xs) ≡ option_map (modified k mask tag) (find p xs)
  find_modified [] = refl
  find_modified (x ∷ xs) =
      ap (λ (b : Bool). cond b (Some (modified k mask tag x)) (find p (map (modified k mask tag) xs))) (one x)
      ∙ elim (p x) as (λ b. cond b (Some (modified k mask tag x)) (find p (map (modified k mask tag) xs)) ≡ option_map (modified k mask tag) (cond b (Some x) (find p xs))) [
        | true ↦ refl
        | false ↦ find_modified xs
      ]

-- what is added last is found, if nothing before it is
any_last : (p : Entry → Bool) (xs : List Entry) (x : Entry) → p x ≡ true → list_any p (xs ++ x ∷ []) ≡ true
any_last p [] x is = ap (λ (b : Bool). b || false) is
any_last p (y ∷ ys) x is = elim (p y) as (λ b. (b || list_any p (ys ++ x ∷ [])) ≡ true) [ true ↦ refl | false ↦ any_last p ys x is ]

find_last : (p : Entry → Bool) (xs : List Entry) (x : Entry) → list_any p xs ≡ false → p x ≡ true → find p (xs ++ x ∷ []) ≡ Some x
find_last p [] x none is = ap (λ (b : Bool). cond b (Some x) None) is
find_last p (y ∷ ys) x none is =
    elim (p y) as (λ b. (b || list_any p ys) ≡ false → cond b (Some y) (find p (ys ++ x ∷ [])) ≡ Some x) [
      | true ↦ λ h. absurd (false≢true (sym h))
      | false ↦ λ h. find_last p ys x h is
    ] none

-- no registration has the number of the next
none_next : (n : ℕ) (xs : List Entry) → All (λ x. x.number ≤ n) xs → list_any (λ x. x.number == n + 1) xs ≡ false
none_next n [] h = refl
none_next n (x ∷ xs) h =
    let first = below x.number (All-head (λ x. x.number ≤ n) x xs h) in
    let rest = none_next n xs (All-tail (λ x. x.number ≤ n) x xs h) in
    λ i. first i || rest i where
      below : (m : ℕ) → m ≤ n → (m == n + 1) ≡ false
      below m le = grind (arith, nat_tests, le)

-- a registration that was there, and isn't deleted, is there under its key
pub found_left : (old new : Registrations) (named : Named) (args : Control) (operation : Operation) (id : EntryId) → IsSound old → IsFound old named args.fd (Some id) → Changes operation (Some id) named args old new → IsFound new named args.fd (key_left operation id)
found_left old new named args Add id sound found changes = absurd changes
found_left old new named args Delete id sound found changes =
    let p = has_key named.instance args.fd named.desc in
    let number = has_number old named.instance args.fd named.desc (unwrap_or (number_under old id) 0) sound (sym found.there) found.entry in
    record {
      there = sym (ap (list_any p) changes.0 ∙ none_left p (unwrap_or (number_under old id) 0) old.entries number);
      key = tt;
      entry = tt;
    }
found_left old new named args Modify id sound found changes =
    let p = has_key named.instance args.fd named.desc in
    let k = unwrap_or (number_under old id) 0 in
    let same : number_under new id ≡ number_under old id = ap (λ (ks : List (Option ℕ)). number_under (record old { keys = ks }) id) changes.1 in
    let at : unwrap_or (number_under new id) 0 ≡ k = ap (λ (o : Option ℕ). unwrap_or o 0) same in
    record {
      there = found.there ∙ sym (ap (list_any p) changes.0 ∙ any_modified k args.mask args.tag p (λ x. refl) old.entries);
      key = subst (λ (o : Option ℕ). IsSome o) (sym same) found.key;
      entry =
          (λ i. numbered (changes.0 i) (at i))
          ∙ (find_modified k args.mask args.tag (λ x. x.number == k) (λ x. refl) old.entries
          ∙ (ap (option_map (modified k args.mask args.tag)) found.entry
          ∙ (sym (find_modified k args.mask args.tag p (λ x. refl) old.entries) ∙ sym (ap (find p) changes.0))));
    }

own_key : (a d : ℕ) (fd : ℤ) → (a == a && int_eq fd fd && d == d) ≡ true
own_key a d fd = let same = (Decides-int_eq fd fd).1 refl in λ i. same_nat a i && same i && same_nat d i

-- and one that is added is there under the next key
pub found_added : (old new : Registrations) (named : Named) (args : Control) (operation : Operation) → IsSound old → IsFound old named args.fd None → Changes operation None named args old new → IsFound new named args.fd (Some (record { 0 = old.next }))
found_added old new named args Delete sound found changes = absurd changes
found_added old new named args Modify sound found changes = absurd changes
found_added old new named args Add sound found changes =
    let p = has_key named.instance args.fd named.desc in
    let x = next_entry old named args in
    let own : p x ≡ true = own_key named.instance.0 named.desc.0 args.fd.0 in
    let at : unwrap_or (number_under new (record { 0 = old.next })) 0 ≡ old.added + 1 = ap (λ (o : Option ℕ). unwrap_or o 0) changes.1.is in
    record {
      there = sym (ap (list_any p) changes.0 ∙ any_last p old.entries x own);
      key = subst (λ (o : Option ℕ). IsSome o) (sym changes.1.is) refl;
      entry =
          (λ i. numbered (changes.0 i) (at i))
          ∙ (find_last (λ y. y.number == old.added + 1) old.entries x (none_next old.added old.entries sound.within) (same_nat (old.added + 1))
          ∙ sym (ap (find p) changes.0 ∙ find_last p old.entries x (sym found.there) own));
    }
