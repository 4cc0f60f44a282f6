-- The keys of registrations that stay where others come or go, and the links that they name.
use Rattle.std.proofs.Common.{◌≡◌, ◌≢◌, ◌∙◌, ℕ, zero, suc, All, Bool, true, false, List, [], ◌∷◌, None, Option, Some, ap, cond, filter, is_some, map, refl, slice_index_or, slice_set, sym}
use Rattle.std.proofs.lemmas.List.Elements.{All-from_recursion, All-head, All-tail, All-weaker}
use Rattle.ep_facts.proofs.OptionFacts.{none_is_some}
use Rattle.ep_base.specs.declared.ids.EntryId.{EntryId}
use Rattle.ep_interest.specs.Registrations.{GainsKey, IsSound, Registrations, id_of, left_number, number_under, numbered}
use Rattle.ep_interest.specs.declared.entry.Entry.{Entry}
use Rattle.ep_interest.proofs.PurgeLemmas.{place_among_is}
use Rattle.ep_calls.specs.Climb.{link_of}
use Rattle.ep_calls.proofs.FindLemmas.{each_numbered}

-- the key under which a number stands is that of its registration
pub id_is : (r : Registrations) → IsSound r → (id : EntryId) (n : ℕ) → number_under r id ≡ Some n → id_of r n ≡ id
id_is r sound id n h = sound.one_key (id_of r n) id n (place_among_is r.keys id.0 n h) h

same_id : (old new : Registrations) → IsSound old → IsSound new → (id : EntryId) (n : ℕ) → number_under old id ≡ Some n → number_under new id ≡ Some n → id_of old n ≡ id_of new n
same_id old new was is id n h k = id_is old was id n h ∙ sym (id_is new is id n k)

abbrev pub IsFound : Registrations → Entry → Type 0
IsFound r x = numbered r.entries x.number ≡ Some x

pub each_found : (r : Registrations) → IsSound r → All (IsFound r) r.entries
each_found r sound = All-from_recursion (IsFound r) r.entries (each_numbered 0 r.entries sound.rises)

-- the number of each stands under its key
abbrev pub IsKeyed : Registrations → Entry → Type 0
IsKeyed r x = number_under r (id_of r x.number) ≡ Some x.number

pub each_keyed : (r : Registrations) → IsSound r → All (IsKeyed r) r.entries
each_keyed r sound =
    All-weaker (IsFound r) (IsKeyed r) (λ x own. let one = sound.has_one x.number x own in place_among_is r.keys one.0.0 x.number one.1) r.entries (each_found r sound)

abbrev pub KeepsId : Registrations → Registrations → Entry → Type 0
KeepsId old new x = id_of old x.number ≡ id_of new x.number

-- where each key that is left had its number before
pub ids_left : (old new : Registrations) → IsSound old → IsSound new → ((id : EntryId) (n : ℕ) → number_under new id ≡ Some n → number_under old id ≡ Some n) → All (KeepsId old new) new.entries
ids_left old new was is back =
    All-weaker (IsFound new) (KeepsId old new)
    (λ x own. let one = is.has_one x.number x own in same_id old new was is one.0 x.number (back one.0 x.number one.1) one.1) new.entries (each_found new is)

-- where one key gains a registration
pub ids_gained : (old new : Registrations) → IsSound old → IsSound new → (id : EntryId) (n : ℕ) → GainsKey old new id n → All (KeepsId old new) old.entries
ids_gained old new was is id n gains =
    All-weaker (IsFound old) (KeepsId old new)
    (λ x own.
    let one = was.has_one x.number x own in
    let apart : one.0.0 ≢ id.0 = λ e. none_is_some x.number (number_under old id) gains.was (ap (λ (k : ℕ). slice_index_or old.keys k None) (sym e) ∙ one.1) in
    same_id old new was is one.0 x.number one.1 (gains.others one.0 apart ∙ one.1)) old.entries (each_found old was)

-- what is left has the number that it had
pub left_was : (xs : List Entry) (o : Option ℕ) (n : ℕ) → left_number xs o ≡ Some n → o ≡ Some n
left_was xs None n h = h
left_was xs (Some m) n h = by_test (is_some (numbered xs m)) h where
  by_test : (b : Bool) → cond b (Some m) None ≡ Some n → Some m ≡ Some n
  by_test true e = e
  by_test false e = absurd cc

pub removed_was : (keys : List (Option ℕ)) (a b n : ℕ) → slice_index_or (slice_set keys a None) b None ≡ Some n → slice_index_or keys b None ≡ Some n
removed_was [] a b n h = h
removed_was (o ∷ keys) zero zero n h = absurd cc
removed_was (o ∷ keys) zero (suc b) n h = h
removed_was (o ∷ keys) (suc a) zero n h = h
removed_was (o ∷ keys) (suc a) (suc b) n h = removed_was keys a b n h

-- links of registrations that keep their keys
pub links_named : (p : Entry → Bool) (old new : Registrations) (xs : List Entry) → All (KeepsId old new) xs → map (link_of old) (filter p xs) ≡ map (link_of new) (filter p xs)
links_named p old new [] h = refl
links_named p old new (x ∷ xs) h =
    let one : id_of old x.number ≡ id_of new x.number = All-head (KeepsId old new) x xs h in
    let rest = links_named p old new xs (All-tail (KeepsId old new) x xs h) in
    elim (p x) as (λ b. map (link_of old) (cond b (x ∷ filter p xs) (filter p xs)) ≡ map (link_of new) (cond b (x ∷ filter p xs) (filter p xs))) [
      | true ↦ (λ i. record { outer = x.instance; inner = x.desc; entry = one i } ∷ rest i)
      | false ↦ rest
    ]
