-- Links of registrations that are added or deleted.
use Rattle.std.proofs.Common.{◌≡◌, ◌∙◌, ◌==◌, ◌||◌, ◌++◌, ℕ, All, Bool, true, false, IsSome, List, [], ◌∷◌, None, Option, Some, ap, cond, filter, inl, inr, is_some, map, not, refl, slice_index_or, slice_set, sym, unwrap_or}
use Rattle.std.proofs.lemmas.Bool.{cases_Bool, eqb-true}
use Rattle.std.proofs.lemmas.List.Elements.{All-filter, All-head, All-map, All-tail, All-weaker}
use Rattle.ep_facts.proofs.OptionFacts.{none_is_some, number_of}
use Rattle.ep_facts.proofs.NatFacts.{same_nat, test_apart, test_turned}
use Rattle.ep_base.specs.declared.ids.EntryId.{EntryId}
use Rattle.ep_base.specs.declared.mask.Mask.{Mask}
use Rattle.ep_interest.specs.Registrations.{GainsKey, IsSound, Registrations, id_of, is_other, modified, number_under, numbered, place_among}
use Rattle.ep_interest.specs.declared.entry.Entry.{Entry}
use Rattle.ep_machine.specs.Lists.{is_among}
use Rattle.ep_nest.specs.Links.{entries, without}
use Rattle.ep_nest.specs.declared.link.Link.{Link}
use Rattle.ep_calls.specs.Climb.{is_nested, link_of}
use Rattle.ep_calls.proofs.EntryKeyLemmas.{IsKeyed, each_found, each_keyed, id_is, ids_gained, ids_left, links_named, removed_was}
use Rattle.ep_calls.proofs.GraphLemmas.{links_filtered, links_mapped, links_pushed}
use Rattle.ep_calls.proofs.KeyLemmas.{same_tests}
use Rattle.ep_table.specs.Value.{Seen}

-- a link's key is that of a registration
abbrev pub IsNamed : Registrations → Link → Type 0
IsNamed r l = IsSome (number_under r l.entry)

pub links_are_named : (r : Registrations) (p : Entry → Bool) → IsSound r → All (IsNamed r) (map (link_of r) (filter p r.entries))
links_are_named r p sound =
    All-map (IsNamed r) (link_of r) (filter p r.entries)
    (All-weaker (IsKeyed r) (λ x. IsNamed r (link_of r x)) (λ x keyed. ap is_some keyed) (filter p r.entries) (All-filter p (IsKeyed r) r.entries (each_keyed r sound)))

-- a key under which nothing stands is that of no link
pub fresh_link : (r : Registrations) (id : EntryId) → number_under r id ≡ None → (ls : List Link) → All (IsNamed r) ls → is_among (entries ls) id.0 ≡ false
fresh_link r id free [] h = refl
fresh_link r id free (l ∷ ls) h =
    let rest = fresh_link r id free ls (All-tail (IsNamed r) l ls h) in
    let named : IsNamed r l = All-head (IsNamed r) l ls h in
    let apart : (id.0 == l.entry.0) ≡ false =
    test_apart id.0 l.entry.0 (λ e. none_is_some (unwrap_or (number_under r l.entry) 0) (number_under r id) free (ap (λ (k : ℕ). slice_index_or r.keys k None) e ∙ number_of (number_under r l.entry) named)) in
    λ i. apart i || rest i

-- a link that was added and is taken away
pub unlinked : (ls : List Link) (l : Link) → is_among (entries ls) l.entry.0 ≡ false → without l.entry.0 (ls ++ l ∷ []) ≡ ls
unlinked [] l h = ap (λ (b : Bool). cond (not b) (l ∷ []) []) (same_nat l.entry.0)
unlinked (x ∷ xs) l h = elim (cases_Bool (l.entry.0 == x.entry.0)) [
  | inl same ↦ cc
  | inr other ↦
      let rest = unlinked xs l (ap (λ (b : Bool). b || is_among (entries xs) l.entry.0) (sym other) ∙ h) in
      ap (λ (b : Bool). cond (not b) (x ∷ without l.entry.0 (xs ++ l ∷ [])) (without l.entry.0 (xs ++ l ∷ []))) (test_turned x.entry.0 l.entry.0 ∙ other)
      ∙ ap (λ (ls : List Link). x ∷ ls) rest
]

-- the links without that of a key are those of the registrations without it
module _ (p : Entry → Bool) (old : Registrations) (was : IsSound old) (id : EntryId) (there : IsSome (number_under old id)) where
  abbrev number : ℕ
  number = unwrap_or (number_under old id) 0

  same_one : (x : Entry) → IsKeyed old x → not (place_among old.keys x.number == id.0) ≡ is_other number x
  same_one x keyed =
      let stands = number_of (number_under old id) there in
      ap not
      (same_tests (place_among old.keys x.number) id.0 x.number number
      (λ e. ap (λ (o : Option ℕ). unwrap_or o 0) (sym keyed ∙ (ap (λ (k : ℕ). slice_index_or old.keys k None) e ∙ stands)))
      (λ e. ap (place_among old.keys) e ∙ ap (λ (i : EntryId). i.0) (id_is old was id number stands)))

  others_same : (xs : List Entry) → All (IsKeyed old) xs → filter (λ x. not (place_among old.keys x.number == id.0)) xs ≡ filter (is_other number) xs
  others_same [] h = refl
  others_same (x ∷ xs) h =
      let one = same_one x (All-head (IsKeyed old) x xs h) in
      let rest = others_same xs (All-tail (IsKeyed old) x xs h) in λ i. cond (one i) (x ∷ rest i) (rest i)

  links_others : without id.0 (map (link_of old) (filter p old.entries)) ≡ map (link_of old) (filter p (filter (is_other number) old.entries))
  links_others =
      links_filtered old p (λ l. not (l.entry.0 == id.0)) old.entries
      ∙ ap (λ (xs : List Entry). map (link_of old) (filter p xs)) (others_same old.entries (each_keyed old was))

  pub links_removed : (new : Registrations) → IsSound new → new.entries ≡ filter (is_other number) old.entries → new.keys ≡ slice_set old.keys id.0 None
      → without id.0 (map (link_of old) (filter p old.entries)) ≡ map (link_of new) (filter p new.entries)
  links_removed new is entries keys =
      links_others
      ∙ (ap (λ (xs : List Entry). map (link_of old) (filter p xs)) (sym entries)
      ∙ links_named p old new new.entries (ids_left old new was is (λ j n h. removed_was old.keys id.0 j.0 n (ap (λ (ks : List (Option ℕ)). slice_index_or ks j.0 None) (sym keys) ∙ h))))

  -- all of them, where the registration of the key has none
  module _ (x : Entry) (own : numbered old.entries number ≡ Some x) (apart : p x ≡ false) where
    abbrev IsListed : Entry → Type 0
    IsListed y = numbered old.entries y.number ≡ Some y

    left_out : (y : Entry) → IsListed y → (y.number == number) ≡ true → p y ≡ false
    left_out y listed same =
        let is : y.number ≡ number = eqb-true y.number number same in
        let both : Some y ≡ Some x = sym listed ∙ (ap (numbered old.entries) is ∙ own) in
        let one : y ≡ x = cc in
        ap p one ∙ apart

    others_pass : (ys : List Entry) → All IsListed ys → filter p (filter (is_other number) ys) ≡ filter p ys
    others_pass [] h = refl
    others_pass (y ∷ ys) h =
        let rest = others_pass ys (All-tail IsListed y ys h) in
        elim (cases_Bool (y.number == number)) [
          | inl same ↦
              ap (λ (b : Bool). filter p (cond (not b) (y ∷ filter (is_other number) ys) (filter (is_other number) ys))) same
              ∙ (rest ∙ ap (λ (b : Bool). cond b (y ∷ filter p ys) (filter p ys)) (sym (left_out y (All-head IsListed y ys h) same)))
          | inr other ↦
              ap (λ (b : Bool). filter p (cond (not b) (y ∷ filter (is_other number) ys) (filter (is_other number) ys))) other
              ∙ ap (λ (zs : List Entry). cond (p y) (y ∷ zs) zs) rest
        ]

    pub links_stay : without id.0 (map (link_of old) (filter p old.entries)) ≡ map (link_of old) (filter p old.entries)
    links_stay = links_others ∙ ap (map (link_of old)) (others_pass old.entries (each_found old was))

-- and with that of an addition, those with it
pub links_added : (p : Entry → Bool) (old new : Registrations) → IsSound old → IsSound new → (id : EntryId) (x : Entry) → GainsKey old new id x.number → new.entries ≡ old.entries ++ x ∷ []
    → map (link_of old) (filter p old.entries) ++ cond (p x) (record { outer = x.instance; inner = x.desc; entry = id } ∷ []) [] ≡ map (link_of new) (filter p new.entries)
links_added p old new was is id x gains entries =
    let name : id_of new x.number ≡ id = id_is new is id x.number gains.is in
    (λ i. links_named p old new old.entries (ids_gained old new was is id x.number gains) i ++ cond (p x) (record { outer = x.instance; inner = x.desc; entry = sym name i } ∷ []) [])
    ∙ (sym (links_pushed new p x old.entries) ∙ ap (λ (xs : List Entry). map (link_of new) (filter p xs)) (sym entries))

-- MOD leaves links as they are
link_modified : (r : Registrations) (k : ℕ) (mask : Mask) (tag : ℕ) (x : Entry) → link_of r (modified k mask tag x) ≡ link_of r x
link_modified r k mask tag x = elim (x.number == k) as (λ b. link_of r (cond b (record x { mask = mask; tag = tag; armed = true; fresh = true }) x) ≡ link_of r x) [ true ↦ refl | false ↦ refl ]

nested_modified : (v : Seen) (k : ℕ) (mask : Mask) (tag : ℕ) (x : Entry) → is_nested v (modified k mask tag x) ≡ is_nested v x
nested_modified v k mask tag x = elim (x.number == k) as (λ b. is_nested v (cond b (record x { mask = mask; tag = tag; armed = true; fresh = true }) x) ≡ is_nested v x) [ true ↦ refl | false ↦ refl ]

pub links_modified : (r : Registrations) (v : Seen) (k : ℕ) (mask : Mask) (tag : ℕ) (xs : List Entry) → map (link_of r) (filter (is_nested v) (map (modified k mask tag) xs)) ≡ map (link_of r) (filter (is_nested v) xs)
links_modified r v k mask tag xs = links_mapped r (is_nested v) (modified k mask tag) (link_modified r k mask tag) (nested_modified v k mask tag) xs
