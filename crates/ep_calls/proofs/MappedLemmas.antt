-- Registrations of which each is changed, and keeps its number.
use Rattle.std.proofs.Common.{◌≡◌, ◌∙◌, ◌==◌, ◌≤◌, ℕ, All, Bool, true, false, IsSome, List, [], ◌∷◌, None, Option, Some, ap, cond, is_some, map, refl, slice_index_or, subst, sym}
use Rattle.std.specs.Option.{option_map}
use Rattle.std.proofs.lemmas.List.Elements.{All-map}
use Rattle.ep_base.specs.declared.ids.EntryId.{EntryId}
use Rattle.ep_interest.specs.Registrations.{IsSound, Registrations, RisesFrom, entry_found, entry_under, has_key, number_under, numbered, settled}
use Rattle.ep_interest.specs.declared.entry.Entry.{Entry}

module _ (f : Entry → Entry) (kept : (x : Entry) → (f x).number ≡ x.number) where
  pub numbered_mapped : (xs : List Entry) (n : ℕ) → numbered (map f xs) n ≡ option_map f (numbered xs n)
  numbered_mapped [] n = refl
  numbered_mapped (x ∷ xs) n =
      ap (λ (k : ℕ). cond (k == n) (Some (f x)) (numbered (map f xs) n)) (kept x)
      ∙ (ap (λ (o : Option Entry). cond (x.number == n) (Some (f x)) o) (numbered_mapped xs n) ∙ by (x.number == n)) where
        by : (b : Bool) → cond b (Some (f x)) (option_map f (numbered xs n)) ≡ option_map f (cond b (Some x) (numbered xs n))
        by true = refl
        by false = refl

  -- a key has the same registration, changed
  pub under_mapped : (r q : Registrations) → q.entries ≡ map f r.entries → q.keys ≡ r.keys → (id : EntryId) → entry_under q id ≡ option_map f (entry_under r id)
  under_mapped r q entries keys id =
      ap (λ (ks : List (Option ℕ)). entry_found q.entries (slice_index_or ks id.0 None)) keys
      ∙ (ap (λ (xs : List Entry). entry_found xs (number_under r id)) entries ∙ found (number_under r id)) where
        found : (o : Option ℕ) → entry_found (map f r.entries) o ≡ option_map f (entry_found r.entries o)
        found None = refl
        found (Some n) = numbered_mapped r.entries n

-- Once what they passed on is forgotten.
settled_from : (o : Option Entry) (x : Entry) → option_map settled o ≡ Some x → (y : Entry) × (o ≡ Some y) × (settled y ≡ x)
settled_from None x h = absurd (let e : None ≡ Some x = h in cc)
settled_from (Some y) x h = (y, refl, (let e : Some (settled y) ≡ Some x = h in cc))

rises_settled : (n : ℕ) (xs : List Entry) → RisesFrom n xs → RisesFrom n (map settled xs)
rises_settled n [] h = h
rises_settled n (x ∷ xs) h = (h.0, rises_settled x.number xs h.1)

some_settled : (o : Option Entry) → is_some (option_map settled o) ≡ is_some o
some_settled None = refl
some_settled (Some x) = refl

module _ (r q : Registrations) (entries : q.entries ≡ map settled r.entries) (keys : q.keys ≡ r.keys) where
  number_same : (id : EntryId) → number_under q id ≡ number_under r id
  number_same id = ap (λ (ks : List (Option ℕ)). slice_index_or ks id.0 None) keys

  numbered_same : (n : ℕ) → numbered q.entries n ≡ option_map settled (numbered r.entries n)
  numbered_same n = ap (λ (xs : List Entry). numbered xs n) entries ∙ numbered_mapped settled (λ x. refl) r.entries n

  pub under_settled : (id : EntryId) → entry_under q id ≡ option_map settled (entry_under r id)
  under_settled = under_mapped settled (λ x. refl) r q entries keys

  pub sound_settled : q.added ≡ r.added → IsSound r → IsSound q
  sound_settled added h = record {
    rises = subst (RisesFrom 0) (sym entries) (rises_settled 0 r.entries h.rises);
    within =
        let P : Entry → Type 0 = λ x. x.number ≤ q.added in
        let more : All P r.entries = subst (λ (n : ℕ). All (λ x. x.number ≤ n) r.entries) (sym added) h.within in
        subst (All P) (sym entries) (All-map P settled r.entries more);
    keyed = λ id n is. subst (λ (o : Option Entry). IsSome o) (sym (numbered_same n)) (some_settled (numbered r.entries n) ∙ h.keyed id n (sym (number_same id) ∙ is));
    has_one = λ n x is.
        let y = settled_from (numbered r.entries n) x (sym (numbered_same n) ∙ is) in
        let key = h.has_one n y.0 y.1 in (key.0, number_same key.0 ∙ key.1);
    one_key = λ a b n f g. h.one_key a b n (sym (number_same a) ∙ f) (sym (number_same b) ∙ g);
    apart = λ m n x y f g is.
        let v = settled_from (numbered r.entries m) x (sym (numbered_same m) ∙ f) in
        let w = settled_from (numbered r.entries n) y (sym (numbered_same n) ∙ g) in
        h.apart m n v.0 w.0 v.1 w.1 ((λ i. has_key (v.2 i).instance (v.2 i).fd (v.2 i).desc (w.2 i)) ∙ is);
  }
