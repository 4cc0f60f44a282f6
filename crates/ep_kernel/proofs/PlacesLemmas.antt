-- Places taken away one after another.
use Rattle.std.proofs.Common.{◌≡◌, ◌++◌, ◌||◌, ◌==◌, ◌∙◌, ℕ, Bool, true, false, List, [], ◌∷◌, None, Option, Some, ap, append-nil, cond, filter, inl, inr, is_some, map, nat_eq, not, refl, rules, subst, sym}
use Rattle.std.specs.List.{list_any}
use Rattle.std.proofs.lemmas.Bool.{cases_Bool, cases_eq}
use Rattle.std.proofs.lemmas.List.{append_assoc}
use Rattle.std.proofs.lemmas.Option.{none-some}
use Rattle.std.proofs.Math.Bool.{or-false}
use Rattle.ep_facts.proofs.BoolFacts.{or_assoc}
use Rattle.ep_facts.proofs.NatFacts.{same_nat}
use Rattle.ep_base.specs.declared.ids.DescId.{DescId}
use Rattle.ep_base.specs.declared.ids.EntryId.{EntryId}
use Rattle.ep_interest.specs.Passes.{has_id}
use Rattle.ep_interest.specs.Registrations.{Registrations, id_of, ids, with_ids}
use Rattle.ep_interest.specs.declared.entry.Entry.{Entry}
use Rattle.ep_machine.specs.Lists.{is_among}
use Rattle.ep_kernel.specs.Places.{LosesPlaces, touches}
use Rattle.ep_ready.specs.ReadyLists.{IsSound, Lists, LosesPlace, instance_at, list_at}
use Rattle.ep_rings.proofs.AmongLemmas.{filter_gone}

pub loses_none : (l : Lists) → LosesPlaces (λ k. false) l l
loses_none l = record { places = λ id. refl; lists = λ i. all_stay (list_at l i) } where
  all_stay : (xs : List ℕ) → xs ≡ filter (λ k. not false) xs
  all_stay [] = refl
  all_stay (x ∷ xs) = ap (λ (ys : List ℕ). x ∷ ys) (all_stay xs)

filter_both : (f g : ℕ → Bool) (xs : List ℕ) → filter (λ k. not (g k)) (filter (λ k. not (f k)) xs) ≡ filter (λ k. not (f k || g k)) xs
filter_both f g [] = refl
filter_both f g (x ∷ xs) = with_one (filter_both f g xs) (f x) (g x) refl where
  with_one : filter (λ k. not (g k)) (filter (λ k. not (f k)) xs) ≡ filter (λ k. not (f k || g k)) xs
      → (b c : Bool) → g x ≡ c → filter (λ k. not (g k)) (cond (not b) (x ∷ filter (λ k. not (f k)) xs) (filter (λ k. not (f k)) xs)) ≡ cond (not (b || c)) (x ∷ filter (λ k. not (f k || g k)) xs) (filter (λ k. not (f k || g k)) xs)
  with_one rest true c e = rest
  with_one rest false true e = ap (λ (b : Bool). cond (not b) (x ∷ filter (λ k. not (g k)) (filter (λ k. not (f k)) xs)) (filter (λ k. not (g k)) (filter (λ k. not (f k)) xs))) e ∙ rest
  with_one rest false false e = ap (λ (b : Bool). cond (not b) (x ∷ filter (λ k. not (g k)) (filter (λ k. not (f k)) xs)) (filter (λ k. not (g k)) (filter (λ k. not (f k)) xs))) e ∙ ap (λ (ys : List ℕ). x ∷ ys) rest

none_twice : (b c : Bool) (o : Option ℕ) → cond c None (cond b None o) ≡ cond (b || c) None o
none_twice true true o = refl
none_twice true false o = refl
none_twice false c o = refl

pub loses_both : (f g : ℕ → Bool) (old mid new : Lists) → LosesPlaces f old mid → LosesPlaces g mid new → LosesPlaces (λ k. f k || g k) old new
loses_both f g old mid new a b = record {
  places = λ id. b.places id ∙ (ap (λ (o : Option ℕ). cond (g id.0) None o) (a.places id) ∙ none_twice (f id.0) (g id.0) (instance_at old id));
  lists = λ i. b.lists i ∙ (ap (filter (λ k. not (g k))) (a.lists i) ∙ filter_both f g (list_at old i));
}

filter_same : (f g : ℕ → Bool) → ((k : ℕ) → f k ≡ g k) → (xs : List ℕ) → filter (λ k. not (f k)) xs ≡ filter (λ k. not (g k)) xs
filter_same f g same [] = refl
filter_same f g same (x ∷ xs) = λ i. cond (not (same x i)) (x ∷ filter_same f g same xs i) (filter_same f g same xs i)

pub loses_same : (f g : ℕ → Bool) (old new : Lists) → ((k : ℕ) → f k ≡ g k) → LosesPlaces f old new → LosesPlaces g old new
loses_same f g old new same a = record {
  places = λ id. a.places id ∙ ap (λ (b : Bool). cond b None (instance_at old id)) (same id.0);
  lists = λ i. a.lists i ∙ filter_same f g same (list_at old i);
}

pub loses_one : (old new : Lists) (id : EntryId) → LosesPlace old new id → LosesPlaces (λ k. k == id.0) old new
loses_one old new id h = record {
  places = λ k. elim (cases_eq k.0 id.0) [
    | inl is ↦ ap (λ (n : ℕ). instance_at new (record { 0 = n })) is ∙ (h.gone ∙ sym (ap (λ (b : Bool). cond b None (instance_at old k)) (ap (λ (n : ℕ). n == id.0) is ∙ same_nat id.0)))
    | inr ne ↦ h.others k ne ∙ sym (ap (λ (b : Bool). cond b None (instance_at old k)) (let away : (k.0 == id.0) ≡ false = search rules in away))
  ];
  lists = h.lists;
}

-- none where there is none
pub loses_nothing : (l : Lists) (id : EntryId) → IsSound l → instance_at l id ≡ None → LosesPlaces (λ k. k == id.0) l l
loses_nothing l id sound none = record {
  places = λ k. elim (cases_eq k.0 id.0) [
    | inl is ↦ ap (λ (n : ℕ). instance_at l (record { 0 = n })) is ∙ (none ∙ sym (ap (λ (b : Bool). cond b None (instance_at l k)) (ap (λ (n : ℕ). n == id.0) is ∙ same_nat id.0)))
    | inr ne ↦ sym (ap (λ (b : Bool). cond b None (instance_at l k)) (let away : (k.0 == id.0) ≡ false = search rules in away))
  ];
  lists = λ i. sym (filter_gone (list_at l i) id.0 (not_there i));
} where
  not_there : (i : ℕ) → is_among (list_at l i) id.0 ≡ false
  not_there i = elim (cases_Bool (is_among (list_at l i) id.0)) [
    | inl there ↦ absurd (none-some i (sym none ∙ sound.own i id there))
    | inr away ↦ away
  ]

-- Over a list of keys.
pub record Loses (all : List EntryId) (rest : List EntryId) (old new : Lists) : Type 0 where
  pub done : List EntryId
  pub split : all ≡ done ++ rest
  pub loses : LosesPlaces (has_id done) old new

pub loses_first : (all : List EntryId) (l : Lists) → Loses all all l l
loses_first all l = record { done = []; split = refl; loses = loses_none l }

has_more : (ids : List EntryId) (id : EntryId) (k : ℕ) → (has_id ids k || k == id.0) ≡ has_id (ids ++ id ∷ []) k
has_more [] id k = sym (or-false (k == id.0))
has_more (x ∷ ids) id k = sym (or_assoc (nat_eq k x.0) (has_id ids k) (k == id.0)) ∙ ap (λ (b : Bool). nat_eq k x.0 || b) (has_more ids id k)

pub loses_more : (all : List EntryId) (id : EntryId) (rest : List EntryId) (old mid new : Lists) → Loses all (id ∷ rest) old mid → LosesPlaces (λ k. k == id.0) mid new → Loses all rest old new
loses_more all id rest old mid new a b = record {
  done = a.done ++ id ∷ [];
  split = a.split ∙ sym (append_assoc a.done (id ∷ []) rest);
  loses = loses_same (λ k. has_id a.done k || k == id.0) (has_id (a.done ++ id ∷ [])) old new (has_more a.done id) (loses_both (has_id a.done) (λ k. k == id.0) old mid new a.loses b);
}

pub loses_all : (all : List EntryId) (old new : Lists) → Loses all [] old new → LosesPlaces (has_id all) old new
loses_all all old new a = subst (λ (ids : List EntryId). LosesPlaces (has_id ids) old new) (sym (append-nil a.done) ∙ sym a.split) a.loses

-- Over a list of descriptions.
abbrev pub touched : Registrations → List DescId → ℕ → Bool
touched r ds k = list_any (λ d. touches r d k) ds

pub record LosesEach (r : Registrations) (all : List DescId) (rest : List DescId) (old new : Lists) : Type 0 where
  pub done : List DescId
  pub split : all ≡ done ++ rest
  pub loses : LosesPlaces (touched r done) old new

pub each_first : (r : Registrations) (all : List DescId) (l : Lists) → LosesEach r all all l l
each_first r all l = record { done = []; split = refl; loses = loses_none l }

touched_more : (r : Registrations) (ds : List DescId) (d : DescId) (k : ℕ) → (touched r ds k || touches r d k) ≡ touched r (ds ++ d ∷ []) k
touched_more r [] d k = sym (or-false (touches r d k))
touched_more r (x ∷ ds) d k = sym (or_assoc (touches r x k) (touched r ds k) (touches r d k)) ∙ ap (λ (b : Bool). touches r x k || b) (touched_more r ds d k)

pub each_more : (r : Registrations) (all : List DescId) (d : DescId) (rest : List DescId) (old mid new : Lists) → LosesEach r all (d ∷ rest) old mid → LosesPlaces (touches r d) mid new → LosesEach r all rest old new
each_more r all d rest old mid new a b = record {
  done = a.done ++ d ∷ [];
  split = a.split ∙ sym (append_assoc a.done (d ∷ []) rest);
  loses = loses_same (λ k. touched r a.done k || touches r d k) (touched r (a.done ++ d ∷ [])) old new (touched_more r a.done d) (loses_both (touched r a.done) (touches r d) old mid new a.loses b);
}

pub each_all : (r : Registrations) (all : List DescId) (old new : Lists) → LosesEach r all [] old new → LosesPlaces (touched r all) old new
each_all r all old new a = subst (λ (ds : List DescId). LosesPlaces (touched r ds) old new) (sym (append-nil a.done) ∙ sym a.split) a.loses

-- the keys of registrations with their keys
pub keys_with : (r : Registrations) (xs : List Entry) → map (λ (p : EntryId × Entry). p.0) (with_ids r xs) ≡ ids r xs
keys_with r [] = refl
keys_with r (x ∷ xs) = ap (λ (ks : List EntryId). id_of r x.number ∷ ks) (keys_with r xs)

abbrev pub firsts : List (EntryId × Entry) → List EntryId
firsts ps = map (λ p. p.0) ps

pub placeless : (o : Option ℕ) → is_some o ≡ false → o ≡ None
placeless None h = refl
placeless (Some i) h = absurd cc
