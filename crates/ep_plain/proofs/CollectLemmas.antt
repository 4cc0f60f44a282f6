-- What is collected for a wait.
use Rattle.std.proofs.Common.{◌≡◌, ◌++◌, ℕ, Bool, false, true, List, [], ◌∷◌, Some, All, append_assoc, cond, filter, map, ap, sym, ◌∙◌, subst}
use Rattle.std.proofs.lemmas.List.{map-append}
use Rattle.std.proofs.lemmas.List.Elements.{All-append, All-cons, All-head, All-nil, All-tail}
use Rattle.ep_base.specs.declared.ids.EntryId.{EntryId}
use Rattle.ep_interest.specs.Registrations.{Registrations, number_under as number_of_entry, numbered}
use Rattle.ep_interest.specs.declared.entry.Entry.{Entry}
use Rattle.ep_calls.specs.Readiness.{entry_bits, entry_shows, readiness}
use Rattle.ep_calls.specs.Stands.{IsLinked}
use Rattle.ep_calls.specs.Wait.{AreKeyed, IsKeyed}
use Rattle.ep_calls.specs.declared.wait.Reportable.{Reportable}
use Rattle.ep_table.specs.Value.{Seen}

-- the registrations of a list of them with their keys
abbrev pub entries_of : List (EntryId × Entry) → List Entry
entries_of ps = map (λ p. p.1) ps

abbrev pub entries_in : List Reportable → List Entry
entries_in xs = map (λ x. x.entry) xs

-- what a collection has gone through, and what it still has to
pub record Collects (tables : Seen) (now : ℕ) (interest : Registrations) (found : List Reportable) (rest : List (EntryId × Entry)) (all : List Entry) : Type 0 where
  pub told : entries_in found ++ filter (entry_shows (readiness tables now interest) tables now) (entries_of rest) ≡ all
  pub keyed : AreKeyed tables now interest found
  pub rest_keyed : All (λ p. number_of_entry interest p.0 ≡ Some p.1.number) rest
  pub rest_linked : All (IsLinked tables.keys) (entries_of rest)
  pub rest_there : All (λ x. numbered interest.entries x.number ≡ Some x) (entries_of rest)

module _ (tables : Seen) (now : ℕ) (interest : Registrations) where
  pub begins : (rest : List (EntryId × Entry)) (of : List Entry) → entries_of rest ≡ of → All (λ p. number_of_entry interest p.0 ≡ Some p.1.number) rest → All (IsLinked tables.keys) of → All (λ x. numbered interest.entries x.number ≡ Some x) of
      → Collects tables now interest [] rest (filter (entry_shows (readiness tables now interest) tables now) of)
  begins rest of is keyed linked there = record {
    told = ap (λ (xs : List Entry). filter (entry_shows (readiness tables now interest) tables now) xs) is;
    keyed = All-nil (IsKeyed tables now interest);
    rest_keyed = keyed;
    rest_linked = subst (λ (xs : List Entry). All (IsLinked tables.keys) xs) (sym is) linked;
    rest_there = subst (λ (xs : List Entry). All (λ (x : Entry). numbered interest.entries x.number ≡ Some x) xs) (sym is) there;
  }

  module _ (found : List Reportable) (id : EntryId) (x : Entry) (rest : List (EntryId × Entry)) (all : List Entry) (c : Collects tables now interest found ((id, x) ∷ rest) all) where
    pub first_linked : IsLinked tables.keys x
    first_linked = All-head (IsLinked tables.keys) x (entries_of rest) c.rest_linked

    key : number_of_entry interest id ≡ Some x.number
    key = All-head (λ (p : EntryId × Entry). number_of_entry interest p.0 ≡ Some p.1.number) (id, x) rest c.rest_keyed

    pub collects_more : (r : Reportable) → r.id ≡ id → r.entry ≡ x → r.bits.0 ≡ entry_bits (readiness tables now interest) tables now x → entry_shows (readiness tables now interest) tables now x ≡ true → Collects tables now interest (found ++ r ∷ []) rest all
    collects_more r same_id same bits shows = record {
      told =
          ap (λ (xs : List Entry). xs ++ filter (entry_shows (readiness tables now interest) tables now) (entries_of rest)) (map-append (λ (y : Reportable). y.entry) found (r ∷ []))
          ∙ (append_assoc (entries_in found) (r.entry ∷ []) (filter (entry_shows (readiness tables now interest) tables now) (entries_of rest))
          ∙ (ap (λ (y : Entry). entries_in found ++ y ∷ filter (entry_shows (readiness tables now interest) tables now) (entries_of rest)) same
          ∙ (ap (λ (b : Bool). entries_in found ++ cond b (x ∷ filter (entry_shows (readiness tables now interest) tables now) (entries_of rest)) (filter (entry_shows (readiness tables now interest) tables now) (entries_of rest))) (sym shows) ∙ c.told)));
      keyed =
          let one : IsKeyed tables now interest r = record {
            there = subst (λ (y : Entry). numbered interest.entries y.number ≡ Some y) (sym same) (All-head (λ (y : Entry). numbered interest.entries y.number ≡ Some y) x (entries_of rest) c.rest_there);
            key = ap (λ (i : EntryId). number_of_entry interest i) same_id ∙ (key ∙ ap (λ (y : Entry). Some y.number) (sym same));
            bits = bits ∙ ap (entry_bits (readiness tables now interest) tables now) (sym same);
          } in All-append (IsKeyed tables now interest) found (r ∷ []) c.keyed (All-cons (IsKeyed tables now interest) r [] one (All-nil (IsKeyed tables now interest)));
      rest_keyed = All-tail (λ (p : EntryId × Entry). number_of_entry interest p.0 ≡ Some p.1.number) (id, x) rest c.rest_keyed;
      rest_linked = All-tail (IsLinked tables.keys) x (entries_of rest) c.rest_linked;
      rest_there = All-tail (λ (y : Entry). numbered interest.entries y.number ≡ Some y) x (entries_of rest) c.rest_there;
    }

    pub collects_same : entry_shows (readiness tables now interest) tables now x ≡ false → Collects tables now interest found rest all
    collects_same hides = record {
      told = ap (λ (b : Bool). entries_in found ++ cond b (x ∷ filter (entry_shows (readiness tables now interest) tables now) (entries_of rest)) (filter (entry_shows (readiness tables now interest) tables now) (entries_of rest))) (sym hides) ∙ c.told;
      keyed = c.keyed;
      rest_keyed = All-tail (λ (p : EntryId × Entry). number_of_entry interest p.0 ≡ Some p.1.number) (id, x) rest c.rest_keyed;
      rest_linked = All-tail (IsLinked tables.keys) x (entries_of rest) c.rest_linked;
      rest_there = All-tail (λ (y : Entry). numbered interest.entries y.number ≡ Some y) x (entries_of rest) c.rest_there;
    }
