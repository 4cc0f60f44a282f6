-- Which instances are noted, as those that lose a registration.
use Rattle.std.proofs.Common.{◌≡◌, ◌≢◌, ◌∙◌, ◌==◌, ◌&&◌, ◌||◌, ℕ, Bool, true, false, List, [], ◌∷◌, None, Option, Some, ap, arith, cond, filter, if◌then◌else◌, inl, inr, length, map, nat_lt, refl, subst, sym}
use Rattle.std.specs.List.{list_any}
use Rattle.ep_facts.proofs.BoolFacts.{first_of_and, or_right}
use Rattle.ep_facts.proofs.NatFacts.{is_positive, same_nat, test_turned}
use Rattle.ep_base.specs.declared.ids.DescId.{DescId}
use Rattle.ep_base.specs.declared.ids.EntryId.{EntryId}
use Rattle.ep_calls.proofs.EntryKeyLemmas.{IsFound, IsKeyed, each_found, each_keyed}
use Rattle.ep_calls.specs.Parts.{Parts}
use Rattle.ep_calls.specs.declared.control.Operation.{Operation}
use Rattle.ep_calls.specs.declared.control.Operation.TheVariants.{Delete}
use Rattle.ep_choice.specs.Lost.{deleted_home, dying_homes, guard_home, guard_homes, has_guards, may_guard, with_home}
use Rattle.ep_climb.proofs.WalkLemmas.{reaches_none, reaches_one, reaches_same}
use Rattle.ep_climb.specs.Reach.{Reaches}
use Rattle.ep_interest.specs.Exclusive.{is_exclusive}
use Rattle.ep_interest.specs.Registrations.{IsSound, Registrations, entry_found, entry_under, id_of, ids, is_on}
use Rattle.ep_interest.specs.declared.entry.Entry.{Entry}
use Rattle.ep_law.proofs.ListLemmas.{all_member}
use Rattle.ep_law.specs.Laws.{Member}
use Rattle.ep_machine.specs.Files.{is_live}
use Rattle.ep_machine.specs.Lists.{is_among}
use Rattle.ep_walk.specs.Walk.{Walk}
use Rattle.ep_table.specs.Value.{Seen, Sound, number_under}

-- The instance of one registration.
abbrev pub is_home : Option DescId → ℕ → Bool
is_home None k = false
is_home (Some d) k = d.0 == k

pub reaches_home : (o : Option DescId) (w new : Walk) → new ≡ with_home o w → Reaches (is_home o) w new
reaches_home None w new is = subst (Reaches (λ i. false) w) (sym is) (reaches_none w)
reaches_home (Some d) w new is = reaches_same (λ i. i == d.0) (λ i. d.0 == i) w new (λ i. test_turned i d.0) (reaches_one w d.0 new is)

-- The instances of registrations, by their keys.
abbrev pub homes_of : Seen → Registrations → List EntryId → ℕ → Bool
homes_of v r xs k = list_any (λ id. is_home (guard_home v (entry_under r id)) k) xs

module _ (v : Seen) (r : Registrations) (desc : DescId) where
  is_home_if : (b : Bool) (d : DescId) (k : ℕ) → is_home (if b then Some d else None) k ≡ (b && d.0 == k)
  is_home_if true d k = refl
  is_home_if false d k = refl

  homes_within : (k : ℕ) (xs : List Entry) → ((x : Entry) → Member x xs → entry_under r (id_of r x.number) ≡ Some x)
      → homes_of v r (ids r (filter (is_on desc) xs)) k ≡ list_any (λ x. is_on desc x && may_guard v x && x.instance.0 == k) xs
  homes_within k [] under = refl
  homes_within k (x ∷ xs) under =
      let rest = homes_within k xs (λ y m. under y (inr m)) in
      let here : is_home (guard_home v (entry_under r (id_of r x.number))) k ≡ (may_guard v x && x.instance.0 == k) = ap (λ (o : Option Entry). is_home (guard_home v o) k) (under x (inl refl)) ∙ is_home_if (may_guard v x) x.instance k in
      let ys = filter (is_on desc) xs in
      let others = list_any (λ (y : Entry). is_on desc y && may_guard v y && y.instance.0 == k) xs in
      elim (is_on desc x) as (λ b. homes_of v r (ids r (cond b (x ∷ ys) ys)) k ≡ ((b && may_guard v x && x.instance.0 == k) || others)) [
        | true ↦ λ i. here i || rest i
        | false ↦ rest
      ]

  pub homes_are : IsSound r → (k : ℕ) → homes_of v r (ids r (filter (is_on desc) r.entries)) k ≡ guard_homes v r desc k
  homes_are sound k =
      homes_within k r.entries (λ x m. ap (entry_found r.entries) (all_member (IsKeyed r) r.entries x (each_keyed r sound) m) ∙ all_member (IsFound r) r.entries x (each_found r sound) m)

-- Those of registrations on descriptions.
abbrev pub homes_on : Seen → Registrations → List DescId → ℕ → Bool
homes_on v r ds k = list_any (λ (d : DescId). guard_homes v r d k) ds

-- Whether any is exclusive.
any_counts : (xs : List Entry) → list_any is_exclusive xs ≡ nat_lt 0 (length (filter is_exclusive xs))
any_counts [] = refl
any_counts (x ∷ xs) =
    let ys = filter is_exclusive xs in
    let rest = any_counts xs in
    elim (is_exclusive x) as (λ b. (b || list_any is_exclusive xs) ≡ nat_lt 0 (length (cond b (x ∷ ys) ys))) [
      | true ↦ sym (is_positive (length (x ∷ ys)) (omega arith))
      | false ↦ rest
    ]

pub without_guards : (r : Registrations) (n : ℕ) → n ≡ length (filter is_exclusive r.entries) → n ≡ 0 → has_guards r ≡ false
without_guards r n is none = any_counts r.entries ∙ ap (nat_lt 0) (sym is ∙ none)

pub with_guards : (r : Registrations) (n : ℕ) → n ≡ length (filter is_exclusive r.entries) → n ≢ 0 → has_guards r ≡ true
with_guards r n is some = any_counts r.entries ∙ (ap (nat_lt 0) (sym is) ∙ is_positive n (omega (arith, some)))

-- What a DEL takes one from.
pub none_deleted : (operation : Operation) (found : Option EntryId) (p : Parts) → has_guards p.interest ≡ false → deleted_home operation found p ≡ None
none_deleted Delete (Some id) p none = ap (λ (b : Bool). if b then guard_home p.tables (entry_under p.interest id) else None) none
none_deleted Delete None p none = refl
none_deleted operation found p none = refl

pub one_deleted : (operation : Operation) (found : Option EntryId) (p : Parts) (id : EntryId) → operation ≡ Delete → found ≡ Some id → has_guards p.interest ≡ true → deleted_home operation found p ≡ guard_home p.tables (entry_under p.interest id)
one_deleted operation found p id is there some = (λ i. deleted_home (is i) (there i) p) ∙ ap (λ (b : Bool). if b then guard_home p.tables (entry_under p.interest id) else None) some

-- The keys of what nothing names or holds.
pub dying_keys : (v : Seen) → Sound v → (ds : List ℕ) → ((d : ℕ) → is_among ds d ≡ true → is_among v.dying d ≡ true) → (ks : List DescId) × (map (number_under v) ks ≡ map (λ d. Some d) ds)
dying_keys v sound [] within = ([], refl)
dying_keys v sound (d ∷ ds) within =
    let here = within d (ap (λ (b : Bool). b || is_among ds d) (same_nat d)) in
    let key = sound.keyed d (first_of_and (is_live v.files d) _ (sym (sound.dying d) ∙ here)) in
    let rest = dying_keys v sound ds (λ e t. within e (or_right (e == d) (is_among ds e) t)) in
    (key.0 ∷ rest.0, λ i. key.1 i ∷ rest.1 i)

pub none_dying : (p : Parts) (ks : List DescId) (w : Walk) → has_guards p.interest ≡ false → Reaches (dying_homes p ks) w w
none_dying p ks w none =
    reaches_same (λ i. false) (dying_homes p ks) w w (λ i. ap (λ (b : Bool). b && homes_on p.tables p.interest ks i) (sym none)) (reaches_none w)

pub all_dying : (p : Parts) (ks : List DescId) (old new : Walk) → has_guards p.interest ≡ true → Reaches (homes_on p.tables p.interest ks) old new → Reaches (dying_homes p ks) old new
all_dying p ks old new some a =
    reaches_same (homes_on p.tables p.interest ks) (dying_homes p ks) old new (λ i. ap (λ (b : Bool). b && homes_on p.tables p.interest ks i) (sym some)) a
