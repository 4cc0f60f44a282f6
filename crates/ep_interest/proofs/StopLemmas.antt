-- Exclusive registrations that pass nothing on any more.
use Rattle.std.proofs.Common.{◌≡◌, ◌≤◌, ◌∙◌, ℕ, suc, Bool, true, false, cond, List, [], ◌∷◌, Option, filter, inl, inr, length, ap, arith, refl}
use Rattle.std.proofs.lemmas.List.{length-map}
use Rattle.ep_base.specs.declared.ids.EntryId.{EntryId}
use Rattle.std.proofs.lemmas.Bool.{cases_Bool}
use Rattle.ep_base.specs.declared.ids.DescId.{DescId}
use Rattle.ep_interest.specs.Exclusive.{exclusive_of, is_exclusive, kept_passing, stops}
use Rattle.ep_interest.specs.Registrations.{Registrations, id_of, is_of, is_on, with_ids}
use Rattle.ep_interest.specs.declared.entry.Entry.{Entry}
use Rattle.ep_interest.proofs.ChangeLemmas.{Keeps}

pub stopped_apart : (desc : DescId) (keep : Option ℕ) (x : Entry) → is_on desc x ≡ false → kept_passing desc keep x ≡ x
stopped_apart desc keep x u = rw u refl

pub stopped_again : (desc : DescId) (keep : Option ℕ) (x : Entry) → kept_passing desc keep (kept_passing desc keep x) ≡ kept_passing desc keep x
stopped_again desc keep x = elim (cases_Bool (stops desc keep x)) [
  | inl t ↦ rw t (rw t refl)
  | inr u ↦ rw u (rw u refl)
]

pub stopped_keeps : (desc : DescId) (keep : Option ℕ) → Keeps (kept_passing desc keep)
stopped_keeps desc keep = record {
  number = λ x. elim (stops desc keep x) as (λ b. (cond b (record x { passes_in = 0 }) x).number ≡ x.number) [ true ↦ refl | false ↦ refl ];
  instance = λ x. elim (stops desc keep x) as (λ b. (cond b (record x { passes_in = 0 }) x).instance ≡ x.instance) [ true ↦ refl | false ↦ refl ];
  target = λ x. elim (stops desc keep x) as (λ b. (cond b (record x { passes_in = 0 }) x).desc ≡ x.desc) [ true ↦ refl | false ↦ refl ];
  descriptor = λ x. elim (stops desc keep x) as (λ b. (cond b (record x { passes_in = 0 }) x).fd ≡ x.fd) [ true ↦ refl | false ↦ refl ];
  mask = λ x. elim (stops desc keep x) as (λ b. (cond b (record x { passes_in = 0 }) x).mask ≡ x.mask) [ true ↦ refl | false ↦ refl ];
}

-- How many there are.
pub counts_one : (xs later : List (EntryId × Entry)) (x : EntryId × Entry) → xs ≡ x ∷ later → is_exclusive x.1 ≡ true → length (exclusive_of xs) ≡ suc (length (exclusive_of later))
counts_one xs later x e t = ap (λ (ys : List (EntryId × Entry)). length (exclusive_of ys)) e ∙ ap (λ (b : Bool). length (cond b (x ∷ exclusive_of later) (exclusive_of later))) t

pub counts_none : (xs later : List (EntryId × Entry)) (x : EntryId × Entry) → xs ≡ x ∷ later → is_exclusive x.1 ≡ false → length (exclusive_of xs) ≡ length (exclusive_of later)
counts_none xs later x e t = ap (λ (ys : List (EntryId × Entry)). length (exclusive_of ys)) e ∙ ap (λ (b : Bool). length (cond b (x ∷ exclusive_of later) (exclusive_of later))) t

fewer : {X : Type 0} (p : X → Bool) (xs : List X) → length (filter p xs) ≤ length xs
fewer p [] = omega arith
fewer p (x ∷ xs) = let rest = fewer p xs in elim (p x) as (λ b. length (cond b (x ∷ filter p xs) (filter p xs)) ≤ length (x ∷ xs)) [ true ↦ omega (arith, rest) | false ↦ omega (arith, rest) ]

pub few_exclusive : (r : Registrations) (instance : DescId) → length (exclusive_of (with_ids r (filter (is_of instance) r.entries))) ≤ length r.entries
few_exclusive r instance =
    let one = fewer (λ (p : EntryId × Entry). is_exclusive p.1) (with_ids r (filter (is_of instance) r.entries)) in
    let keyed : Entry → EntryId × Entry = λ x. (id_of r x.number, x) in
    let two = length-map (filter (is_of instance) r.entries) keyed in
    let three = fewer (is_of instance) r.entries in
    omega (arith, one, two, three)
