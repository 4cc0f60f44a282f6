-- What a closure leaves that is called at each registration, and what an arrival keeps.
use Rattle.std.proofs.Common.{if◌then◌else◌, ◌≡◌, ◌∙◌, ◌<◌, ◌≤◌, ◌==◌, ◌&&◌, ◌||◌, ℕ, zero, suc, true, false, List, [], ◌∷◌, length, vec_capacity, None, Option, Some, ap, cond, get_or, map, nat_lt, refl, subst, sym, unwrap_or, count_by}
use Rattle.std.proofs.lemmas.Option.{none-some}
use Rattle.std.specs.List.{cons_option, filter_map, range_with_len}
use Rattle.std.specs.Option.{option_map}
use Rattle.slab.specs.Slab.{Slab}
use Rattle.ep_base.specs.declared.ids.DescId.{DescId}
use Rattle.ep_base.specs.declared.mask.Mask.{Mask}
use Rattle.ep_machine.specs.Bits.{asked}
use Rattle.ep_machine.specs.Counts.{brings}
use Rattle.ep_base.specs.declared.ids.EntryId.{EntryId}
use Rattle.ep_interest.specs.ByNumber.{NumberedBy, found_by, in_order}
use Rattle.ep_interest.specs.Registrations.{freshened_on, is_on, raised_on, settled}
use Rattle.std.specs.HashMap as hash
use Rattle.ep_interest.specs.View.{HasRows, IsIndex, IsInterest, instance_of, key_of, number_in, same_key, target_of}
use Rattle.ep_interest.specs.declared.interest.Interest.TheInside.{Inside}
use Rattle.ep_interest.specs.Exclusive.{is_exclusive_slot}
use Rattle.ep_interest.specs.Passes.{ArePassing}
use Rattle.ep_interest.specs.declared.entry.Entry.{Entry}
use Rattle.ep_interest.specs.declared.passes.Passes.{Passes}
use Rattle.ep_interest.proofs.GuardsLemmas.{count_changed}
use Rattle.ep_interest.proofs.KeysWithLemmas.{rows_changed}

-- Each registration changed in place, with its number kept.
module _ (f : Entry → Entry) (number : (x : Entry) → (f x).number ≡ x.number) where
  abbrev changed : List (Option Entry) → List (Option Entry)
  changed slots = map (option_map f) slots

  get_changed : (slots : List (Option Entry)) (k : ℕ) → get_or (changed slots) k None ≡ option_map f (get_or slots k None)
  get_changed [] k = refl
  get_changed (x ∷ slots) zero = refl
  get_changed (x ∷ slots) (suc k) = get_changed slots k

  was : (o : Option Entry) (y : Entry) → option_map f o ≡ Some y → (x : Entry) × (o ≡ Some x) × (f x ≡ y)
  was None y h = absurd (none-some y h)
  was (Some x) y h = (x, refl, ap (λ (o : Option Entry). unwrap_or o (f x)) h)

  -- what stood there before
  pub before : (slots : List (Option Entry)) (k : ℕ) (y : Entry) → get_or (changed slots) k None ≡ Some y → (x : Entry) × (get_or slots k None ≡ Some x) × (f x ≡ y)
  before slots k y h = was (get_or slots k None) y (sym (get_changed slots k) ∙ h)

  pub keys_changed : (slots : List (Option Entry)) → map number_in (changed slots) ≡ map number_in slots
  keys_changed [] = refl
  keys_changed (None ∷ slots) = ap (λ (xs : List (Option ℕ)). None ∷ xs) (keys_changed slots)
  keys_changed (Some x ∷ slots) = λ i. Some (number x i) ∷ keys_changed slots i

  found_changed : (slots : List (Option Entry)) (n : ℕ) → found_by (changed slots) n ≡ option_map f (found_by slots n)
  found_changed [] n = refl
  found_changed (None ∷ slots) n = found_changed slots n
  found_changed (Some x ∷ slots) n =
      (λ i. cond (number x i == n) (Some (f x)) (found_changed slots n i))
      ∙ elim (x.number == n) as (λ b. cond b (Some (f x)) (option_map f (found_by slots n)) ≡ option_map f (cond b (Some x) (found_by slots n))) [ true ↦ refl | false ↦ refl ]

  all_found : (slots : List (Option Entry)) (ns : List ℕ) → filter_map (found_by (changed slots)) ns ≡ map f (filter_map (found_by slots) ns)
  all_found slots [] = refl
  all_found slots (n ∷ ns) =
      (λ i. cons_option (found_changed slots n i) (all_found slots ns i))
      ∙ elim (found_by slots n) as (λ o. cons_option (option_map f o) (map f (filter_map (found_by slots) ns)) ≡ map f (cons_option o (filter_map (found_by slots) ns))) [ None ↦ refl | Some x ↦ refl ]

  pub in_order_changed : (slots : List (Option Entry)) (n : ℕ) → in_order (changed slots) n ≡ map f (in_order slots n)
  in_order_changed slots n = all_found slots (range_with_len 1 n)

  pub numbered_changed : (slots : List (Option Entry)) (n : ℕ) → NumberedBy slots n → NumberedBy (changed slots) n
  numbered_changed slots n h = record {
    above = λ k y e. let x = before slots k y e in subst (λ (z : Entry). 0 < z.number) x.2 (subst (λ (m : ℕ). 0 < m) (sym (number x.0)) (h.above k x.0 x.1));
    below = λ k y e. let x = before slots k y e in subst (λ (z : Entry). z.number ≤ n) x.2 (subst (λ (m : ℕ). m ≤ n) (sym (number x.0)) (h.below k x.0 x.1));
    one = λ j k y z d e same.
        let x = before slots j y d in
        let w = before slots k z e in
        h.one j k x.0 w.0 x.1 w.1 (sym (number x.0) ∙ (ap (λ (v : Entry). v.number) x.2 ∙ (same ∙ (sym (ap (λ (v : Entry). v.number) w.2) ∙ number w.0))));
  }

  pub index_changed : {K : Type 0} (key : Entry → K) (slots : List (Option Entry)) (get : K → Option EntryId) → ((x : Entry) → key (f x) ≡ key x) → IsIndex key slots get → IsIndex key (changed slots) get
  index_changed key slots get same h = record {
    kept = λ k y e. let x = before slots k y e in ap get (sym (ap key x.2) ∙ same x.0) ∙ h.kept k x.0 x.1;
    live = λ q id e. let x = h.live q id e in (f x.0, get_changed slots id.0 ∙ ap (option_map f) x.1, same x.0 ∙ x.2);
  }

-- what a registration is found by stays
pub record Keeps (f : Entry → Entry) : Type 0 where
  pub number : (x : Entry) → (f x).number ≡ x.number
  pub instance : (x : Entry) → (f x).instance ≡ x.instance
  pub target : (x : Entry) → (f x).desc ≡ x.desc
  pub descriptor : (x : Entry) → (f x).fd ≡ x.fd
  pub mask : (x : Entry) → (f x).mask ≡ x.mask

pub freshened_keeps : (desc : DescId) (bits : Mask) → Keeps (freshened_on desc bits)
freshened_keeps desc bits = record {
  number = λ x. elim (is_on desc x && brings x.mask.0 bits.0) as (λ b. (cond b (record x { fresh = true }) x).number ≡ x.number) [ true ↦ refl | false ↦ refl ];
  instance = λ x. elim (is_on desc x && brings x.mask.0 bits.0) as (λ b. (cond b (record x { fresh = true }) x).instance ≡ x.instance) [ true ↦ refl | false ↦ refl ];
  target = λ x. elim (is_on desc x && brings x.mask.0 bits.0) as (λ b. (cond b (record x { fresh = true }) x).desc ≡ x.desc) [ true ↦ refl | false ↦ refl ];
  descriptor = λ x. elim (is_on desc x && brings x.mask.0 bits.0) as (λ b. (cond b (record x { fresh = true }) x).fd ≡ x.fd) [ true ↦ refl | false ↦ refl ];
  mask = λ x. elim (is_on desc x && brings x.mask.0 bits.0) as (λ b. (cond b (record x { fresh = true }) x).mask ≡ x.mask) [ true ↦ refl | false ↦ refl ];
}

pub raised_keeps : (desc : DescId) (bits : Mask) (event : ℕ) → Keeps (raised_on desc bits event)
raised_keeps desc bits event = record {
  number = λ x. elim (is_on desc x) as (λ b. (cond b (changed x) x).number ≡ x.number) [ true ↦ refl | false ↦ refl ];
  instance = λ x. elim (is_on desc x) as (λ b. (cond b (changed x) x).instance ≡ x.instance) [ true ↦ refl | false ↦ refl ];
  target = λ x. elim (is_on desc x) as (λ b. (cond b (changed x) x).desc ≡ x.desc) [ true ↦ refl | false ↦ refl ];
  descriptor = λ x. elim (is_on desc x) as (λ b. (cond b (changed x) x).fd ≡ x.fd) [ true ↦ refl | false ↦ refl ];
  mask = λ x. elim (is_on desc x) as (λ b. (cond b (changed x) x).mask ≡ x.mask) [ true ↦ refl | false ↦ refl ];
} where
  changed : Entry → Entry
  changed x = record x { fresh = brings x.mask.0 bits.0 || x.fresh; passes_in = if x.armed && nat_lt 0 (asked x.mask.0 bits.0) then event else x.passes_in }

pub settled_keeps : Keeps settled
settled_keeps = record { number = λ x. refl; instance = λ x. refl; target = λ x. refl; descriptor = λ x. refl; mask = λ x. refl }

-- the same registrations changed in place are those of an `Interest` again
pub interest_changed : {A : Type 0} (k : Inside A) (f : Entry → Entry) (slots : Slab Entry) (passes : Passes A) → Keeps f → slots.slots ≡ map (option_map f) k.slots.slots → ArePassing slots.slots passes.keys.items → length slots.slots ≤ vec_capacity passes.keys → IsInterest k
    → IsInterest (record k { slots = slots; passes = passes })
interest_changed k f slots passes keeps same passing room h =
    let old = k.slots.slots in
    let a = numbered_changed f keeps.number old k.added h.numbered in
    let b = index_changed f keeps.number key_of old (hash.get same_key k.by_key) (λ x i. record { instance = (keeps.instance x i).0; fd = (keeps.descriptor x i).0; desc = (keeps.target x i).0 }) h.by_key in
    let all = in_order_changed f keeps.number old k.added in
    let d = rows_changed old (changed f keeps.number old) k.added f (keys_changed f keeps.number old) all keeps.number instance_of (λ x i. (keeps.instance x i).0) k.by_instance h.by_instance in
    let e = rows_changed old (changed f keeps.number old) k.added f (keys_changed f keeps.number old) all keeps.number target_of (λ x i. (keeps.target x i).0) k.by_target h.by_target in
    record {
      numbered = subst (λ (xs : List (Option Entry)). NumberedBy xs k.added) (sym same) a;
      by_key = subst (λ (xs : List (Option Entry)). IsIndex key_of xs (hash.get same_key k.by_key)) (sym same) b;
      by_instance = subst (λ (xs : List (Option Entry)). HasRows instance_of xs k.added k.by_instance) (sym same) d;
      by_target = subst (λ (xs : List (Option Entry)). HasRows target_of xs k.added k.by_target) (sym same) e;
      passing = passing;
      room = room;
      guards = h.guards ∙ (sym (count_changed f keeps.mask old) ∙ ap (count_by is_exclusive_slot) (sym same));
    }
