-- Registrations changed one after another: those of exactly the keys on which a change does something are changed as all are.
use Rattle.std.proofs.Common.{◌≡◌, ◌≢◌, ◌⊎◌, ℕ, zero, suc, ◌&&◌, ◌||◌, nat_lt, if◌then◌else◌, Bool, true, false, cond, List, [], ◌∷◌, filter, map, Option, Some, None, IsSome, is_some, get_or, set, refl, ap, sym, subst, ◌∙◌, inl, inr}
use Rattle.std.proofs.lemmas.Bool.{cases_Bool}
use Rattle.std.proofs.lemmas.List.{get_or-set_other}
use Rattle.std.specs.List.{cons_option, filter_map, range_with_len}
use Rattle.std.specs.Option.{option_map}
use Rattle.ep_facts.proofs.NatFacts.{same_or_not, same_test, test_apart}
use Rattle.ep_facts.proofs.BoolFacts.{or_again}
use Rattle.ep_base.specs.declared.ids.DescId.{DescId}
use Rattle.ep_base.specs.declared.ids.EntryId.{EntryId}
use Rattle.ep_base.specs.declared.mask.Mask.{Mask}
use Rattle.ep_machine.specs.Bits.{asked}
use Rattle.ep_machine.specs.Counts.{brings}
use Rattle.ep_interest.specs.ByNumber.{NumberedBy, found_by, in_order}
use Rattle.ep_interest.specs.InTurn.{AllHeld, Among, changed_at}
use Rattle.ep_interest.specs.Registrations.{freshened_on, is_on, numbered, place_among, raised_on}
use Rattle.ep_interest.specs.Rows.{row}
use Rattle.ep_interest.specs.View.{IsInterest, number_in}
use Rattle.ep_rings.specs.KeyWalk.{entry_id}
use Rattle.ep_interest.specs.declared.entry.Entry.{Entry}
use Rattle.ep_interest.specs.declared.interest.Interest.TheInside.{Inside}
use Rattle.ep_interest.proofs.NumberLemmas.{One, Option_cases, has}
use Rattle.ep_interest.proofs.InOrderLemmas.{held, place_is}
use Rattle.ep_interest.proofs.ListedLemmas.{ids_at}
use Rattle.ep_interest.proofs.ReplaceLemmas.{replaced}

-- a slot that is written keeps every key
held_after : (slots : List (Option Entry)) (key : ℕ) (x y : Entry) → get_or slots key None ≡ Some x → (ids : List EntryId) → AllHeld slots ids → AllHeld (set slots key (Some y)) ids
held_after slots key x y is [] h = tt
held_after slots key x y is (id ∷ ids) h = (
  elim (same_or_not id.0 key) [
    | inl e ↦ ap is_some (ap (λ (k : ℕ). get_or (set slots key (Some y)) k None) e ∙ (replaced slots key x y is).here)
    | inr ne ↦ ap is_some (get_or-set_other slots key id.0 (Some y) None ne) ∙ h.0
  ],
  held_after slots key x y is ids h.1,
)

-- what a loop over keys keeps, with what is left of them
pub record Goes (f : Entry → Entry) (all left : List EntryId) (old now : List (Option Entry)) : Type 0 where
  pub held : AllHeld now left
  pub rest : changed_at f left now ≡ changed_at f all old

pub goes_begins : (f : Entry → Entry) (all left : List EntryId) (slots : List (Option Entry)) → AllHeld slots all → left ≡ all → Goes f all left slots slots
goes_begins f all left slots h e = subst (λ (ids : List EntryId). Goes f all ids slots slots) (sym e) (record { held = h; rest = refl })

pub goes_on : (f : Entry → Entry) (all : List EntryId) (old : List (Option Entry)) (id : EntryId) (later : List EntryId) (now : List (Option Entry)) (x y : Entry)
    → Goes f all (id ∷ later) old now → get_or now id.0 None ≡ Some x → y ≡ f x → Goes f all later old (set now id.0 (Some y))
goes_on f all old id later now x y g is e = record {
  held = held_after now id.0 x y is later g.held.1;
  rest = ap (λ (o : Option Entry). changed_at f later (set now id.0 o)) (ap (λ (z : Entry). Some z) e ∙ ap (option_map f) (sym is)) ∙ g.rest;
}

pub goes_after : (f : Entry → Entry) (all : List EntryId) (old : List (Option Entry)) (id : EntryId) (later : List EntryId) (now next : List (Option Entry))
    → Goes f all (id ∷ later) old now → next ≡ set now id.0 (option_map f (get_or now id.0 None)) → Goes f all later old next
goes_after f all old id later now next g e = elim (Option_cases (get_or now id.0 None)) [
  | inl none ↦ absurd (let h = g.held.0 in let n = ap is_some none in cc)
  | inr some ↦
      let is = e ∙ ap (λ (o : Option Entry). set now id.0 (option_map f o)) some.1 in
      subst (λ (slots : List (Option Entry)). Goes f all later old slots) (sym is) (goes_on f all old id later now some.0 (f some.0) g some.1 refl)
]

-- A change that does nothing the second time.
module _ (f : Entry → Entry) (again : (x : Entry) → f (f x) ≡ f x) where
  abbrev at : List (Option Entry) → ℕ → List (Option Entry)
  at slots k = set slots k (option_map f (get_or slots k None))

  abbrev Fixed : Option Entry → Type 0
  Fixed o = option_map f o ≡ o

  fixed_once : (o : Option Entry) → Fixed (option_map f o)
  fixed_once None = refl
  fixed_once (Some x) = ap (λ (y : Entry). Some y) (again x)

  -- a change in one place, and then of all, is the change of all
  map_at : (slots : List (Option Entry)) (k : ℕ) → map (option_map f) (at slots k) ≡ map (option_map f) slots
  map_at [] k = refl
  map_at (o ∷ slots) zero = ap (λ (p : Option Entry). p ∷ map (option_map f) slots) (fixed_once o)
  map_at (o ∷ slots) (suc k) = ap (λ (r : List (Option Entry)). option_map f o ∷ r) (map_at slots k)

  get_at : (slots : List (Option Entry)) (k : ℕ) → Fixed (get_or (at slots k) k None)
  get_at [] k = refl
  get_at (o ∷ slots) zero = fixed_once o
  get_at (o ∷ slots) (suc k) = get_at slots k

  map_changed : (ids : List EntryId) (slots : List (Option Entry)) → map (option_map f) (changed_at f ids slots) ≡ map (option_map f) slots
  map_changed [] slots = refl
  map_changed (id ∷ ids) slots = map_changed ids (at slots id.0) ∙ map_at slots id.0

  other_at : (slots : List (Option Entry)) (k j : ℕ) → k ≢ j → get_or (at slots j) k None ≡ get_or slots k None
  other_at slots k j ne = get_or-set_other slots j k (option_map f (get_or slots j None)) None ne

  -- what was changed stays as it is
  stays : (ids : List EntryId) (slots : List (Option Entry)) (k : ℕ) → Fixed (get_or slots k None) → Fixed (get_or (changed_at f ids slots) k None)
  stays [] slots k h = h
  stays (id ∷ ids) slots k h = stays ids (at slots id.0) k (elim (same_or_not k id.0) [
    | inl e ↦ subst (λ (j : ℕ). Fixed (get_or (at slots id.0) j None)) (sym e) (get_at slots id.0)
    | inr ne ↦ subst (λ (o : Option Entry). Fixed o) (sym (other_at slots k id.0 ne)) h
  ])

  gets : (ids : List EntryId) (slots : List (Option Entry)) (k : ℕ) → Among k ids → Fixed (get_or (changed_at f ids slots) k None)
  gets [] slots k h = absurd h
  gets (id ∷ ids) slots k (inl e) = stays ids (at slots id.0) k (subst (λ (j : ℕ). Fixed (get_or (at slots id.0) j None)) e (get_at slots id.0))
  gets (id ∷ ids) slots k (inr h) = gets ids (at slots id.0) k h

  all_fixed : (slots : List (Option Entry)) → ((k : ℕ) → Fixed (get_or slots k None)) → map (option_map f) slots ≡ slots
  all_fixed [] h = refl
  all_fixed (o ∷ slots) h = λ i. h zero i ∷ all_fixed slots (λ k. h (suc k)) i

  -- changing what it does something to, in any order and any number of times, is changing all
  pub changed_all : (ids : List EntryId) (slots : List (Option Entry)) → ((k : ℕ) (x : Entry) → get_or slots k None ≡ Some x → (f x ≡ x) ⊎ Among k ids) → changed_at f ids slots ≡ map (option_map f) slots
  changed_all ids slots h = sym (all_fixed (changed_at f ids slots) each) ∙ map_changed ids slots
    where
      each : (k : ℕ) → Fixed (get_or (changed_at f ids slots) k None)
      each k = elim (Option_cases (get_or slots k None)) [
        | inl none ↦ stays ids slots k (subst (λ (o : Option Entry). Fixed o) (sym none) refl)
        | inr some ↦ elim (h k some.0 some.1) [
          | inl same ↦ stays ids slots k (subst (λ (o : Option Entry). Fixed o) (sym some.1) (ap (λ (y : Entry). Some y) same))
          | inr in_ids ↦ gets ids slots k in_ids
        ]
      ]

abbrev pub id_in : List (Option Entry) → Entry → EntryId
id_in slots x = record { 0 = place_among (map number_in slots) x.number }

-- what passes a test is among the keys of what does
among_filter : (slots : List (Option Entry)) (p : Entry → Bool) (xs : List Entry) (n : ℕ) (x : Entry) → numbered xs n ≡ Some x → p x ≡ true → Among (id_in slots x).0 (map (id_in slots) (filter p xs))
among_filter slots p [] n x h t = absurd cc
among_filter slots p (y ∷ ys) n x h t = elim (same_or_not y.number n) [
  | inl e ↦
      let g = (let s = same_test y.number n e in rw s at h) in let same : y ≡ x = cc in
      let u : p y ≡ true = ap p same ∙ t in
      rw u (inl (ap (λ (z : Entry). (id_in slots z).0) same))
  | inr ne ↦
      let r = among_filter slots p ys n x (let s = test_apart y.number n ne in rw s at h) t in
      elim (cases_Bool (p y)) [ inl u ↦ rw u (inr r) | inr u ↦ rw u r ]
]

held_filter : (slots : List (Option Entry)) (p : Entry → Bool) (xs : List Entry) → AllHeld slots (map (id_in slots) xs) → AllHeld slots (map (id_in slots) (filter p xs))
held_filter slots p [] h = tt
held_filter slots p (x ∷ xs) h = elim (cases_Bool (p x)) [
  | inl u ↦ rw u (h.0, held_filter slots p xs h.1)
  | inr u ↦ rw u (held_filter slots p xs h.1)
]

-- a key of each registration on a description, in whatever order, is all that a change of those on it has to visit
pub changed_on : (f : Entry → Entry) (again : (x : Entry) → f (f x) ≡ f x) (desc : DescId) (apart : (x : Entry) → is_on desc x ≡ false → f x ≡ x)
    → (slots : List (Option Entry)) (n : ℕ) → NumberedBy slots n → (ids : List EntryId) → ids ≡ map (id_in slots) (filter (is_on desc) (in_order slots n)) → changed_at f ids slots ≡ map (option_map f) slots
changed_on f again desc apart slots n num ids e = changed_all f again ids slots each
  where
    each : (k : ℕ) (x : Entry) → get_or slots k None ≡ Some x → (f x ≡ x) ⊎ Among k ids
    each k x h = elim (cases_Bool (is_on desc x)) [
      | inl t ↦ inr (
          let a = among_filter slots (is_on desc) (in_order slots n) x.number x (held slots n num k x h) t in
          let b = subst (λ (j : ℕ). Among j (map (id_in slots) (filter (is_on desc) (in_order slots n)))) (place_is slots num.one k x h) a in
          subst (λ (js : List EntryId). Among k js) (sym e) b)
      | inr u ↦ inl (apart x u)
    ]

-- the two changes of those on a description
pub raised_apart : (desc : DescId) (bits : Mask) (event : ℕ) (x : Entry) → is_on desc x ≡ false → raised_on desc bits event x ≡ x
raised_apart desc bits event x u = rw u refl

pub freshened_apart : (desc : DescId) (bits : Mask) (x : Entry) → is_on desc x ≡ false → freshened_on desc bits x ≡ x
freshened_apart desc bits x u = rw u refl

module _ (desc : DescId) (bits : Mask) (event : ℕ) where
  abbrev change : Entry → Entry
  change x = record x { fresh = brings x.mask.0 bits.0 || x.fresh; passes_in = if x.armed && nat_lt 0 (asked x.mask.0 bits.0) then event else x.passes_in }

  once : (x : Entry) → is_on desc x ≡ true → raised_on desc bits event x ≡ change x
  once x t = rw t refl

  event_twice : (b : Bool) (n : ℕ) → cond b event (cond b event n) ≡ cond b event n
  event_twice true n = refl
  event_twice false n = refl

  twice : (x : Entry) → change (change x) ≡ change x
  twice x = λ i. record x { fresh = or_again (brings x.mask.0 bits.0) x.fresh i; passes_in = event_twice (x.armed && nat_lt 0 (asked x.mask.0 bits.0)) x.passes_in i }

  pub raised_again : (x : Entry) → raised_on desc bits event (raised_on desc bits event x) ≡ raised_on desc bits event x
  raised_again x = elim (cases_Bool (is_on desc x)) [
    | inl t ↦ ap (raised_on desc bits event) (once x t) ∙ (once (change x) t ∙ (twice x ∙ sym (once x t)))
    | inr u ↦ ap (raised_on desc bits event) (raised_apart desc bits event x u)
  ]

pub freshened_again : (desc : DescId) (bits : Mask) (x : Entry) → freshened_on desc bits (freshened_on desc bits x) ≡ freshened_on desc bits x
freshened_again desc bits x = elim (cases_Bool (is_on desc x && brings x.mask.0 bits.0)) [
  | inl t ↦ rw t (rw t refl)
  | inr u ↦ rw u (rw u refl)
]

held_cons : (slots : List (Option Entry)) (o : Option Entry) (xs : List Entry) → ((x : Entry) → o ≡ Some x → IsSome (get_or slots (id_in slots x).0 None)) → AllHeld slots (map (id_in slots) xs) → AllHeld slots (map (id_in slots) (cons_option o xs))
held_cons slots None xs h r = r
held_cons slots (Some x) xs h r = (h x refl, r)

held_given : (slots : List (Option Entry)) → One slots → (ns : List ℕ) → AllHeld slots (map (id_in slots) (filter_map (found_by slots) ns))
held_given slots one [] = tt
held_given slots one (n ∷ ns) =
    held_cons slots (found_by slots n) (filter_map (found_by slots) ns)
    (λ x e. let h = has slots n x e in ap is_some (ap (λ (k : ℕ). get_or slots k None) (place_is slots one h.key x h.is) ∙ h.is))
    (held_given slots one ns)

-- each key of a registration on a description is held
pub held_on : (slots : List (Option Entry)) (n : ℕ) → NumberedBy slots n → (desc : DescId) (ids : List EntryId) → ids ≡ map (id_in slots) (filter (is_on desc) (in_order slots n)) → AllHeld slots ids
held_on slots n num desc ids e = subst (λ (js : List EntryId). AllHeld slots js) (sym e) (held_filter slots (is_on desc) (in_order slots n) (held_given slots num.one (range_with_len 1 n)))

-- what the row of a description has are the keys of the registrations on it
pub watchers_are : {A : Type 0} (k : Inside A) → IsInterest k → (desc : DescId) → map entry_id (row k.by_target desc.0) ≡ map (id_in k.slots.slots) (filter (is_on desc) (in_order k.slots.slots k.added))
watchers_are k i desc = ap (map entry_id) (i.by_target.rows desc.0) ∙ ids_at k.slots.slots (filter (is_on desc) (in_order k.slots.slots k.added))
