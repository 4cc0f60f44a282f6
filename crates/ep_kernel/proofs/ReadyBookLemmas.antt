-- What contracts see of the ready lists.
use Rattle.ep_law.proofs.GraphLemmas.{member_of_map}
use Rattle.ep_calls.proofs.EntryLemmas.{holds_under}
use Rattle.std.proofs.Common.{◌≡◌, ◌∙◌, ◌==◌, ◌||◌, ◌⊎◌, ℕ, zero, suc, Bool, true, false, not, List, [], ◌∷◌, None, Option, Some, ap, cond, inl, inr, map, refl, slice_index_or, subst, sym, unwrap_or}
use Rattle.std.proofs.lemmas.Bool.{cases_Bool, false≢true}
use Rattle.std.proofs.lemmas.Option.{none-some}
use Rattle.ep_facts.proofs.BoolFacts.{both_true}
use Rattle.ep_facts.proofs.NatFacts.{from_test, same_nat, suc_same, suc_zero, test_apart}
use Rattle.ep_facts.proofs.OptionFacts.{some_same}
use Rattle.ep_base.specs.declared.ids.DescId.{DescId}
use Rattle.ep_calls.proofs.KeyLemmas.{under_key}
use Rattle.ep_calls.specs.Moves.{StandFor}
use Rattle.ep_calls.specs.Parts.{Parts}
use Rattle.ep_calls.specs.Stands.{AreLinked, IsLinked, number_at, watch_at}
use Rattle.ep_interest.specs.Registrations.{IsSound, entry_found, entry_under}
use Rattle.ep_interest.specs.declared.entry.Entry.{Entry}
use Rattle.ep_kernel.proofs.EntryLemmas.{is_under}
use Rattle.ep_kernel.proofs.NumberLemmas.{complete_order, distinct_order, entry_at, number_member, shown_of}
use Rattle.ep_kernel.proofs.ViewLemmas.{find_entry}
use Rattle.ep_kernel.specs.Listed.{IsListed, lists_of, lists_under, order_at, with_first}
use Rattle.ep_kernel.specs.ReadyBook.{InstanceList, MayBeListed, list_of}
use Rattle.ep_law.proofs.ListLemmas.{among, among_member, member_map}
use Rattle.ep_law.specs.Laws.{Member, is_reportable_in}
use Rattle.ep_machine.specs.Bits.{ET, has_bit}
use Rattle.ep_machine.specs.Lists.{are_distinct, is_among}
use Rattle.ep_machine.specs.State.{State, Watch}
use Rattle.ep_order.specs.Order.{IsComplete}
use Rattle.ep_order.specs.Pick.{turns_of}
use Rattle.ep_rings.specs.KeyWalk.{entry_id}
use Rattle.ep_ready.specs.ReadyLists.{IsSound as AreSoundLists, Lists, Same, empty, list_at, stands, stands_by}
use Rattle.ep_interest.specs.Registrations.{number_under as entry_number}
use Rattle.ep_table.specs.Value.{Sound as SoundTables, number_under}
use Rattle.ep_view.specs.KernelView.{KernelWatch, kernel_watch}

-- Lists under keys.

first_here : (d : ℕ) (ks : List ℕ) (rest : List InstanceList) → list_of rest d ≡ [] → list_of (with_first d ks rest) d ≡ ks
first_here d [] rest h = h
first_here d (k ∷ ks) rest h = ap (λ (b : Bool). cond b (k ∷ ks) (list_of rest d)) (same_nat d)

first_other : (c d : ℕ) (ks : List ℕ) (rest : List InstanceList) → (c ≡ d → ⊥) → list_of (with_first c ks rest) d ≡ list_of rest d
first_other c d [] rest h = refl
first_other c d (k ∷ ks) rest h = ap (λ (b : Bool). cond b (k ∷ ks) (list_of rest d)) (test_apart c d h)

-- a number that stands under no key
abbrev NoKey : List (Option ℕ) → ℕ → Type 0
NoKey keys d = (k : ℕ) → slice_index_or keys k None ≡ Some d → ⊥

none_under : (order : ℕ → List ℕ) (keys : List (Option ℕ)) (d : ℕ) → NoKey keys d → list_of (lists_under order keys) d ≡ []
none_under order [] d h = refl
none_under order (None ∷ keys) d h = none_under (λ i. order (suc i)) keys d (λ k at. h (suc k) at)
none_under order (Some c ∷ keys) d h =
    first_other c d (order 0) (lists_under (λ i. order (suc i)) keys) (λ e. h zero (ap (λ (n : ℕ). Some n) e))
    ∙ none_under (λ i. order (suc i)) keys d (λ k at. h (suc k) at)

-- one that stands under one key
under_one : (order : ℕ → List ℕ) (keys : List (Option ℕ)) (j d : ℕ) → slice_index_or keys j None ≡ Some d → ((k : ℕ) → slice_index_or keys k None ≡ Some d → k ≡ j) → list_of (lists_under order keys) d ≡ order j
under_one order [] j d at one = absurd (none-some d at)
under_one order (None ∷ keys) zero d at one = absurd (none-some d at)
under_one order (None ∷ keys) (suc j) d at one = under_one (λ i. order (suc i)) keys j d at (λ k h. suc_same k j (one (suc k) h))
under_one order (Some c ∷ keys) zero d at one =
    subst (λ (n : ℕ). list_of (with_first n (order 0) (lists_under (λ i. order (suc i)) keys)) d ≡ order 0) (sym (some_same c d at))
    (first_here d (order 0) (lists_under (λ i. order (suc i)) keys) (none_under (λ i. order (suc i)) keys d (λ k h. suc_zero k (one (suc k) h))))
under_one order (Some c ∷ keys) (suc j) d at one =
    first_other c d (order 0) (lists_under (λ i. order (suc i)) keys) (λ e. suc_zero j (sym (one zero (ap (λ (n : ℕ). Some n) e))))
    ∙ under_one (λ i. order (suc i)) keys j d at (λ k h. suc_same k j (one (suc k) h))

no_key : (o : Option ℕ) (keys : List (Option ℕ)) (d : ℕ) → (o ≡ Some d → ⊥) → NoKey keys d → NoKey (o ∷ keys) d
no_key o keys d here there zero at = here at
no_key o keys d here there (suc k) at = there k at

with_key : (o : Option ℕ) (keys : List (Option ℕ)) (d : ℕ) → ((j : ℕ) × (slice_index_or keys j None ≡ Some d)) ⊎ NoKey keys d
    → ((j : ℕ) × (slice_index_or (o ∷ keys) j None ≡ Some d)) ⊎ NoKey (o ∷ keys) d
with_key o keys d (inl w) = inl (suc w.0, w.1)
with_key None keys d (inr none) = inr (no_key None keys d (none-some d) none)
with_key (Some c) keys d (inr none) = elim (cases_Bool (c == d)) [
  | inl t ↦ inl (zero, ap (λ (n : ℕ). Some n) (from_test c d t))
  | inr f ↦ inr (no_key (Some c) keys d (λ e. false≢true (sym f ∙ (ap (λ (n : ℕ). n == d) (some_same c d e) ∙ same_nat d))) none)
]

key_of : (keys : List (Option ℕ)) (d : ℕ) → ((j : ℕ) × (slice_index_or keys j None ≡ Some d)) ⊎ NoKey keys d
key_of [] d = inr (λ k at. none-some d at)
key_of (o ∷ keys) d = with_key o keys d (key_of keys d)

-- the same lists
same_under : (f g : ℕ → List ℕ) (keys : List (Option ℕ)) → ((i : ℕ) → f i ≡ g i) → lists_under f keys ≡ lists_under g keys
same_under f g [] h = refl
same_under f g (None ∷ keys) h = same_under (λ i. f (suc i)) (λ i. g (suc i)) keys (λ i. h (suc i))
same_under f g (Some d ∷ keys) h =
    let rest = same_under (λ i. f (suc i)) (λ i. g (suc i)) keys (λ i. h (suc i)) in
    λ i. with_first d (h 0 i) (rest i)

pub same_lists : (p : Parts) (l m : Lists) → Same l m → lists_of p m ≡ lists_of p l
same_lists p l m same =
    same_under (order_at p.interest m) (order_at p.interest l) p.tables.keys
    (λ i. ap (map (λ k. unwrap_or (entry_number p.interest (entry_id k)) 0)) (sym (same.lists i)))

-- no lists
none_listed : (order : ℕ → List ℕ) (keys : List (Option ℕ)) → ((i : ℕ) → order i ≡ []) → lists_under order keys ≡ []
none_listed order [] h = refl
none_listed order (None ∷ keys) h = none_listed (λ i. order (suc i)) keys (λ i. h (suc i))
none_listed order (Some d ∷ keys) h =
    ap (λ (ks : List ℕ). with_first d ks (lists_under (λ i. order (suc i)) keys)) (h 0)
    ∙ none_listed (λ i. order (suc i)) keys (λ i. h (suc i))

pub no_lists : (p : Parts) (l : Lists) → l ≡ empty → lists_of p l ≡ []
no_lists p l is =
    none_listed (order_at p.interest l) p.tables.keys
    (λ i. ap (λ (m : Lists). order_at p.interest m i) is)

-- By the number of the instance.

module _ (p : Parts) (l : Lists) (tables : SoundTables p.tables) where
  -- under the key of the instance
  pub listed_of : (i : DescId) (e : ℕ) → number_under p.tables i ≡ Some e → list_of (lists_of p l) e ≡ order_at p.interest l i.0
  listed_of i e at = under_one (order_at p.interest l) p.tables.keys i.0 e at (λ k h. tables.one (record { 0 = k }) i e h at)

  pub listed_by : (e : ℕ) → ((i : DescId) × (number_under p.tables i ≡ Some e)) ⊎ (list_of (lists_of p l) e ≡ [])
  listed_by e = elim (key_of p.tables.keys e) [
    | inl w ↦ inl (record { 0 = w.0 }, w.1)
    | inr none ↦ inr (none_under (order_at p.interest l) p.tables.keys e none)
  ]

pub number_is : (o : Option ℕ) (n e : ℕ) → o ≡ Some n → unwrap_or o 0 ≡ e → o ≡ Some e
number_is o n e is at = is ∙ ap (λ (m : ℕ). Some m) (sym (ap (λ (q : Option ℕ). unwrap_or q 0) is) ∙ at)

edge_fresh : (edge fresh : Bool) → (not edge || fresh) ≡ true → edge ≡ true → fresh ≡ true
edge_fresh true fresh h t = h
edge_fresh false fresh h t = absurd (false≢true t)

module _ (p : Parts) (l : Lists) (s : State) (stands_for : StandFor p s) (linked : AreLinked p.tables p.interest) (tables : SoundTables p.tables) (sound : IsSound p.interest) (lists : AreSoundLists l) (fits : IsListed p l) where
  pub complete_listed : (e k : ℕ) → is_reportable_in s e k ≡ true → is_among (list_of (lists_of p l) e) k ≡ true
  complete_listed e k r =
      let w = shown_of p s stands_for sound e k r in
      let key = sound.has_one k w.x w.there in
      let under : entry_under p.interest (entry_id key.0.0) ≡ Some w.x = ap (entry_found p.interest.entries) key.1 ∙ w.there in
      let link = holds_under (IsLinked p.tables.keys) p.interest (entry_id key.0.0) w.x linked under in
      let i = w.x.instance in
      let u = under_key p.tables.keys i link.instance in
      let complete = subst (λ (d : ℕ). IsComplete (turns_of s d) (order_at p.interest l i.0)) w.instance (complete_order p s stands_for sound linked tables l fits.places fits.complete i link.instance) in
      ap (λ (ks : List ℕ). is_among ks k) (listed_of p l tables i e (number_is _ u.number e u.is w.instance)) ∙ complete k r

  pub once_listed : (e : ℕ) → are_distinct (list_of (lists_of p l) e) ≡ true
  once_listed e = elim (listed_by p l tables e) [
    | inl w ↦ ap are_distinct (listed_of p l tables w.0 e w.1) ∙ distinct_order p s stands_for sound linked tables l fits.places lists w.0.0
    | inr none ↦ ap are_distinct none
  ]

  -- the registration of the machine with this number
  watch_of : (x : Entry) (k : ℕ) → entry_under p.interest (entry_id k) ≡ Some x → (w : Watch) × Member w s.watches × (kernel_watch s w ≡ watch_at p.tables.keys x)
  watch_of x k is =
      let there = find_entry p.tables.keys p.interest p.interest.entries x.number x (is_under p.interest (entry_id k) x is).there in
      member_of_map (kernel_watch s) s.watches (watch_at p.tables.keys x)
      (subst (Member (watch_at p.tables.keys x)) (sym stands_for.watches) (member_map (watch_at p.tables.keys) x p.interest.entries there))

  at_key : (i : DescId) (e n : ℕ) → number_under p.tables i ≡ Some e → is_among (order_at p.interest l i.0) n ≡ true → MayBeListed s e n
  at_key i e n at on =
      let w = number_member p.interest (list_at l i.0) n (among_member (order_at p.interest l i.0) n on) in
      let k = w.0 in
      let x = entry_at p s stands_for sound linked tables l fits.places lists i.0 k w.1 in
      let there = among k (list_at l i.0) w.1 in
      let stood : stands l (entry_id k) ≡ true = ap (stands_by l k) (lists.own i.0 (entry_id k) there) ∙ there in
      let may = both_true x.0.armed (not (has_bit x.0.mask.0 ET) || x.0.fresh) (fits.sound (entry_id k) x.0 x.1 stood) in
      let y = watch_of x.0 k x.1 in
      let number : x.0.number ≡ n = sym (ap (λ (o : Option ℕ). unwrap_or o 0) (is_under p.interest (entry_id k) x.0 x.1).number) ∙ w.2 in
      let instance : number_at p.tables.keys x.0.instance ≡ e = ap (λ (j : ℕ). number_at p.tables.keys (record { 0 = j })) x.2 ∙ ap (λ (o : Option ℕ). unwrap_or o 0) at in
      record {
        x = y.0;
        there = y.1;
        instance = ap (λ (v : KernelWatch). v.instance) y.2 ∙ instance;
        number = ap (λ (v : KernelWatch). v.number) y.2 ∙ number;
        armed = ap (λ (v : KernelWatch). v.armed) y.2 ∙ may.0;
        fresh = λ t. ap (λ (v : KernelWatch). v.fresh) y.2 ∙ edge_fresh (has_bit x.0.mask.0 ET) x.0.fresh may.1 (ap (λ (v : KernelWatch). has_bit v.mask ET) (sym y.2) ∙ t);
      }

  nothing_on : (ks : List ℕ) (k : ℕ) → ks ≡ [] → is_among ks k ≡ true → ⊥
  nothing_on ks k none on = false≢true (ap (λ (xs : List ℕ). is_among xs k) (sym none) ∙ on)

  pub sound_listed : (e k : ℕ) → is_among (list_of (lists_of p l) e) k ≡ true → MayBeListed s e k
  sound_listed e k on = elim (listed_by p l tables e) [
    | inl w ↦ at_key w.0 e k w.1 (ap (λ (ks : List ℕ). is_among ks k) (sym (listed_of p l tables w.0 e w.1)) ∙ on)
    | inr none ↦ absurd (nothing_on (list_of (lists_of p l) e) k none on)
  ]
