-- What rows and places mean for the lists, and what a change of both leaves.
use Rattle.std.proofs.Common.{◌≡◌, ◌≢◌, ◌<◌, ◌≤◌, ◌==◌, ◌&&◌, ◌∙◌, ℕ, Bool, true, false, not, filter, List, [], ◌∷◌, ◌++◌, length, map, get_or, set, Option, Some, None, IfSome, IsSome, ap, arith, inl, inr, refl, rules, subst, sym, if◌then◌else◌}
use Rattle.std.proofs.lemmas.Bool.{cases_Bool, cases_eq, cases_lt, false≢true}
use Rattle.std.proofs.lemmas.List.{get_or_past, get_or_read, get_or-map, get_or-set_other, get_or-set_same, length-map, length-set, map-set, set-get_or}
use Rattle.ep_base.specs.declared.ids.DescId.{DescId}
use Rattle.ep_base.specs.declared.ids.EntryId.{EntryId}
use Rattle.ep_facts.proofs.AmongFacts.{among_last, among_push_other}
use Rattle.ep_facts.proofs.NatFacts.{from_test, same_nat, test_apart}
use Rattle.ep_facts.proofs.OptionFacts.{none_is_some, some_same}
use Rattle.ep_machine.specs.Lists.{is_among}
use Rattle.ep_rings.specs.KeyWalk.{entry_id}
use Rattle.ep_rings.specs.PlacedRows.{AreApart, KeepsRows, PlacedRows, keys_at, with_key, with_row, without_key}
use Rattle.ep_rings.proofs.AmongLemmas.{among_gone, among_left, filter_gone}
use Rattle.ep_ready.specs.ReadyLists.{GainsPlace, IsSound, Lists, LosesPlace, Same, after_push, after_removal, instance_at, list_at, push_by, removal_by, with_list}
use Rattle.ep_ready.specs.Tied.{IsTied, instance_of, place_at, stands_on, value_of}
use Rattle.ep_ready.specs.declared.ready.Place.{Place}

-- a place of an instance, which stands on its list or not
abbrev pub placed : DescId → Bool → Option Place
placed i b = Some (record { instance = i; stands = b })

pub place_read : (v : PlacedRows) (ps : List (Option Place)) (e : ℕ) → instance_at (value_of v ps) (entry_id e) ≡ instance_of (place_at ps e)
place_read v ps e = elim (cases_lt e (length ps)) [
  | inl lt ↦ get_or-map instance_of ps e None None lt
  | inr past ↦ get_or_past (map instance_of ps) e None (subst (λ (n : ℕ). n ≤ e) (sym (length-map ps instance_of)) past) ∙ ap instance_of (sym (get_or_past ps e None past))
]

some_not : (o : Option ℕ) → o ≡ None → IsSome o → ⊥
some_not None e h = search rules
some_not (Some p) e h = absurd cc

pub within : (v : PlacedRows) (ps : List (Option Place)) (e : ℕ) → IsSome (instance_at (value_of v ps) (entry_id e)) → e < length ps
within v ps e h = elim (cases_lt e (length ps)) [
  | inl lt ↦ lt
  | inr past ↦ absurd (some_not _ (place_read v ps e ∙ ap instance_of (get_or_past ps e None past)) h)
]

-- the place that the code read
pub found : (v : PlacedRows) (ps : List (Option Place)) (l : Lists) (id : EntryId) (o : Option Place) (p : Place) → value_of v ps ≡ l → IsSome (instance_at l id) → o ≡ get_or ps id.0 o → o ≡ Some p → place_at ps id.0 ≡ Some p
found v ps l id o p view some read is =
    let there = subst (λ (m : Lists). IsSome (instance_at m id)) (sym view) some in
    sym (get_or_read ps id.0 o (within v ps id.0 there) read None) ∙ is

-- who stands on a list has a place of its instance
own_place : (i : ℕ) (o : Option Place) → stands_on i o ≡ true → instance_of o ≡ Some i
own_place i None h = absurd (false≢true h)
own_place i (Some p) h = elim (cases_Bool p.stands) [
  | inl t ↦ ap (λ (n : ℕ). Some n) (from_test p.instance.0 i (ap (λ (b : Bool). b && p.instance.0 == i) (sym t) ∙ h))
  | inr f ↦ absurd (false≢true (ap (λ (b : Bool). b && p.instance.0 == i) (sym f) ∙ h))
]

-- whether a place stands on its own list, and on another
on_own : (b : Bool) (i : ℕ) → (b && i == i) ≡ b
on_own false i = refl
on_own true i = same_nat i

on_other : (b : Bool) (i j : ℕ) → j ≢ i → (b && i == j) ≡ false
on_other false i j ne = refl
on_other true i j ne = test_apart i j (λ e. ne (sym e))

in_row : (v : PlacedRows) (o : Option Place) (i : ℕ) → IfSome o (λ p. p.instance.0 < length v.rows) → instance_of o ≡ Some i → i < length v.rows
in_row v None i h e = absurd cc
in_row v (Some p) i h e = subst (λ (n : ℕ). n < length v.rows) (some_same p.instance.0 i e) h

pub known_lists : (v : PlacedRows) (ps : List (Option Place)) → IsTied v ps → AreApart v → IsSound (value_of v ps)
known_lists v ps tied apart = record {
  once = apart.once;
  own = λ i id h. place_read v ps id.0 ∙ own_place i (place_at ps id.0) (sym (tied.listed i id.0) ∙ h);
  within = λ id i h. in_row v (place_at ps id.0) i (tied.row id.0) (sym (place_read v ps id.0) ∙ h);
}

-- The place of one key is another, and the rows have every other key as they had it.
module _ (v v' : PlacedRows) (ps : List (Option Place)) (tied : IsTied v ps) (e : ℕ) (o : Option Place) (lt : e < length ps) where
  abbrev ps' : List (Option Place)
  ps' = set ps e o

  place_here : place_at ps' e ≡ o
  place_here = get_or-set_same ps e o None lt

  place_else : (k : ℕ) → k ≢ e → place_at ps' k ≡ place_at ps k
  place_else k ne = get_or-set_other ps e k o None ne

  each : (P : ℕ → Option Place → Type 0) → P e o → ((k : ℕ) → P k (place_at ps k)) → (k : ℕ) → P k (place_at ps' k)
  each P own other k = elim (cases_eq k e) [
    | inl same ↦ subst (λ (n : ℕ). P n (place_at ps' n)) (sym same) (subst (P e) (sym place_here) own)
    | inr ne ↦ subst (P k) (sym (place_else k ne)) (other k)
  ]

  more : (o : Option Place) (P Q : Place → Type 0) → ((p : Place) → P p → Q p) → IfSome o P → IfSome o Q
  more None P Q f h = tt
  more (Some p) P Q f h = f p h

  pub tied_set : ((i : ℕ) → is_among (keys_at v' i) e ≡ stands_on i o) → ((i k : ℕ) → k ≢ e → is_among (keys_at v' i) k ≡ is_among (keys_at v i) k)
      → length v.rows ≤ length v'.rows → v.keys ≤ v'.keys → IfSome o (λ p. p.instance.0 < length v'.rows) → IfSome o (λ p. e < v'.keys) → IsTied v' ps'
  tied_set here other rows keys row key = record {
    listed = λ i k. elim (cases_eq k e) [
      | inl same ↦ ap (is_among (keys_at v' i)) same ∙ (here i ∙ sym (ap (λ (n : ℕ). stands_on i (place_at ps' n)) same ∙ ap (stands_on i) place_here))
      | inr ne ↦ other i k ne ∙ (tied.listed i k ∙ ap (stands_on i) (sym (place_else k ne)))
    ];
    row = each (λ k p. IfSome p (λ p. p.instance.0 < length v'.rows)) row (λ k. more (place_at ps k) (λ p. p.instance.0 < length v.rows) (λ p. p.instance.0 < length v'.rows) (λ p h. omega (arith, h, rows)) (tied.row k));
    key = each (λ k p. IfSome p (λ p. k < v'.keys)) key (λ k. more (place_at ps k) (λ p. k < v.keys) (λ p. k < v'.keys) (λ p h. omega (arith, h, keys)) (tied.key k));
  }

-- No row and no place changed, but room may have come.
module _ (v v' : PlacedRows) (ps ps1 : List (Option Place)) (kept : KeepsRows v v') (alike : (k : ℕ) → place_at ps1 k ≡ place_at ps k) where
  pub same_lists : Same (value_of v ps) (value_of v' ps1)
  same_lists = record {
    places = λ id. place_read v ps id.0 ∙ (ap instance_of (sym (alike id.0)) ∙ sym (place_read v' ps1 id.0));
    lists = λ i. sym (kept.rows i);
  }

  -- a key gets a place
  pub made : (i : DescId) (e : ℕ) → e < length ps1 → GainsPlace (value_of v ps) (value_of v' (set ps1 e (placed i false))) i.0 (entry_id e)
  made i e lt = record {
    here = place_read v' (set ps1 e (placed i false)) e ∙ ap instance_of (get_or-set_same ps1 e (placed i false) None lt);
    others = λ id ne.
        place_read v' (set ps1 e (placed i false)) id.0
        ∙ (ap instance_of (get_or-set_other ps1 e id.0 (placed i false) None ne ∙ alike id.0) ∙ sym (place_read v ps id.0));
    lists = kept.rows;
  }

-- A key with a place joins its instance's list or leaves it.
module _ (v : PlacedRows) (ps : List (Option Place)) (tied : IsTied v ps) (e : ℕ) (p : Place) (is : place_at ps e ≡ Some p) where
  abbrev i : ℕ
  i = p.instance.0

  abbrev l : Lists
  l = value_of v ps

  here : instance_at l (entry_id e) ≡ Some i
  here = place_read v ps e ∙ ap instance_of is

  pub row_there : i < length v.rows
  row_there = subst (λ (o : Option Place). IfSome o (λ p. p.instance.0 < length v.rows)) is (tied.row e)

  pub key_there : e < v.keys
  key_there = subst (λ (o : Option Place). IfSome o (λ p. e < v.keys)) is (tied.key e)

  among_here : is_among (keys_at v i) e ≡ p.stands
  among_here = tied.listed i e ∙ (ap (stands_on i) is ∙ on_own p.stands i)

  elsewhere : (j : ℕ) → j ≢ i → is_among (keys_at v j) e ≡ false
  elsewhere j ne = tied.listed j e ∙ (ap (stands_on j) is ∙ on_other p.stands i j ne)

  in_places : e < length ps
  in_places = elim (cases_lt e (length ps)) [ inl lt ↦ lt | inr past ↦ absurd (none_is_some p (place_at ps e) (get_or_past ps e None past) is) ]

  module _ (b : Bool) where
    abbrev marked : List (Option Place)
    marked = set ps e (placed p.instance b)

    same_instances : map instance_of marked ≡ map instance_of ps
    same_instances =
        map-set instance_of ps e (placed p.instance b)
        ∙ (ap (set (map instance_of ps) e) (sym here) ∙ set-get_or (map instance_of ps) e None)

    tied_marked : (ks : List ℕ) → is_among ks e ≡ b → ((k : ℕ) → k ≢ e → is_among ks k ≡ is_among (keys_at v i) k) → IsTied (with_row v i ks) marked
    tied_marked ks own other =
        let long = length-set v.rows i ks in
        let row : keys_at (with_row v i ks) i ≡ ks = get_or-set_same v.rows i ks [] row_there in
        let rest : (j : ℕ) → j ≢ i → keys_at (with_row v i ks) j ≡ keys_at v j = λ j ne. get_or-set_other v.rows i j ks [] ne in
        tied_set v (with_row v i ks) ps tied e (placed p.instance b) in_places
        (λ j. elim (cases_eq j i) [
          | inl same ↦ ap (λ (n : ℕ). is_among (keys_at (with_row v i ks) n) e) same ∙ (ap (λ (xs : List ℕ). is_among xs e) row ∙ (own ∙ sym (ap (λ (n : ℕ). b && i == n) same ∙ on_own b i)))
          | inr ne ↦ ap (λ (xs : List ℕ). is_among xs e) (rest j ne) ∙ (elsewhere j ne ∙ sym (on_other b i j ne))
        ])
        (λ j k ne. elim (cases_eq j i) [
          | inl same ↦ ap (λ (n : ℕ). is_among (keys_at (with_row v i ks) n) k) same ∙ (ap (λ (xs : List ℕ). is_among xs k) row ∙ (other k ne ∙ ap (λ (n : ℕ). is_among (keys_at v n) k) (sym same)))
          | inr apart ↦ ap (λ (xs : List ℕ). is_among xs k) (rest j apart)
        ])
        (omega (arith, long)) (omega arith) (omega (arith, long, row_there)) key_there

    marked_lists : (ks : List ℕ) → value_of (with_row v i ks) marked ≡ with_list l i ks
    marked_lists ks = λ z. record { places = same_instances z; lists = set v.rows i ks }

  pub tied_pushed : IsTied (with_key v i e) (marked true)
  tied_pushed = tied_marked true (keys_at v i ++ e ∷ []) (among_last (keys_at v i) e) (λ k ne. among_push_other (keys_at v i) e k ne)

  pub tied_left : IsTied (without_key v i e) (marked false)
  tied_left = tied_marked false (filter (λ x. not (x == e)) (keys_at v i)) (among_gone (keys_at v i) e) (λ k ne. among_left (keys_at v i) e k ne)

  pub pushed : p.stands ≡ false → value_of (with_key v i e) (marked true) ≡ after_push l (entry_id e)
  pushed off =
      let ks = keys_at v i in
      marked_lists true (ks ++ e ∷ [])
      ∙ sym (ap (push_by l e) here ∙ ap (λ (b : Bool). if b then l else with_list l i (ks ++ e ∷ [])) (among_here ∙ off))

  pub removed : value_of (without_key v i e) (marked false) ≡ after_removal l (entry_id e)
  removed = marked_lists false (filter (λ x. not (x == e)) (keys_at v i)) ∙ sym (ap (removal_by l e) here)

  pub none_removed : p.stands ≡ false → l ≡ after_removal l (entry_id e)
  none_removed off =
      let ks = keys_at v i in
      let kept : set v.rows i (filter (λ x. not (x == e)) ks) ≡ v.rows = ap (set v.rows i) (filter_gone ks e (among_here ∙ off)) ∙ set-get_or v.rows i [] in
      (λ z. record { places = map instance_of ps; lists = sym kept z }) ∙ sym (ap (removal_by l e) here)

-- What a removal leaves.
module _ (l : Lists) (sound : IsSound l) (id : EntryId) where
  same_place : (o : Option ℕ) (k : EntryId) → instance_at (removal_by l id.0 o) k ≡ instance_at l k
  same_place None k = refl
  same_place (Some i) k = refl

  list_left : (o : Option ℕ) → instance_at l id ≡ o → IsSome o → (j : ℕ) → list_at (removal_by l id.0 o) j ≡ filter (λ x. not (x == id.0)) (list_at l j)
  list_left None is some j = search rules
  list_left (Some i) is some j = elim (cases_eq j i) [
    | inl same ↦
        ap (list_at (removal_by l id.0 (Some i))) same
        ∙ (get_or-set_same l.lists i (filter (λ x. not (x == id.0)) (list_at l i)) [] (sound.within id i is)
        ∙ ap (λ (n : ℕ). filter (λ x. not (x == id.0)) (list_at l n)) (sym same))
    | inr ne ↦
        get_or-set_other l.lists i j (filter (λ x. not (x == id.0)) (list_at l i)) [] ne
        ∙ sym (filter_gone (list_at l j) id.0 (elim (cases_Bool (is_among (list_at l j) id.0)) [
          | inl t ↦ absurd (ne (some_same j i (sym (sound.own j id t) ∙ is)))
          | inr f ↦ f
        ]))
  ]

  module _ (place : IsSome (instance_at l id)) (v : PlacedRows) (ps : List (Option Place)) (tied : IsTied v ps) (is : value_of v ps ≡ after_removal l id) where
    left : (j : ℕ) → keys_at v j ≡ filter (λ x. not (x == id.0)) (list_at l j)
    left j = ap (λ (m : Lists). list_at m j) is ∙ list_left (instance_at l id) refl place j

    same_places : (k : EntryId) → instance_at (value_of v ps) k ≡ instance_at l k
    same_places k = ap (λ (m : Lists). instance_at m k) is ∙ same_place (instance_at l id) k

    in_range : id.0 < length ps
    in_range = within v ps id.0 (subst IsSome (sym (same_places id)) place)

    pub tied_dropped : IsTied v (set ps id.0 None)
    tied_dropped =
        tied_set v v ps tied id.0 None in_range (λ i. ap (λ (ks : List ℕ). is_among ks id.0) (left i) ∙ among_gone (list_at l i) id.0) (λ i k ne. refl)
        (omega arith) (omega arith) tt tt

    pub dropped : LosesPlace l (value_of v (set ps id.0 None)) id
    dropped = record {
      gone = place_read v (set ps id.0 None) id.0 ∙ ap instance_of (get_or-set_same ps id.0 None None in_range);
      others = λ k ne.
          place_read v (set ps id.0 None) k.0
          ∙ (ap instance_of (get_or-set_other ps id.0 k.0 None None ne) ∙ (sym (place_read v ps k.0) ∙ same_places k));
      lists = left;
    }
