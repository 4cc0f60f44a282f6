-- Rows whose circles begin where a list says.
use Rattle.std.proofs.Common.{◌≡◌, ◌≢◌, ℕ, ◌<◌, ◌≤◌, ◌==◌, Bool, true, false, cond, not, All, Contains, List, [], ◌∷◌, ◌++◌, length, filter, map, get_or, set, nat_eq, Option, None, Some, refl, sym, ap, subst, ◌∙◌, inl, inr, arith, if◌then◌else◌}
use Rattle.std.proofs.lemmas.Bool.{cases_eq, cases_lt}
use Rattle.std.proofs.lemmas.List.{ext_get_or, get_or-map, get_or-set_other, get_or-set_same, get_or_past, length-map, length-set}
use Rattle.std.proofs.lemmas.List.Elements.{All-cons, All-contains}
use Rattle.ep_facts.proofs.NatFacts.{same_test, test_apart}
use Rattle.ep_machine.specs.Lists.{are_distinct, is_among}
use Rattle.ep_rings.specs.Circles.{AreCircles, CanJoin, CanLeave, IsCircle, Joins, Leaves, Whose, keys_in, row_of, turned, with_head}
use Rattle.ep_rings.specs.Links.{next_of, prev_of}
use Rattle.ep_rings.specs.PlacedRows.{AreApart, KeepsRows, PlacedRows, head_at, keys_at, rotation_of, rows_from, with_key, with_row, with_turn, without_key}
use Rattle.ep_rings.specs.declared.circle.Circle.{Circle}
use Rattle.ep_rings.specs.declared.link.Link.{Link}
use Rattle.ep_rings.proofs.CircleLemmas.{first_there, keys_apart}
use Rattle.ep_rings.proofs.OwnerLemmas.{circles_alike, none_of, row_alike}
use Rattle.ep_rings.proofs.TurnLemmas.{circles_after, rows_after}
use Rattle.ep_rings.proofs.AmongLemmas.{distinct, filter_apart, stands_where}

none_among : (xs : List ℕ) (k : ℕ) → is_among xs k ≡ false → All (λ x. x ≢ k) xs
none_among [] k h = λ i d lt. absurd (omega (arith, lt))
none_among (x ∷ xs) k h = elim (cases_eq k x) [
  | inl e ↦ absurd (let t = same_test k x e in let no : true ≡ false = rw t at h in cc)
  | inr ne ↦ All-cons (λ y. y ≢ k) x xs (λ e. ne (sym e)) (none_among xs k (let t = test_apart k x ne in rw t at h))
]

-- reading after a write
read_set : {X : Type 0} (xs : List X) (o : ℕ) (x d : X) → o < length xs → (i : ℕ) → get_or (set xs o x) i d ≡ (if nat_eq o i then x else get_or xs i d)
read_set xs o x d lt i = elim (cases_eq o i) [
  | inl e ↦ ap (λ (j : ℕ). get_or (set xs o x) j d) (sym e) ∙ (get_or-set_same xs o x d lt ∙ sym (ap (λ (b : Bool). cond b x (get_or xs i d)) (same_test o i e)))
  | inr ne ↦ get_or-set_other xs o i x d (λ e. ne (sym e)) ∙ sym (ap (λ (b : Bool). cond b x (get_or xs i d)) (test_apart o i ne))
]

-- the row of an owner is that of its circle
pub row_read : (heads : List (Option Circle)) (links : List Link) (i : ℕ) → keys_at (rows_from heads links) i ≡ row_of links (head_at heads) i
row_read heads links i = elim (cases_lt i (length heads)) [
  | inl l ↦ get_or-map (keys_in (next_of links)) heads i None [] l
  | inr g ↦
      get_or_past (map (keys_in (next_of links)) heads) i [] (subst (λ (n : ℕ). n ≤ i) (sym (length-map heads (keys_in (next_of links)))) g)
      ∙ ap (keys_in (next_of links)) (sym (get_or_past heads i None g))
]

-- rows and places after a growth
pub rows_kept : (heads heads' : List (Option Circle)) (links links' : List Link) → ((i : ℕ) → head_at heads' i ≡ head_at heads i) → length heads ≤ length heads' → ((i : ℕ) → row_of links' (head_at heads) i ≡ row_of links (head_at heads) i) → length links ≤ length links' → KeepsRows (rows_from heads links) (rows_from heads' links')
rows_kept heads heads' links links' same owners kept keys = record {
  rows = λ i. row_read heads' links' i ∙ (row_alike links' (head_at heads) (head_at heads') same i ∙ (kept i ∙ sym (row_read heads links i)));
  owners = omega (arith, owners, length-map heads (keys_in (next_of links)), length-map heads' (keys_in (next_of links')));
  keys = keys;
}

module _ (heads : List (Option Circle)) (links : List Link) where
  abbrev value : PlacedRows
  value = rows_from heads links

  -- one circle begins elsewhere
  changed : (links' : List Link) (o : ℕ) (c : Option Circle) (ks : List ℕ) → o < length heads → length links' ≡ length links → ((i : ℕ) → row_of links' (with_head (head_at heads) o c) i ≡ (if nat_eq o i then ks else row_of links (head_at heads) i)) → rows_from (set heads o c) links' ≡ with_row value o ks
  changed links' o c ks lt many rows =
      let f = keys_in (next_of links) in
      let f' = keys_in (next_of links') in
      let a = length-map (set heads o c) f' in let b = length-set heads o c in let d = length-map heads f in let e = length-set (map f heads) o ks in
      let same : map f' (set heads o c) ≡ set (map f heads) o ks =
      ext_get_or [] (map f' (set heads o c)) (set (map f heads) o ks) (omega (arith, a, b, d, e)) (λ i l.
      row_read (set heads o c) links' i
      ∙ (row_alike links' (with_head (head_at heads) o c) (head_at (set heads o c)) (read_set heads o c None lt) i
      ∙ (rows i
      ∙ (ap (λ (js : List ℕ). if nat_eq o i then ks else js) (sym (row_read heads links i))
      ∙ sym (read_set (map f heads) o ks [] (omega (arith, lt, d)) i))))) in
      λ z. record { rows = same z; keys = many z }

  -- the circles after the change
  sound_changed : (links' : List Link) (o : ℕ) (c : Option Circle) → o < length heads → AreCircles links' (with_head (head_at heads) o c) → AreCircles links' (head_at (set heads o c))
  sound_changed links' o c lt h = circles_alike links' (with_head (head_at heads) o c) (head_at (set heads o c)) (read_set heads o c None lt) h

  pub owner_below : (v : PlacedRows) (o : ℕ) → value ≡ v → o < length v.rows → o < length heads
  owner_below v o e lt = omega (arith, lt, ap (λ (u : PlacedRows). length u.rows) e, length-map heads (keys_in (next_of links)))

  pub owner_there : (v : PlacedRows) (o k : ℕ) → value ≡ v → is_among (keys_at v o) k ≡ true → o < length heads
  owner_there v o k e h = elim (cases_lt o (length heads)) [
    | inl l ↦ l
    | inr g ↦ absurd (
        let none : keys_at v o ≡ [] = ap (λ (u : PlacedRows). keys_at u o) (sym e) ∙ (row_read heads links o ∙ ap (keys_in (next_of links)) (get_or_past heads o None g)) in
        let no : false ≡ true = sym (ap (λ (ks : List ℕ). is_among ks k) none) ∙ h in
        cc)
  ]

  abbrev pub whose : ℕ → Whose
  whose o = record { heads = head_at heads; owner = o }

  module _ (h : AreCircles links (head_at heads)) (o k : ℕ) where
    among : (i j : ℕ) → is_among (keys_at value i) j ≡ true → Contains (row_of links (head_at heads) i) j
    among i j t = stands_where (row_of links (head_at heads) i) j j (ap (λ (ks : List ℕ). is_among ks j) (sym (row_read heads links i)) ∙ t)

    pub can_join : (v : PlacedRows) → value ≡ v → ((i : ℕ) → is_among (keys_at v i) k ≡ false) → CanJoin links (whose o) k
    can_join v e fresh = record {
      sound = h;
      fresh = λ i. none_among (row_of links (head_at heads) i) k (ap (λ (ks : List ℕ). is_among ks k) (sym (row_read heads links i)) ∙ (ap (λ (u : PlacedRows). is_among (keys_at u i) k) e ∙ fresh i));
    }

    pub can_leave : (v : PlacedRows) → value ≡ v → is_among (keys_at v o) k ≡ true → CanLeave links (whose o) k
    can_leave v e t = record { sound = h; there = among o k (ap (λ (u : PlacedRows). is_among (keys_at u o) k) e ∙ t) }

    pub sound_joined : (links' : List Link) (c : Option Circle) → o < length heads → Joins links links' (whose o) c k → AreCircles links' (head_at (set heads o c))
    sound_joined links' c lt j = sound_changed links' o c lt j.sound

    pub key_joined : (v : PlacedRows) → value ≡ v → (links' : List Link) (c : Option Circle) → o < length heads → Joins links links' (whose o) c k → rows_from (set heads o c) links' ≡ with_key v o k
    key_joined v e links' c lt j =
        let ks = keys_at value o ++ k ∷ [] in
        changed links' o c ks lt j.many (λ i. elim (cases_eq o i) [
          | inl is ↦ j.rows i ∙ (ap (λ (b : Bool). cond b (row_of links (head_at heads) i ++ k ∷ []) (row_of links (head_at heads) i)) (same_test o i is) ∙ (ap (λ (n : ℕ). row_of links (head_at heads) n ++ k ∷ []) (sym is) ∙ (ap (λ (js : List ℕ). js ++ k ∷ []) (sym (row_read heads links o)) ∙ sym (ap (λ (b : Bool). cond b ks (row_of links (head_at heads) i)) (same_test o i is)))))
          | inr ne ↦ j.rows i ∙ (ap (λ (b : Bool). cond b (row_of links (head_at heads) i ++ k ∷ []) (row_of links (head_at heads) i)) (test_apart o i ne) ∙ sym (ap (λ (b : Bool). cond b ks (row_of links (head_at heads) i)) (test_apart o i ne)))
        ]) ∙ ap (λ (u : PlacedRows). with_key u o k) e

    pub sound_left : (links' : List Link) (c : Option Circle) → o < length heads → Leaves links links' (whose o) c k → AreCircles links' (head_at (set heads o c))
    sound_left links' c lt l = sound_changed links' o c lt l.sound

    pub key_left : (v : PlacedRows) → value ≡ v → is_among (keys_at v o) k ≡ true → (links' : List Link) (c : Option Circle) → o < length heads → Leaves links links' (whose o) c k → rows_from (set heads o c) links' ≡ without_key v o k
    key_left v e t links' c lt l =
        let there = (can_leave v e t).there in
        let ks = filter (λ x. not (x == k)) (keys_at value o) in
        changed links' o c ks lt l.many (λ i. elim (cases_eq o i) [
          | inl is ↦ l.rows i ∙ (ap (λ (n : ℕ). filter (λ x. not (x == k)) (row_of links (head_at heads) n)) (sym is) ∙ (ap (λ (js : List ℕ). filter (λ x. not (x == k)) js) (sym (row_read heads links o)) ∙ sym (ap (λ (b : Bool). cond b ks (row_of links (head_at heads) i)) (same_test o i is))))
          | inr ne ↦ l.rows i ∙ (filter_apart (row_of links (head_at heads) i) k k (λ n g. none_of (row_of links (head_at heads)) h.apart o i k ne there n k g) ∙ sym (ap (λ (b : Bool). cond b ks (row_of links (head_at heads) i)) (test_apart o i ne)))
        ]) ∙ ap (λ (u : PlacedRows). without_key u o k) e

  -- A row is turned.
  module _ (h : AreCircles links (head_at heads)) (o : ℕ) (t : Circle) (is : head_at heads o ≡ Some t) where
    abbrev turn : Option Circle
    turn = Some (turned (next_of links) t)

    pub owner_begins : o < length heads
    owner_begins = elim (cases_lt o (length heads)) [ inl l ↦ l | inr g ↦ absurd (let no = sym (get_or_past heads o None g) ∙ is in cc) ]

    pub first_linked : t.first < length links
    first_linked =
        let c = subst (λ (c : Option Circle). IsCircle (next_of links) (prev_of links) c (row_of links (head_at heads) o)) is (h.circles o) in
        All-contains (λ x. x < length links) (row_of links (head_at heads) o) t.first (h.within o) (first_there (next_of links) (prev_of links) t (row_of links (head_at heads) o) c)

    pub sound_turned : AreCircles links (head_at (set heads o turn))
    sound_turned = sound_changed links o turn owner_begins (circles_after links (whose o) t h is)

    pub row_turned : (v : PlacedRows) → value ≡ v → rows_from (set heads o turn) links ≡ with_turn v o
    row_turned v e =
        let ks = rotation_of (keys_at value o) in
        changed links o turn ks owner_begins refl (λ i. rows_after links (whose o) t h is i ∙ elim (cases_eq o i) [
          | inl same ↦
              ap (λ (b : Bool). cond b (rotation_of (row_of links (head_at heads) i)) (row_of links (head_at heads) i)) (same_test o i same)
              ∙ (ap (λ (n : ℕ). rotation_of (row_of links (head_at heads) n)) (sym same) ∙ (ap rotation_of (sym (row_read heads links o))
              ∙ sym (ap (λ (b : Bool). cond b ks (row_of links (head_at heads) i)) (same_test o i same))))
          | inr ne ↦
              ap (λ (b : Bool). cond b (rotation_of (row_of links (head_at heads) i)) (row_of links (head_at heads) i)) (test_apart o i ne)
              ∙ sym (ap (λ (b : Bool). cond b ks (row_of links (head_at heads) i)) (test_apart o i ne))
        ]) ∙ ap (λ (u : PlacedRows). with_turn u o) e

  pub are_apart : AreCircles links (head_at heads) → AreApart value
  are_apart h = record {
    once = λ i. ap are_distinct (row_read heads links i) ∙ distinct (row_of links (head_at heads) i) 0 (λ a b before lt. keys_apart (next_of links) (prev_of links) (head_at heads i) (row_of links (head_at heads) i) (h.circles i) a b 0 before lt);
    within = λ i k t. All-contains (λ x. x < length links) (row_of links (head_at heads) i) k (h.within i) (among h i k i k t);
    apart = λ i j k s t. elim (cases_eq i j) [
      | inl e ↦ e
      | inr ne ↦ absurd (All-contains (λ x. x ≢ k) (row_of links (head_at heads) j) k (none_of (row_of links (head_at heads)) h.apart i j k ne (among h i k i k s)) (among h i k j k t) refl)
    ];
  }
