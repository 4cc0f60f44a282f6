-- What a graph keeps, through each of its changes.
use Rattle.ep_machine.specs.Lists.{are_distinct, is_among}
use Rattle.ep_machine.specs.Watches.{is_legal}
use Rattle.ep_nest.proofs.ChainLemmas.{short_part, turned}
use Rattle.ep_nest.proofs.ElementLemmas.{Contains-cons, Contains-from_filter, Contains-from_map, Contains-head, Contains-map, among, from_among}
use Rattle.ep_nest.proofs.FillLemmas.{at_fill}
use Rattle.ep_nest.proofs.GatherLemmas.{distinct_push}
use Rattle.ep_nest.proofs.LegalityLemmas.{is_legal_from_short, short_from_is_legal}
use Rattle.ep_nest.specs.Chains.{IsShort, LeadsBy}
use Rattle.ep_nest.specs.Graph.{IsKept}
use Rattle.ep_nest.specs.Lengths.{HasPlaces}
use Rattle.ep_nest.specs.Links.{along, edges, ends_of, entries, starting_at, starts_at}
use Rattle.ep_nest.specs.Traversal.{HasGrown, HasPlace, HasRoom}
use Rattle.ep_nest.specs.declared.link.Link.{Link}
use Rattle.ep_nest.specs.declared.link.Way.{Way}
use Rattle.ep_nest.specs.declared.link.Way.TheVariants.{Down, Up}
use Rattle.ep_nest.specs.declared.traversal.Traversal.{Traversal}
use Rattle.std.proofs.Common.{Bool, Contains, List, [], ap, arith, false, filter, get_or, inl, inr, length, not, refl, replicate, subst, sym, true, ℕ, ◌+◌, ◌++◌, ◌-◌, ◌<◌, ◌∙◌, ◌∷◌, ◌≡◌, ◌≤◌}
use Rattle.std.specs.List.{All}
use Rattle.std.proofs.lemmas.Bool.{and_from, and_parts, cases_Bool, cases_lt, not-true}
use Rattle.std.proofs.lemmas.List.{get_or-append_right, get_or_append_left, get_or_past, length-append, length_push, map-append}
use Rattle.std.proofs.lemmas.List.Elements.{All-contains, All-filter, Contains-get_or, Contains-push_cases}

-- the two ways
pub way_up : (ls : List Link) (a b : ℕ) → Contains (along Down ls) (a, b) → Contains (along Up ls) (b, a)
way_up ls a b h =
    let m = Contains-from_map (ends_of Down) ls (a, b) h in
    let e : ends_of Up m.0 ≡ (b, a) = λ j. ((m.2 j).1, (m.2 j).0) in
    subst (λ (p : ℕ × ℕ). Contains (along Up ls) p) e (Contains-map (ends_of Up) ls m.0 m.1)

pub way_down : (ls : List Link) (a b : ℕ) → Contains (along Up ls) (a, b) → Contains (along Down ls) (b, a)
way_down ls a b h =
    let m = Contains-from_map (ends_of Up) ls (a, b) h in
    let e : ends_of Down m.0 ≡ (b, a) = λ j. ((m.2 j).1, (m.2 j).0) in
    subst (λ (p : ℕ × ℕ). Contains (along Down ls) p) e (Contains-map (ends_of Down) ls m.0 m.1)

pub chain_up : (ls : List Link) (n x y : ℕ) → LeadsBy (along Down ls) n x y → LeadsBy (along Up ls) n y x
chain_up ls n x y p = turned (along Down ls) (along Up ls) (way_up ls) n x y p

pub chain_down : (ls : List Link) (n x y : ℕ) → LeadsBy (along Up ls) n x y → LeadsBy (along Down ls) n y x
chain_down ls n x y p = turned (along Up ls) (along Down ls) (way_down ls) n x y p

pub short_up : (ls : List Link) → IsShort (along Down ls) → IsShort (along Up ls)
short_up ls short x y p = short y x (chain_down ls 5 x y p)

-- places, link by link
pub places_from : (es : List (ℕ × ℕ)) (room : ℕ) → ((e : ℕ × ℕ) → Contains es e → (e.0 < room) × (e.1 < room)) → HasPlaces es room
places_from es room h k d l = h (get_or es k d) (Contains-get_or es k d l)

pub place_of : (es : List (ℕ × ℕ)) (room : ℕ) → HasPlaces es room → (e : ℕ × ℕ) → Contains es e → (e.0 < room) × (e.1 < room)
place_of es room h e c = All-contains (λ e. (e.0 < room) × (e.1 < room)) es e h c

pub places_part : (es fs : List (ℕ × ℕ)) (room : ℕ) → ((e : ℕ × ℕ) → Contains es e → Contains fs e) → HasPlaces fs room → HasPlaces es room
places_part es fs room h p = places_from es room (λ e c. place_of fs room p e (h e c))

pub places_more : (es : List (ℕ × ℕ)) (few many : ℕ) → few ≤ many → HasPlaces es few → HasPlaces es many
places_more es few many le h = places_from es many (λ e c. let p = place_of es few h e c in (omega (arith, p.0), omega (arith, p.1)))

-- one more link at the end
pushed : (ls : List Link) (l : Link) (e : ℕ × ℕ) → Contains (edges (ls ++ l ∷ [])) e → Contains (ends_of Down l ∷ edges ls) e
pushed ls l e c =
    let same : edges (ls ++ l ∷ []) ≡ edges ls ++ ends_of Down l ∷ [] = map-append (ends_of Down) ls (l ∷ []) in
    elim (Contains-push_cases (edges ls) (ends_of Down l) e (subst (λ (es : List (ℕ × ℕ)). Contains es e) same c)) [
      | inl old ↦ Contains-cons (ends_of Down l) (edges ls) e old
      | inr new ↦ subst (λ (p : ℕ × ℕ). Contains (ends_of Down l ∷ edges ls) p) new (Contains-head (ends_of Down l) (edges ls))
    ]

pub legal_pushed : (ls : List Link) (l : Link) → is_legal (ends_of Down l ∷ edges ls) ≡ true → is_legal (edges (ls ++ l ∷ [])) ≡ true
legal_pushed ls l h =
    is_legal_from_short (edges (ls ++ l ∷ [])) (short_part (edges (ls ++ l ∷ [])) (ends_of Down l ∷ edges ls) (λ a b c. pushed ls l (a, b) c) (short_from_is_legal (ends_of Down l ∷ edges ls) h))

pub places_pushed : (ls : List Link) (l : Link) (room : ℕ) → HasPlaces (edges ls) room → l.outer.0 < room → l.inner.0 < room → HasPlaces (edges (ls ++ l ∷ [])) room
places_pushed ls l room h o i =
    places_from (edges (ls ++ l ∷ [])) room (λ e c.
    let same : edges (ls ++ l ∷ []) ≡ edges ls ++ ends_of Down l ∷ [] = map-append (ends_of Down) ls (l ∷ []) in
    elim (Contains-push_cases (edges ls) (ends_of Down l) e (subst (λ (es : List (ℕ × ℕ)). Contains es e) same c)) [
      | inl old ↦ place_of (edges ls) room h e old
      | inr new ↦ subst (λ (p : ℕ × ℕ). (p.0 < room) × (p.1 < room)) new (o, i)
    ])

pub distinct_pushed : (ls : List Link) (l : Link) → are_distinct (entries ls) ≡ true → is_among (entries ls) l.entry.0 ≡ false → are_distinct (entries (ls ++ l ∷ [])) ≡ true
distinct_pushed ls l h new = ap are_distinct (map-append (λ (l : Link). l.entry.0) ls (l ∷ [])) ∙ distinct_push (entries ls) l.entry.0 h new

-- fewer links
pub kept_edge : (p : Link → Bool) (ls : List Link) (e : ℕ × ℕ) → Contains (edges (filter p ls)) e → Contains (edges ls) e
kept_edge p ls e c =
    let m = Contains-from_map (ends_of Down) (filter p ls) e c in
    let there = Contains-from_filter p ls m.0 m.1 in
    subst (λ (e : ℕ × ℕ). Contains (edges ls) e) m.2 (Contains-map (ends_of Down) ls m.0 there.0)

legal_part : (p : Link → Bool) (ls : List Link) → is_legal (edges ls) ≡ true → is_legal (edges (filter p ls)) ≡ true
legal_part p ls h =
    is_legal_from_short (edges (filter p ls)) (short_part (edges (filter p ls)) (edges ls) (λ a b c. kept_edge p ls (a, b) c) (short_from_is_legal (edges ls) h))

kept_entry : (p : Link → Bool) (ls : List Link) (k : ℕ) → is_among (entries (filter p ls)) k ≡ true → is_among (entries ls) k ≡ true
kept_entry p ls k h =
    let m = Contains-from_map (λ (l : Link). l.entry.0) (filter p ls) k (from_among (entries (filter p ls)) k h) in
    let there = Contains-from_filter p ls m.0 m.1 in
    among (entries ls) k (subst (λ (k : ℕ). Contains (entries ls) k) m.2 (Contains-map (λ (l : Link). l.entry.0) ls m.0 there.0))

pub distinct_part : (p : Link → Bool) (ls : List Link) → are_distinct (entries ls) ≡ true → are_distinct (entries (filter p ls)) ≡ true
distinct_part p [] h = refl
distinct_part p (l ∷ ls) h =
    let parts = and_parts (not (is_among (entries ls) l.entry.0)) (are_distinct (entries ls)) h in
    let rest = distinct_part p ls parts.1 in
    let new : is_among (entries (filter p ls)) l.entry.0 ≡ false = elim (cases_Bool (is_among (entries (filter p ls)) l.entry.0)) [
      | inl old ↦ absurd (let bad : true ≡ false = sym (kept_entry p ls l.entry.0 old) ∙ not-true (is_among (entries ls) l.entry.0) parts.0 in cc)
      | inr fresh ↦ fresh
    ] in
    elim (cases_Bool (p l)) [
      | inl is ↦ rw is (and_from (not (is_among (entries (filter p ls)) l.entry.0)) (are_distinct (entries (filter p ls))) (ap not new) rest)
      | inr otherwise ↦ rw otherwise rest
    ]

pub length_part : (p : Link → Bool) (ls : List Link) → length (filter p ls) ≤ length ls
length_part p [] = omega arith
length_part p (l ∷ ls) = let rest = length_part p ls in elim (cases_Bool (p l)) [ inl is ↦ rw is (omega arith) | inr otherwise ↦ rw otherwise (omega arith) ]

-- what a filter leaves of the links
module _ (p : Link → Bool) (ls left : List Link) (is : left ≡ filter p ls) where
  pub legal_left : is_legal (edges ls) ≡ true → is_legal (edges left) ≡ true
  legal_left h = ap (λ (ls : List Link). is_legal (edges ls)) is ∙ legal_part p ls h

  pub places_left : (room : ℕ) → HasPlaces (edges ls) room → HasPlaces (edges left) room
  places_left room h = subst (λ (ls : List Link). HasPlaces (edges ls) room) (sym is) (places_part (edges (filter p ls)) (edges ls) room (kept_edge p ls) h)

-- a table with more places says the same
pub grown_same : {X : Type 0} (v : X) (xs : List X) (n y : ℕ) → get_or (xs ++ replicate n v) y v ≡ get_or xs y v
grown_same v xs n y = elim (cases_lt y (length xs)) [
  | inl inside ↦ get_or_append_left xs (replicate n v) v y inside
  | inr past ↦ get_or-append_right xs (replicate n v) (length xs) y v refl past ∙ (at_fill n v (replicate n v) refl (y - length xs) ∙ sym (get_or_past xs y v past))
]

-- a walk over fewer links
pub room_left : {A : Type 0} (p : Link → Bool) (ls left : List Link) (w : Traversal A) → left ≡ filter p ls → HasRoom ls w → HasRoom left w
room_left p ls left w is room =
    let few : length left ≤ length ls = omega (arith, ap (λ (ls : List Link). length ls) is, length_part p ls) in
    record {
      marks = places_left p ls left is (length w.marks.items) room.marks;
      gathered = omega (arith, few, room.gathered);
      reached = room.reached;
      level = room.level;
    }

-- once links were taken away
pub kept_left : {A : Type 0} (p : Link → Bool) (ls left : List Link) (w : Traversal A) → left ≡ filter p ls → IsKept ls w → IsKept left w
kept_left p ls left w is kept = record {
  legal = legal_left p ls left is kept.legal;
  room = room_left p ls left w is kept.room;
  clear = kept.clear;
}

pub kept_grown : {A : Type 0} (ls : List Link) (old new : Traversal A) → IsKept ls old → HasGrown old new → IsKept ls new
kept_grown ls old new kept grown = record {
  legal = kept.legal;
  room = record {
    marks =
        let long = ap (λ (ms : List Bool). length ms) grown.marks.1 ∙ length-append old.marks.items (replicate grown.marks.0 false) in
        places_more (edges ls) (length old.marks.items) (length new.marks.items) (omega (arith, long)) kept.room.marks;
    gathered = let a = kept.room.gathered in let b = grown.gathered in omega arith;
    reached = grown.reached kept.room.reached;
    level = grown.level kept.room.level;
  };
  clear = λ x. ap (λ (ms : List Bool). get_or ms x false) grown.marks.1 ∙ (grown_same false old.marks.items grown.marks.0 x ∙ kept.clear x);
}

-- a link more between instances that have their marks
pub kept_pushed : {A : Type 0} (ls : List Link) (l : Link) (key : ℕ) (w : Traversal A) → IsKept ls w → HasPlace w key (length ls + 1) → l.outer.0 ≤ key → l.inner.0 ≤ key → is_legal (ends_of Down l ∷ edges ls) ≡ true → IsKept (ls ++ l ∷ []) w
kept_pushed ls l key w kept place outer inner legal =
    let long = length_push ls l in
    record {
      legal = legal_pushed ls l legal;
      room = record {
        marks = places_pushed ls l (length w.marks.items) kept.room.marks (omega (arith, outer, place.marks)) (omega (arith, inner, place.marks));
        gathered = omega (arith, long, place.gathered);
        reached = kept.room.reached;
        level = kept.room.level;
      };
      clear = kept.clear;
    }

-- no links
pub kept_none : {A : Type 0} (ls : List Link) (w : Traversal A) → ls ≡ [] → w.marks.items ≡ [] → IsKept ls w
kept_none ls w e em =
    let n = ap (λ (ls : List Link). length ls) e in
    let m = ap (λ (ms : List Bool). length ms) em in
    record {
      legal = ap (λ (ls : List Link). is_legal (edges ls)) e;
      room = record {
        marks = subst (λ (ls : List Link). HasPlaces (edges ls) (length w.marks.items)) (sym e) (λ k d l. absurd (omega arith));
        gathered = omega (arith, n);
        reached = omega (arith, m);
        level = omega (arith, m);
      };
      clear = λ x. ap (λ (ms : List Bool). get_or ms x false) em;
    }

-- the links that start at an instance: a walk can follow them
pub starting_few : (way : Way) (k : ℕ) (ls : List Link) → length (starting_at way k ls) ≤ length ls
starting_few way k ls = length_part (starts_at way k) ls

pub starting_placed : (way : Way) (k room : ℕ) (ls : List Link) → HasPlaces (edges ls) room → All (λ l. (ends_of way l).1 < room) (starting_at way k ls)
starting_placed way k room ls h =
    All-filter (starts_at way k) (λ (l : Link). (ends_of way l).1 < room) ls (λ i d lt. at way (get_or ls i d) (Contains-get_or ls i d lt))
  where
    at : (way : Way) (l : Link) → Contains ls l → (ends_of way l).1 < room
    at Down l c = (place_of (edges ls) room h (ends_of Down l) (Contains-map (ends_of Down) ls l c)).1
    at Up l c = (place_of (edges ls) room h (ends_of Down l) (Contains-map (ends_of Down) ls l c)).0
