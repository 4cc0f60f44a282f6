-- Bounds of chains: what they say, and what raising one leaves.
use Rattle.ep_machine.specs.Lists.{is_among}
use Rattle.ep_nest.proofs.ChainLemmas.{at_most_four}
use Rattle.ep_nest.proofs.ElementLemmas.{Contains-cons, Contains-from_map, Contains-head, Contains-map, Contains-nil, among}
use Rattle.ep_nest.proofs.KeptLemmas.{grown_same, kept_edge, place_of, places_more, places_part, short_up, way_down, way_up}
use Rattle.ep_nest.proofs.LevelLemmas.{end_from, end_of}
use Rattle.ep_nest.specs.Chains.{IsShort, LeadsBy}
use Rattle.ep_nest.specs.Depths.{AreDeep, AreDepths, Covers, Deepens, EndsWithin, IsShallow, depth_at, one_more}
use Rattle.ep_nest.specs.Lengths.{HasPlaces}
use Rattle.ep_nest.specs.Links.{along, edges, ends, ends_of, is_apart_from, starting_at, turned}
use Rattle.ep_nest.specs.declared.depths.Depths.{Depths}
use Rattle.ep_nest.specs.declared.link.Link.{Link}
use Rattle.ep_nest.specs.declared.link.Way.{Way}
use Rattle.ep_nest.specs.declared.link.Way.TheVariants.{Down, Up}
use Rattle.std.proofs.Common.{Bool, Contains, List, [], ap, arith, eqb, false, filter, if◌then◌else◌, inl, inr, length, nat_lt, not, refl, replicate, set, subst, suc, sym, true, zero, ℕ, ◌+◌, ◌++◌, ◌-◌, ◌<◌, ◌∙◌, ◌∷◌, ◌≡◌, ◌≢◌, ◌≤◌, ◌⊎◌}
use Rattle.std.specs.List.{All, AllByRecursion}
use Rattle.std.proofs.lemmas.Bool.{and_parts, cases_Bool, cases_eq, cases_lt, eqb-false, eqb-true, not-true, or_cases}
use Rattle.std.proofs.lemmas.List.{get_or-set_other, get_or-set_same, length-append, length-set, map-append}
use Rattle.std.proofs.lemmas.List.Elements.{All-contains, Contains-push, Contains-push_cases}

-- a link more, of no more than four
pub more_by_one : (k n : ℕ) → k ≤ n → k + 1 ≤ 4 → k + 1 ≤ one_more n
more_by_one k n le few = elim (cases_Bool (nat_lt n 4)) [
  | inl less ↦ let is : one_more n ≡ n + 1 = ap (λ (b : Bool). if b then n + 1 else 4) less in omega (arith, is, le)
  | inr not_less ↦ let is : one_more n ≡ 4 = ap (λ (b : Bool). if b then n + 1 else 4) not_less in omega (arith, is, few)
]

-- no chain is longer than the bound of the instance that it starts at
pub within : (es : List (ℕ × ℕ)) (depths : List ℕ) → IsShort es → AreDepths es depths → (n x y : ℕ) → LeadsBy es n x y → n ≤ depth_at depths x
within es depths short are zero x y p = omega arith
within es depths short are (suc n) x y p =
    let rest = within es depths short are n p.0 y p.2 in
    let few = at_most_four es short (suc n) x y p in
    omega (arith, more_by_one n (depth_at depths p.0) rest (omega (arith, few)), are x p.0 p.1)

-- the same links the other way
pub turned_link : (way : Way) (ls : List Link) (a b : ℕ) → Contains (along way ls) (a, b) → Contains (along (turned way) ls) (b, a)
turned_link Down ls a b h = way_up ls a b h
turned_link Up ls a b h = way_down ls a b h

-- a link along either way is one of the graph's
pub placed_along : (way : Way) (ls : List Link) (room a b : ℕ) → HasPlaces (edges ls) room → Contains (along way ls) (a, b) → (a < room) × (b < room)
placed_along Down ls room a b h c = place_of (edges ls) room h (a, b) c
placed_along Up ls room a b h c = let p = place_of (edges ls) room h (b, a) (way_down ls a b c) in (p.1, p.0)

-- On the way: each link is covered as it has to be, but those to the instance from what is left.
pub record IsDeepening (es : List (ℕ × ℕ)) (first now : List ℕ) (instance reached : ℕ) (left : List ℕ) : Type 0 where
  pub least : reached ≤ depth_at now instance
  pub more : (x : ℕ) → depth_at first x ≤ depth_at now x
  pub covers : (x y : ℕ) → Contains es (x, y) → Covers first x y ⊎ (depth_at first y < depth_at now y) → Covers now x y ⊎ ((y ≡ instance) × (is_among left x ≡ true))
  pub length : length now ≡ length first

-- a bound that was raised, and nothing else yet
pub begun : (es : List (ℕ × ℕ)) (first now : List ℕ) (instance least : ℕ) (left : List ℕ) → depth_at first instance < least → instance < length first → now ≡ set first instance least
    → ((x : ℕ) → Contains es (x, instance) → is_among left x ≡ true) → IsDeepening es first now instance least left
begun es first now instance least left below place is all =
    let here : depth_at now instance ≡ least = ap (λ (ds : List ℕ). depth_at ds instance) is ∙ get_or-set_same first instance least 0 place in
    let others : (x : ℕ) → x ≢ instance → depth_at now x ≡ depth_at first x = λ x apart. ap (λ (ds : List ℕ). depth_at ds x) is ∙ get_or-set_other first instance x least 0 apart in
    let more : (x : ℕ) → depth_at first x ≤ depth_at now x = λ x. elim (cases_eq x instance) [
      | inl same ↦ let at = ap (depth_at first) same in let now_at = ap (depth_at now) same in omega (arith, at, now_at, here, below)
      | inr apart ↦ omega (arith, others x apart)
    ] in
    record {
      least = omega (arith, here);
      more = more;
      covers = λ x y link why. elim (cases_eq y instance) [
        | inl same ↦ inr (same, all x (subst (λ (z : ℕ). Contains es (x, z)) same link))
        | inr apart ↦
            let stays = others y apart in
            elim why [
              | inl was ↦ inl (let still : one_more (depth_at now y) ≡ one_more (depth_at first y) = ap one_more stays in omega (arith, still, was, more x))
              | inr rose ↦ absurd (omega (arith, rose, stays))
            ]
      ];
      length = ap (λ (ds : List ℕ). length ds) is ∙ length-set first instance least;
    }

-- one link further
pub gone_on : (es : List (ℕ × ℕ)) (first now next : List ℕ) (instance least end : ℕ) (left : List ℕ) → IsDeepening es first now instance least (end ∷ left)
    → one_more (depth_at now instance) ≤ depth_at next end → Deepens es now next → IsDeepening es first next instance least left
gone_on es first now next instance least end left before reached deepens = record {
  least = omega (arith, before.least, deepens.more instance);
  more = λ x. omega (arith, before.more x, deepens.more x);
  covers = λ x y link why.
      let now_covers : Covers now x y → Covers next x y = λ was. deepens.covers x y link (inl was) in
      elim (cases_lt (depth_at now y) (depth_at next y)) [
        | inl rose ↦ inl (deepens.covers x y link (inr rose))
        | inr kept ↦
            let same : depth_at next y ≡ depth_at now y = omega (arith, kept, deepens.more y) in
            elim (before.covers x y link (elim why [ inl was ↦ inl was | inr rose ↦ inr (omega (arith, rose, same)) ])) [
              | inl was ↦ inl (now_covers was)
              | inr open' ↦ elim (or_cases (eqb x end) (is_among left x) open'.1) [
                | inl here ↦
                    let at : x ≡ end = eqb-true x end here in
                    let there : depth_at next x ≡ depth_at next end = ap (depth_at next) at in
                    let bound : one_more (depth_at next y) ≡ one_more (depth_at now instance) = ap one_more (same ∙ ap (depth_at now) open'.0) in
                    inl (omega (arith, reached, there, bound))
                | inr later ↦ inr (open'.0, later)
              ]
            ]
      ];
  length = deepens.length ∙ before.length;
}

-- nothing is left
pub ended : (es : List (ℕ × ℕ)) (first now : List ℕ) (instance least : ℕ) → IsDeepening es first now instance least [] → Deepens es first now
ended es first now instance least done = record {
  more = done.more;
  covers = λ x y link why. elim (done.covers x y link why) [ inl is ↦ is | inr open' ↦ absurd (let bad : false ≡ true = open'.1 in cc) ];
  length = done.length;
}

-- the instances from which links lead to one, along a way
pub leading : (way : Way) (ls : List Link) (instance x : ℕ) → Contains (along way ls) (x, instance) → is_among (ends (turned way) (starting_at (turned way) instance ls)) x ≡ true
leading way ls instance x link = end_from (turned way) instance x ls (turned_link way ls x instance link)

-- fewer links lead on from the end of a link
pub ends_on : (es : List (ℕ × ℕ)) (left x y : ℕ) → Contains es (x, y) → EndsWithin left es x → EndsWithin (left - 1) es y
ends_on es zero x y link ends = absurd (ends x refl)
ends_on es (suc n) x y link ends =
    let less : n ≡ suc n - 1 = omega arith in
    subst (λ (k : ℕ). EndsWithin k es y) less (λ z leads. ends z (y, link, leads))

pub some_left : (es : List (ℕ × ℕ)) (left x : ℕ) → EndsWithin left es x → 0 < left
some_left es zero x ends = absurd (ends x refl)
some_left es (suc n) x ends = omega arith

-- the last link is one of them
pub newest : (way : Way) (ls all : List Link) (l : Link) → all ≡ ls ++ l ∷ [] → Contains (along way all) (ends_of way l)
newest way ls all l is =
    let same : along way all ≡ along way ls ++ ends_of way l ∷ [] = ap (along way) is ∙ map-append (ends_of way) ls (l ∷ []) in
    subst (λ (es : List (ℕ × ℕ)). Contains es (ends_of way l)) (sym same) (Contains-push (along way ls) (ends_of way l))

-- the bounds allow for one link more, once they were raised by it
pub noted : (way : Way) (ls all : List Link) (l : Link) (old new : List ℕ) → all ≡ ls ++ l ∷ [] → AreDepths (along way ls) old → Deepens (along way all) old new
    → one_more (depth_at old (ends_of way l).1) ≤ depth_at new (ends_of way l).0 → AreDepths (along way all) new
noted way ls all l old new is are deepens reached x y link =
    let same : along way all ≡ along way ls ++ ends_of way l ∷ [] = ap (along way) is ∙ map-append (ends_of way) ls (l ∷ []) in
    elim (Contains-push_cases (along way ls) (ends_of way l) (x, y) (subst (λ (es : List (ℕ × ℕ)). Contains es (x, y)) same link)) [
      | inl older ↦ deepens.covers x y link (inl (are x y older))
      | inr newest ↦
          let from : (ends_of way l).0 ≡ x = ap (λ (e : ℕ × ℕ). e.0) newest in
          let to : (ends_of way l).1 ≡ y = ap (λ (e : ℕ × ℕ). e.1) newest in
          elim (cases_lt (depth_at old y) (depth_at new y)) [
            | inl rose ↦ deepens.covers x y link (inr rose)
            | inr kept ↦
                let stays : depth_at new y ≡ depth_at old y = omega (arith, kept, deepens.more y) in
                let bound : one_more (depth_at new y) ≡ one_more (depth_at old (ends_of way l).1) = ap one_more (stays ∙ ap (depth_at old) (sym to)) in
                let there : depth_at new (ends_of way l).0 ≡ depth_at new x = ap (depth_at new) from in
                omega (arith, reached, bound, there)
          ]
    ]

-- no link touches an instance from which all are apart
pub apart_ends : (d : ℕ) (ls : List Link) (x y : ℕ) → All (λ l. is_apart_from d l ≡ true) ls → Contains (along Down ls) (x, y) → (x ≢ d) × (y ≢ d)
apart_ends d ls x y apart link =
    let m = Contains-from_map (ends_of Down) ls (x, y) link in
    let is = All-contains (λ (l : Link). is_apart_from d l ≡ true) ls m.0 apart m.1 in
    let parts = and_parts (not (eqb m.0.outer.0 d)) (not (eqb m.0.inner.0 d)) is in
    let from : m.0.outer.0 ≡ x = ap (λ (e : ℕ × ℕ). e.0) m.2 in
    let to : m.0.inner.0 ≡ y = ap (λ (e : ℕ × ℕ). e.1) m.2 in (
      λ same. eqb-false m.0.outer.0 d (not-true (eqb m.0.outer.0 d) parts.0) (from ∙ same),
      λ same. eqb-false m.0.inner.0 d (not-true (eqb m.0.inner.0 d) parts.1) (to ∙ same),
    )

-- the same along either way
pub apart_along : (way : Way) (d : ℕ) (ls : List Link) (x y : ℕ) → All (λ l. is_apart_from d l ≡ true) ls → Contains (along way ls) (x, y) → (x ≢ d) × (y ≢ d)
apart_along Down d ls x y apart link = apart_ends d ls x y apart link
apart_along Up d ls x y apart link = let p = apart_ends d ls y x apart (way_down ls x y link) in (p.1, p.0)

-- the bound of an instance without links plays no part
pub forgotten : (way : Way) (d : ℕ) (ls : List Link) (old new : List ℕ) → All (λ l. is_apart_from d l ≡ true) ls → ((x : ℕ) → x ≢ d → depth_at new x ≡ depth_at old x)
    → AreDepths (along way ls) old → AreDepths (along way ls) new
forgotten way d ls old new apart others are x y link =
    let p = apart_along way d ls x y apart link in
    let bound : one_more (depth_at new y) ≡ one_more (depth_at old y) = ap one_more (others y p.1) in
    omega (arith, are x y link, bound, others x p.0)

-- places with the bound 0 change no bound
pub depth_grown : (n x : ℕ) (depths : List ℕ) → depth_at (depths ++ replicate n 0) x ≡ depth_at depths x
depth_grown n x depths = grown_same 0 depths n x

-- and so with fewer links
pub depths_part : (es fs : List (ℕ × ℕ)) (depths : List ℕ) → ((a b : ℕ) → Contains es (a, b) → Contains fs (a, b)) → AreDepths fs depths → AreDepths es depths
depths_part es fs depths h are x y link = are x y (h x y link)

-- Bounds of a graph, through each of its changes.
along_part : (way : Way) (p : Link → Bool) (ls : List Link) (a b : ℕ) → Contains (along way (filter p ls)) (a, b) → Contains (along way ls) (a, b)
along_part Down p ls a b c = kept_edge p ls (a, b) c
along_part Up p ls a b c = way_up ls b a (kept_edge p ls (b, a) (way_down (filter p ls) a b c))

depths_grown : (es : List (ℕ × ℕ)) (old new : List ℕ) (n : ℕ) → new ≡ old ++ replicate n 0 → AreDepths es old → AreDepths es new
depths_grown es old new n is are x y link =
    let at : (z : ℕ) → depth_at new z ≡ depth_at old z = λ z. ap (λ (ds : List ℕ). depth_at ds z) is ∙ depth_grown n z old in
    let bound : one_more (depth_at new y) ≡ one_more (depth_at old y) = ap one_more (at y) in
    omega (arith, are x y link, bound, at x)

long_grown : (old new : List ℕ) (n : ℕ) → new ≡ old ++ replicate n 0 → length old ≤ length new
long_grown old new n is = omega (arith, ap (λ (ds : List ℕ). length ds) is ∙ length-append old (replicate n 0))

module _ {A : Type 0} where
  pub deep_none : (ls : List Link) (d : Depths A) → ls ≡ [] → AreDeep ls d
  deep_none ls d is = subst (λ (xs : List Link). AreDeep xs d) (sym is) (record {
    below = λ x y link. absurd (Contains-nil (x, y) link);
    above = λ x y link. absurd (Contains-nil (x, y) link);
    places_below = λ k e lt. absurd (omega arith);
    places_above = λ k e lt. absurd (omega arith);
  })

  pub deep_left : (p : Link → Bool) (ls left : List Link) (d : Depths A) → left ≡ filter p ls → AreDeep ls d → AreDeep left d
  deep_left p ls left d is deep = subst (λ (xs : List Link). AreDeep xs d) (sym is) (record {
    below = depths_part (along Down (filter p ls)) (along Down ls) d.below.items (along_part Down p ls) deep.below;
    above = depths_part (along Up (filter p ls)) (along Up ls) d.above.items (along_part Up p ls) deep.above;
    places_below = places_part (edges (filter p ls)) (edges ls) (length d.below.items) (kept_edge p ls) deep.places_below;
    places_above = places_part (edges (filter p ls)) (edges ls) (length d.above.items) (kept_edge p ls) deep.places_above;
  })

  pub deep_grown : (ls : List Link) (old new : Depths A) → (n : ℕ) × (new.below.items ≡ old.below.items ++ replicate n 0) → (n : ℕ) × (new.above.items ≡ old.above.items ++ replicate n 0)
      → AreDeep ls old → AreDeep ls new
  deep_grown ls old new b a deep = record {
    below = depths_grown (along Down ls) old.below.items new.below.items b.0 b.1 deep.below;
    above = depths_grown (along Up ls) old.above.items new.above.items a.0 a.1 deep.above;
    places_below = places_more (edges ls) (length old.below.items) (length new.below.items) (long_grown old.below.items new.below.items b.0 b.1) deep.places_below;
    places_above = places_more (edges ls) (length old.above.items) (length new.above.items) (long_grown old.above.items new.above.items a.0 a.1) deep.places_above;
  }

-- each of these links starts at an instance, along a way
pub all_start : (way : Way) (instance : ℕ) (all ls : List Link) → ((l : Link) → Contains ls l → Contains (starting_at way instance all) l) → AllByRecursion (λ k. Contains (along way all) (instance, k)) (ends way ls)
all_start way instance all [] h = tt
all_start way instance all (l ∷ ls) h = (
  end_of way instance (ends_of way l).1 all (among (ends way (starting_at way instance all)) (ends_of way l).1 (Contains-map (λ (m : Link). (ends_of way m).1) (starting_at way instance all) l (h l (Contains-head l ls)))),
  all_start way instance all ls (λ m c. h m (Contains-cons l ls m c)),
)

-- Whether a link may be added, by the bounds or by the longest chains.
module _ {A : Type 0} (ls : List Link) (short : IsShort (edges ls)) (outer inner : ℕ) where
  pub shallow_by_bounds : (d : Depths A) → AreDeep ls d → depth_at d.above.items outer + depth_at d.below.items inner < 4 → IsShallow ls outer inner
  shallow_by_bounds d deep few = record {
    above = depth_at d.above.items outer;
    below = depth_at d.below.items inner;
    up = λ n x p. within (along Up ls) d.above.items (short_up ls short) deep.above n outer x p;
    down = λ n y p. within (along Down ls) d.below.items short deep.below n inner y p;
    fits = few;
  }

-- what was forgotten was of no link
pub deep_forgotten : {A : Type 0} (d : ℕ) (ls : List Link) (old new : Depths A) → ((x : ℕ) → x ≢ d → depth_at new.below.items x ≡ depth_at old.below.items x) → ((x : ℕ) → x ≢ d → depth_at new.above.items x ≡ depth_at old.above.items x)
    → length new.below.items ≡ length old.below.items → length new.above.items ≡ length old.above.items → AreDeep ls old → All (λ l. is_apart_from d l ≡ true) ls → AreDeep ls new
deep_forgotten d ls old new below above long_below long_above deep apart = record {
  below = forgotten Down d ls old.below.items new.below.items apart below deep.below;
  above = forgotten Up d ls old.above.items new.above.items apart above deep.above;
  places_below = subst (HasPlaces (edges ls)) (sym long_below) deep.places_below;
  places_above = subst (HasPlaces (edges ls)) (sym long_above) deep.places_above;
}
