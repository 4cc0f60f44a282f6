-- What is left once the descriptions that nothing names are dead, and what their deaths raise there.
use Rattle.std.proofs.Common.{◌≡◌, ◌∙◌, ◌==◌, ◌⊎◌, ℕ, true, false, List, [], ◌∷◌, None, Option, Some, ap, get_or, if◌then◌else◌, inl, inr, is_some, refl, set, subst, sym, unwrap_or, Bool, ◌≢◌, zero, suc, ◌||◌, bit_or}
use Rattle.std.proofs.lemmas.Bool.{cases_Bool, false≢true, or_parts}
use Rattle.ep_base.specs.declared.object.End.{End}
use Rattle.ep_base.specs.declared.object.End.TheVariants.{First, Second}
use Rattle.ep_machine.specs.Deaths.{kept_object, die_all}
use Rattle.ep_machine.specs.Files.{Files, Place, is_live, object_at, object_of, place_of, raised_at}
use Rattle.ep_machine.specs.Lists.{are_distinct, is_among}
use Rattle.ep_machine.specs.Objects.{Object, close_end, plain, is_waiting}
use Rattle.ep_view.specs.AtRest.{can_be_watched, is_backed, kind_of}
use Rattle.ep_law.proofs.DeathLemmas.{ArePlaced, after_all, after_first, apart_from_rest, get_other, get_place, has_here, numbers, still_placed, raised_before, same_dead}
use Rattle.ep_law.proofs.NamedLivesLemmas.{get_none, if_twice, place_after, places_left}
use Rattle.ep_view.proofs.KindLemmas.{closed_kind}
use Rattle.ep_view.proofs.FilesLemmas.{some_set, watched_same, watched_set}
use Rattle.std.specs.Int.Bits.{or_zero_r}
use Rattle.std.specs.List.{list_any}
use Rattle.std.proofs.lemmas.Option.{none-some}
use Rattle.ep_facts.proofs.NatFacts.{from_test, same_nat, same_or_not, same_test, test_apart}
use Rattle.ep_facts.proofs.BoolFacts.{or_left, or_right, same_bools}
use Rattle.ep_base.specs.declared.object.Raised.{Raised}
use Rattle.ep_machine.specs.Bits.{at_end, when}
use Rattle.ep_machine.specs.Spread.{raised_of}
use Rattle.ep_facts.proofs.RaisedFacts.{raised_live, raised_parts}
use Rattle.ep_view.proofs.FreshLemmas.{deaths_raise}

-- What is left once the descriptions that nothing names are dead.

-- The files after some descriptions died.
pub record Buried (f g : Files) (xs : List (ℕ × Place)) : Type 0 where
  pub tables : g.tables ≡ f.tables
  pub places : (d : ℕ) → place_of g d ≡ (if is_among (numbers xs) d then None else place_of f d)
  pub placed : (d : ℕ) → is_backed g (place_of g d) ≡ true
  pub shows : (d : ℕ) → is_live g d ≡ true → can_be_watched (object_of f d) ≡ true → kind_of (object_of g d) ≡ kind_of (object_of f d)

close_watch : (o : Option Object) (e : End) → can_be_watched o ≡ true → kind_of (Some (close_end (unwrap_or o plain) e).0) ≡ kind_of o
close_watch None e h = absurd (false≢true h)
close_watch (Some x) e h = closed_kind x e

-- one death
module _ (f : Files) (x : ℕ × Place) (is : place_of f x.0 ≡ Some x.1) (backed : (d : ℕ) → is_backed f (place_of f d) ≡ true) where
  abbrev k : ℕ
  k = x.1.object

  abbrev gone : List (Option Place)
  gone = set f.descriptions x.0 None

  abbrev shut : Object
  shut = (close_end (unwrap_or (get_or f.objects k None) plain) x.1.side).0

  abbrev g : Files
  g = after_all f (x ∷ [])

  -- the object of what lives on
  object_after : (d : ℕ) (p : Place) → get_or gone d None ≡ Some p → (g.objects ≡ set f.objects k (Some shut)) ⊎ (get_or g.objects p.object None ≡ get_or f.objects p.object None)
  object_after d p here = elim (same_or_not p.object k) [
    | inl e ↦ inl (ap (λ (b : Bool). set f.objects k (if b || is_waiting shut then Some shut else None)) (has_here k 0 d gone p here e))
    | inr ne ↦ inr (get_other f.objects k p.object (kept_object (record f { descriptions = gone }) k shut) (λ e. ne (sym e)))
  ]

  backed_after : (d : ℕ) (o : Option Place) → get_or gone d None ≡ o → is_backed f o ≡ true → is_backed g o ≡ true
  backed_after d None here h = refl
  backed_after d (Some p) here h = elim (object_after d p here) [
    | inl e ↦ ap (λ (os : List (Option Object)). is_some (get_or os p.object None)) e ∙ some_set f.objects k p.object shut h
    | inr e ↦ ap is_some e ∙ h
  ]

  backed_before : (d : ℕ) → is_backed f (get_or gone d None) ≡ true
  backed_before d = elim (same_or_not d x.0) [
    | inl e ↦ subst (λ (m : ℕ). is_backed f (get_or gone m None) ≡ true) (sym e) (ap (is_backed f) (get_none f.descriptions x.0))
    | inr ne ↦ ap (is_backed f) (get_place f.descriptions x.0 d None (λ e. ne (sym e))) ∙ backed d
  ]

  shows_after : (d : ℕ) (o : Option Place) → get_or gone d None ≡ o → is_some o ≡ true → can_be_watched (object_at f o) ≡ true → kind_of (object_at g o) ≡ kind_of (object_at f o)
  shows_after d None here live h = absurd (false≢true live)
  shows_after d (Some p) here live h = elim (object_after d p here) [
    | inl e ↦ ap (λ (os : List (Option Object)). kind_of (get_or os p.object None)) e ∙ watched_set f.objects k p.object shut (close_watch (get_or f.objects k None) x.1.side) h
    | inr e ↦ ap kind_of e
  ]

  same_there : (d : ℕ) → is_live g d ≡ true → get_or gone d None ≡ place_of f d
  same_there d live = elim (same_or_not d x.0) [
    | inl e ↦ absurd (false≢true (sym (ap is_some (ap (λ (m : ℕ). get_or gone m None) e ∙ get_none f.descriptions x.0)) ∙ live))
    | inr ne ↦ get_place f.descriptions x.0 d None (λ e. ne (sym e))
  ]

  pub one_buried : Buried f g (x ∷ [])
  one_buried = record {
    tables = refl;
    places = place_after f x;
    placed = λ d. backed_after d (get_or gone d None) refl (backed_before d);
    shows = λ d live h. shows_after d (get_or gone d None) refl live (ap (λ (o : Option Place). can_be_watched (object_at f o)) (same_there d live) ∙ h) ∙ ap (λ (o : Option Place). kind_of (object_at f o)) (same_there d live);
  }

buried_none : (f : Files) → ((d : ℕ) → is_backed f (place_of f d) ≡ true) → Buried f f []
buried_none f backed = record { tables = refl; places = λ d. refl; placed = backed; shows = λ d live h. refl }

live_if : (b : Bool) (o : Option Place) → is_some (if b then None else o) ≡ true → is_some o ≡ true
live_if true o h = absurd (false≢true h)
live_if false o h = h

buried_more : (f g h : Files) (x : ℕ × Place) (xs : List (ℕ × Place)) → Buried f g (x ∷ []) → Buried g h xs → Buried f h (x ∷ xs)
buried_more f g h x xs one more = record {
  tables = more.tables ∙ one.tables;
  places = λ d.
      more.places d
      ∙ (ap (λ (o : Option Place). if is_among (numbers xs) d then None else o) (one.places d)
      ∙ if_twice (d == x.0) (is_among (numbers xs) d) (place_of f d));
  placed = more.placed;
  shows = λ d live there.
      let same = one.shows d (live_if (is_among (numbers xs) d) (place_of g d) (sym (ap is_some (more.places d)) ∙ live)) there in
      more.shows d live (watched_same _ _ same there) ∙ same;
}

pub all_buried : (f : Files) (xs : List (ℕ × Place)) → are_distinct (numbers xs) ≡ true → ArePlaced f xs → ((d : ℕ) → is_backed f (place_of f d) ≡ true) → Buried f (after_all f xs) xs
all_buried f [] d p backed = buried_none f backed
all_buried f (x ∷ xs) d p backed =
    let rest = apart_from_rest x xs d in
    let one = one_buried f x p.0 backed in
    let more = all_buried (after_all f (x ∷ [])) xs rest.1 (still_placed f x xs rest.0 p.1) one.placed in
    buried_more f (after_all f (x ∷ [])) (after_all f (x ∷ xs)) x xs one (subst (λ (h : Files). Buried (after_all f (x ∷ [])) h xs) (sym (after_first f x xs)) more)

-- What deaths raise at the descriptions that live on: the order of the deaths plays no part.

-- no two descriptions have the same end of an object
abbrev pub Apart : Files → Type 0
Apart f = (d e : ℕ) (p : Place) → place_of f d ≡ Some p → place_of f e ≡ Some p → d ≡ e

abbrev pub content_at : Files → ℕ → Object
content_at f k = unwrap_or (get_or f.objects k None) plain

abbrev pub across_from : End → End
across_from First = Second
across_from Second = First

other_end : (a b : End) → a ≢ b → b ≡ across_from a
other_end First First h = absurd (h refl)
other_end First Second h = refl
other_end Second First h = refl
other_end Second Second h = absurd (h refl)

-- a description of this object is among the dead
abbrev pub loses : ℕ → List (ℕ × Place) → Bool
loses k xs = list_any (λ x. x.1.object == k) xs

-- what the death across raises at a place
abbrev pub raised_across : Files → List (ℕ × Place) → Place → ℕ
raised_across f xs p = when (loses p.object xs) (at_end (close_end (content_at f p.object) (across_from p.side)).1 p.side)

some_place : (p q : Place) → Some p ≡ Some q → p ≡ q
some_place p q h = ap (λ (o : Option Place). unwrap_or o p) h

-- what lives on was not among the dead, and had its place
module _ (f : Files) (xs : List (ℕ × Place)) (apart : are_distinct (numbers xs) ≡ true) (placed : ArePlaced f xs) (d : ℕ) (p : Place) (here : place_of (after_all f xs) d ≡ Some p) where
  chosen : (if is_among (numbers xs) d then None else place_of f d) ≡ Some p
  chosen = sym (places_left f xs apart placed d) ∙ here

  pub lives_on : is_among (numbers xs) d ≡ false
  lives_on = elim (cases_Bool (is_among (numbers xs) d)) [
    | inl dies ↦ absurd (none-some p (ap (λ (b : Bool). if b then None else place_of f d) (sym dies) ∙ chosen))
    | inr stays ↦ stays
  ]

  pub lived : place_of f d ≡ Some p
  lived = ap (λ (b : Bool). if b then None else place_of f d) (sym lives_on) ∙ chosen

was_there : (ds : List (Option Place)) (k d : ℕ) (p : Place) → get_or (set ds k None) d None ≡ Some p → get_or ds d None ≡ Some p
was_there [] k d p h = h
was_there (q ∷ ds) zero zero p h = cc
was_there (q ∷ ds) zero (suc d) p h = h
was_there (q ∷ ds) (suc k) zero p h = h
was_there (q ∷ ds) (suc k) (suc d) p h = was_there ds k d p h

apart_left : (f : Files) (x : ℕ × Place) → Apart f → Apart (after_all f (x ∷ []))
apart_left f x h = λ d e p i j. h d e p (was_there f.descriptions x.0 d p i) (was_there f.descriptions x.0 e p j)

-- nobody else among the dead has an end of the same object
module _ (f : Files) (x : ℕ × Place) (d : ℕ) (p : Place) (is : place_of f x.0 ≡ Some x.1) (lives : place_of f d ≡ Some p) (h : Apart f) (same : p.object ≡ x.1.object) (ne : d ≢ x.0) where
  sides : p.side ≢ x.1.side
  sides e = ne (h d x.0 p lives (is ∙ ap (λ (q : Place). Some q) (λ i. record { object = sym same i; side = sym e i })))

  side_is : x.1.side ≡ across_from p.side
  side_is = other_end p.side x.1.side sides

  which_end : (a c : End) → c ≢ a → c ≡ across_from a
  which_end First First n = absurd (n refl)
  which_end First Second n = refl
  which_end Second First n = refl
  which_end Second Second n = absurd (n refl)

  end_or : (a b : End) → (a ≡ b) ⊎ (a ≢ b)
  end_or First First = inl refl
  end_or First Second = inr (λ e. cc)
  end_or Second First = inr (λ e. cc)
  end_or Second Second = inl refl

  nobody : (ys : List (ℕ × Place)) → ArePlaced f ys → is_among (numbers ys) x.0 ≡ false → is_among (numbers ys) d ≡ false → loses p.object ys ≡ false
  nobody [] placed not_x not_d = refl
  nobody (y ∷ ys) placed not_x not_d =
      let a = or_parts (x.0 == y.0) (is_among (numbers ys) x.0) not_x in
      let b = or_parts (d == y.0) (is_among (numbers ys) d) not_d in
      let rest = nobody ys placed.1 a.1 b.1 in
      elim (cases_Bool (y.1.object == p.object)) [
        | inr other ↦ λ i. other i || rest i
        | inl at ↦
            let k : y.1.object ≡ p.object = from_test y.1.object p.object at in
            elim (end_or y.1.side p.side) [
              | inl e ↦
                  let q : y.1 ≡ p = λ i. record { object = k i; side = e i } in
                  let one : y.0 ≡ d = h y.0 d p (placed.0 ∙ ap (λ (z : Place). Some z) q) lives in
                  absurd (false≢true (sym b.0 ∙ same_test d y.0 (sym one)))
              | inr e ↦
                  let s : y.1.side ≡ x.1.side = which_end p.side y.1.side e ∙ sym side_is in
                  let q : y.1 ≡ x.1 = λ i. record { object = (k ∙ same) i; side = s i } in
                  let one : y.0 ≡ x.0 = h y.0 x.0 x.1 (placed.0 ∙ ap (λ (z : Place). Some z) q) is in
                  absurd (false≢true (sym a.0 ∙ same_test x.0 y.0 (sym one)))
            ]
      ]

pub survivor_raised : (f : Files) (xs : List (ℕ × Place)) → are_distinct (numbers xs) ≡ true → ArePlaced f xs → Apart f → (d : ℕ) (p : Place) → place_of (after_all f xs) d ≡ Some p → raised_of (die_all (f, []) xs).1 d ≡ raised_across f xs p
survivor_raised f [] apart placed h d p here = refl
survivor_raised f (x ∷ xs) apart placed h d p here =
    let k = x.1.object in
    let g = after_all f (x ∷ []) in
    let rest : Files = record f { descriptions = set f.descriptions x.0 None } in
    let r = (close_end (content_at f k) x.1.side).1 in
    let more = raised_at rest k r in
    let left = apart_from_rest x xs apart in
    let later : place_of (after_all g xs) d ≡ Some p = ap (λ (u : Files). place_of u d) (sym (raised_before g more xs)) ∙ here in
    let placed_later = still_placed f x xs left.0 placed.1 in
    let there : place_of g d ≡ Some p = lived g xs left.1 placed_later d p later in
    let lives : place_of f d ≡ Some p = was_there f.descriptions x.0 d p there in
    let none = or_parts (d == x.0) (is_among (numbers xs) d) (lives_on f (x ∷ xs) apart placed d p here) in
    let ne : d ≢ x.0 = λ e. false≢true (sym none.0 ∙ same_test d x.0 e) in
    let one : raised_of more d ≡ when (p.object == k) (at_end r p.side) =
    raised_live (λ q. q.object == k) (λ q. at_end r q.side) rest d ∙ ap (raised_at_place k r) there in
    let others = survivor_raised g xs left.1 placed_later (apart_left f x h) d p later in
    let parts : raised_of (die_all (f, []) (x ∷ xs)).1 d ≡ bit_or (when (p.object == k) (at_end r p.side)) (raised_across g xs p) =
    ap (λ (rs : List (ℕ × ℕ)). raised_of rs d) (deaths_raise g more xs) ∙ (raised_parts more (die_all (g, []) xs).1 d ∙ (λ i. bit_or (one i) (others i))) in
    elim (same_or_not p.object k) [
      | inl same ↦
          let nobody_else : loses p.object xs ≡ false = nobody f x d p placed.0 lives h same ne xs placed.1 left.0 none.1 in
          let a : (p.object == k) ≡ true = same_test p.object k same in
          let b : (k == p.object) ≡ true = same_test k p.object (sym same) in
          let side : x.1.side ≡ across_from p.side = side_is f x d p placed.0 lives h same ne in
          parts
          ∙ ((λ i. bit_or (when (a i) (at_end r p.side)) (when (nobody_else i) (at_end (close_end (content_at g p.object) (across_from p.side)).1 p.side)))
          ∙ (or_zero_r (at_end r p.side)
          ∙ ((λ i. at_end (close_end (content_at f (sym same i)) (side i)).1 p.side)
          ∙ ap (λ (c : Bool). when (c || loses p.object xs) (at_end (close_end (content_at f p.object) (across_from p.side)).1 p.side)) (sym b))))
      | inr other ↦
          let a : (p.object == k) ≡ false = test_apart p.object k other in
          let b : (k == p.object) ≡ false = test_apart k p.object (λ e. other (sym e)) in
          let content : content_at g p.object ≡ content_at f p.object = ap (λ (o : Option Object). unwrap_or o plain) (get_other f.objects k p.object (kept_object rest k (close_end (content_at f k) x.1.side).0) (λ e. other (sym e))) in
          parts
          ∙ (ap (λ (c : Bool). bit_or (when c (at_end r p.side)) (raised_across g xs p)) a
          ∙ ((λ i. when (loses p.object xs) (at_end (close_end (content i) (across_from p.side)).1 p.side))
          ∙ ap (λ (c : Bool). when (c || loses p.object xs) (at_end (close_end (content_at f p.object) (across_from p.side)).1 p.side)) (sym b)))
    ] where
      raised_at_place : ℕ → Raised → Option Place → ℕ
      raised_at_place j w None = 0
      raised_at_place j w (Some q) = when (q.object == j) (at_end w q.side)

-- Two lists of the same dead lose the same objects.
record Loser (f : Files) (k : ℕ) (xs : List (ℕ × Place)) : Type 0 where
  pub number : ℕ
  pub place : Place
  pub among : is_among (numbers xs) number ≡ true
  pub placed : place_of f number ≡ Some place
  pub at : (place.object == k) ≡ true

loser_of : (f : Files) (k : ℕ) (xs : List (ℕ × Place)) → ArePlaced f xs → loses k xs ≡ true → Loser f k xs
loser_of f k [] placed h = absurd (false≢true h)
loser_of f k (x ∷ xs) placed h = elim (cases_Bool (x.1.object == k)) [
  | inl e ↦ record { number = x.0; place = x.1; among = or_left (x.0 == x.0) (is_among (numbers xs) x.0) (same_nat x.0); placed = placed.0; at = e }
  | inr e ↦
      let rest = loser_of f k xs placed.1 (ap (λ (b : Bool). b || loses k xs) (sym e) ∙ h) in
      record { number = rest.number; place = rest.place; among = or_right (rest.number == x.0) (is_among (numbers xs) rest.number) rest.among; placed = rest.placed; at = rest.at }
]

loses_by : (f : Files) (k n : ℕ) (q : Place) (ys : List (ℕ × Place)) → ArePlaced f ys → is_among (numbers ys) n ≡ true → place_of f n ≡ Some q → (q.object == k) ≡ true → loses k ys ≡ true
loses_by f k n q [] placed among is at = absurd (false≢true among)
loses_by f k n q (y ∷ ys) placed among is at = elim (cases_Bool (n == y.0)) [
  | inl e ↦
      let same : y.1 ≡ q = some_place y.1 q (sym placed.0 ∙ (ap (place_of f) (sym (from_test n y.0 e)) ∙ is)) in
      or_left (y.1.object == k) (loses k ys) (ap (λ (z : Place). z.object == k) same ∙ at)
  | inr e ↦ or_right (y.1.object == k) (loses k ys) (loses_by f k n q ys placed.1 (ap (λ (b : Bool). b || is_among (numbers ys) n) (sym e) ∙ among) is at)
]

module _ (f : Files) (xs ys : List (ℕ × Place)) (x_apart : are_distinct (numbers xs) ≡ true) (y_apart : are_distinct (numbers ys) ≡ true) (x_placed : ArePlaced f xs) (y_placed : ArePlaced f ys) (h : Apart f)
    (same : (d : ℕ) → is_among (numbers xs) d ≡ is_among (numbers ys) d) where
  same_loses : (k : ℕ) → loses k xs ≡ loses k ys
  same_loses k =
      same_bools (loses k xs) (loses k ys)
      (λ e. let l = loser_of f k xs x_placed e in loses_by f k l.number l.place ys y_placed (sym (same l.number) ∙ l.among) l.placed l.at)
      (λ e. let l = loser_of f k ys y_placed e in loses_by f k l.number l.place xs x_placed (same l.number ∙ l.among) l.placed l.at)

  -- what the same deaths raise at what lives on
  pub same_raised : (d : ℕ) (p : Place) → place_of (after_all f xs) d ≡ Some p → raised_of (die_all (f, []) xs).1 d ≡ raised_of (die_all (f, []) ys).1 d
  same_raised d p here =
      let there : place_of (after_all f ys) d ≡ Some p = ap (λ (u : Files). place_of u d) (sym (same_dead f xs ys x_apart y_apart x_placed y_placed same)) ∙ here in
      survivor_raised f xs x_apart x_placed h d p here
      ∙ (ap (λ (b : Bool). when b (at_end (close_end (content_at f p.object) (across_from p.side)).1 p.side)) (same_loses p.object)
      ∙ sym (survivor_raised f ys y_apart y_placed h d p there))
