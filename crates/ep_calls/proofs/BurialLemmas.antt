-- Descriptions die one by one, and the registrations that go with each.
use Rattle.std.proofs.Common.{nat_lt, ◌≡◌, ◌≢◌, ◌∙◌, ◌==◌, ◌&&◌, ◌||◌, ◌++◌, ℕ, zero, suc, All, Bool, true, false, IsSome, List, [], ◌∷◌, None, Option, Some, ap, append_assoc, arith, cond, filter, get_or, inl, inr, map, not, refl, set, slice_index_or, subst, sym, unwrap_or}
use Rattle.std.proofs.lemmas.Bool.{cases_Bool, false≢true}
use Rattle.std.proofs.lemmas.Bool.Decides.{nat_tests}
use Rattle.std.proofs.lemmas.List.{map-append}
use Rattle.std.proofs.lemmas.Option.{none-some}
use Rattle.std.proofs.lemmas.List.Elements.{All-cons, All-head, All-nil, All-tail}
use Rattle.std.proofs.Math.Bool.{and-false, or-false}
use Rattle.ep_facts.proofs.NatFacts.{same_nat as same}
use Rattle.ep_facts.proofs.BoolFacts.{or_assoc}
use Rattle.ep_base.specs.declared.ids.DescId.{DescId}
use Rattle.ep_base.specs.declared.mask.Mask.{Mask}
use Rattle.ep_base.specs.declared.object.End.{End}
use Rattle.ep_base.specs.declared.object.Raised.{Raised}
use Rattle.ep_machine.specs.Bits.{asked, at_end, when}
use Rattle.ep_machine.specs.Counts.{brings}
use Rattle.ep_machine.specs.Deaths.{die, die_all}
use Rattle.ep_machine.specs.Files.{Files, Place, object_at, place_of, raised_at}
use Rattle.ep_machine.specs.Lists.{is_among}
use Rattle.ep_machine.specs.Objects.{close_end, plain}
use Rattle.ep_view.specs.KernelView.{KernelWatch, freshened, stirred}
use Rattle.ep_machine.specs.Spread.{raised_of}
use Rattle.ep_facts.proofs.RaisedFacts.{raised_live, raised_place}
use Rattle.ep_view.proofs.FreshLemmas.{fresh_parts}
use Rattle.ep_law.proofs.DeathLemmas.{ArePlaced, after_all, after_first, get_place, numbers, raised_before}
use Rattle.ep_interest.specs.Registrations.{Registrations, is_apart_from, is_on}
use Rattle.ep_interest.specs.declared.entry.Entry.{Entry}
use Rattle.ep_calls.specs.Burial.{Buries, is_untouched}
use Rattle.ep_view.proofs.DeathLemmas.{Apart}
use Rattle.ep_calls.specs.Raising.{raised_there}
use Rattle.ep_calls.specs.Stands.{AreLinked, IsLinked, number_at, watch_at}
use Rattle.ep_view.proofs.ClimbLemmas.{zero_asked, zero_brings}
use Rattle.ep_calls.proofs.OtherEndLemmas.{a_place, elsewhere, link_noted, noted, watch_noted}
use Rattle.ep_calls.proofs.KeyLemmas.{same_keys, under_key}
use Rattle.ep_table.specs.Closing.{opposite}
use Rattle.ep_table.specs.Closing.{Takes}
use Rattle.ep_table.specs.Value.{Seen, Sound, number_under}
use Rattle.ep_table.specs.declared.words.Dead.{Dead}

-- Lists of the dead.
module _ (s : Files) where
  after_more : (xs : List (ℕ × Place)) (x : ℕ × Place) → after_all s (xs ++ x ∷ []) ≡ after_all (after_all s xs) (x ∷ [])
  after_more [] x = refl
  after_more (y ∷ ys) x =
      raised_before (die (s, []) y).0 (die (s, []) y).1 (ys ++ x ∷ [])
      ∙ (more (die (s, []) y).0 ys x
      ∙ ap (λ (f : Files). after_all f (x ∷ [])) (sym (raised_before (die (s, []) y).0 (die (s, []) y).1 ys))) where
        more : (f : Files) (zs : List (ℕ × Place)) (z : ℕ × Place) → after_all f (zs ++ z ∷ []) ≡ after_all (after_all f zs) (z ∷ [])
        more f [] z = refl
        more f (w ∷ ws) z =
            raised_before (die (f, []) w).0 (die (f, []) w).1 (ws ++ z ∷ [])
            ∙ (more (die (f, []) w).0 ws z
            ∙ ap (λ (g : Files). after_all g (z ∷ [])) (sym (raised_before (die (f, []) w).0 (die (f, []) w).1 ws)))

placed_more : (s : Files) (xs : List (ℕ × Place)) (x : ℕ × Place) → ArePlaced s xs → place_of s x.0 ≡ Some x.1 → ArePlaced s (xs ++ x ∷ [])
placed_more s [] x h is = (is, tt)
placed_more s (y ∷ ys) x h is = (h.0, placed_more s ys x h.1 is)

among_more : (xs : List (ℕ × Place)) (x : ℕ × Place) (d : ℕ) → is_among (numbers (xs ++ x ∷ [])) d ≡ (is_among (numbers xs) d || (d == x.0))
among_more [] x d = or-false (d == x.0)
among_more (y ∷ ys) x d = ap (λ (b : Bool). (d == y.0) || b) (among_more ys x d) ∙ or_assoc (d == y.0) (is_among (numbers ys) d) (d == x.0)

not_both : (a b c d : Bool) → (not (a || b) && not (c || d)) ≡ ((not a && not c) && (not b && not d))
not_both true b c d = refl
not_both false true true d = refl
not_both false true false d = refl
not_both false false true d = refl
not_both false false false d = refl

untouched_more : (xs : List (ℕ × Place)) (x : ℕ × Place) (w : KernelWatch) → is_untouched (numbers (xs ++ x ∷ [])) w ≡ (is_untouched (numbers xs) w && (not (w.instance == x.0) && not (w.target == x.0)))
untouched_more xs x w =
    (λ i. not (among_more xs x w.instance i) && not (among_more xs x w.target i))
    ∙ not_both (is_among (numbers xs) w.instance) (w.instance == x.0) (is_among (numbers xs) w.target) (w.target == x.0)

-- the registrations that one death leaves, of those that others left
abbrev leaves : ℕ → KernelWatch → Bool
leaves d w = not (w.instance == d) && not (w.target == d)

filter_more : (xs : List (ℕ × Place)) (x : ℕ × Place) (ws : List KernelWatch) → filter (is_untouched (numbers (xs ++ x ∷ []))) ws ≡ filter (leaves x.0) (filter (is_untouched (numbers xs)) ws)
filter_more xs x [] = refl
filter_more xs x (w ∷ ws) =
    let rest = filter_more xs x ws in
    ap (λ (b : Bool). cond b (w ∷ filter (is_untouched (numbers (xs ++ x ∷ []))) ws) (filter (is_untouched (numbers (xs ++ x ∷ []))) ws)) (untouched_more xs x w)
    ∙ ((λ i. cond (is_untouched (numbers xs) w && leaves x.0 w) (w ∷ rest i) (rest i)) ∙ split (is_untouched (numbers xs) w)) where
      split : (a : Bool) → cond (a && leaves x.0 w) (w ∷ filter (leaves x.0) (filter (is_untouched (numbers xs)) ws)) (filter (leaves x.0) (filter (is_untouched (numbers xs)) ws)) ≡ filter (leaves x.0) (cond a (w ∷ filter (is_untouched (numbers xs)) ws) (filter (is_untouched (numbers xs)) ws))
      split true = refl
      split false = refl

-- One death.
module _ (v w : Seen) (dead : Dead) (takes : Takes v w dead) (sound : Sound v) where
  key_lives : IsSome (number_under v dead.desc)
  key_lives = subst (λ (o : Option ℕ). IsSome o) (sym takes.key_is) refl

  number_is : number_at v.keys dead.desc ≡ takes.number
  number_is = ap (λ (o : Option ℕ). unwrap_or o 0) takes.key_is

  get_other : (xs : List (Option ℕ)) (k j : ℕ) → (j == k) ≡ false → get_or (set xs k None) j None ≡ get_or xs j None
  get_other [] k j h = refl
  get_other (x ∷ xs) zero zero h = absurd (false≢true (sym h ∙ same 0))
  get_other (x ∷ xs) zero (suc j) h = refl
  get_other (x ∷ xs) (suc k) zero h = refl
  get_other (x ∷ xs) (suc k) (suc j) h = get_other xs k j (down j k h) where
    down : (a b : ℕ) → (suc a == suc b) ≡ false → (a == b) ≡ false
    down a b e = grind (arith, nat_tests, e)

  -- a key but the dead one keeps its number
  same_number : (key : DescId) → (key.0 == dead.desc.0) ≡ false → slice_index_or w.keys key.0 None ≡ slice_index_or v.keys key.0 None
  same_number key h = ap (λ (ks : List (Option ℕ)). get_or ks key.0 None) takes.keys ∙ get_other v.keys dead.desc.0 key.0 h

  module _ (x : Entry) (link : IsLinked v.keys x) where
    of_instance : (number_at v.keys x.instance == takes.number) ≡ (x.instance.0 == dead.desc.0)
    of_instance = ap (λ (n : ℕ). number_at v.keys x.instance == n) (sym number_is) ∙ same_keys v x.instance dead.desc sound link.instance key_lives

    on_target : (number_at v.keys x.desc == takes.number) ≡ (x.desc.0 == dead.desc.0)
    on_target = ap (λ (n : ℕ). number_at v.keys x.desc == n) (sym number_is) ∙ same_keys v x.desc dead.desc sound link.desc key_lives

    -- it goes with the dead one for the machine as for the interest sets
    pub stays : leaves takes.number (watch_at v.keys x) ≡ is_apart_from dead.desc x
    stays = λ i. not (of_instance i) && not (on_target i)

    both : (a b : Bool) → (not a && not b) ≡ true → (a ≡ false) × (b ≡ false)
    both true b h = absurd (false≢true h)
    both false true h = absurd (false≢true h)
    both false false h = (refl, refl)

    module _ (apart : is_apart_from dead.desc x ≡ true) where
      two : ((x.instance.0 == dead.desc.0) ≡ false) × ((x.desc.0 == dead.desc.0) ≡ false)
      two = both (x.instance.0 == dead.desc.0) (x.desc.0 == dead.desc.0) apart

      pub same_watch : watch_at w.keys x ≡ watch_at v.keys x
      same_watch =
          let a = ap (λ (o : Option ℕ). unwrap_or o 0) (same_number x.instance two.0) in
          let b = ap (λ (o : Option ℕ). unwrap_or o 0) (same_number x.desc two.1) in
          λ i. record (watch_at v.keys x) { instance = a i; target = b i }

      pub still_linked : IsLinked w.keys x
      still_linked = record {
        instance = subst (λ (o : Option ℕ). IsSome o) (sym (same_number x.instance two.0)) link.instance;
        desc = subst (λ (o : Option ℕ). IsSome o) (sym (same_number x.desc two.1)) link.desc;
        fd = link.fd;
      }

  pub watches_left : (xs : List Entry) → All (IsLinked v.keys) xs → map (watch_at w.keys) (filter (is_apart_from dead.desc) xs) ≡ filter (leaves takes.number) (map (watch_at v.keys) xs)
  watches_left [] h = refl
  watches_left (x ∷ xs) h =
      let link = All-head (IsLinked v.keys) x xs h in
      let rest = watches_left xs (All-tail (IsLinked v.keys) x xs h) in
      let there = ap (λ (b : Bool). cond b (watch_at v.keys x ∷ filter (leaves takes.number) (map (watch_at v.keys) xs)) (filter (leaves takes.number) (map (watch_at v.keys) xs))) (stays x link) in
      elim (cases_Bool (is_apart_from dead.desc x)) [
        | inl apart ↦
            ap (λ (b : Bool). map (watch_at w.keys) (cond b (x ∷ filter (is_apart_from dead.desc) xs) (filter (is_apart_from dead.desc) xs))) apart
            ∙ ((λ i. same_watch x link apart i ∷ rest i)
            ∙ sym (there ∙ ap (λ (b : Bool). cond b (watch_at v.keys x ∷ filter (leaves takes.number) (map (watch_at v.keys) xs)) (filter (leaves takes.number) (map (watch_at v.keys) xs))) apart))
        | inr gone ↦
            ap (λ (b : Bool). map (watch_at w.keys) (cond b (x ∷ filter (is_apart_from dead.desc) xs) (filter (is_apart_from dead.desc) xs))) gone
            ∙ (rest
            ∙ sym (there ∙ ap (λ (b : Bool). cond b (watch_at v.keys x ∷ filter (leaves takes.number) (map (watch_at v.keys) xs)) (filter (leaves takes.number) (map (watch_at v.keys) xs))) gone))
      ]

  pub linked_left : (xs : List Entry) → All (IsLinked v.keys) xs → All (IsLinked w.keys) (filter (is_apart_from dead.desc) xs)
  linked_left [] h = All-nil (IsLinked w.keys)
  linked_left (x ∷ xs) h =
      let link = All-head (IsLinked v.keys) x xs h in
      let rest = linked_left xs (All-tail (IsLinked v.keys) x xs h) in
      elim (cases_Bool (is_apart_from dead.desc x)) [
        | inl apart ↦ subst (λ (b : Bool). All (IsLinked w.keys) (cond b (x ∷ filter (is_apart_from dead.desc) xs) (filter (is_apart_from dead.desc) xs))) (sym apart) (All-cons (IsLinked w.keys) x (filter (is_apart_from dead.desc) xs) (still_linked x link apart) rest)
        | inr gone ↦ subst (λ (b : Bool). All (IsLinked w.keys) (cond b (x ∷ filter (is_apart_from dead.desc) xs) (filter (is_apart_from dead.desc) xs))) (sym gone) rest
      ]

fresh_none : (n : ℕ) (ws : List KernelWatch) → map (freshened n []) ws ≡ ws
fresh_none n [] = refl
fresh_none n (w ∷ ws) = λ i. stirred n (zero_brings w.mask i) ((ap (λ (b : Bool). w.armed && b) (zero_asked w.mask) ∙ and-false w.armed) i) w ∷ fresh_none n ws i

-- what goes has nothing to do with what is noted
fresh_leaves : (n d : ℕ) (rs : List (ℕ × ℕ)) (ws : List KernelWatch) → filter (leaves d) (map (freshened n rs) ws) ≡ map (freshened n rs) (filter (leaves d) ws)
fresh_leaves n d rs [] = refl
fresh_leaves n d rs (w ∷ ws) =
    let rest = fresh_leaves n d rs ws in
    elim (leaves d w) as (λ b. cond b (freshened n rs w ∷ filter (leaves d) (map (freshened n rs) ws)) (filter (leaves d) (map (freshened n rs) ws)) ≡ map (freshened n rs) (cond b (w ∷ filter (leaves d) ws) (filter (leaves d) ws))) [
      | true ↦ ap (λ (us : List KernelWatch). freshened n rs w ∷ us) rest
      | false ↦ rest
    ]

-- what one death more raises
raised_more : (f : Files) (rs : List (ℕ × ℕ)) (xs : List (ℕ × Place)) (x : ℕ × Place) → (die_all (f, rs) (xs ++ x ∷ [])).1 ≡ (die_all (f, rs) xs).1 ++ (die ((die_all (f, rs) xs).0, []) x).1
raised_more f rs [] x = refl
raised_more f rs (y ∷ ys) x = raised_more (die (f, rs) y).0 (die (f, rs) y).1 ys x

-- what is there after some deaths was there before
get_before : (ds : List (Option Place)) (k d : ℕ) (p : Place) → get_or (set ds k None) d None ≡ Some p → get_or ds d None ≡ Some p
get_before [] k d p h = h
get_before (q ∷ ds) zero zero p h = absurd (none-some p h)
get_before (q ∷ ds) zero (suc d) p h = h
get_before (q ∷ ds) (suc k) zero p h = h
get_before (q ∷ ds) (suc k) (suc d) p h = get_before ds k d p h

pub placed_before : (s : Files) (xs : List (ℕ × Place)) (d : ℕ) (p : Place) → place_of (after_all s xs) d ≡ Some p → place_of s d ≡ Some p
placed_before s [] d p h = h
placed_before s (x ∷ xs) d p h = get_before s.descriptions x.0 d p (placed_before (after_all s (x ∷ [])) xs d p (ap (λ (f : Files). place_of f d) (sym (after_first s x xs)) ∙ h))

-- What one death raises, at each registration that it leaves.
module _ (v w : Seen) (dead : Dead) (takes : Takes v w dead) (sound : Sound v) (n : ℕ) (m : Mask) (m_is : m.0 ≡ at_end dead.raised (opposite dead.end)) where
  abbrev x0 : ℕ × Place
  x0 = (takes.number, takes.place)

  abbrev k : ℕ
  k = takes.place.object

  abbrev closed : Raised
  closed = (close_end (unwrap_or (slice_index_or v.files.objects k None) plain) takes.place.side).1

  closed_is : dead.raised ≡ closed
  closed_is = takes.raised_is ∙ ap (λ (o : Option Place). (close_end (unwrap_or (object_at v.files o) plain) takes.place.side).1) takes.place_is

  abbrev rest : Files
  rest = record v.files { descriptions = set v.files.descriptions takes.number None }

  key_before : (j : DescId) (d : ℕ) → slice_index_or w.keys j.0 None ≡ Some d → slice_index_or v.keys j.0 None ≡ Some d
  key_before j d h = keys_before v.keys dead.desc.0 j.0 d (ap (λ (ks : List (Option ℕ)). get_or ks j.0 None) (sym takes.keys) ∙ h) where
    keys_before : (ks : List (Option ℕ)) (i n d : ℕ) → get_or (set ks i None) n None ≡ Some d → get_or ks n None ≡ Some d
    keys_before [] i n d h = h
    keys_before (q ∷ ks) zero zero d h = absurd (none-some d h)
    keys_before (q ∷ ks) zero (suc n) d h = h
    keys_before (q ∷ ks) (suc i) zero d h = h
    keys_before (q ∷ ks) (suc i) (suc n) d h = keys_before ks i n d h

  one_key : (a b : DescId) (d : ℕ) → slice_index_or w.keys a.0 None ≡ Some d → slice_index_or w.keys b.0 None ≡ Some d → a.0 ≡ b.0
  one_key a b d h i = sound.one a b d (key_before a d h) (key_before b d i)

  place_before : (d : ℕ) (p : Place) → place_of w.files d ≡ Some p → place_of v.files d ≡ Some p
  place_before d p h = get_before v.files.descriptions takes.number d p (ap (λ (f : Files). place_of f d) (sym takes.files) ∙ h)

  apart_now : Apart w.files
  apart_now = λ d e p i j. sound.apart d e p (place_before d p i) (place_before e p j)

  -- the dead key is no key any more
  gone_key : (d : ℕ) → slice_index_or w.keys dead.desc.0 None ≡ Some d → ⊥
  gone_key d h = none-some d (sym (gone v.keys dead.desc.0) ∙ (ap (λ (ks : List (Option ℕ)). get_or ks dead.desc.0 None) (sym takes.keys) ∙ h)) where
    gone : (ks : List (Option ℕ)) (i : ℕ) → get_or (set ks i None) i None ≡ None
    gone [] i = refl
    gone (q ∷ ks) zero = refl
    gone (q ∷ ks) (suc i) = gone ks i

  other_number : (y : DescId) (d : ℕ) → slice_index_or w.keys y.0 None ≡ Some d → takes.number ≢ d
  other_number y d h e =
      let same : y.0 ≡ dead.desc.0 = sound.one y dead.desc d (key_before y d h) (takes.key_is ∙ ap (λ (n : ℕ). Some n) e) in
      gone_key d (ap (λ (n : ℕ). slice_index_or w.keys n None) (sym same) ∙ h)

  raised_one : (x : Entry) → IsLinked w.keys x → watch_at w.keys (raised_there dead.other m n x) ≡ freshened n (die (v.files, []) x0).1 (watch_at w.keys x)
  raised_one x link =
      let u = under_key w.keys x.desc link.desc in
      let t = number_at w.keys x.desc in
      let t_is : t ≡ u.number = ap (λ (o : Option ℕ). unwrap_or o 0) u.is in
      let ne = other_number x.desc u.number u.is in
      let q = a_place (place_of v.files u.number) (sound.place x.desc u.number (key_before x.desc u.number u.is)) in
      let left : place_of rest u.number ≡ Some q.0 = get_place v.files.descriptions takes.number u.number None ne ∙ q.1 in
      let there : place_of w.files t ≡ Some q.0 = ap (place_of w.files) t_is ∙ (ap (λ (f : Files). place_of f u.number) takes.files ∙ left) in
      let not_same : q.0 ≢ takes.place = λ e. ne (sound.apart takes.number u.number takes.place takes.place_is (q.1 ∙ ap (λ (z : Place). Some z) e)) in
      let m_there : m.0 ≡ at_end dead.raised (opposite takes.place.side) = m_is ∙ ap (λ (e : End). at_end dead.raised (opposite e)) takes.end_is in
      let bits : raised_of (die (v.files, []) x0).1 t ≡ when (q.0.object == k) (at_end dead.raised q.0.side) =
      ap (raised_of (raised_at rest k closed)) t_is
      ∙ (raised_live (λ z. z.object == k) (λ z. at_end closed z.side) rest u.number
      ∙ (ap (raised_place (λ z. z.object == k) (λ z. at_end closed z.side)) left ∙ ap (λ (r : Raised). when (q.0.object == k) (at_end r q.0.side)) (sym closed_is))) in
      ap (watch_at w.keys) (elsewhere w.keys w.files takes.place dead.raised dead.other takes.other one_key apart_now n m m_there x link q.0 there not_same)
      ∙ (watch_noted w.keys n (when (q.0.object == k) (at_end dead.raised q.0.side)) x
      ∙ ap (λ (b : ℕ). stirred n (brings x.mask.0 b) (x.armed && nat_lt 0 (asked x.mask.0 b)) (watch_at w.keys x)) (sym bits))

  raised_all : (xs : List Entry) → All (IsLinked w.keys) xs → map (watch_at w.keys) (map (raised_there dead.other m n) xs) ≡ map (freshened n (die (v.files, []) x0).1) (map (watch_at w.keys) xs)
  raised_all [] h = refl
  raised_all (x ∷ xs) h =
      let one = raised_one x (All-head (IsLinked w.keys) x xs h) in
      let others = raised_all xs (All-tail (IsLinked w.keys) x xs h) in λ i. one i ∷ others i

link_there : (keys : List (Option ℕ)) (o : Option DescId) (m : Mask) (n : ℕ) (x : Entry) → IsLinked keys x → IsLinked keys (raised_there o m n x)
link_there keys None m n x h = h
link_there keys (Some d) m n x h = elim (is_on d x) as (λ b. IsLinked keys (cond b (noted n m.0 x) x)) [ true ↦ link_noted keys n m.0 x h | false ↦ h ]

linked_there : (keys : List (Option ℕ)) (o : Option DescId) (m : Mask) (n : ℕ) (xs : List Entry) → All (IsLinked keys) xs → All (IsLinked keys) (map (raised_there o m n) xs)
linked_there keys o m n [] h = h
linked_there keys o m n (x ∷ xs) h =
    All-cons (IsLinked keys) (raised_there o m n x) (map (raised_there o m n) xs) (link_there keys o m n x (All-head (IsLinked keys) x xs h)) (linked_there keys o m n xs (All-tail (IsLinked keys) x xs h))

pub buries_none : (n : ℕ) (v : Seen) (r : Registrations) → AreLinked v r → Buries n v r v r
buries_none n v r linked = record {
  dead = [];
  numbers = refl;
  placed = tt;
  files = refl;
  limits = refl;
  holds = refl;
  keys = λ key d h. h;
  watches = sym (fresh_none n (filter (is_untouched []) (map (watch_at v.keys) r.entries)) ∙ all_stay (map (watch_at v.keys) r.entries));
  linked = linked;
  added = refl;
} where
  all_stay : (ws : List KernelWatch) → filter (is_untouched []) ws ≡ ws
  all_stay [] = refl
  all_stay (w ∷ ws) = ap (λ (us : List KernelWatch). w ∷ us) (all_stay ws)

-- one death more
module _ (n : ℕ) (v0 v w : Seen) (r0 r q : Registrations) (dead : Dead) (before : Buries n v0 r0 v r) (takes : Takes v w dead) (sound : Sound v)
    (m : Mask) (m_is : m.0 ≡ at_end dead.raised (opposite dead.end)) (entries : q.entries ≡ map (raised_there dead.other m n) (filter (is_apart_from dead.desc) r.entries)) (added : q.added ≡ r.added)
    (placed : place_of v0.files takes.number ≡ Some takes.place) where
  abbrev one : ℕ × Place
  one = (takes.number, takes.place)

  files_next : w.files ≡ after_all v0.files (before.dead ++ one ∷ [])
  files_next = takes.files ∙ (ap (λ (f : Files). after_all f (one ∷ [])) before.files ∙ sym (after_more v0.files before.dead one))

  pub buries_more : Buries n v0 r0 w q
  buries_more = record {
    dead = before.dead ++ one ∷ [];
    numbers =
        ap (λ (ks : List ℕ). ks ++ w.dying) (map-append (λ (x : ℕ × Place). x.0) before.dead (one ∷ []))
        ∙ (append_assoc (numbers before.dead) (takes.number ∷ []) w.dying
        ∙ (ap (λ (ks : List ℕ). numbers before.dead ++ ks) (sym takes.dying) ∙ before.numbers));
    placed = placed_more v0.files before.dead one before.placed placed;
    files = files_next;
    limits = takes.limits ∙ before.limits;
    holds = takes.holds ∙ before.holds;
    keys = λ key d h. before.keys key d (key_before v w dead takes sound n m m_is key d h);
    watches =
        let first = (die_all (v0.files, []) before.dead).1 in
        let more = (die (v.files, []) one).1 in
        let left = linked_left v w dead takes sound r.entries before.linked in
        let all : first ++ more ≡ (die_all (v0.files, []) (before.dead ++ one ∷ [])).1 =
        sym (raised_more v0.files [] before.dead one ∙ ap (λ (f : Files). first ++ (die (f, []) one).1) (sym before.files)) in
        ap (λ (xs : List Entry). map (watch_at w.keys) xs) entries
        ∙ (raised_all v w dead takes sound n m m_is (filter (is_apart_from dead.desc) r.entries) left
        ∙ (ap (map (freshened n more)) (watches_left v w dead takes sound r.entries before.linked)
        ∙ (ap (λ (ws : List KernelWatch). map (freshened n more) (filter (leaves takes.number) ws)) before.watches
        ∙ (ap (map (freshened n more)) (fresh_leaves n takes.number first (filter (is_untouched (numbers before.dead)) (map (watch_at v0.keys) r0.entries)))
        ∙ (sym (fresh_parts n first more (filter (leaves takes.number) (filter (is_untouched (numbers before.dead)) (map (watch_at v0.keys) r0.entries))))
        ∙ ((λ i. map (freshened n (all i)) (filter (leaves takes.number) (filter (is_untouched (numbers before.dead)) (map (watch_at v0.keys) r0.entries))))
        ∙ ap (map (freshened n (die_all (v0.files, []) (before.dead ++ one ∷ [])).1)) (sym (filter_more before.dead one (map (watch_at v0.keys) r0.entries)))))))));
    linked = subst (λ (xs : List Entry). All (IsLinked w.keys) xs) (sym entries) (linked_there w.keys dead.other m n (filter (is_apart_from dead.desc) r.entries) (linked_left v w dead takes sound r.entries before.linked));
    added = added ∙ before.added;
  }
