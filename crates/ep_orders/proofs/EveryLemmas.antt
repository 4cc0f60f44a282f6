-- Every run is every order.
use Rattle.std.proofs.Common.{◌≡◌, ◌≢◌, ◌++◌, ◌∷◌, ◌<◌, ◌∙◌, [], AllPairs, Bool, Contains, List, None, Option, Some, ap, ap₂, arith, false, inl, inr, is_some, length, map, refl, subst, suc, sym, take, true, ℕ, ◌&&◌}
use Rattle.std.specs.List.{AllByRecursion, slice_get}
use Rattle.std.proofs.lemmas.List.{map-append, length-map}
use Rattle.std.proofs.lemmas.List.Elements.{All-from_recursion, Contains-append_right, recursion_from_All}
use Rattle.std.proofs.lemmas.List.Kept.{AllPairs-cons}
use Rattle.ep_facts.proofs.BoolFacts.{both_true}
use Rattle.ep_base.specs.Limits.{Limits}
use Rattle.ep_base.specs.declared.answer.Answer.{Answer}
use Rattle.ep_base.specs.declared.call.Event.{Event}
use Rattle.ep_base.specs.declared.ids.CallerId.{CallerId}
use Rattle.ep_base.specs.declared.record.Record.{Record}
use Rattle.ep_machine.specs.State.{State, opening}
use Rattle.ep_calls.specs.Driver.{TellsNext}
use Rattle.ep_paths.specs.Paths.{IsBefore, IsEveryRun, Taken, Follows}
use Rattle.ep_orders.specs.declared.explorer.Explorer.{Explorer}
use Rattle.ep_orders.specs.declared.scenario.Scenario.{Scenario}
use Rattle.ep_orders.specs.declared.turn.Rules.{Rules}
use Rattle.ep_orders.specs.declared.turn.Turn.{Turn}
use Rattle.ep_orders.specs.declared.turn.Turn.TheVariants.{Clock, Line}
use Rattle.ep_orders.specs.Explorer.{IsChosen, Told, begun, world_in}
use Rattle.ep_orders.specs.Orders.{AreTheOrders, Explores, HasEnded, IsOrder, Part, SetsUp, Takes, first_place}
use Rattle.ep_orders.specs.Place.{Goes, Leads, Move, Place, Steps, World, can_go, may_go, place_after, ways_at}
use Rattle.ep_orders.specs.Course.{Chooses, GoesBy}
use Rattle.ep_orders.proofs.ListLemmas.{apart_get, at_contained, contains_cases, contains_head, contains_nothing, get_filter}
use Rattle.ep_orders.proofs.ExplorerLemmas.{sets_up_each}
use Rattle.ep_orders.proofs.OrderLemmas.{take_all}
use Rattle.ep_orders.proofs.WaysLemmas.{one_moment, way_there, ways_apart}

-- the turns of a run, each with its record
abbrev pub moves : List (Taken Move) → List Move
moves ts = map (λ t. t.1) ts

-- ---- a step has one end

abbrev state_in : State → Option (Answer × State) → State
state_in s None = s
state_in s (Some x) = x.1

one_state : (limits : Limits) (s : State) (r : Record) (t u : State) → Steps limits s r t → Steps limits s r u → t ≡ u
one_state limits s r t u first second = ap (state_in t) (sym first ∙ second)

one_place : (w : World) (p : Place) (m : Move) (q r : Place) → Goes w p m q → Goes w p m r → q ≡ r
one_place w p m q r first second =
    first.after ∙ (ap (place_after w p m.0) (one_state w.limits p.state m.1 q.state r.state first.steps second.steps) ∙ sym second.after)

one_end : (w : World) (p : Place) (ms : List Move) (q r : Place) → Leads w p ms q → Leads w p ms r → q ≡ r
one_end w p [] q r first second = sym first ∙ second
one_end w p (m ∷ ms) q r first second =
    one_end w first.0 ms q r first.2 (subst (λ z. Leads w z ms r) (sym (one_place w p m first.0 second.0 first.1 second.1)) second.2)

pub one_start : (limits : Limits) (s : State) (es : List (CallerId × Event)) (rs : List Record) (t u : State) → SetsUp limits s es rs t → SetsUp limits s es rs u → t ≡ u
one_start limits s [] [] t u first second = sym first ∙ second
one_start limits s [] (r ∷ rs) t u first second = absurd first
one_start limits s (e ∷ es) [] t u first second = absurd first
one_start limits s (e ∷ es) (r ∷ rs) t u first second =
    let same = one_state limits s r first.2.0 second.2.0 first.2.1 second.2.1 in
    one_start limits first.2.0 es rs t u first.2.2 (subst (λ z. SetsUp limits z es rs u) (sym same) second.2.2)

-- ---- a run by choices is an order

goes_of : (w : World) (p : Place) (t : Taken Move) (q : Place) → GoesBy w p t.0 t.1 q → Goes w p t.1 q
goes_of w p t q g = record {
  moment = g.moment;
  tells = g.tells;
  may = get_filter (may_go w p g.moment) _ t.0.way t.1.0 g.way;
  asks = g.asks;
  steps = g.steps;
  after = g.after;
}

leads_of : (w : World) (p : Place) (ts : List (Taken Move)) (q : Place) → Chooses w p ts q → Leads w p (moves ts) q
leads_of w p [] q c = c
leads_of w p (t ∷ ts) q c = (c.0, goes_of w p t c.0 c.1, leads_of w c.0 ts q c.2)

pub order_of : (w : World) (start : State) (ts : List (Taken Move)) → IsChosen w start ts → IsOrder w (first_place w start) (moves ts)
order_of w start ts c = record { end = c.end; leads = leads_of w (first_place w start) ts c.end c.leads; ended = c.ended }

-- a run cut in two
pub record Halves (w : World) (p : Place) (front back : List (Taken Move)) (q : Place) : Type 0 where
  pub between : Place
  pub to : Chooses w p front between
  pub on : Chooses w between back q

halves : (w : World) (p : Place) (front back : List (Taken Move)) (q : Place) → Chooses w p (front ++ back) q → Halves w p front back q
halves w p [] back q c = record { between = p; to = refl; on = c }
halves w p (t ∷ front) back q c =
    let below = halves w c.0 front back q c.2 in
    record { between = below.between; to = (c.0, c.1, below.to); on = below.on }

same_between : (w : World) (p : Place) (front : List (Taken Move)) (q r : Place) → Chooses w p front q → Chooses w p front r → q ≡ r
same_between w p front q r first second = one_end w p (moves front) q r (leads_of w p front q first) (leads_of w p front r second)

-- ---- two runs part

way_in : (w : World) (p : Place) (t : Taken Move) (q : Place) (g : GoesBy w p t.0 t.1 q) (moment : Option ℕ) → TellsNext p.state moment → slice_get (ways_at w p moment) t.0.way ≡ Some t.1.0
way_in w p t q g moment tells = subst (λ o. slice_get (ways_at w p o) t.0.way ≡ Some t.1.0) (one_moment p.state g.moment moment g.tells tells) g.way

turns_differ : (w : World) (p : Place) (x y : Taken Move) (q r : Place) → GoesBy w p x.0 x.1 q → GoesBy w p y.0 y.1 r → x.0.way < y.0.way → x.1.0 ≢ y.1.0
turns_differ w p x y q r gx gy lt e =
    let at : slice_get (ways_at w p gx.moment) y.0.way ≡ Some x.1.0 = way_in w p y r gy gx.moment gx.tells ∙ ap (λ t. Some t) (sym e) in
    let same = apart_get (ways_at w p gx.moment) x.0.way y.0.way x.1.0 (ways_apart w p gx.moment) gx.way at in
    absurd (omega (arith, same, lt))

cut_moves : (front : List (Taken Move)) (t : Taken Move) (back xs : List (Taken Move)) → xs ≡ front ++ t ∷ back → moves xs ≡ moves front ++ t.1 ∷ moves back
cut_moves front t back xs e = ap moves e ∙ map-append (λ (t : Taken Move). t.1) front (t ∷ back)

part : (w : World) (start : State) (xs ys : List (Taken Move)) → IsChosen w start xs → IsChosen w start ys → IsBefore xs ys → Part (moves xs) (moves ys)
part w start xs ys cx cy b =
    let p = first_place w start in
    let hx = halves w (first_place w start) b.shared (b.x ∷ b.behind_x) cx.end (subst (λ (z : List (Taken Move)). Chooses w (first_place w start) z cx.end) b.xs_is cx.leads) in
    let hy = halves w (first_place w start) b.shared (b.y ∷ b.behind_y) cy.end (subst (λ (z : List (Taken Move)). Chooses w (first_place w start) z cy.end) b.ys_is cy.leads) in
    let same = same_between w (first_place w start) b.shared hx.between hy.between hx.to hy.to in
    record {
      shared = moves b.shared;
      x = b.x.1;
      y = b.y.1;
      behind_x = moves b.behind_x;
      behind_y = moves b.behind_y;
      xs_is = cut_moves b.shared b.x b.behind_x xs b.xs_is;
      ys_is = cut_moves b.shared b.y b.behind_y ys b.ys_is;
      differ = turns_differ w hx.between b.x b.y hx.on.0 hy.on.0 hx.on.1 (subst (λ z. GoesBy w z b.y.0 b.y.1 hy.on.0) (sym same) hy.on.1) b.later;
    }

all_part : (w : World) (start : State) (xs : List (Taken Move)) (made : List (List (Taken Move))) → IsChosen w start xs → AllByRecursion (IsChosen w start) made
    → AllByRecursion (IsBefore xs) made → AllByRecursion (Part (moves xs)) (map moves made)
all_part w start xs [] cx all before = tt
all_part w start xs (ys ∷ made) cx all before = (part w start xs ys cx all.0 before.0, all_part w start xs made cx all.1 before.1)

pub parted : (w : World) (start : State) (made : List (List (Taken Move))) → AllByRecursion (IsChosen w start) made → AllPairs IsBefore made → AllPairs Part (map moves made)
parted w start [] all pairs = λ i j d lt below. absurd (omega arith)
parted w start (xs ∷ made) all pairs =
    AllPairs-cons Part (moves xs) (map moves made)
    (All-from_recursion (Part (moves xs)) (map moves made) (all_part w start xs made all.0 all.1
    (recursion_from_All (IsBefore xs) made (λ k d lt. pairs 0 (suc k) d (omega arith) (omega (arith, lt))))))
    (parted w start made all.1 (λ i j d lt below. pairs (suc i) (suc j) d (omega (arith, lt)) (omega (arith, below))))

pub orders_of : (w : World) (start : State) (made : List (List (Taken Move))) → AllByRecursion (IsChosen w start) made → AllByRecursion (IsOrder w (first_place w start)) (map moves made)
orders_of w start [] all = tt
orders_of w start (xs ∷ made) all = (order_of w start xs all.0, orders_of w start made all.1)

some_is : {X : Type 0} {x y : X} → Some x ≡ Some y → x ≡ y
some_is e = cc

-- ---- wherever one comes, each turn that may be is taken

contains_map : {X Y : Type 0} (f : X → Y) (xs : List X) (x : X) → Contains xs x → Contains (map f xs) (f x)
contains_map f [] x h = absurd (contains_nothing x h)
contains_map {X} {Y} f (z ∷ zs) x h =
    elim (contains_cases z zs x h) [
      | inl e ↦ subst (λ (v : X). Contains (f z ∷ map f zs) (f v)) e (contains_head (f z) (map f zs))
      | inr more ↦ Contains-append_right (f z ∷ []) (map f zs) (f x) (contains_map f zs x more)
    ]

from_map : {X Y : Type 0} (f : X → Y) (xs : List X) (y : Y) → Contains (map f xs) y → (x : X) × Contains xs x × (f x ≡ y)
from_map f [] y h = absurd (contains_nothing y h)
from_map f (z ∷ zs) y h =
    elim (contains_cases (f z) (map f zs) y h) [
      | inl e ↦ (z, contains_head z zs, e)
      | inr more ↦ let below = from_map f zs y more in (below.0, Contains-append_right (z ∷ []) zs below.0 below.1, below.2)
    ]

chosen_at : (w : World) (start : State) (made : List (List (Taken Move))) (xs : List (Taken Move)) → AllByRecursion (IsChosen w start) made → Contains made xs → IsChosen w start xs
chosen_at w start [] xs all h = absurd (contains_nothing xs h)
chosen_at w start (ys ∷ made) xs all h =
    elim (contains_cases ys made xs h) [ inl e ↦ subst (IsChosen w start) e all.0 | inr more ↦ chosen_at w start made xs all.1 more ]

-- a list that a map gave, cut in two
pub record CutMap (xs : List (Taken Move)) (front back : List Move) : Type 0 where
  pub first : List (Taken Move)
  pub rest : List (Taken Move)
  pub is : xs ≡ first ++ rest
  pub first_is : moves first ≡ front
  pub rest_is : moves rest ≡ back

cut_map : (xs : List (Taken Move)) (front back : List Move) → moves xs ≡ front ++ back → CutMap xs front back
cut_map xs [] back e = record { first = []; rest = xs; is = refl; first_is = refl; rest_is = e }
cut_map [] (m ∷ front) back e = absurd (cc)
cut_map (x ∷ xs) (m ∷ front) back e =
    let below = cut_map xs front back (cc) in
    let same : x.1 ≡ m = cc in
    record {
      first = x ∷ below.first;
      rest = below.rest;
      is = ap (λ z. x ∷ z) below.is;
      first_is = ap₂ (λ a (z : List Move). a ∷ z) same below.first_is;
      rest_is = below.rest_is;
    }

nobody_goes : (w : World) (p : Place) (moment : Option ℕ) (turn : Turn) → HasEnded w p → TellsNext p.state moment → may_go w p moment turn ≡ true → ⊥
nobody_goes w p moment (Line n) ended tells may =
    let none : can_go w p n ≡ false = ap is_some (ended.callers n) in
    let some = (both_true (can_go w p n) _ may).0 in
    absurd (cc)
nobody_goes w p moment Clock ended tells may =
    let none : is_some moment ≡ false = ap is_some (one_moment p.state moment None tells ended.clock) in
    let some = (both_true (is_some moment) _ (both_true (is_some moment && _) _ may).0).0 in
    absurd (cc)

taken_by : (w : World) (start : State) (made : List (List (Taken Move))) → AllByRecursion (IsChosen w start) made → IsEveryRun made
    → (first rest : List (Taken Move)) (before : List Move) → moves first ≡ before → Contains made (first ++ rest) → IsChosen w start (first ++ rest)
    → (p : Place) → Leads w (first_place w start) before p → (moment : Option ℕ) → TellsNext p.state moment
    → (turn : Turn) → may_go w p moment turn ≡ true → Takes (map moves made) before turn
taken_by w start made all every first [] before front has chosen p leads moment tells turn may =
    let h = halves w (first_place w start) first [] chosen.end chosen.leads in
    let same : chosen.end ≡ p = sym h.on ∙ one_end w (first_place w start) before h.between p
    (subst (λ z. Leads w (first_place w start) z h.between) front (leads_of w (first_place w start) first h.between h.to)) leads in
    absurd (nobody_goes w p moment turn (subst (HasEnded w) same chosen.ended) tells may)
taken_by w start made all every first (t ∷ rest) before front has chosen p leads moment tells turn may =
    let h = halves w (first_place w start) first (t ∷ rest) chosen.end chosen.leads in
    let same : h.between ≡ p = one_end w (first_place w start) before h.between p
    (subst (λ z. Leads w (first_place w start) z h.between) front (leads_of w (first_place w start) first h.between h.to)) leads in
    let goes : GoesBy w p t.0 t.1 h.on.0 = subst (λ z. GoesBy w z t.0 t.1 h.on.0) same h.on.1 in
    let ways : t.0.ways ≡ length (ways_at w p moment) = goes.ways ∙ ap (λ o. length (ways_at w p o)) (one_moment p.state goes.moment moment goes.tells tells) in
    let at = at_contained (ways_at w p moment) turn (way_there w p moment turn may) in
    let other = every.all first t rest has at.place (omega (arith, at.within, ways)) in
    let its = chosen_at w start made (first ++ other.taken ∷ other.behind) all other.run in
    let k = halves w (first_place w start) first (other.taken ∷ other.behind) its.end its.leads in
    let there : k.between ≡ p = one_end w (first_place w start) before k.between p
    (subst (λ z. Leads w (first_place w start) z k.between) front (leads_of w (first_place w start) first k.between k.to)) leads in
    let gone : GoesBy w p other.taken.0 other.taken.1 k.on.0 = subst (λ z. GoesBy w z other.taken.0 other.taken.1 k.on.0) there k.on.1 in
    let way : slice_get (ways_at w p moment) at.place ≡ Some other.taken.1.0 =
    subst (λ n. slice_get (ways_at w p moment) n ≡ Some other.taken.1.0) other.way_is (way_in w p other.taken k.on.0 gone moment tells) in
    let is_turn : other.taken.1.0 ≡ turn = some_is (sym way ∙ at.is) in
    let run : moves (first ++ other.taken ∷ other.behind) ≡ before ++ (turn, other.taken.1.1) ∷ moves other.behind =
    cut_moves first other.taken other.behind (first ++ other.taken ∷ other.behind) refl
    ∙ ap₂ (λ (z : List Move) (u : Turn). z ++ (u, other.taken.1.1) ∷ moves other.behind) front is_turn in
    record {
      record_of = other.taken.1.1;
      behind = moves other.behind;
      is_there = subst (Contains (map moves made)) run (contains_map moves made (first ++ other.taken ∷ other.behind) other.run);
    }

are_all : (w : World) (start : State) (made : List (List (Taken Move))) → AllByRecursion (IsChosen w start) made → AllPairs IsBefore made → IsEveryRun made
    → AreTheOrders w (first_place w start) (map moves made)
are_all w start made all pairs every = record {
  some = (moves every.some.0, contains_map moves made every.some.0 every.some.1);
  are = All-from_recursion (IsOrder w (first_place w start)) (map moves made) (orders_of w start made all);
  once = parted w start made all pairs;
  all = λ before behind has p leads moment tells turn may.
      let m = from_map moves made (before ++ behind) has in
      let cut = cut_map m.0 before behind m.2 in
      taken_by w start made all every cut.first cut.rest before cut.first_is (subst (Contains made) cut.is m.1)
      (subst (IsChosen w start) cut.is (chosen_at w start made m.0 all m.1)) p leads moment tells turn may;
}

-- ---- one order after another

abbrev world_from : {M : Type 0} → (M → Limits) → M → Rules → Scenario → World
world_from limits m rules s = record { limits = limits m; rules = rules; lines = s.lines.items }

same_world : {M K V : Type 0} (past : K → List Record) (limits : M → Limits) (notes : V → List Move → V → Type 0) (e : Explorer M K V) (run : List (Taken Move)) (f : Explorer M K V)
    → Told past limits notes e run f → world_in limits f ≡ world_in limits e
same_world past limits notes e run f told =
    ap (λ m. world_from limits m f.rules f.scenario.now) told.maker
    ∙ (ap (λ r. world_from limits e.maker.now r f.scenario.now) told.rules ∙ ap (world_from limits e.maker.now e.rules) told.scenario)

pub record Kept {V : Type 0} (w : World) (start : State) (notes : V → List Move → V → Type 0) (made : List (List (Taken Move))) (before after : V) : Type 0 where
  pub noted : Follows notes before (map moves made) after
  pub chosen : AllByRecursion (IsChosen w start) made

follow : {M K V : Type 0} (past : K → List Record) (limits : M → Limits) (notes : V → List Move → V → Type 0) (w : World) (setup : List (CallerId × Event)) (records : List Record) (start : State)
    → (e : Explorer M K V) (made : List (List (Taken Move))) (f : Explorer M K V) → world_in limits e ≡ w → e.scenario.now.setup.items ≡ setup → take (length setup) (past e.kernel) ≡ records
    → SetsUp w.limits opening setup records start → Follows (Told past limits notes) e made f → Kept w start notes made e.visitor f.visitor
follow past limits notes w setup records start e [] f world same kept up follows = record { noted = ap (λ x. x.visitor) follows; chosen = tt }
follow past limits notes w setup records start e (x ∷ made) f world same kept up follows =
    let told = follows.1 in
    let g = follows.0 in
    let begins : take (length setup) (past g.kernel) ≡ records = subst (λ (es : List (CallerId × Event)). take (length es) (past g.kernel) ≡ take (length es) (past e.kernel)) same told.same ∙ kept in
    let sets : SetsUp w.limits opening setup records told.start =
    subst (λ (z : List Record). SetsUp w.limits opening setup z told.start) begins
    (subst (λ (es : List (CallerId × Event)). SetsUp w.limits opening es (take (length es) (past g.kernel)) told.start) same
    (subst (λ (v : World). SetsUp v.limits opening e.scenario.now.setup.items (take (begun e) (past g.kernel)) told.start) world told.sets_up)) in
    let at : told.start ≡ start = one_start w.limits opening setup records told.start start sets up in
    let more = follow past limits notes w setup records start g made f (same_world past limits notes e x g told ∙ world) (ap (λ s. s.setup.items) told.scenario ∙ same) begins up follows.2 in
    record {
      noted = (g.visitor, told.noted, more.noted);
      chosen = (subst (λ s. IsChosen w s x) at (subst (λ v. IsChosen v told.start x) world told.chosen), more.chosen);
    }

pub explores : {M K V : Type 0} (past : K → List Record) (limits : M → Limits) (notes : V → List Move → V → Type 0) (e f : Explorer M K V) (most : ℕ) (whole : Bool) (start : State)
    → SetsUp (limits e.maker.now) opening e.scenario.now.setup.items (past e.kernel) start
    → (made : List (List (Taken Move))) → Follows (Told past limits notes) e made f → AllPairs IsBefore made → (whole ≡ false → length made ≡ most) → (whole ≡ true → IsEveryRun made)
    → Explores (world_in limits e) e.scenario.now.setup.items most notes e.visitor f.visitor whole
explores past limits notes e f most whole start up made follows pairs few every =
    let w = world_in limits e in
    let setup = e.scenario.now.setup.items in
    let each = sets_up_each (limits e.maker.now) opening e.scenario.now.setup.items (past e.kernel) start up in
    let kept = follow past limits notes (world_in limits e) e.scenario.now.setup.items (past e.kernel) start e made f refl refl (take_all (past e.kernel) (length e.scenario.now.setup.items) (sym each)) up follows in
    record {
      records = past e.kernel;
      start = start;
      sets_up = up;
      found = map moves made;
      noted = kept.noted;
      are = All-from_recursion (IsOrder (world_in limits e) (first_place (world_in limits e) start)) (map moves made) (orders_of (world_in limits e) start made kept.chosen);
      once = parted (world_in limits e) start made kept.chosen pairs;
      few = λ h. length-map made moves ∙ few h;
      all = λ h. are_all (world_in limits e) start made kept.chosen pairs (every h);
    }
