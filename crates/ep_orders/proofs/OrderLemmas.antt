-- A whole order, by a path.
use Rattle.std.proofs.Common.{◌≡◌, ◌++◌, ◌∷◌, ◌+◌, ◌<◌, ◌≤◌, ◌∙◌, ◌⊎◌, [], List, Some, ap, ap₂, arith, inl, inr, length, refl, subst, suc, sym, take, zero, zip, ℕ}
use Rattle.std.specs.List.{AllByRecursion, slice_get}
use Rattle.std.proofs.lemmas.List.{append-nil, append_assoc, length-append}
use Rattle.ep_base.specs.Limits.{Limits}
use Rattle.ep_base.specs.declared.call.Event.{Event}
use Rattle.ep_base.specs.declared.ids.CallerId.{CallerId}
use Rattle.ep_base.specs.declared.record.Record.{Record}
use Rattle.ep_machine.specs.State.{State, opening}
use Rattle.ep_paths.specs.declared.choice.Choice.{Choice}
use Rattle.ep_paths.specs.Paths.{IsFirst, Taken}
use Rattle.ep_orders.specs.declared.scenario.Line.{Line}
use Rattle.ep_orders.specs.declared.turn.Rules.{Rules}
use Rattle.ep_orders.specs.declared.turn.Turn.{Turn}
use Rattle.ep_orders.specs.Orders.{HasEnded, SetsUp, first_place}
use Rattle.ep_orders.specs.Place.{Move, Place, World}
use Rattle.ep_orders.specs.Course.{Chooses, GoesBy, GoesOn, PathGrows, Walked}

-- so many turns of an order
pub record Sofar (w : World) (setup : List (CallerId × Event)) (path grown : List Choice) (turns : List Turn) (past : List Record) (place : ℕ) (at : Place) : Type 0 where
  pub before : List Record
  pub records : List Record
  pub start : State
  pub more : List Choice
  pub sets_up : SetsUp w.limits opening setup before start
  pub leads : Chooses w (first_place w start) (zip (take place grown) (zip turns records)) at
  pub past_is : past ≡ before ++ records
  pub grown_is : grown ≡ path ++ more
  pub first : AllByRecursion IsFirst more
  pub end : (more ≡ []) ⊎ (place ≡ length grown)
  pub within : place ≤ length grown
  pub turns_each : length turns ≡ place
  pub records_each : length records ≡ place

abbrev pub with_limits : Rules → List Line → Limits → World
with_limits rules lines limits = record { limits = limits; rules = rules; lines = lines }

-- ---- one turn more

chooses_last : (w : World) (p : Place) (ts : List (Taken Move)) (q : Place) (c : Choice) (m : Move) (r : Place)
    → Chooses w p ts q → GoesBy w q c m r → Chooses w p (ts ++ (c, m) ∷ []) r
chooses_last w p [] q c m r chooses goes = (r, subst (λ z. GoesBy w z c m r) (sym chooses) goes, refl)
chooses_last w p (t ∷ ts) q c m r chooses goes = (chooses.0, chooses.1, chooses_last w chooses.0 ts q c m r chooses.2 goes)

zip_last : {A B : Type 0} (ls : List A) (bs : List B) (a : A) (b : B) → length ls ≡ length bs → zip (ls ++ a ∷ []) (bs ++ b ∷ []) ≡ zip ls bs ++ (a, b) ∷ []
zip_last [] [] a b e = refl
zip_last [] (y ∷ bs) a b e = absurd (omega arith)
zip_last (x ∷ ls) [] a b e = absurd (omega arith)
zip_last (x ∷ ls) (y ∷ bs) a b e = ap (λ z. (x, y) ∷ z) (zip_last ls bs a b (omega arith))

pub zip_each : {A B : Type 0} (ls : List A) (bs : List B) → length ls ≡ length bs → length (zip ls bs) ≡ length ls
zip_each [] bs e = refl
zip_each (x ∷ ls) [] e = absurd (omega arith)
zip_each (x ∷ ls) (y ∷ bs) e = ap (λ n. suc n) (zip_each ls bs (omega arith))

get_take : {X : Type 0} (xs : List X) (n : ℕ) (x : X) → slice_get xs n ≡ Some x → take (n + 1) xs ≡ take n xs ++ x ∷ []
get_take [] n x e = absurd (cc)
get_take (y ∷ ys) zero x e = let same : y ≡ x = cc in ap (λ z. z ∷ []) same
get_take {X} (y ∷ ys) (suc n) x e =
    let one : suc n + 1 ≡ suc (n + 1) = omega arith in
    ap (λ k. take k (y ∷ ys)) one ∙ ap (λ (z : List X). y ∷ z) (get_take ys n x e)

get_lt : {X : Type 0} (xs : List X) (n : ℕ) (x : X) → slice_get xs n ≡ Some x → n < length xs
get_lt [] n x e = absurd (cc)
get_lt (y ∷ ys) zero x e = omega arith
get_lt (y ∷ ys) (suc n) x e = omega (arith, get_lt ys n x e)

pub take_all : {X : Type 0} (xs : List X) (n : ℕ) → n ≡ length xs → take n xs ≡ xs
take_all [] n e = ap (λ k. take k []) e
take_all (x ∷ xs) zero e = absurd (omega arith)
take_all (x ∷ xs) (suc n) e = ap (λ z. x ∷ z) (take_all xs n (omega arith))

take_length : {X : Type 0} (xs : List X) (n : ℕ) → n ≤ length xs → length (take n xs) ≡ n
take_length [] zero le = refl
take_length [] (suc n) le = absurd (omega arith)
take_length (x ∷ xs) zero le = refl
take_length (x ∷ xs) (suc n) le = ap (λ k. suc k) (take_length xs n (omega arith))

all_last : {X : Type 0} (P : X → Type 0) (xs : List X) (x : X) → AllByRecursion P xs → P x → AllByRecursion P (xs ++ x ∷ [])
all_last P [] x all here = (here, tt)
all_last P (y ∷ ys) x all here = (all.0, all_last P ys x all.1 here)

leads_on : (w : World) (start : Place) (front grown : List Choice) (n : ℕ) (turns : List Turn) (records : List Record) (p q : Place) (c : Choice) (t : Turn) (r : Record)
    → length turns ≡ length (take n front) → length records ≡ length turns → take (n + 1) grown ≡ take n front ++ c ∷ []
    → Chooses w start (zip (take n front) (zip turns records)) p → GoesBy w p c (t, r) q
    → Chooses w start (zip (take (n + 1) grown) (zip (turns ++ t ∷ []) (records ++ r ∷ []))) q
leads_on w start front grown n turns records p q c t r turns_each records_each taken leads goes =
    let inner : zip (turns ++ t ∷ []) (records ++ r ∷ []) ≡ zip turns records ++ (t, r) ∷ [] = zip_last turns records t r (sym records_each) in
    let outer : zip (take n front ++ c ∷ []) (zip turns records ++ (t, r) ∷ []) ≡ zip (take n front) (zip turns records) ++ (c, (t, r)) ∷ [] =
    zip_last (take n front) (zip turns records) c (t, r) (sym turns_each ∙ sym (zip_each turns records (sym records_each))) in
    subst (λ z. Chooses w start z q) (sym (ap₂ (λ (a : List Choice) (b : List Move). zip a b) taken inner ∙ outer))
    (chooses_last w start (zip (take n front) (zip turns records)) p c (t, r) q leads goes)

by_growth : (w : World) (setup : List (CallerId × Event)) (path front grown : List Choice) (turns later : List Turn) (past now : List Record) (place : ℕ) (p q : Place)
    → Sofar w setup path front turns past place p → (goes : GoesOn w p q front grown place turns later past now) → PathGrows front place goes.choice grown
    → Sofar w setup path grown later now (place + 1) q
by_growth w setup path front grown turns later past now place p q s goes (inl old) =
    let lt = get_lt front place goes.choice old.0 in
    let stays : take (place + 1) grown ≡ take place front ++ goes.choice ∷ [] = ap (take (place + 1)) old.1 ∙ get_take front place goes.choice old.0 in
    let each : length turns ≡ length (take place front) = s.turns_each ∙ sym (take_length front place s.within) in
    record {
      before = s.before;
      records = s.records ++ goes.entry ∷ [];
      start = s.start;
      more = s.more;
      sets_up = s.sets_up;
      leads = subst (λ z. Chooses w (first_place w s.start) (zip (take (place + 1) grown) (zip z (s.records ++ goes.entry ∷ []))) q) (sym goes.turns_are)
          (leads_on w (first_place w s.start) front grown place turns s.records p q goes.choice goes.turn goes.entry each (s.records_each ∙ sym s.turns_each) stays s.leads goes.goes);
      past_is = goes.past_is ∙ (ap (λ (z : List Record). z ++ goes.entry ∷ []) s.past_is ∙ append_assoc s.before s.records (goes.entry ∷ []));
      grown_is = old.1 ∙ s.grown_is;
      first = s.first;
      end = elim s.end [ inl none ↦ inl none | inr whole ↦ absurd (omega (arith, lt, whole)) ];
      within = omega (arith, lt, ap length old.1);
      turns_each = ap length goes.turns_are ∙ (length-append turns (goes.turn ∷ []) ∙ ap (λ n. n + 1) s.turns_each);
      records_each = length-append s.records (goes.entry ∷ []) ∙ ap (λ n. n + 1) s.records_each;
    }
by_growth w setup path front grown turns later past now place p q s goes (inr new) =
    let size : length grown ≡ length front + 1 = ap length new.1 ∙ length-append front (goes.choice ∷ []) in
    let whole : take (place + 1) grown ≡ grown = take_all grown (place + 1) (omega (arith, size, new.0)) in
    let stays : take (place + 1) grown ≡ take place front ++ goes.choice ∷ [] =
    whole ∙ (new.1 ∙ ap (λ (z : List Choice). z ++ goes.choice ∷ []) (sym (take_all front place new.0))) in
    let each : length turns ≡ length (take place front) = s.turns_each ∙ sym (take_length front place s.within) in
    record {
      before = s.before;
      records = s.records ++ goes.entry ∷ [];
      start = s.start;
      more = s.more ++ goes.choice ∷ [];
      sets_up = s.sets_up;
      leads = subst (λ z. Chooses w (first_place w s.start) (zip (take (place + 1) grown) (zip z (s.records ++ goes.entry ∷ []))) q) (sym goes.turns_are)
          (leads_on w (first_place w s.start) front grown place turns s.records p q goes.choice goes.turn goes.entry each (s.records_each ∙ sym s.turns_each) stays s.leads goes.goes);
      past_is = goes.past_is ∙ (ap (λ (z : List Record). z ++ goes.entry ∷ []) s.past_is ∙ append_assoc s.before s.records (goes.entry ∷ []));
      grown_is = new.1 ∙ (ap (λ (z : List Choice). z ++ goes.choice ∷ []) s.grown_is ∙ append_assoc path s.more (goes.choice ∷ []));
      first = all_last IsFirst s.more goes.choice s.first new.2;
      end = inr (omega (arith, size, new.0));
      within = omega (arith, size, new.0);
      turns_each = ap length goes.turns_are ∙ (length-append turns (goes.turn ∷ []) ∙ ap (λ n. n + 1) s.turns_each);
      records_each = length-append s.records (goes.entry ∷ []) ∙ ap (λ n. n + 1) s.records_each;
    }

pub one_more : (w : World) (setup : List (CallerId × Event)) (path front grown : List Choice) (turns later : List Turn) (past now : List Record) (place : ℕ) (p q : Place)
    → Sofar w setup path front turns past place p → GoesOn w p q front grown place turns later past now → Sofar w setup path grown later now (place + 1) q
one_more w setup path front grown turns later past now place p q s goes =
    by_growth w setup path front grown turns later past now place p q s goes goes.grows

pub walked : (w : World) (setup : List (CallerId × Event)) (path grown : List Choice) (turns : List Turn) (past : List Record) (place : ℕ) (p : Place)
    → Sofar w setup path grown turns past place p → HasEnded w p → place ≡ length grown → Walked w setup path grown turns past
walked w setup path grown turns past place p s ended whole = record {
  before = s.before;
  records = s.records;
  start = s.start;
  end = p;
  more = s.more;
  sets_up = s.sets_up;
  leads = subst (λ z. Chooses w (first_place w s.start) (zip z (zip turns s.records)) p) (take_all grown place whole) s.leads;
  ended = ended;
  past_is = s.past_is;
  whole_is = s.grown_is;
  first = s.first;
  turns_each = s.turns_each ∙ whole;
  records_each = s.records_each ∙ whole;
}

pub at_first : (w v : World) (setup : List (CallerId × Event)) (path : List Choice) (turns : List Turn) (past : List Record) (start : State) (p : Place)
    → SetsUp w.limits opening setup past start → turns ≡ [] → p ≡ first_place v start → v ≡ w → Sofar w setup path path turns past 0 p
at_first w v setup path turns past start p up none is same = record {
  before = past;
  records = [];
  start = start;
  more = [];
  sets_up = up;
  leads = sym (is ∙ ap (λ z. first_place z start) same);
  past_is = sym (append-nil past);
  grown_is = sym (append-nil path);
  first = tt;
  end = inl refl;
  within = omega arith;
  turns_each = ap length none;
  records_each = refl;
}
