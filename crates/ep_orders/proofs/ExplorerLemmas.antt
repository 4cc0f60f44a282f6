-- From one order to the next.
use Rattle.std.proofs.Common.{nat_lt, ◌≡◌, ◌<◌, ◌∷◌, ◌+◌, ◌-◌, ◌∙◌, [], Bool, List, None, Some, ap, ap₂, arith, drop, false, if◌then◌else◌, length, map, refl, slice_get, subst, suc, sym, take, true, zero, zip, ℕ}
use Rattle.std.proofs.lemmas.Bool.{ltb-true}
use Rattle.std.proofs.lemmas.List.{drop-take}
use Rattle.std.proofs.Math.Seq.{drop-append_seam, take-append_seam}
use Rattle.ep_base.specs.Limits.{Limits}
use Rattle.ep_base.specs.declared.call.Event.{Event}
use Rattle.ep_base.specs.declared.ids.CallerId.{CallerId}
use Rattle.ep_base.specs.declared.record.Record.{Record}
use Rattle.ep_machine.specs.State.{State, opening}
use Rattle.ep_paths.specs.declared.choice.Choice.{Choice}
use Rattle.ep_paths.specs.Paths.{Comes}
use Rattle.ep_orders.specs.declared.turn.Turn.{Turn}
use Rattle.ep_records.proofs.WholeLemmas.{numbered_in}
use Rattle.ep_records.specs.Past.{Past, numbered, whole}
use Rattle.ep_orders.specs.Explorer.{IsChosen}
use Rattle.ep_orders.specs.Orders.{SetsUp, first_place}
use Rattle.ep_orders.specs.Place.{Move, World}
use Rattle.ep_orders.specs.Course.{Chooses, Walked}
use Rattle.ep_orders.proofs.OrderLemmas.{zip_each}

pub sets_up_each : (limits : Limits) (s : State) (es : List (CallerId × Event)) (rs : List Record) (t : State) → SetsUp limits s es rs t → length rs ≡ length es
sets_up_each limits s [] [] t up = refl
sets_up_each limits s [] (r ∷ rs) t up = absurd up
sets_up_each limits s (e ∷ es) [] t up = absurd up
sets_up_each limits s (e ∷ es) (r ∷ rs) t up = ap (λ n. suc n) (sets_up_each limits up.2.0 es rs t up.2.2)

take_zip : {A B : Type 0} (n : ℕ) (xs : List A) (ys : List B) → take n (zip xs ys) ≡ zip (take n xs) (take n ys)
take_zip zero xs ys = refl
take_zip (suc n) [] ys = refl
take_zip (suc n) (x ∷ xs) [] = refl
take_zip (suc n) (x ∷ xs) (y ∷ ys) = ap (λ z. (x, y) ∷ z) (take_zip n xs ys)

take_within : {X : Type 0} (n m : ℕ) (xs : List X) → take n (take (n + m) xs) ≡ take n xs
take_within zero m xs = refl
take_within {X} (suc n) m [] = let one : suc n + m ≡ suc (n + m) = omega arith in ap (λ k. take (suc n) (take k [])) one
take_within {X} (suc n) m (x ∷ xs) =
    let one : suc n + m ≡ suc (n + m) = omega arith in
    ap (λ k. take (suc n) (take k (x ∷ xs))) one ∙ ap (λ (z : List X). x ∷ z) (take_within n m xs)

zip_seconds : {A B : Type 0} (xs : List A) (ys : List B) → length xs ≡ length ys → map (λ (t : A × B). t.1) (zip xs ys) ≡ ys
zip_seconds [] [] e = refl
zip_seconds [] (y ∷ ys) e = absurd (omega arith)
zip_seconds (x ∷ xs) [] e = absurd (omega arith)
zip_seconds (x ∷ xs) (y ∷ ys) e = ap (λ z. y ∷ z) (zip_seconds xs ys (omega arith))

module _ (w : World) (setup : List (CallerId × Event)) (path whole : List Choice) (turns : List Turn) (past : List Record) (order : Walked w setup path whole turns past) where
  begun_each : length order.before ≡ length setup
  begun_each = sets_up_each w.limits opening setup order.before order.start order.sets_up

  pub records_are : drop (length setup) past ≡ order.records
  records_are =
      ap₂ (λ (n : ℕ) (z : List Record). drop n z) (sym begun_each) order.past_is ∙ drop-append_seam order.before order.records

  pub before_is : take (length setup) past ≡ order.before
  before_is =
      ap₂ (λ (n : ℕ) (z : List Record). take n z) (sym begun_each) order.past_is ∙ take-append_seam order.before order.records

  pub moves_each : length (zip turns (drop (length setup) past)) ≡ length whole
  moves_each =
      ap (λ (z : List Record). length (zip turns z)) records_are ∙ (zip_each turns order.records (order.turns_each ∙ sym order.records_each) ∙ order.turns_each)

  -- it shares what the path keeps with the order before
  pub comes_next : (turns_before : List Turn) (past_before : List Record)
      → take (length setup + (length path - 1)) past_before ≡ take (length setup + (length path - 1)) past
      → take (length path - 1) turns_before ≡ take (length path - 1) turns
      → Comes path (zip turns_before (drop (length setup) past_before)) whole (zip turns (drop (length setup) past))
  comes_next turns_before past_before same_past same_turns =
      let n = length setup in
      let k = length path - 1 in
      let records : take (length path - 1) (drop (length setup) past) ≡ take (length path - 1) (drop (length setup) past_before) =
      sym (drop-take n k past) ∙ (ap (drop n) (sym same_past) ∙ drop-take n k past_before) in
      record {
        more = order.more;
        behind = order.whole_is;
        first = order.first;
        each = moves_each;
        same = take_zip k turns (drop n past) ∙ (ap₂ (λ (a : List Turn) (b : List Record). zip a b) (sym same_turns) records ∙ sym (take_zip k turns_before (drop n past_before)));
      }

  pub same_setup : (past_before : List Record) (k : ℕ) → take (length setup + k) past_before ≡ take (length setup + k) past
      → take (length setup) past ≡ take (length setup) past_before
  same_setup past_before k same =
      sym (take_within (length setup) k past) ∙ (ap (take (length setup)) (sym same) ∙ take_within (length setup) k past_before)

  pub sets_up_same : SetsUp w.limits opening setup (take (length setup) past) order.start
  sets_up_same = subst (λ (z : List Record). SetsUp w.limits opening setup z order.start) (sym before_is) order.sets_up

  pub is_chosen : IsChosen w order.start (zip whole (zip turns (drop (length setup) past)))
  is_chosen = record {
    end = order.end;
    ended = order.ended;
    leads = subst (λ (z : List Record). Chooses w (first_place w order.start) (zip whole (zip turns z)) order.end) (sym records_are) order.leads;
  }

  pub told_moves : map (λ (t : Choice × Move). t.1) (zip whole (zip turns (drop (length setup) past))) ≡ zip turns (drop (length setup) past)
  told_moves = zip_seconds whole (zip turns (drop (length setup) past)) (sym moves_each)

-- the record of an event that is here stands in its place among all
numbered_by : (b : Bool) (h : Past) (n : ℕ) (x : Record) → nat_lt (length h.taken) (n + 1) ≡ b
    → (if b then slice_get h.items (n + 1 - (length h.taken + 1)) else None) ≡ Some x → slice_get (whole h) n ≡ Some x
numbered_by false h n x lt e = cc
numbered_by true h n x lt e =
    let out : length h.taken < n + 1 = ltb-true (length h.taken) (n + 1) lt in
    let at : n + 1 - 1 ≡ n = omega arith in
    ap (λ k. slice_get (whole h) k) (sym at) ∙ sym (numbered_in h (n + 1) out)
    ∙ ap (λ b. if b then slice_get h.items (n + 1 - (length h.taken + 1)) else None) lt ∙ e

pub numbered_some : (h : Past) (n : ℕ) (x : Record) → numbered h (n + 1) ≡ Some x → slice_get (whole h) n ≡ Some x
numbered_some h n x e = numbered_by (nat_lt (length h.taken) (n + 1)) h n x refl e
