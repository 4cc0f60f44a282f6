-- No waiter is forgotten, and what is marked stays as it is.
use Rattle.std.proofs.Common.{◌≡◌, ℕ, suc, ◌==◌, ◌&&◌, ◌||◌, ◌∙◌, All, Bool, true, false, List, [], ◌∷◌, not, inl, inr, map, refl, ap, arith, sym, zero, ◌+◌, None, Option, Some, MatchOption, subst}
use Rattle.std.proofs.lemmas.Bool.{cases_Bool}
use Rattle.std.proofs.lemmas.List.Elements.{All-cons, All-map}
use Rattle.ep_law.specs.Laws.{Member, ReadyMarked, WokenMarked}
use Rattle.ep_machine.specs.Marks.{first_marked, marked_by, with_marks}
use Rattle.ep_machine.specs.Exclusive.{gets_mark, is_guarded, is_guarded_within}
use Rattle.ep_machine.specs.Readiness.{is_ready, is_ready_within, is_reportable_by}
use Rattle.ep_machine.specs.Watches.{is_exclusive}
use Rattle.ep_machine.specs.State.{State, Waiter, Change, opening}
use Rattle.ep_machine.specs.Waits.{is_due, is_marked_at, marked_if_due, waits_at}
use Rattle.std.specs.List.{list_any}
use Rattle.ep_facts.proofs.BoolFacts.{or_left, or_right}
use Rattle.ep_facts.proofs.NatFacts.{from_test, same_test}
use Rattle.ep_base.specs.Limits.{Limits}
use Rattle.ep_base.specs.declared.answer.Answer.{Answer}
use Rattle.ep_base.specs.declared.call.Event.{Event}
use Rattle.ep_base.specs.declared.errno.Errno.{Errno}
use Rattle.ep_machine.specs.Deaths.{buried}
use Rattle.ep_machine.specs.Effect.{first}
use Rattle.ep_machine.specs.Refusal.{refusals}
use Rattle.ep_machine.specs.Settle.{with_from}
use Rattle.ep_machine.specs.Spread.{arrived, raised_alive}
use Rattle.ep_machine.specs.Step.{next_event, change, refused_or, settled, step}
use Rattle.ep_law.proofs.StepLemmas.{run_keeps}

-- Marks, by what is ready: no waiter is forgotten, and what is marked already stays as it is.

-- Bools.
keeps_mark : (a b c d z : Bool) → ((a && b) || c) ≡ true → (c ≡ true → d ≡ true) → ((a && (b || z)) || d) ≡ true
keeps_mark true true c d z h f = refl
keeps_mark true false c d z h f = or_right z d (f h)
keeps_mark false b c d z h f = f h

takes_mark : (a b z d : Bool) → a ≡ true → z ≡ true → ((a && (b || z)) || d) ≡ true
takes_mark true true z d p q = refl
takes_mark true false z d p q = ap (λ (x : Bool). x || d) q
takes_mark false b z d p q = cc

all_three : (a b c : Bool) → a ≡ false → b ≡ false → c ≡ true → (not a && not b && c) ≡ true
all_three a b c p q r = λ i. not (p i) && not (q i) && r i

-- a mark at what is ready and has one is not set twice
not_twice : (m b k r : Bool) → (r ≡ true → k ≡ true) → (m || not b && not k && r) ≡ m
not_twice true b k r h = refl
not_twice false true k r h = refl
not_twice false false true r h = refl
not_twice false false false true h = sym (h refl)
not_twice false false false false h = refl

due_twice : (m d f : Bool) → (((m || d) || f) || d) ≡ ((m || d) || f)
due_twice true d f = refl
due_twice false true f = refl
due_twice false false true = refl
due_twice false false false = refl

-- Marks change nothing else.
module _ (r : ℕ → Bool) where
  same_parts : {X : Type 0} (f : Waiter → X) → ((w : Waiter) (b : Bool) → f (record w { marked = b }) ≡ f w) → (all before ws : List Waiter) → map f (first_marked r all before ws) ≡ map f ws
  same_parts f same all before [] = refl
  same_parts f same all before (w ∷ ws) = let one = same w (w.marked || not (waits_at before w.instance) && not (is_marked_at all w.instance) && r w.instance) in let rest = same_parts f same all (w ∷ before) ws in λ i. one i ∷ rest i

  due_parts : {X : Type 0} (f : Waiter → X) → ((w : Waiter) (b : Bool) → f (record w { marked = b }) ≡ f w) → (now : ℕ) (ws : List Waiter) → map f (map (marked_if_due now) ws) ≡ map f ws
  due_parts f same now [] = refl
  due_parts f same now (w ∷ ws) = let one = same w (w.marked || is_due now w.deadline) in let rest = due_parts f same now ws in λ i. one i ∷ rest i

  pub marked_parts : {X : Type 0} (f : Waiter → X) → ((w : Waiter) (b : Bool) → f (record w { marked = b }) ≡ f w) → (now : ℕ) (ws : List Waiter) → map f (marked_by r now ws) ≡ map f ws
  marked_parts f same now ws = let due = map (marked_if_due now) ws in same_parts f same due [] due ∙ due_parts f same now ws

  -- what holds of the instances at which they wait
  module _ (Q : ℕ → Type 0) where
    first_all : (all before ws : List Waiter) → All (λ w. Q w.instance) ws → All (λ w. Q w.instance) (first_marked r all before ws)
    first_all all before [] h = h
    first_all all before (w ∷ ws) h = All-cons (λ v. Q v.instance) _ (first_marked r all (w ∷ before) ws) (h 0 w (omega arith)) (first_all all (w ∷ before) ws (λ k v lt. h (suc k) v (omega arith)))

    pub marked_all : (now : ℕ) (ws : List Waiter) → All (λ w. Q w.instance) ws → All (λ w. Q w.instance) (marked_by r now ws)
    marked_all now ws h = let due = map (marked_if_due now) ws in first_all due [] due (All-map (λ v. Q v.instance) (marked_if_due now) ws (λ k v lt. h k v lt))

  -- who waits, and whose mark stays
  waits_same : (all before ws : List Waiter) (e : ℕ) → waits_at (first_marked r all before ws) e ≡ waits_at ws e
  waits_same all before [] e = refl
  waits_same all before (w ∷ ws) e = ap (λ (b : Bool). (w.instance == e) || b) (waits_same all (w ∷ before) ws e)

  still_marked : (all before ws : List Waiter) (e : ℕ) → is_marked_at ws e ≡ true → is_marked_at (first_marked r all before ws) e ≡ true
  still_marked all before [] e h = h
  still_marked all before (w ∷ ws) e h = keeps_mark (w.instance == e) w.marked (is_marked_at ws e) _ _ h (λ m. still_marked all (w ∷ before) ws e m)

  -- the first that waits at an instance of which none is marked
  newly_marked : (all before ws : List Waiter) (e : ℕ) → is_marked_at all e ≡ false → r e ≡ true → waits_at before e ≡ false → waits_at ws e ≡ true → is_marked_at (first_marked r all before ws) e ≡ true
  newly_marked all before [] e unmarked ready none waits = cc
  newly_marked all before (w ∷ ws) e unmarked ready none waits = elim (cases_Bool (w.instance == e)) [
    | inl t ↦
        let at : w.instance ≡ e = from_test w.instance e t in
        let holds : (not (waits_at before w.instance) && not (is_marked_at all w.instance) && r w.instance) ≡ true =
        ap (λ (k : ℕ). not (waits_at before k) && not (is_marked_at all k) && r k) at ∙ all_three _ _ _ none unmarked ready in
        takes_mark (w.instance == e) w.marked _ _ t holds
    | inr f ↦
        or_right _ _ (newly_marked all (w ∷ before) ws e unmarked ready (ap (λ (b : Bool). b || waits_at before e) f ∙ none) (ap (λ (b : Bool). b || waits_at ws e) (sym f) ∙ waits))
  ]

  -- no waiter is forgotten
  pub none_forgotten : (ws : List Waiter) (e : ℕ) → waits_at (first_marked r ws [] ws) e ≡ true → r e ≡ true → is_marked_at (first_marked r ws [] ws) e ≡ true
  none_forgotten ws e waits ready = elim (cases_Bool (is_marked_at ws e)) [
    | inl m ↦ still_marked ws [] ws e m
    | inr f ↦ newly_marked ws [] ws e f ready refl (sym (waits_same ws [] ws e) ∙ waits)
  ]

  -- Marks set again.
  due_again : (now : ℕ) (all before ws : List Waiter) → map (marked_if_due now) (first_marked r all before (map (marked_if_due now) ws)) ≡ first_marked r all before (map (marked_if_due now) ws)
  due_again now all before [] = refl
  due_again now all before (w ∷ ws) =
      let one = due_twice w.marked (is_due now w.deadline) (not (waits_at before w.instance) && not (is_marked_at all w.instance) && r w.instance) in
      let rest = due_again now all (marked_if_due now w ∷ before) ws in
      λ i. record w { marked = one i } ∷ rest i

  waits_where : (w : Waiter) (ws : List Waiter) → Member w ws → waits_at ws w.instance ≡ true
  waits_where w [] m = absurd m
  waits_where w (v ∷ ws) (inl e) = or_left _ _ (same_test v.instance w.instance (ap (λ (x : Waiter). x.instance) (sym e)))
  waits_where w (v ∷ ws) (inr m) = or_right _ _ (waits_where w ws m)

  unchanged_by : (q : ℕ → Bool) (all before ws : List Waiter) → ((w : Waiter) → Member w ws → q w.instance ≡ true → is_marked_at all w.instance ≡ true) → first_marked q all before ws ≡ ws
  unchanged_by q all before [] h = refl
  unchanged_by q all before (w ∷ ws) h =
      let one = not_twice w.marked (waits_at before w.instance) (is_marked_at all w.instance) (q w.instance) (h w (inl refl)) in
      let rest = unchanged_by q all (w ∷ before) ws (λ v m. h v (inr m)) in
      λ i. record w { marked = one i } ∷ rest i

  unchanged : (all before ws : List Waiter) → ((w : Waiter) → Member w ws → r w.instance ≡ true → is_marked_at all w.instance ≡ true) → first_marked r all before ws ≡ ws
  unchanged all before [] h = refl
  unchanged all before (w ∷ ws) h =
      let one = not_twice w.marked (waits_at before w.instance) (is_marked_at all w.instance) (r w.instance) (h w (inl refl)) in
      let rest = unchanged all (w ∷ before) ws (λ v m. h v (inr m)) in
      λ i. record w { marked = one i } ∷ rest i

  -- by a test under which no more would be marked
  pub marks_stay : (q : ℕ → Bool) → ((e : ℕ) → q e ≡ true → r e ≡ true) → (now : ℕ) (ws : List Waiter) → marked_by q now (marked_by r now ws) ≡ marked_by r now ws
  marks_stay q within now ws =
      let due = map (marked_if_due now) ws in
      let ms = first_marked r due [] due in
      ap (λ (xs : List Waiter). first_marked q xs [] xs) (due_again now due [] ws)
      ∙ unchanged_by q ms [] ms (λ w m holds. none_forgotten due w.instance (waits_where w ms m) (within w.instance holds))

  first_again : (ws : List Waiter) → let ms = first_marked r ws [] ws in first_marked r ms [] ms ≡ ms
  first_again ws = let ms = first_marked r ws [] ws in unchanged ms [] ms (λ w m ready. none_forgotten ws w.instance (waits_where w ms m) ready)

  pub marks_again : (now : ℕ) (ws : List Waiter) → marked_by r now (marked_by r now ws) ≡ marked_by r now ws
  marks_again now ws = let due = map (marked_if_due now) ws in ap (λ (xs : List Waiter). first_marked r xs [] xs) (due_again now due [] ws) ∙ first_again due

-- At the end of each step an unguarded instance that is ready and has waiters has a marked one.

-- neither the number of events nor the waiters matter to readiness
pub within_same : (k : ℕ) (s : State) (n : ℕ) (ws : List Waiter) (e : ℕ) → is_ready_within k (record s { n = n; waiters = ws }) e ≡ is_ready_within k s e
within_same zero s n ws e = refl
within_same (suc k) s n ws e = λ i. list_any (λ x. x.instance == e && is_reportable_by (λ d. within_same k s n ws d i) s x) s.watches

pub ready_same : (s : State) (n : ℕ) (ws : List Waiter) (e : ℕ) → is_ready (record s { n = n; waiters = ws }) e ≡ is_ready s e
unfolding is_ready
ready_same s n ws e = within_same 5 s n ws e

-- nor to what guards an instance
guards_same : (k : ℕ) (s : State) (n : ℕ) (ws : List Waiter) (e : ℕ) → is_guarded_within k (record s { n = n; waiters = ws }) e ≡ is_guarded_within k s e
guards_same zero s n ws e = refl
guards_same (suc k) s n ws e = λ i. list_any (λ x. x.instance == e && (is_exclusive x || guards_same k s n ws x.target i)) s.watches

pub guarded_same : (s : State) (n : ℕ) (ws : List Waiter) (e : ℕ) → is_guarded (record s { n = n; waiters = ws }) e ≡ is_guarded s e
unfolding is_guarded
guarded_same s n ws e = guards_same 5 s n ws e

-- each unguarded instance that is ready and has waiters has a marked one
abbrev Marked : State → Type 0
Marked s = (e : ℕ) → waits_at s.waiters e ≡ true → is_ready s e ≡ true → is_guarded s e ≡ false → is_marked_at s.waiters e ≡ true

gets_ready : (r g w : Bool) → r ≡ true → g ≡ false → (r && (not g || w)) ≡ true
gets_ready r g w p q = λ i. p i && (not (q i) || w)

gets_woken : (r g w : Bool) → r ≡ true → w ≡ true → (r && (not g || w)) ≡ true
gets_woken r g w p q = ap (λ (a : Bool). a && (not g || w)) p ∙ or_right (not g) w q

module _ (before : State) (raised : List (ℕ × ℕ)) (s : State) where
  abbrev due : List Waiter
  due = map (marked_if_due s.now) s.waiters

  abbrev test : ℕ → Bool
  test = gets_mark before s raised due

  pub marked_where : (e : ℕ) → waits_at (with_marks before raised s).waiters e ≡ true → test e ≡ true → is_marked_at (with_marks before raised s).waiters e ≡ true
  marked_where e waits gets = none_forgotten test due e waits gets

  marked_marks : Marked (with_marks before raised s)
  marked_marks e waits ready unguarded =
      let ws = marked_by test s.now s.waiters in
      marked_where e waits (gets_ready (is_ready s e) (is_guarded s e) _ (sym (ready_same s s.n ws e) ∙ ready) (sym (guarded_same s s.n ws e) ∙ unguarded))

marked_begun : (s : State) → Marked s → Marked (next_event s)
marked_begun s h e waits ready unguarded = h e waits (sym (ready_same s (s.n + 1) s.waiters e) ∙ ready) (sym (guarded_same s (s.n + 1) s.waiters e) ∙ unguarded)

IsStep : Option (Answer × State) → Type 0
IsStep o = MatchOption o (Unit {0}) (λ c. Marked c.1)

marked_settled : (before : State) (c : Option Change) → IsStep (settled before c)
unfolding IsStep
marked_settled before None = tt
marked_settled before (Some c) = let left = buried c.1 c.2 in marked_marks before (raised_alive left.0 left.1) (with_from before (arrived left.0 left.1))

marked_refused : (e : Option Errno) (s : State) (ks : List ℕ) (c : Option Change) → Marked s → IsStep (refused_or e s ks c)
unfolding IsStep
marked_refused None s ks c h = marked_settled s c
marked_refused (Some e) s [] c h = h
marked_refused (Some e) s (k ∷ ks) c h = tt

marked_step : (limits : Limits) (s t : State) (caller : ℕ) (event : Event) (picked : List ℕ) (a : Answer) → Marked s → step limits s caller event picked ≡ Some (a, t) → Marked t
unfolding IsStep
marked_step limits s t caller event picked a h e =
    let now = next_event s in
    subst IsStep e (marked_refused (first (refusals limits now caller event)) now picked (change limits now caller event picked) (marked_begun s h))

-- in each state of a run
pub ready_marked : ReadyMarked
ready_marked limits past s e is waits ready unguarded = run_keeps Marked limits (marked_step limits) opening s past (λ d none r g. cc) is e waits ready unguarded

-- guarded or not, if the event wakes it
pub woken_marked : WokenMarked
woken_marked before s raised e waits ready woken =
    let ws = marked_by (test before raised s) s.now s.waiters in
    marked_where before raised s e waits (gets_woken (is_ready s e) (is_guarded s e) _ (sym (ready_same s s.n ws e) ∙ ready) woken)
