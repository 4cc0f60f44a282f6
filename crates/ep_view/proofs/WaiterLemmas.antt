-- Lists of waiters: who is parked, where, and under which numbers.
use Rattle.std.proofs.Common.{◌≡◌, ℕ, ◌==◌, ◌&&◌, ◌||◌, ◌∙◌, Bool, true, false, List, [], ◌∷◌, Some, not, cond, filter, inl, inr, map, refl, ap, subst, sym, ◌++◌, ◌⊎◌, nat_eq, arith}
use Rattle.std.specs.List.{find, list_any, AllByRecursion, IsDistinct}
use Rattle.std.specs.Option.{option_map}
use Rattle.ep_law.specs.Laws.{Member}
use Rattle.ep_machine.specs.Marks.{first_marked, marked_by}
use Rattle.ep_view.specs.KernelView.{at_number}
use Rattle.ep_machine.specs.State.{Waiter}
use Rattle.ep_machine.specs.Waits.{is_marked_at, marked_if_due, unmark, waits_at}
use Rattle.ep_law.proofs.ListLemmas.{any_same, member_map}
use Rattle.std.proofs.lemmas.Bool.{cases_Bool, false≢true, or_parts}
use Rattle.std.proofs.lemmas.Bool.Decides.{nat_tests}
use Rattle.ep_facts.proofs.BoolFacts.{or_right}
use Rattle.ep_machine.specs.Lists.{is_among}
use Rattle.ep_view.proofs.FilesLemmas.{among_either}

-- Waiters whose instances stand under other numbers.

module _ (number : ℕ → ℕ) where
  -- What is asked of callers and processes.
  pub any_at : (p q : Waiter → Bool) → ((w : Waiter) → p (at_number number w) ≡ q w) → (ws : List Waiter) → list_any p (map (at_number number) ws) ≡ list_any q ws
  any_at p q same [] = refl
  any_at p q same (w ∷ ws) = let one = same w in let rest = any_at p q same ws in λ i. one i || rest i

  pub parked_at : (c : ℕ) (ws : List Waiter) → list_any (λ w. w.caller == c) (map (at_number number) ws) ≡ list_any (λ w. w.caller == c) ws
  parked_at c ws = any_at (λ w. w.caller == c) (λ w. w.caller == c) (λ w. refl) ws

  pub of_process_at : (p : ℕ) (ws : List Waiter) → list_any (λ w. w.process == p) (map (at_number number) ws) ≡ list_any (λ w. w.process == p) ws
  of_process_at p ws = any_at (λ w. w.process == p) (λ w. w.process == p) (λ w. refl) ws

  pub find_at : (c : ℕ) (ws : List Waiter) → find (λ w. w.caller == c) (map (at_number number) ws) ≡ option_map (at_number number) (find (λ w. w.caller == c) ws)
  find_at c [] = refl
  find_at c (w ∷ ws) =
      let rest = find_at c ws in
      elim (w.caller == c) as (λ b. cond b (Some (at_number number w)) (find (λ v. v.caller == c) (map (at_number number) ws)) ≡ option_map (at_number number) (cond b (Some w) (find (λ v. v.caller == c) ws))) [ true ↦ refl | false ↦ rest ]

  -- What becomes of them.
  pub left_at : (c : ℕ) (ws : List Waiter) → filter (λ w. not (w.caller == c)) (map (at_number number) ws) ≡ map (at_number number) (filter (λ w. not (w.caller == c)) ws)
  left_at c [] = refl
  left_at c (w ∷ ws) =
      let rest = left_at c ws in
      elim (not (w.caller == c)) as (λ b. cond b (at_number number w ∷ filter (λ v. not (v.caller == c)) (map (at_number number) ws)) (filter (λ v. not (v.caller == c)) (map (at_number number) ws))
      ≡ map (at_number number) (cond b (w ∷ filter (λ v. not (v.caller == c)) ws) (filter (λ v. not (v.caller == c)) ws))) [
        | true ↦ ap (λ (xs : List Waiter). at_number number w ∷ xs) rest
        | false ↦ rest
      ]

  pub unmarked_at : (c : ℕ) (ws : List Waiter) → map (unmark c) (map (at_number number) ws) ≡ map (at_number number) (map (unmark c) ws)
  unmarked_at c [] = refl
  unmarked_at c (w ∷ ws) = ap (λ (xs : List Waiter). at_number number (unmark c w) ∷ xs) (unmarked_at c ws)

  pub due_at : (now : ℕ) (ws : List Waiter) → map (marked_if_due now) (map (at_number number) ws) ≡ map (at_number number) (map (marked_if_due now) ws)
  due_at now [] = refl
  due_at now (w ∷ ws) = ap (λ (xs : List Waiter). at_number number (marked_if_due now w) ∷ xs) (due_at now ws)

  -- Where the numbers of instances are apart, marks are the same.
  abbrev pub AreApart : List Waiter → Type 0
  AreApart ws = (a b : ℕ) → Member a (map (λ w. w.instance) ws) → Member b (map (λ w. w.instance) ws) → (number a == number b) ≡ (a == b)

  module _ (r : ℕ → Bool) (all : List Waiter) (apart : AreApart all) where
    same_at : (w v : Waiter) → Member w all → Member v all → (number w.instance == number v.instance) ≡ (w.instance == v.instance)
    same_at w v m n = apart w.instance v.instance (member_map (λ u. u.instance) w all m) (member_map (λ u. u.instance) v all n)

    pub waits_where : (before : List Waiter) (v : Waiter) → ((w : Waiter) → Member w before → Member w all) → Member v all → waits_at (map (at_number number) before) (number v.instance) ≡ waits_at before v.instance
    waits_where before v within n =
        any_at (λ w. w.instance == number v.instance) (λ w. number w.instance == number v.instance) (λ w. refl) before
        ∙ any_same (λ w. number w.instance == number v.instance) (λ w. w.instance == v.instance) before (λ w m. same_at w v (within w m) n)

    pub marked_where : (v : Waiter) → Member v all → is_marked_at (map (at_number number) all) (number v.instance) ≡ is_marked_at all v.instance
    marked_where v n =
        any_at (λ w. w.instance == number v.instance && w.marked) (λ w. number w.instance == number v.instance && w.marked) (λ w. refl) all
        ∙ any_same (λ w. number w.instance == number v.instance && w.marked) (λ w. w.instance == v.instance && w.marked) all (λ w m. ap (λ (b : Bool). b && w.marked) (same_at w v m n))

    first_at : (before ws : List Waiter) → ((w : Waiter) → Member w before → Member w all) → ((w : Waiter) → Member w ws → Member w all)
        → first_marked r (map (at_number number) all) (map (at_number number) before) (map (at_number number) ws) ≡ map (at_number number) (first_marked (λ k. r (number k)) all before ws)
    first_at before [] earlier later = refl
    first_at before (w ∷ ws) earlier later =
        let here = later w (inl refl) in
        let none = waits_where before w earlier here in
        let marked = marked_where w here in
        let rest = first_at (w ∷ before) ws (λ v m. elim m [ inl e ↦ subst (λ (u : Waiter). Member u all) (sym e) here | inr n ↦ earlier v n ]) (λ v m. later v (inr m)) in
        λ i. record (at_number number w) { marked = w.marked || not (none i) && not (marked i) && r (number w.instance) } ∷ rest i

  due_places : (now : ℕ) (ws : List Waiter) → map (λ w. w.instance) (map (marked_if_due now) ws) ≡ map (λ w. w.instance) ws
  due_places now [] = refl
  due_places now (w ∷ ws) = ap (λ (ks : List ℕ). w.instance ∷ ks) (due_places now ws)

  pub marks_at : (r : ℕ → Bool) (now : ℕ) (ws : List Waiter) → AreApart ws → marked_by r now (map (at_number number) ws) ≡ map (at_number number) (marked_by (λ k. r (number k)) now ws)
  marks_at r now ws apart =
      let due = map (marked_if_due now) ws in
      let still : AreApart due = λ a b m n. apart a b (subst (λ (ks : List ℕ). Member a ks) (due_places now ws) m) (subst (λ (ks : List ℕ). Member b ks) (due_places now ws) n) in
      ap (λ (xs : List Waiter). first_marked r xs [] xs) (due_at now ws) ∙ first_at r due still [] due (λ w m. absurd m) (λ w m. m)

-- Lists of waiters: who is parked, and where.

-- Some of them.
apart_filter : (c : ℕ) (p : Waiter → Bool) (ws : List Waiter) → AllByRecursion (λ k. nat_eq c k ≡ false) (map (λ w. w.caller) ws) → AllByRecursion (λ k. nat_eq c k ≡ false) (map (λ w. w.caller) (filter p ws))
apart_filter c p [] h = h
apart_filter c p (w ∷ ws) h = let rest = apart_filter c p ws h.1 in elim (p w) as (λ b. AllByRecursion (λ k. nat_eq c k ≡ false) (map (λ v. v.caller) (cond b (w ∷ filter p ws) (filter p ws)))) [ true ↦ (h.0, rest) | false ↦ rest ]

pub callers_filter : (p : Waiter → Bool) (ws : List Waiter) → IsDistinct nat_eq (map (λ w. w.caller) ws) → IsDistinct nat_eq (map (λ w. w.caller) (filter p ws))
unfolding IsDistinct
callers_filter p [] h = h
callers_filter p (w ∷ ws) h =
    let rest = callers_filter p ws h.1 in
    elim (p w) as (λ b. IsDistinct nat_eq (map (λ v. v.caller) (cond b (w ∷ filter p ws) (filter p ws)))) [ true ↦ (apart_filter w.caller p ws h.0, rest) | false ↦ rest ]

or_either : (a b c : Bool) → (b ≡ true → c ≡ true) → (a || b) ≡ true → (a || c) ≡ true
or_either true b c f h = refl
or_either false b c f h = f h

pub instance_filter : (p : Waiter → Bool) (ws : List Waiter) (d : ℕ) → is_among (map (λ w. w.instance) (filter p ws)) d ≡ true → is_among (map (λ w. w.instance) ws) d ≡ true
instance_filter p [] d h = h
instance_filter p (w ∷ ws) d h =
    let rest = instance_filter p ws d in
    elim (p w) as (λ b. is_among (map (λ v. v.instance) (cond b (w ∷ filter p ws) (filter p ws))) d ≡ true → is_among (map (λ v. v.instance) (w ∷ ws)) d ≡ true) [
      | true ↦ λ e. or_either (d == w.instance) _ _ rest e
      | false ↦ λ e. or_right (d == w.instance) _ (rest e)
    ] h

-- Without a mark.
pub unmarked_part : {X : Type 0} (f : Waiter → X) → ((w : Waiter) (b : Bool) → f (record w { marked = b }) ≡ f w) → (caller : ℕ) (ws : List Waiter) → map f (map (unmark caller) ws) ≡ map f ws
unmarked_part f same caller [] = refl
unmarked_part f same caller (w ∷ ws) = let one = same w (unmark caller w).marked in let rest = unmarked_part f same caller ws in λ i. one i ∷ rest i

-- One more.
apart_push : (c : ℕ) (ws : List Waiter) (w : Waiter) → (c == w.caller) ≡ false → AllByRecursion (λ k. nat_eq c k ≡ false) (map (λ v. v.caller) ws) → AllByRecursion (λ k. nat_eq c k ≡ false) (map (λ v. v.caller) (ws ++ w ∷ []))
apart_push c [] w e h = (grind (arith, nat_tests, e), tt)
apart_push c (v ∷ ws) w e h = (h.0, apart_push c ws w e h.1)

pub callers_push : (ws : List Waiter) (w : Waiter) → list_any (λ v. v.caller == w.caller) ws ≡ false → IsDistinct nat_eq (map (λ v. v.caller) ws) → IsDistinct nat_eq (map (λ v. v.caller) (ws ++ w ∷ []))
unfolding IsDistinct
callers_push [] w free h = (tt, tt)
callers_push (v ∷ ws) w free h = let r = or_parts (v.caller == w.caller) (list_any (λ u. u.caller == w.caller) ws) free in (apart_push v.caller ws w r.0 h.0, callers_push ws w r.1 h.1)

pub instance_push : (ws : List Waiter) (w : Waiter) (d : ℕ) → is_among (map (λ v. v.instance) (ws ++ w ∷ [])) d ≡ true → (is_among (map (λ v. v.instance) ws) d ≡ true) ⊎ (d ≡ w.instance)
instance_push [] w d h = elim (among_either (w.instance ∷ []) [] d h) [ inl e ↦ inr (from_test d w.instance e) | inr none ↦ absurd (false≢true none) ] where
  from_test : (a b : ℕ) → ((a == b) || false) ≡ true → a ≡ b
  from_test a b e = grind (arith, nat_tests, e)
instance_push (v ∷ ws) w d h =
    elim (cases_Bool (d == v.instance)) [
      | inl t ↦ inl (ap (λ (b : Bool). b || is_among (map (λ u. u.instance) ws) d) t)
      | inr f ↦ elim (instance_push ws w d (sym (ap (λ (b : Bool). b || is_among (map (λ u. u.instance) (ws ++ w ∷ [])) d) f) ∙ h)) [ inl old ↦ inl (or_right (d == v.instance) _ old) | inr new ↦ inr new ]
    ]
