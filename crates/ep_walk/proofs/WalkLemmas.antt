-- Marks and the list of what is reached, after one write of each.
use Rattle.std.proofs.Common.{◌≡◌, ℕ, zero, suc, ◌<◌, ◌≤◌, Bool, true, false, eqb, cond, List, [], ◌∷◌, ◌++◌, length, get_or, set, count_by, refl, sym, ap, ◌∙◌, inl, inr, arith, length-set}
use Rattle.std.proofs.lemmas.Bool.{cases_eq, cases_lt, cases_Bool}
use Rattle.std.proofs.lemmas.List.{get_or-set_same, get_or-set_other, get_or_past, length_push}
use Rattle.std.proofs.lemmas.List.Sums.{count_by-le-length, sum_by-cons, sum_by-set}
use Rattle.ep_facts.proofs.AmongFacts.{among_last, among_push_other}
use Rattle.ep_machine.specs.Lists.{are_distinct, is_among}
use Rattle.ep_walk.specs.Walk.{IsWalk}

abbrev marks_in : List Bool → ℕ
marks_in marks = count_by (λ m. m) marks

distinct_push : (xs : List ℕ) (i : ℕ) → are_distinct xs ≡ true → is_among xs i ≡ false → are_distinct (xs ++ i ∷ []) ≡ true
distinct_push [] i d h = refl
distinct_push (x ∷ xs) i d h = elim (cases_eq x i) [
  | inl is ↦ absurd (let here : eqb i x ≡ true = grind (arith) in let no : true ≡ false = rw here at h in cc)
  | inr ne ↦
      let away : eqb i x ≡ false = grind (arith) in
      elim (cases_Bool (is_among xs x)) [
        | inl t ↦ absurd (let no : false ≡ true = rw t at d in cc)
        | inr f ↦ rw (among_push_other xs i x ne, f) (distinct_push xs i (rw f at d) (rw away at h))
      ]
]

among_first : (xs : List ℕ) (i j : ℕ) → is_among (xs ++ i ∷ []) j ≡ false → is_among xs j ≡ false
among_first [] i j h = refl
among_first (x ∷ xs) i j h = elim (cases_Bool (eqb j x)) [
  | inl t ↦ absurd (let no : true ≡ false = rw t at h in cc)
  | inr f ↦ rw f (among_first xs i j (rw f at h))
]

distinct_first : (xs : List ℕ) (i : ℕ) → are_distinct (xs ++ i ∷ []) ≡ true → are_distinct xs ≡ true
distinct_first [] i d = refl
distinct_first (x ∷ xs) i d = elim (cases_Bool (is_among (xs ++ i ∷ []) x)) [
  | inl t ↦ absurd (let no : false ≡ true = rw t at d in cc)
  | inr f ↦ rw (among_first xs i x f) (distinct_first xs i (rw f at d))
]

distinct_end : (xs : List ℕ) (i : ℕ) → are_distinct (xs ++ i ∷ []) ≡ true → is_among xs i ≡ false
distinct_end [] i d = refl
distinct_end (x ∷ xs) i d = elim (cases_Bool (is_among (xs ++ i ∷ []) x)) [
  | inl t ↦ absurd (let no : false ≡ true = rw t at d in cc)
  | inr f ↦ elim (cases_eq x i) [
    | inl is ↦ absurd (let no : true ≡ false = sym (among_last xs i) ∙ (ap (is_among (xs ++ i ∷ [])) (sym is) ∙ f) in cc)
    | inr ne ↦ let away : eqb i x ≡ false = grind (arith) in rw away (distinct_end xs i (rw f at d))
  ]
]

-- a mark that is not there leaves room for one more
pub less_than_all : (marks : List Bool) (i : ℕ) → i < length marks → get_or marks i false ≡ false → marks_in marks < length marks
less_than_all [] i l h = absurd (omega arith)
less_than_all (m ∷ marks) zero l h =
    let off : cond {A = ℕ} m 1 0 ≡ 0 = rw h refl in
    omega (arith, off, sum_by-cons (λ m. cond {A = ℕ} m 1 0) m marks, count_by-le-length (λ m. m) marks)
less_than_all (m ∷ marks) (suc i) l h =
    let rest = less_than_all marks i (omega arith) h in
    let most : cond {A = ℕ} m 1 0 ≤ 1 = elim m as (λ b. cond {A = ℕ} b 1 0 ≤ 1) [ true ↦ omega arith | false ↦ omega arith ] in
    omega (arith, rest, most, sum_by-cons (λ m. cond {A = ℕ} m 1 0) m marks)

module _ (marks : List Bool) (reached : List ℕ) (capacity : ℕ) (w : IsWalk marks reached capacity) where
  -- what is reached has a mark
  pub marked_within : (i : ℕ) → is_among reached i ≡ true → i < length marks
  marked_within i h = elim (cases_lt i (length marks)) [
    | inl l ↦ l
    | inr g ↦ absurd (let no : false ≡ true = sym (get_or_past marks i false g) ∙ (w.marked i ∙ h) in cc)
  ]

  -- an instance without a mark is reached
  module _ (i : ℕ) (l : i < length marks) (off : get_or marks i false ≡ false) where
    pub not_among : is_among reached i ≡ false
    not_among = sym (w.marked i) ∙ off

    pub room_to_reach : length reached < capacity
    room_to_reach = omega (arith, w.counted, less_than_all marks i l off, w.room)

    pub walk_reached : IsWalk (set marks i true) (reached ++ i ∷ []) capacity
    walk_reached = record {
      marked = λ j. elim (cases_eq j i) [
        | inl is ↦ ap (λ n. get_or (set marks i true) n false) is ∙ (get_or-set_same marks i true false l ∙ sym (ap (is_among (reached ++ i ∷ [])) is ∙ among_last reached i))
        | inr ne ↦ get_or-set_other marks i j true false ne ∙ (w.marked j ∙ sym (among_push_other reached i j ne))
      ];
      once = distinct_push reached i w.once not_among;
      counted =
          let was : cond {A = ℕ} (get_or marks i false) 1 0 ≡ 0 = rw off refl in
          omega (arith, w.counted, was, length_push reached i, sum_by-set (λ m. cond {A = ℕ} m 1 0) marks i true false l);
      room = omega (arith, w.room, length-set marks i true);
    }

-- the last one reached is so no more
module _ (marks : List Bool) (reached : List ℕ) (i capacity : ℕ) (w : IsWalk marks (reached ++ i ∷ []) capacity) where
  pub last_within : i < length marks
  last_within = marked_within marks (reached ++ i ∷ []) capacity w i (among_last reached i)

  pub walk_popped : (capacity' : ℕ) → length marks ≤ capacity' → IsWalk (set marks i false) reached capacity'
  walk_popped capacity' le = record {
    marked = λ j. elim (cases_eq j i) [
      | inl is ↦ ap (λ n. get_or (set marks i false) n false) is ∙ (get_or-set_same marks i false false last_within ∙ sym (ap (is_among reached) is ∙ distinct_end reached i w.once))
      | inr ne ↦ get_or-set_other marks i j false false ne ∙ (w.marked j ∙ among_push_other reached i j ne)
    ];
    once = distinct_first reached i w.once;
    counted =
        let was : cond {A = ℕ} (get_or marks i false) 1 0 ≡ 1 = rw (w.marked i ∙ among_last reached i) refl in
        omega (arith, w.counted, was, length_push reached i, sum_by-set (λ m. cond {A = ℕ} m 1 0) marks i false false last_within);
    room = omega (arith, le, length-set marks i false);
  }
