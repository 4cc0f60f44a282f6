-- What comes to the end of lists, one after another.
use Rattle.std.proofs.Common.{◌≡◌, ◌≢◌, ◌<◌, ◌++◌, ◌&&◌, ◌||◌, ◌==◌, ◌∙◌, ◌+◌, ℕ, zero, suc, Bool, true, false, List, [], ◌∷◌, IsSome, None, Option, Some, ap, append-nil, arith, cond, get_or, inl, inr, length, nat_eq, nat_lt, refl, subst, sym, take}
use Rattle.std.specs.List.{list_any}
use Rattle.std.specs.Option.{option_map}
use Rattle.std.proofs.lemmas.Bool.{cases_eq}
use Rattle.std.proofs.lemmas.List.{append_assoc, get_or-set_other, get_or-set_same}
use Rattle.std.proofs.Math.Bool.{and-false, and-false as none, and-true, or-false}
use Rattle.std.proofs.Math.Numerals.{suc-eq-add-one}
use Rattle.ep_facts.proofs.AmongFacts.{among_end}
use Rattle.ep_facts.proofs.NatFacts.{same_nat, test_apart}
use Rattle.ep_facts.proofs.BoolFacts.{or_assoc}
use Rattle.ep_base.specs.declared.ids.EntryId.{EntryId}
use Rattle.ep_interest.specs.Passes.{has_id, passes_on}
use Rattle.ep_interest.specs.Registrations.{Registrations, entry_under}
use Rattle.ep_interest.specs.declared.entry.Entry.{Entry}
use Rattle.ep_machine.specs.Lists.{is_among}
use Rattle.ep_kernel.specs.Listed.{HavePlaces, may_stand}
use Rattle.ep_kernel.specs.Push.{Gains, is_home, passes_found}
use Rattle.ep_rings.specs.KeyWalk.{entry_id}
use Rattle.ep_ready.specs.ReadyLists.{IsSound, Lists, after_push, instance_at, list_at, push_by, with_list}

pub gains_none : (l : Lists) → Gains (λ k. false) l l
gains_none l = record { places = λ id. refl; more = λ i. []; lists = λ i. sym (append-nil (list_at l i)); each = λ i k. sym (or-false (is_among (list_at l i) k)) }

pub gains_same : (f g : ℕ → Bool) (old new : Lists) → ((k : ℕ) → f k ≡ g k) → Gains f old new → Gains g old new
gains_same f g old new same a = record {
  places = a.places;
  more = a.more;
  lists = a.lists;
  each = λ i k. a.each i k ∙ ap (λ (b : Bool). is_among (list_at old i) k || b && is_home i (instance_at old (entry_id k))) (same k);
}

either : (x f g h : Bool) → ((x || f && h) || g && h) ≡ (x || (f || g) && h)
either true f g h = refl
either false true g true = refl
either false true true false = refl
either false true false false = refl
either false false g h = refl

pub gains_both : (f g : ℕ → Bool) (old mid new : Lists) → Gains f old mid → Gains g mid new → Gains (λ k. f k || g k) old new
gains_both f g old mid new a b = record {
  places = λ id. b.places id ∙ a.places id;
  more = λ i. a.more i ++ b.more i;
  lists = λ i. b.lists i ∙ (ap (λ (ks : List ℕ). ks ++ b.more i) (a.lists i) ∙ append_assoc (list_at old i) (a.more i) (b.more i));
  each = λ i k.
      b.each i k
      ∙ ((λ t. a.each i k t || g k && is_home i (a.places (entry_id k) t))
      ∙ either (is_among (list_at old i) k) (f k) (g k) (is_home i (instance_at old (entry_id k))));
}

-- Of one registration.

module _ (l : Lists) (sound : IsSound l) (id : EntryId) (i : ℕ) (at : instance_at l id ≡ Some i) where
  within : i < length l.lists
  within = sound.within id i at

  -- on any list but its own it neither stands nor comes
  not_here : (j k : ℕ) → j ≢ i → is_among (list_at l j) k ≡ (is_among (list_at l j) k || k == id.0 && is_home j (instance_at l (entry_id k)))
  not_here j k other = elim (cases_eq k id.0) [
    | inl is ↦
        let home : is_home j (instance_at l (entry_id k)) ≡ false = ap (λ (n : ℕ). is_home j (instance_at l (entry_id n))) is ∙ (ap (is_home j) at ∙ test_apart i j (λ e. other (sym e))) in
        sym (ap (λ (b : Bool). is_among (list_at l j) k || k == id.0 && b) home ∙ (ap (λ (b : Bool). is_among (list_at l j) k || b) (and-false (k == id.0)) ∙ or-false (is_among (list_at l j) k)))
    | inr ne ↦ sym (ap (λ (b : Bool). is_among (list_at l j) k || b && is_home j (instance_at l (entry_id k))) (test_apart k id.0 ne) ∙ or-false (is_among (list_at l j) k))
  ]

  comes_here : (k : ℕ) → (k == id.0 && is_home i (instance_at l (entry_id k))) ≡ (k == id.0)
  comes_here k = elim (cases_eq k id.0) [
    | inl is ↦
        let home : is_home i (instance_at l (entry_id k)) ≡ true = ap (λ (n : ℕ). is_home i (instance_at l (entry_id n))) is ∙ (ap (is_home i) at ∙ same_nat i) in
        ap (λ (b : Bool). k == id.0 && b) home ∙ and-true (k == id.0)
    | inr ne ↦ ap (λ (b : Bool). b && is_home i (instance_at l (entry_id k))) (test_apart k id.0 ne) ∙ sym (test_apart k id.0 ne)
  ]

  stood : is_among (list_at l i) id.0 ≡ true → Gains (λ k. k == id.0) l l
  stood there = record {
    places = λ j. refl;
    more = λ j. [];
    lists = λ j. sym (append-nil (list_at l j));
    each = λ j k. elim (cases_eq j i) [
      | inl is ↦ ap (λ (n : ℕ). is_among (list_at l n) k) is ∙ (on k ∙ sym (ap (λ (n : ℕ). is_among (list_at l n) k || k == id.0 && is_home n (instance_at l (entry_id k))) is ∙ ap (λ (b : Bool). is_among (list_at l i) k || b) (comes_here k)))
      | inr ne ↦ not_here j k ne
    ];
  } where
    on : (k : ℕ) → is_among (list_at l i) k ≡ (is_among (list_at l i) k || k == id.0)
    on k = elim (cases_eq k id.0) [
      | inl is ↦ let here : is_among (list_at l i) k ≡ true = ap (is_among (list_at l i)) is ∙ there in here ∙ sym (ap (λ (b : Bool). b || k == id.0) here)
      | inr ne ↦ sym (ap (λ (b : Bool). is_among (list_at l i) k || b) (test_apart k id.0 ne) ∙ or-false (is_among (list_at l i) k))
    ]

  abbrev pushed : Lists
  pushed = with_list l i (list_at l i ++ id.0 ∷ [])

  here_now : list_at pushed i ≡ list_at l i ++ id.0 ∷ []
  here_now = get_or-set_same l.lists i (list_at l i ++ id.0 ∷ []) [] within

  there_now : (j : ℕ) → j ≢ i → list_at pushed j ≡ list_at l j
  there_now j other = get_or-set_other l.lists i j (list_at l i ++ id.0 ∷ []) [] other

  came : Gains (λ k. k == id.0) l pushed
  came = record {
    places = λ j. refl;
    more = λ j. cond (j == i) (id.0 ∷ []) [];
    lists = λ j. elim (cases_eq j i) [
      | inl is ↦ ap (list_at pushed) is ∙ (here_now ∙ sym ((λ t. list_at l (is t) ++ cond (is t == i) (id.0 ∷ []) []) ∙ ap (λ (b : Bool). list_at l i ++ cond b (id.0 ∷ []) []) (same_nat i)))
      | inr ne ↦ there_now j ne ∙ sym (ap (λ (b : Bool). list_at l j ++ cond b (id.0 ∷ []) []) (test_apart j i ne) ∙ append-nil (list_at l j))
    ];
    each = λ j k. elim (cases_eq j i) [
      | inl is ↦
          ap (λ (n : ℕ). is_among (list_at pushed n) k) is
          ∙ (ap (λ (ks : List ℕ). is_among ks k) here_now
          ∙ (among_end (list_at l i) id.0 k
          ∙ sym (ap (λ (n : ℕ). is_among (list_at l n) k || k == id.0 && is_home n (instance_at l (entry_id k))) is ∙ ap (λ (b : Bool). is_among (list_at l i) k || b) (comes_here k))))
      | inr ne ↦ ap (λ (ks : List ℕ). is_among ks k) (there_now j ne) ∙ not_here j k ne
    ];
  }

  pub gains_one : (new : Lists) → new ≡ after_push l id → Gains (λ k. k == id.0) l new
  gains_one new is = subst (Gains (λ k. k == id.0) l) (sym (is ∙ ap (push_by l id.0) at)) (by_case (is_among (list_at l i) id.0) refl) where
    by_case : (b : Bool) → is_among (list_at l i) id.0 ≡ b → Gains (λ k. k == id.0) l (cond b l pushed)
    by_case true there = stood there
    by_case false away = came

-- a registration that is there has a place
pub placed : (r : Registrations) (l : Lists) (id : EntryId) (q : Option Entry → Bool) → q None ≡ false → HavePlaces r l → q (entry_under r id) ≡ true → IsSome (instance_at l id)
placed r l id q none have t = at (entry_under r id) t (have id) where
  at : (o : Option Entry) → q o ≡ true → instance_at l id ≡ option_map (λ x. x.instance.0) o → IsSome (instance_at l id)
  at None t e = absurd (let no : false ≡ true = sym none ∙ t in cc)
  at (Some x) t e = subst (λ (o : Option ℕ). IsSome o) (sym e) refl

-- where a test of the registration lets it come
pub gains_if : (q : ℕ → Bool) (id : EntryId) (old new : Lists) → q id.0 ≡ true → Gains (λ k. k == id.0) old new → Gains (λ k. k == id.0 && q k) old new
gains_if q id old new t a = gains_same (λ k. k == id.0) (λ k. k == id.0 && q k) old new only a where
  only : (k : ℕ) → (k == id.0) ≡ (k == id.0 && q k)
  only k = elim (cases_eq k id.0) [
    | inl is ↦ sym (ap (λ (b : Bool). k == id.0 && b) (ap q is ∙ t) ∙ and-true (k == id.0))
    | inr ne ↦ test_apart k id.0 ne ∙ sym (ap (λ (b : Bool). b && q k) (test_apart k id.0 ne))
  ]

pub gains_not : (q : ℕ → Bool) (id : EntryId) (l : Lists) → q id.0 ≡ false → Gains (λ k. k == id.0 && q k) l l
gains_not q id l f = gains_same (λ k. false) (λ k. k == id.0 && q k) l l never (gains_none l) where
  never : (k : ℕ) → false ≡ (k == id.0 && q k)
  never k = elim (cases_eq k id.0) [
    | inl is ↦ sym (ap (λ (b : Bool). k == id.0 && b) (ap q is ∙ f) ∙ and-false (k == id.0))
    | inr ne ↦ sym (ap (λ (b : Bool). b && q k) (test_apart k id.0 ne))
  ]

pub have_still : (r : Registrations) (comes : ℕ → Bool) (old new : Lists) → HavePlaces r old → Gains comes old new → HavePlaces r new
have_still r comes old new have a id = a.places id ∙ have id

-- Over a list of keys.
pub record GainsOver (q : ℕ → Bool) (all : List EntryId) (rest : List EntryId) (old new : Lists) : Type 0 where
  pub done : List EntryId
  pub split : all ≡ done ++ rest
  pub gains : Gains (λ k. has_id done k && q k) old new

pub over_first : (q : ℕ → Bool) (all : List EntryId) (l : Lists) → GainsOver q all all l l
over_first q all l = record { done = []; split = refl; gains = gains_none l }

has_more : (ids : List EntryId) (id : EntryId) (k : ℕ) → has_id (ids ++ id ∷ []) k ≡ (has_id ids k || k == id.0)
has_more [] id k = or-false (k == id.0)
has_more (x ∷ ids) id k = ap (λ (b : Bool). nat_eq k x.0 || b) (has_more ids id k) ∙ or_assoc (nat_eq k x.0) (has_id ids k) (k == id.0)

and_or : (a b q : Bool) → (a && q || b && q) ≡ ((a || b) && q)
and_or true b true = refl
and_or true b false = none b
and_or false b q = refl

pub over_more : (q : ℕ → Bool) (all : List EntryId) (id : EntryId) (rest : List EntryId) (old mid new : Lists) → GainsOver q all (id ∷ rest) old mid → Gains (λ k. k == id.0 && q k) mid new → GainsOver q all rest old new
over_more q all id rest old mid new a b = record {
  done = a.done ++ id ∷ [];
  split = a.split ∙ sym (append_assoc a.done (id ∷ []) rest);
  gains = gains_same (λ k. has_id a.done k && q k || k == id.0 && q k) (λ k. has_id (a.done ++ id ∷ []) k && q k) old new (λ k. and_or (has_id a.done k) (k == id.0) (q k) ∙ ap (λ (b : Bool). b && q k) (sym (has_more a.done id k)))
      (gains_both (λ k. has_id a.done k && q k) (λ k. k == id.0 && q k) old mid new a.gains b);
}

pub over_all : (q : ℕ → Bool) (all : List EntryId) (old new : Lists) → GainsOver q all [] old new → Gains (λ k. has_id all k && q k) old new
over_all q all old new a = subst (λ (ids : List EntryId). Gains (λ k. has_id ids k && q k) old new) (sym (append-nil a.done) ∙ sym a.split) a.gains

-- Over the first of a list.
take_next : {A : Type 0} (xs : List A) (i : ℕ) (d : A) → i < length xs → take (suc i) xs ≡ take i xs ++ get_or xs i d ∷ []
take_next [] i d lt = absurd (omega arith)
take_next (x ∷ xs) zero d lt = refl
take_next (x ∷ xs) (suc i) d lt = ap (λ ys. x ∷ ys) (take_next xs i d (omega arith))

pub take_more : {A : Type 0} (xs : List A) (i : ℕ) (d : A) → i < length xs → take (i + 1) xs ≡ take i xs ++ get_or xs i d ∷ []
take_more xs i d lt = ap (λ n. take n xs) (sym (suc-eq-add-one i)) ∙ take_next xs i d lt

pub gains_next : (q : ℕ → Bool) (xs : List EntryId) (i : ℕ) (d : EntryId) (old mid new : Lists) → i < length xs → Gains (λ k. has_id (take i xs) k && q k) old mid → Gains (λ k. k == (get_or xs i d).0 && q k) mid new → Gains (λ k. has_id (take (i + 1) xs) k && q k) old new
gains_next q xs i d old mid new lt a b =
    gains_same (λ k. has_id (take i xs) k && q k || k == (get_or xs i d).0 && q k) (λ k. has_id (take (i + 1) xs) k && q k) old new
    (λ k. and_or (has_id (take i xs) k) (k == (get_or xs i d).0) (q k) ∙ ap (λ (b : Bool). b && q k) (sym (ap (λ (ids : List EntryId). has_id ids k) (take_more xs i d lt) ∙ has_more (take i xs) (get_or xs i d) k)))
    (gains_both (λ k. has_id (take i xs) k && q k) (λ k. k == (get_or xs i d).0 && q k) old mid new a b)

any_more : {A : Type 0} (f : A → Bool) (xs : List A) (x : A) → list_any f (xs ++ x ∷ []) ≡ (list_any f xs || f x)
any_more f [] x = or-false (f x)
any_more f (y ∷ xs) x = ap (λ (b : Bool). f y || b) (any_more f xs x) ∙ or_assoc (f y) (list_any f xs) (f x)

pub any_next : {A : Type 0} (f : A → ℕ → Bool) (xs : List A) (i : ℕ) (d : A) (old mid new : Lists) → i < length xs → Gains (λ k. list_any (λ x. f x k) (take i xs)) old mid → Gains (f (get_or xs i d)) mid new → Gains (λ k. list_any (λ x. f x k) (take (i + 1) xs)) old new
any_next f xs i d old mid new lt a b =
    gains_same (λ k. list_any (λ x. f x k) (take i xs) || f (get_or xs i d) k) (λ k. list_any (λ x. f x k) (take (i + 1) xs)) old new
    (λ k. sym (ap (list_any (λ x. f x k)) (take_more xs i d lt) ∙ any_more (λ x. f x k) (take i xs) (get_or xs i d)))
    (gains_both (λ k. list_any (λ x. f x k) (take i xs)) (f (get_or xs i d)) old mid new a b)

-- what passes something on is among those that pass
pub passing_only : (o : Option Entry) → (passes_on o && passes_found o) ≡ passes_found o
passing_only None = refl
passing_only (Some x) = twice (nat_lt 0 x.passes_in) (may_stand x) where
  twice : (a b : Bool) → (a && (a && b)) ≡ (a && b)
  twice true b = refl
  twice false b = refl
