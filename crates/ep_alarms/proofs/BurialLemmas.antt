-- The moments of timers, once the dead are gone.
use Rattle.std.proofs.Common.{◌≡◌, ◌≢◌, ◌∙◌, ◌==◌, ◌||◌, ◌++◌, ℕ, zero, suc, Bool, true, false, IsSome, List, [], ◌∷◌, None, Option, Some, ap, append-nil, arith, cond, get_or, if◌then◌else◌, inl, inr, is_some, length, length-set, map, nat_eq, refl, set, slice_index_or, subst, sym, unwrap_or}
use Rattle.std.specs.List.{list_any}
use Rattle.std.proofs.lemmas.Bool.{cases_Bool, cases_lt, false≢true}
use Rattle.std.proofs.lemmas.Bool.Decides.{eqb_tells}
use Rattle.std.proofs.lemmas.List.{get_or_past, get_or-set_same}
use Rattle.ep_facts.proofs.NatFacts.{same_test}
use Rattle.ep_facts.proofs.BoolFacts.{or_left, or_right}
use Rattle.ep_facts.proofs.ListFacts.{head_same, tail_same}
use Rattle.ep_law.proofs.ListLemmas.{any_has}
use Rattle.ep_base.specs.declared.ids.DescId.{DescId}
use Rattle.ep_calls.specs.Burial.{Burial}
use Rattle.ep_due.specs.DueMap.{Moments, moment_of}
use Rattle.ep_interest.specs.Registrations.{Registrations}
use Rattle.ep_law.proofs.DeathLemmas.{get_other}
use Rattle.ep_law.proofs.RaiseLemmas.{live_member, lived_before}
use Rattle.ep_machine.specs.Deaths.{die, die_all, kept_object}
use Rattle.ep_machine.specs.Files.{Files, Place, is_live, live, object_at, place_of}
use Rattle.ep_machine.specs.Lists.{is_among}
use Rattle.ep_machine.specs.Objects.{Object, close_end, plain, is_waiting}
use Rattle.ep_machine.specs.Timer.{Timer}
use Rattle.ep_alarms.proofs.SetLemmas.{some_none}
use Rattle.ep_alarms.specs.Alarms.{AreSet, IsSetFor, LosesDying}
use Rattle.ep_alarms.specs.Timers.{timer_at, timer_under}
use Rattle.ep_object.proofs.TimerLemmas.{close_keeps_timer}
use Rattle.ep_object.specs.Next.{timer_of}
use Rattle.ep_table.specs.Live.{key_of}
use Rattle.ep_table.specs.Value.{Seen, Sound, number_under}

abbrev timer_there : Files → ℕ → Option Timer
timer_there f k = timer_of (unwrap_or (slice_index_or f.objects k None) plain)

-- One death.
module _ (f : Files) (raised : List (ℕ × ℕ)) (x : ℕ × Place) where
  abbrev k : ℕ
  k = x.1.object

  abbrev rest : Files
  rest = record f { descriptions = set f.descriptions x.0 None }

  abbrev closed : Object
  closed = (close_end (unwrap_or (slice_index_or f.objects k None) plain) x.1.side).0

  abbrev g : Files
  g = (die (f, raised) x).0

  kept : (d : ℕ) (p : Place) → place_of g d ≡ Some p → p.object ≡ k → kept_object rest k closed ≡ Some closed
  kept d p here at = ap (λ (b : Bool). if b || is_waiting closed then Some closed else None) (any_has (λ (y : ℕ × Place). y.1.object == k) (live rest) (d, p) (live_member rest d p here) (same_test p.object k at))

  same_there : (d : ℕ) (p : Place) → place_of g d ≡ Some p → p.object ≡ k → timer_there g k ≡ timer_there f k
  same_there d p here at = elim (cases_lt k (length f.objects)) [
    | inl l ↦
        ap (λ (o : Option Object). timer_of (unwrap_or (get_or (set f.objects k o) k None) plain)) (kept d p here at)
        ∙ (ap (λ (o : Option Object). timer_of (unwrap_or o plain)) (get_or-set_same f.objects k (Some closed) None l)
        ∙ close_keeps_timer (unwrap_or (slice_index_or f.objects k None) plain) x.1.side)
    | inr past ↦
        let o = kept_object rest k closed in
        ap (λ (y : Option Object). timer_of (unwrap_or y plain)) (get_or_past (set f.objects k o) k None (omega (arith, past, length-set f.objects k o)) ∙ sym (get_or_past f.objects k None past))
  ]

  timer_left : (d : ℕ) (p : Place) → place_of g d ≡ Some p → timer_there g p.object ≡ timer_there f p.object
  timer_left d p here = elim (eqb_tells p.object k) [
    | inl t ↦ ap (timer_there g) t.1 ∙ (same_there d p here t.1 ∙ sym (ap (timer_there f) t.1))
    | inr t ↦ ap (λ (o : Option Object). timer_of (unwrap_or o plain)) (get_other f.objects k p.object (kept_object rest k closed) (λ e. t.1 (sym e)))
  ]

-- All of them.
timers_left : (f : Files) (raised : List (ℕ × ℕ)) (xs : List (ℕ × Place)) (d : ℕ) (p : Place) → place_of (die_all (f, raised) xs).0 d ≡ Some p → timer_there (die_all (f, raised) xs).0 p.object ≡ timer_there f p.object
timers_left f raised [] d p e = refl
timers_left f raised (x ∷ xs) d p e =
    let now = die (f, raised) x in
    timers_left now.0 now.1 xs d p e ∙ timer_left f raised x d p (lived_before now.0 now.1 xs d p e)

abbrev numbers : List (ℕ × Place) → List ℕ
numbers xs = map (λ x. x.0) xs

taken : (ds : List (Option Place)) (d : ℕ) → get_or (set ds d None) d None ≡ None
taken [] d = refl
taken (p ∷ ds) zero = refl
taken (p ∷ ds) (suc d) = taken ds d

others_stay : (ds : List (Option Place)) (k d : ℕ) → k ≢ d → get_or (set ds k None) d None ≡ get_or ds d None
others_stay [] k d h = refl
others_stay (p ∷ ds) zero zero h = absurd (h refl)
others_stay (p ∷ ds) zero (suc d) h = refl
others_stay (p ∷ ds) (suc k) zero h = refl
others_stay (p ∷ ds) (suc k) (suc d) h = others_stay ds k d (λ e. h (ap suc e))

place_none : (p : Place) → Some p ≡ None → ⊥
place_none p h = cc

not_dead : (f : Files) (raised : List (ℕ × ℕ)) (xs : List (ℕ × Place)) (d : ℕ) (p : Place) → place_of (die_all (f, raised) xs).0 d ≡ Some p → is_among (numbers xs) d ≡ false
not_dead f raised [] d p e = refl
not_dead f raised (x ∷ xs) d p e =
    let now = die (f, raised) x in
    elim (eqb_tells d x.0) [
      | inl t ↦
          let here : place_of now.0 d ≡ Some p = lived_before now.0 now.1 xs d p e in
          let none : place_of now.0 d ≡ None = ap (λ (j : ℕ). get_or (set f.descriptions j None) d None) (sym t.1) ∙ taken f.descriptions d in
          absurd (place_none p (sym here ∙ none))
      | inr t ↦ ap (λ (b : Bool). b || is_among (numbers xs) d) t.0 ∙ not_dead now.0 now.1 xs d p e
    ]

lives_on : (f : Files) (raised : List (ℕ × ℕ)) (xs : List (ℕ × Place)) (d : ℕ) (p : Place) → place_of f d ≡ Some p → is_among (numbers xs) d ≡ false → place_of (die_all (f, raised) xs).0 d ≡ Some p
lives_on f raised [] d p e out = e
lives_on f raised (x ∷ xs) d p e out =
    let now = die (f, raised) x in
    elim (eqb_tells d x.0) [
      | inl t ↦ absurd (false≢true (sym out ∙ ap (λ (b : Bool). b || is_among (numbers xs) d) t.0))
      | inr t ↦ lives_on now.0 now.1 xs d p (others_stay f.descriptions x.0 d (λ h. t.1 (sym h)) ∙ e) (ap (λ (b : Bool). b || is_among (numbers xs) d) (sym t.0) ∙ out)
    ]

-- Which keys they are.

abbrev is_one_of : List DescId → ℕ → Bool
is_one_of descs k = list_any (λ desc. nat_eq desc.0 k) descs

module _ (v : Seen) (k : ℕ) where
  dead_number : (descs : List DescId) (ds : List ℕ) → map (number_under v) descs ≡ map Some ds → is_one_of descs k ≡ true → (d : ℕ) × (number_under v (key_of k) ≡ Some d) × (is_among ds d ≡ true)
  dead_number [] ds e h = absurd (false≢true h)
  dead_number (desc ∷ descs) [] e h = absurd (cc)
  dead_number (desc ∷ descs) (d ∷ ds) e h = elim (eqb_tells desc.0 k) [
    | inl t ↦
        let its : number_under v (key_of k) ≡ Some d = ap (λ (j : ℕ). number_under v (key_of j)) (sym t.1) ∙ head_same (number_under v desc) (Some d) (map (number_under v) descs) (map Some ds) e in
        (d, its, or_left (d == d) (is_among ds d) (same_test d d refl))
    | inr t ↦
        let later = dead_number descs ds (tail_same (number_under v desc) (Some d) (map (number_under v) descs) (map Some ds) e) (ap (λ (b : Bool). b || is_one_of descs k) (sym t.0) ∙ h) in
        (later.0, later.1, or_right (later.0 == d) (is_among ds later.0) later.2)
  ]

  dead_key : Sound v → (descs : List DescId) (ds : List ℕ) → map (number_under v) descs ≡ map Some ds → (d : ℕ) → number_under v (key_of k) ≡ Some d → is_among ds d ≡ true → is_one_of descs k ≡ true
  dead_key sound [] [] e d its h = absurd (false≢true h)
  dead_key sound [] (x ∷ ds) e d its h = absurd (cc)
  dead_key sound (desc ∷ descs) [] e d its h = absurd (false≢true h)
  dead_key sound (desc ∷ descs) (x ∷ ds) e d its h = elim (eqb_tells d x) [
    | inl t ↦
        let own : number_under v desc ≡ Some d = head_same (number_under v desc) (Some x) (map (number_under v) descs) (map Some ds) e ∙ ap (λ (j : ℕ). Some j) (sym t.1) in
        or_left (nat_eq desc.0 k) (is_one_of descs k) (same_test desc.0 k (sound.one desc (key_of k) d own its))
    | inr t ↦
        or_right (nat_eq desc.0 k) (is_one_of descs k) (dead_key sound descs ds (tail_same (number_under v desc) (Some x) (map (number_under v) descs) (map Some ds) e) d its
        (ap (λ (b : Bool). b || is_among ds d) (sym t.0) ∙ h))
  ]

a_place : (o : Option Place) → IsSome o → (p : Place) × (o ≡ Some p)
a_place None h = absurd cc
a_place (Some p) h = (p, refl)

module _ (n : ℕ) (v w : Seen) (r q : Registrations) (now : ℕ) (a b : Moments) (burial : Burial n v r w q) (sound : Sound w) (are_set : AreSet v now a) (loses : LosesDying v a b) where
  abbrev dead : List (ℕ × Place)
  dead = burial.buries.dead

  all_dead : map (number_under v) loses.descs ≡ map Some (numbers dead)
  all_dead = loses.dying ∙ ap (map Some) (sym (sym (append-nil (numbers dead)) ∙ (ap (λ (ds : List ℕ). numbers dead ++ ds) (sym burial.none) ∙ burial.buries.numbers)))

  -- what is left
  left : (k d : ℕ) → number_under w (key_of k) ≡ Some d → IsSetFor (timer_under w k) now (moment_of b k)
  left k d is =
      let was : number_under v (key_of k) ≡ Some d = burial.buries.keys (key_of k) d is in
      let p = a_place (place_of w.files d) (sound.place (key_of k) d is) in
      let here : place_of (die_all (v.files, []) dead).0 d ≡ Some p.0 = ap (λ (f : Files). place_of f d) (sym burial.buries.files) ∙ p.1 in
      let before : place_of v.files d ≡ Some p.0 = lived_before v.files [] dead d p.0 here in
      let out : is_one_of loses.descs k ≡ false = elim (cases_Bool (is_one_of loses.descs k)) [
        | inl y ↦ absurd (
            let one = dead_number v k loses.descs (numbers dead) all_dead y in
            let same : Some one.0 ≡ Some d = sym one.1 ∙ was in
            let eq : one.0 ≡ d = cc in
            false≢true (sym (not_dead v.files [] dead d p.0 here) ∙ (ap (is_among (numbers dead)) (sym eq) ∙ one.2)))
        | inr out_of ↦ out_of
      ] in
      let moment : moment_of a k ≡ moment_of b k = sym (loses.moments k ∙ ap (λ (t : Bool). cond t None (moment_of a k)) out) in
      let in_old : timer_under v k ≡ timer_there v.files p.0.object = ap (timer_at v.files) was ∙ ap (λ (o : Option Place). timer_of (unwrap_or (object_at v.files o) plain)) before in
      let in_new : timer_under w k ≡ timer_there w.files p.0.object = ap (timer_at w.files) is ∙ ap (λ (o : Option Place). timer_of (unwrap_or (object_at w.files o) plain)) p.1 in
      let same : timer_under v k ≡ timer_under w k = in_old ∙ (sym (timers_left v.files [] dead d p.0 here) ∙ (ap (λ (f : Files). timer_there f p.0.object) (sym burial.buries.files) ∙ sym in_new)) in
      subst (IsSetFor (timer_under w k) now) moment (subst (λ (t : Option Timer). IsSetFor t now (moment_of a k)) same (are_set k))

  none_either : (t : Bool) (o : Option (Option ℕ)) → o ≡ None → cond t None o ≡ None
  none_either true o h = refl
  none_either false o h = h

  -- what is gone
  gone : (k : ℕ) → number_under w (key_of k) ≡ None → (o : Option ℕ) → number_under v (key_of k) ≡ o → moment_of b k ≡ None
  gone k is None was = loses.moments k ∙ none_either (is_one_of loses.descs k) (moment_of a k) (subst (λ (t : Option Timer). IsSetFor t now (moment_of a k)) (ap (timer_at v.files) was) (are_set k))
  gone k is (Some d) was = elim (cases_Bool (is_among (numbers dead) d)) [
    | inl y ↦ loses.moments k ∙ ap (λ (t : Bool). cond t None (moment_of a k)) (dead_key v k burial.sound loses.descs (numbers dead) all_dead d was y)
    | inr out_of ↦
        let p = a_place (place_of v.files d) (burial.sound.place (key_of k) d was) in
        let here : place_of w.files d ≡ Some p.0 = ap (λ (f : Files). place_of f d) burial.buries.files ∙ lives_on v.files [] dead d p.0 p.1 out_of in
        let lives : is_live w.files d ≡ true = ap (λ (o : Option Place). is_some o) here in
        let key = sound.keyed d lives in
        let own : key.0.0 ≡ k = burial.sound.one key.0 (key_of k) d (burial.buries.keys key.0 d key.1) was in
        absurd (some_none d (sym key.1 ∙ (ap (λ (j : ℕ). number_under w (key_of j)) own ∙ is)))
  ]

  at_number : (k : ℕ) (o : Option ℕ) → number_under w (key_of k) ≡ o → IsSetFor (timer_under w k) now (moment_of b k)
  at_number k None is = subst (λ (t : Option Timer). IsSetFor t now (moment_of b k)) (sym (ap (timer_at w.files) is)) (gone k is (number_under v (key_of k)) refl)
  at_number k (Some d) is = left k d is

  -- each timer that lives has its moment
  pub set_buried : AreSet w now b
  set_buried k = at_number k (number_under w (key_of k)) refl
