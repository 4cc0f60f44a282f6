-- Connections are no timers: those that are let go or accepted leave each timer as it was.
use Rattle.std.proofs.Common.{◌≡◌, ◌∙◌, ◌++◌, ◌∷◌, ◌==◌, ◌||◌, [], ℕ, Bool, true, false, List, None, Option, Some, ap, arith, if◌then◌else◌, inl, inr, length, refl, slice_index_or, slice_set, sym, unwrap_or}
use Rattle.std.specs.List.{list_any}
use Rattle.std.proofs.lemmas.Bool.{cases_eq, cases_lt}
use Rattle.std.proofs.lemmas.List.{get_or-set_other, get_or-set_same, get_or_past, length-set}
use Rattle.ep_base.specs.declared.object.End.TheVariants.{Second}
use Rattle.ep_law.proofs.InstanceLemmas.{first_waits}
use Rattle.ep_machine.specs.Connections.{accept, accepted, first_waiting, let_all_go, let_go, without_pending}
use Rattle.ep_machine.specs.Files.{Files, Place, content_at, live, place_of, raised_at, with_object}
use Rattle.ep_machine.specs.Objects.{Object, close_end, is_waiting, listener, plain}
use Rattle.ep_machine.specs.Timer.{Timer}
use Rattle.ep_alarms.proofs.AreSetLemmas.{timer_in}
use Rattle.ep_alarms.proofs.MadeLemmas.{described, described_last, past_none, placed_is, timer_placed}
use Rattle.ep_object.specs.Next.{timer_of}

-- A connection that waits, closed or accepted.
waiting_timer : (x : Object) → is_waiting x ≡ true → timer_of x ≡ None
waiting_timer plain h = cc
waiting_timer x h = cc

closed_timer : (x : Object) → is_waiting x ≡ true → timer_of (close_end x Second).0 ≡ None
closed_timer plain h = cc
closed_timer x h = cc

accepted_timer : (x : Object) → is_waiting x ≡ true → timer_of (accepted x) ≡ None
accepted_timer plain h = cc
accepted_timer x h = cc

pending_timer : (k : ℕ) (x : Object) → timer_of (without_pending k x) ≡ timer_of x
pending_timer k (listener l) = refl
pending_timer k x = refl

-- One object gives way to another that is no timer either.
abbrev timer_there : List (Option Object) → ℕ → Option Timer
timer_there os j = timer_of (unwrap_or (slice_index_or os j None) plain)

module _ (os : List (Option Object)) (k : ℕ) (o : Option Object) (same : timer_of (unwrap_or o plain) ≡ timer_there os k) where
  set_there : (j : ℕ) → timer_there (slice_set os k o) j ≡ timer_there os j
  set_there j = elim (cases_eq j k) [
    | inl is ↦ ap (timer_there (slice_set os k o)) is ∙ (own ∙ sym (ap (timer_there os) is))
    | inr ne ↦ ap (λ (x : Option Object). timer_of (unwrap_or x plain)) (get_or-set_other os k j o None ne)
  ] where
    own : timer_there (slice_set os k o) k ≡ timer_there os k
    own = elim (cases_lt k (length os)) [
      | inl within ↦ ap (λ (x : Option Object). timer_of (unwrap_or x plain)) (get_or-set_same os k o None within) ∙ same
      | inr past ↦
          ap (λ (x : Option Object). timer_of (unwrap_or x plain)) (get_or_past (slice_set os k o) k None (let l = length-set os k o in omega (arith, l, past)))
          ∙ sym (ap (λ (x : Option Object). timer_of (unwrap_or x plain)) (get_or_past os k None past))
    ]

  set_placed : (p : Option Place) → timer_placed (slice_set os k o) p ≡ timer_placed os p
  set_placed None = refl
  set_placed (Some p) = set_there p.object

set_left : (f : Files) (k : ℕ) (o : Option Object) → timer_of (unwrap_or o plain) ≡ timer_there f.objects k → (d : ℕ) → timer_in (record f { objects = slice_set f.objects k o }) d ≡ timer_in f d
set_left f k o same d =
    placed_is (record f { objects = slice_set f.objects k o }) (place_of f d) ∙ (set_placed f.objects k o same (place_of f d) ∙ sym (placed_is f (place_of f d)))

-- What waits is let go.
gone_timer : (b : Bool) (x : Object) → is_waiting x ≡ true → timer_of (unwrap_or (if b then Some (close_end x Second).0 else None) plain) ≡ timer_of x
gone_timer true x h = closed_timer x h ∙ sym (waiting_timer x h)
gone_timer false x h = sym (waiting_timer x h)

goes_left : (f : Files) (raised : List (ℕ × ℕ)) (k d : ℕ) → timer_in (let_go (f, raised) k).0 d ≡ timer_in f d
goes_left f raised k d = by_test (is_waiting (content_at f k)) refl where
  kept : Bool
  kept = list_any (λ y. y.1.object == k) (live f) || is_waiting (close_end (content_at f k) Second).0

  gone : Option Object
  gone = if kept then Some (close_end (content_at f k) Second).0 else None

  either : Bool → Files × List (ℕ × ℕ)
  either b = if b then (record f { objects = slice_set f.objects k gone }, raised ++ raised_at f k (close_end (content_at f k) Second).1) else (f, raised)

  by_test : (b : Bool) → is_waiting (content_at f k) ≡ b → timer_in (either b).0 d ≡ timer_in f d
  by_test true h = set_left f k gone (gone_timer kept (content_at f k) h) d
  by_test false h = refl

pub all_left : (f : Files) (raised : List (ℕ × ℕ)) (ks : List ℕ) (d : ℕ) → timer_in (let_all_go (f, raised) ks).0 d ≡ timer_in f d
all_left f raised [] d = refl
all_left f raised (k ∷ ks) d =
    let next = let_go (f, raised) k in
    all_left next.0 next.1 ks d ∙ goes_left f raised k d

-- One is accepted.
module _ (f : Files) (p m k : ℕ) (cloexec : Bool) (waits : is_waiting (content_at f k) ≡ true) where
  abbrev left : Files
  left = with_object f m (without_pending k (content_at f m))

  abbrev made : Files
  made = with_object left k (accepted (content_at f k))

  listener_left : (j : ℕ) → timer_there left.objects j ≡ timer_there f.objects j
  listener_left = set_there f.objects m (Some (without_pending k (content_at f m))) (pending_timer k (content_at f m))

  same_there : timer_of (accepted (content_at f k)) ≡ timer_there left.objects k
  same_there = accepted_timer (content_at f k) waits ∙ (sym (waiting_timer (content_at f k) waits) ∙ sym (listener_left k))

  made_left : (d : ℕ) → timer_in made d ≡ timer_in f d
  made_left d = set_left left k (Some (accepted (content_at f k))) same_there d ∙ set_left f m (Some (without_pending k (content_at f m))) (pending_timer k (content_at f m)) d

  none_there : timer_there made.objects k ≡ None
  none_there = set_there left.objects k (Some (accepted (content_at f k))) same_there k ∙ (listener_left k ∙ waiting_timer (content_at f k) waits)

  accepted_left : (d : ℕ) → timer_in (accept f p m (Some k) cloexec) d ≡ timer_in f d
  accepted_left d = elim (cases_eq d (length f.descriptions)) [
    | inl is ↦
        ap (timer_in (accept f p m (Some k) cloexec)) is
        ∙ (described_last made p k Second cloexec ∙ (none_there ∙ (sym (past_none made p k Second cloexec) ∙ (made_left (length f.descriptions) ∙ sym (ap (timer_in f) is)))))
    | inr ne ↦ described made p k Second cloexec d ne ∙ made_left d
  ]

pub accept_left : (f : Files) (p m : ℕ) (ks : List ℕ) (cloexec : Bool) (d : ℕ) → timer_in (accept f p m (first_waiting f ks) cloexec) d ≡ timer_in f d
accept_left f p m ks cloexec d = by_found (first_waiting f ks) refl where
  by_found : (o : Option ℕ) → first_waiting f ks ≡ o → timer_in (accept f p m o cloexec) d ≡ timer_in f d
  by_found None is = refl
  by_found (Some k) is = accepted_left f p m k cloexec (first_waits f ks k is) d
