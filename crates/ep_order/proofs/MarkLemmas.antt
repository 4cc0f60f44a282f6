-- A ready instance that has waiters and lost its mark, or begins to be ready.
use Rattle.std.proofs.Common.{◌≡◌, ℕ, zero, suc, ◌+◌, ◌==◌, ◌&&◌, ◌||◌, ◌++◌, ◌⊎◌, ◌∙◌, All, Bool, List, [], ◌∷◌, MatchOption, None, Option, Some, ℤ, pos, negsuc, true, false, not, ap, arith, cond, filter, if◌then◌else◌, inl, inr, map, nat_eq, refl, subst, sym}
use Rattle.std.specs.List.{AllByRecursion, IsDistinct, find, list_any}
use Rattle.std.proofs.lemmas.Bool.{cases_Bool, false≢true}
use Rattle.ep_base.specs.Limits.{Limits}
use Rattle.ep_base.specs.declared.counts.Counts.{Counts}
use Rattle.ep_base.specs.declared.answer.Answer.TheVariants.{Events, Still}
use Rattle.ep_base.specs.declared.call.Call.{Call}
use Rattle.ep_base.specs.declared.call.Call.TheVariants.{EpollCtl, EpollWait}
use Rattle.ep_base.specs.declared.call.Event.{Event}
use Rattle.ep_base.specs.declared.call.Event.TheVariants.{Call as CallOf, Resume, Tick}
use Rattle.ep_machine.specs.Files.{named_by, object_of}
use Rattle.ep_law.specs.Laws.{Member}
use Rattle.ep_view.proofs.KindLemmas.{instance_of_kind}
use Rattle.ep_machine.specs.Objects.{instance, asks}
use Rattle.ep_view.specs.AtRest.{AtRest, kind_of, marks_at_end}
use Rattle.ep_machine.specs.Readiness.{is_ready, is_reportable}
use Rattle.ep_machine.specs.Report.{is_pick, plainly, report}
use Rattle.ep_machine.specs.Settle.{settle, came, reportable_numbers}
use Rattle.ep_machine.specs.State.{Change, State, Waiter, Watch}
use Rattle.ep_machine.specs.Step.{call_change, change, next_event}
use Rattle.ep_machine.specs.Waits.{is_marked_at, leave_after, resume, resume_by, tick, unmark, wait_for, waiter_of, waits_at}
use Rattle.ep_machine.specs.Watches.{ctl, is_add, is_del, number_in}
use Rattle.ep_law.proofs.StepLemmas.{change_counted, only_files}
use Rattle.ep_law.proofs.MarkLemmas.{marked_parts, ready_marked, ready_same, guarded_same}
use Rattle.ep_view.proofs.AtRestLemmas.{quiet_begun, quiet_change, quiet_run}
use Rattle.ep_view.proofs.SettleLemmas.{quiet_settled, settle_changed}
use Rattle.ep_object.specs.Law.{AdvanceLaw, ApplyLaw, CloseLaw}
use Rattle.ep_view.proofs.RaisedLemmas.{in_spread_at_instance}
use Rattle.ep_law.proofs.GraphLemmas.{linked_begun, linked_change, linked_run}
use Rattle.ep_order.specs.Mark.{ResumesAt, UnmarkedAreReached, UnmarkedAreWoken, unmarked_end}
use Rattle.ep_law.proofs.BeginningLemmas.{instance_begins}
use Rattle.ep_machine.specs.Exclusive.{is_guarded, is_left}
use Rattle.ep_machine.specs.Deaths.{buried}
use Rattle.ep_machine.specs.Spread.{arrived, is_reached, is_reached_within, passes_on_by, raised_alive, raised_of, reaching_of, spread}
use Rattle.ep_machine.specs.Lists.{is_among}
use Rattle.std.specs.Prelude.{bit_or}
use Rattle.std.specs.Int.{bit_at}
use Rattle.ep_law.proofs.ListLemmas.{any_has}
use Rattle.ep_facts.proofs.BoolFacts.{first_of_and, or_left, or_right}
use Rattle.ep_facts.proofs.NatFacts.{from_test, not_apart}
use Rattle.ep_law.proofs.RegularLemmas.{changes_are_regular}
use Rattle.ep_law.proofs.NarrowLemmas.{in_has}
use Rattle.ep_law.proofs.GuardLemmas.{unguarded_spread}
use Rattle.std.proofs.Common.{ap}

abbrev pub at_any : ℕ → List ℕ → Bool
at_any e ks = list_any (λ k. k == e) ks

pub waits_by : (ws : List Waiter) (e : ℕ) → waits_at ws e ≡ at_any e (map (λ w. w.instance) ws)
waits_by [] e = refl
waits_by (w ∷ ws) e = ap (λ (b : Bool). w.instance == e || b) (waits_by ws e)

pub waiter_there : (P : Waiter → Type 0) (ws : List Waiter) (e : ℕ) → All P ws → waits_at ws e ≡ true → (w : Waiter) × P w × (w.instance ≡ e)
waiter_there P [] e h t = absurd (false≢true t)
waiter_there P (w ∷ ws) e h t = elim (cases_Bool (w.instance == e)) [
  | inl here ↦ (w, h 0 w (omega arith), from_test w.instance e here)
  | inr other ↦ waiter_there P ws e (λ k d lt. h (suc k) d (omega (arith, lt))) (sym (ap (λ (b : Bool). b || waits_at ws e) other) ∙ t)
]

-- from state b: where an instance has waiters and was ready, it had waiters, and a mark at it stays
record Stays (b u : State) (e : ℕ) : Type 0 where
  pub waits : waits_at u.waiters e ≡ true → is_ready b e ≡ true → waits_at b.waiters e ≡ true
  pub marks : is_marked_at b.waiters e ≡ true → is_marked_at u.waiters e ≡ true

stays_same : (b u : State) (e : ℕ) → u.waiters ≡ b.waiters → Stays b u e
stays_same b u e h = record {
  waits = λ t r. ap (λ (ws : List Waiter). waits_at ws e) (sym h) ∙ t;
  marks = λ t. ap (λ (ws : List Waiter). is_marked_at ws e) h ∙ t;
}

pushed_waits : (ws : List Waiter) (w : Waiter) (e : ℕ) → waits_at (ws ++ w ∷ []) e ≡ true → (w.instance == e) ≡ false → waits_at ws e ≡ true
pushed_waits [] w e h f = absurd (false≢true (sym (ap (λ (b : Bool). b || false) f) ∙ h))
pushed_waits (v ∷ ws) w e h f = elim (cases_Bool (v.instance == e)) [
  | inl t ↦ or_left _ _ t
  | inr n ↦ or_right _ _ (pushed_waits ws w e (sym (ap (λ (b : Bool). b || waits_at (ws ++ w ∷ []) e) n) ∙ h) f)
]

pushed_marks : (ws : List Waiter) (w : Waiter) (e : ℕ) → is_marked_at ws e ≡ true → is_marked_at (ws ++ w ∷ []) e ≡ true
pushed_marks [] w e h = absurd (false≢true h)
pushed_marks (v ∷ ws) w e h = elim (cases_Bool (v.instance == e && v.marked)) [
  | inl t ↦ or_left _ _ t
  | inr n ↦ or_right _ _ (pushed_marks ws w e (sym (ap (λ (b : Bool). b || is_marked_at ws e) n) ∙ h))
]

-- epoll_ctl leaves who waits
pub ctl_waiters : (b : State) (p : ℕ) (epfd op fd : ℤ) (mask tag : ℕ) → (ctl b p epfd op fd mask tag).1.waiters ≡ b.waiters
ctl_waiters b p epfd op fd mask tag = by (is_add op) (is_del op) _ _ _ refl refl refl where
  by : (x y : Bool) (a d m : Change) → a.1.waiters ≡ b.waiters → d.1.waiters ≡ b.waiters → m.1.waiters ≡ b.waiters → (cond x a (cond y d m)).1.waiters ≡ b.waiters
  by true y a d m p q r = p
  by false true a d m p q r = q
  by false false a d m p q r = r

-- One event.
module _ (limits : Limits) (b : State) (e : ℕ) where
  StaysAfter : Option Change → Type 0
  StaysAfter c = MatchOption c (Unit {0}) (λ o. Stays b o.1 e)

  stays_after_plainly : (ks : List ℕ) (c : Change) → Stays b c.1 e → StaysAfter (plainly ks c)
  unfolding StaysAfter
  stays_after_plainly [] c g = g
  stays_after_plainly (k ∷ ks) c g = tt

  stays_after_same : (ks : List ℕ) (c : Change) → c.1.waiters ≡ b.waiters → StaysAfter (plainly ks c)
  stays_after_same ks c h = stays_after_plainly ks c (stays_same b c.1 e h)

  stays_after_report : (i most : ℕ) (ks : List ℕ) → StaysAfter (report b i most ks)
  unfolding StaysAfter
  stays_after_report i most ks = by (is_pick b i most ks) _ _ where
    by : (d : Bool) (a : _) (ws : _) → StaysAfter (cond d (Some (a, record b { watches = ws }, [])) None)
    by true a ws = stays_same b (record b { watches = ws }) e refl
    by false a ws = tt

  stays_wait_for : (caller p i most : ℕ) (timeout : ℤ) → is_ready b i ≡ false → Stays b (wait_for b caller p i most timeout).1 e
  stays_wait_for caller p i most timeout silent = by timeout where
    one : (w : Waiter) → w.instance ≡ i → Stays b (record b { waiters = b.waiters ++ w ∷ [] }) e
    one w at = record {
      waits = λ t r. pushed_waits b.waiters w e t (elim (cases_Bool (w.instance == e)) [
        | inl here ↦ absurd (false≢true (sym silent ∙ (ap (is_ready b) (sym at ∙ from_test w.instance e here) ∙ r)))
        | inr f ↦ f
      ]);
      marks = λ t. pushed_marks b.waiters w e t;
    }

    by : (t : ℤ) → Stays b (wait_for b caller p i most t).1 e
    by (pos zero) = stays_same b b e refl
    by (pos (suc k)) = one _ refl
    by (negsuc k) = one _ refl

  stays_after_wait : (caller p i most : ℕ) (timeout : ℤ) (ks : List ℕ) → StaysAfter (cond (is_ready b i) (report b i most ks) (plainly ks (wait_for b caller p i most timeout)))
  stays_after_wait caller p i most timeout ks = elim (cases_Bool (is_ready b i)) [
    | inl r ↦ subst (λ (d : Bool). StaysAfter (cond d (report b i most ks) (plainly ks (wait_for b caller p i most timeout)))) (sym r) (stays_after_report i most ks)
    | inr n ↦ subst (λ (d : Bool). StaysAfter (cond d (report b i most ks) (plainly ks (wait_for b caller p i most timeout)))) (sym n) (stays_after_plainly ks _ (stays_wait_for caller p i most timeout n))
  ]

  stays_after_call : (caller p : ℕ) (call : Call) (ks : List ℕ) → StaysAfter (call_change limits b caller p call ks)
  stays_after_call caller p (EpollCtl epfd op fd mask tag) ks = stays_after_same ks _ (ctl_waiters b p epfd.0 op fd.0 mask.0 tag)
  stays_after_call caller p (EpollWait epfd most timeout) ks = stays_after_wait caller p (named_by b.files p epfd.0) (number_in most) timeout ks
  stays_after_call caller p call ks = stays_after_same ks _ (ap (λ (t : State). t.waiters) (only_files limits b p call (asks b.files.objects call)).1)

apart_caller : (c : ℕ) (ws : List Waiter) (v : Waiter) → AllByRecursion (λ k. nat_eq c k ≡ false) (map (λ w. w.caller) ws) → Member v ws → nat_eq c v.caller ≡ false
apart_caller c [] v h m = absurd m
apart_caller c (w ∷ ws) v h (inl e) = ap (λ (u : Waiter). nat_eq c u.caller) e ∙ h.0
apart_caller c (w ∷ ws) v h (inr m) = apart_caller c ws v h.1 m

-- a caller has one waiter
pub one_caller : (ws : List Waiter) (v w : Waiter) → IsDistinct nat_eq (map (λ u. u.caller) ws) → Member v ws → Member w ws → v.caller ≡ w.caller → v ≡ w
unfolding IsDistinct
one_caller [] v w h m n e = absurd m
one_caller (u ∷ ws) v w h (inl a) (inl c) e = a ∙ sym c
one_caller (u ∷ ws) v w h (inl a) (inr n) e = absurd (not_apart u.caller w.caller (apart_caller u.caller ws w h.0 n) (sym (ap (λ (x : Waiter). x.caller) a) ∙ e))
one_caller (u ∷ ws) v w h (inr m) (inl c) e = absurd (not_apart u.caller v.caller (apart_caller u.caller ws v h.0 m) (sym (ap (λ (x : Waiter). x.caller) c) ∙ sym e))
one_caller (u ∷ ws) v w h (inr m) (inr n) e = one_caller ws v w h.1 m n e

pub found_waiter : (ws : List Waiter) (caller : ℕ) (w : Waiter) → find (λ v. v.caller == caller) ws ≡ Some w → Member w ws
found_waiter [] caller w h = cc
found_waiter (v ∷ ws) caller w h = elim (cases_Bool (v.caller == caller)) [
  | inl t ↦ let same : Some v ≡ Some w = sym (ap (λ (b : Bool). cond b (Some v) (find (λ u. u.caller == caller) ws)) t) ∙ h in let e : w ≡ v = cc in inl e
  | inr f ↦ inr (found_waiter ws caller w (sym (ap (λ (b : Bool). cond b (Some v) (find (λ u. u.caller == caller) ws)) f) ∙ h))
]

-- whoever waits at another instance is another caller
abbrev AreOthers : ℕ → ℕ → List Waiter → Type 0
AreOthers c e ws = (v : Waiter) → Member v ws → (v.instance == e) ≡ true → (v.caller == c) ≡ false

left_waits : (p : Waiter → Bool) (ws : List Waiter) (e : ℕ) → waits_at (filter p ws) e ≡ true → waits_at ws e ≡ true
left_waits p [] e h = h
left_waits p (w ∷ ws) e h =
    elim (p w) as (λ d. waits_at (cond d (w ∷ filter p ws) (filter p ws)) e ≡ true → waits_at (w ∷ ws) e ≡ true) [
      | true ↦ λ t. elim (cases_Bool (w.instance == e)) [ inl here ↦ or_left _ _ here | inr f ↦ or_right _ _ (left_waits p ws e (sym (ap (λ (d : Bool). d || waits_at (filter p ws) e) f) ∙ t)) ]
      | false ↦ λ t. or_right _ _ (left_waits p ws e t)
    ] h

left_marks : (c : ℕ) (ws : List Waiter) (e : ℕ) → AreOthers c e ws → is_marked_at ws e ≡ true → is_marked_at (filter (λ w. not (w.caller == c)) ws) e ≡ true
left_marks c [] e others h = h
left_marks c (w ∷ ws) e others h =
    let rest = left_marks c ws e (λ v m. others v (inr m)) in
    elim (cases_Bool (w.instance == e && w.marked)) [
      | inl here ↦
          let stays : (w.caller == c) ≡ false = others w (inl refl) (first_of_and _ _ here) in
          ap (λ (d : Bool). is_marked_at (cond (not d) (w ∷ filter (λ v. not (v.caller == c)) ws) (filter (λ v. not (v.caller == c)) ws)) e) stays ∙ or_left _ _ here
      | inr f ↦
          let more = rest (sym (ap (λ (d : Bool). d || is_marked_at ws e) f) ∙ h) in
          elim (w.caller == c) as (λ d. is_marked_at (cond (not d) (w ∷ filter (λ v. not (v.caller == c)) ws) (filter (λ v. not (v.caller == c)) ws)) e ≡ true) [ true ↦ more | false ↦ or_right _ _ more ]
    ]

unmarked_waits : (c : ℕ) (ws : List Waiter) (e : ℕ) → waits_at (map (unmark c) ws) e ≡ waits_at ws e
unmarked_waits c [] e = refl
unmarked_waits c (w ∷ ws) e = ap (λ (b : Bool). w.instance == e || b) (unmarked_waits c ws e)

unmarked_marks : (c : ℕ) (ws : List Waiter) (e : ℕ) → AreOthers c e ws → is_marked_at ws e ≡ true → is_marked_at (map (unmark c) ws) e ≡ true
unmarked_marks c [] e others h = h
unmarked_marks c (w ∷ ws) e others h = elim (cases_Bool (w.instance == e && w.marked)) [
  | inl here ↦
      let stays : (w.caller == c) ≡ false = others w (inl refl) (first_of_and _ _ here) in
      or_left _ _ (ap (λ (d : Bool). w.instance == e && (w.marked && not d)) stays ∙ same (w.instance == e) w.marked here)
  | inr f ↦ or_right _ _ (unmarked_marks c ws e (λ v m. others v (inr m)) (sym (ap (λ (d : Bool). d || is_marked_at ws e) f) ∙ h))
] where
  same : (a b : Bool) → (a && b) ≡ true → (a && (b && true)) ≡ true
  same true true h = refl
  same true false h = cc
  same false b h = cc

-- A resumption.
module _ (limits : Limits) (b : State) (e caller : ℕ) (distinct : IsDistinct nat_eq (map (λ w. w.caller) b.waiters)) where
  stays_left : (w : Waiter) → AreOthers w.caller e b.waiters → (u : State) → u.waiters ≡ filter (λ v. not (v.caller == w.caller)) b.waiters → Stays b u e
  stays_left w others u is = record {
    waits = λ t r. left_waits (λ v. not (v.caller == w.caller)) b.waiters e (ap (λ (ws : List Waiter). waits_at ws e) (sym is) ∙ t);
    marks = λ t. ap (λ (ws : List Waiter). is_marked_at ws e) is ∙ left_marks w.caller b.waiters e others t;
  }

  module _ (w : Waiter) (others : AreOthers w.caller e b.waiters) (ks : List ℕ) where
    stays_after_gone : StaysAfter limits b e (leave_after w.caller (report b w.instance w.most ks))
    unfolding StaysAfter
    stays_after_gone = by (is_pick b w.instance w.most ks) _ _ where
      by : (d : Bool) (a : _) (ws : _) → MatchOption (leave_after w.caller (cond d (Some (a, record b { watches = ws }, [])) None)) (Unit {0}) (λ o. Stays b o.1 e)
      by true a ws = stays_left w others _ refl
      by false a ws = tt

    stays_after_empty : (d : Bool) → StaysAfter limits b e (plainly ks (cond d (Events [], record b { waiters = filter (λ v. not (v.caller == w.caller)) b.waiters }, []) (Still, record b { waiters = map (unmark w.caller) b.waiters }, [])))
    stays_after_empty true = stays_after_plainly limits b e ks _ (stays_left w others _ refl)
    stays_after_empty false = stays_after_plainly limits b e ks _ (record { waits = λ t r. sym (unmarked_waits w.caller b.waiters e) ∙ t; marks = λ t. unmarked_marks w.caller b.waiters e others t })

    stays_after_marked : (d r q : Bool) → StaysAfter limits b e (if not d then plainly ks (Still, b, []) else if r then leave_after w.caller (report b w.instance w.most ks) else plainly ks (cond q (Events [], record b { waiters = filter (λ v. not (v.caller == w.caller)) b.waiters }, []) (Still, record b { waiters = map (unmark w.caller) b.waiters }, [])))
    stays_after_marked false r q = stays_after_same limits b e ks _ refl
    stays_after_marked true true q = stays_after_gone
    stays_after_marked true false q = stays_after_empty q

  -- or leaves the instance
  LeftAfter : Option Change → Type 0
  LeftAfter c = MatchOption c (Unit {0}) (λ o. is_left b o.1 e ≡ true)

  gone_left : (w : Waiter) → Member w b.waiters → (w.instance == e) ≡ true → list_any (λ v. v.instance == e && not (list_any (λ x. x.caller == v.caller) (filter (λ u. not (u.caller == w.caller)) b.waiters))) b.waiters ≡ true
  gone_left w m here =
      any_has (λ v. v.instance == e && not (list_any (λ x. x.caller == v.caller) (filter (λ u. not (u.caller == w.caller)) b.waiters))) b.waiters w m
      (λ i. here i && not (none_of w.caller b.waiters i)) where
        none_of : (c : ℕ) (ws : List Waiter) → list_any (λ x. x.caller == c) (filter (λ v. not (v.caller == c)) ws) ≡ false
        none_of c [] = refl
        none_of c (v ∷ ws) = by (v.caller == c) refl (none_of c ws) where
          by : (d : Bool) → (v.caller == c) ≡ d → list_any (λ x. x.caller == c) (filter (λ x. not (x.caller == c)) ws) ≡ false → list_any (λ x. x.caller == c) (cond (not d) (v ∷ filter (λ x. not (x.caller == c)) ws) (filter (λ x. not (x.caller == c)) ws)) ≡ false
          by true is rest = rest
          by false is rest = λ i. is i || rest i

  module _ (w : Waiter) (m : Member w b.waiters) (here : (w.instance == e) ≡ true) (ks : List ℕ) (ready : is_ready b w.instance ≡ true) where
    leaves_after_gone : LeftAfter (leave_after w.caller (report b w.instance w.most ks))
    unfolding LeftAfter
    leaves_after_gone = by (is_pick b w.instance w.most ks) _ _ where
      by : (d : Bool) (a : _) (ws : _) → MatchOption (leave_after w.caller (cond d (Some (a, record b { watches = ws }, [])) None)) (Unit {0}) (λ o. is_left b o.1 e ≡ true)
      by true a ws = gone_left w m here
      by false a ws = tt

    leaves_or_stays : (d r : Bool) (o : Option Change) → r ≡ true
        → LeftAfter (if not d then plainly ks (Still, b, []) else if r then leave_after w.caller (report b w.instance w.most ks) else o) ⊎ StaysAfter limits b e (if not d then plainly ks (Still, b, []) else if r then leave_after w.caller (report b w.instance w.most ks) else o)
    leaves_or_stays false r o h = inr (stays_after_same limits b e ks _ refl)
    leaves_or_stays true true o h = inl leaves_after_gone
    leaves_or_stays true false o h = absurd (false≢true h)

  stays_after_resume : (ks : List ℕ) → is_ready b e ≡ true → (LeftAfter (resume b caller ks) × ResumesAt b caller Resume e) ⊎ StaysAfter limits b e (resume b caller ks)
  stays_after_resume ks ready = by (waiter_of b caller) refl where
    by : (o : Option Waiter) → waiter_of b caller ≡ o → (LeftAfter (resume_by b o ks) × ResumesAt b caller Resume e) ⊎ StaysAfter limits b e (resume_by b o ks)
    by None is = inr (stays_after_same limits b e ks _ refl)
    by (Some w) is = elim (cases_Bool (w.instance == e)) [
      | inl here ↦
          let there : is_ready b w.instance ≡ true = ap (is_ready b) (from_test w.instance e here) ∙ ready in
          elim (leaves_or_stays w (found_waiter b.waiters caller w is) here ks there w.marked (is_ready b w.instance) _ there) [
            | inl leaves ↦ inl (leaves, (w, is, from_test w.instance e here))
            | inr stays ↦ inr stays
          ]
      | inr apart ↦
          let others : AreOthers w.caller e b.waiters = λ v m at. elim (cases_Bool (v.caller == w.caller)) [
            | inl same ↦
                let one : v ≡ w = one_caller b.waiters v w distinct m (found_waiter b.waiters caller w is) (from_test v.caller w.caller same) in
                absurd (false≢true (sym apart ∙ (ap (λ (u : Waiter). u.instance == e) (sym one) ∙ at)))
            | inr f ↦ f
          ] in
          inr (stays_after_marked w others ks w.marked (is_ready b w.instance) _)
    ]

  stays_after_event : (event : Event) (ks : List ℕ) → is_ready b e ≡ true → (LeftAfter (change limits b caller event ks) × ResumesAt b caller event e) ⊎ StaysAfter limits b e (change limits b caller event ks)
  stays_after_event (CallOf p call) ks ready = inr (stays_after_call limits b e caller p.0 call ks)
  stays_after_event Resume ks ready = stays_after_resume ks ready
  stays_after_event (Tick n) ks ready = inr (stays_after_same limits b e ks (tick b n) refl)

  from_left : (o : Option Change) (c : Change) → o ≡ Some c → LeftAfter o → is_left b c.1 e ≡ true
  unfolding LeftAfter
  from_left o c is f = subst (λ (q : Option Change). MatchOption q (Unit {0}) (λ x. is_left b x.1 e ≡ true)) is f

  from_stays : (o : Option Change) (c : Change) → o ≡ Some c → StaysAfter limits b e o → Stays b c.1 e
  unfolding StaysAfter
  from_stays o c is f = subst (λ (q : Option Change). MatchOption q (Unit {0}) (λ x. Stays b x.1 e)) is f

not_true : (a : Bool) → a ≡ false → a ≡ true → ⊥
not_true a h k = absurd (false≢true (sym h ∙ k))

-- that it came to be reportable plays no part in what a registration passes on
module _ (earlier : List ℕ) (a left : State) (counts : List Counts) (raised : List (ℕ × ℕ)) where
  abbrev ended : State
  ended = record left { arrivals = counts; watches = map (came earlier a) left.watches }

  came_passes : (f : Watch → Bool) → ((x : Watch) (n : ℕ) → f (record x { from = n }) ≡ f x) → (xs : List Watch) → list_any f (map (came earlier a) xs) ≡ list_any f xs
  came_passes f same [] = refl
  came_passes f same (x ∷ xs) = λ i. by (not (is_among earlier x.number) && is_reportable a x) i || came_passes f same xs i where
    by : (d : Bool) → f (cond d (record x { from = a.n }) x) ≡ f x
    by true = same x a.n
    by false = refl

  spread_within : (k : ℕ) (e : ℕ) → is_reached_within k ended raised e ≡ is_reached_within k left raised e
  spread_within zero e = refl
  spread_within (suc k) e =
      came_passes (λ x. x.instance == e && passes_on_by (is_reached_within k ended raised) ended raised x) (λ x n. refl) left.watches
      ∙ ap (λ (r : ℕ → Bool). list_any (λ x. x.instance == e && passes_on_by r left raised x) left.watches) (λ i d. spread_within k d i)

  spread_ended : (e : ℕ) → is_reached ended raised e ≡ is_reached left raised e
  unfolding is_reached
  spread_ended e = spread_within 5 e

pub unmarked_are_woken : ApplyLaw → CloseLaw → AdvanceLaw → UnmarkedAreWoken
unmarked_are_woken apply close clock limits past s caller event picked c e is allowed made waits unmarked ready free =
    let b = next_event s in
    let t = settle b c.1 c.2 in
    let u = unmarked_end b c in
    let left = (buried c.1 c.2).0 in
    let up = raised_alive left (buried c.1 c.2).1 in
    let quiet = quiet_run limits past s is in
    let still = quiet_begun s quiet in
    let changed = quiet_change limits b caller event picked c still allowed made in
    let settled = settle_changed b c.1 c.2 (change_counted limits s caller event picked c made) changed (changes_are_regular limits past s caller event picked c is allowed made) in
    let after : AtRest t = quiet_settled c.1 changed b.waiters c.2 t settled in
    let places : map (λ w. w.instance) t.waiters ≡ map (λ w. w.instance) c.1.waiters = ap (map (λ (w : Waiter). w.instance)) settled.waiters ∙ marked_parts (marks_at_end b.waiters c.1 c.2 t) (λ w. w.instance) (λ w x. refl) t.now c.1.waiters in
    let there : waits_at t.waiters e ≡ true = waits_by t.waiters e ∙ (ap (at_any e) places ∙ (sym (waits_by c.1.waiters e) ∙ waits)) in
    let who = waiter_there (λ w. kind_of (object_of t.files w.instance) ≡ 1) t.waiters e after.waiting there in
    let here : object_of t.files e ≡ Some instance = instance_of_kind (object_of t.files e) (ap (λ (d : ℕ). kind_of (object_of t.files d)) (sym who.2) ∙ who.1) in
    let unguarded : is_guarded u e ≡ false = sym (guarded_same u t.n t.waiters e) ∙ free in
    elim (cases_Bool (is_guarded s e)) [
      | inl guarded ↦ inr guarded
      | inr open_before ↦ inl (elim (cases_Bool (is_ready b e)) [
        | inr silent ↦
            let begins = instance_begins apply close clock limits past s caller event picked c is allowed made e here ready silent in
            let same : is_reached u up ≡ is_reached left up = λ i d. spread_ended (reportable_numbers b) (arrived left (buried c.1 c.2).1) left (arrived left (buried c.1 c.2).1).arrivals up d i in
            let reaches : bit_at (spread u up e) 0 ≡ 1 = ap (λ (r : ℕ → Bool). bit_at (bit_or (raised_of up e) (reaching_of r e (object_of left.files e))) 0) same ∙ begins in
            or_left _ _ (or_left _ _ (sym (unguarded_spread u up e unguarded) ∙ in_has (spread u up e) reaches))
        | inl was ↦ elim (stays_after_event limits b e caller quiet.callers event picked was) [
          | inl leaves ↦ or_right _ _ (from_left limits b e caller quiet.callers (change limits b caller event picked) c made leaves.0)
          | inr kept ↦
              let stays = from_stays limits b e caller quiet.callers (change limits b caller event picked) c made kept in
              let waited = stays.waits waits was in
              let marked = ready_marked limits past s e is waited (sym (ready_same s (s.n + 1) s.waiters e) ∙ was) open_before in
              absurd (not_true (is_marked_at c.1.waiters e) unmarked (stays.marks marked))
        ]
      ])
    ]

pub unmarked_are_reached : ApplyLaw → CloseLaw → AdvanceLaw → UnmarkedAreReached
unmarked_are_reached apply close clock limits past s caller event picked c e is allowed made waits unmarked ready open_before =
    let b = next_event s in
    let t = settle b c.1 c.2 in
    let quiet = quiet_run limits past s is in
    let still = quiet_begun s quiet in
    let changed = quiet_change limits b caller event picked c still allowed made in
    let settled = settle_changed b c.1 c.2 (change_counted limits s caller event picked c made) changed (changes_are_regular limits past s caller event picked c is allowed made) in
    let after : AtRest t = quiet_settled c.1 changed b.waiters c.2 t settled in
    let places : map (λ w. w.instance) t.waiters ≡ map (λ w. w.instance) c.1.waiters = ap (map (λ (w : Waiter). w.instance)) settled.waiters ∙ marked_parts (marks_at_end b.waiters c.1 c.2 t) (λ w. w.instance) (λ w x. refl) t.now c.1.waiters in
    let there : waits_at t.waiters e ≡ true = waits_by t.waiters e ∙ (ap (at_any e) places ∙ (sym (waits_by c.1.waiters e) ∙ waits)) in
    let who = waiter_there (λ w. kind_of (object_of t.files w.instance) ≡ 1) t.waiters e after.waiting there in
    let here : object_of t.files e ≡ Some instance = instance_of_kind (object_of t.files e) (ap (λ (d : ℕ). kind_of (object_of t.files d)) (sym who.2) ∙ who.1) in
    elim (cases_Bool (is_ready b e)) [
      | inr silent ↦
          let linked = linked_change limits b caller event picked c allowed made (linked_begun s (linked_run limits past s is)) in
          elim (in_spread_at_instance c.1 c.2 linked.made e here (instance_begins apply close clock limits past s caller event picked c is allowed made e here ready silent)) [
            | inl reached ↦ inl reached
            | inr raised ↦ inr (inl raised)
          ]
      | inl was ↦ elim (stays_after_event limits b e caller quiet.callers event picked was) [
        | inl leaves ↦ inr (inr (from_left limits b e caller quiet.callers (change limits b caller event picked) c made leaves.0, leaves.1))
        | inr kept ↦
            let stays = from_stays limits b e caller quiet.callers (change limits b caller event picked) c made kept in
            let waited = stays.waits waits was in
            let marked = ready_marked limits past s e is waited (sym (ready_same s (s.n + 1) s.waiters e) ∙ was) open_before in
            absurd (not_true (is_marked_at c.1.waiters e) unmarked (stays.marks marked))
      ]
    ]
