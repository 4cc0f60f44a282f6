-- Who leaves an instance.
use Rattle.std.proofs.Common.{◌≡◌, ℕ, zero, suc, ◌==◌, ◌&&◌, ◌||◌, ◌++◌, ◌∙◌, Bool, List, [], ◌∷◌, MatchOption, None, Option, Some, ℤ, pos, negsuc, true, false, not, ap, cond, filter, if◌then◌else◌, inl, inr, map, nat_eq, refl, subst, sym}
use Rattle.std.specs.List.{IsDistinct, find, list_any}
use Rattle.std.proofs.lemmas.Bool.{cases_Bool, false≢true}
use Rattle.ep_facts.proofs.NatFacts.{from_test, same_nat}
use Rattle.ep_facts.proofs.BoolFacts.{from_and_not, or_left, or_right}
use Rattle.ep_base.specs.Limits.{Limits}
use Rattle.ep_base.specs.declared.answer.Answer.TheVariants.{Events, Still}
use Rattle.ep_base.specs.declared.call.Call.{Call}
use Rattle.ep_base.specs.declared.call.Call.TheVariants.{EpollCtl, EpollWait}
use Rattle.ep_base.specs.declared.call.Event.{Event}
use Rattle.ep_base.specs.declared.call.Event.TheVariants.{Call as CallOf, Resume, Tick}
use Rattle.ep_law.proofs.ListLemmas.{any_has, any_member, member_filter}
use Rattle.ep_law.specs.Laws.{Member}
use Rattle.ep_machine.specs.Exclusive.{is_left}
use Rattle.ep_machine.specs.Files.{named_by}
use Rattle.ep_machine.specs.Readiness.{is_ready}
use Rattle.ep_machine.specs.Report.{is_pick, plainly, report}
use Rattle.ep_machine.specs.State.{Change, State, Waiter}
use Rattle.ep_machine.specs.Step.{call_change, change, next_event}
use Rattle.ep_machine.specs.Waits.{is_parked, leave_after, resume, resume_by, tick, unmark, wait_for, waiter_of}
use Rattle.ep_machine.specs.Watches.{number_in}
use Rattle.ep_order.proofs.MarkLemmas.{ctl_waiters, found_waiter, one_caller}
use Rattle.ep_order.specs.Mark.{LeavesByResuming, LeavesResumed}
use Rattle.ep_view.proofs.AtRestLemmas.{quiet_run}
use Rattle.ep_law.proofs.StepLemmas.{only_files}
use Rattle.ep_machine.specs.Objects.{asks}
use Rattle.std.proofs.Common.{ap}

-- each caller that was parked still is, but for this one perhaps
abbrev OthersStay : State → State → (Waiter → Bool) → Type 0
OthersStay b u but = (w : Waiter) → Member w b.waiters → but w ≡ false → is_parked u w.caller ≡ true

abbrev nobody : Waiter → Bool
nobody w = false

here : (ws : List Waiter) (w : Waiter) → Member w ws → list_any (λ v. v.caller == w.caller) ws ≡ true
here ws w m = any_has (λ v. v.caller == w.caller) ws w m (same_nat w.caller)

any_front : (p : Waiter → Bool) (ws ys : List Waiter) → list_any p ws ≡ true → list_any p (ws ++ ys) ≡ true
any_front p [] ys h = absurd (false≢true h)
any_front p (w ∷ ws) ys h = elim (cases_Bool (p w)) [
  | inl t ↦ or_left _ _ t
  | inr f ↦ or_right _ _ (any_front p ws ys (sym (ap (λ (b : Bool). b || list_any p ws) f) ∙ h))
]

stay_same : (b u : State) (but : Waiter → Bool) → u.waiters ≡ b.waiters → OthersStay b u but
stay_same b u but h w m apart = ap (λ (ws : List Waiter). list_any (λ v. v.caller == w.caller) ws) h ∙ here b.waiters w m

unmarked_callers : (c k : ℕ) (ws : List Waiter) → list_any (λ v. v.caller == k) (map (unmark c) ws) ≡ list_any (λ v. v.caller == k) ws
unmarked_callers c k [] = refl
unmarked_callers c k (w ∷ ws) = ap (λ (b : Bool). w.caller == k || b) (unmarked_callers c k ws)

-- One event.
module _ (b : State) (but : Waiter → Bool) where
  StayAfter : Option Change → Type 0
  StayAfter c = MatchOption c (Unit {0}) (λ o. OthersStay b o.1 but)

  after_plainly : (ks : List ℕ) (c : Change) → OthersStay b c.1 but → StayAfter (plainly ks c)
  unfolding StayAfter
  after_plainly [] c g = g
  after_plainly (k ∷ ks) c g = tt

  after_same : (ks : List ℕ) (c : Change) → c.1.waiters ≡ b.waiters → StayAfter (plainly ks c)
  after_same ks c h = after_plainly ks c (stay_same b c.1 but h)

  after_report : (i most : ℕ) (ks : List ℕ) → StayAfter (report b i most ks)
  unfolding StayAfter
  after_report i most ks = by (is_pick b i most ks) _ _ where
    by : (d : Bool) (a : _) (ws : _) → StayAfter (cond d (Some (a, record b { watches = ws }, [])) None)
    by true a ws = stay_same b (record b { watches = ws }) but refl
    by false a ws = tt

  after_wait_for : (caller p i most : ℕ) (timeout : ℤ) → OthersStay b (wait_for b caller p i most timeout).1 but
  after_wait_for caller p i most timeout = by timeout where
    one : (x : Waiter) → OthersStay b (record b { waiters = b.waiters ++ x ∷ [] }) but
    one x w m apart = any_front (λ v. v.caller == w.caller) b.waiters (x ∷ []) (here b.waiters w m)

    by : (t : ℤ) → OthersStay b (wait_for b caller p i most t).1 but
    by (pos zero) = stay_same b b but refl
    by (pos (suc k)) = one _
    by (negsuc k) = one _

  after_wait : (caller p i most : ℕ) (timeout : ℤ) (ks : List ℕ) (d : Bool) → StayAfter (cond d (report b i most ks) (plainly ks (wait_for b caller p i most timeout)))
  after_wait caller p i most timeout ks true = after_report i most ks
  after_wait caller p i most timeout ks false = after_plainly ks _ (after_wait_for caller p i most timeout)

  after_call : (limits : Limits) (caller p : ℕ) (call : Call) (ks : List ℕ) → StayAfter (call_change limits b caller p call ks)
  after_call limits caller p (EpollCtl epfd op fd mask tag) ks = after_same ks _ (ctl_waiters b p epfd.0 op fd.0 mask.0 tag)
  after_call limits caller p (EpollWait epfd most timeout) ks = after_wait caller p (named_by b.files p epfd.0) (number_in most) timeout ks (is_ready b (named_by b.files p epfd.0))
  after_call limits caller p call ks = after_same ks _ (ap (λ (t : State). t.waiters) (only_files limits b p call (asks b.files.objects call)).1)

  from_after : (o : Option Change) (c : Change) → o ≡ Some c → StayAfter o → OthersStay b c.1 but
  unfolding StayAfter
  from_after o c is f = subst (λ (q : Option Change). MatchOption q (Unit {0}) (λ x. OthersStay b x.1 but)) is f

-- A resumption.
module _ (b : State) (w : Waiter) where
  abbrev resumed : Waiter → Bool
  resumed v = v.caller == w.caller

  stay_left : (u : State) → u.waiters ≡ filter (λ v. not (v.caller == w.caller)) b.waiters → OthersStay b u resumed
  stay_left u is v m apart =
      ap (λ (ws : List Waiter). list_any (λ x. x.caller == v.caller) ws) is
      ∙ here (filter (λ x. not (x.caller == w.caller)) b.waiters) v (member_filter (λ x. not (x.caller == w.caller)) v b.waiters m (ap not apart))

  after_gone : (ks : List ℕ) → StayAfter b resumed (leave_after w.caller (report b w.instance w.most ks))
  unfolding StayAfter
  after_gone ks = by (is_pick b w.instance w.most ks) _ _ where
    by : (d : Bool) (a : _) (ws : _) → MatchOption (leave_after w.caller (cond d (Some (a, record b { watches = ws }, [])) None)) (Unit {0}) (λ o. OthersStay b o.1 resumed)
    by true a ws = stay_left (record b { watches = ws; waiters = filter (λ v. not (v.caller == w.caller)) b.waiters }) refl
    by false a ws = tt

  after_empty : (ks : List ℕ) (d : Bool) → StayAfter b resumed (plainly ks (cond d (Events [], record b { waiters = filter (λ v. not (v.caller == w.caller)) b.waiters }, []) (Still, record b { waiters = map (unmark w.caller) b.waiters }, [])))
  after_empty ks true = after_plainly b resumed ks (Events [], record b { waiters = filter (λ v. not (v.caller == w.caller)) b.waiters }, []) (stay_left (record b { waiters = filter (λ v. not (v.caller == w.caller)) b.waiters }) refl)
  after_empty ks false = after_plainly b resumed ks (Still, record b { waiters = map (unmark w.caller) b.waiters }, []) (λ v m apart. unmarked_callers w.caller v.caller b.waiters ∙ here b.waiters v m)

  after_marked : (ks : List ℕ) (d r q : Bool) → StayAfter b resumed (if not d then plainly ks (Still, b, []) else if r then leave_after w.caller (report b w.instance w.most ks) else plainly ks (cond q (Events [], record b { waiters = filter (λ v. not (v.caller == w.caller)) b.waiters }, []) (Still, record b { waiters = map (unmark w.caller) b.waiters }, [])))
  after_marked ks false r q = after_same b resumed ks _ refl
  after_marked ks true true q = after_gone ks
  after_marked ks true false q = after_empty ks q

found_passes : (ws : List Waiter) (caller : ℕ) (w : Waiter) → find (λ v. v.caller == caller) ws ≡ Some w → (w.caller == caller) ≡ true
found_passes [] caller w h = cc
found_passes (v ∷ ws) caller w h = elim (cases_Bool (v.caller == caller)) [
  | inl t ↦ let same : Some v ≡ Some w = sym (ap (λ (b : Bool). cond b (Some v) (find (λ u. u.caller == caller) ws)) t) ∙ h in let e : v ≡ w = cc in ap (λ (u : Waiter). u.caller == caller) (sym e) ∙ t
  | inr f ↦ found_passes ws caller w (sym (ap (λ (b : Bool). cond b (Some v) (find (λ u. u.caller == caller) ws)) f) ∙ h)
]

module _ (b : State) (caller : ℕ) (distinct : IsDistinct nat_eq (map (λ w. w.caller) b.waiters)) where
  -- nobody leaves by any other event
  none_leaves : (u : State) (e : ℕ) {X : Type 0} → OthersStay b u nobody → is_left b u e ≡ true → X
  none_leaves u e stay left =
      let w = any_member (λ w. w.instance == e && not (is_parked u w.caller)) b.waiters left in
      let told = from_and_not (w.0.instance == e) (is_parked u w.0.caller) w.2 in
      absurd (false≢true (sym told.1 ∙ stay w.0 w.1 refl))

  resumed_leaves : (u : State) (e : ℕ) (w : Waiter) → waiter_of b caller ≡ Some w → OthersStay b u (λ v. v.caller == w.caller) → LeavesResumed b caller Resume u e
  resumed_leaves u e w is stay =
      let there = found_waiter b.waiters caller w is in
      let own : w.caller ≡ caller = from_test w.caller caller (found_passes b.waiters caller w is) in
      record {
        only = λ left.
            let v = any_member (λ v. v.instance == e && not (is_parked u v.caller)) b.waiters left in
            let told = from_and_not (v.0.instance == e) (is_parked u v.0.caller) v.2 in
            elim (cases_Bool (v.0.caller == w.caller)) [
              | inl same ↦
                  let one : v.0 ≡ w = one_caller b.waiters v.0 w distinct v.1 there (from_test v.0.caller w.caller same) in
                  ((w, is, from_test w.instance e (ap (λ (x : Waiter). x.instance == e) (sym one) ∙ told.0)), ap (is_parked u) (sym own ∙ ap (λ (x : Waiter). x.caller) (sym one)) ∙ told.1)
              | inr apart ↦ absurd (false≢true (sym told.1 ∙ stay v.0 v.1 apart))
            ];
        there = λ resumes gone.
            let at : resumes.0.instance ≡ e = resumes.2 in
            let mine = found_waiter b.waiters caller resumes.0 resumes.1 in
            let named : resumes.0.caller ≡ caller = from_test resumes.0.caller caller (found_passes b.waiters caller resumes.0 resumes.1) in
            any_has (λ v. v.instance == e && not (is_parked u v.caller)) b.waiters resumes.0 mine
            ((λ i. at i == e && not (is_parked u (named i))) ∙ ((λ i. same_nat e i && not (gone i))));
      }

  nobody_resumed : (u : State) (e : ℕ) → waiter_of b caller ≡ None → OthersStay b u nobody → LeavesResumed b caller Resume u e
  nobody_resumed u e none stay = record {
    only = λ left. none_leaves u e stay left;
    there = λ resumes gone. absurd (let no : None ≡ Some resumes.0 = sym none ∙ resumes.1 in cc);
  }

  resumes_leave : (ks : List ℕ) (c : Change) (e : ℕ) → resume b caller ks ≡ Some c → LeavesResumed b caller Resume c.1 e
  resumes_leave ks c e is = by (waiter_of b caller) refl is where
    by : (o : Option Waiter) → waiter_of b caller ≡ o → resume_by b o ks ≡ Some c → LeavesResumed b caller Resume c.1 e
    by None none h = nobody_resumed c.1 e none (from_after b nobody (resume_by b None ks) c h (after_same b nobody ks _ refl))
    by (Some w) found h = resumed_leaves c.1 e w found (from_after b (λ v. v.caller == w.caller) (resume_by b (Some w) ks) c h (after_marked b w ks w.marked (is_ready b w.instance) _))

pub leaves_by_resuming : LeavesByResuming
leaves_by_resuming limits past s caller event picked c e led made = by event made where
  by : (event : Event) → change limits (next_event s) caller event picked ≡ Some c → LeavesResumed (next_event s) caller event c.1 e
  by (CallOf p call) h = record {
    only = λ left. none_leaves (next_event s) caller (quiet_run limits past s led).callers c.1 e (from_after (next_event s) nobody (call_change limits (next_event s) caller p.0 call picked) c h (after_call (next_event s) nobody limits caller p.0 call picked)) left;
    there = λ resumes gone. absurd resumes;
  }
  by Resume h = resumes_leave (next_event s) caller (quiet_run limits past s led).callers picked c e h
  by (Tick n) h = record {
    only = λ left. none_leaves (next_event s) caller (quiet_run limits past s led).callers c.1 e (from_after (next_event s) nobody (plainly picked (tick (next_event s) n)) c h (after_same (next_event s) nobody picked (tick (next_event s) n) refl)) left;
    there = λ resumes gone. absurd resumes;
  }
