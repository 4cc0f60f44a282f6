-- Steps, runs, and the outcomes of a resumption.
use Rattle.std.proofs.Common.{◌≡◌, ℕ, ◌==◌, Bool, true, false, List, [], ◌∷◌, ◌++◌, None, Option, Some, MatchOption, ℤ, pos, negsuc, refl, ap, sym, subst, ◌∙◌, if◌then◌else◌, not, ◌+◌, zero, suc, arith}
use Rattle.ep_base.specs.Errno.{errno_number}
use Rattle.ep_base.specs.Limits.{Limits}
use Rattle.ep_base.specs.declared.errno.Errno.{Errno}
use Rattle.ep_base.specs.declared.answer.Answer.{Answer}
use Rattle.ep_base.specs.declared.answer.Answer.TheVariants.{Done, Num, Two, Bytes, Events, Time, Parked, Still, Connecting, Failed, Named, Refused}
use Rattle.ep_base.specs.declared.call.Event.{Event}
use Rattle.ep_base.specs.declared.record.Record.{Record}
use Rattle.ep_machine.specs.Effect.{first}
use Rattle.ep_base.specs.declared.call.Call.TheVariants.{EpollCtl, EpollWait}
use Rattle.ep_base.specs.declared.call.Event.TheVariants.{Call as CallOf, Resume, Tick}
use Rattle.ep_machine.specs.Names.{space_number}
use Rattle.ep_machine.specs.Settle.{settle}
use Rattle.ep_machine.specs.State.{Change, State, opening, Waiter}
use Rattle.ep_machine.specs.Tables.{same_number}
use Rattle.ep_machine.specs.Refusal.{refusals}
use Rattle.ep_machine.specs.Step.{step, next_event, change, refused_or, settled, change_on, object_change}
use Rattle.ep_machine.specs.Run.{run, run_on, go_on, checked, same_answer, same_list, same_report}
use Rattle.ep_machine.specs.Readiness.{is_ready}
use Rattle.ep_machine.specs.Report.{plainly, report, is_pick}
use Rattle.ep_machine.specs.Waits.{is_due, leave, leave_after, resume, resume_by, resume_empty, unmarked, waiter_of, wait_for}
use Rattle.std.proofs.lemmas.Bool.Decides.{nat_tests}
use Rattle.std.proofs.lemmas.Option.{none-some}
use Rattle.ep_facts.proofs.NatFacts.{same_nat}
use Rattle.ep_machine.specs.Files.{named_by, Files}
use Rattle.ep_machine.specs.Watches.{is_add, is_del, number_in}
use Rattle.ep_law.proofs.ShapeLemmas.{by_joined}
use Rattle.ep_machine.specs.Objects.{asks, ObjectCall}
use Rattle.ep_base.specs.declared.ids.Fd.{Fd}
use Rattle.ep_base.specs.declared.call.Call.{Call}
use Rattle.std.proofs.Common.{sym}

-- Steps and runs.

-- a refusal changes n alone
pub refused_step : (limits : Limits) (s : State) (caller : ℕ) (event : Event) (e : Errno) → first (refusals limits (next_event s) caller event) ≡ Some e → step limits s caller event [] ≡ Some (Refused e, next_event s)
refused_step limits s caller event e h = ap (λ (o : Option Errno). refused_or o (next_event s) [] (change limits (next_event s) caller event [])) h

same_int : (a : ℤ) → same_number a a ≡ true
same_int (pos a) = same_nat a
same_int (negsuc a) = same_nat a

same_list_self : {X : Type 0} (same : X → X → Bool) → ((x : X) → same x x ≡ true) → (xs : List X) → same_list same xs xs ≡ true
same_list_self same h [] = refl
same_list_self same h (x ∷ xs) = rw (h x, same_list_self same h xs)

pub same_answer_self : (a : Answer) → same_answer a a ≡ true
same_answer_self Done = refl
same_answer_self (Num k) = same_nat k
same_answer_self (Two a b) = rw (same_int a.0, same_int b.0)
same_answer_self (Bytes bs) = same_list_self ◌==◌ same_nat bs
same_answer_self (Events xs) = same_list_self same_report (λ x. rw (same_nat x.bits.0, same_nat x.tag)) xs
same_answer_self (Time a b) = rw (same_nat a, same_nat b)
same_answer_self Parked = refl
same_answer_self Still = refl
same_answer_self Connecting = refl
same_answer_self (Failed e) = same_nat (errno_number e)
same_answer_self (Named None) = refl
same_answer_self (Named (Some name)) = rw (same_nat (space_number name.space), same_nat name.number)
same_answer_self (Refused e) = same_nat (errno_number e)

pub run_on-append : (limits : Limits) (o : Option State) (rs : List Record) (r : Record) → run_on limits o (rs ++ r ∷ []) ≡ go_on limits (run_on limits o rs) r
run_on-append limits o [] r = refl
run_on-append limits o (x ∷ rs) r = run_on-append limits (go_on limits o x) rs r

-- a run goes on by a step with the record's answer
pub run_next : (limits : Limits) (s t : State) (past : List Record) (r : Record) → run limits opening past ≡ Some s → step limits s r.caller.0 r.event r.picked ≡ Some (r.answer, t) → run limits opening (past ++ r ∷ []) ≡ Some t
run_next limits s t past r h e =
    run_on-append limits (Some opening) past r
    ∙ (ap (λ (o : Option State). go_on limits o r) h
    ∙ (ap (λ (o : Option (Answer × State)). checked r.answer o) e
    ∙ rw (same_answer_self r.answer)))

-- one state at most
pub determined : (limits : Limits) (past : List Record) (s t : State) → run limits opening past ≡ Some s → run limits opening past ≡ Some t → s ≡ t
determined limits past s t h k = let both : Some s ≡ Some t = sym h ∙ k in cc

-- a step that isn't refused is its change, settled
pub step_changed : (limits : Limits) (s : State) (caller : ℕ) (event : Event) (picked : List ℕ) (c : Change) → first (refusals limits (next_event s) caller event) ≡ None → change limits (next_event s) caller event picked ≡ Some c → step limits s caller event picked ≡ Some (c.0, settle (next_event s) c.1 c.2)
step_changed limits s caller event picked c allowed e =
    ap (λ (o : Option Errno). refused_or o (next_event s) picked (change limits (next_event s) caller event picked)) allowed ∙ ap (settled (next_event s)) e

-- What each step keeps holds in each state of a run.
module _ (P : State → Type 0) (limits : Limits) (keeps : (s t : State) (caller : ℕ) (event : Event) (picked : List ℕ) (a : Answer) → P s → step limits s caller event picked ≡ Some (a, t) → P t) where
  Holds : Option State → Type 0
  Holds o = MatchOption o (Unit {0}) P

  holds_if : (b : Bool) (t : State) → P t → Holds (if b then Some t else None)
  unfolding Holds
  holds_if true t h = h
  holds_if false t h = tt

  holds_checked : (a : Answer) (o : Option (Answer × State)) → ((b : Answer) (t : State) → o ≡ Some (b, t) → P t) → Holds (checked a o)
  unfolding Holds
  holds_checked a None h = tt
  holds_checked a (Some c) h = holds_if (same_answer c.0 a) c.1 (h c.0 c.1 refl)

  holds_on : (o : Option State) (r : Record) → Holds o → Holds (go_on limits o r)
  unfolding Holds
  holds_on None r h = tt
  holds_on (Some s) r h = holds_checked r.answer (step limits s r.caller.0 r.event r.picked) (λ b t e. keeps s t r.caller.0 r.event r.picked b h e)

  holds_run : (o : Option State) (past : List Record) → Holds o → Holds (run_on limits o past)
  holds_run o [] h = h
  holds_run o (r ∷ past) h = holds_run (go_on limits o r) past (holds_on o r h)

  pub run_keeps : (s t : State) (past : List Record) → P s → run limits s past ≡ Some t → P t
  unfolding Holds
  run_keeps s t past h e = subst Holds e (holds_run (Some s) past h)

-- What holds of each outcome of a resumption.

module _ (F : Option Change → Type 0) (s : State) (caller : ℕ) (ks : List ℕ) (still : F (plainly ks (Still, s, []))) (told : (w : Waiter) → F (leave_after w.caller (report s w.instance w.most ks)))
    (gone : (w : Waiter) → F (plainly ks (leave w.caller (Events [], s, [])))) (waits : (w : Waiter) → F (plainly ks (Still, unmarked s w.caller, []))) where
  of_due : (b : Bool) (w : Waiter) → F (plainly ks (if b then leave w.caller (Events [], s, []) else (Still, unmarked s w.caller, [])))
  of_due true w = gone w
  of_due false w = waits w

  of_ready : (b : Bool) (w : Waiter) → F (if b then leave_after w.caller (report s w.instance w.most ks) else plainly ks (resume_empty s w))
  of_ready true w = told w
  of_ready false w = of_due (is_due s.now w.deadline) w

  of_mark : (b : Bool) (w : Waiter) → F (if not b then plainly ks (Still, s, []) else if is_ready s w.instance then leave_after w.caller (report s w.instance w.most ks) else plainly ks (resume_empty s w))
  of_mark true w = of_ready (is_ready s w.instance) w
  of_mark false w = still

  of_waiter : (o : Option Waiter) → F (resume_by s o ks)
  of_waiter None = still
  of_waiter (Some w) = of_mark w.marked w

  pub resumes : F (resume s caller ks)
  resumes = of_waiter (waiter_of s caller)

-- what waiters play no part in holds after one left too
pub left_after : (P : State → Type 0) → ((s : State) (ws : List Waiter) → P s → P (record s { waiters = ws })) → (caller : ℕ) (o : Option Change) → MatchOption o (Unit {0}) (λ c. P c.1) → MatchOption (leave_after caller o) (Unit {0}) (λ c. P c.1)
left_after P h caller None p = tt
left_after P h caller (Some c) p = h c.1 _ p

-- A change leaves the number of events.

n_of : Option Change → ℕ
n_of None = 0
n_of (Some c) = c.1.n

abbrev pub Keeps : ℕ → Option Change → Type 0
Keeps m o = (made : Change) → o ≡ Some made → made.1.n ≡ m

keeps_some : (m : ℕ) (c : Change) → c.1.n ≡ m → Keeps m (Some c)
unfolding n_of
keeps_some m c h = λ made e. ap n_of (sym e) ∙ h

keeps_none : (m : ℕ) → Keeps m None
keeps_none m = λ made e. absurd (none-some made e)

keeps_plainly : (m : ℕ) (ks : List ℕ) (c : Change) → c.1.n ≡ m → Keeps m (plainly ks c)
keeps_plainly m [] c h = keeps_some m c h
keeps_plainly m (k ∷ ks) c h = keeps_none m

keeps_if : (m : ℕ) (b : Bool) (x y : Option Change) → Keeps m x → Keeps m y → Keeps m (if b then x else y)
keeps_if m true x y h i = h
keeps_if m false x y h i = i

same_if : (m : ℕ) (a b : Bool) (x y z : Change) → x.1.n ≡ m → y.1.n ≡ m → z.1.n ≡ m → (if a then x else if b then y else z).1.n ≡ m
same_if m true b x y z h i j = h
same_if m false true x y z h i j = i
same_if m false false x y z h i j = j

wait_for_n : (s : State) (caller p e most : ℕ) (timeout : ℤ) → (wait_for s caller p e most timeout).1.n ≡ s.n
wait_for_n s caller p e most (pos zero) = refl
wait_for_n s caller p e most (pos (suc k)) = refl
wait_for_n s caller p e most (negsuc k) = refl

keeps_left : (m caller : ℕ) (o : Option Change) → Keeps m o → Keeps m (leave_after caller o)
keeps_left m caller None h = keeps_none m
keeps_left m caller (Some c) h = keeps_some m (leave caller c) (h c refl)

keeps_report : (s : State) (e most : ℕ) (ks : List ℕ) → Keeps s.n (report s e most ks)
keeps_report s e most ks = keeps_if s.n (is_pick s e most ks) _ None (keeps_some s.n _ refl) (keeps_none s.n)

-- a call on an object or on the tables changes the files only
pub only_files : (limits : Limits) (s : State) (p : ℕ) (call : Call) (on : Option (Fd × ObjectCall)) → (g : Files) × ((change_on limits s p call on).1 ≡ record s { files = g })
only_files limits s p call (Some on) = by_joined limits p (λ c. (g : Files) × (c.1 ≡ record s { files = g })) call (object_change s p on.0.0 on.1) (_, refl) (λ fd name x m same is at unix. (_, refl))
only_files limits s p call None = (_, refl)

pub change_n : (limits : Limits) (s : State) (caller : ℕ) (event : Event) (ks : List ℕ) → Keeps s.n (change limits s caller event ks)
change_n limits s caller (CallOf p (EpollCtl epfd op fd mask tag)) ks = keeps_plainly s.n ks _ (same_if s.n (is_add op) (is_del op) _ _ _ refl refl refl)
change_n limits s caller (CallOf p (EpollWait epfd most timeout)) ks =
    let e = named_by s.files p.0 epfd.0 in
    keeps_if s.n (is_ready s e) (report s e (number_in most) ks) (plainly ks (wait_for s caller p.0 e (number_in most) timeout))
    (keeps_report s e (number_in most) ks)
    (keeps_plainly s.n ks _ (wait_for_n s caller p.0 e (number_in most) timeout))
change_n limits s caller (CallOf p call) ks = keeps_plainly s.n ks _ (ap (λ (t : State). t.n) (only_files limits s p.0 call (asks s.files.objects call)).1)
change_n limits s caller Resume ks = resumes (Keeps s.n) s caller ks (keeps_plainly s.n ks _ refl) (λ w. keeps_left s.n w.caller _ (keeps_report s w.instance w.most ks)) (λ w. keeps_plainly s.n ks _ refl) (λ w. keeps_plainly s.n ks _ refl)
change_n limits s caller (Tick k) ks = keeps_plainly s.n ks _ refl

pub after_first : (n : ℕ) → (0 == n + 1) ≡ false
after_first n = grind (arith, nat_tests)

-- so it is the change of an event
pub change_counted : (limits : Limits) (s : State) (caller : ℕ) (event : Event) (ks : List ℕ) (made : Change) → change limits (next_event s) caller event ks ≡ Some made → (0 == made.1.n) ≡ false
change_counted limits s caller event ks made e = subst (λ (n : ℕ). (0 == n) ≡ false) (sym (change_n limits (next_event s) caller event ks made e)) (after_first s.n)
