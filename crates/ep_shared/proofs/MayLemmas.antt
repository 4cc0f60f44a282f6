-- What a wait and a resumption may be answered, by the machine.
use Rattle.std.proofs.Common.{◌≡◌, ◌∷◌, Bool, List, None, Option, Some, [], false, if◌then◌else◌, negsuc, not, pos, refl, subst, suc, true, zero, ℕ, ℤ}
use Rattle.std.proofs.lemmas.Bool.{false≢true}
use Rattle.std.specs.Prelude.{IfSome, MatchBool}
use Rattle.ep_base.specs.Answer.{is_no_memory}
use Rattle.ep_base.specs.Limits.{Limits}
use Rattle.ep_base.specs.declared.answer.Answer.{Answer}
use Rattle.ep_base.specs.declared.answer.Answer.TheVariants.{Events, Refused, Still}
use Rattle.ep_base.specs.declared.call.Call.TheVariants.{EpollWait}
use Rattle.ep_base.specs.declared.call.Event.{Event}
use Rattle.ep_base.specs.declared.call.Event.TheVariants.{Call as CallOf, Resume, Tick}
use Rattle.ep_base.specs.declared.errno.Errno.{Errno}
use Rattle.ep_base.specs.declared.errno.Errno.TheVariants.{Einval, Enomem}
use Rattle.ep_base.specs.declared.ids.CallerId.{CallerId}
use Rattle.ep_base.specs.declared.record.Record.{Record}
use Rattle.ep_calls.specs.Acts.{Acts, Adds, Stays}
use Rattle.ep_machine.specs.Effect.{first}
use Rattle.ep_machine.specs.Readiness.{is_ready}
use Rattle.ep_machine.specs.Report.{is_pick, plainly, report}
use Rattle.ep_machine.specs.State.{Change, State, Waiter}
use Rattle.ep_machine.specs.Step.{next_event, refused_or, settled, step}
use Rattle.ep_machine.specs.Waits.{is_due, is_parked, leave, leave_after, resume_by, resume_empty, unmarked, wait, wait_for, waiter_of}
use Rattle.ep_shared.specs.Told.{may_answer, may_resume, may_wait}

-- if there is such a change, its answer passes a test
abbrev Gives : (Answer → Bool) → Option Change → Type 0
Gives test o = IfSome o (λ c. test c.0 ≡ true)

-- and that of a step
abbrev Answers : (Answer → Bool) → Option (Answer × State) → Type 0
Answers test o = IfSome o (λ r. test r.0 ≡ true)

gives_plainly : (test : Answer → Bool) (ks : List ℕ) (c : Change) → test c.0 ≡ true → Gives test (plainly ks c)
gives_plainly test [] c h = h
gives_plainly test (k ∷ ks) c h = tt

gives_if : (test : Answer → Bool) (b : Bool) (x y : Option Change) → Gives test x → Gives test y → Gives test (if b then x else y)
gives_if test true x y hx hy = hx
gives_if test false x y hx hy = hy

gives_left : (test : Answer → Bool) (caller : ℕ) (o : Option Change) → Gives test o → Gives test (leave_after caller o)
gives_left test caller None h = tt
gives_left test caller (Some c) h = h

answers_settled : (test : Answer → Bool) (s : State) (o : Option Change) → Gives test o → Answers test (settled s o)
answers_settled test s None h = tt
answers_settled test s (Some c) h = h

answers_refused : (test : Answer → Bool) (s : State) (ks : List ℕ) (e : Errno) → test (Refused e) ≡ true → Answers test (plainly ks (Refused e, s))
answers_refused test s [] e h = h
answers_refused test s (k ∷ ks) e h = tt

-- a report
gives_report : (test : Answer → Bool) (s : State) (e most : ℕ) (ks : List ℕ) → ((reports : _) → test (Events reports) ≡ true) → Gives test (report s e most ks)
gives_report test s e most ks h = gives_if test (is_pick s e most ks) _ None (h _) tt

-- a resumption that isn't refused
resumed_empty : (s : State) (w : Waiter) → may_resume (resume_empty s w).0 ≡ true
resumed_empty s w = by_due (is_due s.now w.deadline)
  where
    by_due : (b : Bool) → may_resume (if b then leave w.caller (Events [], s, []) else (Still, unmarked s w.caller, [])).0 ≡ true
    by_due true = refl
    by_due false = refl

resumes : (s : State) (o : Option Waiter) (ks : List ℕ) → Gives may_resume (resume_by s o ks)
resumes s None ks = gives_plainly may_resume ks (Still, s, []) refl
resumes s (Some w) ks =
    let none = gives_plainly may_resume ks (Still, s, []) refl in
    let told = gives_left may_resume w.caller (report s w.instance w.most ks) (gives_report may_resume s w.instance w.most ks (λ rs. refl)) in
    let empty = gives_plainly may_resume ks (resume_empty s w) (resumed_empty s w) in
    gives_if may_resume (not w.marked) _ _ none (gives_if may_resume (is_ready s w.instance) _ _ told empty)

-- a wait that isn't refused
waits_for : (s : State) (caller p e most : ℕ) (timeout : ℤ) → may_wait (wait_for s caller p e most timeout).0 ≡ true
waits_for s caller p e most (pos zero) = refl
waits_for s caller p e most (pos (suc k)) = refl
waits_for s caller p e most (negsuc k) = refl

waits : (s : State) (caller p e most : ℕ) (timeout : ℤ) (ks : List ℕ) → Gives may_wait (wait s caller p e most timeout ks)
waits s caller p e most timeout ks =
    let parks = gives_plainly may_wait ks (wait_for s caller p e most timeout) (waits_for s caller p e most timeout) in
    gives_if may_wait (is_ready s e) _ _ (gives_report may_wait s e most ks (λ rs. refl)) parks

-- a step, refused or not
by_first : (test : Answer → Bool) (o : Option Errno) (s : State) (ks : List ℕ) (c : Option Change) → ((e : Errno) → o ≡ Some e → test (Refused e) ≡ true) → Gives test c → Answers test (refused_or o s ks c)
by_first test (Some e) s ks c refused made = answers_refused test s ks e (refused e refl)
by_first test None s ks c refused made = answers_settled test s c made

-- a resumption is refused by EINVAL
einval_first : (b : Bool) (e : Errno) → first ((b, Einval) ∷ []) ≡ Some e → may_resume (Refused e) ≡ true
einval_first true e is = subst (λ (o : Option Errno). IfSome o (λ x. may_resume (Refused x) ≡ true)) is refl
einval_first false e is = absurd (cc)

answers_any : (o : Option (Answer × State)) → Answers (λ a. true) o
answers_any None = tt
answers_any (Some r) = refl

steps : (limits : Limits) (s : State) (caller : ℕ) (event : Event) (ks : List ℕ) → Answers (may_answer event) (step limits s caller event ks)
steps limits s caller Resume ks = by_first may_resume _ (next_event s) ks _ (λ e is. einval_first (not (is_parked (next_event s) caller)) e is) (resumes (next_event s) (waiter_of (next_event s) caller) ks)
steps limits s caller (CallOf p (EpollWait epfd most timeout)) ks = by_first may_wait _ (next_event s) ks _ (λ e is. refl) (waits (next_event s) caller _ _ _ timeout ks)
steps limits s caller event ks = answers_any (step limits s caller event ks)

pub step_may : (limits : Limits) (s t : State) (caller : ℕ) (event : Event) (ks : List ℕ) (answer : Answer) → step limits s caller event ks ≡ Some (answer, t) → may_answer event answer ≡ true
step_may limits s t caller event ks answer goes = subst (Answers (may_answer event)) goes (steps limits s caller event ks)

-- want of memory
pub no_memory_may : (event : Event) (answer : Answer) → is_no_memory answer ≡ true → may_answer event answer ≡ true
no_memory_may Resume (Refused Enomem) h = refl
no_memory_may (CallOf p (EpollWait epfd most timeout)) (Refused Enomem) h = refl
no_memory_may (CallOf p call) (Refused Enomem) h = refl
no_memory_may (Tick n) (Refused Enomem) h = refl
no_memory_may event answer h = absurd (false≢true h)

-- what a kernel promises of a step
pub acts_may : (limits : Limits) (caller : CallerId) (event : Event) (answer : Answer) (s t : State) (past now : List Record) → Acts limits caller event answer s t past now → may_answer event answer ≡ true
acts_may limits caller event answer s t past now acts = by_memory (is_no_memory answer) refl acts
  where
    by_memory : (b : Bool) → is_no_memory answer ≡ b → MatchBool b (Stays s t past now) (Adds limits caller event answer s t past now) → may_answer event answer ≡ true
    by_memory true h stays = no_memory_may event answer h
    by_memory false h adds = step_may limits s t caller.0 event adds.picked answer adds.goes
