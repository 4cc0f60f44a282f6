-- Calls that raise nothing at what can be watched.
use Rattle.std.proofs.Common.{not, map, ◌≡◌, ◌∙◌, ℕ, ℤ, zero, suc, pos, negsuc, Bool, true, false, List, [], ◌∷◌, None, Option, Some, ap, cond, refl, subst, sym, unwrap_or}
use Rattle.std.specs.Prelude.{MatchOption}
use Rattle.std.proofs.lemmas.Option.{none-some}
use Rattle.ep_base.specs.declared.socket.Hearing.TheVariants.{Nobody}
use Rattle.ep_base.specs.Limits.{Limits}
use Rattle.ep_base.specs.declared.call.Call.{Call}
use Rattle.ep_base.specs.declared.call.Call.TheVariants.{EpollCtl, EpollWait}
use Rattle.ep_base.specs.declared.errno.Errno.{Errno}
use Rattle.ep_machine.specs.Effect.{first}
use Rattle.ep_machine.specs.Files.{named_by, object_of}
use Rattle.ep_view.specs.AtRest.{can_be_watched}
use Rattle.ep_base.specs.declared.ids.Fd.{Fd}
use Rattle.ep_machine.specs.Objects.{ObjectCall, asks, object_call}
use Rattle.ep_machine.specs.Readiness.{is_ready}
use Rattle.ep_machine.specs.Refusal.{call_refusals}
use Rattle.ep_machine.specs.Report.{is_pick, plainly, report}
use Rattle.ep_machine.specs.Spread.{raised_of}
use Rattle.ep_machine.specs.State.{Change, State}
use Rattle.ep_machine.specs.Step.{call_change, change_on}
use Rattle.ep_machine.specs.Waits.{wait_for, has_parked}
use Rattle.ep_machine.specs.Watches.{number_in}
use Rattle.ep_calls.proofs.AskedLemmas.{asks_none}
use Rattle.ep_calls.specs.Moves.{RaisesCall}
use Rattle.ep_calls.specs.Raising.{Raises}
use Rattle.ep_base.specs.declared.call.Event.TheVariants.{Resume}
use Rattle.ep_base.specs.declared.answer.Answer.TheVariants.{Events, Still}
use Rattle.ep_machine.specs.Refusal.{refusals}
use Rattle.ep_machine.specs.Report.{report_of, reported as reported_of, watches_at}
use Rattle.ep_machine.specs.State.{Waiter}
use Rattle.ep_machine.specs.Waits.{is_due, leave, leave_after, resume, resume_by, resume_empty, unmarked, waiter_of}
use Rattle.ep_calls.specs.Parts.{Parts}
use Rattle.ep_calls.specs.Raising.{AsRaised, AsRaisedIn, raised_bits}
use Rattle.ep_calls.specs.TableCall.{IsTableCall}
use Rattle.ep_calls.specs.declared.raising.Raising.{Raising}
use Rattle.ep_calls.specs.declared.raising.Raising.TheVariants.{Nowhere}
use Rattle.ep_table.specs.Value.{Seen}
use Rattle.ep_machine.specs.FilesCalls.{files_call}
use Rattle.ep_calls.specs.Stands.{Stands}

-- any call but one on the object that a descriptor names, and epoll_ctl
abbrev pub IsOffObject : Call → Type 0
IsOffObject (EpollCtl epfd op fd mask tag) = ⊥
IsOffObject call = object_call None Nobody call ≡ None

-- as a call on the tables alone is
pub off_object : (call : Call) → IsTableCall call → IsOffObject call
off_object (EpollWait epfd most timeout) t = absurd t
off_object call t = t

abbrev RaisesNothing : Change → Type 0
RaisesNothing c = (d : ℕ) → can_be_watched (object_of c.1.files d) ≡ true → raised_of c.2 d ≡ 0

abbrev Unraising : Option Change → Type 0
Unraising o = (made : Change) → o ≡ Some made → RaisesNothing made

made_is : (c made : Change) → Some c ≡ Some made → c ≡ made
made_is c made h = ap (λ (o : Option Change). unwrap_or o c) h

some_unraising : (c : Change) → RaisesNothing c → Unraising (Some c)
some_unraising c h made e = subst RaisesNothing (made_is c made e) h

none_unraising : Unraising None
none_unraising made e = absurd (none-some made e)

plain_unraising : (ks : List ℕ) (c : Change) → RaisesNothing c → Unraising (plainly ks c)
plain_unraising [] c h = some_unraising c h
plain_unraising (k ∷ ks) c h = none_unraising

if_unraising : (b : Bool) (x y : Option Change) → Unraising x → Unraising y → Unraising (cond b x y)
if_unraising true x y h i = h
if_unraising false x y h i = i

wait_raises : (s : State) (caller p e most : ℕ) (timeout : ℤ) → RaisesNothing (wait_for s caller p e most timeout)
wait_raises s caller p e most (pos zero) = λ d w. refl
wait_raises s caller p e most (pos (suc k)) = λ d w. refl
wait_raises s caller p e most (negsuc k) = λ d w. refl

-- one on the tables raises nothing
abbrev pub LetsNobodyGo : Limits → State → ℕ → Call → Type 0
LetsNobodyGo limits s p call = first (call_refusals limits s p call) ≡ None → (files_call limits s.files p (has_parked s p) call).raised ≡ []

files_raise : (limits : Limits) (s : State) (p : ℕ) (call : Call) (on : Option (Fd × ObjectCall)) → on ≡ None → (files_call limits s.files p (has_parked s p) call).raised ≡ [] → RaisesNothing (change_on limits s p call on)
files_raise limits s p call on h none = subst (λ (o : Option (Fd × ObjectCall)). RaisesNothing (change_on limits s p call o)) (sym h) (λ d w. ap (λ (raised : List (ℕ × ℕ)). raised_of raised d) none)

call_unraising : (limits : Limits) (s : State) (caller p : ℕ) (call : Call) (ks : List ℕ) → IsOffObject call → LetsNobodyGo limits s p call → first (call_refusals limits s p call) ≡ None → Unraising (call_change limits s caller p call ks)
call_unraising limits s caller p (EpollWait epfd most timeout) ks t none h =
    let e = named_by s.files p epfd.0 in
    if_unraising (is_ready s e) (report s e (number_in most) ks) (plainly ks (wait_for s caller p e (number_in most) timeout))
    (if_unraising (is_pick s e (number_in most) ks) _ None (some_unraising _ (λ d w. refl)) none_unraising)
    (plain_unraising ks _ (wait_raises s caller p e (number_in most) timeout))
call_unraising limits s caller p (EpollCtl epfd op fd mask tag) ks t none h = absurd t
call_unraising limits s caller p call ks t none h = plain_unraising ks _ (files_raise limits s p call (asks s.files.objects call) (asks_none s.files.objects call t) (none h))

nowhere_bits : (raising : Raising) (v : Seen) (now d : ℕ) → raising ≡ Nowhere → raised_bits raising v now d ≡ 0
nowhere_bits raising v now d h = ap (λ (r : Raising). raised_bits r v now d) h

nothing_raised : (tests : List (Bool × Errno)) (o : Option Change) (raising : Raising) (tables : Seen) (now : ℕ) → raising ≡ Nowhere → Unraising o → Raises tests o raising tables now
nothing_raised tests o raising tables now h un = by_cases (first tests) where
  by_cases : (e : Option Errno) → MatchOption e ((made : Change) → o ≡ Some made → AsRaisedIn made.1.files raising tables now made.2) (λ f. AsRaised raising tables now [])
  by_cases None = λ made is d watched. un made is d watched ∙ sym (nowhere_bits raising tables now d h)
  by_cases (Some f) = λ d. sym (nowhere_bits raising tables now d h)

pub nowhere_raises : (limits : Limits) (n caller p : ℕ) (call : Call) (picked : List ℕ) (raising : Raising) (old : Parts) (tables : Seen) (now : ℕ) → raising ≡ Nowhere → IsOffObject call
    → ((s : State) → Stands old.tables old.interest old.parked old.clock s → LetsNobodyGo limits s p call) → RaisesCall limits n caller p call picked raising old tables now
nowhere_raises limits n caller p call picked raising old tables now h t none = λ s at sound quiet legal stands. by_cases s stands (first (call_refusals limits s p call)) refl where
  by_cases : (s : State) → Stands old.tables old.interest old.parked old.clock s → (o : Option Errno) → first (call_refusals limits s p call) ≡ o
      → MatchOption o ((made : Change) → call_change limits s caller p call picked ≡ Some made → AsRaisedIn made.1.files raising tables now made.2) (λ e. AsRaised raising tables now [])
  by_cases s stands None e = λ made is d watched. call_unraising limits s caller p call picked t (none s stands) e made is d watched ∙ sym (nowhere_bits raising tables now d h)
  by_cases s stands (Some errno) e = λ d. sym (nowhere_bits raising tables now d h)

resume_unraising : (s : State) (caller : ℕ) (ks : List ℕ) → Unraising (resume s caller ks)
resume_unraising s caller ks = by_waiter (waiter_of s caller) where
  reported : (w : Waiter) → Unraising (leave_after w.caller (report s w.instance w.most ks))
  reported w =
      let told : Change = (Events (map (report_of s) (watches_at s.watches ks)), record s { watches = map (reported_of s ks) s.watches }, []) in
      elim (is_pick s w.instance w.most ks) as (λ b. Unraising (leave_after w.caller (cond b (Some told) None))) [ true ↦ some_unraising (leave w.caller told) (λ d v. refl) | false ↦ none_unraising ]

  empty : (w : Waiter) → RaisesNothing (resume_empty s w)
  empty w = elim (is_due s.now w.deadline) as (λ b. RaisesNothing (cond b (leave w.caller (Events [], s, [])) (Still, unmarked s w.caller, []))) [ true ↦ λ d v. refl | false ↦ λ d v. refl ]

  by_waiter : (o : Option Waiter) → Unraising (resume_by s o ks)
  by_waiter None = plain_unraising ks _ (λ d v. refl)
  by_waiter (Some w) =
      if_unraising (not w.marked) (plainly ks (Still, s, [])) (cond (is_ready s w.instance) (leave_after w.caller (report s w.instance w.most ks)) (plainly ks (resume_empty s w))) (plain_unraising ks (Still, s, []) (λ d v. refl))
      (if_unraising (is_ready s w.instance) (leave_after w.caller (report s w.instance w.most ks)) (plainly ks (resume_empty s w)) (reported w) (plain_unraising ks (resume_empty s w) (empty w)))

-- a resumption raises nothing
pub resume_raises : (limits : Limits) (s : State) (caller : ℕ) (picked : List ℕ) (raising : Raising) (tables : Seen) (now : ℕ) → raising ≡ Nowhere → Raises (refusals limits s caller Resume) (resume s caller picked) raising tables now
resume_raises limits s caller picked raising tables now h = nothing_raised (refusals limits s caller Resume) (resume s caller picked) raising tables now h (resume_unraising s caller picked)
