-- Of which registrations the machine may report.
use Rattle.std.proofs.Common.{◌≡◌, ◌==◌, ◌&&◌, ◌||◌, ◌∙◌, ℕ, ℤ, suc, zero, Bool, true, false, List, [], ◌∷◌, None, Option, Some, ap, arith, cond, filter, find, if◌then◌else◌, inl, inr, is_none, is_some, length, min, not, refl, sym}
use Rattle.std.specs.List.{list_all, list_any}
use Rattle.std.specs.Option.{option_map}
use Rattle.std.proofs.lemmas.Bool.{cases_Bool, false≢true}
use Rattle.std.proofs.lemmas.Bool.Decides.{nat_tests}
use Rattle.ep_base.specs.Limits.{Limits}
use Rattle.ep_base.specs.declared.answer.Answer.TheVariants.{Still}
use Rattle.ep_base.specs.declared.call.Call.{Call}
use Rattle.ep_base.specs.declared.call.Call.TheVariants.{EpollCtl, EpollWait}
use Rattle.ep_base.specs.declared.call.Event.{Event}
use Rattle.ep_base.specs.declared.ids.Fd.{Fd}
use Rattle.ep_machine.specs.Objects.{asks}
use Rattle.ep_base.specs.declared.call.Event.TheVariants.{Call as CallOf, Resume}
use Rattle.ep_base.specs.declared.errno.Errno.{Errno}
use Rattle.ep_base.specs.declared.errno.Errno.TheVariants.{Ebusy, Esrch}
use Rattle.ep_base.specs.declared.ids.DescId.{DescId}
use Rattle.ep_law.proofs.ReadinessLemmas.{ready_equation}
use Rattle.ep_machine.specs.Effect.{first}
use Rattle.ep_machine.specs.Files.{Files, named_by, table_of}
use Rattle.ep_machine.specs.Lists.{are_distinct, is_empty}
use Rattle.ep_machine.specs.Readiness.{is_ready, is_reportable, reportables}
use Rattle.ep_machine.specs.Refusal.{call_refusals, ctl_refusals, refusals, wait_refusals}
use Rattle.ep_machine.specs.Report.{is_fair_to, is_pick, plainly, report, watches_at}
use Rattle.ep_machine.specs.State.{Change, State, Waiter, Watch}
use Rattle.ep_machine.specs.Step.{call_change, change, change_on, refused_or, settled}
use Rattle.ep_machine.specs.Waits.{is_parked, leave_after, resume, resume_by, resume_empty, wait, wait_for, waiter_of}
use Rattle.ep_machine.specs.Watches.{ctl, is_legal, links, number_in}
use Rattle.ep_park.specs.Waiters.{is_caller, parked}
use Rattle.ep_park.specs.declared.waiter.Waiter.{Waiter as ParkedWaiter}
use Rattle.ep_view.proofs.ResumeLemmas.{parked_found, resume_allowed, resume_refused}
use Rattle.ep_view.specs.KernelView.{at_number}
use Rattle.ep_calls.proofs.RegistrationLemmas.{caller_waits}
use Rattle.ep_calls.proofs.ResumeLemmas.{found, there}
use Rattle.ep_calls.specs.Moves.{StandFor}
use Rattle.ep_calls.specs.Parts.{Parts}
use Rattle.ep_calls.specs.Stands.{number_at}
use Rattle.ep_calls.specs.Wait.{wait_call, wait_tests}
use Rattle.ep_calls.specs.declared.wait.Wait.{Wait}
use Rattle.ep_plain.specs.These.{CallsWait, Resumes, goes_with}
use Rattle.std.proofs.Common.{unwrap_or}
use Rattle.ep_facts.proofs.OptionFacts.{some_not_none}
use Rattle.ep_facts.proofs.BoolFacts.{and_none}

-- an event that makes no report
plain_goes : (o : Option Errno) (s : State) (ks : List ℕ) (c : Change) → is_some (refused_or o s ks (plainly ks c)) ≡ is_empty ks
plain_goes None s [] c = refl
plain_goes None s (k ∷ ks) c = refl
plain_goes (Some e) s [] c = refl
plain_goes (Some e) s (k ∷ ks) c = refl

-- as any call but a wait
pub no_wait : (limits : Limits) (s : State) (caller pid : ℕ) (picks : List ℕ) (call : Call) → ((epfd : Fd) (most timeout : ℤ) → call ≡ EpollWait epfd most timeout → ⊥)
    → is_some (refused_or (first (call_refusals limits s pid call)) s picks (call_change limits s caller pid call picks)) ≡ is_empty picks
no_wait limits s caller pid picks (EpollWait epfd most timeout) n = absurd (n epfd most timeout refl)
no_wait limits s caller pid picks (EpollCtl epfd op fd mask tag) n =
    plain_goes (first (ctl_refusals limits s pid epfd.0 op fd.0 mask.0)) s picks (ctl s pid epfd.0 op fd.0 mask.0 tag)
no_wait limits s caller pid picks call n =
    plain_goes (first (call_refusals limits s pid call)) s picks (change_on limits s pid call (asks s.files.objects call))

refused_plain : (e : Errno) (s : State) (ks : List ℕ) (c : Option Change) → is_some (refused_or (Some e) s ks c) ≡ is_empty ks
refused_plain e s [] c = refl
refused_plain e s (k ∷ ks) c = refl

pub refused_goes : (limits : Limits) (caller : ℕ) (event : Event) (s : State) (ks : List ℕ) (e : Errno) → first (refusals limits s caller event) ≡ Some e → goes_with limits caller event ks s ≡ is_empty ks
refused_goes limits caller event s ks e h = ap (λ (o : Option Errno). is_some (refused_or o s ks (change limits s caller event ks))) h ∙ refused_plain e s ks (change limits s caller event ks)

pub unparked_goes : (p : Parts) (caller : ℕ) (s : State) (ks : List ℕ) → StandFor p s → find (is_caller caller) p.parked ≡ None → goes_with p.tables.limits caller Resume ks s ≡ is_empty ks
unparked_goes p caller s ks stands none =
    let number : ℕ → ℕ = λ k. number_at p.tables.keys (record { 0 = k }) in
    refused_goes p.tables.limits caller Resume s ks _
    (resume_refused p.tables.limits s caller (parked_found s caller ∙ ap (λ (o : Option Waiter). is_some o) (found p.graph p.tables p.interest p.parked p.clock caller p.tables.limits s stands ∙ ap (option_map (at_number number)) none)))

-- one that is parked
module _ (p : Parts) (caller : ℕ) (s : State) (ks : List ℕ) (stands : StandFor p s) (w : ParkedWaiter) (is : find (is_caller caller) p.parked ≡ Some (parked caller w)) where
  abbrev own : Waiter
  own = at_number (λ k. number_at p.tables.keys (record { 0 = k })) (parked caller w)

  waits : waiter_of s caller ≡ Some own
  waits = there p.graph p.tables p.interest p.parked p.clock caller p.tables.limits s stands w is

  pub unmarked_goes : w.marked ≡ false → goes_with p.tables.limits caller Resume ks s ≡ is_empty ks
  unmarked_goes off =
      ap (λ (o : Option Waiter). is_some (refused_or (first (refusals p.tables.limits s caller Resume)) s ks (resume_by s o ks))) waits
      ∙ (ap (λ (b : Bool). is_some (refused_or (first (refusals p.tables.limits s caller Resume)) s ks (if not b then plainly ks (Still, s, []) else if is_ready s own.instance then leave_after caller (report s own.instance own.most ks) else plainly ks (resume_empty s own)))) off
      ∙ plain_goes (first (refusals p.tables.limits s caller Resume)) s ks (Still, s, []))

none_any : (f : Watch → Bool) (xs : List Watch) → list_any f xs ≡ false → filter f xs ≡ []
none_any f [] h = refl
none_any f (x ∷ xs) h = elim (cases_Bool (f x)) [
  | inl t ↦ absurd (false≢true (sym h ∙ ap (λ (b : Bool). b || list_any f xs) t))
  | inr n ↦ ap (λ (b : Bool). cond b (x ∷ filter f xs) (filter f xs)) n ∙ none_any f xs (ap (λ (b : Bool). b || list_any f xs) (sym n) ∙ h)
]

-- where nothing is reportable only nothing may be picked
none_found : (ks : List ℕ) → watches_at [] ks ≡ []
none_found [] = refl
none_found (k ∷ ks) = none_found ks

apart : (n : ℕ) → (0 == suc n) ≡ false
apart n = grind (arith, nat_tests)

none_pick : (most : ℕ) (ks : List ℕ) → (are_distinct ks && length (watches_at [] ks) == length ks && length ks == min most 0 && list_all (is_fair_to (watches_at [] ks) ks) []) ≡ is_empty ks
none_pick zero [] = refl
none_pick (suc most) [] = ap (λ (n : ℕ). 0 == n && true) (least most) where
  least : (n : ℕ) → min (suc n) 0 ≡ 0
  least n = omega arith
none_pick most (k ∷ ks) =
    let short : (length (watches_at [] (k ∷ ks)) == length (k ∷ ks)) ≡ false = ap (λ (xs : List Watch). length xs == suc (length ks)) (none_found ks) ∙ apart (length ks) in
    ap (λ (b : Bool). b && length (k ∷ ks) == min most 0 && true) (and_none (are_distinct (k ∷ ks)) (length (watches_at [] (k ∷ ks)) == length (k ∷ ks)) short)

idle_pick : (s : State) (e most : ℕ) (ks : List ℕ) → is_legal (links s) ≡ true → is_ready s e ≡ false → is_pick s e most ks ≡ is_empty ks
idle_pick s e most ks legal idle =
    let none : reportables s e ≡ [] = none_any (λ x. x.instance == e && is_reportable s x) s.watches (sym (ready_equation s e legal) ∙ idle) in
    ap (λ (xs : List Watch). are_distinct ks && length (watches_at xs ks) == length ks && length ks == min most (length xs) && list_all (is_fair_to (watches_at xs ks) ks) xs) none ∙ none_pick most ks

settled_some : (s : State) (o : Option Change) → is_some (settled s o) ≡ is_some o
settled_some s None = refl
settled_some s (Some c) = refl

plainly_some : (ks : List ℕ) (c : Change) → is_some (plainly ks c) ≡ is_empty ks
plainly_some [] c = refl
plainly_some (k ∷ ks) c = refl

report_some : (s : State) (e most : ℕ) (ks : List ℕ) → is_some (report s e most ks) ≡ is_pick s e most ks
report_some s e most ks = by (is_pick s e most ks) _ where
  by : (b : Bool) (c : Change) → is_some (if b then Some c else None) ≡ b
  by true c = refl
  by false c = refl

left_some : (caller : ℕ) (o : Option Change) → is_some (leave_after caller o) ≡ is_some o
left_some caller None = refl
left_some caller (Some c) = refl

-- by whether the instance is ready
by_ready : (s : State) (e most : ℕ) (ks : List ℕ) (told : Option Change) (c : Change) → is_legal (links s) ≡ true → is_some told ≡ is_pick s e most ks → is_some (settled s (if is_ready s e then told else plainly ks c)) ≡ is_pick s e most ks
by_ready s e most ks told c legal is = settled_some s (if is_ready s e then told else plainly ks c) ∙ elim (cases_Bool (is_ready s e)) [
  | inl t ↦ ap (λ (b : Bool). is_some (if b then told else plainly ks c)) t ∙ is
  | inr f ↦ ap (λ (b : Bool). is_some (if b then told else plainly ks c)) f ∙ (plainly_some ks c ∙ sym (idle_pick s e most ks legal f))
]

-- a call that waits may report what the machine may pick
pub wait_goes : (p : Parts) (caller : ℕ) (event : Event) (args : Wait) (instance : DescId) (s : State) (ks : List ℕ) → CallsWait p caller event args instance → is_legal (links s) ≡ true → StandFor p s
    → goes_with p.tables.limits caller event ks s ≡ is_pick s (number_at p.tables.keys instance) (number_in args.max) ks
wait_goes p caller event args instance s ks of legal stands =
    let limits = p.tables.limits in
    let pid = args.pid.0 in
    let e = number_at p.tables.keys instance in
    let most = number_in args.max in
    let here : is_none (table_of s.files pid) ≡ false = some_not_none (table_of s.files pid) (ap (λ (f : Files). is_some (table_of f pid)) stands.files ∙ of.there) in
    let free : is_parked s caller ≡ false = caller_waits p.tables p.interest p.parked p.clock s caller stands ∙ of.free in
    let passes : first (wait_refusals s pid args.epfd.0 args.max) ≡ None = ap (λ (f : Files). first (wait_tests f args)) stands.files ∙ of.waits.accepted in
    let accepted : first (refusals limits s caller (CallOf args.pid (wait_call args))) ≡ None = (λ i. first ((here i, Esrch) ∷ (free i, Ebusy) ∷ wait_refusals s pid args.epfd.0 args.max)) ∙ passes in
    let named : named_by s.files pid args.epfd.0 ≡ e = ap (λ (f : Files). named_by f pid args.epfd.0) stands.files ∙ ap (λ (o : Option ℕ). unwrap_or o 0) (sym of.waits.named) in
    ap (λ (ev : Event). goes_with limits caller ev ks s) of.is
    ∙ (ap (λ (o : Option Errno). is_some (refused_or o s ks (change limits s caller (CallOf args.pid (wait_call args)) ks))) accepted
    ∙ (ap (λ (d : ℕ). is_some (settled s (wait s caller pid d most args.timeout ks))) named
    ∙ by_ready s e most ks (report s e most ks) (wait_for s caller pid e most args.timeout) legal (report_some s e most ks)))

-- and so may the resumption of a caller that is marked
pub resume_goes : (p : Parts) (caller : ℕ) (event : Event) (w : ParkedWaiter) (s : State) (ks : List ℕ) → Resumes p caller event w → is_legal (links s) ≡ true → StandFor p s
    → goes_with p.tables.limits caller event ks s ≡ is_pick s (number_at p.tables.keys w.instance) (number_in w.max) ks
resume_goes p caller event w s ks of legal stands =
    let limits = p.tables.limits in
    let e = number_at p.tables.keys w.instance in
    let most = number_in w.max in
    let at = waits p caller s ks stands w of.parked in
    let x = own p caller s ks stands w of.parked in
    let accepted : first (refusals limits s caller Resume) ≡ None = resume_allowed limits s caller (parked_found s caller ∙ ap (λ (o : Option Waiter). is_some o) at) in
    ap (λ (ev : Event). goes_with limits caller ev ks s) of.is
    ∙ (ap (λ (o : Option Errno). is_some (refused_or o s ks (resume s caller ks))) accepted
    ∙ (ap (λ (o : Option Waiter). is_some (settled s (resume_by s o ks))) at
    ∙ (ap (λ (b : Bool). is_some (settled s (if not b then plainly ks (Still, s, []) else if is_ready s e then leave_after caller (report s e most ks) else plainly ks (resume_empty s x)))) of.marked
    ∙ by_ready s e most ks (leave_after caller (report s e most ks)) (resume_empty s x) legal (left_some caller (report s e most ks) ∙ report_some s e most ks))))
