-- Which events report in the order of ready lists.
use Rattle.std.proofs.Common.{◌≡◌, ◌∙◌, ◌<◌, ◌++◌, ◌⊎◌, ℕ, suc, Bool, true, false, IsSome, List, [], ◌∷◌, Option, Some, ap, arith, drop, filter, inl, inr, length, refl, sym, take, unwrap_or}
use Rattle.std.specs.List.{find}
use Rattle.std.proofs.lemmas.Bool.{false≢true}
use Rattle.ep_base.specs.declared.answer.Answer.TheVariants.{Events, Refused, Still}
use Rattle.ep_base.specs.declared.answer.Report.{Report}
use Rattle.ep_base.specs.declared.call.Call.{Call}
use Rattle.ep_base.specs.declared.call.Call.TheVariants.{EpollWait}
use Rattle.ep_base.specs.declared.call.Event.{Event}
use Rattle.ep_base.specs.declared.call.Event.TheVariants.{Call as CallOf, Resume}
use Rattle.ep_base.specs.declared.errno.Errno.{Errno}
use Rattle.ep_base.specs.declared.ids.DescId.{DescId}
use Rattle.ep_base.specs.declared.ids.Pid.{Pid}
use Rattle.ep_calls.proofs.KeyLemmas.{under_key}
use Rattle.ep_calls.proofs.ResumeLemmas.{there}
use Rattle.ep_calls.specs.Moves.{StandFor}
use Rattle.ep_calls.specs.FileCall.{IsFileCall}
use Rattle.ep_calls.specs.Parts.{AreCoherent, Parts}
use Rattle.ep_calls.specs.Stands.{number_at}
use Rattle.ep_calls.specs.Wait.{Waits, numbers_of, wait_call}
use Rattle.ep_calls.specs.declared.outcome.Outcome.{Outcome}
use Rattle.ep_calls.specs.declared.wait.Reportable.{Reportable}
use Rattle.ep_calls.specs.declared.wait.Wait.{Wait}
use Rattle.ep_interest.specs.Registrations.{IsSound}
use Rattle.ep_kernel.proofs.PickLemmas.{found_first}
use Rattle.ep_kernel.proofs.ReadyBookLemmas.{listed_of, number_is}
use Rattle.ep_kernel.specs.Choose.{IsFound}
use Rattle.ep_kernel.specs.Listed.{IsListed, order_at}
use Rattle.ep_kernel.specs.ReadyBook.{WaitsAt}
use Rattle.ep_kernel.specs.Wait.{ReportsInOrder}
use Rattle.ep_kernel.specs.Take.{SetsList, key_stays, taken}
use Rattle.ep_law.proofs.ListLemmas.{among_member, filtered_passes}
use Rattle.ep_law.specs.Laws.{is_reportable_in}
use Rattle.ep_machine.specs.Files.{Files, named_by}
use Rattle.ep_machine.specs.Lists.{is_among}
use Rattle.ep_machine.specs.State.{State, Waiter}
use Rattle.ep_machine.specs.Step.{next_event}
use Rattle.ep_machine.specs.Watches.{number_in}
use Rattle.ep_park.specs.Waiters.{is_caller, parked}
use Rattle.ep_park.specs.declared.waiter.Waiter.{Waiter as ParkedWaiter}
use Rattle.ep_ready.specs.ReadyLists.{IsSound as AreSoundLists, Lists, list_at}
use Rattle.ep_table.specs.Value.{Sound as SoundTables, number_under}

-- Events that are no waits.

abbrev pub is_wait : Event → Bool
is_wait (CallOf p (EpollWait epfd max timeout)) = true
is_wait Resume = true
is_wait event = false

pub other_reports : (l : Lists) (n caller : ℕ) (event : Event) (outcome : Outcome) (p q : Parts) (m : Lists) → is_wait event ≡ false → ReportsInOrder l n caller event outcome p q m
other_reports l n caller (CallOf pid (EpollWait epfd max timeout)) outcome p q m h = absurd (false≢true (sym h))
other_reports l n caller Resume outcome p q m h = absurd (false≢true (sym h))
other_reports l n caller event outcome p q m h = λ s at sound quiet legal stands. (λ e most reports is waits. absurd waits, λ e most reports is waits. absurd waits)

pub files_wait : (pid : Pid) (call : Call) → IsFileCall call → is_wait (CallOf pid call) ≡ false
files_wait pid (EpollWait epfd max timeout) h = absurd h
files_wait pid call h = refl

-- Answers that are no reports.

no_events : (e : Errno) (reports : List Report) → Refused e ≡ Events reports → ⊥
no_events e reports h = absurd (cc)

still_no_events : (reports : List Report) → Still ≡ Events reports → ⊥
still_no_events reports h = absurd (cc)

pub refused_reports : (l : Lists) (n caller : ℕ) (event : Event) (outcome : Outcome) (p q : Parts) (m : Lists) (e : Errno) → outcome.answer ≡ Refused e → ReportsInOrder l n caller event outcome p q m
refused_reports l n caller event outcome p q m error refused = λ s at sound quiet legal stands.
    (λ e most reports is waits. absurd (no_events error reports (sym refused ∙ is)), λ e most reports is waits. absurd (no_events error reports (sym refused ∙ is)))

pub still_reports : (l : Lists) (n caller : ℕ) (event : Event) (outcome : Outcome) (p q : Parts) (m : Lists) → outcome.answer ≡ Still → ReportsInOrder l n caller event outcome p q m
still_reports l n caller event outcome p q m still = λ s at sound quiet legal stands.
    (λ e most reports is waits. absurd (still_no_events reports (sym still ∙ is)), λ e most reports is waits. absurd (still_no_events reports (sym still ∙ is)))

-- Waits.

length_numbers : (xs : List Reportable) → length (numbers_of xs) ≡ length xs
length_numbers [] = refl
length_numbers (x ∷ xs) = ap (λ (n : ℕ). suc n) (length_numbers xs)

-- of a list that was walked to its end, what stays is left
all_stay : (stays : ℕ → Bool) (walked : ℕ) (keys : List ℕ) (k : ℕ) → walked ≡ length keys → is_among (taken stays walked keys) k ≡ true → stays k ≡ true
all_stay stays walked keys k whole on =
    let rest : drop walked keys ≡ [] = ap (λ (n : ℕ). drop n keys) whole ∙ none_behind keys in
    filtered_passes stays (take walked keys) k (among_member (filter stays (take walked keys)) k (ap (λ (ks : List ℕ). is_among (ks ++ filter stays (take walked keys)) k) (sym rest) ∙ on)) where
      none_behind : (xs : List ℕ) → drop (length xs) xs ≡ []
      none_behind [] = refl
      none_behind (x ∷ xs) = none_behind xs

-- the event waits at the instance under this key, for so many
abbrev pub WaitsAtKey : Parts → ℕ → Event → DescId → ℕ → Type 0
WaitsAtKey p caller event i most = (s : State) → StandFor p s → (e m : ℕ) → WaitsAt s caller event e m → (number_at p.tables.keys i ≡ e) × (most ≡ m)

pub first_reported : (l : Lists) (n caller : ℕ) (event : Event) (outcome : Outcome) (p : Parts) (i : DescId) (most walked : ℕ) (found : List Reportable) → AreCoherent p → SoundTables p.tables → IsSound p.interest → AreSoundLists l → IsListed p l
    → IsSome (number_under p.tables i) → IsFound p (list_at l i.0) most found walked → outcome.picked ≡ numbers_of found → WaitsAtKey p caller event i most
    → (q : Parts) (new : Lists) → SetsList l new i.0 (taken (key_stays n q.interest) walked (list_at l i.0)) → ReportsInOrder l n caller event outcome p q new
first_reported l n caller event outcome p i most walked found coherent tables sound lists listed lives finds picks waits_there q new takes = λ s at sound_state quiet legal stands. (
  λ e m reports is waits.
      let w = waits_there s stands e m waits in
      let u = under_key p.tables.keys i lives in
      picks
      ∙ (found_first p l i most walked found coherent tables sound lists listed finds s stands
      ∙ ((λ j. take (w.1 j) (filter (is_reportable_in s (w.0 j)) (order_at p.interest l i.0)))
      ∙ ap (λ (ks : List ℕ). take m (filter (is_reportable_in s e) ks)) (sym (listed_of p l tables i e (number_is _ u.number e u.is w.0))))),
  λ e m reports is waits few j at_j k on.
      let w = waits_there s stands e m waits in
      let u = under_key p.tables.keys i lives in
      let same : j.0 ≡ i.0 = tables.one j i e at_j (number_is _ u.number e u.is w.0) in
      let short : length found < most = let count = ap length picks ∙ length_numbers found in let asked = w.1 in omega (arith, few, count, asked) in
      all_stay (key_stays n q.interest) walked (list_at l i.0) k (whole finds.all short)
      (ap (λ (ks : List ℕ). is_among ks k) (sym takes.here) ∙ (ap (λ (d : ℕ). is_among (list_at new d) k) (sym same) ∙ on)),
) where
  whole : (length found ≡ most) ⊎ (walked ≡ length (list_at l i.0)) → length found < most → walked ≡ length (list_at l i.0)
  whole (inl full) short = absurd (omega (arith, full, short))
  whole (inr all) short = all

pub waits_at_named : (p : Parts) (caller : ℕ) (args : Wait) (i : DescId) → Waits p.tables args i → WaitsAtKey p caller (CallOf args.pid (wait_call args)) i (number_in args.max)
waits_at_named p caller args i found s stands e m waits = (
  ap (λ (o : Option ℕ). unwrap_or o 0) found.named ∙ (ap (λ (f : Files). named_by f args.pid.0 args.epfd.0) (sym stands.files) ∙ waits.0),
  waits.1,
)

some_waiter : (v w : Waiter) → Some v ≡ Some w → v ≡ w
some_waiter v w h = ap (λ (o : Option Waiter). unwrap_or o v) h

pub waits_at_parked : (p : Parts) (caller : ℕ) (w : ParkedWaiter) → find (is_caller caller) p.parked ≡ Some (parked caller w) → WaitsAtKey p caller Resume w.instance (number_in w.max)
waits_at_parked p caller w is s stands e m waits =
    let own = there p.graph p.tables p.interest p.parked p.clock caller p.tables.limits s stands w is in
    let same = some_waiter _ waits.0 (sym own ∙ waits.1) in
    (ap (λ (v : Waiter). v.instance) same ∙ waits.2, ap (λ (v : Waiter). v.most) same ∙ waits.3)

-- A wait is one in the state in which the event begins.
pub waits_begun : (s : State) (caller : ℕ) (event : Event) (e most : ℕ) → WaitsAt s caller event e most → WaitsAt (next_event s) caller event e most
waits_begun s caller (CallOf p (EpollWait epfd max timeout)) e most h = h
waits_begun s caller Resume e most h = h
waits_begun s caller event e most h = absurd h
