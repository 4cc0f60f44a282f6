-- That nothing refuses a call or an event which wants memory.
use Rattle.std.proofs.Common.{◌≡◌, ◌∙◌, ◌≤◌, ◌∷◌, ℕ, Bool, Err, IsSome, List, None, Ok, OnErr, Option, Result, Some, ap, arith, false, true, find, is_none, is_some, length, min, refl, unwrap_or}
use Rattle.std.proofs.Math.Nat.{lt_of_not-le}
use Rattle.ep_base.specs.declared.errno.Errno.TheVariants.{Ebusy, Esrch}
use Rattle.std.specs.List.{list_any}
use Rattle.ep_facts.proofs.OptionFacts.{some_not_none}
use Rattle.ep_base.specs.declared.call.Call.{Call}
use Rattle.ep_base.specs.declared.call.Event.{Event}
use Rattle.ep_base.specs.declared.call.Event.TheVariants.{Call as CallOf, Resume}
use Rattle.ep_base.specs.declared.ids.DescId.{DescId}
use Rattle.ep_base.specs.declared.ids.Fd.{Fd}
use Rattle.ep_base.specs.declared.ids.Pid.{Pid}
use Rattle.ep_base.specs.declared.object.End.{End}
use Rattle.ep_base.specs.declared.record.Record.{Record}
use Rattle.ep_interest.specs.Registrations.{has_key}
use Rattle.ep_machine.specs.Effect.{first}
use Rattle.ep_machine.specs.Files.{Files, named_by, side_of, table_of, under}
use Rattle.ep_machine.specs.Objects.{Object, ObjectCall, asks, object_refusals}
use Rattle.ep_machine.specs.Refusal.{call_refusals, refusals}
use Rattle.ep_machine.specs.Run.{run}
use Rattle.ep_machine.specs.State.{State, Waiter, opening}
use Rattle.ep_machine.specs.Step.{next_event}
use Rattle.ep_machine.specs.Waits.{is_parked}
use Rattle.ep_machine.specs.Watches.{is_add, is_exclusive_there, is_mod, number_in}
use Rattle.ep_object.proofs.AnswerLemmas.{waiting_is_given}
use Rattle.ep_object.specs.Memory.{asked_of, object_waiting}
use Rattle.ep_park.specs.Waiters.{is_caller, parked}
use Rattle.ep_park.specs.declared.waiter.Waiter.{Waiter as ParkedWaiter}
use Rattle.ep_table.specs.Value.{Seen, Sound, content_of, number_of, number_under, refusals_at}
use Rattle.ep_law.proofs.GraphLemmas.{graph_stays_legal}
use Rattle.ep_law.proofs.SoundLemmas.{sound_begun}
use Rattle.ep_view.proofs.AtRestLemmas.{quiet_begun}
use Rattle.ep_view.proofs.ResumeLemmas.{parked_found, resume_allowed}
use Rattle.ep_calls.specs.Control.{IsPlan, code_of, control_call, is_deep_at, room_refusals}
use Rattle.ep_calls.specs.Keeps.{Keeps}
use Rattle.ep_calls.specs.Last.{NothingRefuses, NothingRefusesCall}
use Rattle.ep_calls.specs.Moves.{StandFor}
use Rattle.ep_calls.specs.ObjectCall.{object_call_of, waiting_at}
use Rattle.ep_calls.specs.Parts.{AreCoherent, Parts}
use Rattle.ep_calls.specs.Wait.{Waits, wait_call, wait_tests}
use Rattle.ep_calls.specs.declared.control.Control.{Control}
use Rattle.ep_calls.specs.declared.control.Plan.{Plan}
use Rattle.ep_calls.specs.declared.wait.Wait.{Wait}
use Rattle.ep_calls.proofs.EpollCtlLemmas.{deep_is_at, left_to_refuse}
use Rattle.ep_calls.proofs.FilesCallLemmas.{on_object_is}
use Rattle.ep_calls.proofs.KeepsLemmas.{state_is}
use Rattle.ep_calls.proofs.ObjectCallLemmas.{refusals_are}
use Rattle.ep_calls.proofs.RegistrationLemmas.{caller_waits}
use Rattle.ep_calls.proofs.ResumeLemmas.{there}

-- a call that may want memory for its bytes: more are asked for, and wait, than an answer holds in itself
long_call : (x : Object) (e : End) (now : ℕ) (asked : ObjectCall) → (min (asked_of asked) (object_waiting x e asked) ≤ 16 → ⊥) → first (object_refusals x e now asked) ≡ None
long_call x e now asked h = let long = lt_of_not-le h in waiting_is_given x e now asked (omega (arith, long))

-- the same at a description
pub long_last : (v : Seen) (desc : DescId) (now : ℕ) (asked : ObjectCall) → (min (asked_of asked) (waiting_at v desc asked) ≤ 16 → ⊥) → first (refusals_at v.files (number_of v desc) now asked) ≡ None
long_last v desc now asked h = long_call (content_of v.files (number_of v desc)) (side_of v.files (number_of v desc)) now asked h

pub on_err : {X E Q : Type 0} (r : Result X E) → Q → OnErr r Q
on_err (Ok x) h = tt
on_err (Err e) h = h

module _ (p : Parts) (pid : ℕ) where
  pub object_last : (fd : Fd) (desc : DescId) (asked : ObjectCall) → number_under p.tables desc ≡ under p.tables.files pid fd.0 → IsSome (number_under p.tables desc)
      → first (refusals_at p.tables.files (number_of p.tables desc) p.clock asked) ≡ None → (call : Call) → asks p.tables.files.objects call ≡ Some (fd, asked) → NothingRefusesCall p pid call
  object_last fd desc asked found lives h call is = λ n s at sound quiet legal stands.
      ap first (on_object_is p.tables.files.objects call fd asked is p.tables.limits s 0 pid (ap (λ (f : Files). f.objects) stands.files)).0
      ∙ ((λ i. first (object_call_of (stands.files i) pid fd.0 (stands.now i) asked).refusals)
      ∙ (refusals_are p.tables pid fd.0 desc found lives p.clock asked ∙ h))

  pub control_last : (args : Control) (plan : Plan) → AreCoherent p → Sound p.tables → IsPlan p pid args plan → list_any (has_key plan.named.instance args.fd plan.named.desc) p.interest.entries ≡ false
      → ((exclusive : Bool) → first (room_refusals (is_add (code_of plan.operation)) (is_mod (code_of plan.operation)) false exclusive (is_deep_at p.tables p.graph plan.named) p.tables.limits.watches (length p.interest.entries)) ≡ None) → NothingRefusesCall p pid (control_call args)
  control_last args plan h sound is absent left = λ n s at sound_state quiet legal stands.
      let v = p.tables in
      let r = p.interest in
      let named = plan.named in
      let deep = is_deep_at v p.graph named in
      let exclusive = is_exclusive_there s (named_by s.files pid args.epfd.0) (number_in args.fd.0) (named_by s.files pid args.fd.0) in
      left_to_refuse p.graph v.limits v r s pid args named is.names sound p.clock stands h.linked deep (deep_is_at v.limits v r s pid args named is.names sound p.clock stands h.linked p.graph h.nested) is.accepted
      ∙ ((λ i. first (room_refusals (is_add (is.code i)) (is_mod (is.code i)) (absent i) exclusive deep v.limits.watches (length r.entries))) ∙ left exclusive)

pub resume_last : (p : Parts) (caller : ℕ) (w : ParkedWaiter) → find (is_caller caller) p.parked ≡ Some (parked caller w) → NothingRefuses p caller Resume
resume_last p caller w is = λ n s at sound quiet legal stands.
    resume_allowed p.tables.limits s caller (parked_found s caller ∙ ap (λ (o : Option Waiter). is_some o) (there p.graph p.tables p.interest p.parked p.clock caller p.tables.limits s stands w is))

-- past the two tests of the caller it is the call
pub past_last : (p : Parts) (caller : ℕ) (pid : Pid) (call : Call) → is_some (table_of p.tables.files pid.0) ≡ true → list_any (is_caller caller) p.parked ≡ false → NothingRefusesCall p pid.0 call → NothingRefuses p caller (CallOf pid call)
past_last p caller pid call here free last = λ n s at sound quiet legal stands.
    let lives : is_none (table_of s.files pid.0) ≡ false = some_not_none (table_of s.files pid.0) (ap (λ (f : Files). is_some (table_of f pid.0)) stands.files ∙ here) in
    let unparked : is_parked s caller ≡ false = caller_waits p.tables p.interest p.parked p.clock s caller stands ∙ free in
    (λ i. first ((lives i, Esrch) ∷ (unparked i, Ebusy) ∷ call_refusals p.tables.limits s pid.0 call)) ∙ last n s at sound quiet legal stands

-- a wait at an instance that was found
pub wait_last : (p : Parts) (args : Wait) (instance : DescId) → Waits p.tables args instance → NothingRefusesCall p args.pid.0 (wait_call args)
wait_last p args instance waits = λ n s at sound quiet legal stands. ap (λ (f : Files). first (wait_tests f args)) stands.files ∙ waits.accepted

-- at the state that the history leads to
pub event_last : (past : List Record) (p : Parts) → Keeps past p → (caller : ℕ) (event : Event) → NothingRefuses p caller event
    → first (refusals p.tables.limits (next_event (unwrap_or (run p.tables.limits opening past) opening)) caller event) ≡ None
event_last past p keeps caller event last =
    let s = keeps.state in
    let legal = graph_stays_legal p.tables.limits past s keeps.leads in
    let stand : StandFor p (next_event s) = record { now = keeps.stands.now; files = keeps.stands.files; watches = keeps.stands.watches; added = keeps.stands.added; waiters = keeps.stands.waiters } in
    ap (λ (t : State). first (refusals p.tables.limits (next_event t) caller event)) (state_is past p keeps)
    ∙ last (next_event s).n (next_event s) refl (sound_begun s keeps.sound) (quiet_begun s keeps.quiet) legal stand
