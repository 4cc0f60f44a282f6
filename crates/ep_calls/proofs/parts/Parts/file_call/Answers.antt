use Rattle.std.proofs.Common.{List, [], ◌≡◌, ◌∙◌, ◌≤◌, IsSome, None, Option, Some, ap, arith, false, min, subst, sym, ℕ}
use Rattle.std.proofs.lemmas.Bool.{false≢true}
use Rattle.std.proofs.lemmas.Result.{IfOk-weaker}
use Rattle.ep_calls.specs.Reply.{IsSettled}
use Rattle.ep_base.specs.declared.answer.Answer.{Answer}
use Rattle.ep_base.specs.declared.ids.DescId.{DescId}
use Rattle.ep_calls.specs.Acts.{is_no_memory}
use Rattle.ep_base.specs.declared.ids.Fd.{Fd}
use Rattle.ep_base.specs.declared.object.Raised.{Raised}
use Rattle.ep_calls.specs.Does.{DoesCall}
use Rattle.ep_calls.specs.FileCall.{CallsAsked, CallsFiles}
use Rattle.ep_calls.specs.ObjectCall.{AppliesAt, waiting_at}
use Rattle.ep_calls.specs.Parts.{AreCoherent, Parts}
use Rattle.ep_calls.specs.declared.outcome.Outcome.{Outcome}
use Rattle.ep_calls.specs.declared.raising.Raising.TheVariants.{Object as AtObject}
use Rattle.ep_calls.proofs.ObjectCallLemmas.{fits_settled}
use Rattle.ep_object.proofs.RealLemmas.{answer_real}
use Rattle.ep_calls.proofs.ObjectLemmas.{applied_calls, applied_coherent, applied_does, unnamed_calls, unnamed_does}
use Rattle.ep_calls.proofs.AskedLemmas.{neither_asks, plain_is_asked}
use Rattle.ep_base.specs.declared.call.Call.{Call}
use Rattle.ep_object.specs.Asked.{plain_call}
use Rattle.ep_calls.proofs.FileCallLemmas.{is_table_call, makes_no_timer, names_no_timer}
use Rattle.ep_calls.proofs.KeptLemmas.{any_call, table_call_kept}
use Rattle.ep_calls.proofs.LastLemmas.{long_last, object_last, on_err}
use Rattle.ep_calls.proofs.SparedLemmas.{takes_none, waits_under}
use Rattle.ep_calls.specs.Last.{NothingRefusesCall}
use Rattle.ep_calls.specs.Spared.{TakesNoMemory}
use Rattle.ep_object.specs.Memory.{asked_of}
use Rattle.ep_machine.specs.Files.{side_of, under}
use Rattle.ep_machine.specs.Objects.{Object, ObjectCall, asks}
use Rattle.ep_table.specs.Value.{Sound, content_of, number_of, number_under}
use Rattle.ep_calls.proofs.parts.Parts.file_call.Goals as goal

asked_is : (objects : List (Option Object)) (call : Call) (fd : Fd) (asked : ObjectCall) → Some (fd, asked) ≡ plain_call call → asks objects call ≡ Some (fd, asked)
asked_is objects call fd asked is = plain_is_asked objects call (fd, asked) (sym is)

pub settled-requires-clause-settled : goal.settled-requires-clause-settled
settled-requires-clause-settled c =
    let v = c.self.inside.tables in
    let d = number_of v c.in-Some-lookup.desc in
    subst IsSettled (sym c.in_ok-answer.ensures.answer)
    (fits_settled (content_of v.files d) (side_of v.files d) c.self.inside.clock c.in-Some.asked c.if-is_long.ensures)

pub settled-requires-clause-real : goal.settled-requires-clause-real
settled-requires-clause-real c =
    let v = c.self.inside.tables in
    let d = number_of v c.in-Some-lookup.desc in
    subst (λ (a : Answer). is_no_memory a ≡ false) (sym c.in_ok-answer.ensures.answer)
    (answer_real (content_of v.files d) (side_of v.files d) c.self.inside.clock c.in-Some.asked)

pub invariant_of-self-2 : goal.invariant_of-self-2
invariant_of-self-2 c =
    let k = c.self.inside in
    let p : Parts = record { tables = k.tables; interest = k.interest; graph = k.graph; parked = k.waiters; clock = k.clock } in
    applied_coherent p c.apply.new.self c.in-Some-lookup.desc c.in-Some.asked c.known.ensures c.in-Some-lookup.ensures.live c.in_ok-answer.ensures.files c.self.invariant

-- what the object did with it
applies : (c : goal.After-settled) → AppliesAt c.in-Some-lookup.desc c.self.inside.clock c.in-Some.asked c.settled.result c.self.inside.tables c.apply.new.self
applies c =
    let e = c.in_ok-answer.ensures in
    let o = c.settled.ensures in
    record {
      answer = o.answer ∙ e.answer;
      raising = o.raising ∙ ap (λ (r : Raised). AtObject c.in-Some-lookup.desc r) e.raised;
      files = e.files;
      picked = o.picked;
    }

pub returns-clause-tables : goal.returns-clause-tables
returns-clause-tables c =
    let k = c.self.inside in
    let p : Parts = record { tables = k.tables; interest = k.interest; graph = k.graph; parked = k.waiters; clock = k.clock } in
    let found = c.in-Some-lookup.ensures in
    subst (λ (q : Parts). CallsFiles c.args.pid.0 c.args.call.now c.settled.result.answer q (record p { tables = c.apply.new.self })) c.self.view_is
    (subst (λ (on : Option (Fd × ObjectCall)). CallsAsked c.args.pid.0 c.args.call.now on c.settled.result.answer p (record p { tables = c.apply.new.self })) (sym (asked_is c.self.inside.tables.files.objects c.args.call.now c.in-Some.fd c.in-Some.asked c.in-Some.ensures))
    (applied_calls p c.apply.new.self c.args.pid.0 c.in-Some.fd c.in-Some-lookup.desc c.in-Some.asked c.settled.result c.known.ensures found.number found.live (applies c)))

pub returns-clause-ok : goal.returns-clause-ok
returns-clause-ok c =
    let k = c.self.inside in
    let p : Parts = record { tables = k.tables; interest = k.interest; graph = k.graph; parked = k.waiters; clock = k.clock } in
    let found = c.in-Some-lookup.ensures in
    rw (← c.self.view_is)
    (λ n caller. applied_does p c.apply.new.self c.args.pid.0 c.in-Some.fd c.in-Some-lookup.desc c.in-Some.asked c.settled.result c.known.ensures found.number found.live (applies c) c.self.invariant n caller c.args.call.now (asked_is c.self.inside.tables.files.objects c.args.call.now c.in-Some.fd c.in-Some.asked c.in-Some.ensures))

-- a call on no object
neither : (c : goal.After-table_call) (objects : List (Option Object)) → asks objects c.args.call.now ≡ None
neither c objects = neither_asks objects c.args.call.now (sym c.in_default.ensures) (sym c.is.ensures ∙ c.if-is.false)

pub table_call-requires-clause-call : goal.table_call-requires-clause-call
table_call-requires-clause-call c = is_table_call [] c.args.call.now c.requires.call (neither_asks [] c.args.call.now (sym c.in_default.ensures) (sym c.is.ensures ∙ c.if-is.false))

pub returns-in_default-clause-tables : goal.returns-in_default-clause-tables
returns-in_default-clause-tables c =
    let old = c.args.self.now in
    IfOk-weaker c.table_call.result _ _ (λ o h.
    subst (λ (on : Option (Fd × ObjectCall)). CallsAsked c.args.pid.0 c.args.call.now on o.answer old c.table_call.new.self) (sym (neither c old.tables.files.objects)) h) c.table_call.ensures.tables

pub returns-in_default-clause-kept : goal.returns-in_default-clause-kept
returns-in_default-clause-kept c =
    let objects = c.args.self.now.tables.files.objects in
    let is = is_table_call objects c.args.call.now c.requires.call (neither c objects) in
    IfOk-weaker c.table_call.result _ _ (λ o h. table_call_kept c.args.call.now c.args.kept o is) c.table_call.ensures.picked

pub returns-in_default-clause-spared : goal.returns-in_default-clause-spared
returns-in_default-clause-spared c spared =
    c.table_call.ensures.frees (takes_none c.args.self.now.tables.files c.args.pid.0 c.args.call.now None c.requires.call (neither c c.args.self.now.tables.files.objects) spared)

-- one by which a socket may get a name
pub returns-then-is-clause-kept : goal.returns-then-is-clause-kept
returns-then-is-clause-kept c = IfOk-weaker c.naming_call.result _ _ (λ o h. h c.args.kept) c.naming_call.ensures.kept

pub returns-then-is-clause-room : goal.returns-then-is-clause-room
returns-then-is-clause-room c no_room made = absurd (names_no_timer c.args.call.now (sym c.is.ensures ∙ c.if-is.true) made)

-- a descriptor that names nothing
pub returns-in_default-lookup-clause-ok : goal.returns-in_default-lookup-clause-ok
returns-in_default-lookup-clause-ok c n caller =
    let k = c.self.inside in
    let p : Parts = record { tables = k.tables; interest = k.interest; graph = k.graph; parked = k.waiters; clock = k.clock } in
    let o = c.refused.ensures in
    subst (λ (q : Parts). DoesCall n caller c.args.pid.0 c.args.call.now c.refused.result q q) c.self.view_is
    (unnamed_does p c.args.pid.0 c.in-Some.fd c.in-Some.asked c.refused.result c.self.invariant (sym c.in_default-lookup.ensures.number) o.answer o.picked o.raising n caller c.args.call.now (asked_is c.self.inside.tables.files.objects c.args.call.now c.in-Some.fd c.in-Some.asked c.in-Some.ensures))

pub returns-in_default-lookup-clause-tables : goal.returns-in_default-lookup-clause-tables
returns-in_default-lookup-clause-tables c =
    let k = c.self.inside in
    let p : Parts = record { tables = k.tables; interest = k.interest; graph = k.graph; parked = k.waiters; clock = k.clock } in
    let is = asked_is k.tables.files.objects c.args.call.now c.in-Some.fd c.in-Some.asked c.in-Some.ensures in
    subst (λ (q : Parts). CallsFiles c.args.pid.0 c.args.call.now c.refused.result.answer q q) c.self.view_is
    (subst (λ (on : Option (Fd × ObjectCall)). CallsAsked c.args.pid.0 c.args.call.now on c.refused.result.answer p p) (sym is)
    (unnamed_calls p c.args.pid.0 c.in-Some.fd c.in-Some.asked c.refused.result (sym c.in_default-lookup.ensures.number) c.refused.ensures.answer))

pub returns-in_default-lookup-clause-kept : goal.returns-in_default-lookup-clause-kept
returns-in_default-lookup-clause-kept c = any_call c.args.call.now c.args.kept c.refused.result (λ kept none. c.refused.ensures.inline)

-- what was found, and the parts as the longer way has them
module _ (c : goal.After-long_call) where
  abbrev desc : DescId
  desc = c.in-Some-lookup.desc

  abbrev old : Parts
  old = c.args.self.now

  abbrev new : Parts
  new = c.long_call.new.self

  sound : Sound old.tables
  sound = subst (λ (q : Parts). Sound q.tables) c.self.view_is c.known.ensures

  found : number_under old.tables desc ≡ under old.tables.files c.args.pid.0 c.in-Some.fd.0
  found = subst (λ (q : Parts). number_under q.tables desc ≡ under q.tables.files c.args.pid.0 c.in-Some.fd.0) c.self.view_is c.in-Some-lookup.ensures.number

  live : IsSome (number_under old.tables desc)
  live = subst (λ (q : Parts). IsSome (number_under q.tables desc)) c.self.view_is c.in-Some-lookup.ensures.live

  coherent : AreCoherent old
  coherent = subst AreCoherent c.self.view_is c.self.invariant

  abbrev Applies : Outcome → Type 0
  Applies o = AppliesAt desc old.clock c.in-Some.asked o old.tables new.tables

  is : asks old.tables.files.objects c.args.call.now ≡ Some (c.in-Some.fd, c.in-Some.asked)
  is = subst (λ (q : Parts). asks q.tables.files.objects c.args.call.now ≡ Some (c.in-Some.fd, c.in-Some.asked)) c.self.view_is (asked_is c.self.inside.tables.files.objects c.args.call.now c.in-Some.fd c.in-Some.asked c.in-Some.ensures)

  long_tables : (o : Outcome) → Applies o → CallsFiles c.args.pid.0 c.args.call.now o.answer old new
  long_tables o did =
      subst (λ (on : Option (Fd × ObjectCall)). CallsAsked c.args.pid.0 c.args.call.now on o.answer old new) (sym is)
      (applied_calls old new.tables c.args.pid.0 c.in-Some.fd desc c.in-Some.asked o sound found live did)

  long_does : (o : Outcome) → Applies o → (n caller : ℕ) → DoesCall n caller c.args.pid.0 c.args.call.now o old new
  long_does o did n caller =
      subst (λ (q : Parts). DoesCall n caller c.args.pid.0 c.args.call.now o old q) (sym c.long_call.ensures.parts)
      (applied_does old new.tables c.args.pid.0 c.in-Some.fd desc c.in-Some.asked o sound found live did coherent n caller c.args.call.now is)

pub returns-then-is_long-clause-tables : goal.returns-then-is_long-clause-tables
returns-then-is_long-clause-tables c = IfOk-weaker c.long_call.result _ _ (long_tables c) c.long_call.ensures.ok

pub returns-then-is_long-clause-ok : goal.returns-then-is_long-clause-ok
returns-then-is_long-clause-ok c = IfOk-weaker c.long_call.result _ _ (long_does c) c.long_call.ensures.ok

pub returns-then-is_long-clause-kept : goal.returns-then-is_long-clause-kept
returns-then-is_long-clause-kept c = IfOk-weaker c.long_call.result _ _ (λ o h. any_call c.args.call.now c.args.kept o h) c.long_call.ensures.kept

pub returns-then-is_long-clause-room : goal.returns-then-is_long-clause-room
returns-then-is_long-clause-room c no_room made = absurd (makes_no_timer c.self.inside.tables.files.objects c.args.call.now (c.in-Some.fd, c.in-Some.asked) (asked_is c.self.inside.tables.files.objects c.args.call.now c.in-Some.fd c.in-Some.asked c.in-Some.ensures) made)

-- more wait than an answer holds
module _ (c : goal.After-long_call) where
  too_long : min (asked_of c.in-Some.asked) (waiting_at c.self.inside.tables (desc c) c.in-Some.asked) ≤ 16 → ⊥
  too_long few = let long = c.if-is_long.ensures in omega (arith, few, long)

  too_long_now : min (asked_of c.in-Some.asked) (waiting_at (old c).tables (desc c) c.in-Some.asked) ≤ 16 → ⊥
  too_long_now = subst (λ (q : Parts). min (asked_of c.in-Some.asked) (waiting_at q.tables (desc c) c.in-Some.asked) ≤ 16 → ⊥) c.self.view_is too_long

  long_spared : TakesNoMemory (old c).tables.files c.args.pid.0 c.args.call.now → ⊥
  long_spared spared =
      let none = takes_none (old c).tables.files c.args.pid.0 c.args.call.now (Some (c.in-Some.fd, c.in-Some.asked)) c.requires.call (is c) spared in
      let same = waits_under (old c).tables (desc c) c.args.pid.0 c.in-Some.fd.0 c.in-Some.asked (found c) in
      too_long_now (subst (λ (w : ℕ). min (asked_of c.in-Some.asked) w ≤ 16) (sym same) none.1)

  long_last_call : NothingRefusesCall (old c) c.args.pid.0 c.args.call.now
  long_last_call =
      object_last (old c) c.args.pid.0 c.in-Some.fd (desc c) c.in-Some.asked (found c) (live c)
      (long_last (old c).tables (desc c) (old c).clock c.in-Some.asked too_long_now) c.args.call.now (is c)

pub returns-then-is_long-clause-spared : goal.returns-then-is_long-clause-spared
returns-then-is_long-clause-spared c spared = absurd (long_spared c spared)

pub returns-then-is_long-clause-last : goal.returns-then-is_long-clause-last
returns-then-is_long-clause-last c = on_err c.long_call.result (long_last_call c)

-- what needs memory after all
pub returns-in_err-answer-clause-spared : goal.returns-in_err-answer-clause-spared
returns-in_err-answer-clause-spared c =
    let k = c.self.inside in
    let p : Parts = record { tables = k.tables; interest = k.interest; graph = k.graph; parked = k.waiters; clock = k.clock } in
    let P : Parts → Type 0 = λ q. TakesNoMemory q.tables.files c.args.pid.0 c.args.call.now → ⊥ in
    let asked = c.in-Some.asked in
    let never : P p = λ spared.
    let none = takes_none k.tables.files c.args.pid.0 c.args.call.now (Some (c.in-Some.fd, asked)) c.requires.call (asked_is c.self.inside.tables.files.objects c.args.call.now c.in-Some.fd c.in-Some.asked c.in-Some.ensures) spared in
    false≢true (c.in_err-answer.ensures.inline c.if-is_long.ensures) in
    λ spared. absurd (subst P c.self.view_is never spared)

pub returns-in_err-answer-clause-last : goal.returns-in_err-answer-clause-last
returns-in_err-answer-clause-last c =
    let k = c.self.inside in
    let p : Parts = record { tables = k.tables; interest = k.interest; graph = k.graph; parked = k.waiters; clock = k.clock } in
    let found = c.in-Some-lookup.ensures in
    on_err c.from_residual.result
    (subst (λ (q : Parts). NothingRefusesCall q c.args.pid.0 c.args.call.now) c.self.view_is
    (object_last p c.args.pid.0 c.in-Some.fd c.in-Some-lookup.desc c.in-Some.asked found.number found.live c.in_err-answer.ensures.last c.args.call.now (asked_is c.self.inside.tables.files.objects c.args.call.now c.in-Some.fd c.in-Some.asked c.in-Some.ensures)))

pub returns-clause-kept : goal.returns-clause-kept
returns-clause-kept c = any_call c.args.call.now c.args.kept c.settled.result (λ kept none. c.settled.ensures.inline)

pub returns-clause-room : goal.returns-clause-room
returns-clause-room c no_room made = absurd (makes_no_timer c.self.inside.tables.files.objects c.args.call.now (c.in-Some.fd, c.in-Some.asked) (asked_is c.self.inside.tables.files.objects c.args.call.now c.in-Some.fd c.in-Some.asked c.in-Some.ensures) made)
