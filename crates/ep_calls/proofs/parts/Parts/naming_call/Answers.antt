use Rattle.std.proofs.Common.{◌≡◌, ◌∙◌, Option, Some, ap, false, subst, sym}
use Rattle.std.proofs.lemmas.Bool.{false≢true}
use Rattle.ep_base.specs.declared.socket.Hearing.{Hearing}
use Rattle.ep_base.specs.declared.answer.Answer.{Answer}
use Rattle.ep_base.specs.declared.call.Call.{Call}
use Rattle.ep_base.specs.declared.ids.Fd.{Fd}
use Rattle.ep_base.specs.declared.object.Raised.{Raised}
use Rattle.ep_base.specs.declared.socket.Name.{Name}
use Rattle.ep_calls.proofs.AskedLemmas.{finds_free, naming_is_asked}
use Rattle.ep_calls.proofs.FileCallLemmas.{names_file}
use Rattle.ep_calls.proofs.LastLemmas.{object_last, on_err}
use Rattle.ep_calls.proofs.ObjectCallLemmas.{naming_settled}
use Rattle.ep_calls.proofs.ObjectLemmas.{applied_calls, applied_coherent, applied_does, unnamed_calls, unnamed_does}
use Rattle.ep_calls.proofs.SparedLemmas.{takes_none}
use Rattle.ep_calls.specs.Acts.{is_no_memory}
use Rattle.ep_calls.specs.Does.{DoesCall}
use Rattle.ep_calls.specs.FileCall.{CallsAsked, CallsFiles}
use Rattle.ep_calls.specs.Last.{NothingRefusesCall}
use Rattle.ep_calls.specs.ObjectCall.{AppliesAt}
use Rattle.ep_calls.specs.Parts.{Parts}
use Rattle.ep_calls.specs.Reply.{IsSettled}
use Rattle.ep_calls.specs.Spared.{TakesNoMemory}
use Rattle.ep_calls.specs.declared.raising.Raising.TheVariants.{Object as AtObject}
use Rattle.ep_machine.specs.Files.{side_of}
use Rattle.ep_machine.specs.Objects.{ObjectCall, asks, found_for, hearing, is_taken}
use Rattle.ep_object.proofs.RealLemmas.{answer_real}
use Rattle.ep_object.specs.Asked.{naming_call}
use Rattle.ep_table.specs.Value.{Seen, content_of, number_of}
use Rattle.ep_calls.proofs.parts.Parts.naming_call.Goals as goal

-- what was found is what the machine asks with
asked_is : (v : Seen) (call : Call) (found : Option Name) (heard : Hearing) (on : Fd × ObjectCall) → found ≡ found_for (is_taken v.files.objects) call → heard ≡ hearing v.files.objects call
    → naming_call found heard call ≡ Some on → asks v.files.objects call ≡ Some on
asked_is v call found heard on f h is = naming_is_asked v.files.objects call on ((λ i. naming_call (sym f i) (sym h i) call) ∙ is)

pub apply_naming-requires-clause-free : goal.apply_naming-requires-clause-free
apply_naming-requires-clause-free c =
    let v = c.self.inside.tables in
    let on = c.of-asked.result in
    finds_free v.files.objects c.args.call.now on.0 on.1 (asked_is v c.args.call.now c.found_for-found.result c.hearing-heard.result on c.found_for-found.ensures c.hearing-heard.ensures c.of-asked.ensures)

pub settled-requires-clause-settled : goal.settled-requires-clause-settled
settled-requires-clause-settled c =
    let v = c.self.inside.tables in
    let d = number_of v c.in-Some.desc in
    let now = c.self.inside.clock in
    subst IsSettled (sym (c.in_ok-answer.ensures.answer now))
    (naming_settled (content_of v.files d) (side_of v.files d) now c.args.call.now c.found_for-found.result c.hearing-heard.result c.of-asked.result c.of-asked.ensures)

pub settled-requires-clause-real : goal.settled-requires-clause-real
settled-requires-clause-real c =
    let v = c.self.inside.tables in
    let d = number_of v c.in-Some.desc in
    let now = c.self.inside.clock in
    subst (λ (a : Answer). is_no_memory a ≡ false) (sym (c.in_ok-answer.ensures.answer now)) (answer_real (content_of v.files d) (side_of v.files d) now c.of-asked.result.1)

pub invariant_of-self-2 : goal.invariant_of-self-2
invariant_of-self-2 c =
    let k = c.self.inside in
    let p : Parts = record { tables = k.tables; interest = k.interest; graph = k.graph; parked = k.waiters; clock = k.clock } in
    applied_coherent p c.apply_naming.new.self c.in-Some.desc c.of-asked.result.1 c.known.ensures c.in-Some.ensures.live (c.in_ok-answer.ensures.files k.clock) c.self.invariant

-- what the object did with it
applies : (c : goal.After-settled) → AppliesAt c.in-Some.desc c.self.inside.clock c.of-asked.result.1 c.settled.result c.self.inside.tables c.apply_naming.new.self
applies c =
    let e = c.in_ok-answer.ensures in
    let o = c.settled.ensures in
    let now = c.self.inside.clock in
    record {
      answer = o.answer ∙ e.answer now;
      raising = o.raising ∙ ap (λ (r : Raised). AtObject c.in-Some.desc r) (e.raised now);
      files = e.files now;
      picked = o.picked;
    }

pub returns-clause-tables : goal.returns-clause-tables
returns-clause-tables c =
    let k = c.self.inside in
    let p : Parts = record { tables = k.tables; interest = k.interest; graph = k.graph; parked = k.waiters; clock = k.clock } in
    let on = c.of-asked.result in
    let is = asked_is k.tables c.args.call.now c.found_for-found.result c.hearing-heard.result on c.found_for-found.ensures c.hearing-heard.ensures c.of-asked.ensures in
    let found = c.in-Some.ensures in
    subst (λ (q : Parts). CallsFiles c.args.pid.0 c.args.call.now c.settled.result.answer q (record p { tables = c.apply_naming.new.self })) c.self.view_is
    (subst (λ (o : Option (Fd × ObjectCall)). CallsAsked c.args.pid.0 c.args.call.now o c.settled.result.answer p (record p { tables = c.apply_naming.new.self })) (sym is)
    (applied_calls p c.apply_naming.new.self c.args.pid.0 on.0 c.in-Some.desc on.1 c.settled.result c.known.ensures found.number found.live (applies c)))

pub returns-clause-ok : goal.returns-clause-ok
returns-clause-ok c =
    let k = c.self.inside in
    let p : Parts = record { tables = k.tables; interest = k.interest; graph = k.graph; parked = k.waiters; clock = k.clock } in
    let on = c.of-asked.result in
    let is = asked_is k.tables c.args.call.now c.found_for-found.result c.hearing-heard.result on c.found_for-found.ensures c.hearing-heard.ensures c.of-asked.ensures in
    let found = c.in-Some.ensures in
    rw (← c.self.view_is)
    (λ n caller. applied_does p c.apply_naming.new.self c.args.pid.0 on.0 c.in-Some.desc on.1 c.settled.result c.known.ensures found.number found.live (applies c) c.self.invariant n caller c.args.call.now is)

-- a descriptor that names nothing
pub returns-in_default-clause-tables : goal.returns-in_default-clause-tables
returns-in_default-clause-tables c =
    let k = c.self.inside in
    let p : Parts = record { tables = k.tables; interest = k.interest; graph = k.graph; parked = k.waiters; clock = k.clock } in
    let on = c.of-asked.result in
    let is = asked_is k.tables c.args.call.now c.found_for-found.result c.hearing-heard.result on c.found_for-found.ensures c.hearing-heard.ensures c.of-asked.ensures in
    subst (λ (q : Parts). CallsFiles c.args.pid.0 c.args.call.now c.refused.result.answer q q) c.self.view_is
    (subst (λ (o : Option (Fd × ObjectCall)). CallsAsked c.args.pid.0 c.args.call.now o c.refused.result.answer p p) (sym is)
    (unnamed_calls p c.args.pid.0 on.0 on.1 c.refused.result (sym c.in_default.ensures.number) c.refused.ensures.answer))

pub returns-in_default-clause-ok : goal.returns-in_default-clause-ok
returns-in_default-clause-ok c n caller =
    let k = c.self.inside in
    let p : Parts = record { tables = k.tables; interest = k.interest; graph = k.graph; parked = k.waiters; clock = k.clock } in
    let on = c.of-asked.result in
    let is = asked_is k.tables c.args.call.now c.found_for-found.result c.hearing-heard.result on c.found_for-found.ensures c.hearing-heard.ensures c.of-asked.ensures in
    let o = c.refused.ensures in
    subst (λ (q : Parts). DoesCall n caller c.args.pid.0 c.args.call.now c.refused.result q q) c.self.view_is
    (unnamed_does p c.args.pid.0 on.0 on.1 c.refused.result c.self.invariant (sym c.in_default.ensures.number) o.answer o.picked o.raising n caller c.args.call.now is)

-- want of memory for the name
pub returns-in_err-answer-clause-spared : goal.returns-in_err-answer-clause-spared
returns-in_err-answer-clause-spared c =
    let k = c.self.inside in
    let p : Parts = record { tables = k.tables; interest = k.interest; graph = k.graph; parked = k.waiters; clock = k.clock } in
    let P : Parts → Type 0 = λ q. TakesNoMemory q.tables.files c.args.pid.0 c.args.call.now → ⊥ in
    let on = c.of-asked.result in
    let is = asked_is k.tables c.args.call.now c.found_for-found.result c.hearing-heard.result on c.found_for-found.ensures c.hearing-heard.ensures c.of-asked.ensures in
    let never : P p = λ spared.
    let none = takes_none k.tables.files c.args.pid.0 c.args.call.now (Some on) (names_file c.args.call.now c.requires.call) is spared in
    false≢true (c.in_err-answer.ensures.inline none.0) in
    λ spared. absurd (subst P c.self.view_is never spared)

pub returns-in_err-answer-clause-last : goal.returns-in_err-answer-clause-last
returns-in_err-answer-clause-last c =
    let k = c.self.inside in
    let p : Parts = record { tables = k.tables; interest = k.interest; graph = k.graph; parked = k.waiters; clock = k.clock } in
    let on = c.of-asked.result in
    let is = asked_is k.tables c.args.call.now c.found_for-found.result c.hearing-heard.result on c.found_for-found.ensures c.hearing-heard.ensures c.of-asked.ensures in
    let found = c.in-Some.ensures in
    on_err c.from_residual.result
    (subst (λ (q : Parts). NothingRefusesCall q c.args.pid.0 c.args.call.now) c.self.view_is
    (object_last p c.args.pid.0 on.0 c.in-Some.desc on.1 found.number found.live (c.in_err-answer.ensures.last k.clock) c.args.call.now is))
