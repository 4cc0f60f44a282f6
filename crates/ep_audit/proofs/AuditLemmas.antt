-- Going on from a run by one record, and the places of records that are illegal.
use Rattle.std.proofs.Common.{◌≡◌, ◌∙◌, ◌++◌, ◌+◌, ◌<◌, ◌≤◌, ◌∷◌, [], ℕ, Bool, List, None, Option, Some, ap, arith, false, get_or, if◌then◌else◌, inl, inr, is_some, length, refl, suc, subst, sym, take, true, zero}
use Rattle.std.specs.Bool.{one_answer}
use Rattle.std.specs.Prelude.{◌↔◌, Decides, Err, IfOk, IsErrOf, MatchBool, Ok, Result}
use Rattle.std.proofs.lemmas.Bool.{cases_lt}
use Rattle.std.proofs.lemmas.List.{take-take, take_more}
use Rattle.ep_base.specs.Limits.{Limits}
use Rattle.ep_base.specs.declared.answer.Answer.{Answer}
use Rattle.ep_base.specs.declared.call.Event.{Event}
use Rattle.ep_base.specs.declared.record.Record.{Record}
use Rattle.ep_law.proofs.StepLemmas.{run_on-append}
use Rattle.ep_machine.specs.Run.{checked, go_on, is_run, run, run_on, same_answer}
use Rattle.ep_machine.specs.State.{State, opening}
use Rattle.ep_machine.specs.Step.{step}
use Rattle.ep_audit.specs.declared.verdict.AuditFault.{AuditFault}
use Rattle.ep_audit.specs.declared.verdict.AuditFault.TheVariants.{Illegal}
use Rattle.ep_audit.specs.Audit.{Follows, HasMade, IsFirstIllegal}
use Rattle.ep_plain.specs.StepWith.{AddsWith, Lacks, StepsWith}
use Rattle.ep_calls.specs.Acts.{Acts, Adds, Stays, is_no_memory}
use Rattle.ep_audit.proofs.AnswerLemmas.{same_answer_decides}

-- a step with this report, whose answer is the record's or isn't
same_or_not : (limits : Limits) (s t : State) (next : Record) (answer : Answer) (same : Bool)
    → step limits s next.caller.0 next.event next.picked ≡ Some (answer, t)
    → Decides same (answer ≡ next.answer)
    → Follows limits s t next same
same_or_not limits s t next answer same e decides =
    let tests = one_answer (same_answer answer next.answer) same (same_answer_decides answer next.answer) decides in
    ap (checked next.answer) e ∙ ap (λ (b : Bool). if b then Some t else None) tests

-- the step with a record's report was made
steps_so : (limits : Limits) (s t : State) (next : Record) (event : Event) (picks : List ℕ) (answer : Answer)
    → step limits s next.caller.0 event picks ≡ Some (answer, t)
    → event ≡ next.event
    → picks ≡ next.picked
    → step limits s next.caller.0 next.event next.picked ≡ Some (answer, t)
steps_so limits s t next event picks answer goes asked reports =
    subst (λ (e : Event). step limits s next.caller.0 e next.picked ≡ Some (answer, t)) asked
    (subst (λ (p : List ℕ). step limits s next.caller.0 event p ≡ Some (answer, t)) reports goes)

-- a record that a step made
made_by : (limits : Limits) (s t : State) (next : Record) (event : Event) (answer : Answer) (picks : List ℕ) (past now : List Record)
    → step limits s next.caller.0 event picks ≡ Some (answer, t)
    → now ≡ past ++ record { caller = next.caller; event = event; answer = answer; picked = picks } ∷ []
    → event ≡ next.event
    → HasMade limits s next now
made_by limits s t next event answer picks past now goes added asked =
    let last : Record = record { caller = next.caller; event = event; answer = answer; picked = picks } in
    record {
      before = past;
      last = last;
      made = added;
      same = record { caller = refl; event = asked };
      goes = ap is_some (same_or_not limits s t last answer true goes ((λ _. refl), λ _. refl));
    }

module _ (limits : Limits) (s t : State) (next : Record) (event : Event) (picks : List ℕ)
    (answer : Answer) (past now : List Record) (steps : StepsWith limits next.caller event picks (Some answer) s t past now) (asked : event ≡ next.event) where
  added_with : is_no_memory answer ≡ false → AddsWith limits next.caller event picks answer s t past now
  added_with real =
      let lacks : Type 0 = Lacks limits next.caller event picks s t past now in
      let adds : Type 0 = AddsWith limits next.caller event picks answer s t past now in
      subst (λ (b : Bool). MatchBool b lacks adds) real steps

  pub answered : {E : Type 0} (result : Result Bool E)
      → picks ≡ next.picked
      → IfOk result (λ _. is_no_memory answer ≡ false)
      → IfOk result (λ same. Decides same (answer ≡ next.answer))
      → IfOk result (Follows limits s t next)
  answered (Ok same) reports real decides =
      same_or_not limits s t next answer same (steps_so limits s t next event picks answer (added_with real).goes asked reports) decides
  answered (Err e) reports real decides = tt

  pub made_with : {E : Type 0} (result : Result Bool E)
      → IfOk result (λ _. is_no_memory answer ≡ false)
      → IfOk result (λ goes. goes ≡ false → HasMade limits s next now)
  made_with (Ok same) real = λ wrong. let a = added_with real in made_by limits s t next event answer picks past now a.goes a.added asked
  made_with (Err e) real = tt

-- what a step of its own makes
pub made_here : (limits : Limits) (s t : State) (next : Record) (event : Event) (answer : Answer) (past now : List Record)
    → Acts limits next.caller event answer s t past now
    → event ≡ next.event
    → is_no_memory answer ≡ false
    → HasMade limits s next now
made_here limits s t next event answer past now acts asked real =
    let added : Adds limits next.caller event answer s t past now =
    subst (λ (b : Bool). MatchBool b (Stays s t past now) (Adds limits next.caller event answer s t past now)) real acts in
    made_by limits s t next event answer added.picked past now added.goes added.added asked

-- what follows something illegal is illegal
run_of_none : (limits : Limits) (records : List Record) → run_on limits None records ≡ None
run_of_none limits [] = refl
run_of_none limits (r ∷ rs) = run_of_none limits rs

began : (limits : Limits) (records : List Record) (o : Option State)
    → is_some (run_on limits o records) ≡ true
    → is_some o ≡ true
began limits records (Some s) e = refl
began limits records None e = sym (ap is_some (run_of_none limits records)) ∙ e

beginning_on : (limits : Limits) (records : List Record) (o : Option State) (k : ℕ)
    → is_some (run_on limits o records) ≡ true
    → is_some (run_on limits o (take k records)) ≡ true
beginning_on limits records o zero e = began limits records o e
beginning_on limits [] o (suc k) e = e
beginning_on limits (r ∷ rs) o (suc k) e = beginning_on limits rs (go_on limits o r) k e

-- the beginnings of a run are runs
beginning : (limits : Limits) (records : List Record) (k : ℕ)
    → is_run limits records ≡ true
    → is_run limits (take k records) ≡ true
beginning limits records k e = beginning_on limits records (Some opening) k e

pub run_has_none : (limits : Limits) (records : List Record) (place : ℕ)
    → is_run limits records ≡ true
    → IsFirstIllegal limits records place
    → ⊥
run_has_none limits records place e illegal =
    let both : true ≡ false = sym (beginning limits records (place + 1) e) ∙ illegal.with_it in cc

no_later : (limits : Limits) (records : List Record) (one other : ℕ)
    → IsFirstIllegal limits records one
    → IsFirstIllegal limits records other
    → other ≤ one
no_later limits records one other h k = elim (cases_lt one other) [
  | inl lt ↦
      (let low : one + 1 ≤ other = omega arith in
      let on = beginning limits (take other records) (one + 1) k.before in
      let same : take (one + 1) (take other records) ≡ take (one + 1) records = take-take (one + 1) other records low in
      let both : true ≡ false = sym on ∙ ap (is_run limits) same ∙ h.with_it in
      cc)
  | inr le ↦ le
]

-- there is one first place
first_is_one : (limits : Limits) (records : List Record) (one other : ℕ)
    → IsFirstIllegal limits records one
    → IsFirstIllegal limits records other
    → one ≡ other
first_is_one limits records one other h k =
    let low = no_later limits records one other h k in
    let high = no_later limits records other one k h in
    omega arith

pub blames_one : (limits : Limits) (records : List Record) (one : ℕ)
    → IsFirstIllegal limits records one
    → (place : ℕ)
    → IsErrOf {T = Unit {0}} (Err (Illegal one)) (Illegal place) ↔ IsFirstIllegal limits records place
blames_one limits records one h place = (
  (λ e. let same : one ≡ place = cc in subst (IsFirstIllegal limits records) same h),
  λ k. ap (λ (p : ℕ). Err (Illegal p)) (first_is_one limits records one place h k),
)

pub blames_none : (limits : Limits) (records : List Record)
    → is_run limits records ≡ true
    → (place : ℕ)
    → IsErrOf {T = Unit {0}} {E = AuditFault} (Ok tt) (Illegal place) ↔ IsFirstIllegal limits records place
blames_none limits records e place = ((λ h. cc), λ k. absurd (run_has_none limits records place e k))
