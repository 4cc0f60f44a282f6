-- Values that `==` finds the same are one value, and the other way round.
use Rattle.std.proofs.Common.{rules, ◌≡◌, ◌∙◌, ◌&&◌, Bool, List, ap, false, refl, subst, sym, true}
use Rattle.std.specs.Cmp.{IsEquivalence}
use Rattle.std.specs.Prelude.{◌==◌}
use Rattle.std.specs.Cmp.Lexicographic.{pointwise}
use Rattle.std.proofs.lemmas.Slice.Eq.{slice_eq-Decides}
use mathlib.Core.Logic.{◌⊎◌, inl, inr, ⊎_elim}
use denote.Enum.Declared.{intoss}
use Rattle.ep_base.specs.declared.answer.Answer.{Answer}
use Rattle.ep_base.specs.declared.answer.Report.{Report}
use Rattle.ep_base.specs.declared.call.Call.{Call}
use Rattle.ep_base.specs.declared.call.Event.{Event}
use Rattle.ep_base.specs.declared.record.Record.{Record}
use Rattle.ep_base.specs.contracts.answer.Answer as answers
use Rattle.ep_base.specs.contracts.call.Call as calls
use Rattle.ep_base.specs.contracts.call.Event as events
use Rattle.ep_base.specs.contracts.answer.ReportPartialEq.TheImpl as test_of_reports
use Rattle.ep_base.specs.contracts.answer.AnswerPartialEq.TheImpl as test_of_answers
use Rattle.ep_base.specs.contracts.call.CallPartialEq.TheImpl as test_of_calls
use Rattle.ep_base.specs.contracts.call.EventPartialEq.TheImpl as test_of_events
use Rattle.ep_base.specs.contracts.record.RecordPartialEq.TheImpl as test_of_records
use Rattle.ep_base.specs.contracts.answer.ReportEq.TheImpl.Laws as law_of_reports

-- a test finds one value alone the same
abbrev pub FindsOne : {A : Type 0} → (A → A → Bool) → Type 0
FindsOne {A} test = (x y : A) → test x y ≡ true → x ≡ y

-- two values of the first variant, or two of later ones
one_choice : {A B : Type 0} {first : A → A → Bool} {later : B → B → Bool} → (x y : A ⊎ B)
    → ⊎_elim (λ a. ⊎_elim (λ b. first a b) (λ b. false) y) (λ a. ⊎_elim (λ b. false) (λ b. later a b) y) x ≡ true
    → FindsOne first → FindsOne later → x ≡ y
one_choice (inl x) (inl y) e one rest = ap inl (one x y e)
one_choice (inl x) (inr y) e one rest = cc
one_choice (inr x) (inl y) e one rest = cc
one_choice (inr x) (inr y) e one rest = ap inr (rest x y e)

or_later : {A B : Type 0} {first : A → A → Bool} {later : B → B → Bool} → FindsOne first → FindsOne later
    → FindsOne (λ (x y : A ⊎ B). ⊎_elim (λ a. ⊎_elim (λ b. first a b) (λ b. false) y) (λ a. ⊎_elim (λ b. false) (λ b. later a b) y) x)
or_later one rest x y e = one_choice x y e one rest

both : (x y : Bool) → (x && y) ≡ true → (x ≡ true) × (y ≡ true)
both true y e = (refl, e)
both false y e = cc

same_report : (a b : Report) → (test_of_reports.ghosts.eq a b ≡ true → a ≡ b) × (a ≡ b → test_of_reports.ghosts.eq a b ≡ true)
same_report a b = ((λ e. search rules), λ e. subst (λ r. test_of_reports.ghosts.eq a r ≡ true) e (law_of_reports.laws-law.refl a))

one_list : (xs ys : List Report) → pointwise test_of_reports.ghosts.eq xs ys ≡ true → xs ≡ ys
one_list xs ys e = (slice_eq-Decides same_report xs ys (pointwise test_of_reports.ghosts.eq xs ys) refl).0 e

pub one_answer : (a b : Answer) → test_of_answers.ghosts.eq a b ≡ true → a ≡ b
one_answer a b e =
    answers.the_type.to_one a b (ap (intoss answers.the_type.parts) (one_choice _ _ e (λ x y e. refl)
    (or_later (λ x y e. search rules)
    (or_later (λ x y e. search rules)
    (or_later (λ x y e. search rules)
    (or_later (λ x y e. ap (λ reports. (reports, tt)) (one_list x.0 y.0 e))
    (or_later (λ x y e. search rules)
    (or_later (λ x y e. refl)
    (or_later (λ x y e. refl)
    (or_later (λ x y e. refl)
    (or_later (λ x y e. search rules)
    (or_later (λ x y e. search rules)
    (or_later (λ x y e. search rules)
    (λ x y e. absurd x))))))))))))))

pub one_call : (a b : Call) → test_of_calls.ghosts.eq a b ≡ true → a ≡ b
one_call a b e =
    calls.the_type.to_one a b (ap (intoss calls.the_type.parts) (one_choice _ _ e (λ x y e. search rules)
    (or_later (λ x y e. search rules)
    (or_later (λ x y e. search rules)
    (or_later (λ x y e. search rules)
    (or_later (λ x y e. search rules)
    (or_later (λ x y e. search rules)
    (or_later (λ x y e. search rules)
    (or_later (λ x y e. search rules)
    (or_later (λ x y e. search rules)
    (or_later (λ x y e. search rules)
    (or_later (λ x y e. search rules)
    (or_later (λ x y e. search rules)
    (or_later (λ x y e. search rules)
    (or_later (λ x y e. search rules)
    (or_later (λ x y e. search rules)
    (or_later (λ x y e. search rules)
    (or_later (λ x y e. search rules)
    (or_later (λ x y e. search rules)
    (or_later (λ x y e. search rules)
    (or_later (λ x y e. search rules)
    (or_later (λ x y e. search rules)
    (or_later (λ x y e. search rules)
    (or_later (λ x y e. search rules)
    (or_later (λ x y e. search rules)
    (or_later (λ x y e. refl)
    (or_later (λ x y e. refl)
    (or_later (λ x y e. refl)
    (λ x y e. absurd x)))))))))))))))))))))))))))))

pub one_event : (a b : Event) → test_of_events.ghosts.eq a b ≡ true → a ≡ b
one_event a b e =
    events.the_type.to_one a b (ap (intoss events.the_type.parts) (one_choice _ _ e (λ x y e. (
    let parts = both (x.0.0 == y.0.0) (test_of_calls.ghosts.eq x.1.0 y.1.0) e in
    let pid = parts.0 in
    let call = one_call x.1.0 y.1.0 parts.1 in
    search rules))
    (or_later (λ x y e. refl)
    (or_later (λ x y e. search rules)
    (λ x y e. absurd x)))))

pub one_record : (a b : Record) → test_of_records.ghosts.eq a b ≡ true → a ≡ b
one_record a b e =
    let caller = a.caller.0 == b.caller.0 in
    let event = test_of_events.ghosts.eq a.event b.event in
    let answer = test_of_answers.ghosts.eq a.answer b.answer in
    let numbers = pointwise ◌==◌ a.picked b.picked in
    let from_caller = both caller (event && (answer && numbers)) e in
    let from_event = both event (answer && numbers) from_caller.1 in
    let from_answer = both answer numbers from_event.1 in
    let same_caller = from_caller.0 in
    let same_event = one_event a.event b.event from_event.0 in
    let same_answer = one_answer a.answer b.answer from_answer.0 in
    let same_numbers = from_answer.1 in
    search rules

-- a test that finds one value alone the same, and each value the same as itself, decides whether two are one
pub tells : {A : Type 0} {test : A → A → Bool} → FindsOne test → IsEquivalence test → (a b : A) (r : Bool) → r ≡ test a b
    → (r ≡ true → a ≡ b) × (a ≡ b → r ≡ true)
tells {A} {test} one laws a b r tested = (
  (λ e. one a b (sym tested ∙ e)),
  λ e. tested ∙ subst (λ t. test a t ≡ true) e (laws.refl a),
)
