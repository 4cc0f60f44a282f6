-- What a call makes of a pipe or of a pair it makes of the object that is one.
use Rattle.std.proofs.Common.{Bool, Err, IfOk, List, None, Ok, Option, Result, Some, ap, refl, sym, ◌∙◌, ◌≡◌, ℕ}
use Rattle.std.proofs.lemmas.Result.{IfOk-weaker}
use Rattle.ep_base.specs.declared.answer.Answer.{Answer}
use Rattle.ep_base.specs.declared.answer.Answer.TheVariants.{Refused}
use Rattle.ep_base.specs.declared.errno.Errno.{Errno}
use Rattle.ep_base.specs.declared.object.Raised.{Raised}
use Rattle.ep_machine.specs.Bits.{nothing}
use Rattle.ep_machine.specs.Effect.{Effect, attempt, first, unless}
use Rattle.ep_machine.specs.Objects.{Object, effect_on}

module _ {X : Type 0} (wrap : X → Object) (x y : X) (f : Effect X) where
  of_refusal : (refusal : Option Errno) → effect_on wrap (unless refusal x f) ≡ unless refusal (wrap x) (effect_on wrap f)
  of_refusal None = refl
  of_refusal (Some e) = refl

  pub wrapped : (refusals : List (Bool × Errno)) (answer : Answer) (raised : Raised) → (answer, y, raised) ≡ attempt refusals x f
      → (answer, wrap y, raised) ≡ attempt refusals (wrap x) (effect_on wrap f)
  wrapped refusals answer raised is = ap (effect_on wrap) is ∙ of_refusal (first refusals)

  -- of a call that may want memory
  pub ok_wrapped : {E : Type 0} (refusals : List (Bool × Errno)) (r : Result (Answer × Raised) E) → IfOk r (λ made. (made.0, y, made.1) ≡ attempt refusals x f)
      → IfOk r (λ made. (made.0, wrap y, made.1) ≡ attempt refusals (wrap x) (effect_on wrap f))
  ok_wrapped refusals r h = IfOk-weaker r _ _ (λ made is. wrapped refusals made.0 made.1 is) h

-- a refusal leaves the object and raises nothing
pub refused_by : (x : Object) (refusals : List (Bool × Errno)) (f : Effect Object) (e : Errno) (answer : Answer) (raised : Raised)
    → first refusals ≡ Some e → answer ≡ Refused e → raised ≡ nothing → (answer, x, raised) ≡ attempt refusals x f
refused_by x refusals f e answer raised is answers raises = rw (answers, raises) (sym (ap (λ (o : Option Errno). unless o x f) is))

-- what is answered at any moment
pub at_any_moment : {A E : Type 0} (P : A → Type 0) (r : Result A E) → IfOk r P → IfOk r (λ x. (now : ℕ) → P x)
at_any_moment P (Ok x) h = λ now. h
at_any_moment P (Err e) h = h
