-- An event is put behind those of its caller.
use Rattle.std.proofs.Common.{◌∙◌, List, [], ap, arith, false, get_or, inl, inr, length, map, refl, set, subst, suc, sym, true, zero, ℕ, ◌+◌, ◌++◌, ◌<◌, ◌==◌, ◌≡◌, ◌≤◌, ◌∷◌}
use Rattle.std.proofs.lemmas.Bool.{cases_lt}
use Rattle.std.specs.declared.vec.Vec.{Vec}
use Rattle.ep_base.specs.declared.call.Event.{Event}
use Rattle.ep_base.specs.declared.ids.CallerId.{CallerId}
use Rattle.ep_orders.specs.declared.scenario.Line.{Line}
use Rattle.ep_scenario.specs.Reading.{Part, Text, more_of, no_part, number_of, part_of, put, put_text, texts_in}

-- none of the first so many is the caller's
abbrev pub NoneUpTo : CallerId → List Part → ℕ → Type 0
NoneUpTo caller parts n = (k : ℕ) → k < n → k < length parts → ((get_or parts k no_part).0.0 == caller.0) ≡ false

pub none_more : (caller : CallerId) (parts : List Part) (n : ℕ) → NoneUpTo caller parts n → ((get_or parts n no_part).0.0 == caller.0) ≡ false → NoneUpTo caller parts (n + 1)
none_more caller parts n none here k less within =
    elim (cases_lt k n) [
      | inl lt ↦ none k lt within
      | inr ge ↦ let same : n ≡ k = omega (arith, less, ge) in subst (λ m. ((get_or parts m no_part).0.0 == caller.0) ≡ false) same here
    ]

pub put_here : (caller : CallerId) (e : Event) (parts : List Part) (n : ℕ) → n < length parts → NoneUpTo caller parts n
    → ((get_or parts n no_part).0.0 == caller.0) ≡ true → put caller e parts ≡ set parts n (more_of e (get_or parts n no_part))
put_here caller e [] n within none here = absurd (omega (arith, within))
put_here caller e (p ∷ ps) zero within none here = rw here refl
put_here caller e (p ∷ ps) (suc n) within none here =
    rw (none 0 (omega arith) (omega arith)) (ap (λ xs. p ∷ xs) (put_here caller e ps n (omega (arith, within)) (λ k less inside. none (suc k) (omega (arith, less)) (omega (arith, inside))) here))

pub put_new : (caller : CallerId) (e : Event) (parts : List Part) → NoneUpTo caller parts (length parts)
    → put caller e parts ≡ parts ++ (caller, e ∷ []) ∷ []
put_new caller e [] none = refl
put_new caller e (p ∷ ps) none =
    rw (none 0 (omega arith) (omega arith)) (ap (λ xs. p ∷ xs) (put_new caller e ps (λ k less inside. none (suc k) (omega (arith, less)) (omega (arith, inside)))))

-- what stands at a place of the lines
pub part_at : (lines : List Line) (n : ℕ) (l : Line) → n < length lines → l ≡ get_or lines n l → get_or (map part_of lines) n no_part ≡ part_of l
part_at [] n l within e = absurd (omega (arith, within))
part_at (x ∷ xs) zero l within e = ap part_of (sym e)
part_at (x ∷ xs) (suc n) l within e = part_at xs n l (omega (arith, within)) e

-- ---- the number of a caller's line

pub number_here : (caller : CallerId) (parts : List Part) (n : ℕ) → n < length parts → NoneUpTo caller parts n
    → ((get_or parts n no_part).0.0 == caller.0) ≡ true → number_of caller parts ≡ n
number_here caller [] n within none here = absurd (omega (arith, within))
number_here caller (p ∷ ps) zero within none here = rw here refl
number_here caller (p ∷ ps) (suc n) within none here =
    let more = number_here caller ps n (omega (arith, within)) (λ k less inside. none (suc k) (omega (arith, less)) (omega (arith, inside))) here in
    rw (none 0 (omega arith) (omega arith)) (omega (arith, more))

pub number_new : (caller : CallerId) (parts : List Part) → NoneUpTo caller parts (length parts) → number_of caller parts ≡ length parts
number_new caller [] none = refl
number_new caller (p ∷ ps) none =
    let more = number_new caller ps (λ k less inside. none (suc k) (omega (arith, less)) (omega (arith, inside))) in
    rw (none 0 (omega arith) (omega arith)) (omega (arith, more))

-- ---- the texts of a line

text_grown : {B : Type 0} (ts : List (Vec ℕ B)) (t : Vec ℕ B) (text : Text) → t.items ≡ text
    → map (λ (u : Vec ℕ B). u.items) (ts ++ t ∷ []) ≡ map (λ (u : Vec ℕ B). u.items) ts ++ text ∷ []
text_grown [] t text is = ap (λ x. x ∷ []) is
text_grown (u ∷ us) t text is = ap (λ xs. u.items ∷ xs) (text_grown us t text is)

-- of a line that is there
pub text_within : {A B : Type 0} (tss : List (Vec (Vec ℕ B) A)) (n : ℕ) (ts then : Vec (Vec ℕ B) A) (t : Vec ℕ B) (text : Text) → n < length tss
    → ts ≡ get_or tss n ts → then.items ≡ ts.items ++ t ∷ [] → t.items ≡ text → texts_in (set tss n then) ≡ put_text n text (texts_in tss)
text_within [] n ts then t text within here grown is = absurd (omega (arith, within))
text_within {A} {B} (us ∷ uss) zero ts then t text within here grown is =
    ap (λ xs. xs ∷ texts_in uss) (ap (map (λ (u : Vec ℕ B). u.items)) (grown ∙ ap (λ (v : Vec (Vec ℕ B) A). v.items ++ t ∷ []) here) ∙ text_grown us.items t text is)
text_within {A} {B} (us ∷ uss) (suc n) ts then t text within here grown is =
    ap (λ xs. map (λ (u : Vec ℕ B). u.items) us.items ∷ xs) (text_within uss n ts then t text (omega (arith, within)) here grown is)

-- the first of a new line
pub text_new : {A B : Type 0} (tss : List (Vec (Vec ℕ B) A)) (n : ℕ) (ts : Vec (Vec ℕ B) A) (t : Vec ℕ B) (text : Text) → length tss ≤ n
    → ts.items ≡ t ∷ [] → t.items ≡ text → texts_in (tss ++ ts ∷ []) ≡ put_text n text (texts_in tss)
text_new {A} {B} [] n ts t text past one is = ap (λ x. x ∷ []) (ap (map (λ (u : Vec ℕ B). u.items)) one ∙ ap (λ x. x ∷ []) is)
text_new (us ∷ uss) zero ts t text past one is = absurd (omega (arith, past))
text_new {A} {B} (us ∷ uss) (suc n) ts t text past one is =
    ap (λ xs. map (λ (u : Vec ℕ B). u.items) us.items ∷ xs) (text_new uss n ts t text (omega (arith, past)) one is)
