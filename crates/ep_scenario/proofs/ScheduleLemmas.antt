-- The blocks of a schedule, one after another.
use Rattle.std.proofs.Common.{Bool, List, [], ap, append-nil, append_assoc, arith, drop, false, get_or, length, refl, suc, sym, true, ℕ, ◌+◌, ◌++◌, ◌<◌, ◌≡◌, ◌≤◌, ◌∙◌, ◌∷◌}
use Rattle.std.proofs.lemmas.List.{drop_all, drop_more}
use Rattle.ep_orders.specs.declared.scenario.Line.{Line}
use Rattle.ep_scenario.specs.declared.step.Step.{Step}
use Rattle.ep_scenario.specs.declared.step.Step.TheVariants as step
use Rattle.ep_scenario.specs.Schedule.{block, blocks, goer, is_same, row_of}

-- what is left from a place on, at which this stands
pub left_is : {A : Type 0} (xs : List A) (i : ℕ) (x : A) → i < length xs → x ≡ get_or xs i x → drop i xs ≡ x ∷ drop (i + 1) xs
left_is xs i x within is = drop_more xs i x within ∙ ap (λ y. y ∷ drop (i + 1) xs) (sym is)

-- ---- steps in a row

one_more : (s t : Step) (ts : List Step) → is_same (goer s) (goer t) ≡ true → row_of s (t ∷ ts) ≡ row_of s ts + 1
one_more s t ts same = rw same refl

no_more : (s t : Step) (ts : List Step) → is_same (goer s) (goer t) ≡ false → row_of s (t ∷ ts) ≡ 0
no_more s t ts other = rw other refl

pub row_next : (s : Step) (steps : List Step) (n : ℕ) (t : Step) → n < length steps → t ≡ get_or steps n t → is_same (goer s) (goer t) ≡ true
    → n + row_of s (drop n steps) ≡ row_of s steps → n + 1 + row_of s (drop (n + 1) steps) ≡ row_of s steps
row_next s steps n t within is same before =
    let here = ap (row_of s) (left_is steps n t within is) ∙ one_more s t (drop (n + 1) steps) same in
    omega (arith, here, before)

pub row_ends : (s : Step) (steps : List Step) (n : ℕ) (t : Step) → n < length steps → t ≡ get_or steps n t → is_same (goer s) (goer t) ≡ false
    → n + row_of s (drop n steps) ≡ row_of s steps → n ≡ row_of s steps
row_ends s steps n t within is other before =
    let here = ap (row_of s) (left_is steps n t within is) ∙ no_more s t (drop (n + 1) steps) other in
    omega (arith, here, before)

pub row_whole : (s : Step) (steps : List Step) (n : ℕ) → length steps ≤ n → n + row_of s (drop n steps) ≡ row_of s steps → n ≡ row_of s steps
row_whole s steps n past before =
    let here = ap (row_of s) (drop_all n steps past) in
    omega (arith, here, before)

-- ---- blocks behind a text

pub block_goes_on : (lines : List Line) (f g : Bool) (steps : List Step) (place left less : ℕ) (now next whole : List ℕ)
    → place < length steps → next ≡ now → g ≡ f → left ≡ less + 1
    → now ++ blocks lines f (drop place steps) left ≡ whole → next ++ blocks lines g (drop (place + 1) steps) less ≡ whole
block_goes_on lines f g steps place left less now next whole within same like e before =
    let here = drop_more steps place (step.Tick 0) within in
    let more : left ≡ suc less = omega (arith, e) in
    let first = get_or steps place (step.Tick 0) in
    let rest = drop (place + 1) steps in
    ap (λ t. t ++ blocks lines g rest less) same ∙ (ap (λ b. now ++ blocks lines b rest less) like
    ∙ (ap (λ t. now ++ t) (sym (ap (λ ss. blocks lines f ss left) here ∙ ap (blocks lines f (first ∷ rest)) more)) ∙ before))

pub block_begins : (lines : List Line) (f g : Bool) (steps : List Step) (place left more : ℕ) (s : Step) (now next whole : List ℕ)
    → place < length steps → s ≡ get_or steps place s → left ≡ 0 → g ≡ false → more ≡ row_of s (drop (place + 1) steps)
    → next ≡ now ++ block lines f s (more + 1)
    → now ++ blocks lines f (drop place steps) left ≡ whole → next ++ blocks lines g (drop (place + 1) steps) more ≡ whole
block_begins lines f g steps place left more s now next whole within is none begun row grown before =
    let rest = drop (place + 1) steps in
    let here : blocks lines f (drop place steps) left ≡ block lines f s (more + 1) ++ blocks lines false rest more =
    ap (λ ss. blocks lines f ss left) (left_is steps place s within is) ∙ (ap (blocks lines f (s ∷ rest)) none
    ∙ ap (λ n. block lines f s (n + 1) ++ blocks lines false rest n) (sym row)) in
    ap (λ b. next ++ blocks lines b rest more) begun ∙ (ap (λ t. t ++ blocks lines false rest more) grown
    ∙ (append_assoc now (block lines f s (more + 1)) (blocks lines false rest more)
    ∙ (ap (λ t. now ++ t) (sym here) ∙ before)))

pub blocks_end : (lines : List Line) (f : Bool) (steps : List Step) (place left : ℕ) (now whole : List ℕ) → length steps ≤ place
    → now ++ blocks lines f (drop place steps) left ≡ whole → now ≡ whole
blocks_end lines f steps place left now whole past before =
    sym (append-nil now) ∙ (ap (λ ss. now ++ blocks lines f ss left) (sym (drop_all place steps past)) ∙ before)
