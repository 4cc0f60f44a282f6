-- Tests of which one, both or none holds.
use Rattle.std.proofs.Common.{◌≡◌, ◌⊎◌, ◌&&◌, ◌||◌, ◌∙◌, Bool, true, false, ap, inl, inr, not, refl, sym}
use Rattle.std.proofs.lemmas.Bool.{false≢true}

pub or_left : (a b : Bool) → a ≡ true → (a || b) ≡ true
or_left true b h = refl
or_left false b h = absurd (false≢true h)

pub or_right : (a b : Bool) → b ≡ true → (a || b) ≡ true
or_right true b h = refl
or_right false b h = h

pub or_cases : (a b : Bool) → (a || b) ≡ true → (a ≡ true) ⊎ (b ≡ true)
or_cases true b h = inl refl
or_cases false b h = inr h

pub first_of_or : (a b : Bool) → (a || b) ≡ false → a ≡ false
first_of_or true b h = h
first_of_or false b h = refl

pub second_of_or : (a b : Bool) → (a || b) ≡ false → b ≡ false
second_of_or true b h = absurd (false≢true (sym h))
second_of_or false b h = h

pub or_nothing : (b : Bool) → (b || false) ≡ true → b ≡ true
or_nothing true h = refl
or_nothing false h = h

pub or_nothing_false : (b : Bool) → (b || false) ≡ false → b ≡ false
or_nothing_false true h = h
or_nothing_false false h = refl

pub or_assoc : (a b c : Bool) → (a || (b || c)) ≡ ((a || b) || c)
or_assoc true b c = refl
or_assoc false b c = refl

pub or_again : (a b : Bool) → (a || (a || b)) ≡ (a || b)
or_again true b = refl
or_again false b = refl

pub or_swap : (a b c d : Bool) → ((a || b) || (c || d)) ≡ ((a || c) || (b || d))
or_swap true b c d = refl
or_swap false true true d = refl
or_swap false true false d = refl
or_swap false false c d = refl

pub or_by_not : (a b : Bool) → (a || b) ≡ not (not a && not b)
or_by_not true b = refl
or_by_not false true = refl
or_by_not false false = refl

pub both_true : (a b : Bool) → (a && b) ≡ true → (a ≡ true) × (b ≡ true)
both_true true b h = (refl, h)
both_true false b h = absurd (false≢true h)

pub first_of_and : (a b : Bool) → (a && b) ≡ true → a ≡ true
first_of_and true b h = refl
first_of_and false b h = h

pub second_of_and : (a b : Bool) → (a && b) ≡ true → b ≡ true
second_of_and true b h = h
second_of_and false b h = absurd (false≢true h)

pub and_none : (a b : Bool) → b ≡ false → (a && b) ≡ false
and_none true b h = h
and_none false b h = refl

pub and_or_more : (a b c : Bool) → (a && b) ≡ true → (a && (b || c)) ≡ true
and_or_more true true c h = refl
and_or_more true false c h = absurd (false≢true h)
and_or_more false b c h = absurd (false≢true h)

pub and_not_itself : (b : Bool) → (b && not b) ≡ false
and_not_itself true = refl
and_not_itself false = refl

pub and_false_or : (b : Bool) → (b && false || false) ≡ false
and_false_or true = refl
and_false_or false = refl

pub from_not : (b : Bool) → not b ≡ true → b ≡ false
from_not true h = sym h
from_not false h = refl

pub from_not_false : (b : Bool) → not b ≡ false → b ≡ true
from_not_false true h = refl
from_not_false false h = sym h

pub not_and : (a b : Bool) → a ≡ false → b ≡ true → (not a && b) ≡ true
not_and a b h k = ap (λ (x : Bool). not x && b) h ∙ k

pub from_not_and : (a b : Bool) → (not a && b) ≡ true → (a ≡ false) × (b ≡ true)
from_not_and true b h = absurd (false≢true h)
from_not_and false b h = (refl, h)

pub from_and_not : (a b : Bool) → (a && not b) ≡ true → (a ≡ true) × (b ≡ false)
from_and_not true false h = (refl, refl)
from_and_not true true h = absurd (false≢true h)
from_and_not false b h = absurd (false≢true h)

pub same_bools : (a b : Bool) → (a ≡ true → b ≡ true) → (b ≡ true → a ≡ true) → a ≡ b
same_bools true b f g = sym (f refl)
same_bools false true f g = g refl
same_bools false false f g = refl
