-- A test that holds at both Booleans holds at every one, so that tables of truth are proved by computing.
use Rattle.std.proofs.Common.{Bool, false, refl, true, ◌&&◌, ◌≡◌}

abbrev pub both : (Bool → Bool) → Bool
both test = test true && test false

split : (a b : Bool) → (a && b) ≡ true → (a ≡ true) × (b ≡ true)
split true true h = (refl, refl)
split true false h = cc
split false b h = cc

pub at_both : (test : Bool → Bool) → both test ≡ true → (b : Bool) → test b ≡ true
at_both test h true = (split (test true) (test false) h).0
at_both test h false = (split (test true) (test false) h).1

abbrev pub all_two : (Bool → Bool → Bool) → Bool
all_two test = both (λ a. both (test a))

pub of_two : (test : Bool → Bool → Bool) → all_two test ≡ true → (a b : Bool) → test a b ≡ true
of_two test h a b = at_both (test a) (at_both (λ a. both (test a)) h a) b

abbrev pub all_three : (Bool → Bool → Bool → Bool) → Bool
all_three test = both (λ a. all_two (test a))

pub of_three : (test : Bool → Bool → Bool → Bool) → all_three test ≡ true → (a b c : Bool) → test a b c ≡ true
of_three test h a b c = of_two (test a) (at_both (λ a. all_two (test a)) h a) b c

abbrev pub all_five : (Bool → Bool → Bool → Bool → Bool → Bool) → Bool
all_five test = all_two (λ a b. all_three (test a b))

pub of_five : (test : Bool → Bool → Bool → Bool → Bool → Bool) → all_five test ≡ true → (a b c d e : Bool) → test a b c d e ≡ true
of_five test h a b c d e = of_three (test a b) (of_two (λ a b. all_three (test a b)) h a b) c d e

abbrev pub all_six : (Bool → Bool → Bool → Bool → Bool → Bool → Bool) → Bool
all_six test = all_three (λ a b c. all_three (test a b c))

pub of_six : (test : Bool → Bool → Bool → Bool → Bool → Bool → Bool) → all_six test ≡ true → (a b c d e f : Bool) → test a b c d e f ≡ true
of_six test h a b c d e f = of_three (test a b c) (of_three (λ a b c. all_three (test a b c)) h a b c) d e f

-- a test that holds only where another does
pub narrowed : (a b : Bool) → (b ≡ true → a ≡ true) → (a && b) ≡ b
narrowed true b h = refl
narrowed false true h = h refl
narrowed false false h = refl
