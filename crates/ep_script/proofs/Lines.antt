-- Bytes that hold no byte 10, and the lines of a text that begins with them.
use Rattle.std.proofs.Common.{◌∙◌, List, [], ap, arith, get_or, length, refl, subst, suc, take, zero, ℕ, ◌+◌, ◌++◌, ◌<◌, ◌≡◌, ◌≢◌, ◌≤◌, ◌∷◌}
use Rattle.std.proofs.lemmas.Bool.{ne_eqb}
use Rattle.std.proofs.lemmas.List.{take_more}
use Rattle.ep_script.specs.Lines.{IsPlain, last_line, lines_of, onto_first}

pub plain_append : (l m : List ℕ) → IsPlain l → IsPlain m → IsPlain (l ++ m)
plain_append [] m p q = q
plain_append (x ∷ l) m p q = (p.0, plain_append l m p.1 q)

pub plain_more : (xs : List ℕ) (i : ℕ) → i < length xs → IsPlain (take i xs) → get_or xs i 0 ≢ 10 → IsPlain (take (i + 1) xs)
plain_more xs i h p q = rw (take_more xs i 0 h) (plain_append (take i xs) (get_or xs i 0 ∷ []) p (q, tt))

-- bytes of which none is a byte 10
pub plain_until : (xs : List ℕ) (n : ℕ) → n ≤ length xs → ((k : ℕ) → k < n → get_or xs k 0 ≢ 10) → IsPlain (take n xs)
plain_until xs zero h none = tt
plain_until xs (suc n) h none =
    let e : n + 1 ≡ suc n = omega arith in
    subst (λ m. IsPlain (take m xs)) e (plain_more xs n (omega arith) (plain_until xs n (omega arith) (λ k less. none k (omega arith))) (none n (omega arith)))

pub other : (x : ℕ) (xs : List ℕ) → x ≢ 10 → lines_of (x ∷ xs) ≡ onto_first x (lines_of xs)
other x xs h = rw (ne_eqb x 10 h) refl

-- a line and the byte that ends it
pub whole_line : (l s : List ℕ) → IsPlain l → lines_of (l ++ 10 ∷ s) ≡ l ∷ lines_of s
whole_line [] s p = refl
whole_line (x ∷ l) s p = other x (l ++ 10 ∷ s) p.0 ∙ ap (onto_first x) (whole_line l s p.1)

-- a line that lacks it
pub open_line : (l : List ℕ) → IsPlain l → lines_of l ≡ last_line l
open_line [] p = refl
open_line (x ∷ []) p = other x [] p.0
open_line (x ∷ y ∷ l) p = other x (y ∷ l) p.0 ∙ ap (onto_first x) (open_line (y ∷ l) p.1)

onto : (x n : ℕ) (ls : List (List ℕ)) (l : List ℕ) (more : List (List ℕ)) → n ≤ length l → ls ≡ l ∷ more
    → (m : List ℕ) × (rest : List (List ℕ)) × (n + 1 ≤ length m) × (onto_first x ls ≡ m ∷ rest)
onto x n ls l more h e = (x ∷ l, more, omega arith, ap (onto_first x) e)

first_of_two : (x : ℕ) (ls : List (List ℕ)) → (m : List ℕ) × (rest : List (List ℕ)) × (1 ≤ length m) × (onto_first x ls ≡ m ∷ rest)
first_of_two x [] = (x ∷ [], [], omega arith, refl)
first_of_two x (l ∷ ls) = (x ∷ l, ls, omega arith, refl)

-- the first line has all the bytes up to a byte 10
pub long_line : (x : ℕ) (l s : List ℕ) → IsPlain (x ∷ l) → (m : List ℕ) × (rest : List (List ℕ)) × (length (x ∷ l) ≤ length m) × (lines_of ((x ∷ l) ++ s) ≡ m ∷ rest)
long_line x [] s p =
    let r = first_of_two x (lines_of s) in
    (r.0, r.1, omega (arith, r.2), other x s p.0 ∙ r.3)
long_line x (y ∷ l) s p =
    let r = long_line y l s p.1 in
    let q = onto x (length (y ∷ l)) (lines_of ((y ∷ l) ++ s)) r.0 r.1 r.2 r.3 in
    (q.0, q.1, omega (arith, q.2), other x ((y ∷ l) ++ s) p.0 ∙ q.3)
