-- One byte, over and over, behind what waits.
use Rattle.std.proofs.Common.{List, ap, append_assoc, arith, length, min, replicate, take, ℕ, ◌+◌, ◌++◌, ◌-◌, ◌∙◌, ◌≡◌, ◌≤◌}
use Rattle.std.proofs.lemmas.List.{length-append, length-replicate, replicate-append-replicate, take-replicate}
use Rattle.circular_buffer.specs.Buffer.{Buffer, buffer}

-- what is put of a run, if all of it fits
whole : (b put room r : ℕ) → put ≤ room → r ≡ min (length (replicate put b)) room → take r (replicate put b) ≡ replicate put b
whole b put room r fits e =
    let len = length-replicate put b in
    let all : r ≡ put = omega (arith, e, len) in
    take-replicate r put b (omega (arith, all)) ∙ ap (λ n. replicate n b) all

-- a piece of the run behind those before it
pub run_goes_on : (old chunk : List ℕ) (capacity b fitting left put r : ℕ) (q new : Buffer ℕ) → q ≡ buffer (old ++ replicate (fitting - left) b) capacity
    → put ≤ left → left ≤ fitting → fitting ≤ capacity - length old → chunk ≡ replicate put b → r ≡ min (length chunk) (q.capacity - length q.items)
    → new ≡ buffer (q.items ++ take r chunk) q.capacity → new ≡ buffer (old ++ replicate (fitting - (left - put)) b) capacity
run_goes_on old chunk capacity b fitting left put r q new was within some room piece count is =
    let before = replicate (fitting - left) b in
    let long = length-append old before in
    let longer = length-replicate (fitting - left) b in
    let there : length q.items ≡ length (old ++ before) = ap (λ k. length k.items) was in
    let holds : q.capacity ≡ capacity = ap (λ k. k.capacity) was in
    let put_all : take r chunk ≡ replicate put b =
    ap (λ xs. take r xs) piece
    ∙ whole b put (q.capacity - length q.items) r (omega (arith, there, long, longer, holds)) (count ∙ ap (λ xs. min (length xs) (q.capacity - length q.items)) piece) in
    let sum : fitting - left + put ≡ fitting - (left - put) = omega arith in
    is
    ∙ ap (λ xs. buffer (q.items ++ xs) q.capacity) put_all
    ∙ ap (λ k. buffer (k.items ++ replicate put b) k.capacity) was
    ∙ ap (λ xs. buffer xs capacity)
    (append_assoc old before (replicate put b) ∙ ap (λ xs. old ++ xs) (replicate-append-replicate (fitting - left) put b ∙ ap (λ n. replicate n b) sum))
