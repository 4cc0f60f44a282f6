-- All records of a history.
use Rattle.std.proofs.Common.{◌≡◌, ◌∙◌, ◌++◌, ◌+◌, ◌-◌, ◌<◌, ◌≤◌, [], ◌∷◌, Bool, Err, List, None, Ok, OnErr, OnOk, Result, ap, ap₂, append-nil, arith, drop, if◌then◌else◌, length, length-append, refl, slice_get, suc, sym, ℕ}
use Rattle.std.proofs.Math.Seq.{drop-append_seam}
use Rattle.std.proofs.lemmas.Bool.{lt-ltb}
use Rattle.std.proofs.lemmas.List.{append_assoc}
use Rattle.ep_base.specs.declared.record.Record.{Record}
use Rattle.ep_records.specs.Past.{Past, numbered, whole}

-- what is added to those that are here is added to all
pub whole_added : (old new : Past) (more : List Record) → new.taken ≡ old.taken → new.items ≡ old.items ++ more → whole new ≡ whole old ++ more
whole_added old new more taken items = ap₂ (λ (t i : List Record). t ++ i) taken items ∙ sym (append_assoc old.taken old.items more)

-- those that are here are the rest of all
pub here_is_rest : (h : Past) (taken past : List Record) → h.taken ≡ taken → whole h ≡ past → h.items ≡ drop (length taken) past
here_is_rest h taken past out all = sym (drop-append_seam h.taken h.items) ∙ ap₂ (λ (t p : List Record). drop (length t) p) out all

behind : (t i : List Record) (k : ℕ) → slice_get (t ++ i) (length t + k) ≡ slice_get i k
behind [] i k = let none : 0 + k ≡ k = omega arith in ap (λ n. slice_get i n) none
behind (x ∷ t) i k =
    let next : length (x ∷ t) + k ≡ suc (length t + k) = omega arith in
    ap (λ n. slice_get (x ∷ (t ++ i)) n) next ∙ behind t i k

-- the record of an event that was not taken out stands in its place among all
pub numbered_in : (h : Past) (n : ℕ) → length h.taken < n → numbered h n ≡ slice_get (whole h) (n - 1)
numbered_in h n out =
    let at : n - 1 ≡ length h.taken + (n - (length h.taken + 1)) = omega (arith, out) in
    ap (λ (b : Bool). if b then slice_get h.items (n - (length h.taken + 1)) else None) (lt-ltb (length h.taken) n out)
    ∙ sym (behind h.taken h.items (n - (length h.taken + 1))) ∙ ap (λ k. slice_get (whole h) k) (sym at)

first_none : (t i : List Record) → t ++ i ≡ [] → t ≡ []
first_none [] i e = refl
first_none (x ∷ t) i e = cc

-- where there is no record, none was taken out
pub none_taken : (h : Past) → whole h ≡ [] → h.taken ≡ []
none_taken h e = first_none h.taken h.items e

-- as many were taken out as there are at most
pub taken_few : (h : Past) → length h.taken ≤ length (whole h)
taken_few h = omega (arith, length-append h.taken h.items)

-- all stay where those that are here are taken out, and where none is
pub all_stay : {A E : Type 0} (Q : Type 0) (r : Result A E) (old new : Past) (room : ℕ) → OnOk r (new ≡ record { taken = old.taken ++ old.items; items = []; room = room })
    → OnErr r ((new ≡ old) × Q) → whole new ≡ whole old
all_stay Q (Ok done) old new room ok err = ap whole ok ∙ append-nil (old.taken ++ old.items)
all_stay Q (Err fault) old new room ok err = ap whole err.0
