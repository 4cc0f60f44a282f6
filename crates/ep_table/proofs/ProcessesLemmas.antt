-- A write to one process.
use Rattle.std.proofs.Common.{Err, Ok, OnErr, Result, List, Option, [], ap, arith, get_or, length, slice_set, suc, zero, ℕ, ◌<◌, ◌∙◌, ◌∷◌, ◌≡◌}
use Rattle.ep_table.specs.Processes.{Process, items_of, lists, process_of}
use Rattle.ep_table.specs.declared.table.Table.{Table}

pub lists_write : {A : Type 0} (f : Process → Process) (xs : List (Option (Table A))) (i : ℕ) (y x : Option (Table A)) → i < length xs → y ≡ get_or xs i y → items_of x ≡ f (items_of y)
    → lists (slice_set xs i x) ≡ slice_set (lists xs) i (f (process_of xs i))
lists_write {A} f [] i y x lt at e = absurd (omega arith)
lists_write {A} f (z ∷ xs) zero y x lt at e = ap (λ (p : Process). p ∷ lists xs) (e ∙ ap (λ (q : Option (Table A)). f (items_of q)) at)
lists_write {A} f (z ∷ xs) (suc i) y x lt at e = ap (λ (r : List Process). items_of z ∷ r) (lists_write f xs i y x (omega arith) at e)

pub lists_same : {A : Type 0} (xs : List (Option (Table A))) (i : ℕ) (y x : Option (Table A)) → i < length xs → y ≡ get_or xs i y → items_of x ≡ items_of y
    → lists (slice_set xs i x) ≡ lists xs
lists_same [] i y x lt at e = absurd (omega arith)
lists_same (z ∷ xs) zero y x lt at e = ap (λ (p : Process). p ∷ lists xs) (e ∙ ap items_of at)
lists_same (z ∷ xs) (suc i) y x lt at e = ap (λ (r : List Process). items_of z ∷ r) (lists_same xs i y x (omega arith) at e)

pub on_err : {A E : Type 0} (r : Result A E) (P : Type 0) → P → OnErr r P
on_err (Ok x) P h = tt
on_err (Err e) P h = h
