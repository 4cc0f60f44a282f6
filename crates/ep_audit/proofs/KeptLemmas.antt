-- The last record, where records are taken out.
use Rattle.std.proofs.Common.{◌≡◌, ◌∙◌, ◌++◌, ◌+◌, ◌-◌, ◌<◌, ◌≤◌, ◌∷◌, [], ℕ, Bool, Err, List, None, Ok, OnErr, OnOk, Result, Some, ap, arith, false, get_or, length, length-append, refl, slice_get, subst, suc, sym, true}
use Rattle.std.specs.Prelude.{◌↔◌, IsTrue}
use Rattle.std.proofs.lemmas.Option.{none-some, slice_get-get_or}
use Rattle.ep_base.specs.declared.record.Record.{Record}
use Rattle.ep_calls.specs.Book.{Book}
use Rattle.ep_records.proofs.KeptLemmas.{read_last}
use Rattle.ep_records.proofs.WholeLemmas.{here_is_rest}
use Rattle.ep_records.specs.Past.{Past, whole}
use Rattle.ep_audit.specs.Kept.{KeepsLast, last_of}

-- ---- the last of a list

last_is : (past before : List Record) (last : Record) → past ≡ before ++ last ∷ [] → last_of past ≡ Some last
last_is past before last e = read_last before past last (length past - 1) e refl

behind : (t i : List Record) (k : ℕ) → slice_get (t ++ i) (length t + k) ≡ slice_get i k
behind [] i k = let none : 0 + k ≡ k = omega arith in ap (λ n. slice_get i n) none
behind (x ∷ t) i k =
    let next : length (x ∷ t) + k ≡ suc (length t + k) = omega arith in
    ap (λ n. slice_get (x ∷ (t ++ i)) n) next ∙ behind t i k

-- the last of some that are not none is the last, whatever stands before them
last_behind : (t i : List Record) → 0 < length i → last_of (t ++ i) ≡ last_of i
last_behind t i some =
    let at : length (t ++ i) - 1 ≡ length t + (length i - 1) = omega (arith, some, length-append t i) in
    ap (λ n. slice_get (t ++ i) n) at ∙ behind t i (length i - 1)

none_here : (items : List Record) → last_of items ≡ None → length items ≡ 0
none_here [] e = refl
none_here (x ∷ xs) e =
    let within : length (x ∷ xs) - 1 < length (x ∷ xs) = omega arith in
    absurd (none-some (get_or (x ∷ xs) (length (x ∷ xs) - 1) x) (sym e ∙ slice_get-get_or (x ∷ xs) (length (x ∷ xs) - 1) x within))

some_here : (items : List Record) (entry : Record) → last_of items ≡ Some entry → 0 < length items
some_here [] entry e = absurd (none-some entry e)
some_here (x ∷ xs) entry e = omega arith

-- ---- a kernel, its history and what was taken out of it last

pub tells_here : (h : Past) (past before : List Record) (last entry : Record)
    → whole h ≡ past
    → past ≡ before ++ last ∷ []
    → last_of h.items ≡ Some entry
    → Some entry ≡ Some last
tells_here h past before last entry all is e =
    sym e ∙ sym (last_behind h.taken h.items (some_here h.items entry e)) ∙ ap last_of all ∙ last_is past before last is

pub tells_out : (h out : Past) (kernel : Book) (before : List Record) (last : Record)
    → KeepsLast kernel out
    → h.taken ≡ kernel.taken
    → whole h ≡ kernel.past
    → kernel.past ≡ before ++ last ∷ []
    → last_of h.items ≡ None
    → last_of out.items ≡ Some last
tells_out h out kernel before last keeps taken all is e =
    let none : length kernel.past ≤ length kernel.taken = omega (arith, none_here h.items e, length-append h.taken h.items, ap length all, ap length taken) in
    keeps.1 none ∙ last_is kernel.past before last is

-- nothing was recorded yet
pub keeps_none : (kernel : Book) (out : Past) → kernel.taken ≡ [] → kernel.past ≡ [] → out.items ≡ [] → KeepsLast kernel out
keeps_none kernel out taken past items = (omega (arith, ap length taken, ap length past), λ _. ap last_of items ∙ sym (ap last_of past))

some_when : (items : List Record) (empty : Bool) → (IsTrue empty ↔ items ≡ []) → empty ≡ false → 0 < length items
some_when [] empty tells e = let both : true ≡ false = sym (tells.1 refl) ∙ e in cc
some_when (x ∷ xs) empty tells e = omega arith

-- where there are records here, not all were taken out
keeps_here : (h out : Past) (kernel : Book)
    → 0 < length h.items
    → h.taken ≡ kernel.taken
    → whole h ≡ kernel.past
    → KeepsLast kernel out
keeps_here h out kernel some taken all =
    let more : length kernel.taken < length kernel.past = omega (arith, some, length-append h.taken h.items, ap length all, ap length taken) in
    (omega (arith, more), λ none. let both : ⊥ = omega (arith, more, none) in absurd both)

pub keeps_all : (h out : Past) (kernel : Book) (empty : Bool)
    → (IsTrue empty ↔ h.items ≡ [])
    → empty ≡ false
    → h.taken ≡ kernel.taken
    → whole h ≡ kernel.past
    → KeepsLast kernel out
keeps_all h out kernel empty tells e taken all = keeps_here h out kernel (some_when h.items empty tells e) taken all

took_some : {A E : Type 0} (Q : Type 0) (result : Result A E) (h out : Past) (old new : Book)
    → 0 < length h.items
    → h.taken ≡ old.taken
    → whole h ≡ old.past
    → OnOk result (out.taken ≡ old.taken)
    → OnOk result (whole out ≡ old.past)
    → OnOk result (new.taken ≡ old.past)
    → new.past ≡ old.past
    → OnErr result ((new ≡ old) × Q)
    → KeepsLast new out
took_some Q (Ok done) h out old new some taken all before whole_out out_now past err =
    let items : out.items ≡ h.items = here_is_rest out old.taken old.past before whole_out ∙ sym (here_is_rest h old.taken old.past taken all) in
    let last : last_of out.items ≡ last_of new.past = ap last_of items ∙ sym (last_behind h.taken h.items some) ∙ ap last_of (all ∙ sym past) in
    (omega (arith, ap length (out_now ∙ sym past)), λ _. last)
took_some Q (Err fault) h out old new some taken all before whole_out out_now past err =
    subst (λ (b : Book). KeepsLast b out) (sym err.0) (keeps_here h out old some taken all)

-- they were taken out, or stayed
pub took_out : {A E : Type 0} (Q : Type 0) (result : Result A E) (h out : Past) (old new : Book) (empty : Bool)
    → (IsTrue empty ↔ h.items ≡ [])
    → empty ≡ false
    → h.taken ≡ old.taken
    → whole h ≡ old.past
    → OnOk result (out.taken ≡ old.taken)
    → OnOk result (whole out ≡ old.past)
    → OnOk result (new.taken ≡ old.past)
    → new.past ≡ old.past
    → OnErr result ((new ≡ old) × Q)
    → KeepsLast new out
took_out Q result h out old new empty tells e taken all before whole_out out_now past err =
    took_some Q result h out old new (some_when h.items empty tells e) taken all before whole_out out_now past err
