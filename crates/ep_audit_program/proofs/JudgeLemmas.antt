-- A judge that is told one record more.
use Rattle.std.proofs.Common.{◌≡◌, ◌∙◌, ◌+◌, ◌++◌, ◌<◌, ◌∷◌, [], ℕ, Bool, List, None, Option, Some, ap, arith, false, is_some, length, length-append, refl, subst, sym, take, true}
use Rattle.std.specs.List.{slice_get}
use Rattle.std.proofs.Math.Seq.{get_or-append_seam, take-append-add, take-append_seam}
use Rattle.std.proofs.lemmas.List.{get_or_append_left, take-append-le}
use Rattle.std.proofs.lemmas.Option.{get_or_from_slice_get, slice_get_read, slice_get_within}
use Rattle.ep_base.specs.Limits.{Limits}
use Rattle.ep_base.specs.declared.record.Record.{Record}
use Rattle.ep_machine.specs.Run.{is_run}
use Rattle.ep_history.specs.Records.{line_record}
use Rattle.ep_audit.specs.Auditor.{HasAllowed, HasMadeInstead, IsAllowedFor, Judges}
use Rattle.ep_audit_program.specs.declared.judge.Illegal.{Illegal as IllegalRecord}
use Rattle.ep_audit.specs.declared.auditor.Auditor.{Auditor}
use Rattle.ep_audit.proofs.AuditorLemmas.{allowed_made, is_allowed}
use Rattle.ep_audit_program.specs.declared.judge.Judge.{Judge}
use Rattle.ep_audit_program.specs.Verdict.{Found, IsIllegalAt, WasTold}

not_both : false ≡ true → ⊥
not_both e = cc

-- ---- lists with one more

all_before : {A : Type 0} (xs ys : List A) (n : ℕ) → n ≡ length xs → take n (xs ++ ys) ≡ xs
all_before xs ys n e = rw e (take-append_seam xs ys)

all_with : {A : Type 0} (xs : List A) (y : A) (n : ℕ) → n ≡ length xs → take (n + 1) (xs ++ y ∷ []) ≡ xs ++ y ∷ []
all_with xs y n e = rw e (take-append-add xs (y ∷ []) 1)

got_before : {A : Type 0} (xs ys : List A) (n : ℕ) (x : A) → slice_get xs n ≡ Some x → slice_get (xs ++ ys) n ≡ Some x
got_before xs ys n x e =
    let within : n < length xs = slice_get_within xs n x e in
    slice_get_read (xs ++ ys) (length (xs ++ ys)) n x refl (omega (arith, within, length-append xs ys))
    (sym (get_or_append_left xs ys x n within ∙ get_or_from_slice_get xs n x x e))

got_last : {A : Type 0} (xs : List A) (y : A) (n : ℕ) → n ≡ length xs → slice_get (xs ++ y ∷ []) n ≡ Some y
got_last xs y n e =
    slice_get_read (xs ++ y ∷ []) (length (xs ++ y ∷ [])) n y refl (omega (arith, e, length-append xs (y ∷ [])))
    (sym (rw e (get_or-append_seam xs y [] y)))

-- ---- what it has found

-- it had found one before
pub found_before : (limits : Limits) (records : List Record) (lines : List (List ℕ)) (found : IllegalRecord) (r : Record) (line : List ℕ)
    → IsIllegalAt limits records lines found
    → IsIllegalAt limits (records ++ r ∷ []) (lines ++ line ∷ []) found
found_before limits records lines found r line p = record {
  within = omega (arith, p.within, length-append records (r ∷ []));
  first = record {
    before = ap (is_run limits) (take-append-le found.place records (r ∷ []) (omega (arith, p.within))) ∙ p.first.before;
    with_it = ap (is_run limits) (take-append-le (found.place + 1) records (r ∷ []) (omega (arith, p.within))) ∙ p.first.with_it;
  };
  line = got_before lines (line ∷ []) found.place found.line.items p.line;
  allowed = record {
    next = p.allowed.next;
    there = got_before records (r ∷ []) found.place p.allowed.next p.allowed.there;
    other = p.allowed.other;
    allowed = subst (λ (rs : List Record). IsAllowedFor limits rs p.allowed.next p.allowed.other) (sym (take-append-le found.place records (r ∷ []) (omega (arith, p.within)))) p.allowed.allowed;
    reads = p.allowed.reads;
  };
}

-- this one is illegal
pub found_now : (limits : Limits) (records : List Record) (lines : List (List ℕ)) (found : IllegalRecord) (r : Record) (line : List ℕ) (other : Record)
    → is_run limits records ≡ true
    → is_run limits (records ++ r ∷ []) ≡ false
    → IsAllowedFor limits records r other
    → found.place ≡ length records
    → found.place ≡ length lines
    → found.line.items ≡ line
    → line_record found.allowed.items ≡ Some other
    → IsIllegalAt limits (records ++ r ∷ []) (lines ++ line ∷ []) found
found_now limits records lines found r line other ran none allowed at place same told = record {
  within = omega (arith, at, length-append records (r ∷ []));
  first = record {
    before = ap (is_run limits) (all_before records (r ∷ []) found.place at) ∙ ran;
    with_it = ap (is_run limits) (all_with records r found.place at) ∙ none;
  };
  line = got_last lines line found.place place ∙ ap (λ l. Some l) (sym same);
  allowed = record {
    next = r;
    there = got_last records r found.place at;
    other = other;
    allowed = subst (λ (rs : List Record). IsAllowedFor limits rs r other) (sym (all_before records (r ∷ []) found.place at)) allowed;
    reads = told;
  };
}

-- ---- what the judge knows, by what it has found

pub stays : (limits : Limits) (records : List Record) (lines : List (List ℕ)) (judge : Judge) (o : Option IllegalRecord) (r : Record) (line : List ℕ)
    → is_some o ≡ true
    → Found limits records lines judge o
    → Found limits (records ++ r ∷ []) (lines ++ line ∷ []) judge o
stays limits records lines judge None r line e p = absurd (not_both e)
stays limits records lines judge (Some found) r line e p = found_before limits records lines found r line p

pub had_allowed : (limits : Limits) (records : List Record) (lines : List (List ℕ)) (judge : Judge) (o : Option IllegalRecord)
    → is_some o ≡ false
    → Found limits records lines judge o
    → HasAllowed limits records judge.auditor
had_allowed limits records lines judge None e p = p
had_allowed limits records lines judge (Some found) e p = absurd (not_both (sym e))

none_when : (limits : Limits) (records : List Record) (auditor : Auditor) (b : Bool) → b ≡ false → Judges limits records auditor b → is_run limits records ≡ false
none_when limits records auditor true e p = absurd (not_both (sym e))
none_when limits records auditor false e p = p

all_when : (limits : Limits) (records : List Record) (auditor : Auditor) (b : Bool) → b ≡ true → Judges limits records auditor b → HasAllowed limits records auditor
all_when limits records auditor true e p = p
all_when limits records auditor false e p = absurd (not_both e)

found_none : (limits : Limits) (records : List Record) (lines : List (List ℕ)) (judge : Judge) (o : Option IllegalRecord)
    → is_some o ≡ false
    → HasAllowed limits records judge.auditor
    → Found limits records lines judge o
found_none limits records lines judge None e p = p
found_none limits records lines judge (Some found) e p = absurd (not_both (sym e))

-- it allowed this one
pub told_legal : (limits : Limits) (records : List Record) (lines : List (List ℕ)) (old : Judge) (auditor : Auditor) (r : Record) (line : List ℕ) (b : Bool)
    → is_some old.illegal ≡ false
    → ((limits : Limits) (records : List Record) → HasAllowed limits records old.auditor → Judges limits (records ++ r ∷ []) auditor b)
    → b ≡ true
    → WasTold limits records lines old
    → WasTold limits (records ++ r ∷ []) (lines ++ line ∷ []) (record old { auditor = auditor })
told_legal limits records lines old auditor r line b none judges right told =
    found_none limits (records ++ r ∷ []) (lines ++ line ∷ []) (record old { auditor = auditor }) old.illegal none
    (all_when limits (records ++ r ∷ []) auditor b right (judges limits records (had_allowed limits records lines old old.illegal none told)))

-- it did not
pub told_illegal : (limits : Limits) (records : List Record) (lines : List (List ℕ)) (old : Judge) (auditor : Auditor) (found : IllegalRecord) (r : Record) (line : List ℕ) (b : Bool)
    → is_some old.illegal ≡ false
    → ((limits : Limits) (records : List Record) → HasAllowed limits records old.auditor → Judges limits (records ++ r ∷ []) auditor b)
    → b ≡ false
    → (m : HasMadeInstead old.auditor r auditor)
    → found.line.items ≡ line
    → line_record found.allowed.items ≡ Some m.last
    → WasTold limits records lines old
    → found.place ≡ length records
    → found.place ≡ length lines
    → IsIllegalAt limits (records ++ r ∷ []) (lines ++ line ∷ []) found
told_illegal limits records lines old auditor found r line b none judges wrong m same says told at place =
    let had : HasAllowed limits records old.auditor = had_allowed limits records lines old old.illegal none told in
    found_now limits records lines found r line m.last (is_allowed limits records old.auditor had)
    (none_when limits (records ++ r ∷ []) auditor b wrong (judges limits records had)) (allowed_made limits records old.auditor auditor r had m) at place same says
