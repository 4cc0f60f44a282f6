-- How far a history was read and judged.
use Rattle.std.proofs.Common.{◌≡◌, ◌∙◌, ◌+◌, ◌++◌, ◌∷◌, [], ℕ, IfSome, List, None, Option, Some, ap, length, sym}
use Rattle.std.proofs.lemmas.List.{length-map}
use Rattle.std.specs.Io.KnownBytes.{prepend_known}
use Rattle.ep_base.specs.Limits.{Limits}
use Rattle.ep_base.specs.declared.record.Record.{Record}
use Rattle.ep_history.specs.Records.{line_record}
use Rattle.ep_script.specs.Known.{Leads}
use Rattle.ep_script.specs.Lines.{lines_of}
use Rattle.ep_script.specs.ReadHistory.{AreLinesOf, FitsRecord, IsFirstBad, IsFirstLong, longest_record}
use Rattle.ep_script.specs.Steps.{IsTooLong, TakesLine}
use Rattle.ep_script.proofs.PastLemmas.{Reads, bad, leads_by, leads_on, leads_to, long, more, more_lines, nothing, nothing_lines, whole}
use Rattle.ep_audit_program.specs.declared.judge.Judge.{Judge}
use Rattle.ep_audit_program.specs.declared.judge.Verdict.{Verdict}
use Rattle.ep_audit_program.specs.Verdict.{IsVerdict, Judged, WasTold}

-- the first lines are these records, the judge was told them, and the rest is left
pub record Judging (limits : Limits) (input rest : List ℕ) (judge : Judge) (done : ℕ) : Type 0 where
  pub records : List Record
  pub reads : Reads input rest records done
  pub told : WasTold limits records reads.lines judge

-- where the bytes of the reader are known
abbrev pub IsJudging : Limits → Option (List ℕ) → Option (List ℕ) → Judge → ℕ → Type 0
IsJudging limits k l judge done = Leads k l (λ input rest. Judging limits input rest judge done)

-- what the judge makes of one record more
abbrev pub IsToldMore : Judge → Judge → ℕ → Record → List ℕ → Type 0
IsToldMore old new place r line = (limits : Limits) (records : List Record) (lines : List (List ℕ)) → WasTold limits records lines old
    → place ≡ length records → place ≡ length lines → WasTold limits (records ++ r ∷ []) (lines ++ line ∷ []) new

as_many : (records : List Record) (lines : List (List ℕ)) → AreLinesOf records lines → length lines ≡ length records
as_many records lines e = sym (length-map lines line_record) ∙ ap length e ∙ length-map records (λ r. Some r)

begins : (limits : Limits) (i : List ℕ) (judge : Judge) → WasTold limits [] [] judge → Judging limits i i judge 0
begins limits i judge told = record { records = []; reads = nothing i; told = rw (nothing_lines i) told }

pub judge_nothing : (limits : Limits) (k : Option (List ℕ)) (us : List ℕ) (judge : Judge) → us ≡ [] → WasTold limits [] [] judge
    → IsJudging limits k (prepend_known us k) judge 0
judge_nothing limits None us judge e told = tt
judge_nothing limits (Some i) us judge e told = let same : us ++ i ≡ i = ap (λ x. x ++ i) e in rw same (begins limits i judge told)

goes_on : (limits : Limits) (i r q line : List ℕ) (old new : Judge) (x : Record) (done : ℕ) → Judging limits i r old done → TakesLine r line q
    → FitsRecord line → line_record line ≡ Some x → IsToldMore old new done x line → Judging limits i q new (done + 1)
goes_on limits i r q line old new x done p takes fits is told =
    let places : done ≡ length p.records = p.reads.number ∙ as_many p.records p.reads.lines p.reads.of_lines in
    record {
      records = p.records ++ x ∷ [];
      reads = more i r q line p.records x done p.reads takes fits is;
      told = rw (more_lines i r q line p.records x done p.reads takes fits is) (told limits p.records p.reads.lines p.told places p.reads.number);
    }

pub judge_more : (limits : Limits) (k l m : Option (List ℕ)) (line : List ℕ) (old new : Judge) (x : Record) (done : ℕ) → IsJudging limits k l old done
    → Leads l m (λ r q. TakesLine r line q) → FitsRecord line → line_record line ≡ Some x → IsToldMore old new done x line → IsJudging limits k m new (done + 1)
judge_more limits k l m line old new x done p takes fits is told =
    leads_on k l m (λ i r. Judging limits i r old done) (λ r q. TakesLine r line q) (λ i q. Judging limits i q new (done + 1)) p takes
    (λ i r q h t. goes_on limits i r q line old new x done h t fits is told)

ends : (limits : Limits) (i r : List ℕ) (judge : Judge) (done : ℕ) (verdict : Verdict) → Judging limits i r judge done → r ≡ []
    → ((limits : Limits) (records : List Record) (lines : List (List ℕ)) → WasTold limits records lines judge → done ≡ length records → IsVerdict limits records lines verdict)
    → Judged limits (lines_of i) verdict
ends limits i r judge done verdict p e says =
    let places : done ≡ length p.records = p.reads.number ∙ as_many p.records p.reads.lines p.reads.of_lines in
    rw (whole i r p.records done p.reads e) (record {
      records = p.records;
      of_lines = p.reads.of_lines;
      verdict_is = says limits p.records p.reads.lines p.told places;
    })

pub judge_whole : (limits : Limits) (k l m : Option (List ℕ)) (judge : Judge) (done : ℕ) (verdict : Verdict) → IsJudging limits k l judge done
    → Leads l m (λ xs ys. (xs ≡ []) × (ys ≡ []))
    → ((limits : Limits) (records : List Record) (lines : List (List ℕ)) → WasTold limits records lines judge → done ≡ length records → IsVerdict limits records lines verdict)
    → IfSome k (λ i. Judged limits (lines_of i) verdict)
judge_whole limits k l m judge done verdict p end says =
    leads_by k l m (λ i r. Judging limits i r judge done) (λ xs ys. (xs ≡ []) × (ys ≡ [])) (λ i. Judged limits (lines_of i) verdict) p end
    (λ i r q h e. ends limits i r judge done verdict h e.0 says)

pub judge_bad : (limits : Limits) (k l m : Option (List ℕ)) (line : List ℕ) (judge : Judge) (done : ℕ) → IsJudging limits k l judge done
    → Leads l m (λ r q. TakesLine r line q) → FitsRecord line → line_record line ≡ None → IfSome k (λ i. IsFirstBad (done + 1) (lines_of i))
judge_bad limits k l m line judge done p takes fits none =
    leads_by k l m (λ i r. Judging limits i r judge done) (λ r q. TakesLine r line q) (λ i. IsFirstBad (done + 1) (lines_of i)) p takes
    (λ i r q h t. bad i r q line h.records done h.reads t fits none)

pub judge_long : (limits : Limits) (k l : Option (List ℕ)) (judge : Judge) (done : ℕ) → IsJudging limits k l judge done
    → IfSome l (λ r. IsTooLong longest_record r) → IfSome k (λ i. IsFirstLong (done + 1) (lines_of i))
judge_long limits k l judge done p h =
    leads_to k l (λ i r. Judging limits i r judge done) (λ i. IsFirstLong (done + 1) (lines_of i)) (λ r. IsTooLong longest_record r) p h
    (λ i r q t. long i r q.records done q.reads t)
