-- Answers that wait to be written.
use Rattle.std.proofs.Common.{Err, IfErr, List, Ok, OnOk, Option, Result, [], ap, append-nil, inl, inr, length, sym, take, ℕ, ◌+◌, ◌++◌, ◌≡◌, ◌≤◌, ◌∙◌}
use Rattle.std.proofs.Math.Seq.{take-append-add}
use Rattle.std.proofs.lemmas.List.{take-append-le}
use Rattle.std.specs.Io.KnownBytes.{Appends}
use Rattle.ep_base.specs.declared.record.Record.{Record}
use Rattle.ep_script.specs.declared.fault.ScriptFault.{ScriptFault}
use Rattle.ep_script.specs.declared.fault.ScriptFault.TheVariants as fault
use Rattle.ep_script.specs.declared.summary.LineKind.{LineKind}
use Rattle.ep_version.specs.declared.version.Version.{Version}
use Rattle.ep_script.specs.Steps.{AnswerFault, EndsWith, Gathers, MayBecome, Misses, MissesOf, Tells}
use Rattle.ep_script.specs.Transcript.{Asked}
use Rattle.ep_script.proofs.WriterLemmas.{appends_more}

-- ---- an answer is put behind them

misses_of : (a b : Option (List ℕ)) (q text : List ℕ) → MissesOf a b q → Misses a b q text
misses_of a b q text miss = (miss.1.0, rw (take-append-le miss.1.0 q text miss.1.1) miss.1.2)

pub adds : {A E : Type 0} (r : Result A E) (a b c : Option (List ℕ)) (q q1 q2 text : List ℕ) → q1 ≡ q → Appends a b q1 → q2 ≡ [] → OnOk r (Appends b c text) → OnOk r (Gathers a c q q2 text)
adds (Ok x) a b c q q1 q2 text same wrote none more = (
  q1 ++ text,
  appends_more a b c q1 text wrote more,
  ap (λ y. (q1 ++ text) ++ y) none ∙ append-nil (q1 ++ text) ∙ ap (λ y. y ++ text) same,
)
adds (Err x) a b c q q1 q2 text same wrote none more = tt

pub adds_not : {A : Type 0} (r : Result A ScriptFault) (X : Type 0) (a b c : Option (List ℕ)) (q q1 text : List ℕ) → q1 ≡ q → Appends a b q1
    → IfErr r (λ e. (e ≡ fault.Write) × X × ((n : ℕ) × (n ≤ length text) × Appends b c (take n text)))
    → IfErr r (λ e. (e ≡ fault.Write) × X × Misses a c q text)
adds_not (Ok x) X a b c q q1 text same wrote f = tt
adds_not (Err x) X a b c q q1 text same wrote f =
    let n = f.2.0 in
    let first : take (length q1 + n) (q ++ text) ≡ q1 ++ take n text = ap (λ y. take (length q1 + n) (y ++ text)) (sym same) ∙ take-append-add q1 text n in
    (f.0, f.1, (length q1 + n, rw first (appends_more a b c q1 (take n text) wrote f.2.2)))

pub held_back : (a b : Option (List ℕ)) (q q1 text : List ℕ) (X : Type 0) (e : ScriptFault) → q1 ≡ q → (e ≡ fault.Write) × X × MissesOf a b q1 → (e ≡ fault.Write) × X × Misses a b q text
held_back a b q q1 text X e same f = (f.0, f.1, misses_of a b q text (rw same at f.2))

-- ---- its answer

pub untold : (X : Type 0) (c : Asked) (d : Version) (n : ℕ) (a b : Option (List ℕ)) (q q1 : List ℕ) (h h' : List Record) (r : ScriptFault) → EndsWith fault.Memory r X a b q1 → q1 ≡ q → MayBecome c h h'
    → AnswerFault r c d n a b q h h'
untold X c d n a b q q1 h h' r (inl f) same m = rw f.0 (rw same at f.1, m)
untold X c d n a b q q1 h h' r (inr f) same (inl e) = rw f.0 (inl (e, rw same at f.2))
untold X c d n a b q q1 h h' r (inr f) same (inr m) = rw f.0 (inr (m, misses_of a b q _ (rw same at f.2)))

pub told_not : (X : Type 0) (c : Asked) (d w : Version) (n : ℕ) (k : LineKind) (text : List ℕ) (a b : Option (List ℕ)) (q q1 : List ℕ) (h h' : List Record) (e : ScriptFault) → Tells c d w n k text h h' → q1 ≡ q
    → (e ≡ fault.Write) × X × Misses a b q1 text → AnswerFault e c d n a b q h h'
told_not X c d w n k text a b q q1 h h' e tells same f =
    rw f.0 (inr (record { outcome = tells.outcome; of_line = tells.of_line; grows = tells.grows }, rw (tells.text_is, same) at f.2))
