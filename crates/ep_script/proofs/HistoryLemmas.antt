-- What stands in the history's writer, record by record.
use Rattle.std.proofs.Common.{List, Option, IfSome, Err, Result, [], ap, append-nil, append_assoc, arith, inl, inr, length, refl, sym, take, ℕ, ◌+◌, ◌-◌, ◌++◌, ◌≡◌, ◌≤◌, ◌∙◌, ◌∷◌, ◌⊎◌}
use Rattle.std.specs.Io.KnownBytes.{Appends}
use Rattle.std.proofs.Math.Seq.{take-append-add}
use Rattle.ep_base.specs.declared.record.Record.{Record}
use Rattle.ep_history.specs.Records.{record_line}
use Rattle.ep_version.specs.declared.version.Version.{Version}
use Rattle.ep_script.specs.declared.fault.RecordedFault.{RecordedFault}
use Rattle.ep_script.specs.declared.fault.RecordedFault.TheVariants.{History, Memory, Script}
use Rattle.ep_script.specs.declared.fault.ScriptFault.{ScriptFault}
use Rattle.ep_script.specs.declared.fault.ScriptFault.TheVariants as fault
use Rattle.ep_script.specs.declared.summary.Summary.{Summary}
use Rattle.ep_script.specs.Recorded.{EndsBy, Writes, WritesPart, history_text, line_at}
use Rattle.ep_script.specs.Steps.{AnswerFault, MayGain}
use Rattle.ep_script.specs.Transcript.{Asked, Grows, Outcome}
use Rattle.ep_script.proofs.Faults.{read_fault}
use Rattle.ep_script.proofs.RunLemmas.{Ran}
use Rattle.ep_script.proofs.TallyLemmas.{gains_of, grown_few}
use Rattle.ep_script.proofs.WriterLemmas.{appends_more, appends_nothing}

history_text_more : (xs ys : List Record) → history_text (xs ++ ys) ≡ history_text xs ++ history_text ys
history_text_more [] ys = refl
history_text_more (x ∷ xs) ys =
    ap (λ t. record_line x ++ 10 ∷ t) (history_text_more xs ys) ∙ sym (append_assoc (record_line x) (10 ∷ history_text xs) (history_text ys))

-- the place of the next record
pub at_next : (number count past : ℕ) → number ≡ count + 1 → count ≡ past → number - 1 ≡ past
at_next number count past e f = omega (arith, e, f)

-- the line of the only record that came
line_here : (h g : List Record) → length g ≤ 1 → line_at (length h) (h ++ g) ≡ history_text g
line_here [] [] few = refl
line_here [] (r ∷ []) few = refl
line_here [] (r ∷ q ∷ g) few = absurd (omega (arith, few))
line_here (x ∷ h) g few = line_here h g few

line_grown : (h h' : List Record) (o : Outcome) (g : Grows h h' (o ∷ [])) (place : ℕ) → place ≡ length h → line_at place h' ≡ history_text g.0
line_grown h h' o g place e = rw (e, g.1) (line_here h g.0 (grown_few h h' o g))

pub writes_nothing : (v : Option (List ℕ)) (h : List Record) → Writes v v h h
writes_nothing v h = ([], sym (append-nil h), appends_nothing v)

pub writes_more : (w v v' : Option (List ℕ)) (h0 h h' : List Record) (o : Outcome) (place : ℕ) → Writes w v h0 h → Grows h h' (o ∷ []) → place ≡ length h
    → Appends v v' (line_at place h') → Writes w v' h0 h'
writes_more w v v' h0 h h' o place p g e wrote = (
  p.0 ++ g.0,
  g.1 ∙ ap (λ x. x ++ g.0) p.1 ∙ append_assoc h0 p.0 g.0,
  rw (history_text_more p.0 g.0) (appends_more w v v' (history_text p.0) (history_text g.0) p.2 (rw (line_grown h h' o g place e) at wrote)),
)

pub writes_part : (w v v' : Option (List ℕ)) (h0 h h' g : List Record) (n : ℕ) → Writes w v h0 h → h' ≡ h ++ g → Appends v v' (take n (history_text g)) → WritesPart w v' h0 h'
writes_part w v v' h0 h h' g n p e wrote = (
  p.0 ++ g,
  e ∙ ap (λ x. x ++ g) p.1 ∙ append_assoc h0 p.0 g,
  (length (history_text p.0) + n, rw (history_text_more p.0 g, take-append-add (history_text p.0) (history_text g) n) (appends_more w v v' (history_text p.0) (take n (history_text g)) p.2 wrote)),
)

pub part_of_all : (w v : Option (List ℕ)) (h0 h : List Record) → Writes w v h0 h → WritesPart w v h0 h
part_of_all w v h0 h p = writes_part w v v h0 h h [] 0 p (sym (append-nil h)) (appends_nothing v)

pub part_of_line : (w v v' : Option (List ℕ)) (h0 h h' : List Record) (o : Outcome) (place n : ℕ) → Writes w v h0 h → Grows h h' (o ∷ []) → place ≡ length h
    → Appends v v' (take n (line_at place h')) → WritesPart w v' h0 h'
part_of_line w v v' h0 h h' o place n p g e wrote = writes_part w v v' h0 h h' g.0 n p g.1 (rw (line_grown h h' o g place e) at wrote)

-- the record of a line that was not answered whole stands in no line
gained : (c : Asked) (d : Version) (number : ℕ) (e : ScriptFault) (old new : Option (List ℕ)) (waited : List ℕ) (h h' : List Record) → AnswerFault e c d number old new waited h h' → MayGain h h'
gained c d number fault.Memory old new waited h h' a = gains_of c h h' a.1
gained c d number fault.Write old new waited h h' (inl a) = gains_of c h h' (inl a.0)
gained c d number fault.Write old new waited h h' (inr a) = gains_of c h h' (inr a.0)
gained c d number fault.Read old new waited h h' a = absurd a
gained c d number fault.Lines old new waited h h' a = absurd a
gained c d number (fault.Line x) old new waited h h' a = absurd a

pub part_unanswered : (w v old new : Option (List ℕ)) (waited : List ℕ) (h0 h h' : List Record) (c : Asked) (d : Version) (number : ℕ) (e : ScriptFault) → Writes w v h0 h
    → AnswerFault e c d number old new waited h h' → WritesPart w v h0 h'
part_unanswered w v old new waited h0 h h' c d number e p a =
    let more = gained c d number e old new waited h h' a in
    writes_part w v v h0 h h' more.0 0 p more.1 (appends_nothing v)

-- ---- faults

-- nothing waits where a record can fail
nothing_waits : (q : List ℕ) (room : ℕ) → length q ≤ room → room ≡ 0 → q ≡ []
nothing_waits [] room few none = refl
nothing_waits (x ∷ q) room few none = absurd (omega (arith, few, none))

pub history_fault : (room : ℕ) (k l w v : Option (List ℕ)) (q : List ℕ) (h0 h : List Record) (u : Version) (s : Summary) (e : RecordedFault) → Ran k l w v q h0 h u s → length q ≤ room → room ≡ 0
    → (e ≡ History) ⊎ (e ≡ Memory) → IfSome k (λ i. EndsBy room e i w v h0 h)
history_fault room k l w v q h0 h u s e p few none (inl f) = rw f (read_fault room k l w v h0 h u s (rw (nothing_waits q room few none) at p))
history_fault room k l w v q h0 h u s e p few none (inr f) = rw f (read_fault room k l w v h0 h u s (rw (nothing_waits q room few none) at p))

pub never_script : (X : Type 0) {T : Type 0} (e : RecordedFault) (f : ScriptFault) → (e ≡ History) ⊎ (e ≡ Memory) → ◌≡◌ {A = Result T RecordedFault} (Err e) (Err (Script f)) → X
never_script X e f (inl g) q = absurd (cc)
never_script X e f (inr g) q = absurd (cc)

pub script_same : {T : Type 0} (a b : ScriptFault) → ◌≡◌ {A = Result T RecordedFault} (Err (Script a)) (Err (Script b)) → a ≡ b
script_same a b q = cc
