-- How far a script was run, line by line.
use Rattle.std.proofs.Common.{List, None, Option, Some, IfSome, [], ap, append-nil, append_assoc, arith, inl, inr, length, refl, sym, ℕ, ◌+◌, ◌++◌, ◌≡◌, ◌≢◌, ◌≤◌, ◌∙◌, ◌∷◌, ◌⊎◌}
use Rattle.std.specs.Io.KnownBytes.{Appends, prepend_known}
use Rattle.ep_base.specs.declared.record.Record.{Record}
use Rattle.ep_script.specs.declared.summary.LineKind.{LineKind}
use Rattle.ep_script.specs.declared.summary.Summary.{Summary}
use Rattle.ep_version.specs.declared.version.Version.{Version}
use Rattle.ep_version.specs.declared.version.Version.TheVariants.{V1}
use Rattle.ep_script.specs.Known.{Leads}
use Rattle.ep_script.specs.Lines.{AllFit, joined, last_line, lines_of, longest_line}
use Rattle.ep_script.specs.Outcome.{Tallies, Whole}
use Rattle.ep_script.specs.Steps.{Gathers, TakesLine, Tells}
use Rattle.ep_script.specs.Tally.{counted}
use Rattle.ep_script.specs.Transcript.{AreOf, Grows, Outcome, asked_in, asks, said, then_in, transcript, version_after}
use Rattle.ep_script.proofs.Lines.{open_line, whole_line}
use Rattle.ep_script.proofs.TallyLemmas.{are_more, fit_more, grows_more, tally_more, transcript_more, version_more}
use Rattle.ep_script.proofs.WriterLemmas.{appends_more, appends_nothing}

-- the first lines are answered, the last bytes of their answers wait, and the rest is left, whose first line is of this version
pub record Progress (input rest : List ℕ) (before written : Option (List ℕ)) (waits : List ℕ) (start history : List Record) (version : Version) (summary : Summary) : Type 0 where
  pub lines : List (List ℕ)
  pub outcomes : List Outcome
  pub cut : lines_of input ≡ lines ++ lines_of rest
  pub of_lines : AreOf outcomes lines
  pub sent : List ℕ
  pub text : Appends before written sent
  pub sent_is : transcript V1 1 outcomes ≡ sent ++ waits
  pub version_is : version ≡ version_after V1 outcomes
  pub grows : Grows start history outcomes
  pub tally : Tallies summary outcomes
  pub fit : AllFit lines
  pub ended : (input ≡ joined lines ++ rest) ⊎ (rest ≡ [])

-- where the bytes of the reader are known
abbrev pub Ran : Option (List ℕ) → Option (List ℕ) → Option (List ℕ) → Option (List ℕ) → List ℕ → List Record → List Record → Version → Summary → Type 0
Ran k l w v waits start history version summary = Leads k l (λ input rest. Progress input rest w v waits start history version summary)

-- ---- what waits is written

passed : (i r : List ℕ) (w v v' : Option (List ℕ)) (q q' : List ℕ) (h0 h : List Record) (u : Version) (s : Summary) → Progress i r w v q h0 h u s → Gathers v v' q q' []
    → Progress i r w v' q' h0 h u s
passed i r w v v' q q' h0 h u s p g = record {
  lines = p.lines;
  outcomes = p.outcomes;
  cut = p.cut;
  of_lines = p.of_lines;
  sent = p.sent ++ g.0;
  text = appends_more w v v' p.sent g.0 p.text g.1;
  sent_is = p.sent_is ∙ ap (λ x. p.sent ++ x) (sym (g.2 ∙ append-nil q)) ∙ sym (append_assoc p.sent g.0 q');
  version_is = p.version_is;
  grows = p.grows;
  tally = p.tally;
  fit = p.fit;
  ended = p.ended;
}

pub ran_passed : (k l w v v' : Option (List ℕ)) (q q' : List ℕ) (h0 h : List Record) (u : Version) (s : Summary) → Ran k l w v q h0 h u s → Gathers v v' q q' [] → Ran k l w v' q' h0 h u s
ran_passed None l w v v' q q' h0 h u s p g = tt
ran_passed (Some i) None w v v' q q' h0 h u s p g = p
ran_passed (Some i) (Some r) w v v' q q' h0 h u s p g = passed i r w v v' q q' h0 h u s p g

-- all of it
pub ran_written : (k l w v v' : Option (List ℕ)) (q : List ℕ) (h0 h : List Record) (u : Version) (s : Summary) → Ran k l w v q h0 h u s → Appends v v' q → Ran k l w v' [] h0 h u s
ran_written k l w v v' q h0 h u s p wrote = ran_passed k l w v v' q [] h0 h u s p (q, wrote, refl)

pub all_sent : (i r : List ℕ) (w v : Option (List ℕ)) (h0 h : List Record) (u : Version) (s : Summary) (p : Progress i r w v [] h0 h u s) → Appends w v (transcript V1 1 p.outcomes)
all_sent i r w v h0 h u s p = rw (p.sent_is ∙ append-nil p.sent) p.text

-- ---- a line more

one_line : (l : List ℕ) → l ≢ [] → last_line l ≡ l ∷ []
one_line [] h = absurd (h refl)
one_line (x ∷ l) h = refl

pub takes_first : (r line q : List ℕ) → TakesLine r line q → lines_of r ≡ line ∷ lines_of q
takes_first r line q t = elim t.cut [
  | inl e ↦ ap lines_of e ∙ whole_line line q t.plain
  | inr e ↦ ap lines_of e.0 ∙ open_line line t.plain ∙ one_line line e.2 ∙ ap (λ x. line ∷ lines_of x) (sym e.1)
]

joined_more : (ls : List (List ℕ)) (l s : List ℕ) → joined (ls ++ l ∷ []) ++ s ≡ joined ls ++ (l ++ 10 ∷ s)
joined_more [] l s = append_assoc l (10 ∷ []) s
joined_more (k ∷ ls) l s =
    append_assoc k (10 ∷ joined (ls ++ l ∷ [])) s ∙ ap (λ x. k ++ 10 ∷ x) (joined_more ls l s) ∙ sym (append_assoc k (10 ∷ joined ls) (l ++ 10 ∷ s))

none_in : (line q : List ℕ) → lines_of [] ≡ line ∷ lines_of q → ⊥
none_in line q e = cc

ended_more : (i r line q : List ℕ) (ls : List (List ℕ)) → (i ≡ joined ls ++ r) ⊎ (r ≡ []) → TakesLine r line q → (i ≡ joined (ls ++ line ∷ []) ++ q) ⊎ (q ≡ [])
ended_more i r line q ls p t = elim t.cut [
  | inr e ↦ inr e.1
  | inl e ↦ elim p [
    | inl f ↦ inl (f ∙ ap (λ x. joined ls ++ x) e ∙ sym (joined_more ls line q))
    | inr f ↦ absurd (none_in line q (ap lines_of (sym f) ∙ takes_first r line q t))
  ]
]

more : (i r m : List ℕ) (w v v' : Option (List ℕ)) (q q' text : List ℕ) (h0 h h' : List Record) (a b : Version) (s : Summary) (k : LineKind) (line : List ℕ) (n : ℕ) → Progress i r w v q h0 h a s
    → TakesLine r line m → length line ≤ longest_line → Tells (asks a n line) a b n k text h h' → Gathers v v' q q' text → n ≡ s.lines + 1 → Progress i m w v' q' h0 h' b (counted s k)
more i r m w v v' q q' text h0 h h' a b s k line n p take short tells g e =
    let o = tells.outcome in
    let number : 1 + length p.outcomes ≡ n = omega (arith, p.tally.lines) in
    let says : text ≡ said (version_after V1 p.outcomes) n o = tells.text_is ∙ ap (λ x. said x n o) p.version_is in
    record {
      lines = p.lines ++ line ∷ [];
      outcomes = p.outcomes ++ o ∷ [];
      cut = p.cut ∙ ap (λ ls. p.lines ++ ls) (takes_first r line m take) ∙ sym (append_assoc p.lines (line ∷ []) (lines_of m));
      of_lines = are_more p.outcomes p.lines o line n p.of_lines number (tells.of_line ∙ ap (λ x. asks x n line) p.version_is);
      sent = p.sent ++ g.0;
      text = appends_more w v v' p.sent g.0 p.text g.1;
      sent_is = transcript_more V1 1 p.outcomes o n number ∙ ap (λ x. x ++ said (version_after V1 p.outcomes) n o) p.sent_is ∙ append_assoc p.sent q (said (version_after V1 p.outcomes) n o)
          ∙ ap (λ x. p.sent ++ (q ++ x)) (sym says) ∙ ap (λ x. p.sent ++ x) (sym g.2) ∙ sym (append_assoc p.sent g.0 q');
      version_is = tells.next_is ∙ ap (λ x. then_in a x) (sym tells.of_line) ∙ ap (λ x. then_in x (asked_in o)) p.version_is ∙ sym (version_more V1 p.outcomes o);
      grows = grows_more h0 h h' p.outcomes o p.grows tells.grows;
      tally = tally_more s k p.outcomes o p.tally tells.kind_is;
      fit = fit_more p.lines line p.fit short;
      ended = ended_more i r line m p.lines p.ended take;
    }

pub ran_more : (k l m w v v' : Option (List ℕ)) (q q' : List ℕ) (h0 h h' : List Record) (a b : Version) (s : Summary) (kind : LineKind) (text line : List ℕ) (n : ℕ) → Ran k l w v q h0 h a s
    → Leads l m (λ r m. TakesLine r line m) → length line ≤ longest_line → Tells (asks a n line) a b n kind text h h' → Gathers v v' q q' text → n ≡ s.lines + 1
    → Ran k m w v' q' h0 h' b (counted s kind)
ran_more None l m w v v' q q' h0 h h' a b s kind text line n p take short tells g e = tt
ran_more (Some i) None m w v v' q q' h0 h h' a b s kind text line n p take short tells g e = absurd p
ran_more (Some i) (Some r) None w v v' q q' h0 h h' a b s kind text line n p take short tells g e = take
ran_more (Some i) (Some r) (Some x) w v v' q q' h0 h h' a b s kind text line n p take short tells g e =
    more i r x w v v' q q' text h0 h h' a b s kind line n p take short tells g e

-- ---- the begin and the end

nothing_run : (i : List ℕ) (w : Option (List ℕ)) (h : List Record) → Progress i i w w [] h h V1 (record { lines = 0; records = 0; bad = 0 })
nothing_run i w h = record {
  lines = [];
  outcomes = [];
  cut = refl;
  of_lines = refl;
  sent = [];
  text = appends_nothing w;
  sent_is = refl;
  version_is = refl;
  grows = ([], sym (append-nil h), refl);
  tally = record { lines = refl; records = refl; bad = refl };
  fit = tt;
  ended = inl refl;
}

pub ran_nothing : (k w : Option (List ℕ)) (us q : List ℕ) (h : List Record) (a : Version) → us ≡ [] → q ≡ [] → a ≡ V1 → Ran k (prepend_known us k) w w q h h a (record { lines = 0; records = 0; bad = 0 })
ran_nothing None w us q h a e g f = tt
ran_nothing (Some i) w us q h a e g f = let same : us ++ i ≡ i = ap (λ x. x ++ i) e in rw (same, f, g) (nothing_run i w h)

whole : (i r : List ℕ) (w v : Option (List ℕ)) (h0 h : List Record) (a : Version) (s : Summary) → Progress i r w v [] h0 h a s → r ≡ [] → Whole i w v h0 h s
whole i r w v h0 h a s p e =
    let all : lines_of i ≡ p.lines = p.cut ∙ ap (λ x. p.lines ++ lines_of x) e ∙ append-nil p.lines in
    record {
      outcomes = p.outcomes;
      of_lines = rw all p.of_lines;
      text = all_sent i r w v h0 h a s p;
      grows = p.grows;
      tally = p.tally;
      fit = rw all p.fit;
    }

pub ran_whole : (k l m w v : Option (List ℕ)) (q : List ℕ) (h0 h : List Record) (a : Version) (s : Summary) → Ran k l w v q h0 h a s → q ≡ [] → Leads l m (λ xs ys. (xs ≡ []) × (ys ≡ []))
    → IfSome k (λ i. Whole i w v h0 h s)
ran_whole None l m w v q h0 h a s p none e = tt
ran_whole (Some i) None m w v q h0 h a s p none e = absurd p
ran_whole (Some i) (Some r) None w v q h0 h a s p none e = absurd e
ran_whole (Some i) (Some r) (Some y) w v q h0 h a s p none e = whole i r w v h0 h a s (rw none at p) e.0
