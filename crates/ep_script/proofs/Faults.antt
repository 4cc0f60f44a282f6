-- What stands written where a run stopped.
use Rattle.std.proofs.Common.{Bool, IfSome, List, None, Option, Some, [], ap, append-nil, append_assoc, arith, drop, if◌then◌else◌, false, inl, inr, length, refl, sym, take, true, ℕ, ◌+◌, ◌++◌, ◌<◌, ◌==◌, ◌≡◌, ◌≤◌, ◌∙◌, ◌∷◌, ◌⊎◌}
use Rattle.std.proofs.Common.{length-append, length-drop, ◌≢◌}
use Rattle.std.proofs.lemmas.List.{take-append-drop}
use Rattle.std.specs.Io.KnownBytes.{prepend_known}
use Rattle.ep_base.specs.declared.record.Record.{Record}
use Rattle.ep_script.specs.declared.fault.ScriptFault.{ScriptFault}
use Rattle.ep_script.specs.declared.fault.ScriptFault.TheVariants as fault
use Rattle.ep_script.specs.declared.summary.Summary.{Summary}
use Rattle.ep_version.specs.declared.version.Version.{Version}
use Rattle.ep_version.specs.declared.version.Version.TheVariants.{V1}
use Rattle.ep_script.specs.Known.{Leads}
use Rattle.ep_script.specs.Lines.{IsPlain, joined, lines_of, longest_line, most_lines, onto_first}
use Rattle.ep_script.specs.Outcome.{Broken, Cut, Faulted, GrowsBeyond, IsHeld, Stopped}
use Rattle.ep_script.specs.Steps.{AnswerFault, Becomes, Behind, IsTooLong, LineFault, MayGain, Misses, MissesOf, TakesLine}
use Rattle.ep_script.specs.Transcript.{Asked, Grows, Outcome, asks, said, transcript, version_after}
use Rattle.ep_script.proofs.Lines.{long_line}
use Rattle.ep_script.proofs.RunLemmas.{Progress, Ran, all_sent, ran_nothing, ran_written, takes_first}
use Rattle.ep_script.proofs.TallyLemmas.{are_more, as_many, gains_of, grows_more, transcript_more}
use Rattle.ep_script.proofs.WriterLemmas.{appends_more, none_behind}

-- ---- no line was answered in part

beyond : (start history after : List Record) (outcomes : List Outcome) (most : ℕ) → Grows start history outcomes → (gained : List Record) → after ≡ history ++ gained → length gained ≤ most
    → GrowsBeyond start after outcomes most
beyond start history after outcomes most g gained e few = record {
  gained = g.0;
  unanswered = gained;
  history_is = e ∙ ap (λ x. x ++ gained) g.1 ∙ append_assoc start g.0 gained;
  of_lines = g.2;
  few = few;
}

stop : (i r : List ℕ) (w v : Option (List ℕ)) (h0 h k : List Record) (u : Version) (s : Summary) (most : ℕ) → Progress i r w v [] h0 h u s → (gained : List Record) → k ≡ h ++ gained → length gained ≤ most
    → Stopped i w v h0 k most (lines_of r)
stop i r w v h0 h k u s most p gained e few = record {
  lines = p.lines;
  outcomes = p.outcomes;
  cut = p.cut;
  of_lines = p.of_lines;
  text = all_sent i r w v h0 h u s p;
  grows = beyond h0 h k p.outcomes most p.grows gained e few;
  fit = p.fit;
}

still : (i r : List ℕ) (w v : Option (List ℕ)) (h0 h : List Record) (u : Version) (s : Summary) → Progress i r w v [] h0 h u s → Stopped i w v h0 h 0 (lines_of r)
still i r w v h0 h u s p = stop i r w v h0 h h u s 0 p [] (sym (append-nil h)) (omega arith)

counts : (i r : List ℕ) (w v : Option (List ℕ)) (h0 h : List Record) (u : Version) (s : Summary) (p : Progress i r w v [] h0 h u s) → length p.lines ≡ s.lines
counts i r w v h0 h u s p = sym (as_many p.outcomes p.lines p.of_lines) ∙ sym p.tally.lines

-- a line follows, which was not answered
follows : (i r : List ℕ) (w v : Option (List ℕ)) (h0 h : List Record) (u : Version) (s : Summary) (l : List ℕ) (ls : List (List ℕ)) → Progress i r w v [] h0 h u s → lines_of r ≡ l ∷ ls
    → (stopped : Stopped i w v h0 h 0 (l ∷ ls)) × (length stopped.lines ≡ s.lines)
unfolding still stop
follows i r w v h0 h u s l ls p e = rw (← e) (still i r w v h0 h u s p, counts i r w v h0 h u s p)

kept_memory : (room : ℕ) (i r : List ℕ) (w v : Option (List ℕ)) (h0 h k : List Record) (u : Version) (s : Summary) → Progress i r w v [] h0 h u s → MayGain h k → Faulted room fault.Memory i w v h0 k
kept_memory room i r w v h0 h k u s p g = (lines_of r, stop i r w v h0 h k u s 1 p g.0 g.1 g.2)

pub memory_fault : (room : ℕ) (k l w v : Option (List ℕ)) (h0 h h' : List Record) (u : Version) (s : Summary) → Ran k l w v [] h0 h u s → MayGain h h'
    → IfSome k (λ i. Faulted room fault.Memory i w v h0 h')
memory_fault room None l w v h0 h h' u s p g = tt
memory_fault room (Some i) None w v h0 h h' u s p g = absurd p
memory_fault room (Some i) (Some r) w v h0 h h' u s p g = kept_memory room i r w v h0 h h' u s p g

pub gains_none : (h : List Record) → MayGain h h
gains_none h = ([], sym (append-nil h), omega arith)

pub memory_at_once : (room : ℕ) (k w : Option (List ℕ)) (h : List Record) → IfSome k (λ i. Faulted room fault.Memory i w w h h)
memory_at_once room k w h = memory_fault room k (prepend_known [] k) w w h h h V1 (record { lines = 0; records = 0; bad = 0 }) (ran_nothing k w [] [] h V1 refl refl refl) (gains_none h)

pub read_fault : (room : ℕ) (k l w v : Option (List ℕ)) (h0 h : List Record) (u : Version) (s : Summary) → Ran k l w v [] h0 h u s → IfSome k (λ i. Faulted room fault.Read i w v h0 h)
read_fault room None l w v h0 h u s p = tt
read_fault room (Some i) None w v h0 h u s p = absurd p
read_fault room (Some i) (Some r) w v h0 h u s p = (lines_of r, still i r w v h0 h u s p)

-- ---- the next line is too long, or one too many

from_front : (most : ℕ) (front r rest : List ℕ) → IsPlain front → most < length front → r ≡ front ++ rest → (l : List ℕ) × (ls : List (List ℕ)) × (most < length l) × (lines_of r ≡ l ∷ ls)
from_front most [] r rest plain long e = absurd (omega arith)
from_front most (x ∷ f) r rest plain long e =
    let m = long_line x f rest plain in
    (m.0, m.1, omega (arith, long, m.2), ap lines_of e ∙ m.3)

pub first_too_long : (most : ℕ) (r : List ℕ) → IsTooLong most r → (l : List ℕ) × (ls : List (List ℕ)) × (most < length l) × (lines_of r ≡ l ∷ ls)
first_too_long most r h = from_front most h.front r h.rest h.plain h.long h.cut

line_fault : (room : ℕ) (k l w v : Option (List ℕ)) (h0 h : List Record) (u : Version) (s : Summary) (n : ℕ) → Ran k l w v [] h0 h u s → n ≡ s.lines + 1 → IfSome l (λ r. IsTooLong longest_line r)
    → IfSome k (λ i. Faulted room (fault.Line n) i w v h0 h)
line_fault room None l w v h0 h u s n p e q = tt
line_fault room (Some i) None w v h0 h u s n p e q = absurd p
line_fault room (Some i) (Some r) w v h0 h u s n p e q =
    let first = first_too_long longest_line r q in
    let f = follows i r w v h0 h u s first.0 first.1 p first.3 in
    (first.0, first.1, f.0, e ∙ ap (λ x. x + 1) (sym f.1), first.2)

onto : (x : ℕ) (ls : List (List ℕ)) → (l : List ℕ) × (more : List (List ℕ)) × (onto_first x ls ≡ l ∷ more)
onto x [] = (x ∷ [], [], refl)
onto x (l ∷ ls) = (x ∷ l, ls, refl)

begun : (b : Bool) (x : ℕ) (ls : List (List ℕ)) → (l : List ℕ) × (more : List (List ℕ)) × ((if b then [] ∷ ls else onto_first x ls) ≡ l ∷ more)
begun true x ls = ([], ls, refl)
begun false x ls = onto x ls

some_line : (r us m : List ℕ) → r ≡ us ++ m → 0 < length us → (l : List ℕ) × (ls : List (List ℕ)) × (lines_of r ≡ l ∷ ls)
some_line r [] m e h = absurd (omega (arith, h))
some_line r (x ∷ us) m e h =
    let first = begun (x == 10) x (lines_of (us ++ m)) in
    (first.0, first.1, ap lines_of e ∙ first.2)

pub lines_fault : (room : ℕ) (k l m w v : Option (List ℕ)) (us : List ℕ) (h0 h : List Record) (u : Version) (s : Summary) → Ran k l w v [] h0 h u s → s.lines ≡ most_lines
    → Leads l (prepend_known us m) (λ xs ys. xs ≡ ys) → 0 < length us → IfSome k (λ i. Faulted room fault.Lines i w v h0 h)
lines_fault room None l m w v us h0 h u s p n q more = tt
lines_fault room (Some i) None m w v us h0 h u s p n q more = absurd p
lines_fault room (Some i) (Some r) None w v us h0 h u s p n q more = absurd q
lines_fault room (Some i) (Some r) (Some y) w v us h0 h u s p n q more =
    let first = some_line r us y q more in
    let f = follows i r w v h0 h u s first.0 first.1 p first.2 in
    (first.0, first.1, f.0, f.1 ∙ n)

-- ---- what was read

all_lines : (P : List ℕ → Type 0) (i r s part : List ℕ) (ls : List (List ℕ)) → (i ≡ joined ls ++ r) ⊎ (r ≡ []) → P part → r ≡ part ++ s
    → ((x : List ℕ) × P x × (i ≡ joined ls ++ (x ++ s))) ⊎ (lines_of r ≡ [])
all_lines P i r s part ls (inl e) plain is = inl (part, plain, e ∙ ap (λ x. joined ls ++ x) is)
all_lines P i r s part ls (inr e) plain is = inr (ap lines_of e)

cut_at : (P : List ℕ → Type 0) (most : ℕ) (i r y : List ℕ) (w v : Option (List ℕ)) (h0 h k : List Record) (u : Version) (s : Summary) → Progress i r w v [] h0 h u s → Behind P r y
    → (gained : List Record) → k ≡ h ++ gained → length gained ≤ most → Cut P most i y w v h0 k
unfolding stop
cut_at P most i r y w v h0 h k u s p q gained e few = record {
  left = lines_of r;
  stopped = stop i r w v h0 h k u s most p gained e few;
  all = all_lines P i r y q.0 p.lines p.ended q.1 q.2;
}

pub read_cut : (k l m w v : Option (List ℕ)) (h0 h : List Record) (u : Version) (s : Summary) → Ran k l w v [] h0 h u s → Leads l m (λ xs ys. Behind IsPlain xs ys)
    → Leads k m (λ i r. Cut IsPlain 0 i r w v h0 h)
read_cut None l m w v h0 h u s p q = tt
read_cut (Some i) None m w v h0 h u s p q = absurd p
read_cut (Some i) (Some r) None w v h0 h u s p q = q
read_cut (Some i) (Some r) (Some y) w v h0 h u s p q = cut_at IsPlain 0 i r y w v h0 h h u s p q [] (sym (append-nil h)) (omega arith)

pub memory_cut : (k l m w v : Option (List ℕ)) (h0 h h' : List Record) (u : Version) (s : Summary) → Ran k l w v [] h0 h u s → Leads l m (λ xs ys. Behind IsHeld xs ys) → MayGain h h'
    → Leads k m (λ i r. Cut IsHeld 1 i r w v h0 h')
memory_cut None l m w v h0 h h' u s p q g = tt
memory_cut (Some i) None m w v h0 h h' u s p q g = absurd p
memory_cut (Some i) (Some r) None w v h0 h h' u s p q g = q
memory_cut (Some i) (Some r) (Some y) w v h0 h h' u s p q g = cut_at IsHeld 1 i r y w v h0 h h' u s p q g.0 g.1 g.2

nothing_behind : (m : Option (List ℕ)) → Leads (prepend_known [] m) m (λ xs ys. Behind IsHeld xs ys)
nothing_behind None = tt
nothing_behind (Some xs) = ([], omega arith, refl)

pub cut_at_once : (k w : Option (List ℕ)) (h : List Record) → Leads k k (λ i r. Cut IsHeld 1 i r w w h h)
cut_at_once k w h = memory_cut k (prepend_known [] k) k w w h h h V1 (record { lines = 0; records = 0; bad = 0 }) (ran_nothing k w [] [] h V1 refl refl refl) (nothing_behind k) (gains_none h)

pub no_part : (l m : Option (List ℕ)) → Leads l m (λ xs ys. xs ≡ ys) → Leads l m (λ xs ys. Behind IsPlain xs ys)
no_part None m e = tt
no_part (Some xs) None e = e
no_part (Some xs) (Some ys) e = ([], tt, e)

-- ---- answers were not written

split_last : (os : List Outcome) → os ≢ [] → (front : List Outcome) × (last : Outcome) × (os ≡ front ++ last ∷ [])
split_last [] h = absurd (h refl)
split_last (o ∷ []) h = ([], o, refl)
split_last (o ∷ p ∷ os) h =
    let rest = split_last (p ∷ os) (λ e. cc) in
    (o ∷ rest.0, rest.1, ap (λ x. o ∷ x) rest.2)

waited_for : (os : List Outcome) (sent q : List ℕ) → transcript V1 1 os ≡ sent ++ q → q ≢ [] → os ≢ []
waited_for os sent q e h f = h (none_behind sent q (ap (λ x. transcript V1 1 x) (sym f) ∙ e))

-- what waited, of which there was any
held : (room : ℕ) (i r : List ℕ) (w v v' : Option (List ℕ)) (q : List ℕ) (h0 h : List Record) (u : Version) (s : Summary) → Progress i r w v q h0 h u s → length q ≤ room → MissesOf v v' q
    → Broken room i w v' h0 h
held room i r w v v' q h0 h u s p few miss =
    let n = miss.1.0 in
    let parts = split_last p.outcomes (waited_for p.outcomes p.sent q p.sent_is miss.0) in
    record {
      lines = p.lines;
      left = lines_of r;
      outcomes = parts.0;
      last = parts.1;
      cut = p.cut;
      of_lines = rw parts.2 at p.of_lines;
      part = p.sent ++ take n q;
      unwritten = drop n q;
      text_is = ap (λ x. transcript V1 1 x) (sym parts.2) ∙ p.sent_is ∙ ap (λ x. p.sent ++ x) (sym (take-append-drop n q)) ∙ sym (append_assoc p.sent (take n q) (drop n q));
      few = omega (arith, few, length-drop n q);
      text = appends_more w v v' p.sent (take n q) p.text miss.1.2;
      grows = rw parts.2 at p.grows;
    }

pub held_fault : (room : ℕ) (k l w v v' : Option (List ℕ)) (q : List ℕ) (h0 h : List Record) (u : Version) (s : Summary) → Ran k l w v q h0 h u s → length q ≤ room → MissesOf v v' q
    → IfSome k (λ i. Faulted room fault.Write i w v' h0 h)
held_fault room None l w v v' q h0 h u s p few miss = tt
held_fault room (Some i) None w v v' q h0 h u s p few miss = absurd p
held_fault room (Some i) (Some r) w v v' q h0 h u s p few miss = held room i r w v v' q h0 h u s p few miss

pub out_fault : (room : ℕ) (k l w v v' : Option (List ℕ)) (q : List ℕ) (h0 h : List Record) (u : Version) (s : Summary) (X : Type 0) (e : ScriptFault) → Ran k l w v q h0 h u s → length q ≤ room
    → (e ≡ fault.Write) × X × MissesOf v v' q → IfSome k (λ i. Faulted room e i w v' h0 h)
out_fault room k l w v v' q h0 h u s X e p few f = rw f.0 (held_fault room k l w v v' q h0 h u s p few f.2)

pub only_written : (Y X Z : Type 0) (e f : ScriptFault) → (e ≡ fault.Write) × X × Z → e ≡ f → (fault.Write ≡ f → ⊥) → Y
only_written Y X Z e f w is other = absurd (other (sym w.0 ∙ is))

few_left : (n : ℕ) (q text : List ℕ) (room : ℕ) → length q ≤ room → length (drop n (q ++ text)) ≤ room + length text
few_left n q text room few = omega (arith, few, length-drop n (q ++ text), length-append q text)

-- what waited, and the answer to one line more
broken : (room : ℕ) (i r m : List ℕ) (w v v' : Option (List ℕ)) (q : List ℕ) (h0 h h' : List Record) (u : Version) (s : Summary) (line : List ℕ) (n : ℕ) → Progress i r w v q h0 h u s
    → TakesLine r line m → (b : Becomes (asks u n line) h h') → n ≡ s.lines + 1 → length q ≤ room → Misses v v' q (said u n b.outcome) → Broken room i w v' h0 h'
broken room i r m w v v' q h0 h h' u s line n p takes b e few miss =
    let number : n ≡ length p.outcomes + 1 = omega (arith, p.tally.lines) in
    let o = b.outcome in
    let j = miss.0 in
    let text = said u n o in
    let says : said (version_after V1 p.outcomes) n o ≡ text = ap (λ y. said y n o) (sym p.version_is) in
    let says_last : said (version_after V1 p.outcomes) (length p.outcomes + 1) o ≡ text = ap (λ y. said (version_after V1 p.outcomes) y o) (sym number) ∙ says in
    record {
      lines = p.lines ++ line ∷ [];
      left = lines_of m;
      outcomes = p.outcomes;
      last = o;
      cut = p.cut ∙ ap (λ ls. p.lines ++ ls) (takes_first r line m takes) ∙ sym (append_assoc p.lines (line ∷ []) (lines_of m));
      of_lines = are_more p.outcomes p.lines o line n p.of_lines (omega (arith, number)) (b.of_line ∙ ap (λ y. asks y n line) p.version_is);
      part = p.sent ++ take j (q ++ text);
      unwritten = drop j (q ++ text);
      text_is = transcript_more V1 1 p.outcomes o n (omega (arith, number)) ∙ ap (λ x. transcript V1 1 p.outcomes ++ x) says ∙ ap (λ x. x ++ text) p.sent_is ∙ append_assoc p.sent q text
          ∙ ap (λ x. p.sent ++ x) (sym (take-append-drop j (q ++ text))) ∙ sym (append_assoc p.sent (take j (q ++ text)) (drop j (q ++ text)));
      few = rw says_last (few_left j q text room few);
      text = appends_more w v v' p.sent (take j (q ++ text)) p.text miss.1;
      grows = grows_more h0 h h' p.outcomes o p.grows b.grows;
    }

write_fault : (room : ℕ) (k l m w v v' : Option (List ℕ)) (q : List ℕ) (h0 h h' : List Record) (u : Version) (s : Summary) (line : List ℕ) (n : ℕ) → Ran k l w v q h0 h u s
    → Leads l m (λ r m. TakesLine r line m) → (b : Becomes (asks u n line) h h') → n ≡ s.lines + 1 → length q ≤ room → Misses v v' q (said u n b.outcome)
    → IfSome k (λ i. Faulted room fault.Write i w v' h0 h')
write_fault room None l m w v v' q h0 h h' u s line n p takes b e few miss = tt
write_fault room (Some i) None m w v v' q h0 h h' u s line n p takes b e few miss = absurd p
write_fault room (Some i) (Some r) None w v v' q h0 h h' u s line n p takes b e few miss = absurd takes
write_fault room (Some i) (Some r) (Some y) w v v' q h0 h h' u s line n p takes b e few miss =
    broken room i r y w v v' q h0 h h' u s line n p takes b e few miss

-- ---- the next line did not come

pub come_fault : (room : ℕ) (k l m w v v' : Option (List ℕ)) (q : List ℕ) (h0 h : List Record) (u : Version) (s : Summary) (n : ℕ) (X Y : Type 0) (e : ScriptFault) → Ran k l w v q h0 h u s
    → n ≡ s.lines + 1 → length q ≤ room → LineFault e n X Y l m v v' q → IfSome k (λ i. Faulted room e i w v' h0 h)
come_fault room k l m w v v' q h0 h u s n X Y fault.Memory p e few f = memory_fault room k l w v' h0 h h u s (ran_written k l w v v' q h0 h u s p f.1) (gains_none h)
come_fault room k l m w v v' q h0 h u s n X Y fault.Read p e few f = read_fault room k l w v' h0 h u s (ran_written k l w v v' q h0 h u s p f.2)
come_fault room k l m w v v' q h0 h u s n X Y (fault.Line x) p e few f = line_fault room k l w v' h0 h u s x (ran_written k l w v v' q h0 h u s p f.2) (f.0 ∙ e) f.1
come_fault room k l m w v v' q h0 h u s n X Y fault.Write p e few f = held_fault room k l w v v' q h0 h u s p few f.1
come_fault room k l m w v v' q h0 h u s n X Y fault.Lines p e few f = absurd f

pub come_read : (k l m w v v' : Option (List ℕ)) (q : List ℕ) (h0 h : List Record) (u : Version) (s : Summary) (n : ℕ) (X Y : Type 0) (e : ScriptFault) → Ran k l w v q h0 h u s
    → LineFault e n X Y l m v v' q → e ≡ fault.Read → Leads k m (λ i r. Cut IsPlain 0 i r w v' h0 h)
come_read k l m w v v' q h0 h u s n X Y fault.Read p f is = read_cut k l m w v' h0 h u s (ran_written k l w v v' q h0 h u s p f.2) f.0
come_read k l m w v v' q h0 h u s n X Y fault.Memory p f is = absurd (cc)
come_read k l m w v v' q h0 h u s n X Y (fault.Line x) p f is = absurd (cc)
come_read k l m w v v' q h0 h u s n X Y fault.Write p f is = absurd (cc)
come_read k l m w v v' q h0 h u s n X Y fault.Lines p f is = absurd (cc)

pub come_memory : (k l m w v v' : Option (List ℕ)) (q : List ℕ) (h0 h : List Record) (u : Version) (s : Summary) (n : ℕ) (X Y : Type 0) (e : ScriptFault) → Ran k l w v q h0 h u s
    → LineFault e n X Y l m v v' q → e ≡ fault.Memory → Leads k m (λ i r. Cut IsHeld 1 i r w v' h0 h)
come_memory k l m w v v' q h0 h u s n X Y fault.Memory p f is = memory_cut k l m w v' h0 h h u s (ran_written k l w v v' q h0 h u s p f.1) f.0 (gains_none h)
come_memory k l m w v v' q h0 h u s n X Y fault.Read p f is = absurd (cc)
come_memory k l m w v v' q h0 h u s n X Y (fault.Line x) p f is = absurd (cc)
come_memory k l m w v v' q h0 h u s n X Y fault.Write p f is = absurd (cc)
come_memory k l m w v v' q h0 h u s n X Y fault.Lines p f is = absurd (cc)

-- who failed
pub come_unread : (l m v v' : Option (List ℕ)) (q : List ℕ) (n : ℕ) (X Y : Type 0) (e : ScriptFault) → LineFault e n X Y l m v v' q → e ≡ fault.Read → X
come_unread l m v v' q n X Y fault.Read f is = f.1
come_unread l m v v' q n X Y fault.Memory f is = absurd (cc)
come_unread l m v v' q n X Y (fault.Line x) f is = absurd (cc)
come_unread l m v v' q n X Y fault.Write f is = absurd (cc)
come_unread l m v v' q n X Y fault.Lines f is = absurd (cc)

pub come_unwritten : (l m v v' : Option (List ℕ)) (q : List ℕ) (n : ℕ) (X Y : Type 0) (e : ScriptFault) → LineFault e n X Y l m v v' q → e ≡ fault.Write → Y
come_unwritten l m v v' q n X Y fault.Write f is = f.0
come_unwritten l m v v' q n X Y fault.Memory f is = absurd (cc)
come_unwritten l m v v' q n X Y (fault.Line x) f is = absurd (cc)
come_unwritten l m v v' q n X Y fault.Read f is = absurd (cc)
come_unwritten l m v v' q n X Y fault.Lines f is = absurd (cc)

-- ---- its answer was not told

pub answer_fault : (room : ℕ) (k l m w v v' : Option (List ℕ)) (q : List ℕ) (h0 h h' : List Record) (u : Version) (s : Summary) (line : List ℕ) (n : ℕ) (e : ScriptFault) → Ran k l w v q h0 h u s
    → Leads l m (λ r m. TakesLine r line m) → n ≡ s.lines + 1 → length q ≤ room → AnswerFault e (asks u n line) u n v v' q h h' → IfSome k (λ i. Faulted room e i w v' h0 h')
answer_fault room k l m w v v' q h0 h h' u s line n fault.Memory p takes e few a =
    memory_fault room k l w v' h0 h h' u s (ran_written k l w v v' q h0 h u s p a.0) (gains_of (asks u n line) h h' a.1)
answer_fault room k l m w v v' q h0 h h' u s line n fault.Write p takes e few (inl a) = rw a.0 (held_fault room k l w v v' q h0 h u s p few a.1)
answer_fault room k l m w v v' q h0 h h' u s line n fault.Write p takes e few (inr a) = write_fault room k l m w v v' q h0 h h' u s line n p takes a.0 e few a.1
answer_fault room k l m w v v' q h0 h h' u s line n fault.Read p takes e few a = absurd a
answer_fault room k l m w v v' q h0 h h' u s line n fault.Lines p takes e few a = absurd a
answer_fault room k l m w v v' q h0 h h' u s line n (fault.Line x) p takes e few a = absurd a

pub answer_cut : (k l m w v v' : Option (List ℕ)) (q : List ℕ) (h0 h h' : List Record) (u : Version) (s : Summary) (c : Asked) (d : Version) (number : ℕ) (e : ScriptFault) → Ran k l w v q h0 h u s
    → Leads l m (λ xs ys. Behind IsHeld xs ys) → AnswerFault e c d number v v' q h h' → e ≡ fault.Memory → Leads k m (λ i r. Cut IsHeld 1 i r w v' h0 h')
answer_cut k l m w v v' q h0 h h' u s c d number fault.Memory p b a e = memory_cut k l m w v' h0 h h' u s (ran_written k l w v v' q h0 h u s p a.0) b (gains_of c h h' a.1)
answer_cut k l m w v v' q h0 h h' u s c d number fault.Write p b a e = absurd (cc)
answer_cut k l m w v v' q h0 h h' u s c d number fault.Read p b a e = absurd a
answer_cut k l m w v v' q h0 h h' u s c d number fault.Lines p b a e = absurd a
answer_cut k l m w v v' q h0 h h' u s c d number (fault.Line x) p b a e = absurd a

pub never_read : (X : Type 0) (e : ScriptFault) (c : Asked) (d : Version) (n : ℕ) (old new : Option (List ℕ)) (q : List ℕ) (h k : List Record) → AnswerFault e c d n old new q h k → e ≡ fault.Read → X
never_read X fault.Memory c d n old new q h k a is = absurd (cc)
never_read X fault.Write c d n old new q h k a is = absurd (cc)
never_read X fault.Read c d n old new q h k a is = absurd a
never_read X (fault.Line x) c d n old new q h k a is = absurd a
never_read X fault.Lines c d n old new q h k a is = absurd a

pub end_fault : (room : ℕ) (k l w v : Option (List ℕ)) (h0 h : List Record) (u : Version) (s : Summary) (e : ScriptFault) → e ≡ fault.Read → Ran k l w v [] h0 h u s → IfSome k (λ i. Faulted room e i w v h0 h)
end_fault room k l w v h0 h u s e q p = rw q (read_fault room k l w v h0 h u s p)
