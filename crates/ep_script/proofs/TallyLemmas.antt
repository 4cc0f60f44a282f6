-- One line more: its text, its records, its counts.
use Rattle.std.proofs.Common.{Bool, List, [], ap, append-nil, append_assoc, arith, false, if◌then◌else◌, inl, inr, length, length-append, map, refl, sym, true, ℕ, ◌+◌, ◌++◌, ◌≡◌, ◌∙◌, ◌∷◌}
use Rattle.std.proofs.lemmas.List.{length-map, map-append}
use Rattle.ep_base.specs.declared.record.Record.{Record}
use Rattle.ep_calls.specs.Acts.{is_no_memory}
use Rattle.ep_script.specs.declared.summary.LineKind.{LineKind}
use Rattle.ep_script.specs.declared.summary.LineKind.TheVariants as kind
use Rattle.ep_script.specs.declared.summary.Summary.{Summary}
use Rattle.ep_version.specs.declared.version.Version.{Version}
use Rattle.ep_version.specs.declared.version.Version.TheVariants.{V1}
use Rattle.ep_script.specs.Lines.{AllFit, longest_line}
use Rattle.std.proofs.Common.{◌≤◌}
use Rattle.ep_script.specs.Outcome.{Gains, Tallies}
use Rattle.ep_script.specs.Steps.{MayBecome, MayGain, kind_of}
use Rattle.ep_script.specs.Tally.{counted}
use Rattle.ep_script.specs.Transcript.{AreOf, Asked, Exchange, Grows, Outcome, answered, asked_in, asks, bad, bad_line_count, head, readings, recorded, records, said, then_in, told, transcript, version_after}

-- ---- the version

pub version_more : (v : Version) (os : List Outcome) (o : Outcome) → version_after v (os ++ o ∷ []) ≡ then_in (version_after v os) (asked_in o)
version_more v [] o = refl
version_more v (p ∷ os) o = version_more (then_in v (asked_in p)) os o

-- ---- one line more

pub transcript_more : (v : Version) (n : ℕ) (os : List Outcome) (o : Outcome) (k : ℕ) → n + length os ≡ k → transcript v n (os ++ o ∷ []) ≡ transcript v n os ++ said (version_after v os) k o
transcript_more v n [] o k e = let same : k ≡ n = omega arith in append-nil (said v n o) ∙ ap (λ m. said v m o) (sym same)
transcript_more v n (p ∷ os) o k e =
    let next : n + 1 + length os ≡ k = omega arith in
    let w = then_in v (asked_in p) in
    ap (λ x. said v n p ++ x) (transcript_more w (n + 1) os o k next) ∙ sym (append_assoc (said v n p) (transcript w (n + 1) os) (said (version_after w os) k o))

pub records_more : (os : List Outcome) (o : Outcome) → records (os ++ o ∷ []) ≡ records os ++ recorded o
records_more [] o = append-nil (recorded o)
records_more (p ∷ os) o = ap (λ x. recorded p ++ x) (records_more os o) ∙ sym (append_assoc (recorded p) (records os) (recorded o))

pub bad_more : (os : List Outcome) (o : Outcome) → bad_line_count (os ++ o ∷ []) ≡ bad_line_count os + bad_line_count (o ∷ [])
bad_more [] o = omega arith
bad_more (bad ∷ os) o = omega (arith, bad_more os o)
bad_more (head v ∷ os) o = bad_more os o
bad_more (answered x ∷ os) o = bad_more os o

first_same : (a b : Asked) (xs ys : List Asked) → a ∷ xs ≡ b ∷ ys → (a ≡ b) × (xs ≡ ys)
first_same a b xs ys e = (cc, cc)

read_more : (v : Version) (n : ℕ) (os : List Outcome) (ls : List (List ℕ)) (o : Outcome) (l : List ℕ) (k : ℕ) → map asked_in os ≡ readings v n ls → n + length os ≡ k
    → asked_in o ≡ asks (version_after v os) k l → map asked_in (os ++ o ∷ []) ≡ readings v n (ls ++ l ∷ [])
read_more v n [] [] o l k e q f = let same : k ≡ n = omega arith in ap (λ a. a ∷ []) (f ∙ ap (λ m. asks v m l) same)
read_more v n [] (m ∷ ls) o l k e q f = absurd (cc)
read_more v n (p ∷ os) [] o l k e q f = absurd (cc)
read_more v n (p ∷ os) (m ∷ ls) o l k e q f =
    let same = first_same (asked_in p) (asks v n m) (map asked_in os) (readings (then_in v (asks v n m)) (n + 1) ls) e in
    let next : n + 1 + length os ≡ k = omega arith in
    let rest = same.1 ∙ ap (λ a. readings (then_in v a) (n + 1) ls) (sym same.0) in
    ap (λ x. asked_in p ∷ x) (read_more (then_in v (asked_in p)) (n + 1) os ls o l k rest next f)
    ∙ ap (λ a. a ∷ readings (then_in v a) (n + 1) (ls ++ l ∷ [])) same.0

pub are_more : (os : List Outcome) (ls : List (List ℕ)) (o : Outcome) (l : List ℕ) (k : ℕ) → AreOf os ls → 1 + length os ≡ k → asked_in o ≡ asks (version_after V1 os) k l
    → AreOf (os ++ o ∷ []) (ls ++ l ∷ [])
are_more os ls o l k e q f = read_more V1 1 os ls o l k e q f

length_readings : (v : Version) (n : ℕ) (ls : List (List ℕ)) → length (readings v n ls) ≡ length ls
length_readings v n [] = refl
length_readings v n (l ∷ ls) = omega (arith, length_readings (then_in v (asks v n l)) (n + 1) ls)

pub as_many : (os : List Outcome) (ls : List (List ℕ)) → AreOf os ls → length os ≡ length ls
as_many os ls e = sym (length-map os asked_in) ∙ ap length e ∙ length_readings V1 1 ls

pub grows_more : (a b c : List Record) (os : List Outcome) (o : Outcome) → Grows a b os → Grows b c (o ∷ []) → Grows a c (os ++ o ∷ [])
grows_more a b c os o p q = (
  p.0 ++ q.0,
  q.1 ∙ ap (λ x. x ++ q.0) p.1 ∙ append_assoc a p.0 q.0,
  map-append told p.0 q.0 ∙ ap (λ x. x ++ map told q.0) p.2 ∙ ap (λ x. records os ++ x) (q.2 ∙ append-nil (recorded o)) ∙ sym (records_more os o),
)

-- the counts of one line
pub one_lines : (s : Summary) (k : LineKind) → (counted s k).lines ≡ s.lines + 1
one_lines s kind.Bad = refl
one_lines s kind.Head = refl
one_lines s kind.Unrecorded = refl
one_lines s kind.Recorded = refl

one_bad : (s : Summary) (b : Bool) → (counted s (if b then kind.Unrecorded else kind.Recorded)).bad ≡ s.bad
one_bad s true = refl
one_bad s false = refl

one_record : (s : Summary) (b : Bool) (x : Exchange) → (counted s (if b then kind.Unrecorded else kind.Recorded)).records ≡ s.records + length (if b then [] else x ∷ [])
one_record s true x = omega arith
one_record s false x = omega arith

records_of : (s : Summary) (o : Outcome) → (counted s (kind_of o)).records ≡ s.records + length (recorded o)
records_of s bad = omega arith
records_of s (head v) = omega arith
records_of s (answered x) = one_record s (is_no_memory x.answer) x

bad_of : (s : Summary) (o : Outcome) → (counted s (kind_of o)).bad ≡ s.bad + bad_line_count (o ∷ [])
bad_of s bad = omega arith
bad_of s (head v) = omega arith
bad_of s (answered x) = omega (arith, one_bad s (is_no_memory x.answer))

pub gains_more : (a b c : List Record) (s : Summary) (k : LineKind) (o : Outcome) → Gains a b s.records → Grows b c (o ∷ []) → k ≡ kind_of o → Gains a c (counted s k).records
gains_more a b c s k o p q e = rw e (
  p.0 ++ q.0,
  q.1 ∙ ap (λ x. x ++ q.0) p.1 ∙ append_assoc a p.0 q.0,
  omega (arith, length-append p.0 q.0, length-map q.0 told, ap length q.2, ap length (append-nil (recorded o)), p.2, records_of s o),
)

pub tally_more : (s : Summary) (k : LineKind) (os : List Outcome) (o : Outcome) → Tallies s os → k ≡ kind_of o → Tallies (counted s k) (os ++ o ∷ [])
tally_more s k os o t e = rw e (record {
  lines = one_lines s (kind_of o) ∙ omega (arith, t.lines, length-append os (o ∷ []));
  records = records_of s o ∙ omega (arith, t.records, length-append (records os) (recorded o), ap length (records_more os o));
  bad = bad_of s o ∙ omega (arith, t.bad, bad_more os o);
})

pub fit_more : (ls : List (List ℕ)) (l : List ℕ) → AllFit ls → length l ≤ longest_line → AllFit (ls ++ l ∷ [])
fit_more [] l p q = (q, tt)
fit_more (k ∷ ls) l p q = (p.0, fit_more ls l p.1 q)

pub few_records : (s : Summary) (k : LineKind) → (counted s k).records ≤ s.records + 1
few_records s kind.Bad = omega arith
few_records s kind.Head = omega arith
few_records s kind.Unrecorded = omega arith
few_records s kind.Recorded = omega arith

pub few_bad : (s : Summary) (k : LineKind) → (counted s k).bad ≤ s.bad + 1
few_bad s kind.Bad = omega arith
few_bad s kind.Head = omega arith
few_bad s kind.Unrecorded = omega arith
few_bad s kind.Recorded = omega arith

-- a line makes one record at most
one_at_most : (b : Bool) (x : Exchange) → length (if b then [] else x ∷ []) ≤ 1
one_at_most true x = omega arith
one_at_most false x = omega arith

recorded_few : (o : Outcome) → length (recorded o) ≤ 1
recorded_few bad = omega arith
recorded_few (head v) = omega arith
recorded_few (answered x) = one_at_most (is_no_memory x.answer) x

pub grown_few : (h h' : List Record) (o : Outcome) (g : Grows h h' (o ∷ [])) → length g.0 ≤ 1
grown_few h h' o g = omega (arith, length-map g.0 told, ap length g.2, ap length (append-nil (recorded o)), recorded_few o)

pub gains_of : (c : Asked) (h h' : List Record) → MayBecome c h h' → MayGain h h'
gains_of c h h' (inl e) = ([], e ∙ sym (append-nil h), omega arith)
gains_of c h h' (inr b) = (b.grows.0, b.grows.1, grown_few h h' b.outcome b.grows)
