-- How far a history was read, line by line.
use Rattle.std.proofs.Common.{All, Err, IfSome, List, None, Option, Result, Some, [], ap, append-nil, append_assoc, arith, inl, inr, length, length-append, map, refl, rules, sym, ℕ, ◌+◌, ◌++◌, ◌≡◌, ◌∙◌, ◌∷◌, ◌⊎◌}
use Rattle.std.proofs.lemmas.List.Elements.{All-append}
use Rattle.std.specs.Io.KnownBytes.{prepend_known}
use Rattle.std.proofs.lemmas.List.{map-append}
use Rattle.ep_base.specs.declared.record.Record.{Record}
use Rattle.ep_history.specs.Records.{line_record}
use Rattle.ep_script.specs.declared.fault.HistoryFault.{HistoryFault}
use Rattle.ep_script.specs.declared.fault.HistoryFault.TheVariants.{Line, Memory, NoRecord, Read}
use Rattle.ep_script.specs.Known.{Leads}
use Rattle.ep_script.specs.Lines.{lines_of}
use Rattle.ep_script.specs.ReadHistory.{AreLinesOf, FitsRecord, IsFirst, IsFirstBad, IsFirstLong, IsNoRecord, IsTooLongForOne, longest_record}
use Rattle.ep_script.specs.Steps.{IsTooLong, TakesLine}
use Rattle.ep_script.proofs.Faults.{first_too_long}
use Rattle.ep_script.proofs.RunLemmas.{takes_first}

-- the first lines are these records, and the rest is left
pub record Reads (input rest : List ℕ) (records : List Record) (done : ℕ) : Type 0 where
  pub lines : List (List ℕ)
  pub cut : lines_of input ≡ lines ++ lines_of rest
  pub of_lines : AreLinesOf records lines
  pub fit : All FitsRecord lines
  pub number : done ≡ length lines

-- where the bytes of the reader are known
abbrev pub HasRead : Option (List ℕ) → Option (List ℕ) → List Record → ℕ → Type 0
HasRead k l records done = Leads k l (λ input rest. Reads input rest records done)

-- ---- what leads on

pub leads_on : (k l m : Option (List ℕ)) (P Q R : List ℕ → List ℕ → Type 0) → Leads k l P → Leads l m Q
    → ((i r q : List ℕ) → P i r → Q r q → R i q) → Leads k m R
leads_on None l m P Q R p q f = tt
leads_on (Some i) None m P Q R p q f = absurd p
leads_on (Some i) (Some r) None P Q R p q f = q
leads_on (Some i) (Some r) (Some s) P Q R p q f = f i r s p q

pub leads_to : (k l : Option (List ℕ)) (P : List ℕ → List ℕ → Type 0) (X Y : List ℕ → Type 0) → Leads k l P → IfSome l Y
    → ((i r : List ℕ) → P i r → Y r → X i) → IfSome k X
leads_to None l P X Y p y f = tt
leads_to (Some i) None P X Y p y f = absurd p
leads_to (Some i) (Some r) P X Y p y f = f i r p y

pub leads_by : (k l m : Option (List ℕ)) (P Q : List ℕ → List ℕ → Type 0) (X : List ℕ → Type 0) → Leads k l P → Leads l m Q
    → ((i r q : List ℕ) → P i r → Q r q → X i) → IfSome k X
leads_by None l m P Q X p q f = tt
leads_by (Some i) None m P Q X p q f = absurd p
leads_by (Some i) (Some r) None P Q X p q f = absurd q
leads_by (Some i) (Some r) (Some s) P Q X p q f = f i r s p q

-- ---- record by record

pub nothing : (i : List ℕ) → Reads i i [] 0
nothing i = record { lines = []; cut = refl; of_lines = refl; fit = search rules; number = refl }

pub nothing_lines : (i : List ℕ) → (nothing i).lines ≡ []
unfolding nothing
nothing_lines i = refl

pub read_nothing : (k : Option (List ℕ)) (us : List ℕ) → us ≡ [] → HasRead k (prepend_known us k) [] 0
read_nothing None us e = tt
read_nothing (Some i) us e = let same : us ++ i ≡ i = ap (λ x. x ++ i) e in rw same (nothing i)

one_fits : (line : List ℕ) → FitsRecord line → All FitsRecord (line ∷ [])
one_fits line h = search (rules, h)

pub more : (i r q line : List ℕ) (records : List Record) (x : Record) (done : ℕ) → Reads i r records done → TakesLine r line q
    → FitsRecord line → line_record line ≡ Some x → Reads i q (records ++ x ∷ []) (done + 1)
more i r q line records x done p takes fits is = record {
  lines = p.lines ++ line ∷ [];
  cut = p.cut ∙ ap (λ ls. p.lines ++ ls) (takes_first r line q takes) ∙ sym (append_assoc p.lines (line ∷ []) (lines_of q));
  of_lines = map-append line_record p.lines (line ∷ []) ∙ ap (λ y. y ++ line_record line ∷ []) p.of_lines ∙ ap (λ y. map (λ r. Some r) records ++ y ∷ []) is
      ∙ sym (map-append (λ r. Some r) records (x ∷ []));
  fit = All-append FitsRecord p.lines (line ∷ []) p.fit (one_fits line fits);
  number = omega (arith, p.number, length-append p.lines (line ∷ []));
}

pub more_lines : (i r q line : List ℕ) (records : List Record) (x : Record) (done : ℕ) (p : Reads i r records done) (takes : TakesLine r line q)
    (fits : FitsRecord line) (is : line_record line ≡ Some x) → (more i r q line records x done p takes fits is).lines ≡ p.lines ++ line ∷ []
unfolding more
more_lines i r q line records x done p takes fits is = refl

pub whole : (i r : List ℕ) (records : List Record) (done : ℕ) (p : Reads i r records done) → r ≡ [] → lines_of i ≡ p.lines
whole i r records done p e = p.cut ∙ ap (λ x. p.lines ++ lines_of x) e ∙ append-nil p.lines

-- the next line is one of which P holds
pub first : (P : List ℕ → Type 0) (i r : List ℕ) (line : List ℕ) (behind : List (List ℕ)) (records : List Record) (done : ℕ) → Reads i r records done
    → lines_of r ≡ line ∷ behind → P line → IsFirst P (done + 1) (lines_of i)
first P i r line behind records done p e holds = record {
  before = p.lines;
  line = line;
  behind = behind;
  records = records;
  cut = p.cut ∙ ap (λ ls. p.lines ++ ls) e;
  number_is = ap (λ n. n + 1) p.number;
  of_lines = p.of_lines;
  fit = p.fit;
  holds = holds;
}

pub bad : (i r q line : List ℕ) (records : List Record) (done : ℕ) → Reads i r records done → TakesLine r line q
    → FitsRecord line → line_record line ≡ None → IsFirstBad (done + 1) (lines_of i)
bad i r q line records done p takes fits none = first IsNoRecord i r line (lines_of q) records done p (takes_first r line q takes) (fits, none)

pub long : (i r : List ℕ) (records : List Record) (done : ℕ) → Reads i r records done → IsTooLong longest_record r → IsFirstLong (done + 1) (lines_of i)
long i r records done p h =
    let f = first_too_long longest_record r h in
    first IsTooLongForOne i r f.0 f.1 records done p f.3 f.2

-- ---- a history read to a list

pub read_more : (k l m : Option (List ℕ)) (line : List ℕ) (records : List Record) (x : Record) (done : ℕ) → HasRead k l records done
    → Leads l m (λ r q. TakesLine r line q) → FitsRecord line → line_record line ≡ Some x → HasRead k m (records ++ x ∷ []) (done + 1)
read_more k l m line records x done p takes fits is =
    leads_on k l m (λ i r. Reads i r records done) (λ r q. TakesLine r line q) (λ i q. Reads i q (records ++ x ∷ []) (done + 1)) p takes
    (λ i r q h t. more i r q line records x done h t fits is)

all_fit : (i r : List ℕ) (records : List Record) (done : ℕ) → Reads i r records done → r ≡ [] → All FitsRecord (lines_of i)
all_fit i r records done p e = rw (whole i r records done p e) p.fit

pub read_fit : (k l m : Option (List ℕ)) (records : List Record) (done : ℕ) → HasRead k l records done → Leads l m (λ xs ys. (xs ≡ []) × (ys ≡ []))
    → IfSome k (λ i. All FitsRecord (lines_of i))
read_fit k l m records done p end =
    leads_by k l m (λ i r. Reads i r records done) (λ xs ys. (xs ≡ []) × (ys ≡ [])) (λ i. All FitsRecord (lines_of i)) p end
    (λ i r q h e. all_fit i r records done h e.0)

pub read_bad : (k l m : Option (List ℕ)) (line : List ℕ) (records : List Record) (done : ℕ) → HasRead k l records done
    → Leads l m (λ r q. TakesLine r line q) → FitsRecord line → line_record line ≡ None → IfSome k (λ i. IsFirstBad (done + 1) (lines_of i))
read_bad k l m line records done p takes fits none =
    leads_by k l m (λ i r. Reads i r records done) (λ r q. TakesLine r line q) (λ i. IsFirstBad (done + 1) (lines_of i)) p takes
    (λ i r q h t. bad i r q line records done h t fits none)

pub read_long : (k l : Option (List ℕ)) (records : List Record) (done : ℕ) → HasRead k l records done
    → IfSome l (λ r. IsTooLong longest_record r) → IfSome k (λ i. IsFirstLong (done + 1) (lines_of i))
read_long k l records done p h =
    leads_to k l (λ i r. Reads i r records done) (λ i. IsFirstLong (done + 1) (lines_of i)) (λ r. IsTooLong longest_record r) p h
    (λ i r q t. long i r records done q t)

-- ---- the faults of a line

-- what a fault of the line of this number says
abbrev pub IsFaultOf : HistoryFault → ℕ → Type 0 → Type 0
IsFaultOf e n R = (e ≡ Memory) ⊎ (((e ≡ Read) × R) ⊎ ((e ≡ NoRecord n) ⊎ (e ≡ Line n)))

no_memory : {T : Type 0} (n : ℕ) → ◌≡◌ {A = Result T HistoryFault} (Err Memory) (Err (NoRecord n)) → ⊥
no_memory n q = cc

no_read : {T : Type 0} (n : ℕ) → ◌≡◌ {A = Result T HistoryFault} (Err Read) (Err (NoRecord n)) → ⊥
no_read n q = cc

no_line : {T : Type 0} (n m : ℕ) → ◌≡◌ {A = Result T HistoryFault} (Err (Line m)) (Err (NoRecord n)) → ⊥
no_line n m q = cc

same_bad : {T : Type 0} (a b : ℕ) → ◌≡◌ {A = Result T HistoryFault} (Err (NoRecord a)) (Err (NoRecord b)) → a ≡ b
same_bad a b q = cc

pub bad_of : {T U : Type 0} (X : ℕ → Type 0) (R : Type 0) (e : HistoryFault) (n number : ℕ) → IsFaultOf e n R
    → (◌≡◌ {A = Result U HistoryFault} (Err e) (Err (NoRecord n)) → X n)
    → ◌≡◌ {A = Result T HistoryFault} (Err e) (Err (NoRecord number)) → X number
bad_of X R e n number (inl f) x q = absurd (no_memory number (rw f at q))
bad_of X R e n number (inr (inl f)) x q = absurd (no_read number (rw f.0 at q))
bad_of X R e n number (inr (inr (inl f))) x q = rw (← same_bad n number (rw f at q)) (x (ap Err f))
bad_of X R e n number (inr (inr (inr f))) x q = absurd (no_line number n (rw f at q))

not_memory : {T : Type 0} (n : ℕ) → ◌≡◌ {A = Result T HistoryFault} (Err Memory) (Err (Line n)) → ⊥
not_memory n q = cc

not_read : {T : Type 0} (n : ℕ) → ◌≡◌ {A = Result T HistoryFault} (Err Read) (Err (Line n)) → ⊥
not_read n q = cc

not_bad : {T : Type 0} (n m : ℕ) → ◌≡◌ {A = Result T HistoryFault} (Err (NoRecord m)) (Err (Line n)) → ⊥
not_bad n m q = cc

same_long : {T : Type 0} (a b : ℕ) → ◌≡◌ {A = Result T HistoryFault} (Err (Line a)) (Err (Line b)) → a ≡ b
same_long a b q = cc

pub long_of : {T U : Type 0} (X : ℕ → Type 0) (R : Type 0) (e : HistoryFault) (n number : ℕ) → IsFaultOf e n R
    → (◌≡◌ {A = Result U HistoryFault} (Err e) (Err (Line n)) → X n)
    → ◌≡◌ {A = Result T HistoryFault} (Err e) (Err (Line number)) → X number
long_of X R e n number (inl f) x q = absurd (not_memory number (rw f at q))
long_of X R e n number (inr (inl f)) x q = absurd (not_read number (rw f.0 at q))
long_of X R e n number (inr (inr (inl f))) x q = absurd (not_bad number n (rw f at q))
long_of X R e n number (inr (inr (inr f))) x q = rw (← same_long n number (rw f at q)) (x (ap Err f))
