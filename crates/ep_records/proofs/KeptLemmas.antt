-- What a record more does to those before it.
use Rattle.std.proofs.Common.{rules, ◌≡◌, ℕ, zero, suc, drop, slice_get, ◌<◌, ◌≤◌, ◌+◌, ◌-◌, All, List, [], ◌∷◌, ◌++◌, map, length, Option, Some, None, get_or, refl, ap, sym, subst, ◌∙◌, arith, length-append, length-drop}
use Rattle.std.proofs.lemmas.List.{append-nil, drop-append-le, map-append, take-append-le}
use Rattle.std.proofs.lemmas.List.Elements.{All-append, All-cons, All-nil, All-head, All-tail}
use Rattle.std.proofs.Math.ListN.{get_or-append}
use Rattle.std.proofs.Math.Seq.{drop-append_seam, get_or-append_seam, take-length}
use Rattle.ep_base.specs.declared.answer.Report.{Report}
use Rattle.ep_base.specs.declared.record.Record.{Record}
use Rattle.ep_records.specs.Lists.{Lists, blank, stretch}
use Rattle.ep_records.specs.Slot.{IsNamed, IsThere, IsWithin, if_alone, or_beside, record_beside, record_in, short_record, unpacked}
use Rattle.ep_records.specs.declared.slot.Slot.{Slot}
use Rattle.ep_records.specs.declared.slot.What.{What}
use Rattle.ep_records.specs.declared.slot.What.TheVariants as whats

-- each list has at least what it had
pub record Grows (old new : Lists) : Type 0 where
  pub long : (more : List Record) × (new.long ≡ old.long ++ more)
  pub reports : (more : List Report) × (new.reports ≡ old.reports ++ more)
  pub numbers : (more : List ℕ) × (new.numbers ≡ old.numbers ++ more)
  pub bytes : (more : List ℕ) × (new.bytes ≡ old.bytes ++ more)

stretch_grown : {X : Type 0} (xs ys more : List X) (from count : ℕ) → ys ≡ xs ++ more → from + count ≤ length xs
    → stretch ys from count ≡ stretch xs from count
stretch_grown {X = X} xs ys more from count e h =
    rw (e, drop-append-le from xs more (omega arith)) (take-append-le count (drop from xs) more (omega (arith, length-drop {A = X})))

-- what was added is what stands there
pub stretch_end : {X : Type 0} (xs ys more : List X) → ys ≡ xs ++ more → stretch ys (length xs) (length more) ≡ more
stretch_end xs ys more e = rw (e, drop-append_seam xs more) (take-length more)

longer : {X : Type 0} (xs ys more : List X) → ys ≡ xs ++ more → length xs ≤ length ys
longer xs ys more e = omega (arith, ap length e, length-append xs more)

pub ends_within : {X : Type 0} (xs ys more : List X) → ys ≡ xs ++ more → length xs + length more ≤ length ys
ends_within xs ys more e = omega (arith, ap length e, length-append xs more)

named_more : (w : What) (b c : Lists) (s : Slot) → Grows b c → IsNamed w b s → IsNamed w c s
named_more whats.WaitReports b c s g n = (omega (arith, n.0, longer b.reports c.reports g.reports.0 g.reports.1), omega (arith, n.1, longer b.numbers c.numbers g.numbers.0 g.numbers.1))
named_more whats.ResumeReports b c s g n = (omega (arith, n.0, longer b.reports c.reports g.reports.0 g.reports.1), omega (arith, n.1, longer b.numbers c.numbers g.numbers.0 g.numbers.1))
named_more whats.LongRead b c s g n = omega (arith, n, longer b.bytes c.bytes g.bytes.0 g.bytes.1)
named_more whats.LongWrite b c s g n = omega (arith, n, longer b.bytes c.bytes g.bytes.0 g.bytes.1)
named_more w b c s g n = omega (arith, n, longer b.long c.long g.long.0 g.long.1)

same_named : (w : What) (b c : Lists) (s : Slot) → Grows b c → IsNamed w b s → record_beside w c s ≡ record_beside w b s
same_named whats.WaitReports b c s g n =
    rw (stretch_grown b.reports c.reports g.reports.0 s.y s.n g.reports.1 n.0, stretch_grown b.numbers c.numbers g.numbers.0 s.z s.n g.numbers.1 n.1) refl
same_named whats.ResumeReports b c s g n =
    rw (stretch_grown b.reports c.reports g.reports.0 s.y s.n g.reports.1 n.0, stretch_grown b.numbers c.numbers g.numbers.0 s.z s.n g.numbers.1 n.1) refl
same_named whats.LongRead b c s g n = rw (stretch_grown b.bytes c.bytes g.bytes.0 s.x s.y g.bytes.1 n) refl
same_named whats.LongWrite b c s g n = rw (stretch_grown b.bytes c.bytes g.bytes.0 s.x s.y g.bytes.1 n) refl
same_named w b c s g n = rw g.long.1 (get_or-append b.long g.long.0 blank s.x n)

there_more : (b c : Lists) (s : Slot) (one : Option Record) → Grows b c → IsThere b s one → IsThere c s one
there_more b c s (Some one) g there = tt
there_more b c s None g there = named_more s.what b c s g there

or_more : (b c : Lists) (s : Slot) (one : Option Record) → Grows b c → IsThere b s one → or_beside c s one ≡ or_beside b s one
or_more b c s (Some one) g there = refl
or_more b c s None g there = same_named s.what b c s g there

same_before : (b c : Lists) (ps : List Slot) → Grows b c → All (IsWithin b) ps → map (unpacked c) ps ≡ map (unpacked b) ps
same_before b c [] g all = refl
same_before b c (p ∷ ps) g all =
    let first = or_more b c p (record_in p) g (All-head (IsWithin b) p ps all) in
    let rest = same_before b c ps g (All-tail (IsWithin b) p ps all) in
    rw (first, rest) refl

within_more : (b c : Lists) (ps : List Slot) → Grows b c → All (IsWithin b) ps → All (IsWithin c) ps
within_more b c [] g all = All-nil (IsWithin c)
within_more b c (p ∷ ps) g all =
    All-cons (IsWithin c) p ps (there_more b c p (record_in p) g (All-head (IsWithin b) p ps all))
    (within_more b c ps g (All-tail (IsWithin b) p ps all))

there_short : (b : Lists) (s : Slot) (one : Option Record) (r : Record) → one ≡ Some r → IsThere b s one
there_short b s (Some one) r e = tt
there_short b s None r e = cc

-- a slot that names nothing is within any lists, and is its record
pub short_within : (b : Lists) (s : Slot) (r : Record) → record_in s ≡ Some r → IsWithin b s
short_within b s r e = there_short b s (record_in s) r e

pub short_is : (b : Lists) (s : Slot) (r : Record) → record_in s ≡ Some r → unpacked b s ≡ r
short_is b s r e = ap (or_beside b s) e

-- a slot more
pub slot_added : (b c : Lists) (ps qs : List Slot) (p : Slot) (r : Record) → Grows b c → qs ≡ ps ++ p ∷ [] → unpacked c p ≡ r
    → All (IsWithin b) ps → map (unpacked c) qs ≡ map (unpacked b) ps ++ r ∷ []
slot_added b c ps qs p r g e is all =
    rw (e, map-append (unpacked c) ps (p ∷ []), same_before b c ps g all) (ap (λ (one : Record). map (unpacked b) ps ++ one ∷ []) is)

pub within_added : (b c : Lists) (ps qs : List Slot) (p : Slot) → Grows b c → qs ≡ ps ++ p ∷ [] → IsWithin c p
    → All (IsWithin b) ps → All (IsWithin c) qs
within_added b c ps qs p g e within all = subst (λ (xs : List Slot). All (IsWithin c) xs) (sym e)
    (All-append (IsWithin c) ps (p ∷ []) (within_more b c ps g all) (All-cons (IsWithin c) p [] within (All-nil (IsWithin c))))

pub same : (b : Lists) → Grows b b
same b = record { long = ([], sym (append-nil b.long)); reports = ([], sym (append-nil b.reports)); numbers = ([], sym (append-nil b.numbers)); bytes = ([], sym (append-nil b.bytes)) }

pub grown_by_long : (b c : Lists) (one : Record) → c ≡ record b { long = b.long ++ one ∷ []; room = c.room } → Grows b c
grown_by_long b c one e = record {
  long = (one ∷ [], ap (λ (l : Lists). l.long) e);
  reports = ([], ap (λ (l : Lists). l.reports) e ∙ sym (append-nil b.reports));
  numbers = ([], ap (λ (l : Lists). l.numbers) e ∙ sym (append-nil b.numbers));
  bytes = ([], ap (λ (l : Lists). l.bytes) e ∙ sym (append-nil b.bytes));
}

pub grown_by_reports : (b c : Lists) (rs : List Report) (ns : List ℕ) → c ≡ record b { reports = b.reports ++ rs; numbers = b.numbers ++ ns } → Grows b c
grown_by_reports b c rs ns e = record {
  long = ([], ap (λ (l : Lists). l.long) e ∙ sym (append-nil b.long));
  reports = (rs, ap (λ (l : Lists). l.reports) e);
  numbers = (ns, ap (λ (l : Lists). l.numbers) e);
  bytes = ([], ap (λ (l : Lists). l.bytes) e ∙ sym (append-nil b.bytes));
}

pub grown_by_bytes : (b c : Lists) (bs : List ℕ) → c ≡ record b { bytes = b.bytes ++ bs } → Grows b c
grown_by_bytes b c bs e = record {
  long = ([], ap (λ (l : Lists). l.long) e ∙ sym (append-nil b.long));
  reports = ([], ap (λ (l : Lists). l.reports) e ∙ sym (append-nil b.reports));
  numbers = ([], ap (λ (l : Lists). l.numbers) e ∙ sym (append-nil b.numbers));
  bytes = (bs, ap (λ (l : Lists). l.bytes) e);
}

-- reports that were added, and their numbers
pub told_is : (b c : Lists) (rs : List Report) (ns : List ℕ) (y z n : ℕ) → c ≡ record b { reports = b.reports ++ rs; numbers = b.numbers ++ ns }
    → y ≡ length b.reports → z ≡ length b.numbers → n ≡ length rs → n ≡ length ns
    → (stretch c.reports y n ≡ rs) × (stretch c.numbers z n ≡ ns)
told_is b c rs ns y z n e at_y at_z of_rs of_ns = (
  rw (at_y, of_rs) (stretch_end b.reports c.reports rs (ap (λ (l : Lists). l.reports) e)),
  rw (at_z, of_ns) (stretch_end b.numbers c.numbers ns (ap (λ (l : Lists). l.numbers) e)),
)

-- bytes that were added
pub given_is : (b c : Lists) (bs : List ℕ) (x : ℕ) → c ≡ record b { bytes = b.bytes ++ bs } → x ≡ length b.bytes → stretch c.bytes x (length bs) ≡ bs
given_is b c bs x e at = rw at (stretch_end b.bytes c.bytes bs (ap (λ (l : Lists). l.bytes) e))

-- a slot that names a whole record
none_there : (b : Lists) (s : Slot) (one : Option Record) → one ≡ None → IsNamed s.what b s → IsThere b s one
none_there b s (Some one) e n = tt
none_there b s None e n = n

whole_alone : (w : What) (r : Record) → w ≡ whats.Whole → if_alone w r ≡ None
whole_alone w r e = ap (λ (v : What). if_alone v r) e

pub whole_within : (b : Lists) (s : Slot) → s.what ≡ whats.Whole → s.x < length b.long → IsWithin b s
whole_within b s e low = none_there b s (record_in s) (whole_alone s.what (short_record s) e) (subst (λ (v : What). IsNamed v b s) (sym e) low)

pub whole_is : (b : Lists) (s : Slot) → s.what ≡ whats.Whole → unpacked b s ≡ get_or b.long s.x blank
whole_is b s e = ap (or_beside b s) (whole_alone s.what (short_record s) e) ∙ ap (λ (v : What). record_beside v b s) e

pub last_long : (b c : Lists) (one : Record) (x : ℕ) → c ≡ record b { long = b.long ++ one ∷ []; room = c.room } → x ≡ length b.long
    → (x < length c.long) × (get_or c.long x blank ≡ one)
last_long b c one x e at =
    let longer = ap (λ (l : Lists). l.long) e in (
      omega (arith, at, ap length longer, length-append b.long (one ∷ [])),
      rw (longer, at) (get_or-append_seam b.long one [] blank),
    )

-- what is read at a place comes before the rest
read_first : {X : Type 0} (xs : List X) (i : ℕ) (x : X) → slice_get xs i ≡ Some x → drop i xs ≡ x ∷ drop (suc i) xs
read_first [] i x e = cc
read_first (y ∷ ys) zero x e = search rules
read_first (y ∷ ys) (suc i) x e = read_first ys i x e

pub drop_read : {X : Type 0} (xs : List X) (i : ℕ) (x : X) → slice_get xs i ≡ Some x → drop i xs ≡ x ∷ drop (i + 1) xs
drop_read xs i x e =
    let next : i + 1 ≡ suc i = omega arith in
    rw next (read_first xs i x e)

pub drop_past : {X : Type 0} (xs : List X) (i : ℕ) → slice_get xs i ≡ None → drop i xs ≡ []
drop_past [] zero e = refl
drop_past [] (suc i) e = refl
drop_past (y ∷ ys) zero e = cc
drop_past (y ∷ ys) (suc i) e = drop_past ys i e

-- what was added last stands at the place before the end
pub read_last : {X : Type 0} (before xs : List X) (last : X) (k : ℕ) → xs ≡ before ++ last ∷ [] → k ≡ length xs - 1 → slice_get xs k ≡ Some last
read_last before xs last k e at =
    let place : k ≡ length before = omega (arith, at, ap length e, length-append before (last ∷ [])) in
    rw (place, e) (read_end before last)
  where
    read_end : {X : Type 0} (before : List X) (last : X) → slice_get (before ++ last ∷ []) (length before) ≡ Some last
    read_end [] last = refl
    read_end (y ∷ ys) last = read_end ys last
