-- Of which registrations a report may be, by flags.
use Rattle.std.proofs.Common.{◌≡◌, None, Option, if◌then◌else◌, nat_lt, ◌<◌, ◌≤◌, ◌+◌, ◌++◌, ◌==◌, ◌&&◌, ◌∙◌, ℕ, Bool, List, [], ◌∷◌, Some, ap, arith, drop, false, get_or, inl, inr, length, map, not, refl, subst, sym, take, true}
use Rattle.std.proofs.lemmas.Bool.{cases_Bool, false≢true}
use Rattle.std.proofs.lemmas.List.{drop_more, take-append-drop, take_more}
use Rattle.ep_base.specs.declared.ids.EntryId.{EntryId}
use Rattle.ep_calls.proofs.EntryLemmas.{one_under}
use Rattle.ep_dates.specs.Dates.{Dates, date_at, event_at, is_dated}
use Rattle.ep_dates.specs.Kept.{AreKept}
use Rattle.ep_dates.specs.Order.{AreInTurn, Rise, date_found, date_under}
use Rattle.ep_dates.specs.Pick.{AreFlagged, AreLate, Flags, FlagsNone, FlagsOne, IsFirstLeft, IsPick, IsReportable}
use Rattle.ep_rings.specs.PlacedRows.{keys_at}
use Rattle.std.specs.List.{AllByRecursion}
use Rattle.ep_facts.proofs.NatFacts.{from_test, same_test}
use Rattle.ep_facts.proofs.AmongFacts.{among_append, among_end, among_last}
use Rattle.ep_facts.proofs.OptionFacts.{none_is_some, some_same}
use Rattle.ep_facts.proofs.BoolFacts.{or_cases, or_left, or_nothing, or_right, second_of_and}
use Rattle.ep_interest.specs.Registrations.{IsSound, Registrations, entry_under}
use Rattle.ep_interest.specs.declared.entry.Entry.{Entry}
use Rattle.ep_law.proofs.ListLemmas.{distinct_append}
use Rattle.ep_machine.specs.Lists.{are_distinct, is_among}
use Rattle.ep_walk.specs.Walk.{Walk}
use Rattle.ep_rings.specs.KeyWalk.{entry_id as key_of}

id_is : (a b : EntryId) → a.0 ≡ b.0 → a ≡ b
id_is a b e = λ i. record { 0 = e i }

-- no number is named again
named_once : (done : List ℕ) (k : ℕ) (rest : List ℕ) → are_distinct (done ++ k ∷ rest) ≡ true → is_among done k ≡ true → ⊥
named_once [] k rest h t = false≢true t
named_once (x ∷ done) k rest h t = elim (or_cases (k == x) (is_among done k) t) [
  | inl e ↦
      let there : is_among (done ++ k ∷ rest) x ≡ true = among_append done (k ∷ rest) x ∙ or_right (is_among done x) (is_among (k ∷ rest) x) (or_left (x == k) (is_among rest x) (same_test x k (sym (from_test k x e)))) in
      false≢true (sym (ap (λ (b : Bool). not b && are_distinct (done ++ k ∷ rest)) there) ∙ h)
  | inr m ↦ named_once done k rest (second_of_and (not (is_among (done ++ k ∷ rest) x)) (are_distinct (done ++ k ∷ rest)) h) m
]

pub is_none_some : (x : Entry) → None ≡ Some x → ⊥
is_none_some x e = false≢true (ap is_there e) where
  is_there : Option Entry → Bool
  is_there None = false
  is_there (Some _) = true

module _ (r : Registrations) (sound : IsSound r) (d : Dates) (instance : ℕ) where
  pub flags_none : (w : Walk) → w.reached ≡ [] → Flags r d instance [] 0 w
  flags_none w none = record {
    distinct = refl;
    each = λ k t. absurd (false≢true t);
    only = λ j t. absurd (false≢true (sym (ap (λ (ks : List ℕ). is_among ks j) none) ∙ t));
    bound = λ id x at t. absurd (false≢true t);
    least = λ m h. omega arith;
  }

  pub flags_next : (done : List ℕ) (k latest rep next : ℕ) (a b : Walk) → Flags r d instance done latest a → FlagsOne r d instance k rep a b → latest ≤ next → rep ≤ next → ((m : ℕ) → latest ≤ m → rep ≤ m → next ≤ m) → Flags r d instance (done ++ k ∷ []) next b
  flags_next done k latest rep next a b f o le1 le2 top = record {
    distinct = distinct_append done (k ∷ []) f.distinct refl (λ j t h. fresh (subst (λ (i : ℕ). is_among done i ≡ true) (from_test j k (or_nothing (j == k) h)) t));
    each = λ j t. elim (or_cases (is_among done j) (j == k) (sym (among_end done k j) ∙ t)) [
      | inl early ↦ let e = f.each j early in (e.0, e.1, e.2, flagged e.0.0 e.3)
      | inr late ↦ (o.key, o.entry, subst (λ (i : ℕ). IsReportable r d instance i o.key o.entry) (sym (from_test j k late)) o.it, ap (λ (ks : List ℕ). is_among ks o.key.0) o.reached ∙ among_last a.reached o.key.0)
    ];
    only = λ j t. elim (or_cases (is_among a.reached j) (j == o.key.0) (sym (ap (λ (ks : List ℕ). is_among ks j) o.reached ∙ among_end a.reached o.key.0 j) ∙ t)) [
      | inl early ↦ let e = f.only j early in (e.0, e.1, among_end done k e.0.number ∙ or_left (is_among done e.0.number) (e.0.number == k) e.2)
      | inr late ↦ (o.entry, ap (entry_under r) (id_is (key_of j) o.key (from_test j o.key.0 late)) ∙ o.it.under, among_end done k o.entry.number ∙ or_right (is_among done o.entry.number) (o.entry.number == k) (same_test o.entry.number k o.it.number))
    ];
    bound = λ id x at t. elim (or_cases (is_among done x.number) (x.number == k) (sym (among_end done k x.number) ∙ t)) [
      | inl early ↦ let le = f.bound id x at early in omega (arith, le, le1)
      | inr late ↦
          let same : x ≡ o.entry = (one_under r sound id o.key x o.entry at o.it.under (from_test x.number k late ∙ sym o.it.number)).1 in
          let rep_is : x.reported_in ≡ rep = ap (λ (y : Entry). y.reported_in) same ∙ sym o.last in
          omega (arith, rep_is, le2)
    ];
    least = λ m h. top m
        (f.least m (λ id x at t. h id x at (among_end done k x.number ∙ or_left (is_among done x.number) (x.number == k) t)))
        (subst (λ (e : ℕ). e ≤ m) (sym o.last) (h o.key o.entry o.it.under (among_end done k o.entry.number ∙ or_right (is_among done o.entry.number) (o.entry.number == k) (same_test o.entry.number k o.it.number))));
  } where
    flagged : (j : ℕ) → is_among a.reached j ≡ true → is_among b.reached j ≡ true
    flagged j t = ap (λ (ks : List ℕ). is_among ks j) o.reached ∙ (among_append a.reached (o.key.0 ∷ []) j ∙ or_left (is_among a.reached j) (is_among (o.key.0 ∷ []) j) t)

    fresh : is_among done k ≡ true → ⊥
    fresh t =
        let e = f.each k t in
        let same : e.0 ≡ o.key = (one_under r sound e.0 o.key e.1 o.entry e.2.under o.it.under (e.2.number ∙ sym o.it.number)).0 in
        false≢true (sym o.absent ∙ subst (λ (i : EntryId). is_among a.reached i.0 ≡ true) same e.3)

  pub flags_more : (ks : List ℕ) (i latest rep next : ℕ) (a b : Walk) → i < length ks → Flags r d instance (take i ks) latest a → FlagsOne r d instance (get_or ks i 0) rep a b → latest ≤ next → rep ≤ next → ((m : ℕ) → latest ≤ m → rep ≤ m → next ≤ m)
      → Flags r d instance (take (i + 1) ks) next b
  flags_more ks i latest rep next a b lt f o le1 le2 top =
      subst (λ (l : List ℕ). Flags r d instance l next b) (sym (take_more ks i 0 lt)) (flags_next (take i ks) (get_or ks i 0) latest rep next a b f o le1 le2 top)

  -- one that can't be flagged is no pick
  pub no_pick : (ks : List ℕ) (i latest most : ℕ) (a : Walk) → i < length ks → Flags r d instance (take i ks) latest a → FlagsNone r d instance (get_or ks i 0) a → IsPick r d instance most ks → ⊥
  no_pick ks i latest most a lt f none pick =
      let k = get_or ks i 0 in
      let whole : ks ≡ take i ks ++ k ∷ drop (i + 1) ks = sym (take-append-drop i ks) ∙ ap (λ (l : List ℕ). take i ks ++ l) (drop_more ks i 0 lt) in
      let there : is_among ks k ≡ true = ap (λ (l : List ℕ). is_among l k) whole ∙ (among_append (take i ks) (k ∷ drop (i + 1) ks) k ∙ or_right (is_among (take i ks) k) (is_among (k ∷ drop (i + 1) ks) k) (or_left (k == k) (is_among (drop (i + 1) ks) k) (same_test k k refl))) in
      let it = pick.each k there in
      let flagged = f.only it.0.0 (none it.0 it.1 it.2) in
      let same : flagged.0 ≡ it.1 = some_same flagged.0 it.1 (sym flagged.1 ∙ (ap (entry_under r) (id_is (key_of it.0.0) it.0 refl) ∙ it.2.under)) in
      let again : is_among (take i ks) k ≡ true = ap (is_among (take i ks)) (sym (ap (λ (y : Entry). y.number) same ∙ it.2.number)) ∙ flagged.2 in
      named_once (take i ks) k (drop (i + 1) ks) (subst (λ (l : List ℕ). are_distinct l ≡ true) whole pick.distinct) again

-- The first that isn't flagged.
abbrev pub numbers : List EntryId → List ℕ
numbers ids = map (λ e. e.0) ids

numbers_row : (row : List ℕ) → numbers (map key_of row) ≡ row
numbers_row [] = refl
numbers_row (k ∷ ks) = ap (λ (l : List ℕ). k ∷ l) (numbers_row ks)

numbers_on : (ids : List EntryId) (id : EntryId) (rest : List EntryId) → numbers (ids ++ id ∷ rest) ≡ numbers ids ++ id.0 ∷ numbers rest
numbers_on [] id rest = refl
numbers_on (e ∷ ids) id rest = ap (λ (l : List ℕ). e.0 ∷ l) (numbers_on ids id rest)

pub first_is : (row : List ℕ) (done rest : List EntryId) (id : EntryId) (flagged : List ℕ) → done ++ id ∷ rest ≡ map key_of row → AreFlagged (numbers done) flagged → is_among flagged id.0 ≡ false → IsFirstLeft row flagged id.0
first_is row done rest id flagged whole before off = record {
  before = numbers done;
  rest = numbers rest;
  whole = sym (numbers_row row) ∙ (ap numbers (sym whole) ∙ numbers_on done id rest);
  flagged_before = before;
  unflagged = off;
}

pub all_flagged : (row : List ℕ) (done : List EntryId) (flagged : List ℕ) → done ≡ map key_of row → AreFlagged (numbers done) flagged → AreFlagged row flagged
all_flagged row done flagged whole before k t = before k (ap (λ (l : List ℕ). is_among l k) (ap numbers whole ∙ numbers_row row) ∙ t)

pub flagged_next : (done : List EntryId) (id : EntryId) (flagged : List ℕ) → AreFlagged (numbers done) flagged → is_among flagged id.0 ≡ true → AreFlagged (numbers (done ++ id ∷ [])) flagged
flagged_next done id flagged before on k t = elim (or_cases (is_among (numbers done) k) (k == id.0) (sym (ap (λ (l : List ℕ). is_among l k) (numbers_on done id []) ∙ among_end (numbers done) id.0 k) ∙ t)) [
  | inl early ↦ before k early
  | inr late ↦ ap (is_among flagged) (from_test k id.0 late) ∙ on
]

all_there : (m : ℕ) (f : ℕ → ℕ) (ks : List ℕ) → AllByRecursion (λ e. m ≤ e) (map f ks) → (k : ℕ) → is_among ks k ≡ true → m ≤ f k
all_there m f [] h k t = absurd (false≢true t)
all_there m f (x ∷ xs) h k t = elim (or_cases (k == x) (is_among xs k) t) [
  | inl e ↦ subst (λ (j : ℕ). m ≤ f j) (sym (from_test k x e)) h.0
  | inr later ↦ all_there m f xs h.1 k later
]

from_one : (f : ℕ → ℕ) (before : List ℕ) (k : ℕ) (rest : List ℕ) → Rise (map f (before ++ k ∷ rest)) → AllByRecursion (λ e. f k ≤ e) (map f rest)
from_one f [] k rest h = h.0
from_one f (x ∷ before) k rest h = from_one f before k rest h.1

module _ (r : Registrations) (sound : IsSound r) (d : Dates) (kept : AreKept r d) (instance : ℕ) (flagged : List ℕ) where
  -- no other that isn't flagged came sooner
  pub first_late : (n : ℕ) → AreInTurn n r d → (k latest : ℕ) → IsFirstLeft (keys_at d.rows instance) flagged k → latest ≤ date_under r d k → AreLate r d instance flagged latest
  first_late n order k latest first le j there off =
      elim (or_cases (is_among first.before j) (is_among (k ∷ first.rest) j) (sym (ap (λ (l : List ℕ). is_among l j) first.whole ∙ among_append first.before (k ∷ first.rest) j) ∙ there)) [
        | inl early ↦ absurd (false≢true (sym off ∙ first.flagged_before j early))
        | inr rest ↦ elim (or_cases (j == k) (is_among first.rest j) rest) [
          | inl e ↦ subst (λ (i : ℕ). latest ≤ date_under r d i) (sym (from_test j k e)) le
          | inr later ↦
              let rise : Rise (map (date_under r d) (first.before ++ k ∷ first.rest)) = subst (λ (l : List ℕ). Rise (map (date_under r d) l)) first.whole (order.rise instance) in
              let more = all_there (date_under r d k) (date_under r d) first.rest (from_one (date_under r d) first.before k first.rest rise) j later in
              omega (arith, le, more)
        ]
      ]

  pub first_there : (k : ℕ) → IsFirstLeft (keys_at d.rows instance) flagged k → is_among (keys_at d.rows instance) k ≡ true
  first_there k first = ap (λ (l : List ℕ). is_among l k) first.whole ∙ (among_append first.before (k ∷ first.rest) k ∙ or_right (is_among first.before k) (is_among (k ∷ first.rest) k) (or_left (k == k) (is_among first.rest k) (same_test k k refl)))

  -- the first that isn't flagged is dated
  pub first_dated : (id : EntryId) (x : Entry) → IsFirstLeft (keys_at d.rows instance) flagged id.0 → entry_under r id ≡ Some x → is_dated d x ≡ true
  first_dated id x first at =
      let on = first_there id.0 first in
      let of = kept.only instance id.0 on in
      let same : of.0 ≡ x = some_same of.0 x (sym of.1 ∙ at) in
      sym (kept.listed id x at) ∙ (ap (λ (n : ℕ). is_among (keys_at d.rows n) id.0) (ap (λ (y : Entry). y.instance.0) (sym same) ∙ of.2) ∙ on)

-- what is answered where there is a date, and where there is none
pub dated_is : (d : Dates) (k n : ℕ) → date_at d k ≡ Some n → event_at d.since k ≡ n
dated_is d k n = found (nat_lt 0 (event_at d.since k)) where
  found : (b : Bool) → (if b then Some (event_at d.since k) else None) ≡ Some n → event_at d.since k ≡ n
  found true h = some_same (event_at d.since k) n h
  found false h = absurd (none_is_some n None refl h)

pub undated_is : (d : Dates) (k : ℕ) → date_at d k ≡ None → nat_lt 0 (event_at d.since k) ≡ false
undated_is d k = found (nat_lt 0 (event_at d.since k)) where
  found : (b : Bool) → (if b then Some (event_at d.since k) else None) ≡ None → b ≡ false
  found true h = absurd (none_is_some (event_at d.since k) None refl (sym h))
  found false h = refl

-- What is flagged and counted is a pick, and only that.
module _ (r : Registrations) (sound : IsSound r) (d : Dates) (kept : AreKept r d) (instance most : ℕ) (ks : List ℕ) (latest : ℕ) (w : Walk) (f : Flags r d instance ks latest w) where
  pub pick_late : IsPick r d instance most ks → AreLate r d instance w.reached latest
  pick_late pick k on off =
      let g = kept.only instance k on in
      let x = g.0 in
      let dated : is_dated d x ≡ true = sym (kept.listed (key_of k) x g.1) ∙ (ap (λ (n : ℕ). is_among (keys_at d.rows n) k) g.2 ∙ on) in
      let it : IsReportable r d instance x.number (key_of k) x = record { under = g.1; number = refl; instance = g.2; dated = dated } in
      let out : is_among ks x.number ≡ false = elim (cases_Bool (is_among ks x.number)) [
        | inr n ↦ n
        | inl t ↦
            let e = f.each x.number t in
            let same : e.0 ≡ key_of k = (one_under r sound e.0 (key_of k) e.1 x e.2.under g.1 e.2.number).0 in
            absurd (false≢true (sym off ∙ subst (λ (i : EntryId). is_among w.reached i.0 ≡ true) same e.3))
      ] in
      let le = f.least (event_at d.since x.number) (λ j y at there. pick.fair (key_of k) j x y it out at there) in
      subst (λ (e : ℕ). latest ≤ e) (sym (ap (date_found d) g.1)) le
