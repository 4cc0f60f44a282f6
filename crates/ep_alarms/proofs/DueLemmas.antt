-- What the clock raises at the timers whose moment has come, one after another.
use Rattle.std.proofs.Common.{◌≡◌, ◌≢◌, ◌∙◌, ◌+◌, ◌<◌, ◌≤◌, ℕ, Bool, true, false, All, IsSome, List, [], ◌∷◌, None, Option, Some, ap, arith, cond, inl, inr, map, nat_le, refl, subst, sym, unwrap_or}
use Rattle.std.proofs.lemmas.Bool.{cases_Bool, le-leb}
use Rattle.std.proofs.lemmas.Bool.Decides.{eqb_tells}
use Rattle.std.proofs.lemmas.List.Elements.{All-head, All-tail}
use Rattle.std.specs.List.{AllByRecursion}
use Rattle.ep_base.specs.declared.ids.DescId.{DescId}
use Rattle.ep_base.specs.declared.mask.Mask.{Mask}
use Rattle.ep_calls.proofs.DueLemmas.{live_all}
use Rattle.ep_calls.specs.Raising.{bits_of, due_bits, raised_each}
use Rattle.ep_counters.specs.Law.{NextStays, NextTellsAdvance, is_by}
use Rattle.ep_counters.specs.Timer.{IsNextArrival}
use Rattle.ep_due.specs.DueMap.{HasNoneReached, IsReachedAt, Moments, SetsMoment, moment_of}
use Rattle.ep_due.specs.Tick.{is_due}
use Rattle.ep_interest.specs.Registrations.{Registrations, raised_on}
use Rattle.ep_machine.specs.Bits.{IN, when}
use Rattle.ep_machine.specs.Files.{Files}
use Rattle.ep_machine.specs.Objects.{Object, advance}
use Rattle.ep_machine.specs.Timer.{Timer}
use Rattle.ep_object.proofs.TimerLemmas.{next_tells, no_timer_raises}
use Rattle.ep_object.specs.Next.{IsNextMoment, IsNextOf, timer_of}
use Rattle.ep_alarms.proofs.LeftLemmas.{count_due, each_less, each_none, each_same, fewer_due}
use Rattle.ep_alarms.proofs.SetLemmas.{set_next, set_none, some_none}
use Rattle.ep_alarms.specs.Alarms.{AreSet, IsSetFor}
use Rattle.ep_alarms.specs.Timers.{timer_at, timer_under}
use Rattle.ep_table.specs.Live.{live_ids}
use Rattle.ep_table.specs.Value.{Seen, content_of, number_of, number_under}

-- a timer's moment is that of now, unless it has come
abbrev pub IsSetSince : Option Timer → ℕ → Option (Option ℕ) → Type 0
IsSetSince None now moment = moment ≡ None
IsSetSince (Some t) now None = ⊥
IsSetSince (Some t) now (Some next) = is_by next now ≡ false → IsNextArrival t now next

-- what is left to raise at a description: what the clock raises there, where its moment has come
abbrev pub left_bits : Seen → ℕ → ℕ → Moments → DescId → Mask
left_bits v since now a desc = cond (is_due now (moment_of a desc.0)) (due_bits v since now desc) (bits_of 0)

-- with what is left the registrations come to what all would make of them
pub record RaisesDue (v : Seen) (since now n : ℕ) (old : Registrations) (a : Moments) (new : Registrations) : Type 0 where
  pub set : (k : ℕ) → IsSetSince (timer_under v k) now (moment_of a k)
  pub told : raised_each (left_bits v since now a) n (live_ids v.keys) new.entries ≡ raised_each (due_bits v since now) n (live_ids v.keys) old.entries
  pub keys : new.keys ≡ old.keys
  pub added : new.added ≡ old.added

-- Before the first.
by_test : (b : Bool) (k : ℕ) → k ≡ when b IN → cond b (bits_of k) (bits_of 0) ≡ bits_of k
by_test true k h = refl
by_test false k h = ap bits_of (sym h)

module _ (since now : ℕ) (tells : NextTellsAdvance) where
  by_next : (x : Object) (next : Option ℕ) → IsNextMoment x since next → cond (is_due now (Some next)) (bits_of (advance x since now)) (bits_of 0) ≡ bits_of (advance x since now)
  by_next x None h = by_test false (advance x since now) (next_tells tells x since now None h)
  by_next x (Some m) h = by_test (nat_le m now) (advance x since now) (next_tells tells x since now (Some m) h)

  by_object : (x : Object) (o : Option (Option ℕ)) → IsSetFor (timer_of x) since o → cond (is_due now o) (bits_of (advance x since now)) (bits_of 0) ≡ bits_of (advance x since now)
  by_object x None h = ap bits_of (sym (no_timer_raises x since now (set_none (timer_of x) since h)))
  by_object x (Some next) h = by_next x next (set_next (timer_of x) since next h)

  by_number : (f : Files) (d : Option ℕ) (o : Option (Option ℕ)) → IsSome d → IsSetFor (timer_at f d) since o
      → cond (is_due now o) (bits_of (advance (content_of f (unwrap_or d 0)) since now)) (bits_of 0) ≡ bits_of (advance (content_of f (unwrap_or d 0)) since now)
  by_number f None o lives h = absurd cc
  by_number f (Some d) o lives h = by_object (content_of f d) o h

  each_told : (v : Seen) (a : Moments) → AreSet v since a → (ids : List DescId) → All (λ id. IsSome (number_under v id)) ids → AllByRecursion (λ id. left_bits v since now a id ≡ due_bits v since now id) ids
  each_told v a set [] live = tt
  each_told v a set (id ∷ ids) live = (
    by_number v.files (number_under v id) (moment_of a id.0) (All-head (λ k. IsSome (number_under v k)) id ids live) (set id.0),
    each_told v a set ids (All-tail (λ k. IsSome (number_under v k)) id ids live),
  )

  since_set : NextStays → since ≤ now → (t : Option Timer) (o : Option (Option ℕ)) → IsSetFor t since o → IsSetSince t now o
  since_set stays le None o h = h
  since_set stays le (Some t) None h = absurd h
  since_set stays le (Some t) (Some next) h = λ not. stays t since now next le h not

  pub due_begins : NextStays → since ≤ now → (v : Seen) (n : ℕ) (old : Registrations) (a : Moments) → AreSet v since a → RaisesDue v since now n old a old
  due_begins stays le v n old a set = record {
    set = λ k. since_set stays le (timer_under v k) (moment_of a k) (set k);
    told = each_same (left_bits v since now a) (due_bits v since now) n (live_ids v.keys) old.entries (each_told v a set (live_ids v.keys) (live_all v.keys));
    keys = refl;
    added = refl;
  }

-- A timer whose moment has come.
lives_at : (f : Files) (d : Option ℕ) (now : ℕ) (o : Option (Option ℕ)) (m : ℕ) → o ≡ Some (Some m) → IsSetSince (timer_at f d) now o → IsSome d
lives_at f None now o m is h = absurd (some_none (Some m) (sym is ∙ h))
lives_at f (Some d) now o m is h = refl

pub reached_live : (v : Seen) (since now n : ℕ) (old : Registrations) (a : Moments) (new : Registrations) (desc : DescId) → RaisesDue v since now n old a new → IsReachedAt a now desc.0 → IsSome (number_under v desc)
reached_live v since now n old a new desc h at = lives_at v.files (number_under v desc) now (moment_of a desc.0) at.moment at.its (h.set desc.0)

-- its next moment
later : (m now : ℕ) → now < m → nat_le m now ≡ false
later m now lt = elim (cases_Bool (nat_le m now)) [
  | inl y ↦ absurd (let le : m ≤ now = search (y, arith) in omega (arith, le, lt))
  | inr n ↦ n
]

not_by : (t : Timer) (now : ℕ) (next : Option ℕ) → IsNextArrival t now next → is_due now (Some next) ≡ false
not_by t now None h = refl
not_by t now (Some m) h = later m now h.0

record Next (t : Option Timer) (now : ℕ) (next : Option ℕ) : Type 0 where
  pub off : is_due now (Some next) ≡ false
  pub set : IsSetSince t now (Some next)

next_of : (t : Option Timer) (now m : ℕ) (o : Option (Option ℕ)) (next : Option ℕ) → o ≡ Some (Some m) → IsSetSince t now o → IsNextOf t now next → Next t now next
next_of None now m o next is h n = absurd (some_none (Some m) (sym is ∙ h))
next_of (Some t) now m o next is h n = record { off = not_by t now next n; set = λ not. n }

next_under : (f : Files) (d : Option ℕ) (now m : ℕ) (o : Option (Option ℕ)) (next : Option ℕ) → o ≡ Some (Some m) → IsSetSince (timer_at f d) now o → IsNextMoment (content_of f (unwrap_or d 0)) now next → Next (timer_at f d) now next
next_under f None now m o next is h n = absurd (some_none (Some m) (sym is ∙ h))
next_under f (Some d) now m o next is h n = next_of (timer_of (content_of f d)) now m o next is h n

a_number : (d : Option ℕ) → IsSome d → (k : ℕ) × (d ≡ Some k)
a_number None h = absurd cc
a_number (Some k) h = (k, refl)

zero_plus : (k : ℕ) → k ≡ 0 + k
zero_plus k = omega arith

has_come : (o : Option (Option ℕ)) (m now : ℕ) → o ≡ Some (Some m) → m ≤ now → is_due now o ≡ true
has_come o m now is le = ap (is_due now) is ∙ le-leb m now le

module _ (v : Seen) (since now n : ℕ) (old : Registrations) (a : Moments) (mid : Registrations) (desc : DescId) (h : RaisesDue v since now n old a mid) (at : IsReachedAt a now desc.0) (b : Moments) (next : Option ℕ) (is_next : IsNextMoment (content_of v.files (number_of v desc)) now next) (sets : SetsMoment a b desc.0 (Some next)) where
  its : Next (timer_under v desc.0) now next
  its = next_under v.files (number_under v desc) now at.moment (moment_of a desc.0) next at.its (h.set desc.0) is_next

  here : moment_of b desc.0 ≡ Some next
  here = elim (eqb_tells desc.0 desc.0) [ inl p ↦ rw p.0 at (sets desc.0) | inr p ↦ absurd (p.1 refl) ]

  there : (k : ℕ) → k ≢ desc.0 → moment_of b k ≡ moment_of a k
  there k ne = elim (eqb_tells desc.0 k) [ inl p ↦ absurd (ne (sym p.1)) | inr p ↦ rw p.0 at (sets k) ]

  was : is_due now (moment_of a desc.0) ≡ true
  was = has_come (moment_of a desc.0) at.moment now at.its at.reached

  gone : is_due now (moment_of b desc.0) ≡ false
  gone = ap (is_due now) here ∙ its.off

  less : (k : ℕ) → is_due now (moment_of b k) ≡ true → is_due now (moment_of a k) ≡ true
  less k y = elim (eqb_tells desc.0 k) [
    | inl p ↦ absurd (let e : true ≡ false = sym y ∙ (ap (λ (j : ℕ). is_due now (moment_of b j)) (sym p.1) ∙ gone) in cc)
    | inr p ↦ ap (is_due now) (sym (there k (λ e. p.1 (sym e)))) ∙ y
  ]

  number : (k : ℕ) × (number_under v desc ≡ Some k)
  number = a_number (number_under v desc) (reached_live v since now n old a mid desc h at)

  pub due_fewer : count_due now b (live_ids v.keys) < count_due now a (live_ids v.keys)
  due_fewer = fewer_due now a b less desc.0 was gone v.keys 0 desc.0 number.0 number.1 (zero_plus desc.0)

  pub due_more : (new : Registrations) → new.entries ≡ map (raised_on desc (due_bits v since now desc) n) mid.entries → new.keys ≡ mid.keys → new.added ≡ mid.added → RaisesDue v since now n old b new
  due_more new entries keys added =
      let f = left_bits v since now a in
      let g = left_bits v since now b in
      let own : f desc ≡ due_bits v since now desc = ap (λ (t : Bool). cond t (due_bits v since now desc) (bits_of 0)) was in
      let none : (g desc).0 ≡ 0 = ap (λ (t : Bool). (cond t (due_bits v since now desc) (bits_of 0)).0) gone in
      let others : (id : DescId) → id.0 ≢ desc.0 → g id ≡ f id = λ id ne. ap (λ (o : Option (Option ℕ)). cond (is_due now o) (due_bits v since now id) (bits_of 0)) (there id.0 ne) in
      let first = each_less f g n desc none others v.keys 0 desc.0 number.0 number.1 (zero_plus desc.0) mid.entries in
      record {
        set = λ k. elim (eqb_tells desc.0 k) [
          | inl p ↦ subst (λ (j : ℕ). IsSetSince (timer_under v j) now (moment_of b j)) p.1 (subst (IsSetSince (timer_under v desc.0) now) (sym here) its.set)
          | inr p ↦ subst (IsSetSince (timer_under v k) now) (sym (there k (λ e. p.1 (sym e)))) (h.set k)
        ];
        told = ap (raised_each g n (live_ids v.keys)) (entries ∙ ap (λ (m : Mask). map (raised_on desc m n) mid.entries) (sym own)) ∙ (sym first ∙ h.told);
        keys = keys ∙ h.keys;
        added = added ∙ h.added;
      }

-- no moment that has come
pub not_come : (now : ℕ) (o : Option (Option ℕ)) → ((m : ℕ) → o ≡ Some (Some m) → now < m) → is_due now o ≡ false
not_come now None late = refl
not_come now (Some None) late = refl
not_come now (Some (Some m)) late = later m now (late m refl)

-- After the last.
module _ (v : Seen) (since now n : ℕ) (old : Registrations) (a : Moments) (new : Registrations) (h : RaisesDue v since now n old a new) (none : HasNoneReached a now) where
  each_off : (ids : List DescId) → AllByRecursion (λ id. (left_bits v since now a id).0 ≡ 0) ids
  each_off [] = tt
  each_off (id ∷ ids) = (ap (λ (t : Bool). (cond t (due_bits v since now id) (bits_of 0)).0) (not_come now (moment_of a id.0) (λ m. none id.0 m)), each_off ids)

  pub due_told : new.entries ≡ raised_each (due_bits v since now) n (live_ids v.keys) old.entries
  due_told = sym (each_none (left_bits v since now a) n (live_ids v.keys) new.entries (each_off (live_ids v.keys))) ∙ h.told
