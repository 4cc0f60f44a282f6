-- The earliest moment of all timers, and what the clock raises by a moment.
use Rattle.std.proofs.Common.{◌≡◌, ◌∙◌, ◌<◌, ℕ, true, false, MatchOption, None, Option, Some, ap, arith, inl, inr, nat_lt, refl, sym, unwrap_or}
use Rattle.std.proofs.lemmas.Bool.{cases_Bool, false≢true, leb-false}
use Rattle.ep_calls.proofs.NextArrivalLemmas.{ArrivesUnder, arrival_told, arrives_under, under_arrives}
use Rattle.ep_calls.specs.Arrivals.{TellsArrival, arrives_at, arrives_by}
use Rattle.ep_counters.specs.Law.{NextTellsAdvance}
use Rattle.ep_due.specs.DueMap.{HasNoMoment, IsEarliest, Moments, moment_of}
use Rattle.ep_due.specs.Tick.{is_due as has_come}
use Rattle.ep_machine.specs.Files.{Files}
use Rattle.ep_machine.specs.Objects.{Object, advance}
use Rattle.ep_machine.specs.Waits.{is_due}
use Rattle.ep_alarms.proofs.DueLemmas.{not_come}
use Rattle.ep_alarms.proofs.SetLemmas.{set_next, set_none}
use Rattle.ep_alarms.specs.Alarms.{AreSet, IsSetFor}
use Rattle.ep_alarms.specs.Timers.{timer_at}
use Rattle.ep_object.proofs.TimerLemmas.{no_timer_raises}
use Rattle.ep_object.specs.Next.{timer_of}
use Rattle.ep_table.specs.Live.{key_of}
use Rattle.ep_table.specs.Value.{Seen, Sound, content_of, number_under}

-- What the clock raises at one object by a moment, where it has its moment.
module _ (law : NextTellsAdvance) (since now : ℕ) where
  same_come : (next : Option ℕ) → is_due now next ≡ has_come now (Some next)
  same_come None = refl
  same_come (Some m) = refl

  never_comes : (o : Option (Option ℕ)) → o ≡ None → false ≡ has_come now o
  never_comes o h = ap (has_come now) (sym h)

  raises_as : (x : Object) (o : Option (Option ℕ)) → IsSetFor (timer_of x) since o → nat_lt 0 (advance x since now) ≡ has_come now o
  raises_as x None h = ap (nat_lt 0) (no_timer_raises x since now (set_none (timer_of x) since h))
  raises_as x (Some next) h = arrival_told law x since now next (set_next (timer_of x) since next h) ∙ same_come next

  raises_at : (f : Files) (d : Option ℕ) (n : ℕ) (o : Option (Option ℕ)) → d ≡ Some n → IsSetFor (timer_at f d) since o → nat_lt 0 (advance (content_of f (unwrap_or d 0)) since now) ≡ has_come now o
  raises_at f None n o is h = absurd (cc)
  raises_at f (Some d) n o is h = raises_as (content_of f d) o h

  lives_come : (f : Files) (d : Option ℕ) (o : Option (Option ℕ)) → IsSetFor (timer_at f d) since o → has_come now o ≡ true → (n : ℕ) × (d ≡ Some n)
  lives_come f None o h come = absurd (false≢true (never_comes o h ∙ come))
  lives_come f (Some d) o h come = (d, refl)

module _ (law : NextTellsAdvance) (v : Seen) (since : ℕ) (a : Moments) (sound : Sound v) (are_set : AreSet v since a) where
  raises_under : (now k n : ℕ) → number_under v (key_of k) ≡ Some n → arrives_at v since now (key_of k) ≡ has_come now (moment_of a k)
  raises_under now k n is = raises_at law since now v.files (number_under v (key_of k)) n (moment_of a k) is (are_set k)

  -- one moment has come
  one_comes : (now k : ℕ) → has_come now (moment_of a k) ≡ true → arrives_by v.files since now ≡ true
  one_comes now k come =
      let n = lives_come law since now v.files (number_under v (key_of k)) (moment_of a k) (are_set k) come in
      under_arrives v since now sound (record { key = k; number = n.0; is = n.1; arrives = raises_under now k n.0 n.1 ∙ come })

  -- none has
  none_comes : (now : ℕ) → ((k m : ℕ) → moment_of a k ≡ Some (Some m) → now < m) → arrives_by v.files since now ≡ false
  none_comes now late = elim (cases_Bool (arrives_by v.files since now)) [
    | inl y ↦
        let one : ArrivesUnder v since now = arrives_under v since now sound y in
        absurd (false≢true (sym (not_come now (moment_of a one.key) (late one.key)) ∙ (sym (raises_under now one.key one.number one.is) ∙ one.arrives)))
    | inr n ↦ n
  ]

  pub earliest_tells : (o : Option ℕ) → MatchOption o (HasNoMoment a) (λ m. IsEarliest a m) → TellsArrival v.files since o
  earliest_tells None none = λ now. sym (none_comes now (λ k m its. absurd (none k m its)))
  earliest_tells (Some m) e = λ now. elim (cases_Bool (is_due now (Some m))) [
    | inl y ↦ y ∙ sym (one_comes now e.key (ap (has_come now) e.its ∙ y))
    | inr n ↦ n ∙ sym (none_comes now (λ k j its. omega (arith, leb-false m now n, e.least k j its)))
  ]
