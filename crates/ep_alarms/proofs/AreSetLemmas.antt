-- The moments of timers over a call that keeps keys.
use Rattle.std.proofs.Common.{◌≡◌, ◌≢◌, ◌∙◌, ℕ, false, None, Option, Some, ap, inl, inr, is_some, refl, subst, sym, unwrap_or}
use Rattle.std.proofs.lemmas.Bool.{cases_Bool}
use Rattle.ep_due.specs.DueMap.{Moments, moment_of}
use Rattle.ep_machine.specs.Files.{Files, Place, is_live, object_at, place_of}
use Rattle.ep_machine.specs.Objects.{plain}
use Rattle.ep_machine.specs.Timer.{Timer}
use Rattle.ep_alarms.proofs.SetLemmas.{some_none}
use Rattle.ep_alarms.specs.Alarms.{AreSet, AreSetBut, IsSetFor}
use Rattle.ep_alarms.specs.Timers.{timer_at, timer_under}
use Rattle.ep_object.specs.Next.{timer_of}
use Rattle.ep_table.specs.Live.{key_of}
use Rattle.ep_table.specs.Value.{KeepsKeys, Seen, Sound, content_of, number_under}

-- the timer of a description, where it is live and one
abbrev pub timer_in : Files → ℕ → Option Timer
timer_in f d = timer_of (content_of f d)

no_place : (o : Option Place) → is_some o ≡ false → o ≡ None
no_place None h = refl
no_place (Some p) h = absurd cc

-- what is not live is no timer
dead_timer : (f : Files) (d : ℕ) → is_live f d ≡ false → timer_in f d ≡ None
dead_timer f d h = ap (λ (o : Option Place). timer_of (unwrap_or (object_at f o) plain)) (no_place (place_of f d) h)

module _ (v w : Seen) (now : ℕ) (a : Moments) (sound : Sound v) (sound_now : Sound w) (keeps : KeepsKeys v w) (are_set : AreSet v now a) (k : ℕ) where
  -- a key that has a number now was free, where it had another
  was_free : (d : ℕ) → number_under w (key_of k) ≡ Some d → number_under v (key_of k) ≡ None → is_live v.files d ≡ false
  was_free d is none = elim (cases_Bool (is_live v.files d)) [
    | inl y ↦
        let key = sound.keyed d y in
        let own : key.0.0 ≡ k = sound_now.one key.0 (key_of k) d (keeps key.0 d key.1) is in
        absurd (some_none d (sym key.1 ∙ (ap (λ (j : ℕ). number_under v (key_of j)) own ∙ none)))
    | inr out_of ↦ out_of
  ]

  by_old : (d : ℕ) → number_under w (key_of k) ≡ Some d → (o : Option ℕ) → number_under v (key_of k) ≡ o → timer_in v.files d ≡ timer_under v k
  by_old d is None was = dead_timer v.files d (was_free d is was) ∙ sym (ap (timer_at v.files) was)
  by_old d is (Some e) was =
      let both : Some d ≡ Some e = sym is ∙ keeps (key_of k) e was in
      let same : d ≡ e = cc in
      ap (timer_in v.files) same ∙ sym (ap (timer_at v.files) was)

  by_new : (o : Option ℕ) → number_under w (key_of k) ≡ o → ((d : ℕ) → number_under w (key_of k) ≡ Some d → timer_in w.files d ≡ timer_in v.files d) → timer_under w k ≡ timer_under v k
  by_new None is same = ap (timer_at w.files) is ∙ sym (ap (timer_at v.files) (gone (number_under v (key_of k)) refl))
    where
      gone : (o : Option ℕ) → number_under v (key_of k) ≡ o → number_under v (key_of k) ≡ None
      gone None was = was
      gone (Some e) was = absurd (some_none e (sym (keeps (key_of k) e was) ∙ is))
  by_new (Some d) is same = ap (timer_at w.files) is ∙ (same d is ∙ by_old d is (number_under v (key_of k)) refl)

  pub kept_at : ((d : ℕ) → number_under w (key_of k) ≡ Some d → timer_in w.files d ≡ timer_in v.files d) → IsSetFor (timer_under w k) now (moment_of a k)
  kept_at same = subst (λ (t : Option Timer). IsSetFor t now (moment_of a k)) (sym (by_new (number_under w (key_of k)) refl same)) (are_set k)

-- where each timer keeps its content
pub set_kept : (v w : Seen) (now : ℕ) (a : Moments) → Sound v → Sound w → KeepsKeys v w → ((d : ℕ) → timer_in w.files d ≡ timer_in v.files d) → AreSet v now a → AreSet w now a
set_kept v w now a sound sound_now keeps same are_set = λ k. kept_at v w now a sound sound_now keeps are_set k (λ d is. same d)

-- where one description's timer was made, set or read
pub set_but : (v w : Seen) (now : ℕ) (a : Moments) (key number : ℕ) → Sound v → Sound w → KeepsKeys v w → number_under w (key_of key) ≡ Some number
    → ((d : ℕ) → d ≢ number → timer_in w.files d ≡ timer_in v.files d) → AreSet v now a → AreSetBut w now key a
set_but v w now a key number sound sound_now keeps its same are_set = λ k ne.
    kept_at v w now a sound sound_now keeps are_set k (λ d is. same d (λ e. ne (sound_now.one (key_of k) (key_of key) number (is ∙ ap (λ (j : ℕ). Some j) e) its)))
