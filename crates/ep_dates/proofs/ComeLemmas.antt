-- Some stages one way, and then what turned by them.
use Rattle.std.proofs.Common.{◌≡◌, ◌++◌, ◌||◌, ◌∙◌, Bool, List, [], ap, drop, false, inl, inr, length, refl, subst, sym, true, ℕ}
use Rattle.std.proofs.lemmas.Bool.{cases_Bool, false≢true}
use Rattle.std.proofs.Math.Seq.{drop-append_seam}
use Rattle.ep_facts.proofs.BoolFacts.{or_cases}
use Rattle.ep_calls.specs.Parts.{Parts}
use Rattle.ep_dates.proofs.AskLemmas.{shows_rises}
use Rattle.ep_dates.proofs.EachLemmas.{fresh_is}
use Rattle.ep_dates.proofs.TurnLemmas.{settled_on, turns_both, turns_less}
use Rattle.ep_dates.specs.Ask.{AreSettled, AreWatched, Asks, IsSettled, shows_over}
use Rattle.ep_dates.specs.Dates.{Dates}
use Rattle.ep_dates.specs.Touched.{is_on_any, watches_any, watches_fresh}
use Rattle.ep_interest.specs.Registrations.{entry_under}
use Rattle.ep_machine.specs.Lists.{is_among}
use Rattle.ep_walk.specs.Walk.{Walk}

module _ (way : Bool) (n : ℕ) (p : Parts) where
  pub both_stages : (f g : ℕ → Bool) (a b c : Dates) → Asks way n p f a b → Asks way n p g b c → Asks way n p (λ k. f k || g k) a c
  both_stages f g a b c s t = turns_both way n p.interest (shows_over p) (shows_rises p) f g a b c s t

  -- all that were asked are settled but for what is noted
  pub stage_settled : (f : ℕ → Bool) (a b : Dates) → Asks way n p f a b → a.turned.reached ≡ [] → AreSettled way p.interest (shows_over p) b b.turned.reached f
  stage_settled f a b t none id x at h =
      let noted : b.turned.reached ≡ t.more = ap (λ (w : Walk). w.reached) t.turned ∙ ap (λ (ks : List ℕ). ks ++ t.more) none in
      subst (λ (ks : List ℕ). IsSettled way (shows_over p) b ks x) (sym noted) (t.settled id x at h)

  -- some stages, and then what turned by them
  pub whole_way : (f : ℕ → Bool) (a b c d : Dates) → b ≡ a → Asks way n p f b c → Asks way n p (λ k. false) c d → Asks way n p (λ k. false) a d
  whole_way f a b c d same s t =
      subst (λ (e : Dates). Asks way n p (λ k. false) e d) same
      (turns_less way n p.interest (shows_over p) (shows_rises p) (λ k. f k || false) (λ k. false) b d (λ k h. absurd (false≢true h)) (both_stages f (λ k. false) b c d s t))

  -- two such ways
  pub both_ways : (f g : ℕ → Bool) (a b c d e h : Dates) → b ≡ a → Asks way n p f b c → Asks way n p (λ k. false) c d → Asks way n p g d e → Asks way n p (λ k. false) e h → Asks way n p (λ k. false) a h
  both_ways f g a b c d e h same s t u w =
      let half = whole_way f a b c d same s t in whole_way (λ k. false || g k) a a e h refl (both_stages (λ k. false) g a d e half u) w

  -- those on instances: some that aren't noted were asked, and on the others all are settled
  pub above_settled : (f : ℕ → Bool) (ks : List ℕ) (b c : Dates) (t : Asks way n p (watches_fresh p.interest b.turned.reached ks) b c) → AreSettled way p.interest (shows_over p) b [] f → AreWatched way p b b.turned.reached
      → AreSettled way p.interest (shows_over p) c (drop (length b.turned.reached) c.turned.reached) (λ k. f k || watches_any p.interest ks k)
  above_settled f ks b c t settled watched id x at h =
      subst (λ (l : List ℕ). IsSettled way (shows_over p) c l x) (sym noted) (elim (or_cases (f id.0) (watches_any p.interest ks id.0) h) [
        | inl early ↦ on (settled id x at early)
        | inr any ↦
            let there : is_among ks x.desc.0 ≡ true = sym (ap (is_on_any ks) at) ∙ any in
            elim (cases_Bool (is_among b.turned.reached x.desc.0)) [
              | inl known ↦ on (watched id x at known)
              | inr absent ↦ t.settled id x at (fresh_is b.turned.reached ks x (entry_under p.interest id) at there absent)
            ]
      ]) where
        noted : drop (length b.turned.reached) c.turned.reached ≡ t.more
        noted = ap (λ (w : Walk). drop (length b.turned.reached) w.reached) t.turned ∙ drop-append_seam b.turned.reached t.more

        on : IsSettled way (shows_over p) b [] x → IsSettled way (shows_over p) c t.more x
        on s = settled_on way n p.interest (shows_over p) (shows_rises p) (watches_fresh p.interest b.turned.reached ks) b c t [] id x at s
