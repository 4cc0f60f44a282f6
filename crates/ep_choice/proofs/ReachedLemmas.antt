-- What was reached before the climb is reached after it.
use Rattle.std.proofs.Common.{◌≡◌, ◌∙◌, ◌==◌, ◌&&◌, ◌||◌, ℕ, zero, suc, Bool, List, [], ◌∷◌, Option, ap, is_some, map, refl, subst, sym}
use Rattle.std.specs.List.{list_any}
use Rattle.ep_calls.specs.Climb.{risen}
use Rattle.ep_calls.specs.Ends.{Spreads}
use Rattle.ep_calls.specs.Parts.{Parts}
use Rattle.ep_calls.specs.Stands.{number_at, watch_at}
use Rattle.ep_calls.specs.declared.raising.Raising.{Raising}
use Rattle.ep_climb.specs.Reach.{AreReached}
use Rattle.ep_interest.specs.declared.entry.Entry.{Entry}
use Rattle.ep_machine.specs.Files.{Files}
use Rattle.ep_table.specs.Value.{Seen, number_under}
use Rattle.ep_view.specs.KernelView.{any_within, carries, reached_now}

-- What is fresh plays no part in what is reached.
module _ (keys : List (Option ℕ)) (files : Files) (n : ℕ) (up : ℕ → Bool) (v : Seen) where
  any_risen : (r : ℕ → Bool) (e : ℕ) (xs : List Entry)
      → list_any (λ w. w.instance == e && carries r files n w) (map (watch_at keys) (map (risen up v) xs)) ≡ list_any (λ w. w.instance == e && carries r files n w) (map (watch_at keys) xs)
  any_risen r e [] = refl
  any_risen r e (x ∷ xs) = ap (λ (b : Bool). (watch_at keys x).instance == e && carries r files n (watch_at keys x) || b) (any_risen r e xs)

  within_risen : (k : ℕ) (xs : List Entry)
      → any_within (λ reached x. carries reached files n x) k (map (watch_at keys) (map (risen up v) xs)) ≡ any_within (λ reached x. carries reached files n x) k (map (watch_at keys) xs)
  within_risen zero xs = refl
  within_risen (suc k) xs = λ i e.
      (ap (λ (r : ℕ → Bool). list_any (λ w. w.instance == e && carries r files n w) (map (watch_at keys) (map (risen up v) xs))) (within_risen k xs)
      ∙ any_risen (any_within (λ reached x. carries reached files n x) k (map (watch_at keys) xs)) e xs) i

  reached_risen : (xs : List Entry) → reached_now files n (map (watch_at keys) (map (risen up v) xs)) ≡ reached_now files n (map (watch_at keys) xs)
  unfolding reached_now
  reached_risen xs = within_risen 5 xs

pub reached_left : (n : ℕ) (raising : Raising) (mid left : Parts) (spreads : Spreads n raising mid left) (ks : List ℕ) → AreReached n spreads.buried.tables spreads.buried.interest ks → AreReached n left.tables left.interest ks
reached_left n raising mid left spreads ks reached =
    let v = spreads.buried.tables in
    let was = spreads.buried.interest.entries in
    let same : reached_now v.files n (map (watch_at v.keys) left.interest.entries) ≡ reached_now v.files n (map (watch_at v.keys) was) =
    ap (λ (xs : List Entry). reached_now v.files n (map (watch_at v.keys) xs)) spreads.rises.entries ∙ reached_risen v.keys v.files n (reached_now v.files n (map (watch_at v.keys) was)) v was in
    subst (λ (u : Seen). AreReached n u left.interest ks) (sym (ap (λ (p : Parts). p.tables) spreads.others))
    (λ i. reached i ∙ ap (λ (up : ℕ → Bool). is_some (number_under v i) && up (number_at v.keys i)) (sym same))
