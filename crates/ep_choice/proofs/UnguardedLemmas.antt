-- If no registration is exclusive, no instance is guarded.
use Rattle.std.proofs.Common.{◌≡◌, ◌∙◌, ◌==◌, ◌&&◌, ◌||◌, ℕ, zero, suc, false, List, [], ◌∷◌, inl, inr, refl}
use Rattle.std.specs.List.{list_any}
use Rattle.ep_facts.proofs.BoolFacts.{and_false_or}
use Rattle.ep_law.specs.Laws.{Member}
use Rattle.ep_machine.specs.Exclusive.{is_guarded, is_guarded_within}
use Rattle.ep_machine.specs.State.{State, Watch}
use Rattle.ep_machine.specs.Watches.{is_exclusive}

none_within : (s : State) → ((x : Watch) → Member x s.watches → is_exclusive x ≡ false) → (k e : ℕ) → is_guarded_within k s e ≡ false
none_within s none zero e = refl
none_within s none (suc k) e = each (λ d. none_within s none k d) s.watches none where
  each : ((d : ℕ) → is_guarded_within k s d ≡ false) → (xs : List Watch) → ((x : Watch) → Member x xs → is_exclusive x ≡ false) → list_any (λ x. x.instance == e && (is_exclusive x || is_guarded_within k s x.target)) xs ≡ false
  each below [] h = refl
  each below (x ∷ xs) h = (λ i. x.instance == e && (h x (inl refl) i || below x.target i) || each below xs (λ y m. h y (inr m)) i) ∙ and_false_or (x.instance == e)

pub none_guarded : (s : State) → ((x : Watch) → Member x s.watches → is_exclusive x ≡ false) → (e : ℕ) → is_guarded s e ≡ false
unfolding is_guarded
none_guarded s none e = none_within s none 5 e
