-- What reaches an unguarded instance reaches it with exclusive registrations left out.
use Rattle.std.proofs.Common.{◌≡◌, ℕ, Option, zero, suc, ◌==◌, ◌&&◌, ◌||◌, ◌∙◌, Bool, true, false, List, [], ◌∷◌, ap, cond, filter, inl, inr, not, refl}
use Rattle.std.specs.List.{list_any}
use Rattle.std.specs.Prelude.{bit_or}
use Rattle.std.proofs.lemmas.Bool.{or_parts}
use Rattle.ep_machine.specs.Bits.{IN, has_bit}
use Rattle.ep_machine.specs.Exclusive.{is_guarded, is_guarded_within}
use Rattle.ep_machine.specs.Files.{object_of}
use Rattle.ep_machine.specs.Objects.{Object}
use Rattle.ep_machine.specs.Spread.{is_reached, is_reached_within, passes_on_by, raised_of, reaching_of}
use Rattle.ep_machine.specs.State.{State}
use Rattle.ep_machine.specs.Watches.{is_exclusive}
use Rattle.ep_law.specs.Laws.{Member, UnguardedSpread}
use Rattle.ep_law.proofs.SpreadLemmas.{passes_same, reaching_same}

-- a test of those that are left
any_left : {X : Type 0} (p f g : X → Bool) (xs : List X) → ((x : X) → Member x xs → f x ≡ (p x && g x)) → list_any f xs ≡ list_any g (filter p xs)
any_left p f g [] h = refl
any_left p f g (x ∷ xs) h =
    let rest = any_left p f g xs (λ y m. h y (inr m)) in
    (λ i. h x (inl refl) i || rest i) ∙ by (p x) where
      by : (b : Bool) → ((b && g x) || list_any g (filter p xs)) ≡ list_any g (cond b (x ∷ filter p xs) (filter p xs))
      by true = refl
      by false = refl

pub none_member : {X : Type 0} (f : X → Bool) (xs : List X) (x : X) → list_any f xs ≡ false → Member x xs → f x ≡ false
none_member f [] x h m = absurd m
none_member f (y ∷ ys) x h (inl e) = ap f e ∙ (or_parts (f y) (list_any f ys) h).0
none_member f (y ∷ ys) x h (inr m) = none_member f ys x (or_parts (f y) (list_any f ys) h).1 m

module _ (s : State) (raised : List (ℕ × ℕ)) where
  abbrev plain : State
  plain = record s { watches = filter (λ x. not (is_exclusive x)) s.watches }

  -- if the registration is of this instance, it isn't exclusive, and it passes on alike
  left_same : (at excl guards : Bool) (a b : Bool) → (at && (excl || guards)) ≡ false → (at ≡ true → guards ≡ false → a ≡ b) → (at && a) ≡ (not excl && (at && b))
  left_same false true g a b h same = refl
  left_same false false g a b h same = refl
  left_same true true g a b h same = cc
  left_same true false g a b h same = same refl h

  within : (k : ℕ) (e : ℕ) → is_guarded_within k s e ≡ false → is_reached_within k s raised e ≡ is_reached_within k plain raised e
  within zero e h = refl
  within (suc k) e h =
      any_left (λ x. not (is_exclusive x)) (λ x. x.instance == e && passes_on_by (is_reached_within k s raised) s raised x)
      (λ x. x.instance == e && passes_on_by (is_reached_within k plain raised) plain raised x) s.watches
      (λ x m. left_same (x.instance == e) (is_exclusive x) (is_guarded_within k s x.target) _ _ (none_member _ s.watches x h m)
      (λ at free. passes_same (is_reached_within k s raised) (is_reached_within k plain raised) s raised x (λ inst. within k x.target free)))

  reached_plainly : (e : ℕ) → is_guarded s e ≡ false → is_reached s raised e ≡ is_reached plain raised e
  unfolding is_guarded is_reached
  reached_plainly e h = within 5 e h

pub unguarded_spread : UnguardedSpread
unguarded_spread s raised e free =
    let same = reached_plainly s raised e free in
    λ i. has_bit (bit_or (raised_of raised e) (by (object_of s.files e) (is_reached s raised) (is_reached (plain s raised) raised) same i)) IN where
      by : (o : Option Object) (r q : ℕ → Bool) → r e ≡ q e → reaching_of r e o ≡ reaching_of q e o
      by o r q h = reaching_same r q e o (λ inst. h)
