-- Circles of keys, one for each owner that has some.
use Rattle.std.specs.Prelude.{◌≡◌, ◌≢◌, ◌<◌, ◌+◌, ◌-◌, ◌==◌, ◌++◌, ℕ, All, Contains, List, [], ◌∷◌, Option, Some, None, filter, length, nat_eq, nat_lt, not, if◌then◌else◌}
use Rattle.ep_rings.specs.Links.{next_of, prev_of}
use Rattle.ep_rings.specs.Ring.{IsRing, walk}
use Rattle.ep_rings.specs.declared.circle.Circle.{Circle}
use Rattle.ep_rings.specs.declared.link.Link.{Link}

-- a key more at the end
abbrev pub lengthened : ℕ → Option Circle → Circle
lengthened key None = record { first = key; len = 1 }
lengthened key (Some c) = record { first = c.first; len = c.len + 1 }

-- the circle without a key that another follows
abbrev pub without : ℕ → ℕ → Circle → Circle
without key next c = record { first = if c.first == key then next else c.first; len = c.len - 1 }

-- a key less, and no circle without keys
abbrev pub shortened : ℕ → ℕ → Option Circle → Option Circle
shortened key next None = None
shortened key next (Some c) = if nat_lt 1 c.len then Some (without key next c) else None

-- the circle from its second key on, with the first one at the end
abbrev pub turned : (ℕ → ℕ) → Circle → Circle
turned next c = record { first = next c.first; len = c.len }

-- the keys of a circle, the first one first
abbrev pub keys_in : (ℕ → ℕ) → Option Circle → List ℕ
keys_in next None = []
keys_in next (Some c) = walk next c.len c.first

-- the keys of a circle are these, each links to the next and the one before, and the last to the first
abbrev pub IsCircle : (ℕ → ℕ) → (ℕ → ℕ) → Option Circle → List ℕ → Type 0
IsCircle next prev None xs = xs ≡ []
IsCircle next prev (Some c) xs = (rest : List ℕ) × (xs ≡ c.first ∷ rest) × (c.len ≡ length xs) × IsRing next prev c.first rest

-- each owner has these keys, all of them below a number, and no key of another owner
pub record AreRows (next prev : ℕ → ℕ) (circle : ℕ → Option Circle) (many : ℕ) (row : ℕ → List ℕ) : Type 0 where
  pub circles : (i : ℕ) → IsCircle next prev (circle i) (row i)
  pub within : (i : ℕ) → All (λ k. k < many) (row i)
  pub apart : (i j : ℕ) → i ≢ j → All (λ k. All (λ l. l ≢ k) (row j)) (row i)

-- the keys of an owner, in order, by the links and where each circle begins
abbrev pub row_of : List Link → (ℕ → Option Circle) → ℕ → List ℕ
row_of links heads i = keys_in (next_of links) (heads i)

-- where the circle of each owner begins, and the owner that a call is about
pub record Whose : Type 0 where
  pub heads : ℕ → Option Circle
  pub owner : ℕ

-- where the owner's circle begins
abbrev pub own_head : Whose → Option Circle
own_head w = w.heads w.owner

-- the links go round the circles that begin so
abbrev pub AreCircles : List Link → (ℕ → Option Circle) → Type 0
AreCircles links heads = AreRows (next_of links) (prev_of links) heads (length links) (row_of links heads)

-- one owner's circle begins so, and the others' as before
abbrev pub with_head : (ℕ → Option Circle) → ℕ → Option Circle → ℕ → Option Circle
with_head heads owner circle i = if nat_eq owner i then circle else heads i

-- the links go round these circles, and none has the key
pub record CanJoin (links : List Link) (w : Whose) (key : ℕ) : Type 0 where
  pub sound : AreCircles links w.heads
  pub fresh : (i : ℕ) → All (λ k. k ≢ key) (row_of links w.heads i)

-- the links go round these circles, and the owner's has the key
pub record CanLeave (links : List Link) (w : Whose) (key : ℕ) : Type 0 where
  pub sound : AreCircles links w.heads
  pub there : Contains (row_of links w.heads w.owner) key

-- the key is at the end of the owner's circle, and each other circle is what it was
pub record Joins (old new : List Link) (w : Whose) (circle : Option Circle) (key : ℕ) : Type 0 where
  pub sound : AreCircles new (with_head w.heads w.owner circle)
  pub rows : (i : ℕ) → row_of new (with_head w.heads w.owner circle) i
      ≡ (if nat_eq w.owner i then row_of old w.heads i ++ key ∷ [] else row_of old w.heads i)
  pub many : length new ≡ length old

-- no circle has the key, and the owner's is without it
pub record Leaves (old new : List Link) (w : Whose) (circle : Option Circle) (key : ℕ) : Type 0 where
  pub sound : AreCircles new (with_head w.heads w.owner circle)
  pub rows : (i : ℕ) → row_of new (with_head w.heads w.owner circle) i
      ≡ filter (λ k. not (k == key)) (row_of old w.heads i)
  pub many : length new ≡ length old
