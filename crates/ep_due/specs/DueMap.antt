-- What contracts see of moments under keys.
use Rattle.std.specs.Map.{lookup}
use Rattle.std.specs.Prelude.{IsSome, List, None, Option, Some, if◌then◌else◌, nat_eq, ℕ, ◌<◌, ◌≡◌, ◌≤◌}
use Rattle.ep_due.specs.declared.due.DuePlace.{DuePlace}
use Rattle.ep_due.specs.DueQueue.{HasFreePlace, moment_at}

-- the moments by place, the place of each key, and how many keys more fit into either table without memory
pub record Moments : Type 0 where
  pub queue : List (Option (Option ℕ))
  pub places : List (ℕ × DuePlace)
  pub spare_places : ℕ
  pub spare_owners : ℕ

abbrev pub moment_at_place : List (Option (Option ℕ)) → Option DuePlace → Option (Option ℕ)
moment_at_place queue None = None
moment_at_place queue (Some p) = moment_at queue p.0

-- a key's moment: `None` for what isn't among them, `Some None` for what has none
abbrev pub moment_of : Moments → ℕ → Option (Option ℕ)
moment_of d key = moment_at_place d.queue (lookup (nat_eq key) d.places)

-- each key has a place, each place that is in use its key
pub record AreOwned (queue : List (Option (Option ℕ))) (places : List (ℕ × DuePlace)) (owners : List (ℕ × ℕ)) : Type 0 where
  pub used : (key : ℕ) (p : DuePlace) → lookup (nat_eq key) places ≡ Some p → IsSome (moment_at queue p.0)
  pub owned : (key : ℕ) (p : DuePlace) → lookup (nat_eq key) places ≡ Some p → lookup (nat_eq p.0) owners ≡ Some key
  pub placed : (p : ℕ) → IsSome (moment_at queue p)
      → (key : ℕ) × (lookup (nat_eq p) owners ≡ Some key) × (lookup (nat_eq key) places ≡ Some (record { 0 = p }))

-- one key more takes no memory
pub record HasRoom (d : Moments) : Type 0 where
  pub places : 0 < d.spare_places
  pub owners : 0 < d.spare_owners
  pub queue : HasFreePlace d.queue

-- each key has the moment that it had
abbrev pub SameMoments : Moments → Moments → Type 0
SameMoments old new = (k : ℕ) → moment_of new k ≡ moment_of old k

-- one key's moment is as given, the others stay
abbrev pub SetsMoment : Moments → Moments → ℕ → Option (Option ℕ) → Type 0
SetsMoment old new key moment = (k : ℕ) → moment_of new k ≡ (if nat_eq key k then moment else moment_of old k)

-- no moment has come
abbrev pub HasNoneReached : Moments → ℕ → Type 0
HasNoneReached d now = (key m : ℕ) → moment_of d key ≡ Some (Some m) → now < m

-- this key's moment has come
pub record IsReachedAt (d : Moments) (now key : ℕ) : Type 0 where
  pub moment : ℕ
  pub its : moment_of d key ≡ Some (Some moment)
  pub reached : moment ≤ now

-- no key has a moment
abbrev pub HasNoMoment : Moments → Type 0
HasNoMoment d = (key m : ℕ) → moment_of d key ≡ Some (Some m) → ⊥

-- a key has this moment, and none has a smaller one
pub record IsEarliest (d : Moments) (moment : ℕ) : Type 0 where
  pub key : ℕ
  pub its : moment_of d key ≡ Some (Some moment)
  pub least : (k m : ℕ) → moment_of d k ≡ Some (Some m) → moment ≤ m
