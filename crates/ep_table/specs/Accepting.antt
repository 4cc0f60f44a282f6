-- A connection that waits at a listener is accepted.
use Rattle.std.specs.Prelude.{Bool, IsSome, List, false, None, Some, [], length, slice_get, slice_set, ℕ, ℤ, ◌++◌, ◌∷◌, ◌≡◌}
use Rattle.ep_base.specs.declared.ids.DescId.{DescId}
use Rattle.ep_base.specs.declared.object.End.TheVariants.{Second}
use Rattle.ep_machine.specs.Connections.{accept, accepted, first_waiting, pending_in, without_pending}
use Rattle.ep_machine.specs.Effect.{first as first_of}
use Rattle.ep_machine.specs.Files.{Files, content_at, object_number, place_of, under}
use Rattle.ep_machine.specs.FilesCalls.{accept_of}
use Rattle.ep_table.specs.Value.{AddsKey, Gains, Seen, Things, content_of, files_in, number_of, number_under, thing_number}
use Rattle.ep_table.specs.declared.words.Found.{Found}

-- what was found at a listener is the first of those that wait there, in its place
pub record FindsFirst (s : Files) (ks : List ℕ) (found : Found) : Type 0 where
  pub first : first_waiting s ks ≡ Some found.number
  pub place : slice_get ks found.index ≡ Some found.number

-- the second end of the connection of a number has a description more, under this key, with one name
pub record Describes (old new : Things) (number : ℕ) (key : DescId) : Type 0 where
  pub descriptions : new.descriptions ≡ old.descriptions ++ Some (record { object = number; side = Second }) ∷ []
  pub objects : new.objects ≡ slice_set old.objects number (Some (accepted (content_at (files_in old) number)))
  pub keys : AddsKey old.keys new.keys key (length old.descriptions)
  pub names : new.names ≡ old.names ++ 1 ∷ []
  pub holds : new.holds ≡ old.holds ++ 0 ∷ []
  pub dying : new.dying ≡ old.dying
  pub named : new.named ≡ old.named
  pub losses : new.losses ≡ []

-- and no longer waits at the listener under another key
pub record Accepts (old new : Things) (listener : DescId) (number : ℕ) (key : DescId) : Type 0 where
  pub middle : Things
  pub described : Describes old middle number key
  pub left : new ≡ record middle {
    objects = slice_set middle.objects (object_number (place_of (files_in old) (thing_number old listener)))
        (Some (without_pending number (content_of (files_in old) (thing_number old listener))));
  }

-- what was found at the listener that a descriptor names, where nothing refuses an accept there
pub record IsAcceptable (v : Seen) (p : ℕ) (fd : ℤ) (found : Found) : Type 0 where
  pub live : IsSome (number_under v found.listener)
  pub named : Some (number_of v found.listener) ≡ under v.files p fd
  pub first : FindsFirst v.files (pending_in (content_of v.files (number_of v found.listener))) found
  pub free : first_of (accept_of v.limits v.files p fd false).refusals ≡ None

-- it is accepted, by a process
pub record AcceptsAt (old new : Seen) (p : ℕ) (found : Found) (cloexec : Bool) : Type 0 where
  pub files : new.files ≡ accept old.files p (object_number (place_of old.files (number_of old found.listener))) (Some found.number) cloexec
  pub keys : Gains old.keys new.keys (length old.files.descriptions)
  pub limits : new.limits ≡ old.limits
  pub holds : new.holds ≡ old.holds ++ 0 ∷ []
  pub dying : new.dying ≡ old.dying
  pub losses : new.losses ≡ []
