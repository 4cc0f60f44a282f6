-- An end of an object closes.
use Rattle.std.specs.Prelude.{Bool, List, None, Option, Some, [], false, is_some, slice_set, true, ℕ, ◌∷◌, ◌||◌, ◌≡◌, ◌≢◌}
use Rattle.ep_base.specs.declared.ids.DescId.{DescId}
use Rattle.ep_base.specs.declared.object.End.{End}
use Rattle.ep_base.specs.declared.object.End.TheVariants.{First, Second}
use Rattle.ep_base.specs.declared.object.Raised.{Raised}
use Rattle.ep_machine.specs.Bits.{nothing}
use Rattle.ep_machine.specs.Deaths.{die}
use Rattle.ep_machine.specs.Files.{Files, Place, place_of}
use Rattle.ep_machine.specs.Objects.{close_end, is_waiting}
use Rattle.ep_table.specs.Value.{Seen, Things, content_of, files_in, number_at, number_under}
use Rattle.ep_table.specs.declared.words.Dead.{Dead}
use Rattle.ep_table.specs.declared.words.Shared.{Shared}

abbrev pub opposite : End → End
opposite First = Second
opposite Second = First

-- where the other end of a place is
abbrev pub across : Option Place → Place
across None = record { object = 0; side = First }
across (Some p) = record { object = p.object; side = opposite p.side }

-- the key of the description at a place, or that there is none
pub record IsAt (files : Files) (keys : List (Option ℕ)) (p : Place) (o : Option DescId) : Type 0 where
  pub some : (k : DescId) → o ≡ Some k → (d : ℕ) × (number_at keys k ≡ Some d) × (place_of files d ≡ Some p)
  pub none : o ≡ None → (d : ℕ) → place_of files d ≢ Some p

abbrev pub other_key : Shared → End → Option DescId
other_key s First = s.second
other_key s Second = s.first

-- the object with this end closed and its key forgotten
abbrev pub closed_in : Shared → End → Shared
closed_in s First = record s { object = (close_end s.object First).0; first = None }
closed_in s Second = record s { object = (close_end s.object Second).0; second = None }

-- it stays where the other end has a description, or where somebody may accept that end
abbrev pub remains : Shared → End → Bool
remains s e = is_some (other_key s e) || is_waiting (closed_in s e).object

abbrev pub kept_if : Bool → Shared → Option Shared
kept_if true s = Some s
kept_if false s = None

abbrev pub closed_slot : Option Shared → End → Option Shared
closed_slot None e = None
closed_slot (Some s) e = kept_if (remains s e) (closed_in s e)

abbrev pub raised_slot : Option Shared → End → Raised
raised_slot None e = nothing
raised_slot (Some s) e = (close_end s.object e).1

abbrev pub other_slot : Option Shared → End → Option DescId
other_slot None e = None
other_slot (Some s) e = other_key s e

-- the first of those that nothing names or holds died
pub record Dies (old new : Things) (dead : Dead) : Type 0 where
  pub number : ℕ
  pub key_is : number_at old.keys dead.desc ≡ Some number
  pub dying : old.dying ≡ number ∷ new.dying
  pub place : Place
  pub place_is : place_of (files_in old) number ≡ Some place
  pub files : files_in new ≡ (die (files_in old, []) (number, place)).0
  pub keys : new.keys ≡ slice_set old.keys dead.desc.0 None
  pub names : new.names ≡ old.names
  pub holds : new.holds ≡ old.holds
  pub named : new.named ≡ old.named
  pub losses : new.losses ≡ old.losses
  pub end_is : dead.end ≡ place.side
  pub raised_is : dead.raised ≡ (close_end (content_of (files_in old) number) place.side).1
  pub other : IsAt (files_in new) new.keys (across (Some place)) dead.other

-- the first of those that nothing names or holds died and was taken
pub record Takes (old new : Seen) (dead : Dead) : Type 0 where
  pub number : ℕ
  pub key_is : number_under old dead.desc ≡ Some number
  pub dying : old.dying ≡ number ∷ new.dying
  pub place : Place
  pub place_is : place_of old.files number ≡ Some place
  pub files : new.files ≡ (die (old.files, []) (number, place)).0
  pub keys : new.keys ≡ slice_set old.keys dead.desc.0 None
  pub limits : new.limits ≡ old.limits
  pub holds : new.holds ≡ old.holds
  pub losses : new.losses ≡ old.losses
  pub end_is : dead.end ≡ place.side
  pub raised_is : dead.raised ≡ (close_end (content_of old.files number) place.side).1
  pub other : IsAt new.files new.keys (across (Some place)) dead.other
