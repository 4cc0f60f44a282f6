-- What an event raises before any description dies, and what that does to registrations.
use Rattle.std.specs.Prelude.{◌≡◌, ◌≤◌, Bool, IsSome, List, MatchOption, None, Option, Some, [], map}
use Rattle.std.specs.Prelude.{unwrap_or, true, ℕ, ℤ, ◌==◌, ◌∷◌}
use Rattle.ep_base.specs.declared.errno.Errno.{Errno}
use Rattle.ep_base.specs.declared.errno.Errno.TheVariants.{Ebadf}
use Rattle.ep_base.specs.declared.ids.DescId.{DescId}
use Rattle.ep_base.specs.declared.mask.Mask.{Mask}
use Rattle.ep_base.specs.declared.object.Raised.{Raised}
use Rattle.ep_interest.specs.Registrations.{Registrations, raised_on}
use Rattle.ep_interest.specs.declared.entry.Entry.{Entry}
use Rattle.ep_machine.specs.Bits.{IN, at_end, nothing, when}
use Rattle.ep_machine.specs.Effect.{first}
use Rattle.ep_machine.specs.Files.{Files, Place, named_by, names_nothing, object_at, object_number, object_of, object_under, place_of, side_of, side_under}
use Rattle.ep_machine.specs.Objects.{ObjectCall, advance, is_instance, object_refusals, plain}
use Rattle.ep_view.specs.AtRest.{can_be_watched}
use Rattle.ep_machine.specs.Spread.{raised_of}
use Rattle.ep_machine.specs.State.{Change}
use Rattle.ep_machine.specs.Tables.{affected_raises}
use Rattle.ep_machine.specs.Timer.{last_moment}
use Rattle.ep_calls.specs.ObjectCall.{object_effect_of}
use Rattle.ep_calls.specs.declared.raising.Raising.{Raising}
use Rattle.ep_calls.specs.declared.raising.Raising.TheVariants.{Clock, Instance, Losses, Nowhere, Object}
use Rattle.ep_table.specs.Closing.{IsAt, across, opposite}
use Rattle.ep_table.specs.Live.{live_ids}
use Rattle.ep_table.specs.Value.{AreLive, Seen, content_of, losses_of, number_of, number_under}
use Rattle.ep_table.specs.declared.words.Loss.{Loss}

-- what the last call on the tables raised by letting connections go, at a description
abbrev pub lost_at : Seen → ℕ → ℕ
lost_at v d = raised_of (losses_of v.keys v.losses) d

-- its descriptions live, its moment is one, and no call raises anything at the object of an instance
abbrev pub IsRaising : Raising → Seen → Type 0
IsRaising Nowhere v = Unit {0}
IsRaising (Object desc raised) v =
    IsSome (number_under v desc)
    × (is_instance (content_of v.files (number_of v desc)) ≡ true → raised ≡ nothing)
IsRaising (Instance desc) v = IsSome (number_under v desc)
IsRaising Losses v =
    AreLive v.keys v.losses × ((d : ℕ) → is_instance (content_of v.files d) ≡ true → lost_at v d ≡ 0)
IsRaising (Clock since) v = since ≤ last_moment

-- the clock is not what raises
abbrev pub IsUntimed : Raising → Type 0
IsUntimed (Clock since) = ⊥
IsUntimed raising = Unit {0}

-- at a description, where there is one
abbrev pub raised_there : Option DescId → Mask → ℕ → Entry → Entry
raised_there None bits n x = x
raised_there (Some desc) bits n x = raised_on desc bits n x

abbrev pub bits_of : ℕ → Mask
bits_of bits = record { 0 = bits }

-- what is raised at a description and at the one across
pub record RaisesObject (v : Seen) (desc : DescId) (raised : Raised) (n : ℕ) (old new : Registrations) : Type 0 where
  pub other : Option DescId
  pub is_at : IsAt v.files v.keys (across (place_of v.files (number_of v desc))) other
  pub entries : new.entries
      ≡ map (raised_there other (bits_of (at_end raised (opposite (side_of v.files (number_of v desc))))) n)
      (map (raised_on desc (bits_of (at_end raised (side_of v.files (number_of v desc)))) n) old.entries)
  pub keys : new.keys ≡ old.keys
  pub added : new.added ≡ old.added

-- what is raised at a description by the clock going on
abbrev pub due_bits : Seen → ℕ → ℕ → DescId → Mask
due_bits v since now desc = bits_of (advance (content_of v.files (number_of v desc)) since now)

-- at each of these in turn
abbrev pub raised_each : (DescId → Mask) → ℕ → List DescId → List Entry → List Entry
raised_each bits n [] xs = xs
raised_each bits n (id ∷ ids) xs = raised_each bits n ids (map (raised_on id (bits id) n) xs)

-- where connections were let go, at each description in turn
abbrev pub raised_where : ℕ → List Loss → List Entry → List Entry
raised_where n [] xs = xs
raised_where n (l ∷ ls) xs = raised_where n ls (map (raised_on l.desc l.raised n) xs)

-- in event n
abbrev pub Stirs : Raising → Seen → ℕ → ℕ → Registrations → Registrations → Type 0
Stirs Nowhere v now n old new = new ≡ old
Stirs (Object desc raised) v now n old new = RaisesObject v desc raised n old new
Stirs (Instance desc) v now n old new =
    (new.entries ≡ map (raised_on desc (bits_of IN) n) old.entries) × (new.added ≡ old.added) × (new.keys ≡ old.keys)
Stirs Losses v now n old new =
    (new.entries ≡ raised_where n v.losses old.entries) × (new.added ≡ old.added) × (new.keys ≡ old.keys)
Stirs (Clock since) v now n old new =
    (new.entries ≡ raised_each (due_bits v since now) n (live_ids v.keys) old.entries) × (new.added ≡ old.added) × (new.keys ≡ old.keys)

-- The bits that are raised at each description.
abbrev pub object_bits : ℕ → Raised → Option Place → ℕ
object_bits k raised None = 0
object_bits k raised (Some p) = when (p.object == k) (at_end raised p.side)

abbrev pub clock_bits : Files → ℕ → ℕ → Option Place → ℕ
clock_bits files since now None = 0
clock_bits files since now (Some p) = advance (unwrap_or (object_at files (Some p)) plain) since now

abbrev pub raised_bits : Raising → Seen → ℕ → ℕ → ℕ
raised_bits Nowhere v now d = 0
raised_bits (Object desc raised) v now d = object_bits (object_number (place_of v.files (number_of v desc))) raised (place_of v.files d)
raised_bits (Instance desc) v now d = when (number_of v desc == d) IN
raised_bits Losses v now d = lost_at v d
raised_bits (Clock since) v now d = clock_bits v.files since now (place_of v.files d)

-- the kernel notes what the machine raises, at each description
abbrev pub AsRaised : Raising → Seen → ℕ → List (ℕ × ℕ) → Type 0
AsRaised raising v now raised = (d : ℕ) → raised_of raised d ≡ raised_bits raising v now d

-- and at all that can be watched
abbrev pub AsRaisedIn : Files → Raising → Seen → ℕ → List (ℕ × ℕ) → Type 0
AsRaisedIn files raising v now raised = (d : ℕ) → can_be_watched (object_of files d) ≡ true → raised_of raised d ≡ raised_bits raising v now d

-- of a call on the object that a descriptor names: nothing where it is refused
abbrev pub RaisesByCall : Seen → Seen → ℕ → ℤ → ℕ → ObjectCall → Raising → Type 0
RaisesByCall old new p fd now asked raising =
    MatchOption (first ((names_nothing old.files p fd, Ebadf) ∷ object_refusals (object_under old.files p fd) (side_under old.files p fd) now asked))
    (AsRaised raising new now (affected_raises old.files (named_by old.files p fd) (object_effect_of old.files p fd now asked)))
    (λ e. AsRaised raising new now [])

-- where a call has these refusals, and the machine this change
abbrev pub Raises : List (Bool × Errno) → Option Change → Raising → Seen → ℕ → Type 0
Raises refusals o raising v now = MatchOption (first refusals)
    ((made : Change) → o ≡ Some made → AsRaisedIn made.1.files raising v now made.2)
    (λ e. AsRaised raising v now [])
