-- What contracts see of the tables.
use Rattle.ep_base.specs.declared.object.End.TheVariants.{First, Second}
use Rattle.std.specs.Prelude.{if◌then◌else◌, true, false, not, slice_set, ◌-◌, ◌&&◌, ◌==◌, Bool, IsSome, List}
use Rattle.std.specs.Prelude.{MatchOption, None, Option, Some, is_some, negsuc, pos, slice_index_or}
use Rattle.std.specs.Prelude.{unwrap_or, ℕ, ℤ, ◌+◌, ◌<◌, ◌≡◌, ◌≢◌, ◌∷◌, [], length, ◌++◌}
use Rattle.ep_base.specs.Limits.{Limits}
use Rattle.ep_base.specs.declared.answer.Answer.{Answer}
use Rattle.ep_base.specs.declared.answer.Answer.TheVariants.{Refused}
use Rattle.ep_base.specs.declared.errno.Errno.{Errno}
use Rattle.ep_base.specs.declared.ids.DescId.{DescId}
use Rattle.ep_machine.specs.Effect.{Effect, attempt, first}
use Rattle.ep_machine.specs.Connections.{without_abandoned}
use Rattle.ep_machine.specs.Deaths.{named_in_tables}
use Rattle.ep_machine.specs.Files.{Files, Place, is_live, numbers_of, object_of, place_of, side_of, under}
use Rattle.ep_machine.specs.FilesCalls.{FilesCall}
use Rattle.ep_machine.specs.Lists.{are_distinct, is_among, place_at}
use Rattle.ep_machine.specs.Objects.{Object, ObjectCall, is_instance, object_effect, object_refusals, plain}
use Rattle.ep_machine.specs.Spread.{raised_of}
use Rattle.ep_machine.specs.Tables.{affected, create_one, create_two, slot, with_table}
use Rattle.ep_object.specs.Memory.{object_waiting}
use Rattle.ep_table.specs.declared.words.Loss.{Loss}

pub record Seen : Type 0 where
  pub limits : Limits
  pub files : Files  -- the machine's tables, descriptions and objects
  pub keys : List (Option ℕ)  -- the number of the description under each key
  pub holds : List ℕ  -- how many waiters hold each description
  pub dying : List ℕ  -- the live descriptions that no table names and no waiter holds
  pub losses : List Loss  -- what the last call on the tables raised where connections were let go

-- the count of a number in a list of counts, 0 past its end
abbrev pub count_at : List ℕ → ℕ → ℕ
count_at counts d = slice_index_or counts d 0

abbrev pub more_at : List ℕ → ℕ → List ℕ
more_at counts d = slice_set counts d (count_at counts d + 1)

abbrev pub less_at : List ℕ → ℕ → List ℕ
less_at counts d = slice_set counts d (count_at counts d - 1)

-- how often a number stands in a list
abbrev pub times : ℕ → List ℕ → ℕ
times d [] = 0
times d (x ∷ xs) = (if d == x then 1 else 0) + times d xs

abbrev pub holds_of : Seen → ℕ → ℕ
holds_of v d = count_at v.holds d

-- the number under a key in a list of keys
abbrev pub number_at : List (Option ℕ) → DescId → Option ℕ
number_at keys key = slice_index_or keys key.0 None

abbrev pub number_under : Seen → DescId → Option ℕ
number_under v key = number_at v.keys key

-- where the key is live
abbrev pub number_of : Seen → DescId → ℕ
number_of v key = unwrap_or (number_under v key) 0

-- the number under a key that was found, or none
abbrev pub number_found : Seen → Option DescId → Option ℕ
number_found v None = None
number_found v (Some key) = number_under v key

abbrev pub natural : ℤ → Option ℕ
natural (pos k) = Some k
natural (negsuc k) = None

-- what was raised where connections were let go, by the numbers of the descriptions
abbrev pub losses_of : List (Option ℕ) → List Loss → List (ℕ × ℕ)
losses_of keys [] = []
losses_of keys (x ∷ xs) = (unwrap_or (number_at keys x.desc) 0, x.raised.0) ∷ losses_of keys xs

-- each of those is live
abbrev pub AreLive : List (Option ℕ) → List Loss → Type 0
AreLive keys [] = Unit {0}
AreLive keys (x ∷ xs) = IsSome (number_at keys x.desc) × AreLive keys xs

-- one key more, which was free
pub record AddsKey (old new : List (Option ℕ)) (key : DescId) (number : ℕ) : Type 0 where
  pub free : number_at old key ≡ None
  pub here : number_at new key ≡ Some number
  pub others : (k : DescId) → k.0 ≢ key.0 → number_at new k ≡ number_at old k

-- one key more, for this number
pub record Gains (old new : List (Option ℕ)) (number : ℕ) : Type 0 where
  pub key : DescId
  pub adds : AddsKey old new key number

-- two keys more, for this number and the next
pub record GainsTwo (old new : List (Option ℕ)) (number : ℕ) : Type 0 where
  pub middle : List (Option ℕ)
  pub first : Gains old middle number
  pub second : Gains middle new (number + 1)

-- each key keeps its number
abbrev pub KeepsKeys : Seen → Seen → Type 0
KeepsKeys old new = (key : DescId) (d : ℕ) → number_under old key ≡ Some d → number_under new key ≡ Some d

-- each description is held as often
abbrev pub KeepsHolds : Seen → Seen → Type 0
KeepsHolds old new = (d : ℕ) → holds_of new d ≡ holds_of old d

abbrev pub unwrapped : Option Object → Object
unwrapped x = unwrap_or x plain

-- the object of a description that is live
abbrev pub content_of : Files → ℕ → Object
content_of s d = unwrapped (object_of s d)

-- what is raised is what stands as lost, at each description; each of those is live, and no instance
pub record AreTold (raised : List (ℕ × ℕ)) (v : Seen) : Type 0 where
  pub bits : (d : ℕ) → raised_of raised d ≡ raised_of (losses_of v.keys v.losses) d
  pub live : AreLive v.keys v.losses
  pub instances : (d : ℕ) → is_instance (content_of v.files d) ≡ true → raised_of (losses_of v.keys v.losses) d ≡ 0

-- a call on the tables that isn't refused
pub record Succeeds (call : FilesCall) (answer : Answer) (old new : Seen) : Type 0 where
  pub answers : answer ≡ call.answer
  pub files : new.files ≡ call.after
  pub limits : new.limits ≡ old.limits
  pub keys : KeepsKeys old new
  pub holds : KeepsHolds old new

pub record Refuses (e : Errno) (answer : Answer) (old new : Seen) : Type 0 where
  pub answers : answer ≡ Refused e
  pub tables : new ≡ old

-- the first of its refusals, which leaves the tables, or what the machine makes of them
abbrev pub Does : FilesCall → Answer → Seen → Seen → Type 0
Does call answer old new =
    MatchOption (first call.refusals) (Succeeds call answer old new) (λ e. Refuses e answer old new)

-- what a call on the tables raised that isn't refused stands as lost
abbrev pub IsTold : FilesCall → Seen → Type 0
IsTold call v = first call.refusals ≡ None → AreTold call.raised v

-- the files after a call that may take the last name of a listener, without what is let go by that
pub record Leaves (old new : Seen) (after : Files) : Type 0 where
  pub files : new.files ≡ (without_abandoned after).0
  pub rest : new ≡ record old { files = new.files; dying = new.dying; losses = new.losses }
  pub told : AreTold (without_abandoned after).1 new

-- an object with one description more
pub record CreatesOne (old new : Seen) (p : ℕ) (x : Object) (cloexec : Bool) : Type 0 where
  pub files : new.files ≡ create_one old.files p x cloexec
  pub keys : Gains old.keys new.keys (length old.files.descriptions)
  pub limits : new.limits ≡ old.limits
  pub holds : new.holds ≡ old.holds ++ 0 ∷ []
  pub dying : new.dying ≡ old.dying
  pub losses : new.losses ≡ []

-- an object with two descriptions more
pub record CreatesTwo (old new : Seen) (p : ℕ) (x : Object) (cloexec : Bool) : Type 0 where
  pub files : new.files ≡ create_two old.files p x cloexec
  pub keys : GainsTwo old.keys new.keys (length old.files.descriptions)
  pub limits : new.limits ≡ old.limits
  pub holds : new.holds ≡ (old.holds ++ 0 ∷ []) ++ 0 ∷ []
  pub dying : new.dying ≡ old.dying
  pub losses : new.losses ≡ []

-- what a call on the object of a description gives, at the description's end
abbrev pub effect_at : Files → ℕ → ℕ → ObjectCall → Effect Object
effect_at s d now call =
    let x = content_of s d in let e = side_of s d in
    attempt (object_refusals x e now call) x (object_effect x e now call)

-- what refuses it
abbrev pub refusals_at : Files → ℕ → ℕ → ObjectCall → List (Bool × Errno)
refusals_at s d now call = object_refusals (content_of s d) (side_of s d) now call

-- how many of the bytes that wait there a call could give
abbrev pub waiting_at : Files → ℕ → ObjectCall → ℕ
waiting_at s d call = object_waiting (content_of s d) (side_of s d) call

-- the same under a key, and the files after it
abbrev pub effect_under : Seen → DescId → ℕ → ObjectCall → Effect Object
effect_under v key now call = effect_at v.files (number_of v key) now call

abbrev pub files_after : Seen → DescId → ℕ → ObjectCall → Files
files_after v key now call = affected v.files (number_of v key) (effect_under v key now call)

-- the files once a number of a process names what is under a key
abbrev pub named_at : Seen → ℕ → ℕ → DescId → Files
named_at v p fd key = with_table v.files p (place_at (numbers_of v.files p) fd (slot (number_of v key) false))

-- a description that no table names and no waiter holds
abbrev pub is_dying : Seen → ℕ → Bool
is_dying v d = is_live v.files d && (not (is_among (named_in_tables v.files.tables) d) && holds_of v d == 0)

-- what holds of every value
pub record Sound (v : Seen) : Type 0 where
  pub one : (j k : DescId) (d : ℕ) → number_under v j ≡ Some d → number_under v k ≡ Some d → j.0 ≡ k.0
  pub place : (k : DescId) (d : ℕ) → number_under v k ≡ Some d → IsSome (place_of v.files d)
  pub object : (k : DescId) (d : ℕ) → number_under v k ≡ Some d → IsSome (object_of v.files d)
  pub named : (p d : ℕ) (fd : ℤ) → under v.files p fd ≡ Some d → (key : DescId) × (number_under v key ≡ Some d)
  pub keyed : (d : ℕ) → is_live v.files d ≡ true → (key : DescId) × (number_under v key ≡ Some d)
  -- an end of an object has one description
  pub apart : (d e : ℕ) (p : Place) → place_of v.files d ≡ Some p → place_of v.files e ≡ Some p
      → d ≡ e
  pub held : (d : ℕ) → is_live v.files d ≡ false → holds_of v d ≡ 0
  pub holds_length : length v.holds ≡ length v.files.descriptions
  pub distinct : are_distinct v.dying ≡ true
  pub dying : (d : ℕ) → is_among v.dying d ≡ is_dying v d

-- descriptions and objects, without tables
pub record Things : Type 0 where
  pub descriptions : List (Option Place)
  pub objects : List (Option Object)
  pub keys : List (Option ℕ)
  pub names : List ℕ  -- how many descriptors name each description
  pub holds : List ℕ
  pub dying : List ℕ
  pub named : ℕ  -- how often a name was added
  pub losses : List Loss

abbrev pub files_in : Things → Files
files_in v = record { tables = []; descriptions = v.descriptions; objects = v.objects }

abbrev pub thing_number : Things → DescId → ℕ
thing_number v key = unwrap_or (number_at v.keys key) 0

-- what a call on the object under a key gives, and the objects after it
abbrev pub thing_effect : Things → DescId → ℕ → ObjectCall → Effect Object
thing_effect v key now call = effect_at (files_in v) (thing_number v key) now call

abbrev pub objects_after : Things → DescId → ℕ → ObjectCall → List (Option Object)
objects_after v key now call = (affected (files_in v) (thing_number v key) (thing_effect v key now call)).objects

-- how many of the bytes that wait there a call could give
abbrev pub thing_waiting : Things → DescId → ObjectCall → ℕ
thing_waiting v key call = waiting_at (files_in v) (thing_number v key) call

abbrev pub is_unused : List (Option Place) → List ℕ → List ℕ → ℕ → Bool
is_unused ds names holds d = is_some (slice_index_or ds d None) && (count_at names d == 0 && count_at holds d == 0)

-- what holds of the descriptions that nothing names or holds
pub record Queue (ds : List (Option Place)) (names holds dying : List ℕ) : Type 0 where
  pub distinct : are_distinct dying ≡ true
  pub law : (d : ℕ) → is_among dying d ≡ is_unused ds names holds d

-- what holds of every value without tables
pub record SoundThings (v : Things) : Type 0 where
  pub one : (j k : DescId) (d : ℕ) → number_at v.keys j ≡ Some d → number_at v.keys k ≡ Some d → j.0 ≡ k.0
  pub place : (k : DescId) (d : ℕ) → number_at v.keys k ≡ Some d → IsSome (place_of (files_in v) d)
  pub object : (k : DescId) (d : ℕ) → number_at v.keys k ≡ Some d → IsSome (object_of (files_in v) d)
  pub keyed : (d : ℕ) → is_live (files_in v) d ≡ true → (key : DescId) × (number_at v.keys key ≡ Some d)
  pub apart : (d e : ℕ) (p : Place) → place_of (files_in v) d ≡ Some p → place_of (files_in v) e ≡ Some p → d ≡ e
  pub held : (d : ℕ) → is_live (files_in v) d ≡ false → count_at v.holds d ≡ 0
  pub names_length : length v.names ≡ length v.descriptions
  pub holds_length : length v.holds ≡ length v.descriptions
  pub queue : Queue v.descriptions v.names v.holds v.dying
  pub instances : (d : ℕ) → 0 < count_at v.holds d → is_instance (content_of (files_in v) d) ≡ true

-- an object with one description more, under this key, with one name
pub record InsertsOne (old new : Things) (key : DescId) (x : Object) : Type 0 where
  pub descriptions : new.descriptions ≡ old.descriptions ++ Some (record { object = length old.objects; side = First }) ∷ []
  pub objects : new.objects ≡ old.objects ++ Some x ∷ []
  pub keys : AddsKey old.keys new.keys key (length old.descriptions)
  pub names : new.names ≡ old.names ++ 1 ∷ []
  pub holds : new.holds ≡ old.holds ++ 0 ∷ []
  pub dying : new.dying ≡ old.dying
  pub named : new.named ≡ old.named
  pub losses : new.losses ≡ []

-- an object with two, under these
pub record InsertsTwo (old new : Things) (first second : DescId) (x : Object) : Type 0 where
  pub descriptions : new.descriptions
      ≡ (old.descriptions ++ Some (record { object = length old.objects; side = First }) ∷ [])
      ++ Some (record { object = length old.objects; side = Second }) ∷ []
  pub objects : new.objects ≡ old.objects ++ Some x ∷ []
  pub middle : List (Option ℕ)
  pub first_key : AddsKey old.keys middle first (length old.descriptions)
  pub second_key : AddsKey middle new.keys second (length old.descriptions + 1)
  pub names : new.names ≡ (old.names ++ 1 ∷ []) ++ 1 ∷ []
  pub holds : new.holds ≡ (old.holds ++ 0 ∷ []) ++ 0 ∷ []
  pub dying : new.dying ≡ old.dying
  pub named : new.named ≡ old.named
  pub losses : new.losses ≡ []
