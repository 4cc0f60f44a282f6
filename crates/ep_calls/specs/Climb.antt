-- What was raised climbs through instances.
use Rattle.std.specs.Prelude.{◌≡◌, ◌&&◌, ◌||◌, Bool, List, filter, if◌then◌else◌, map, unwrap_or, ℕ}
use Rattle.ep_base.specs.declared.ids.DescId.{DescId}
use Rattle.ep_interest.specs.Registrations.{Registrations, freshened_on, id_of}
use Rattle.ep_interest.specs.declared.entry.Entry.{Entry}
use Rattle.ep_machine.specs.Bits.{IN}
use Rattle.ep_machine.specs.Counts.{brings}
use Rattle.ep_machine.specs.Files.{object_of}
use Rattle.ep_view.specs.KernelView.{climbed_all, reached_now}
use Rattle.ep_machine.specs.Objects.{is_instance, plain}
use Rattle.ep_nest.specs.declared.link.Link.{Link}
use Rattle.ep_calls.specs.Stands.{AreLinked, number_at, watch_at}
use Rattle.ep_table.specs.Value.{Seen, number_of}

-- an instance stands under a key
abbrev pub is_nested_key : Seen → DescId → Bool
is_nested_key tables key = is_instance (unwrap_or (object_of tables.files (number_at tables.keys key)) plain)

-- a registration on an instance
abbrev pub is_nested : Seen → Entry → Bool
is_nested tables x = is_nested_key tables x.desc

-- its link, by the key under which it stands
abbrev pub link_of : Registrations → Entry → Link
link_of r x = record { outer = x.instance; inner = x.desc; entry = id_of r x.number }

-- the graph has exactly their links, in order of registration
abbrev pub AreNested : Seen → Registrations → List Link → Type 0
AreNested tables interest graph = graph ≡ map (link_of interest) (filter (is_nested tables) interest.entries)

-- links that were those of the registrations are still
abbrev pub KeepsLinks : Registrations → List Link → Registrations → List Link → Type 0
KeepsLinks old links new links_now = (tables : Seen) → AreNested tables old links → AreNested tables new links_now

-- in event n: each registration on an instance that IN reached is fresh, and none passes anything on any more
pub record Climbs (n : ℕ) (tables : Seen) (old new : Registrations) : Type 0 where
  pub watches : map (watch_at tables.keys) new.entries ≡ climbed_all n tables.files (map (watch_at tables.keys) old.entries)
  pub linked : AreLinked tables new
  pub added : new.added ≡ old.added

-- where IN reaches an instance: what watches it is fresh
abbrev pub climbs_to : Bool → DescId → Entry → Entry
climbs_to reached instance x = if reached then freshened_on instance (record { 0 = IN }) x else x

-- IN reaches the instance under a key from below in event n
abbrev pub is_reached_key : ℕ → Seen → Registrations → DescId → Bool
is_reached_key n tables interest instance = reached_now tables.files n (map (watch_at tables.keys) interest.entries) (number_of tables instance)

-- a registration on an instance that is reached and that it asks for IN of is fresh
abbrev pub risen : (ℕ → Bool) → Seen → Entry → Entry
risen reached tables x = record x { fresh = is_nested tables x && reached (number_at tables.keys x.desc) && brings x.mask.0 IN || x.fresh }

-- each registration on an instance that IN reached in event n is fresh
pub record Rises (n : ℕ) (tables : Seen) (old new : Registrations) : Type 0 where
  pub entries : new.entries ≡ map (risen (reached_now tables.files n (map (watch_at tables.keys) old.entries)) tables) old.entries
  pub added : new.added ≡ old.added
