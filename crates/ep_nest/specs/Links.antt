-- Links between instances, as the machine has them.
use Rattle.ep_base.specs.declared.ids.DescId.{DescId}
use Rattle.ep_nest.specs.declared.link.Link.{Link}
use Rattle.ep_nest.specs.declared.link.Way.{Way}
use Rattle.ep_nest.specs.declared.link.Way.TheVariants.{Down, Up}
use Rattle.std.specs.Prelude.{Bool, List, filter, map, not, ℕ, ◌&&◌, ◌==◌}

-- where a link leads from and to
abbrev pub ends_of : Way → Link → ℕ × ℕ
ends_of Down l = (l.outer.0, l.inner.0)
ends_of Up l = (l.inner.0, l.outer.0)

abbrev pub turned : Way → Way
turned Down = Up
turned Up = Down

abbrev pub along : Way → List Link → List (ℕ × ℕ)
along way ls = map (ends_of way) ls

-- it starts at an instance
abbrev pub starts_at : Way → ℕ → Link → Bool
starts_at way k l = (ends_of way l).0 == k

abbrev pub starting_at : Way → ℕ → List Link → List Link
starting_at way k ls = filter (starts_at way k) ls

-- where these links lead to
abbrev pub ends : Way → List Link → List ℕ
ends way ls = map (λ l. (ends_of way l).1) ls

-- the pairs of which the machine's is_legal speaks
abbrev pub edges : List Link → List (ℕ × ℕ)
edges ls = along Down ls

abbrev pub is_between : ℕ → ℕ → Link → Bool
is_between outer inner l = l.outer.0 == outer && l.inner.0 == inner

abbrev pub entries : List Link → List ℕ
entries ls = map (λ l. l.entry.0) ls

abbrev pub is_of : ℕ → Link → Bool
is_of entry l = l.entry.0 == entry

abbrev pub without : ℕ → List Link → List Link
without entry ls = filter (λ l. not (is_of entry l)) ls

-- neither from nor to an instance
abbrev pub is_apart_from : ℕ → Link → Bool
is_apart_from d l = not (l.outer.0 == d) && not (l.inner.0 == d)

-- the links of the entries that a rule admits
abbrev pub admitted_by : (ℕ → Bool) → List Link → List Link
admitted_by admits ls = filter (λ l. admits l.entry.0) ls

abbrev pub keys : List DescId → List ℕ
keys ds = map (λ d. d.0) ds
