-- Descriptions that nothing names any more, and what goes with them.
use Rattle.std.specs.List.{filter_map, list_any}
use Rattle.std.specs.Prelude.{Bool, List, None, Option, Some, [], filter, if◌then◌else◌, map, not}
use Rattle.std.specs.Prelude.{slice_set, ℕ, ◌&&◌, ◌++◌, ◌==◌, ◌||◌, ◌∷◌}
use Rattle.ep_machine.specs.Objects.{Object, close_end, is_waiting}
use Rattle.ep_machine.specs.Files.{Files, Place, Table, content_at, description_in, is_live, live, raised_at}
use Rattle.ep_machine.specs.State.{State, Watch}
use Rattle.ep_machine.specs.Lists.{is_among}

abbrev pub named_in : Option Table → List ℕ
named_in None = []
named_in (Some table) = filter_map description_in table

abbrev pub named_in_tables : List (Option Table) → List ℕ
named_in_tables [] = []
named_in_tables (t ∷ ts) = named_in t ++ named_in_tables ts

-- by a table or a waiter's instance
abbrev pub named : State → List ℕ
named s = named_in_tables s.files.tables ++ map (λ w. w.instance) s.waiters

abbrev pub dying : State → List (ℕ × Place)
dying s = let names = named s in filter (λ x. not (is_among names x.0)) (live s.files)

-- an object goes with its last description, unless it is a connection that somebody may accept
abbrev pub kept_object : Files → ℕ → Object → Option Object
kept_object s k x = if list_any (λ y. y.1.object == k) (live s) || is_waiting x then Some x else None

abbrev pub die : Files × List (ℕ × ℕ) → ℕ × Place → Files × List (ℕ × ℕ)
die now x =
    let s = now.0 in
    let k = x.1.object in
    let closed = close_end (content_at s k) x.1.side in
    let without = record s { descriptions = slice_set s.descriptions x.0 None } in
    (record without { objects = slice_set s.objects k (kept_object without k closed.0) }, now.1 ++ raised_at without k closed.1)

abbrev pub die_all : Files × List (ℕ × ℕ) → List (ℕ × Place) → Files × List (ℕ × ℕ)
die_all now [] = now
die_all now (x ∷ xs) = die_all (die now x) xs

abbrev pub is_kept : State → Watch → Bool
is_kept s x = is_live s.files x.instance && is_live s.files x.target

abbrev pub without_dead_watches : State → State
without_dead_watches s = record s { watches = filter (is_kept s) s.watches }

-- the state without the dead, and what was raised
abbrev pub buried : State → List (ℕ × ℕ) → State × List (ℕ × ℕ)
buried s raised = let now = die_all (s.files, raised) (dying s) in (without_dead_watches (record s { files = now.0 }), now.1)
