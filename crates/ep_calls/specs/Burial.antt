-- What is left of the parts of a kernel once the descriptions that nothing names are dead.
use Rattle.std.specs.List.{AllByRecursion}
use Rattle.std.specs.Prelude.{◌≡◌, Bool, List, Some, [], filter, map, not, ℕ, ◌&&◌, ◌++◌}
use Rattle.ep_machine.specs.Deaths.{die_all}
use Rattle.ep_machine.specs.Files.{Place, place_of}
use Rattle.ep_machine.specs.Lists.{is_among}
use Rattle.ep_view.specs.KernelView.{KernelWatch, freshened}
use Rattle.ep_interest.specs.Registrations.{Registrations}
use Rattle.ep_calls.specs.Stands.{AreLinked, KeepsKeys, watch_at}
use Rattle.ep_table.specs.Value.{Seen, Sound}

-- neither its instance nor its target is among these
abbrev pub is_untouched : List ℕ → KernelWatch → Bool
is_untouched ks x = not (is_among ks x.instance) && not (is_among ks x.target)

-- these died, the first of those that nothing names, with their registrations, and what that raised is noted
pub record Buries (n : ℕ) (old_tables : Seen) (old_interest : Registrations) (tables : Seen) (interest : Registrations) : Type 0 where
  pub dead : List (ℕ × Place)
  pub numbers : map (λ x. x.0) dead ++ tables.dying ≡ old_tables.dying
  pub placed : AllByRecursion (λ x. place_of old_tables.files x.0 ≡ Some x.1) dead
  pub files : tables.files ≡ (die_all (old_tables.files, []) dead).0
  pub limits : tables.limits ≡ old_tables.limits
  pub holds : tables.holds ≡ old_tables.holds
  pub keys : KeepsKeys tables old_tables  -- what is left has kept its key
  pub watches : map (watch_at tables.keys) interest.entries
      ≡ map (freshened n (die_all (old_tables.files, []) dead).1)
      (filter (is_untouched (map (λ x. x.0) dead))
      (map (watch_at old_tables.keys) old_interest.entries))
  pub linked : AreLinked tables interest
  pub added : interest.added ≡ old_interest.added

-- all of them
pub record Burial (n : ℕ) (old_tables : Seen) (old_interest : Registrations) (tables : Seen) (interest : Registrations) : Type 0 where
  pub sound : Sound old_tables
  pub buries : Buries n old_tables old_interest tables interest
  pub none : tables.dying ≡ []
