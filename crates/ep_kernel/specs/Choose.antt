-- What a wait finds on a ready list.
use Rattle.std.specs.Prelude.{◌≡◌, ◌≤◌, ◌⊎◌, List, filter, length, map, take, ℕ}
use Rattle.ep_calls.specs.Parts.{Parts}
use Rattle.ep_calls.specs.Wait.{AreKeyed}
use Rattle.ep_calls.specs.declared.wait.Reportable.{Reportable}
use Rattle.ep_kernel.specs.Listed.{key_shows}

abbrev pub keys_of : List Reportable → List ℕ
keys_of xs = map (λ x. x.id.0) xs

-- the first reportable ones of a list of keys, at most so many, and how many keys were looked at
pub record IsFound (p : Parts) (keys : List ℕ) (most : ℕ) (found : List Reportable) (walked : ℕ) : Type 0 where
  pub first : keys_of found ≡ filter (key_shows p) (take walked keys)
  pub within : walked ≤ length keys
  pub few : length found ≤ most
  pub all : (length found ≡ most) ⊎ (walked ≡ length keys)
  pub keyed : AreKeyed p.tables p.clock p.interest found
