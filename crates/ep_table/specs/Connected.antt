-- What holds of connections that wait to be accepted, and of the listeners where they wait.
use Rattle.std.specs.Prelude.{List, None, Option, Some, slice_index_or, true, ℕ, ◌<◌, ◌≡◌}
use Rattle.ep_machine.specs.Connections.{pending_in}
use Rattle.ep_machine.specs.Lists.{are_distinct, is_among}
use Rattle.ep_machine.specs.Objects.{is_waiting, name_in}
use Rattle.ep_names.specs.Numbers.{owner_at}
use Rattle.ep_object.specs.Kinds.{kind_number}
use Rattle.ep_table.specs.declared.words.Shared.{Shared}

-- by the keys that are kept for those that wait, beside these objects, of which there have been so many
pub record Stands (waiting : List (ℕ × ℕ)) (os : List (Option Shared)) (made key : ℕ) (s : Shared) : Type 0 where
  -- its key is kept, nobody has its second end yet, and its name goes with its first end
  pub keyed : is_waiting s.object ≡ true → owner_at waiting s.number ≡ Some key
  pub alone : is_waiting s.object ≡ true → s.second ≡ None
  pub nameless : is_waiting s.object ≡ true → s.first ≡ None → name_in s.object ≡ None
  -- each comes once to a listener, and is no other kind of object
  pub distinct : are_distinct (pending_in s.object) ≡ true
  pub below : (n : ℕ) → is_among (pending_in s.object) n ≡ true → n < made
  pub pairs : (n : ℕ) → is_among (pending_in s.object) n ≡ true
      → (i : ℕ) (t : Shared) → slice_index_or os i None ≡ Some t → t.number ≡ n → kind_number t.object ≡ 2

abbrev pub AllStand : List (ℕ × ℕ) → List (Option Shared) → ℕ → Type 0
AllStand waiting os made = (key : ℕ) (s : Shared) → slice_index_or os key None ≡ Some s → Stands waiting os made key s

-- an object that waits stands under this key
pub record WaitsAt (os : List (Option Shared)) (number key : ℕ) : Type 0 where
  pub it : Shared
  pub is : slice_index_or os key None ≡ Some it
  pub number_is : it.number ≡ number
  pub waits : is_waiting it.object ≡ true
