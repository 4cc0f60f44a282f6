-- A heap of moments with places.
use Rattle.std.specs.Prelude.{◌≡◌, ◌≢◌, ℕ, suc, ◌-◌, ◌/◌, ◌<◌, List, length, Option, None, slice_index_or}
use Rattle.ep_due.specs.declared.heap.Item.{Item}
use Rattle.ep_due.specs.Order.{NoLater}

abbrev pub item_at : List Item → ℕ → Item
item_at heap i = slice_index_or heap i (record { moment = None; place = 0 })

-- the moment of an item
abbrev pub key : List Item → ℕ → Option ℕ
key heap i = (item_at heap i).moment

-- where the item of a place stands
abbrev pub index_of : List ℕ → ℕ → ℕ
index_of places p = slice_index_or places p 0

-- items and places name one another
pub record ArePaired (heap : List Item) (places : List ℕ) : Type 0 where
  pub same : length heap ≡ length places
  pub back : (i : ℕ) → i < length heap → ((item_at heap i).place < length places) × (index_of places (item_at heap i).place ≡ i)
  pub forth : (p : ℕ) → p < length places → (index_of places p < length heap) × ((item_at heap (index_of places p)).place ≡ p)

-- two items have changed places
pub record SwapsItems (old new : List Item) (i j : ℕ) : Type 0 where
  pub same : length new ≡ length old
  pub left : item_at new i ≡ item_at old j
  pub right : item_at new j ≡ item_at old i
  pub rest : (k : ℕ) → k ≢ i → k ≢ j → item_at new k ≡ item_at old k

-- none of the first items is before its parent
pub record IsOrdered (live : ℕ) (heap : List Item) : Type 0 where
  pub order : (i : ℕ) → suc i < live → NoLater (key heap (i / 2)) (key heap (suc i))

-- what stands below the item here isn't before what stands above it
abbrev pub IsBridged : ℕ → List Item → ℕ → Type 0
IsBridged live heap at = (i : ℕ) → suc i < live → i / 2 ≡ at → 0 < at → NoLater (key heap ((at - 1) / 2)) (key heap (suc i))

-- in order but that the item here may be before its parent
pub record LiftedAt (live : ℕ) (heap : List Item) (at : ℕ) : Type 0 where
  pub order : (i : ℕ) → suc i < live → suc i ≢ at → NoLater (key heap (i / 2)) (key heap (suc i))
  pub bridge : IsBridged live heap at

-- in order but that the item here may be after its children
pub record LoweredAt (live : ℕ) (heap : List Item) (at : ℕ) : Type 0 where
  pub order : (i : ℕ) → suc i < live → i / 2 ≢ at → NoLater (key heap (i / 2)) (key heap (suc i))
  pub bridge : IsBridged live heap at

-- in order but for the item here
pub record LooseAt (live : ℕ) (heap : List Item) (at : ℕ) : Type 0 where
  pub order : (i : ℕ) → suc i < live → suc i ≢ at → i / 2 ≢ at → NoLater (key heap (i / 2)) (key heap (suc i))
  pub bridge : IsBridged live heap at

-- a child that is no later than the other
pub record IsLeastBelow (live : ℕ) (heap : List Item) (at down : ℕ) : Type 0 where
  pub child : (down - 1) / 2 ≡ at
  pub below : at < down
  pub inside : down < live
  pub least : (i : ℕ) → suc i < live → i / 2 ≡ at → NoLater (key heap down) (key heap (suc i))
