-- How descriptions and objects are kept, and what always holds of them.
use Rattle.std.specs.Prelude.{[], unwrap_or, ◌++◌, ◌∷◌, List, None, Option, Some, length, map, slice_index_or}
use Rattle.std.specs.Prelude.{vec_capacity, ℕ, ◌+◌, ◌<◌, ◌≡◌, ◌≤◌}
use Rattle.slab.specs.Slab.{slab_len}
use Rattle.ep_base.specs.declared.ids.DescId.{DescId}
use Rattle.ep_base.specs.declared.object.End.{End}
use Rattle.ep_base.specs.declared.object.End.TheVariants.{First, Second}
use Rattle.ep_machine.specs.Files.{Place}
use Rattle.ep_machine.specs.Lists.{numbered}
use Rattle.ep_machine.specs.Objects.{Object}
use Rattle.ep_object.specs.Kinds.{kind_number}
use Rattle.ep_table.specs.ByNumber.{NumberedBy, contents_by}
use Rattle.ep_table.specs.Connected.{AllStand}
use Rattle.ep_table.specs.Taking.{AreOwners, Taking}
use Rattle.ep_table.specs.Value.{Queue, Things, number_at}
use Rattle.ep_table.specs.declared.store.Store.TheInside.{Inside}
use Rattle.ep_table.specs.declared.words.Description.{Description}
use Rattle.ep_table.specs.declared.words.Dying.{Dying}
use Rattle.ep_table.specs.declared.words.Shared.{Shared}

abbrev pub place_in : Description → Place
place_in d = record { object = d.object_number; side = d.end }

abbrev pub number_in : Description → ℕ
number_in d = d.number

abbrev pub object_number_in : Shared → ℕ
object_number_in s = s.number

abbrev pub object_in : Shared → Object
object_in s = s.object

-- the key of the description of an end
abbrev pub key_at : Shared → End → Option DescId
key_at s First = s.first
key_at s Second = s.second

abbrev pub key_number : Option Description → Option ℕ
key_number None = None
key_number (Some d) = Some d.number

abbrev pub count_in : Option ℕ → ℕ
count_in o = unwrap_or o 0

abbrev pub places : List (Option Description) → ℕ → List (Option Place)
places slots n = contents_by number_in place_in slots n

abbrev pub objects : List (Option Shared) → ℕ → List (Option Object)
objects slots n = contents_by object_number_in object_in slots n

-- counts by number, 0 where a description is no more
abbrev pub counts : (Description → ℕ) → List (Option Description) → ℕ → List ℕ
counts count slots n = map count_in (contents_by number_in count slots n)

abbrev pub names_in : Description → ℕ
names_in d = d.names

abbrev pub holds_in : Description → ℕ
holds_in d = d.holds

-- the last that was put on the queue comes first
abbrev pub queued : List Dying → List ℕ
queued [] = []
queued (x ∷ rest) = queued rest ++ x.number ∷ []

abbrev pub things : {A : Type 0} → Inside A → Things
things k = record {
  descriptions = places k.descriptions.slots k.described;
  objects = objects k.objects.slots k.made;
  keys = map key_number k.descriptions.slots;
  names = counts names_in k.descriptions.slots k.described;
  holds = counts holds_in k.descriptions.slots k.described;
  dying = queued k.dying.items;
  named = k.named;
  losses = k.losses.items;
}

-- each has its number under its key
abbrev pub AllKeyed : List (Option ℕ) → List Dying → Type 0
AllKeyed keys [] = Unit {0}
AllKeyed keys (x ∷ rest) = (number_at keys x.key ≡ Some x.number) × AllKeyed keys rest

-- a description has one name from the start
abbrev pub AllFewer : List (Option Description) → ℕ → Type 0
AllFewer slots n = (key : ℕ) (d : Description) → slice_index_or slots key None ≡ Some d → d.names ≤ n + 1

-- the object of a description is there, and has its key at its end
pub record Backs (os : List (Option Shared)) (key : ℕ) (d : Description) : Type 0 where
  pub it : Shared
  pub is : slice_index_or os d.object None ≡ Some it
  pub number : it.number ≡ d.object_number
  pub key_is : key_at it d.end ≡ Some (record { 0 = key })

-- the description under a key is one of this end of this object
pub record Owns (ds : List (Option Description)) (at : ℕ) (e : End) (key : DescId) : Type 0 where
  pub it : Description
  pub is : slice_index_or ds key.0 None ≡ Some it
  pub object : it.object ≡ at
  pub end : it.end ≡ e

abbrev pub AllBacked : List (Option Description) → List (Option Shared) → Type 0
AllBacked ds os = (key : ℕ) (d : Description) → slice_index_or ds key None ≡ Some d → Backs os key d

abbrev pub AllOwned : List (Option Description) → List (Option Shared) → Type 0
AllOwned ds os = (at : ℕ) (s : Shared) (e : End) (key : DescId) → slice_index_or os at None ≡ Some s → key_at s e ≡ Some key → Owns ds at e key

-- what a waiter holds is an instance
abbrev pub AllInstances : List (Option Description) → List (Option Shared) → Type 0
AllInstances ds os = (key : ℕ) (d : Description) → slice_index_or ds key None ≡ Some d → 0 < d.holds
    → (s : Shared) → slice_index_or os d.object None ≡ Some s → kind_number s.object ≡ 5

pub record IsStore {A : Type 0} (k : Inside A) : Type 0 where
  pub descriptions : NumberedBy number_in k.descriptions.slots k.described
  pub objects : NumberedBy object_number_in k.objects.slots k.made
  pub backed : AllBacked k.descriptions.slots k.objects.slots
  pub owned : AllOwned k.descriptions.slots k.objects.slots
  pub counted : slab_len k.descriptions ≡ length (numbered 0 (places k.descriptions.slots k.described))
  pub room : slab_len k.descriptions ≤ vec_capacity k.dying
  pub queue : Queue (places k.descriptions.slots k.described)
      (counts names_in k.descriptions.slots k.described)
      (counts holds_in k.descriptions.slots k.described) (queued k.dying.items)
  pub keyed : AllKeyed (map key_number k.descriptions.slots) k.dying.items
  pub fewer : AllFewer k.descriptions.slots k.named
  pub taken : Taking k.taken.value (things k).objects
  pub owners : AreOwners k.taken.value k.objects.slots
  pub instances : AllInstances k.descriptions.slots k.objects.slots
  pub connected : AllStand k.waiting k.objects.slots k.made
  -- what goes may be told, each once
  pub loss_room : length k.losses.items + length k.waiting ≤ vec_capacity k.losses
