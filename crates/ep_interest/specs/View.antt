-- How the parts of an `Interest` hold its registrations.
use Rattle.std.specs.HashMap as hash
use Rattle.std.specs.Ordering.{int_eq}
use Rattle.std.specs.Prelude.{◌≡◌, ◌≤◌, ◌&&◌, ◌==◌, Bool, ℕ, List, Option, Some, None, count_by, filter, length, map, slice_index_or, vec_capacity}
use Rattle.ep_base.specs.declared.ids.EntryId.{EntryId}
use Rattle.ep_interest.specs.ByNumber.{NumberedBy, in_order}
use Rattle.ep_interest.specs.Exclusive.{is_exclusive_slot}
use Rattle.ep_interest.specs.Registrations.{Registrations, place_among}
use Rattle.ep_interest.specs.Passes.{ArePassing}
use Rattle.ep_interest.specs.Rows.{IsRows, row}
use Rattle.ep_interest.specs.declared.entry.Entry.{Entry}
use Rattle.ep_interest.specs.declared.interest.Interest.TheInside.{Inside}
use Rattle.ep_interest.specs.declared.interest.Key.{Key}
use Rattle.ep_interest.specs.declared.rows.Rows.{Rows}

abbrev pub number_in : Option Entry → Option ℕ
number_in None = None
number_in (Some x) = Some x.number

abbrev pub key_of : Entry → Key
key_of x = record { instance = x.instance.0; fd = x.fd.0; desc = x.desc.0 }

abbrev pub instance_of : Entry → ℕ
instance_of x = x.instance.0

abbrev pub target_of : Entry → ℕ
target_of x = x.desc.0

abbrev pub is_owned : (Entry → ℕ) → ℕ → Entry → Bool
is_owned owner i x = owner x == i

-- the key of a registration
abbrev pub key_in : List (Option Entry) → Entry → ℕ
key_in slots x = place_among (map number_in slots) x.number

-- the keys of one owner's registrations, in order of registration
abbrev pub keys_with : (Entry → ℕ) → List (Option Entry) → ℕ → ℕ → List ℕ
keys_with owner slots n i = map (key_in slots) (filter (is_owned owner i) (in_order slots n))

-- what `==` computes of two keys
abbrev pub same_key : Key → Key → Bool
same_key a b = a.instance == b.instance && (int_eq a.fd b.fd && a.desc == b.desc)

-- a map finds exactly the registrations, by a key that each of them has
pub record IsIndex {K : Type 0} (key : Entry → K) (slots : List (Option Entry)) (get : K → Option EntryId) : Type 0 where
  pub kept : (k : ℕ) (x : Entry) → slice_index_or slots k None ≡ Some x → get (key x) ≡ Some (record { 0 = k })
  pub live : (q : K) (id : EntryId) → get q ≡ Some id → (x : Entry) × (slice_index_or slots id.0 None ≡ Some x) × (key x ≡ q)

-- each owner's row has the keys of its registrations
pub record HasRows {A : Type 0} (owner : Entry → ℕ) (slots : List (Option Entry)) (n : ℕ) (v : Rows A) : Type 0 where
  pub sound : IsRows v
  pub rows : (i : ℕ) → row v i ≡ keys_with owner slots n i

abbrev pub registrations : {A : Type 0} → Inside A → Registrations
registrations k = record { entries = in_order k.slots.slots k.added; keys = map number_in k.slots.slots; added = k.added; next = k.slots.vacant_key }

pub record IsInterest {A : Type 0} (k : Inside A) : Type 0 where
  pub numbered : NumberedBy k.slots.slots k.added
  pub by_key : IsIndex key_of k.slots.slots (hash.get same_key k.by_key)
  pub by_instance : HasRows instance_of k.slots.slots k.added k.by_instance
  pub by_target : HasRows target_of k.slots.slots k.added k.by_target
  pub passing : ArePassing k.slots.slots k.passes.keys.items
  pub room : length k.slots.slots ≤ vec_capacity k.passes.keys
  pub guards : k.guards ≡ count_by is_exclusive_slot k.slots.slots
