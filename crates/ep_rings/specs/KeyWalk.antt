-- A walk along the links of a circle.
use Rattle.std.specs.Prelude.{◌<◌, ℕ, zero, suc, List, length, map}
use Rattle.ep_base.specs.declared.ids.EntryId.{EntryId}
use Rattle.ep_rings.specs.Ring.{walk}
use Rattle.ep_rings.specs.Links.{next_of}
use Rattle.ep_rings.specs.declared.link.Link.{Link}

-- the key with this number
abbrev pub entry_id : ℕ → EntryId
entry_id k = record { 0 = k }

-- so many keys from one on
abbrev pub ids_from : List Link → ℕ → ℕ → List EntryId
ids_from links n k = map entry_id (walk (next_of links) n k)

-- so many keys from one on have links
abbrev pub AreLinked : List Link → ℕ → ℕ → Type 0
AreLinked links zero k = Unit {0}
AreLinked links (suc n) k = (k < length links) × AreLinked links n (next_of links k)
