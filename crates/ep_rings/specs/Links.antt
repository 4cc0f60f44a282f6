-- What the links of keys say.
use Rattle.std.specs.Prelude.{◌≡◌, ◌≢◌, ℕ, List, length, slice_index_or}
use Rattle.ep_rings.specs.declared.link.Link.{Link}

abbrev pub no_link : Link
no_link = record { next = 0; prev = 0 }

-- the key behind a key
abbrev pub next_of : List Link → ℕ → ℕ
next_of links k = (slice_index_or links k no_link).next

-- the key before a key
abbrev pub prev_of : List Link → ℕ → ℕ
prev_of links k = (slice_index_or links k no_link).prev

-- the new links join two keys, and say what the old ones said of every other
pub record Joined (old new : List Link) (before after : ℕ) : Type 0 where
  pub same : length new ≡ length old
  pub next_here : next_of new before ≡ after
  pub prev_here : prev_of new after ≡ before
  pub next_else : (k : ℕ) → k ≢ before → next_of new k ≡ next_of old k
  pub prev_else : (k : ℕ) → k ≢ after → prev_of new k ≡ prev_of old k
