-- What a line has under its keys, as the value that it would be in a tree.
use Rattle.std.specs.Prelude.{List, [], ◌∷◌, ℕ}
use Rattle.serde_json.specs.Data.{Data, Items, Members, array, boolean, item, no_items, no_members, number, object, put, string, unsigned}
use Rattle.serde_json.specs.View.{number_view, view}
use Rattle.ep_text.specs.declared.source.Found.{Found}
use Rattle.ep_text.specs.declared.source.Found.TheVariants as found
use Rattle.ep_text.specs.declared.source.Member.{Member}
use Rattle.ep_text.specs.declared.source.Source.{Source}
use Rattle.ep_text.specs.declared.source.Source.TheVariants as source
use Rattle.ep_text.specs.Key.{key_name}

-- the items of a list of two whole numbers
abbrev pub pair_items : ℕ → ℕ → Items
pair_items m n = item (number (unsigned m)) (item (number (unsigned n)) no_items)

abbrev pub found_data : Found → Data
found_data (found.Truth b) = boolean b
found_data (found.Number n) = number (number_view n)
found_data (found.Text s) = string s.now
found_data (found.Pair m n) = array (pair_items m n)
found_data (found.Tree v) = view v.now

-- the members go in one after another, so the last value of a key stays
abbrev pub put_all : Members → List Member → Members
put_all into [] = into
put_all into (m ∷ ms) = put_all (put (key_name m.key) (found_data m.value) into) ms

abbrev pub flat_data : List Member → Data
flat_data ms = object (put_all no_members ms)

abbrev pub source_data : Source → Data
source_data (source.Tree v) = view v.now
source_data (source.Flat ms) = flat_data ms.now
