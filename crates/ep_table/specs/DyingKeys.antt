-- The keys of the descriptions that nothing names or holds any more.
use Rattle.std.specs.Prelude.{List, [], ◌++◌, ◌∷◌}
use Rattle.ep_base.specs.declared.ids.DescId.{DescId}
use Rattle.ep_table.specs.declared.words.Dying.{Dying}

-- the last that was put on the queue comes first
abbrev pub queued_keys : List Dying → List DescId
queued_keys [] = []
queued_keys (x ∷ rest) = queued_keys rest ++ x.key ∷ []
