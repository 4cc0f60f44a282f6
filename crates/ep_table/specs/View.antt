-- How the tables are seen, and what always holds of them.
use Rattle.std.specs.Prelude.{length, ◌≡◌, IsSome, List, None, Option, Some, [], map, unwrap_or, ℕ, ◌∷◌}
use Rattle.ep_machine.specs.Deaths.{named_in_tables}
use Rattle.ep_machine.specs.Files.{Slot, Table}
use Rattle.ep_machine.specs.Lists.{numbered}
use Rattle.ep_machine.specs.Tables.{slot}
use Rattle.ep_table.specs.Processes.{Process, lists}
use Rattle.ep_table.specs.Value.{Seen, count_at, number_at, times}
use Rattle.ep_table.specs.declared.tables.Tables.TheInside.{Inside}
use Rattle.ep_table.specs.declared.words.Descriptor.{Descriptor}

abbrev pub slot_in : List (Option ℕ) → Option Descriptor → Option Slot
slot_in keys None = None
slot_in keys (Some x) = Some (slot (unwrap_or (number_at keys x.description) 0) x.cloexec)

abbrev pub table_in : List (Option ℕ) → Process → Option Table
table_in keys None = None
table_in keys (Some t) = Some (map (slot_in keys) t)

abbrev pub tables_in : List (Option ℕ) → List Process → List (Option Table)
tables_in keys ps = map (table_in keys) ps

abbrev pub value_of : {A : Type 0} → Inside A → Seen
value_of k = record {
  limits = k.limits;
  files = record {
    tables = tables_in k.store.keys (lists k.processes.items);
    descriptions = k.store.descriptions;
    objects = k.store.objects;
  };
  keys = k.store.keys;
  holds = k.store.holds;
  dying = k.store.dying;
  losses = k.store.losses;
}

-- what a number names is live
abbrev pub LiveSlot : List (Option ℕ) → Option Descriptor → Type 0
LiveSlot keys None = Unit {0}
LiveSlot keys (Some x) = IsSome (number_at keys x.description)

abbrev pub LiveTable : List (Option ℕ) → List (Option Descriptor) → Type 0
LiveTable keys [] = Unit {0}
LiveTable keys (x ∷ rest) = LiveSlot keys x × LiveTable keys rest

abbrev pub LiveProcess : List (Option ℕ) → Process → Type 0
LiveProcess keys None = Unit {0}
LiveProcess keys (Some t) = LiveTable keys t

abbrev pub LiveAll : List (Option ℕ) → List Process → Type 0
LiveAll keys [] = Unit {0}
LiveAll keys (p ∷ rest) = LiveProcess keys p × LiveAll keys rest

pub record IsTables {A : Type 0} (k : Inside A) : Type 0 where
  pub live : LiveAll k.store.keys (lists k.processes.items)
  pub counts : (d : ℕ) → count_at k.store.names d ≡ times d (named_in_tables (value_of k).files.tables)
  pub living : k.living ≡ length (numbered 0 (value_of k).files.tables)
