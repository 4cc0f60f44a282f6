-- The records that are judged.
use Rattle.std.specs.Prelude.{List}
use Rattle.ep_audit.specs.declared.verdict.Judged.{Judged}
use Rattle.ep_audit.specs.declared.verdict.Judged.TheVariants as ways
use Rattle.ep_base.specs.declared.record.Record.{Record}

abbrev pub judged_records : Judged → List Record
judged_records (ways.Listed records) = records.now
judged_records (ways.Kept history) = history.now.items
