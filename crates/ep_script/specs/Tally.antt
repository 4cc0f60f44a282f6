-- The counts of a run with one line more.
use Rattle.std.specs.Prelude.{◌+◌}
use Rattle.ep_script.specs.declared.summary.LineKind.{LineKind}
use Rattle.ep_script.specs.declared.summary.LineKind.TheVariants as kind
use Rattle.ep_script.specs.declared.summary.Summary.{Summary}

abbrev pub counted : Summary → LineKind → Summary
counted s kind.Bad = record { lines = s.lines + 1; records = s.records; bad = s.bad + 1 }
counted s kind.Head = record { lines = s.lines + 1; records = s.records; bad = s.bad }
counted s kind.Unrecorded = record { lines = s.lines + 1; records = s.records; bad = s.bad }
counted s kind.Recorded = record { lines = s.lines + 1; records = s.records + 1; bad = s.bad }
