use Rattle.std.specs.Io.KnownBytes.{prepend_known}
use Rattle.ep_script.specs.Unread.{unread}
use Rattle.ep_script.proofs.PastLemmas.{HasRead}
use Rattle.ep_script.proofs.past.read_history.Given as goal

abbrev pub invariant-loop-done : goal.invariant-loop-done
invariant-loop-done g l = HasRead (g.R.Read.remaining l.fn.reader.inner) (prepend_known (unread l.past.input) (g.R.Read.remaining l.reader.inner)) l.records.items l.done
