use Rattle.std.specs.Prelude.{⊤}
use Rattle.ep_text.proofs.line_reader.is_listed.Given as goal

-- a key that is not listed is said nothing of
abbrev pub invariant-loop-listed : goal.invariant-loop-listed
invariant-loop-listed l = ⊤
