use Rattle.std.proofs.Common.{None, take, ◌≡◌, ◌∷◌}
use Rattle.serde_json.specs.Data.{no_members}
use Rattle.ep_text.specs.Keys.{first_other}
use Rattle.ep_text.specs.Source.{put_all}
use Rattle.ep_text.specs.declared.key.Key.TheVariants as key
use Rattle.ep_text.proofs.line_reader.has_only.Given as goal

abbrev pub invariant-loop-member : goal.invariant-loop-member
invariant-loop-member l = first_other (key.Op ∷ key.By ∷ l.keys) (put_all no_members (take l.member-index l.members)) ≡ None
