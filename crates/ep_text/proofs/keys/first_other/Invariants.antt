use Rattle.std.proofs.Common.{◌≡◌, ◌∷◌}
use Rattle.serde_json.specs.View.{members_view}
use Rattle.ep_text.specs.declared.key.Key.TheVariants as key
use Rattle.ep_text.specs.Keys.{first_other}
use Rattle.ep_text.proofs.keys.first_other.Given as goal

abbrev pub invariant-loop-name : goal.invariant-loop-name
invariant-loop-name l =
    first_other (key.Op ∷ key.By ∷ l.keys) (members_view l.name-iterator) ≡ first_other (key.Op ∷ key.By ∷ l.keys) (members_view l.members.entries)
