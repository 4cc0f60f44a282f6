use Rattle.std.proofs.Common.{◌≡◌, ◌∙◌, Bool, List, [], ◌∷◌, Option, Some, ap, false, map, refl, sym, true, ℕ}
use Rattle.std.proofs.lemmas.Bool.{false≢true}
use Rattle.ep_base.specs.declared.ids.DescId.{DescId}
use Rattle.ep_calls.proofs.BurialLemmas.{buries_none}
use Rattle.ep_table.specs.Value.{number_under}
use Rattle.ep_calls.proofs.bury.end_dying.Goals as goal

abbrev is_none_left : List (Option ℕ) → Bool
is_none_left [] = true
is_none_left (x ∷ xs) = false

none_dies : (ds : List ℕ) → map Some ds ≡ [] → ds ≡ []
none_dies [] h = refl
none_dies (d ∷ ds) h = absurd (false≢true (ap is_none_left h))

pub returns-in_default-clause-buries : goal.returns-in_default-clause-buries
returns-in_default-clause-buries c = buries_none c.args.step c.args.tables.now c.args.interest.now c.requires

pub returns-in_default-clause-none : goal.returns-in_default-clause-none
returns-in_default-clause-none c =
    none_dies c.args.tables.now.dying (sym c.dying.ensures.exact ∙ ap (λ (ds : List DescId). map (number_under c.args.tables.now) ds) c.in_default.ensures.steps.0)
