use Rattle.std.proofs.Common.{List, [], ap, append_assoc, ℕ, ◌++◌, ◌≡◌, ◌∙◌, ◌∷◌}
use Rattle.ep_script.specs.Lines.{AllPlain, IsPlain, joined, last_line, lines_of}
use Rattle.ep_script.proofs.Lines.{open_line, whole_line}
use Rattle.ep_script.proofs.law.cuts_into_lines.Goals as goal

cuts : (ls : List (List ℕ)) (part : List ℕ) → AllPlain ls → IsPlain part → lines_of (joined ls ++ part) ≡ ls ++ last_line part
cuts [] part a p = open_line part p
cuts (l ∷ ls) part a p = ap lines_of (append_assoc l (10 ∷ joined ls) part) ∙ whole_line l (joined ls ++ part) a.0 ∙ ap (λ x. l ∷ x) (cuts ls part a.1 p)

pub returns : goal.returns
returns c = cuts
