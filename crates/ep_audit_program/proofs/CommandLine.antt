-- What `clap` states of the program's command, at whatever words.
use Rattle.std.proofs.Common.{List, ap, refl, true, ◌∙◌, ◌≡◌, codes}
use Rattle.clap.specs.Matches.{found_of}
use Rattle.clap.specs.Words.{App, HasMatchesOf, Text, first_of, is_simple, matches_of, rows_of}
use Rattle.clap.specs.Faults.{is_simple_and_free}
use Rattle.clap.specs.declared.parser.matches.ArgMatches.{ArgMatches}
use Rattle.clap.proofs.OnLiterals.{clap_on_literals}
use Rattle.ep_audit_program.specs.Options.{history_in, limits_in, program}

program_is_simple : is_simple program ≡ true
unfolding clap_on_literals
program_is_simple = refl

pub program_is_free : is_simple_and_free program ≡ true
unfolding clap_on_literals
program_is_free = refl

-- the text of an argument among the rows of a parse by a command that is the program's
pub text_found : (id : Text) (a : App) (words : List Text) (m : ArgMatches) → a ≡ program → HasMatchesOf a words m
    → first_of id (rows_of (found_of m)) ≡ first_of id (matches_of program words)
text_found id a words m e h = ap (first_of id) ((h (ap is_simple e ∙ program_is_simple)).0 ∙ ap (λ (b : App). matches_of b words) e)

pub limits_found : (a : App) (words : List Text) (m : ArgMatches) → a ≡ program → HasMatchesOf a words m
    → first_of (codes "limits") (rows_of (found_of m)) ≡ limits_in words
unfolding limits_in
limits_found = text_found (codes "limits")

pub history_found : (a : App) (words : List Text) (m : ArgMatches) → a ≡ program → HasMatchesOf a words m
    → first_of (codes "history") (rows_of (found_of m)) ≡ history_in words
unfolding history_in
history_found = text_found (codes "history")
