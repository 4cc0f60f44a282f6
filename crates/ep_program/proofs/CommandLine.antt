-- What `clap` states of the program's command, at whatever words.
use Rattle.std.proofs.Common.{List, Option, Result, Some, None, ap, refl, subst, sym, true, ◌∙◌, ◌≡◌, option_map}
use Rattle.std.specs.Prelude.{find, option_and_then}
use Rattle.std.specs.Str.{bytes_eq}
use Rattle.clap.specs.Facts.{Entry}
use Rattle.clap.specs.Matches.{found_of, matched_of}
use Rattle.clap.specs.Words.{App, FailsBy, HasMatchesOf, Row, Text, fault_of, is_simple, matches_of, rows_of}
use Rattle.clap.specs.Faults.{is_simple_and_free}
use Rattle.clap.specs.Walk.{row_of}
use Rattle.clap.specs.declared.error.Error.{Error}
use Rattle.clap.specs.declared.parser.matches.ArgMatches.{ArgMatches}
use Rattle.clap.specs.declared.parser.matches.Found.{Found}
use Rattle.clap.specs.declared.parser.matches.MatchedArg.{MatchedArg}
use Rattle.clap.proofs.OnLiterals.{clap_on_literals}
use Rattle.clap.proofs.WalkLemmas.{find_row}
use Rattle.ep_program.specs.Options.{program, rows_in, source_of}

program_is_simple : is_simple program ≡ true
unfolding clap_on_literals
program_is_simple = refl

pub program_is_free : is_simple_and_free program ≡ true
unfolding clap_on_literals
program_is_free = refl

-- the rows of a parse by a command that is the program's
pub rows_found : (a : App) (words : List Text) (m : ArgMatches) → a ≡ program → HasMatchesOf a words m → rows_of (found_of m) ≡ rows_in words
unfolding rows_in
rows_found a words m e h = (h (ap is_simple e ∙ program_is_simple)).0 ∙ ap (λ (b : App). matches_of b words) e

-- how a parse fails by a command that is the program's
pub fails_so : {T : Type 0} → (a : App) (words : List Text) (r : Result T Error) → a ≡ program → (is_simple_and_free a ≡ true → FailsBy (fault_of a words) r) → FailsBy (fault_of program words) r
fails_so a words r e h = subst (λ (b : App). FailsBy (fault_of b words) r) e (h (ap is_simple_and_free e ∙ program_is_free))

of_entry : (o : Option Entry) → option_and_then (λ (a : MatchedArg). a.source) (option_map (λ e. e.1) o) ≡ option_and_then (λ (r : Row). r.source) (option_map row_of o)
of_entry None = refl
of_entry (Some e) = refl

pub source-rows : (f : Found) (id : Text) → option_and_then (λ (a : MatchedArg). a.source) (matched_of f id) ≡ source_of id (rows_of f)
source-rows f id = of_entry (find (λ e. bytes_eq e.0.now id) f.entries.items) ∙ ap (option_and_then (λ (r : Row). r.source)) (sym (find_row f.entries.items id))
