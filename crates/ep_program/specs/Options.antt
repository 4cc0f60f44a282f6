-- The command line of the program, in the words of `clap`.
use Rattle.std.specs.Prelude.{Bool, List, Option, Some, codes, false, find, option_and_then, true, ◌≡◌}
use Rattle.std.specs.Str.{bytes_eq}
use Rattle.clap.specs.Simple.{on_top}
use Rattle.clap.specs.Words.{App, Row, Rule, Shape, Text, matches_of, new_app, new_rule, with_rule}
use Rattle.clap.specs.declared.builder.ArgAction.TheVariants.{SetTrue}
use Rattle.clap.specs.declared.error.kind.ErrorKind.{ErrorKind}
use Rattle.clap.specs.declared.error.kind.ErrorKind.TheVariants.{DisplayHelp, DisplayVersion, OutOfMemory}
use Rattle.clap.specs.declared.parser.matches.ValueSource.{ValueSource}
use Rattle.clap.specs.declared.parser.matches.ValueSource.TheVariants.{CommandLine}

-- `--limits TEXT`
abbrev pub limits_rule : Rule
limits_rule = record (new_rule (codes "limits")) { long = Some (codes "limits"); value_names = 1 }

-- `--plain`
abbrev pub plain_rule : Rule
plain_rule = record (new_rule (codes "plain")) { long = Some (codes "plain"); action = Some SetTrue }

-- `--explain`
abbrev pub explain_rule : Rule
explain_rule = record (new_rule (codes "explain")) { long = Some (codes "explain"); action = Some SetTrue }

-- `--strict`
abbrev pub strict_rule : Rule
strict_rule = record (new_rule (codes "strict")) { long = Some (codes "strict"); action = Some SetTrue }

-- `--history FILE`
abbrev pub history_rule : Rule
history_rule = record (new_rule (codes "history")) { long = Some (codes "history"); value_names = 1 }

-- `--orders`
abbrev pub orders_rule : Rule
orders_rule = record (new_rule (codes "orders")) { long = Some (codes "orders"); action = Some SetTrue }

-- `--bound N`
abbrev pub bound_rule : Rule
bound_rule = record (new_rule (codes "bound")) { long = Some (codes "bound"); value_names = 1 }

-- `--clock WORD`
abbrev pub clock_rule : Rule
clock_rule = record (new_rule (codes "clock")) { long = Some (codes "clock"); value_names = 1 }

-- `--most N`
abbrev pub most_rule : Rule
most_rule = record (new_rule (codes "most")) { long = Some (codes "most"); value_names = 1 }

-- `--write FOLDER`
abbrev pub write_rule : Rule
write_rule = record (new_rule (codes "write")) { long = Some (codes "write"); value_names = 1 }

-- the script's name, which no option stands before
abbrev pub script_rule : Rule
script_rule = record (new_rule (codes "script")) { value_names = 1 }

abbrev pub with_version : Shape → Shape
with_version s = record s { has_version = true }

-- `clap` adds `--help`, and `--version` where there is one
abbrev pub versioned : App
versioned = on_top with_version (new_app (codes "epsim"))

abbrev pub program : App
program = with_rule (with_rule (with_rule (with_rule (with_rule (with_rule (with_rule (with_rule (with_rule (with_rule (with_rule versioned
    limits_rule) plain_rule) explain_rule) strict_rule) history_rule) orders_rule) bound_rule) clock_rule) most_rule) write_rule) script_rule

-- what `clap` finds in words that it takes
unfoldable pub rows_in : List Text → List Row
rows_in words = matches_of program words

-- where what was found of an argument came from, the words or its default
abbrev pub source_of : Text → List Row → Option ValueSource
source_of id rows = option_and_then (λ r. r.source) (find (λ r. bytes_eq r.id id) rows)

-- the option was found in the words, and not by its default
abbrev pub StandsIn : List Row → Text → Type 0
StandsIn rows id = source_of id rows ≡ Some CommandLine

-- the option stands in the words
abbrev pub IsGiven : Text → List Text → Type 0
IsGiven id words = StandsIn (rows_in words) id

-- neither want of memory nor a text that was asked for
abbrev pub is_mistake : ErrorKind → Bool
is_mistake OutOfMemory = false
is_mistake DisplayHelp = false
is_mistake DisplayVersion = false
is_mistake kind = true
