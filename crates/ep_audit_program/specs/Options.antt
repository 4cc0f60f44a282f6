-- The command line of the program, in the words of `clap`.
use Rattle.std.specs.Prelude.{List, Option, Some, codes, true}
use Rattle.clap.specs.Simple.{on_top}
use Rattle.clap.specs.Kinds.{Kinds}
use Rattle.clap.specs.Words.{App, Rule, Shape, Text, fault_of, first_of, matches_of, new_app, new_rule, with_rule}

-- `--limits TEXT`
abbrev pub limits_rule : Rule
limits_rule = record (new_rule (codes "limits")) { long = Some (codes "limits"); value_names = 1 }

-- the history's name, which no option stands before
abbrev pub history_rule : Rule
history_rule = record (new_rule (codes "history")) { value_names = 1 }

abbrev pub with_version : Shape → Shape
with_version s = record s { has_version = true }

-- `clap` adds `--help`, and `--version` if there is one
abbrev pub versioned : App
versioned = on_top with_version (new_app (codes "epaudit"))

abbrev pub program : App
program = with_rule (with_rule versioned limits_rule) history_rule

-- what `clap` tells of words, in place of taking them: a mistake, or a text that they ask for
abbrev pub faults_in : List Text → Kinds
faults_in words = fault_of program words

-- the text of `--limits` in words that it takes
unfoldable pub limits_in : List Text → Option Text
limits_in words = first_of (codes "limits") (matches_of program words)

-- the history's name in words that it takes
unfoldable pub history_in : List Text → Option Text
history_in words = first_of (codes "history") (matches_of program words)
