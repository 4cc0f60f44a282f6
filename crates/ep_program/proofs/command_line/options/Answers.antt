use Rattle.std.proofs.Common.{ap, codes, sym, ◌∙◌}
use Rattle.clap.specs.Words.{first_of, found_of}
use Rattle.clap.proofs.WalkLemmas.{first_value-rows}
use Rattle.ep_program.proofs.command_line.options.Goals as goal

pub returns-clause-limits : goal.returns-clause-limits
returns-clause-limits c =
    c.get_str.ensures ∙ first_value-rows (found_of c.in_ok-matches.matches) (codes "limits") ∙ ap (first_of (codes "limits")) c.in_ok-matches.ensures.rows

pub returns-clause-plain : goal.returns-clause-plain
returns-clause-plain c = rw (sym c.in_ok-matches.ensures.rows) c.is_there.ensures

pub returns-clause-explain : goal.returns-clause-explain
returns-clause-explain c = rw (sym c.in_ok-matches.ensures.rows) c.is_there-2.ensures

pub returns-clause-strict : goal.returns-clause-strict
returns-clause-strict c = rw (sym c.in_ok-matches.ensures.rows) c.is_there-3.ensures

pub returns-clause-history : goal.returns-clause-history
returns-clause-history c =
    c.get_str-2.ensures ∙ first_value-rows (found_of c.in_ok-matches.matches) (codes "history") ∙ ap (first_of (codes "history")) c.in_ok-matches.ensures.rows

pub returns-clause-orders : goal.returns-clause-orders
returns-clause-orders c = rw (sym c.in_ok-matches.ensures.rows) c.is_there-4.ensures

pub returns-clause-bound : goal.returns-clause-bound
returns-clause-bound c =
    c.get_str-3.ensures ∙ first_value-rows (found_of c.in_ok-matches.matches) (codes "bound") ∙ ap (first_of (codes "bound")) c.in_ok-matches.ensures.rows

pub returns-clause-clock : goal.returns-clause-clock
returns-clause-clock c =
    c.get_str-4.ensures ∙ first_value-rows (found_of c.in_ok-matches.matches) (codes "clock") ∙ ap (first_of (codes "clock")) c.in_ok-matches.ensures.rows

pub returns-clause-most : goal.returns-clause-most
returns-clause-most c =
    c.get_str-5.ensures ∙ first_value-rows (found_of c.in_ok-matches.matches) (codes "most") ∙ ap (first_of (codes "most")) c.in_ok-matches.ensures.rows

pub returns-clause-write : goal.returns-clause-write
returns-clause-write c =
    c.get_str-6.ensures ∙ first_value-rows (found_of c.in_ok-matches.matches) (codes "write") ∙ ap (first_of (codes "write")) c.in_ok-matches.ensures.rows

pub returns-clause-script : goal.returns-clause-script
returns-clause-script c =
    c.get_str-7.ensures ∙ first_value-rows (found_of c.in_ok-matches.matches) (codes "script") ∙ ap (first_of (codes "script")) c.in_ok-matches.ensures.rows

pub returns-clause-fault : goal.returns-clause-fault
returns-clause-fault c = c.in_ok-matches.ensures.fault
