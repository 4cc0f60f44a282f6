use Rattle.std.proofs.Common.{[], ap, false, refl, sym, ◌∙◌, ◌∷◌, Bool}
use Rattle.ep_base.specs.declared.answer.Answer.TheVariants.{Done}
use Rattle.ep_base.specs.declared.errno.Errno.TheVariants.{Ebusy}
use Rattle.ep_machine.specs.Effect.{first}
use Rattle.std.specs.List.{list_any}
use Rattle.ep_machine.specs.FilesCalls.{exit_of}
use Rattle.ep_park.specs.Waiters.{is_of}
use Rattle.ep_machine.specs.Tables.{exit}
use Rattle.ep_table.proofs.LeavesLemmas.{does_leaving}
use Rattle.ep_calls.proofs.table_call.exit.Goals as goal

pub returns-clause-does : goal.returns-clause-does
returns-clause-does c =
    let v = c.args.tables.now in
    let free = ap (λ (b : Bool). first ((b, Ebusy) ∷ [])) (sym c.any_of.ensures ∙ c.if-any_of.false) in
    does_leaving (exit_of v.files c.args.pid.0 (list_any (is_of c.args.pid.0) c.args.waiters.now)).refusals Done Done (exit v.files c.args.pid.0) v c.exit.new.self free refl c.exit.ensures

pub returns-clause-told : goal.returns-clause-told
returns-clause-told c = λ _. c.exit.ensures.told
