use Rattle.std.proofs.Common.{None, ap, subst, sym, ◌∙◌}
use Rattle.ep_alarms.proofs.CalledLemmas.{called_is, called_nameless}
use Rattle.ep_alarms.specs.Called.{IsCalled, under_in}
use Rattle.ep_calls.specs.Parts.{Parts}
use Rattle.ep_machine.specs.Files.{under}
use Rattle.ep_table.specs.Value.{number_found}
use Rattle.ep_alarms.proofs.called.find_called.Goals as goal

pub returns-in_err-fd-clause-called : goal.returns-in_err-fd-clause-called
returns-in_err-fd-clause-called c =
    let v = c.args.parts.now.tables in
    called_is v c.args.event.now c.from_residual.result None
    (called_nameless v.files c.args.event.now c.in-Call.pid c.in-Call.call c.in-Call.is ∙ ap (under_in v.files c.in-Call.pid.0) (sym c.in_err-fd.ensures))
    (ap (number_found v) c.from_residual.ensures)

pub returns-clause-called : goal.returns-clause-called
returns-clause-called c =
    let v = c.parts.inside.tables in
    subst (λ (q : Parts). IsCalled q.tables c.args.event.now c.lookup.result) c.parts.view_is
    (called_is v c.args.event.now c.lookup.result (under v.files c.in-Call.pid.0 c.in_ok-fd.fd.0)
    (called_nameless v.files c.args.event.now c.in-Call.pid c.in-Call.call c.in-Call.is ∙ ap (under_in v.files c.in-Call.pid.0) (sym c.in_ok-fd.ensures))
    c.lookup.ensures.number)
