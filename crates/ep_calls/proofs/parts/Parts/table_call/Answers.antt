use Rattle.std.specs.List.{list_any}
use Rattle.ep_park.specs.Waiters.{is_of}
use Rattle.ep_view.proofs.AtRestLemmas.{extends_call}
use Rattle.ep_calls.specs.Parts.{Parts}
use Rattle.ep_calls.specs.TableCall.{called, raised_by}
use Rattle.ep_calls.proofs.FilesCallLemmas.{does_holds, does_keys, does_kinds}
use Rattle.ep_calls.proofs.PartsLemmas.{coherent_kept}
use Rattle.ep_calls.proofs.TableCallLemmas.{table_does}
use Rattle.std.proofs.Common.{ap, subst, sym, ◌∙◌}
use Rattle.ep_base.specs.declared.answer.Answer.{Answer}
use Rattle.ep_table.specs.Value.{Does}
use Rattle.ep_calls.proofs.parts.Parts.table_call.Goals as goal

pub invariant_of-self-2 : goal.invariant_of-self-2
invariant_of-self-2 c =
    let k = c.self.inside in
    let p : Parts = record { tables = k.tables; interest = k.interest; graph = k.graph; parked = k.waiters; clock = k.clock } in
    let new = c.answer_of.new.tables in
    let call = called k.tables k.waiters c.args.pid.0 c.args.call.now in
    let answer = c.in_ok-answer.answer in
    let does = c.in_ok-answer.ensures.ok in
    let busy = list_any (is_of c.args.pid.0) k.waiters in
    coherent_kept p new c.self.invariant (does_keys call answer k.tables new does)
    (does_kinds call answer k.tables new does (extends_call k.tables.limits k.tables.files c.args.pid.0 busy c.args.call.now).shows)
    (does_holds call answer k.tables new does)

pub returns-clause-ok : goal.returns-clause-ok
returns-clause-ok c =
    let k = c.self.inside in
    let p : Parts = record { tables = k.tables; interest = k.interest; graph = k.graph; parked = k.waiters; clock = k.clock } in
    let new = c.answer_of.new.tables in
    let call = called k.tables k.waiters c.args.pid.0 c.args.call.now in
    let o = c.settled.ensures in
    let does = subst (λ (a : Answer). Does call a k.tables new) (sym o.answer) c.in_ok-answer.ensures.ok in
    let raising = o.raising ∙ (c.raising_by-raising.ensures ∙ ap raised_by (sym o.answer)) in
    rw (← c.self.view_is) (table_does p new c.args.pid.0 c.args.call.now c.settled.result c.self.invariant c.requires.call does c.in_ok-answer.ensures.told o.picked raising)
