use Rattle.std.proofs.Common.{refl, rules, ◌≡◌}
use Rattle.ep_base.specs.declared.answer.Answer.TheVariants.{Done}
use Rattle.ep_machine.specs.FilesCalls.{close_of}
use Rattle.ep_machine.specs.Tables.{close}
use Rattle.ep_table.specs.Value.{number_of}
use Rattle.ep_table.proofs.DoesLemmas.{found_is}
use Rattle.ep_table.proofs.LeavesLemmas.{does_leaving, leaves_after, named_none}
use Rattle.ep_table.proofs.tables.Tables.close.Goals as goal

pub returns-clause-does : goal.returns-clause-does
returns-clause-does g c =
    let v = c.args.self.now in
    let p = c.args.pid.0 in
    let mid = c.match-index_of.self in
    let after = close v.files p c.args.fd.0 in
    let left : mid ≡ record v { files = after; dying = mid.dying } = search rules in
    let x = found_is v p c.args.fd.0 c.in-Some.description c.in-Some.ensures.number c.in-Some.ensures.live in
    does_leaving (close_of v.files p c.args.fd.0).refusals Done Done after v c.let_go.new.self (named_none v p (number_of v c.in-Some.description) c.args.fd.0 _ x) refl (leaves_after v mid c.let_go.new.self after left c.let_go.ensures)

pub returns-clause-told : goal.returns-clause-told
returns-clause-told g c = λ _.
    let v = c.args.self.now in
    let mid = c.match-index_of.self in
    let after = close v.files c.args.pid.0 c.args.fd.0 in
    let left : mid ≡ record v { files = after; dying = mid.dying } = search rules in
    (leaves_after v mid c.let_go.new.self after left c.let_go.ensures).told
