use Rattle.std.proofs.Common.{ap, refl}
use Rattle.ep_base.specs.declared.answer.Answer.TheVariants.{Num}
use Rattle.ep_machine.specs.FilesCalls.{accept_of}
use Rattle.ep_table.proofs.AcceptAtLemmas.{succeeds_accept}
use Rattle.ep_table.proofs.DoesLemmas.{does_done}
use Rattle.ep_table.proofs.LookupLemmas.{one_is}
use Rattle.ep_table.proofs.ToldLemmas.{nothing_told}
use Rattle.ep_table.proofs.tables.Tables.accept.Goals as goal

pub returns-clause-ok : goal.returns-clause-ok
returns-clause-ok g c =
    let v = c.args.self.now in
    let p = c.args.pid.0 in
    let n = one_is c.self.inside v p c.lowest-number.result c.deref.result.now c.self.view_is c.deref.ensures.value c.lowest-number.ensures in
    does_done (accept_of v.limits v.files p c.args.fd.0 c.args.cloexec) _ v c.add_accepted.new.self c.in-Ok.ensures.ok.free
    (succeeds_accept v c.add_accepted.new.self p c.args.fd.0 c.in-Ok.found c.args.cloexec _ (ap Num n) c.in-Ok.ensures.ok c.in_ok-add_accepted.ensures.ok)

pub returns-clause-told : goal.returns-clause-told
returns-clause-told g c =
    let v = c.args.self.now in
    nothing_told (accept_of v.limits v.files c.args.pid.0 c.args.fd.0 c.args.cloexec) c.add_accepted.new.self refl c.in_ok-add_accepted.ensures.ok.losses
