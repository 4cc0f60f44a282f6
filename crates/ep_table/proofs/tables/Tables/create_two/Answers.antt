use Rattle.std.proofs.Common.{arith, refl}
use Rattle.ep_machine.specs.FilesCalls.{two_of}
use Rattle.ep_table.proofs.DoesLemmas.{does_done, one_below, succeeds_two, two_is}
use Rattle.ep_table.proofs.LookupLemmas.{one_is, second_is}
use Rattle.ep_table.proofs.ToldLemmas.{nothing_told}
use Rattle.ep_table.proofs.tables.Tables.create_two.Goals as goal

pub fd_of-requires : goal.fd_of-requires
fd_of-requires g c =
    let v = c.args.self.now in
    let m = one_is c.self.inside v c.args.pid.0 c.lowest-first.result c.deref.result.now c.self.view_is c.deref.ensures.value c.lowest-first.ensures in
    omega (arith, m, one_below v c.args.pid.0, c.requires.small)

pub fd_of-requires-2 : goal.fd_of-requires-2
fd_of-requires-2 g c =
    let v = c.args.self.now in
    let n = second_is c.self.inside v c.args.pid.0 c.second-second.result c.deref-2.result.now c.self.view_is c.deref-2.ensures.value c.second-second.ensures in
    omega (arith, n, c.requires.small)

pub returns-clause-ok : goal.returns-clause-ok
returns-clause-ok g c =
    let v = c.args.self.now in
    let p = c.args.pid.0 in
    let m = one_is c.self.inside v p c.lowest-first.result c.deref.result.now c.self.view_is c.deref.ensures.value c.lowest-first.ensures in
    let n = second_is c.self.inside v p c.second-second.result c.deref-2.result.now c.self.view_is c.deref-2.ensures.value c.second-second.ensures in
    let a = two_is v p c.lowest-first.result c.second-second.result c.fd_of.result c.fd_of-2.result m n c.fd_of.ensures c.fd_of-2.ensures in
    does_done (two_of v.limits v.files p c.args.object c.args.cloexec) _ v c.add_two.new.self c.requires.free
    (succeeds_two v c.add_two.new.self p c.args.object c.args.cloexec _ a c.in_ok-add_two.ensures.ok)

pub returns-clause-told : goal.returns-clause-told
returns-clause-told g c =
    let v = c.args.self.now in
    nothing_told (two_of v.limits v.files c.args.pid.0 c.args.object c.args.cloexec) c.add_two.new.self refl c.in_ok-add_two.ensures.ok.losses
