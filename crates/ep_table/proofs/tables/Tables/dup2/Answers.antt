use Rattle.std.proofs.Common.{Bool, [], ap, not, rules, sym, ℤ, ◌∙◌, ◌∷◌, ◌≡◌}
use Rattle.ep_base.specs.declared.errno.Errno.TheVariants.{Ebadf}
use Rattle.ep_machine.specs.Effect.{first}
use Rattle.ep_machine.specs.Watches.{number_in}
use Rattle.ep_base.specs.declared.answer.Answer.TheVariants.{Num}
use Rattle.ep_machine.specs.Files.{named_by}
use Rattle.ep_machine.specs.FilesCalls.{dup2_of}
use Rattle.ep_machine.specs.Tables.{dup2, is_in_range}
use Rattle.ep_table.specs.Value.{number_of}
use Rattle.ep_table.proofs.DoesLemmas.{found_is}
use Rattle.ep_table.proofs.LeavesLemmas.{does_leaving, leaves_after, named_none}
use Rattle.ep_table.proofs.UnnameLemmas.{under_named}
use Rattle.ep_table.proofs.tables.Tables.dup2.Goals as goal

pub name_at-requires-clause-named : goal.name_at-requires-clause-named
name_at-requires-clause-named g c =
    let v = c.args.self.now in
    under_named v.files c.args.pid.0 (number_of v c.in-Some.description) c.args.fd.0 (found_is v c.args.pid.0 c.args.fd.0 c.in-Some.description c.in-Some.ensures.number c.in-Some.ensures.live)

pub returns-clause-ok : goal.returns-clause-ok
returns-clause-ok g c =
    let v = c.args.self.now in
    let p = c.args.pid.0 in
    let d = named_by v.files p c.args.fd.0 in
    let after = dup2 v.files p c.args.fd.0 c.args.to.0 d in
    let call = dup2_of v.limits v.files p c.args.fd.0 c.args.to.0 in
    let mid = c.if-ne.self in
    let left : mid ≡ record v { files = after; dying = mid.dying } = search rules in
    let x = found_is v p c.args.fd.0 c.in-Some.description c.in-Some.ensures.number c.in-Some.ensures.live in
    let to = c.in-Some-in_range.ensures.some in
    let none = named_none v p (number_of v c.in-Some.description) c.args.fd.0 ((not (is_in_range v.limits c.args.to.0), Ebadf) ∷ []) x ∙ ap (λ (b : Bool). first ((not b, Ebadf) ∷ [])) to.2 in
    does_leaving call.refusals call.answer (Num c.in-Some-in_range.number) after v c.let_go.new.self none (ap (λ (z : ℤ). Num (number_in z)) (sym to.0)) (leaves_after v mid c.let_go.new.self after left c.let_go.ensures)

pub returns-clause-told : goal.returns-clause-told
returns-clause-told g c = λ _.
    let v = c.args.self.now in
    let p = c.args.pid.0 in
    let after = dup2 v.files p c.args.fd.0 c.args.to.0 (named_by v.files p c.args.fd.0) in
    let mid = c.if-ne.self in
    let left : mid ≡ record v { files = after; dying = mid.dying } = search rules in
    (leaves_after v mid c.let_go.new.self after left c.let_go.ensures).told
