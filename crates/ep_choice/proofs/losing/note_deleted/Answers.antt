use Rattle.std.proofs.Common.{◌∙◌, Option, ap, filter, length, subst, sym, ◌≡◌}
use Rattle.ep_base.specs.declared.ids.DescId.{DescId}
use Rattle.ep_calls.specs.Parts.{Parts}
use Rattle.ep_choice.proofs.LosingLemmas.{none_deleted, one_deleted, with_guards, without_guards}
use Rattle.ep_choice.specs.Lost.{with_home}
use Rattle.ep_interest.specs.Exclusive.{is_exclusive}
use Rattle.ep_choice.proofs.losing.note_deleted.Goals as goal

pub returns-then-guards-eq0 : goal.returns-then-guards-eq0
returns-then-guards-eq0 c =
    let p = c.args.parts.now in
    let counts = subst (λ (q : Parts). c.guards.result ≡ length (filter is_exclusive q.interest.entries)) c.parts.view_is c.guards.ensures in
    ap (λ (o : Option DescId). with_home o c.args.lost.now) (sym (none_deleted c.args.plan.operation c.args.plan.found p (without_guards p.interest c.guards.result counts c.if-guards-eq0.true)))

pub returns-in-Some : goal.returns-in-Some
returns-in-Some c =
    let p = c.args.parts.now in
    let counts = subst (λ (q : Parts). c.guards.result ≡ length (filter is_exclusive q.interest.entries)) c.parts.view_is c.guards.ensures in
    c.note.ensures
    ∙ ap (λ (o : Option DescId). with_home o c.args.lost.now)
    (sym (one_deleted c.args.plan.operation c.args.plan.found p c.in-Some.id c.in-Delete.is c.in-Some.is (with_guards p.interest c.guards.result counts c.if-guards-eq0.false)))
