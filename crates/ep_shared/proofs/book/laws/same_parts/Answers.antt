use Rattle.std.proofs.Common.{◌≡◌, ◌∙◌, ap, false, sym, true}
use Rattle.std.specs.Prelude.{◌==◌}
use Rattle.std.specs.List.{list_any}
use Rattle.ep_base.specs.declared.record.Record.{Record}
use Rattle.ep_shared.proofs.SameParts.{same_at}
use Rattle.ep_shared.proofs.book.laws.same_parts.Goals as goal

pub returns-in-Some-least-clause-err : goal.returns-in-Some-least-clause-err
returns-in-Some-least-clause-err g c =
    let inv = rw c.in-Some-least.is at c.loop-r.invariant in (
      inv.0,
      λ d low. same_at c.args.history.now.items c.args.handed.now d (inv.1 d low)
          (λ e. inv.2 d low (λ a. let no : false ≡ true = sym (ap (list_any (λ (r : Record). r.caller.0 == d)) c.in-None.ensures.steps.0) ∙ a in cc) e),
    )

pub returns-in-None-least-clause-ok : goal.returns-in-None-least-clause-ok
returns-in-None-least-clause-ok g c =
    let inv = rw c.in-None-least.is at c.loop-r.invariant in
    λ d. same_at c.args.history.now.items c.args.handed.now d (inv.1 d tt)
    (λ e. inv.2 d tt (λ a. let no : false ≡ true = sym (ap (list_any (λ (r : Record). r.caller.0 == d)) c.in-None.ensures.steps.0) ∙ a in cc) e)
