use Rattle.std.proofs.Common.{Some, ap, rules, sym, ◌∙◌, ◌≡◌}
use Rattle.ep_base.specs.declared.record.Record.{Record}
use Rattle.ep_audit.proofs.AuditorLemmas.{last_made}
use Rattle.ep_audit_program.proofs.JudgeLemmas.{stays, told_illegal, told_legal}
use Rattle.ep_audit_program.proofs.judge.Judge.tell.Goals as goal

pub returns-then-is_some : goal.returns-then-is_some
returns-then-is_some c = λ limits records lines told at place.
    stays limits records lines c.args.self.now c.args.self.now.illegal c.args.next.now c.args.line.now (sym c.is_some.ensures ∙ c.if-is_some.true) told

pub returns-then-branch : goal.returns-then-branch
returns-then-branch c = λ limits records lines told at place.
    told_legal limits records lines c.args.self.now c.allows.new.self c.args.next.now c.args.line.now c.in_ok-allows.field-0 (sym c.is_some.ensures ∙ c.if-is_some.false) c.in_ok-allows.ensures.judges c.if-branch.true told

pub returns : goal.returns
returns c = λ limits records lines told at place.
    let same : c.extend_from_slice.new.self.items ≡ c.args.line.now = search rules in
    let m = c.in_ok-allows.ensures.made c.if-branch.false in
    let last = last_made c.args.self.now.auditor c.allows.new.self c.args.next.now (Some c.in-Some.other) m c.in-Some.ensures in
    told_illegal limits records lines c.args.self.now c.allows.new.self (record { place = c.args.place; line = c.extend_from_slice.new.self; allowed = c.in_ok-allowed.allowed })
    c.args.next.now c.args.line.now c.in_ok-allows.field-0 (sym c.is_some.ensures ∙ c.if-is_some.false) c.in_ok-allows.ensures.judges c.if-branch.false m same (c.in_ok-allowed.ensures.law ∙ (ap (λ (r : Record). Some r) c.in_ok-copy.ensures ∙ last)) told at place
