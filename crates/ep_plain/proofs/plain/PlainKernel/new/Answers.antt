use Rattle.std.proofs.Common.{List, ap, subst, sym}
use Rattle.ep_alarms.proofs.ChangesLemmas.{set_opening}
use Rattle.ep_base.specs.declared.record.Record.{Record}
use Rattle.ep_plain.proofs.StandingLemmas.{standing_opening}
use Rattle.ep_plain.specs.Standing.{Standing}
use Rattle.ep_records.specs.Past.{whole}
use Rattle.ep_plain.proofs.plain.PlainKernel.new.Goals as goal

pub invariant_of-result : goal.invariant_of-result
invariant_of-result c =
    let p = c.in_ok-parts.parts in
    let d = c.new-3.result in
    let standing = subst (λ (rs : List Record). Standing rs p d) (sym (ap whole c.new-2.ensures)) (standing_opening c.args.limits p d c.in_ok-parts.ensures c.new-3.ensures) in
    record { standing = standing; set = set_opening c.args.limits p c.new-4.result c.in_ok-parts.ensures c.new-4.ensures }
