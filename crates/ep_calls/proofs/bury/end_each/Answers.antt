use Rattle.std.proofs.Common.{◌∙◌, ap, inr, map, refl, sym}
use Rattle.ep_machine.specs.Bits.{at_end}
use Rattle.ep_calls.specs.Raising.{raised_there}
use Rattle.ep_machine.specs.Files.{Files, place_of}
use Rattle.ep_calls.proofs.BurialLemmas.{buries_more, buries_none, placed_before}
use Rattle.ep_calls.proofs.IdLemmas.{ids_purged}
use Rattle.ep_calls.proofs.PurgeLemmas.{keeps_purged}
use Rattle.ep_calls.proofs.bury.end_each.Goals as goal

pub loop-dead-init : goal.loop-dead-init
loop-dead-init c = (buries_none c.args.step c.args.tables.now c.args.interest.now c.requires, λ tables h. h, λ id. inr refl)

pub loop-dead-preserved : goal.loop-dead-preserved
loop-dead-preserved c =
    let takes = c.in-Some.ensures.some in
    let before = c.loop-dead.invariant.0 in
    let there = ap (λ (f : Files). place_of f takes.number) (sym before.files) ∙ takes.place_is in
    let entries = c.raise_there.ensures.entries ∙ ap (map (raised_there c.in-Some.dead.other c.at_end.result c.args.step)) c.purge.ensures.entries in (
      buries_more c.args.step c.args.tables.now c.loop-dead.tables c.take_dead.new.self c.args.interest.now c.loop-dead.interest c.raise_there.new.interest c.in-Some.dead before takes c.known.ensures c.at_end.result (c.at_end.ensures ∙ ap (at_end c.in-Some.dead.raised) c.other_end.ensures)
          entries (c.raise_there.ensures.added ∙ c.purge.ensures.added) (placed_before c.args.tables.now.files before.dead takes.number takes.place there),
      λ tables h. keeps_purged c.in-Some.dead.desc c.in-Some.dead.other c.at_end.result c.args.step c.loop-dead.interest c.purge.new.self c.raise_there.new.interest c.loop-dead.graph c.purge-in-loop-dead.new.self c.known-in-loop-dead.ensures c.known-in-loop-dead-2.ensures c.purge.ensures.entries c.purge.ensures.keys c.raise_there.ensures.entries c.raise_there.ensures.keys c.purge-in-loop-dead.ensures tables (c.loop-dead.invariant.1 tables h),
      ids_purged c.args.interest.now c.loop-dead.interest c.purge.new.self c.raise_there.new.interest c.purge.ensures.keys c.raise_there.ensures.keys c.loop-dead.invariant.2,
    )
