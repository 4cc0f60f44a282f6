use Rattle.std.proofs.Common.{◌∙◌, sym}
use Rattle.ep_kernel.specs.Take.{key_stays}
use Rattle.ep_kernel.proofs.TakeLemmas.{has_place, removed, rotated, some_place}
use Rattle.ep_kernel.proofs.take.take_front.Goals as goal

pub remove-requires : goal.remove-requires
remove-requires c = record { place = some_place c.args.lists.now c.in-Some.id c.args.instance.0 (has_place c.args.lists.now c.args.instance.0 (key_stays c.args.step c.args.interest.now) c.known.ensures c.in-Some.id (sym c.front.ensures ∙ c.in-Some.is)) }

pub returns-then-stays_listed : goal.returns-then-stays_listed
returns-then-stays_listed c = rotated c.args.lists.now c.args.instance.0 (key_stays c.args.step c.args.interest.now) c.known.ensures c.in-Some.id (sym c.front.ensures ∙ c.in-Some.is) c.rotate.new.self (sym c.stays_listed.ensures ∙ c.if-stays_listed.true) c.rotate.ensures

pub returns-else-stays_listed : goal.returns-else-stays_listed
returns-else-stays_listed c = removed c.args.lists.now c.args.instance.0 (key_stays c.args.step c.args.interest.now) c.known.ensures c.in-Some.id (sym c.front.ensures ∙ c.in-Some.is) c.remove.new.self (sym c.stays_listed.ensures ∙ c.if-stays_listed.false) c.remove.ensures
