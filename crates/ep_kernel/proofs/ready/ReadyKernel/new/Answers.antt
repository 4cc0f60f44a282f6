use Rattle.std.proofs.Common.{List, ap, length, subst, sym, ◌+◌}
use Rattle.ep_base.specs.declared.record.Record.{Record}
use Rattle.ep_kernel.specs.Running.{Runs}
use Rattle.ep_kernel.proofs.ReadyBookLemmas.{no_lists}
use Rattle.ep_kernel.proofs.RoomLemmas.{room_opening}
use Rattle.ep_kernel.proofs.RunLemmas.{hopes_opening, runs_opening}
use Rattle.ep_alarms.proofs.ChangesLemmas.{set_opening}
use Rattle.ep_records.specs.Past.{whole}
use Rattle.ep_kernel.proofs.ready.ReadyKernel.new.Goals as goal

pub invariant_of-result : goal.invariant_of-result
invariant_of-result c =
    let p = c.in_ok-new.field-0 in
    let opens = c.in_ok-new.ensures in
    let b = c.new-2.result in
    let places = c.new-2.ensures.places in
    record {
      runs = subst (λ (rs : List Record). Runs rs p b.lists) (sym (ap whole c.new-4.ensures)) (runs_opening c.args.limits p b.lists opens places.lists);
      set = set_opening c.args.limits p c.new-3.result opens c.new-3.ensures;
      hopes = hopes_opening c.args.limits p b.asked.hopes opens places.hopes;
      room = room_opening c.args.limits p b opens c.new-2.ensures.unlost;
      unlost = c.new-2.ensures.unlost;
    }

-- no list is there yet
pub returns : goal.returns
returns c =
    let none = no_lists c.in_ok-new.field-0 c.new-2.result.lists c.new-2.ensures.places.lists in
    λ i. record {
      book = record {
        limits = c.in_ok-new.ensures.limits i;
        past = whole (c.new-4.ensures i);
        taken = (c.new-4.ensures i).taken;
        capacity = length (whole (c.new-4.ensures i)) + (c.new-4.ensures i).room;
      };
      lists = none i;
    }
