use Rattle.std.proofs.Common.{◌≡◌, List, subst, sym}
use Rattle.ep_base.specs.declared.record.Record.{Record}
use Rattle.ep_kernel.specs.Running.{Runs}
use Rattle.ep_records.proofs.WholeLemmas.{all_stay}
use Rattle.ep_records.specs.Past.{whole}
use Rattle.ep_kernel.proofs.ready.ReadyKernelKernel.swap_history.Goals as goal

pub invariant_of-self : goal.invariant_of-self
invariant_of-self c =
    let k = c.self.inside in
    let is = c.self.invariant in
    let same : whole c.swap.new.self ≡ whole k.history = all_stay _ c.swap.result k.history c.swap.new.self c.args.other.now.room c.swap.ensures.goes_on c.swap.ensures.err in
    record {
      runs = subst (λ (rs : List Record). Runs rs k.parts k.beside.lists) (sym same) is.runs;
      set = is.set;
      hopes = is.hopes;
      room = is.room;
      unlost = is.unlost;
    }
