use Rattle.std.proofs.Common.{refl}
use Rattle.ep_facts.proofs.OptionFacts.{value_of}
use Rattle.ep_kernel.proofs.PushLemmas.{gains_one}
use Rattle.ep_kernel.proofs.beside.Beside.join.Goals as goal
use Rattle.ep_ready.specs.ReadyLists.{instance_at}

pub returns : goal.returns
returns c =
    let l = c.args.self.now.lists in
    let h = c.args.self.now.asked.hopes in
    let placed = value_of (instance_at l c.args.id) c.requires.lists in
    let hoped = value_of (instance_at h c.args.id) c.requires.hopes in
    record {
      alike = record {
        lists = gains_one l c.known.ensures c.args.id placed.0 placed.1 c.push_back.new.self c.push_back.ensures;
        hopes = gains_one h c.known-2.ensures c.args.id hoped.0 hoped.1 c.push_back-2.new.self c.push_back-2.ensures;
      };
      rest = refl;
    }
