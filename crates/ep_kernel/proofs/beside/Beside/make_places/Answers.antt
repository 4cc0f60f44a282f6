use Rattle.ep_kernel.proofs.ControlTurnsLemmas.{same_again}
use Rattle.ep_kernel.proofs.beside.Beside.make_places.Goals as goal

pub returns-in-Err-clause-refused : goal.returns-in-Err-clause-refused
returns-in-Err-clause-refused c = record {
  lists = c.in-Err.ensures.refused;
  hopes = same_again c.args.self.now.asked.hopes c.make_place.new.self c.drop_place.new.self c.args.id c.args.instance.0 c.known.ensures c.requires.free.hopes c.in_ok-make_place.ensures.made c.drop_place.ensures;
}
