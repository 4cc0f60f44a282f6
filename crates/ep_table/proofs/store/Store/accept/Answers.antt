use Rattle.ep_table.proofs.AcceptingLemmas.{accepts, first_waits, listener_lives}
use Rattle.ep_table.specs.Value.{files_in}
use Rattle.ep_table.proofs.SoundLemmas.{place_under}
use Rattle.ep_table.proofs.store.Store.accept.Goals as goal

pub describe_second-requires : goal.describe_second-requires
describe_second-requires g c = first_waits (files_in c.args.self.now) _ c.args.found.number c.requires.found.first

pub remove_pending-requires : goal.remove_pending-requires
remove_pending-requires g c =
    let v = c.args.self.now in
    listener_lives v c.describe_second.new.self c.args.found.number c.args.found.index c.args.found.listener c.in_ok-key.key c.requires.live (place_under v c.args.found.listener c.known.ensures c.requires.live)
    (first_waits (files_in c.args.self.now) _ c.args.found.number c.requires.found.first) c.requires.found.place c.in_ok-key.ensures.ok

pub returns-clause-ok : goal.returns-clause-ok
returns-clause-ok g c =
    let v = c.args.self.now in
    accepts v c.describe_second.new.self c.args.found.number c.args.found.index c.args.found.listener c.in_ok-key.key c.requires.live (place_under v c.args.found.listener c.known.ensures c.requires.live)
    (first_waits (files_in c.args.self.now) _ c.args.found.number c.requires.found.first) c.requires.found.place c.in_ok-key.ensures.ok c.remove_pending.new.self c.remove_pending.ensures
