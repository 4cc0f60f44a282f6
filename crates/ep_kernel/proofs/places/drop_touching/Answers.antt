use Rattle.std.proofs.Common.{filter}
use Rattle.ep_interest.specs.Passes.{has_id}
use Rattle.ep_interest.specs.Registrations.{ids, is_of, is_on}
use Rattle.ep_kernel.proofs.BesideLemmas.{each_then}
use Rattle.ep_kernel.proofs.PlacesLemmas.{loses_both}
use Rattle.ep_kernel.proofs.places.drop_touching.Goals as goal

pub returns : goal.returns
returns c =
    let r = c.args.interest.now in
    each_then (loses_both (has_id (ids r (filter (is_of c.args.desc) r.entries))) (has_id (ids r (filter (is_on c.args.desc) r.entries)))) c.drop_set.ensures c.drop_watchers.ensures
