use Rattle.std.proofs.Common.{refl}
use Rattle.ep_calls.specs.Burial.{Burial}
use Rattle.ep_calls.specs.Parts.{Parts}
use Rattle.ep_calls.proofs.DeathLemmas.{coherent_buried}
use Rattle.ep_calls.proofs.parts.Parts.bury.Goals as goal

pub invariant_of-self : goal.invariant_of-self
invariant_of-self c =
    let k = c.self.inside in
    let p : Parts = record { tables = k.tables; interest = k.interest; graph = k.graph; parked = k.waiters; clock = k.clock } in
    let e = c.end_dying in
    let new : Parts = record p { tables = e.new.tables; interest = e.new.interest; graph = e.new.graph } in
    let burial : Burial c.args.step p.tables p.interest new.tables new.interest = record { sound = c.known.ensures; buries = e.ensures.buries; none = e.ensures.none } in
    coherent_buried c.args.step p new c.self.invariant burial refl refl c.known-2.ensures e.ensures.nested
