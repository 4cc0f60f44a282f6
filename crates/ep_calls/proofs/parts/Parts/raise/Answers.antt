use Rattle.std.proofs.Common.{subst, sym}
use Rattle.ep_calls.specs.Parts.{Parts}
use Rattle.ep_calls.specs.Raising.{IsRaising}
use Rattle.ep_calls.proofs.PartsLemmas.{coherent_raised}
use Rattle.ep_calls.proofs.parts.Parts.raise.Goals as goal

pub invariant_of-self : goal.invariant_of-self
invariant_of-self c =
    let k = c.self.inside in
    let p : Parts = record { tables = k.tables; interest = k.interest; graph = k.graph; parked = k.waiters; clock = k.clock } in
    coherent_raised c.args.step p c.args.raising c.raise_all.new.interest c.self.invariant c.known.ensures (subst (λ (q : Parts). IsRaising c.args.raising q.tables) (sym c.self.view_is) c.requires.raises) (c.raise_all.ensures.stirs k.clock)
