use Rattle.std.proofs.Common.{subst, sym}
use Rattle.ep_calls.proofs.PartsLemmas.{coherent_raised}
use Rattle.ep_calls.proofs.RaiseLemmas.{untimed}
use Rattle.ep_calls.specs.Parts.{Parts}
use Rattle.ep_calls.specs.Raising.{IsRaising}
use Rattle.ep_calls.specs.declared.raising.Raising.{Raising}
use Rattle.ep_calls.specs.declared.raising.Raising.TheVariants.{Clock}
use Rattle.ep_alarms.proofs.alarms.Alarms.raise.Goals as goal

pub invariant_of-parts : goal.invariant_of-parts
invariant_of-parts c =
    let k = c.parts.inside in
    let p : Parts = record { tables = k.tables; interest = k.interest; graph = k.graph; parked = k.waiters; clock = k.clock } in
    let e = c.raise_due.ensures in
    let raises = subst (λ (r : Raising). IsRaising r p.tables) c.in-Clock.is (subst (λ (q : Parts). IsRaising c.args.raising q.tables) (sym c.parts.view_is) c.requires.raises) in
    coherent_raised c.args.step p (Clock c.in-Clock.since) c.raise_due.new.interest c.parts.invariant c.known.ensures raises (e.entries, e.added, e.keys)

pub raise-requires-clause-untimed : goal.raise-requires-clause-untimed
raise-requires-clause-untimed c = untimed c.args.raising c.in_default.not-Clock
