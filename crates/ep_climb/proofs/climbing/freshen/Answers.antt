use Rattle.std.proofs.Common.{◌≡◌, ◌∙◌, [], ap, map, refl, subst, sym}
use Rattle.ep_calls.proofs.ClimbLemmas.{risen_watch, risen_watches}
use Rattle.ep_calls.proofs.PartsLemmas.{watched_by}
use Rattle.ep_calls.specs.Climb.{AreNested, Rises}
use Rattle.ep_calls.specs.Parts.{Parts}
use Rattle.ep_calls.specs.Stands.{watch_at}
use Rattle.ep_climb.proofs.ClimbLemmas.{live_of}
use Rattle.ep_climb.proofs.LinkLemmas.{no_links, risen_none}
use Rattle.ep_climb.specs.Reach.{AreLive, AreReached}
use Rattle.ep_view.specs.KernelView.{reached_now}
use Rattle.ep_climb.proofs.climbing.freshen.Goals as goal

pub freshen_reached-requires-clause-live : goal.freshen_reached-requires-clause-live
freshen_reached-requires-clause-live c = subst (λ (q : Parts). AreLive q.tables c.args.reached.now.reached) (sym c.parts.view_is) (live_of c.requires.0 c.args.parts.now.tables c.args.parts.now.interest c.args.reached.now.reached c.requires.1)

pub invariant_of-parts : goal.invariant_of-parts
invariant_of-parts c =
    let k = c.parts.inside in
    let h = c.parts.invariant in
    let n = c.requires.0 in
    let reached = reached_now k.tables.files n (map (watch_at k.tables.keys) k.interest.entries) in
    let rises = c.freshen_reached.ensures.rises n (subst (λ (q : Parts). AreReached n q.tables q.interest c.args.reached.now.reached) (sym c.parts.view_is) c.requires.1) in
    record {
      linked = c.freshen_reached.ensures.linked;
      watched =
          watched_by k.tables k.interest.entries c.freshen_reached.new.interest.entries (risen_watch reached k.tables.files) (λ w. refl)
          (ap (map (watch_at k.tables.keys)) rises.entries ∙ risen_watches reached k.tables k.interest.entries) h.watched;
      nested = c.freshen_reached.ensures.nested k.graph h.nested;
      placed = h.placed;
      held = h.held;
      clock = h.clock;
    }

pub returns-clause-rises : goal.returns-clause-rises
returns-clause-rises c = λ n exact.
    subst (λ (q : Parts). Rises n q.tables q.interest c.freshen_reached.new.interest) c.parts.view_is
    (c.freshen_reached.ensures.rises n (subst (λ (q : Parts). AreReached n q.tables q.interest c.args.reached.now.reached) (sym c.parts.view_is) exact))

pub returns-then-not-has_links-clause-rises : goal.returns-then-not-has_links-clause-rises
returns-then-not-has_links-clause-rises c = λ n exact.
    let k = c.parts.inside in
    let none : k.graph ≡ [] = no_links k.graph (sym c.has_links.ensures ∙ c.if-not-has_links.true) in
    let nested = subst (AreNested k.tables k.interest) none c.parts.invariant.nested in
    let reached = reached_now k.tables.files n (map (watch_at k.tables.keys) k.interest.entries) in
    subst (λ (q : Parts). Rises n q.tables q.interest q.interest) c.parts.view_is (record { entries = sym (risen_none k.tables k.interest nested reached); added = refl })
