use Rattle.std.proofs.Common.{◌≡◌, ◌<◌, ◌-◌, ◌∙◌, ◌∷◌, ◌||◌, ℕ, Bool, IsSome, List, Option, Some, arith, ap, false, inl, refl, subst, sym, true}
use Rattle.std.specs.List.{list_any}
use Rattle.ep_facts.proofs.NatFacts.{same_nat}
use Rattle.ep_facts.proofs.BoolFacts.{or_left}
use Rattle.ep_calls.specs.Parking.{ready_key}
use Rattle.ep_calls.specs.Parts.{Parts}
use Rattle.ep_interest.specs.Registrations.{IsSound, entry_under}
use Rattle.ep_kernel.proofs.AskedLemmas.{answered, knows_noted}
use Rattle.ep_kernel.proofs.PrunesLemmas.{front_is, front_none, hopes_left, prunes_both, prunes_none, prunes_one, shorter_without}
use Rattle.ep_kernel.proofs.ReadinessLemmas.{below_found, ends_below, listed_ready, shows_below, some_links}
use Rattle.ep_kernel.proofs.readiness.+is_ready_within.Goals as goal
use Rattle.ep_kernel.proofs.readiness.+is_ready_within.Goals.{After-known-4, After-known-in-Some-front, After-shows_over, in-None, in-Some-watched_instance}
use Rattle.ep_kernel.specs.Asked.{Knows}
use Rattle.ep_kernel.specs.declared.asked.Asked.{Asked}
use Rattle.ep_kernel.specs.Listed.{key_shows}
use Rattle.ep_kernel.specs.Readiness.{Prunes, nested_found}
use Rattle.ep_law.specs.Laws.{Member}
use Rattle.ep_machine.specs.Lists.{is_among}
use Rattle.ep_machine.specs.Watches.{is_legal}
use Rattle.ep_nest.specs.Links.{edges}
use Rattle.ep_ready.specs.ReadyLists.{instance_at, list_at}

pub loop-id-init : goal.loop-id-init
loop-id-init t c = record { knows = c.requires.knows; prunes = prunes_none c.args.asked.now.hopes }

-- the first of the hopes
first : (t : ℕ) (c : After-known-in-Some-front t) → (rest : List ℕ) × (list_at c.loop-id.asked.hopes c.args.instance.0 ≡ c.in-Some-front.id.0 ∷ rest)
first t c = front_is (list_at c.loop-id.asked.hopes c.args.instance.0) c.in-Some-front.id (sym c.front.ensures ∙ c.in-Some-front.is)

-- something on the list is reportable exactly where the instance is ready
listed : (t : ℕ) (c : After-known-in-Some-front t) → list_any (key_shows c.args.parts.now) (list_at c.loop-id.asked.hopes c.args.instance.0) ≡ ready_key c.args.parts.now.tables c.args.parts.now.clock c.args.parts.now.interest c.args.instance.0
listed t c =
    let sound = subst (λ (q : Parts). IsSound q.interest) c.parts.view_is c.known-2.ensures in
    let legal = subst (λ (q : Parts). is_legal (edges q.graph) ≡ true) c.parts.view_is c.known-3.ensures.legal in
    listed_ready c.args.parts.now c.loop-id.asked.hopes c.known.ensures.coherent c.known.ensures.sound sound c.known-in-Some-front.ensures c.loop-id.invariant.knows.hopes c.args.instance c.requires.live legal

-- what watches an instance is on the list, so the instance has fewer links below it
pub is_ready_within-below-requires : goal.is_ready_within-below-requires
is_ready_within-below-requires t c =
    let p = c.args.parts.now in
    let h = c.loop-id.asked.hopes in
    let i = c.args.instance in
    let inner = c.in-Some-watched_instance.inner in
    let sound = subst (λ (q : Parts). IsSound q.interest) c.parts.view_is c.known-2.ensures in
    let front = front_is (list_at h i.0) c.in-Some-front.id (sym c.front.ensures ∙ c.in-Some-front.is) in
    let on : Member c.in-Some-front.id.0 (list_at h i.0) = subst (Member c.in-Some-front.id.0) (sym front.1) (inl refl) in
    let ends = ends_below p h c.known.ensures.coherent c.known.ensures.sound sound c.known-in-Some-front.ensures c.loop-id.invariant.knows.hopes i c.requires.live c.args.links c.in-Some-front.id.0 inner on (sym c.in-Some-watched_instance.ensures.watched) c.requires.ends in
    let some = some_links p i c.args.links c.requires.ends in
    let less : c.args.links - 1 < t = omega (arith, some, c.decreases) in
    (less, (c.in-Some-watched_instance.ensures.live, (ends, c.loop-id.invariant.knows)))

pub overflow_sub-links : goal.overflow_sub-links
overflow_sub-links t c =
    let some = some_links c.args.parts.now c.args.instance c.args.links c.requires.ends in
    omega (arith, some)

pub returns-in-Some-clause-ready : goal.returns-in-Some-clause-ready
returns-in-Some-clause-ready t c =
    let p = c.args.parts.now in
    answered (ready_key p.tables p.clock p.interest) c.args.asked.now c.args.instance.0 c.in-Some.ready c.requires.knows.told (sym c.answer.ensures ∙ c.in-Some.is)

pub returns-in-Some-clause-prunes : goal.returns-in-Some-clause-prunes
returns-in-Some-clause-prunes t c = prunes_none c.args.asked.now.hopes

-- what a registration shows, and what is known once the instance below was asked
below_is : (t : ℕ) (c : After-shows_over t) → c.match-watched_instance.below ≡ below_found c.args.parts.now (nested_found c.args.parts.now (entry_under c.args.parts.now.interest c.in-Some-front.id))
below_is t c =
    let p = c.args.parts.now in
    elim c.match-watched_instance.branch [
      | in-Some-watched_instance w ↦ w.below-is ∙ (w.is_ready_within-below.ensures.ready ∙ ap (below_found p) w.in-Some-watched_instance.ensures.watched)
      | in-None w ↦ w.below-is ∙ ap (below_found p) w.in-None.ensures.watched
    ]

below_knows : (t : ℕ) (c : After-shows_over t) → Knows c.args.parts.now c.match-watched_instance.asked
below_knows t c =
    let p = c.args.parts.now in
    elim c.match-watched_instance.branch [
      | in-Some-watched_instance w ↦ subst (λ (a : Asked). Knows p a) (sym w.asked-is) w.is_ready_within-below.ensures.knows
      | in-None w ↦ subst (λ (a : Asked). Knows p a) (sym w.asked-is) c.loop-id.invariant.knows
    ]

below_prunes : (t : ℕ) (c : After-shows_over t) → Prunes c.loop-id.asked.hopes c.match-watched_instance.asked.hopes
below_prunes t c =
    let h = c.loop-id.asked.hopes in
    elim c.match-watched_instance.branch [
      | in-Some-watched_instance w ↦ subst (λ (a : Asked). Prunes h a.hopes) (sym w.asked-is) w.is_ready_within-below.ensures.prunes
      | in-None w ↦ subst (λ (a : Asked). Prunes h a.hopes) (sym w.asked-is) (prunes_none h)
    ]

shown : (t : ℕ) (c : After-shows_over t) → key_shows c.args.parts.now c.in-Some-front.id.0 ≡ c.shows_over.result
shown t c = sym (shows_below c.args.parts.now c.match-watched_instance.below (entry_under c.args.parts.now.interest c.in-Some-front.id) (below_is t c)) ∙ sym c.shows_over.ensures

-- where the first is reportable, the instance is ready
found : (t : ℕ) (c : After-shows_over t) (d : After-known-in-Some-front t) → (rest : List ℕ) → list_at c.loop-id.asked.hopes c.args.instance.0 ≡ c.in-Some-front.id.0 ∷ rest → c.shows_over.result ≡ true → list_any (key_shows c.args.parts.now) (list_at c.loop-id.asked.hopes c.args.instance.0) ≡ true
found t c d rest is one =
    let p = c.args.parts.now in
    ap (list_any (key_shows p)) is ∙ ap (λ (b : Bool). b || list_any (key_shows p) rest) (shown t c ∙ one)

pub returns-then-shows_over-clause-ready : goal.returns-then-shows_over-clause-ready
returns-then-shows_over-clause-ready t c =
    let at = goal.at.returns-then-shows_over-clause-ready t c in
    let front = first t at.After-known-in-Some-front in
    sym (found t at.After-shows_over at.After-known-in-Some-front front.0 front.1 c.if-shows_over.true) ∙ listed t at.After-known-in-Some-front

pub returns-then-shows_over-clause-knows : goal.returns-then-shows_over-clause-knows
returns-then-shows_over-clause-knows t c =
    let p = c.args.parts.now in
    let at = goal.at.returns-then-shows_over-clause-knows t c in
    let front = first t at.After-known-in-Some-front in
    let ready = sym (found t at.After-shows_over at.After-known-in-Some-front front.0 front.1 c.if-shows_over.true) ∙ listed t at.After-known-in-Some-front in
    subst (λ (a : Asked). Knows p a) (sym c.note.ensures) (knows_noted p c.match-watched_instance.asked c.args.instance.0 true (below_knows t at.After-shows_over) ready)

pub returns-then-shows_over-clause-prunes : goal.returns-then-shows_over-clause-prunes
returns-then-shows_over-clause-prunes t c =
    let old = c.args.asked.now.hopes in
    let at = goal.at.returns-then-shows_over-clause-prunes t c in
    subst (λ (a : Asked). Prunes old a.hopes) (sym c.note.ensures) (prunes_both old c.loop-id.asked.hopes c.match-watched_instance.asked.hopes c.loop-id.invariant.prunes (below_prunes t at.After-shows_over))

-- the first has its place still
pub remove-requires : goal.remove-requires
remove-requires t c =
    let at = goal.at.remove-requires t c in
    let id = c.in-Some-front.id in
    let i = c.args.instance.0 in
    let front = first t at.After-known-in-Some-front in
    let on : is_among (list_at c.loop-id.asked.hopes i) id.0 ≡ true = ap (λ (ks : List ℕ). is_among ks id.0) front.1 ∙ or_left _ _ (same_nat id.0) in
    let place : instance_at c.match-watched_instance.asked.hopes id ≡ Some i = (below_prunes t at.After-shows_over).places id ∙ c.known-in-Some-front.ensures.own i id on in
    record { place = subst (λ (o : Option ℕ). IsSome o) (sym place) refl }

pub loop-id-preserved : goal.loop-id-preserved
loop-id-preserved t c =
    let p = c.args.parts.now in
    let at = (goal.at.loop-id-preserved t c).After-shows_over in
    let mid = c.match-watched_instance.asked.hopes in
    let knows = below_knows t at in
    let told = knows.told in
    record {
      knows = record {
        told = record { ready = told.ready; idle = told.idle };
        hopes = hopes_left mid c.known-in-Some-front-2.ensures c.in-Some-front.id p c.remove.new.self c.remove.ensures knows.hopes (shown t at ∙ c.if-shows_over.false);
      };
      prunes =
          prunes_both c.args.asked.now.hopes mid c.remove.new.self (prunes_both c.args.asked.now.hopes c.loop-id.asked.hopes mid c.loop-id.invariant.prunes (below_prunes t at))
          (prunes_one mid c.known-in-Some-front-2.ensures c.in-Some-front.id c.remove.new.self c.remove.ensures);
    }

pub loop-id-smaller : goal.loop-id-smaller
loop-id-smaller t c =
    let at = goal.at.loop-id-smaller t c in
    let front = first t at.After-known-in-Some-front in
    shorter_without c.loop-id.asked.hopes c.match-watched_instance.asked.hopes c.remove.new.self c.known-in-Some-front-2.ensures c.in-Some-front.id c.args.instance.0 front.0 front.1 (below_prunes t at.After-shows_over) c.remove.ensures

-- once nothing is left, the instance is not ready
none_ready : (t : ℕ) (c : After-known-4 t) → false ≡ ready_key c.args.parts.now.tables c.args.parts.now.clock c.args.parts.now.interest c.args.instance.0
none_ready t c =
    let p = c.args.parts.now in
    let h = c.loop-id.asked.hopes in
    let sound = subst (λ (q : Parts). IsSound q.interest) c.parts.view_is c.known-2.ensures in
    let legal = subst (λ (q : Parts). is_legal (edges q.graph) ≡ true) c.parts.view_is c.known-3.ensures.legal in
    let none = front_none (list_at h c.args.instance.0) (sym c.front.ensures ∙ c.in_default-front.is) in
    sym (ap (list_any (key_shows p)) none) ∙ listed_ready p h c.known.ensures.coherent c.known.ensures.sound sound c.known-4.ensures c.loop-id.invariant.knows.hopes c.args.instance c.requires.live legal

pub returns-clause-ready : goal.returns-clause-ready
returns-clause-ready t c = none_ready t (goal.at.returns-clause-ready t c).After-known-4

pub returns-clause-knows : goal.returns-clause-knows
returns-clause-knows t c =
    let p = c.args.parts.now in
    subst (λ (a : Asked). Knows p a) (sym c.note-2.ensures) (knows_noted p c.loop-id.asked c.args.instance.0 false c.loop-id.invariant.knows (none_ready t (goal.at.returns-clause-knows t c).After-known-4))

pub returns-clause-prunes : goal.returns-clause-prunes
returns-clause-prunes t c = subst (λ (a : Asked). Prunes c.args.asked.now.hopes a.hopes) (sym c.note-2.ensures) c.loop-id.invariant.prunes
