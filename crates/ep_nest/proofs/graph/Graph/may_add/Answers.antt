use Rattle.std.proofs.Common.{List, ap, refl, sym, true, ◌∙◌, ◌∷◌, ◌≡◌}
use Rattle.std.proofs.lemmas.Bool.{eqb-false, eqb-true}
use Rattle.ep_machine.specs.Watches.{is_legal}
use Rattle.ep_nest.proofs.MayAddLemmas.{between, fits_if_legal, legal_if_shallow, machine_from_words, not_between, too_deep_refused, words_from_machine}
use Rattle.ep_nest.specs.Links.{edges}
use Rattle.ep_nest.specs.declared.link.Link.{Link}
use Rattle.ep_nest.proofs.graph.Graph.may_add.Given.{Over}
use Rattle.ep_nest.proofs.graph.Graph.may_add.Goals as goal
use Rattle.ep_nest.proofs.graph.Graph.may_add.Goals.{then-eq-via-then-eq, then-eq-via-else-eq+then-is_too_deep, then-eq-via-else-eq+else-is_too_deep+then-watches}

refused : (g : Over) (c : goal.Joined-then-eq g) → is_legal ((c.args.outer.0, c.args.inner.0) ∷ edges c.args.self.now) ≡ true → ⊥
refused g c h =
    let ls = c.self.inside.links in
    let outer = c.args.outer.0 in
    let inner = c.args.inner.0 in
    let was = c.self.invariant.kept.legal in
    let legal : is_legal ((outer, inner) ∷ edges ls) ≡ true = ap (λ (ls : List Link). is_legal ((outer, inner) ∷ edges ls)) c.self.view_is ∙ h in
    elim c.then-eq.branch [
      | then-eq-via-then-eq w ↦ (fits_if_legal ls was outer inner legal).apart (eqb-true outer inner (sym c.eq.ensures ∙ w.if-eq.true))
      | then-eq-via-else-eq+then-is_too_deep w ↦ too_deep_refused ls was outer inner (c.are_too_deep-is_too_deep.ensures.deep w.if-is_too_deep.true) legal
      | then-eq-via-else-eq+else-is_too_deep+then-watches w ↦ (fits_if_legal ls was outer inner legal).one_way (between ls inner outer (sym w.watches.ensures.exact ∙ w.if-watches.true))
    ]

pub returns-then-eq-clause-machine : goal.returns-then-eq-clause-machine
returns-then-eq-clause-machine g c = (λ e. absurd (cc), λ h. absurd (refused g c h))

pub returns-then-eq-clause-legal : goal.returns-then-eq-clause-legal
returns-then-eq-clause-legal g c =
    (λ e. absurd (cc), λ h. absurd (refused g c (machine_from_words ((c.args.outer.0, c.args.inner.0) ∷ edges c.args.self.now) h)))

pub returns-clause-machine : goal.returns-clause-machine
returns-clause-machine g c =
    let ls = c.self.inside.links in
    let outer = c.args.outer.0 in
    let inner = c.args.inner.0 in
    let apart : outer ≡ inner → ⊥ = eqb-false outer inner (sym c.eq.ensures ∙ c.if-eq.false) in
    let one_way = not_between ls inner outer (sym c.watches.ensures.exact ∙ c.if-watches.false) in
    let legal = legal_if_shallow ls c.self.invariant.kept.legal outer inner (c.are_too_deep-is_too_deep.ensures.shallow c.if-is_too_deep.false) apart one_way in
    (λ e. ap (λ (ls : List Link). is_legal ((outer, inner) ∷ edges ls)) (sym c.self.view_is) ∙ legal, λ h. refl)

pub returns-clause-legal : goal.returns-clause-legal
returns-clause-legal g c =
    let machine = returns-clause-machine g c in
    (λ e. words_from_machine ((c.args.outer.0, c.args.inner.0) ∷ edges c.args.self.now) (machine.0 refl), λ h. refl)
