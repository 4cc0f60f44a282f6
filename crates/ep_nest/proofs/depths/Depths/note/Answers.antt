use Rattle.std.proofs.Common.{List, ap, arith, length, subst, sym, ℕ, ◌∙◌, ◌≡◌}
use Rattle.std.proofs.lemmas.List.{with_items_is}
use Rattle.ep_nest.proofs.DepthLemmas.{newest, noted, placed_along}
use Rattle.ep_nest.proofs.KeptLemmas.{short_up}
use Rattle.ep_nest.proofs.LegalityLemmas.{short_from_is_legal}
use Rattle.ep_nest.specs.Depths.{AreDepths, Deepens, depth_at, one_more}
use Rattle.ep_nest.specs.Lengths.{HasPlaces}
use Rattle.ep_nest.specs.Links.{along, edges}
use Rattle.ep_nest.specs.declared.link.Way.TheVariants.{Down, Up}
use Rattle.ep_nest.proofs.depths.Depths.note.Goals as goal

pub deepen-requires-clause-place : goal.deepen-requires-clause-place
deepen-requires-clause-place g c =
    let all = c.args.links.now in
    let l = c.args.link in
    let link = newest Down c.requires.last.0 all l c.requires.last.1 in
    let place = (placed_along Down all (length c.args.self.now.below.items) l.outer.0 l.inner.0 c.requires.below link).0 in
    omega (arith, place, ap (λ (ds : List ℕ). length ds) c.deref_mut.ensures.value)

pub deepen-requires-clause-ends : goal.deepen-requires-clause-ends
deepen-requires-clause-ends g c y = short_up c.args.links.now (short_from_is_legal (edges c.args.links.now) c.requires.legal) c.args.link.outer.0 y

pub deepen-requires-2-clause-place : goal.deepen-requires-2-clause-place
deepen-requires-2-clause-place g c =
    let all = c.args.links.now in
    let l = c.args.link in
    let link = newest Down c.requires.last.0 all l c.requires.last.1 in
    let place = (placed_along Down all (length c.args.self.now.above.items) l.outer.0 l.inner.0 c.requires.above link).1 in
    omega (arith, place, ap (λ (ds : List ℕ). length ds) c.deref_mut-2.ensures.value)

pub deepen-requires-2-clause-ends : goal.deepen-requires-2-clause-ends
deepen-requires-2-clause-ends g c y = short_from_is_legal (edges c.args.links.now) c.requires.legal c.args.link.inner.0 y

pub returns : goal.returns
returns g c =
    let all = c.args.links.now in
    let l = c.args.link in
    let old = c.args.self.now in
    let deep = c.requires.last.2 in
    let value_below = c.deref_mut.ensures.value in
    let value_above = c.deref_mut-2.ensures.value in
    let deepens_below : Deepens (along Down all) old.below.items c.deepen.new.depths = subst (λ (ds : List ℕ). Deepens (along Down all) ds c.deepen.new.depths) value_below c.deepen.ensures.deepens in
    let deepens_above : Deepens (along Up all) old.above.items c.deepen-2.new.depths = subst (λ (ds : List ℕ). Deepens (along Up all) ds c.deepen-2.new.depths) value_above c.deepen-2.ensures.deepens in
    let below = with_items_is old.below c.deepen.new.depths (omega (arith, deepens_below.length, old.below.ok.0)) in
    let above = with_items_is old.above c.deepen-2.new.depths (omega (arith, deepens_above.length, old.above.ok.0)) in
    let from_below : c.one_more-below.result ≡ one_more (depth_at old.below.items l.inner.0) = c.one_more-below.ensures ∙ ap one_more (c.depth_of.ensures ∙ ap (λ (ds : List ℕ). depth_at ds l.inner.0) c.deref.ensures.value) in
    let from_above : c.one_more-above.result ≡ one_more (depth_at old.above.items l.outer.0) = c.one_more-above.ensures ∙ ap one_more (c.depth_of-2.ensures ∙ ap (λ (ds : List ℕ). depth_at ds l.outer.0) c.deref-2.ensures.value) in
    let are_below = noted Down c.requires.last.0 all l old.below.items c.deepen.new.depths c.requires.last.1 deep.below deepens_below (omega (arith, c.deepen.ensures.least, from_below)) in
    let are_above = noted Up c.requires.last.0 all l old.above.items c.deepen-2.new.depths c.requires.last.1 deep.above deepens_above (omega (arith, c.deepen-2.ensures.least, from_above)) in
    record {
      below = subst (AreDepths (along Down all)) (sym below) are_below;
      above = subst (AreDepths (along Up all)) (sym above) are_above;
      places_below = subst (HasPlaces (edges all)) (sym (ap (λ (ds : List ℕ). length ds) below ∙ deepens_below.length)) c.requires.below;
      places_above = subst (HasPlaces (edges all)) (sym (ap (λ (ds : List ℕ). length ds) above ∙ deepens_above.length)) c.requires.above;
    }
