use Rattle.std.proofs.Common.{◌≡◌, ◌∙◌, ◌++◌, ◌+◌, ◌<◌, ◌∷◌, [], ℕ, All, List, ap, arith, filter, get_or, length, map, refl, subst, sym, take, take_all}
use Rattle.std.proofs.lemmas.Option.{get_or_from_slice_get}
use Rattle.ep_base.specs.declared.ids.DescId.{DescId}
use Rattle.ep_calls.proofs.ClimbLemmas.{climbs_none, climbs_on, linked_climbs, map_climbs_more}
use Rattle.ep_calls.proofs.GraphLemmas.{links_by_keys, links_mapped}
use Rattle.ep_calls.specs.Climb.{climbs_to, is_nested, is_nested_key, link_of}
use Rattle.ep_calls.specs.Stands.{IsLinked}
use Rattle.ep_climb.proofs.ClimbLemmas.{among_here, desc_ids, descs_more, fresh_on, freshened_is, is_kind}
use Rattle.ep_interest.specs.declared.entry.Entry.{Entry}
use Rattle.ep_machine.specs.Lists.{is_among}
use Rattle.ep_climb.proofs.climbing.freshen_reached.Goals as goal

pub loop-index-init : goal.loop-index-init
loop-index-init c = record { entries = sym (climbs_none (is_kind c.args.tables.now) c.args.tables.now.keys c.args.interest.now.entries); keys = refl; added = refl }

pub freshen_above-requires : goal.freshen_above-requires
freshen_above-requires c =
    let ks = c.args.reached.now.reached in
    let i = c.loop-index.index in
    let less : i < length ks = omega (arith, c.loop-index-test.true, c.count-index-end.ensures) in
    let here : get_or ks i 0 ≡ c.at.result = get_or_from_slice_get ks i c.at.result 0 c.at.ensures in
    c.requires.live (record { 0 = c.at.result }) (ap (is_among ks) (sym here) ∙ among_here ks i less)

pub loop-index-preserved : goal.loop-index-preserved
loop-index-preserved c =
    let v = c.args.tables.now in
    let old = c.args.interest.now in
    let ks = c.args.reached.now.reached in
    let i = c.loop-index.index in
    let d : DescId = record { 0 = c.at.result } in
    let less : i < length ks = omega (arith, c.loop-index-test.true, c.count-index-end.ensures) in
    let here : get_or ks i 0 ≡ d.0 = get_or_from_slice_get ks i d.0 0 c.at.ensures in
    let more : desc_ids (take i ks) ++ d ∷ [] ≡ desc_ids (take (i + 1) ks) = sym (descs_more ks i less ∙ ap (λ (j : ℕ). desc_ids (take i ks) ++ record { 0 = j } ∷ []) here) in
    record {
      entries =
          c.freshen_above.ensures.entries
          ∙ (ap (λ (xs : List Entry). map (climbs_to (is_nested_key v d) d) xs) c.loop-index.invariant.entries
          ∙ (map_climbs_more (is_kind v) v.keys (desc_ids (take i ks)) d old.entries
          ∙ ap (λ (ds : List DescId). map (climbs_on (is_kind v) v.keys ds) old.entries) more));
      keys = c.freshen_above.ensures.keys ∙ c.loop-index.invariant.keys;
      added = c.freshen_above.ensures.added ∙ c.loop-index.invariant.added;
    }

pub returns-clause-rises : goal.returns-clause-rises
returns-clause-rises c = λ n exact.
    let v = c.args.tables.now in
    let old = c.args.interest.now in
    let ks = c.args.reached.now.reached in
    let whole : take c.loop-index.index ks ≡ ks = take_all c.loop-index.index ks (omega (arith, c.loop-index-test.false, c.count-index-end.ensures)) in
    record {
      entries = c.loop-index.invariant.entries ∙ (ap (λ (js : List ℕ). map (fresh_on v js) old.entries) whole ∙ freshened_is n v old ks c.requires.linked exact);
      added = c.loop-index.invariant.added;
    }

pub returns-clause-linked : goal.returns-clause-linked
returns-clause-linked c =
    let v = c.args.tables.now in
    let old = c.args.interest.now in
    let ks = take c.loop-index.index c.args.reached.now.reached in
    subst (All (IsLinked v.keys)) (sym c.loop-index.invariant.entries) (linked_climbs (is_kind v) v.keys (desc_ids ks) old.entries c.requires.linked)

pub returns-clause-nested : goal.returns-clause-nested
returns-clause-nested c = λ ls h.
    let v = c.args.tables.now in
    let old = c.args.interest.now in
    let on = fresh_on v (take c.loop-index.index c.args.reached.now.reached) in
    let new = c.loop-index.interest in
    h
    ∙ sym (links_by_keys old new (is_nested v) new.entries c.loop-index.invariant.keys
    ∙ (ap (λ (xs : List Entry). map (link_of old) (filter (is_nested v) xs)) c.loop-index.invariant.entries
    ∙ links_mapped old (is_nested v) on (λ x. refl) (λ x. refl) old.entries))
