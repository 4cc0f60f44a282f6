use Rattle.std.proofs.Common.{◌≡◌, ◌<◌, ◌∙◌, IsSome, Some, ap, arith, length, refl, slice_get, subst, sym}
use Rattle.std.specs.Option.{option_map}
use Rattle.ep_calls.specs.Parts.{Parts}
use Rattle.ep_calls.specs.Stands.{AreLinked}
use Rattle.ep_choice.proofs.GatherLemmas.{chosen_of, key_number}
use Rattle.ep_choice.proofs.WalkLemmas.{among_place, find_at, find_end, vain_on}
use Rattle.ep_choice.specs.Choose.{AreCandidates, finds_key}
use Rattle.ep_interest.specs.Registrations.{IsSound, Registrations, entry_found, entry_under, number_under as entry_number}
use Rattle.ep_interest.specs.declared.entry.Entry.{Entry}
use Rattle.ep_walk.specs.Walk.{Walk}
use Rattle.ep_choice.proofs.choosing.choose_exclusive.Goals as goal

pub loop-index-init : goal.loop-index-init
loop-index-init g c =
    record {
      keys = refl;
      none = refl;
      vain = c.requires.vain;
      room = refl;
      answers = record { found = c.requires.answers.found; vain = c.requires.answers.vain };
      knows = c.requires.knows;
    }

pub finds-requires-clause-there : goal.finds-requires-clause-there
finds-requires-clause-there g c =
    let ks = c.gather.new.candidates.reached in
    let k = c.at.result in
    let same = c.loop-index.invariant.keys in
    let within : c.loop-index.index < length ks = omega (arith, c.loop-index-test.true, c.count-index-end.ensures) in
    let at : slice_get ks c.loop-index.index ≡ Some k = ap (λ (w : Walk). slice_get w.reached c.loop-index.index) (sym same) ∙ c.at.ensures in
    subst (λ (r : Registrations). IsSome (entry_number r (record { 0 = k }))) (ap (λ (q : Parts). q.interest) c.parts.view_is)
    (c.gather.ensures.sound k (among_place ks c.loop-index.index k within at))

pub loop-index-preserved : goal.loop-index-preserved
loop-index-preserved g c =
    let p = c.args.parts.now in
    let ks = c.gather.new.candidates.reached in
    let v = c.loop-index.invariant in
    let at : slice_get ks c.loop-index.index ≡ Some c.at.result = ap (λ (w : Walk). slice_get w.reached c.loop-index.index) (sym v.keys) ∙ c.at.ensures in
    record {
      keys = c.finds.ensures.keys ∙ v.keys;
      none = vain_on (finds_key p.tables p.clock p.interest p.parked) ks c.loop-index.index c.at.result (omega (arith, c.loop-index-test.true, c.count-index-end.ensures)) at v.none (sym c.finds.ensures.exact ∙ c.if-finds.false);
      vain = c.finds.ensures.vain;
      room = c.finds.ensures.room ∙ v.room;
      answers = c.finds.ensures.answers;
      knows = c.finds.ensures.knows;
    }

pub returns-then-finds-clause-exact : goal.returns-then-finds-clause-exact
returns-then-finds-clause-exact g c =
    let p = c.args.parts.now in
    let ks = c.gather.new.candidates.reached in
    let v = c.loop-index.invariant in
    let at : slice_get ks c.loop-index.index ≡ Some c.at.result = ap (λ (w : Walk). slice_get w.reached c.loop-index.index) (sym v.keys) ∙ c.at.ensures in
    let candidates = subst (λ (r : Registrations). AreCandidates r c.args.target c.args.step ks) (ap (λ (q : Parts). q.interest) c.parts.view_is) c.gather.ensures.exact in
    let sound_r = subst (λ (q : Parts). IsSound q.interest) c.parts.view_is c.known-2.ensures in
    let linked = subst (λ (q : Parts). AreLinked q.tables q.interest) c.parts.view_is c.parts.invariant.linked in
    let under = ap (entry_found c.parts.inside.interest.entries) c.entry.ensures.number ∙ c.entry.ensures.entry in
    let there = ap (λ (q : Parts). entry_under q.interest (record { 0 = c.at.result })) (sym c.parts.view_is) ∙ under in
    let first = find_at (finds_key p.tables p.clock p.interest p.parked) ks c.loop-index.index c.at.result at v.none (sym c.finds.ensures.exact ∙ c.if-finds.true) in
    sym (ap (key_number p.interest) first ∙ ap (option_map (λ (x : Entry). x.number)) there)
    ∙ chosen_of p.tables p.clock p.interest p.parked c.args.step c.args.target c.known.ensures.sound c.requires.live sound_r linked c.requires.instances ks candidates

pub returns-clause-exact : goal.returns-clause-exact
returns-clause-exact g c =
    let p = c.args.parts.now in
    let ks = c.gather.new.candidates.reached in
    let candidates = subst (λ (r : Registrations). AreCandidates r c.args.target c.args.step ks) (ap (λ (q : Parts). q.interest) c.parts.view_is) c.gather.ensures.exact in
    let sound_r = subst (λ (q : Parts). IsSound q.interest) c.parts.view_is c.known-2.ensures in
    let linked = subst (λ (q : Parts). AreLinked q.tables q.interest) c.parts.view_is c.parts.invariant.linked in
    let none = find_end (finds_key p.tables p.clock p.interest p.parked) ks c.loop-index.index (omega (arith, c.loop-index-test.false, c.count-index-end.ensures)) c.loop-index.invariant.none in
    sym (ap (key_number p.interest) none)
    ∙ chosen_of p.tables p.clock p.interest p.parked c.args.step c.args.target c.known.ensures.sound c.requires.live sound_r linked c.requires.instances ks candidates
