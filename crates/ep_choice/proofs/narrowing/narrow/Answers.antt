use Rattle.std.proofs.Common.{◌≡◌, ◌∙◌, ◌+◌, ◌++◌, ◌∷◌, [], ◌<◌, ℕ, IsSome, List, ap, arith, length, refl, subst, sym, take, take_all}
use Rattle.std.proofs.lemmas.List.{take_more}
use Rattle.ep_facts.proofs.NatFacts.{is_positive}
use Rattle.ep_calls.proofs.EntryLemmas.{holds_under, key_of}
use Rattle.ep_calls.specs.Parts.{Parts}
use Rattle.ep_calls.specs.Stands.{AreLinked, IsLinked}
use Rattle.ep_choice.proofs.AnswersLemmas.{answers_kept, none_answered, vain_kept, vain_none}
use Rattle.ep_choice.proofs.NarrowLemmas.{Narrows, narrows_begins, narrows_end, narrows_instances, narrows_keys, narrows_on, narrows_roomy, narrows_settled}
use Rattle.ep_choice.proofs.WalkLemmas.{among_place, at_place}
use Rattle.ep_choice.specs.Answers.{AreAnswers}
use Rattle.ep_choice.specs.Narrow.{AreTargets, HaveTargets}
use Rattle.ep_interest.specs.Registrations.{IsSound}
use Rattle.ep_walk.specs.Walk.{Walk}
use Rattle.ep_table.specs.Value.{number_under}
use Rattle.ep_choice.proofs.narrowing.narrow.Goals as goal

not_below_none : (i : ℕ) → i < 0 → ⊥
not_below_none i h = omega (arith, h)

pub loop-index-init : goal.loop-index-init
loop-index-init g c =
    let p = c.args.parts.now in
    let linked = subst (λ (q : Parts). AreLinked q.tables q.interest) c.parts.view_is c.parts.invariant.linked in
    record {
      narrows = narrows_begins p c.args.step c.known.ensures.sound (is_positive c.args.step c.requires.step) linked;
      room = c.begin.ensures.room;
      keys = ap (λ (w : Walk). w.room) c.begin.ensures.keys;
      vain = λ some. vain_none p c.begin.new.reached (c.begin.ensures.none some);
      answers = none_answered p.tables p.clock p.interest p.parked c.begin.new.candidates c.begin.ensures.unknown;
      idle = λ none. (c.begin.ensures.idle none, refl);
      knows = c.requires.knows;
    }

pub choose_exclusive-chosen-requires-clause-live : goal.choose_exclusive-chosen-requires-clause-live
choose_exclusive-chosen-requires-clause-live g c =
    let p = c.args.parts.now in
    let ks = c.reach_targets.new.targets.reached in
    let k = c.at.result in
    let linked = subst (λ (q : Parts). AreLinked q.tables q.interest) c.parts.view_is c.parts.invariant.linked in
    let sound = subst (λ (q : Parts). AreTargets q.interest ks) c.parts.view_is c.reach_targets.ensures.sound in
    let at = sound k (among_place ks c.loop-index.index k (omega (arith, c.loop-index-test.true, c.count-index-end.ensures)) c.at.ensures) in
    let link = holds_under (IsLinked p.tables.keys) p.interest at.0 at.1 linked at.2 in
    subst (λ (q : Parts). IsSome (number_under q.tables (record { 0 = k }))) (sym c.loop-index.invariant.narrows.others)
    (subst (λ (m : ℕ). IsSome (number_under p.tables (record { 0 = m }))) at.3 link.desc)

pub choose_exclusive-chosen-requires-clause-instances : goal.choose_exclusive-chosen-requires-clause-instances
choose_exclusive-chosen-requires-clause-instances g c =
    let p = c.args.parts.now in
    let ks = c.reach_targets.new.targets.reached in
    let linked = subst (λ (q : Parts). AreLinked q.tables q.interest) c.parts.view_is c.parts.invariant.linked in
    narrows_instances p c.args.step c.known.ensures.sound (is_positive c.args.step c.requires.step) linked (take c.loop-index.index ks) c.loop-index.parts c.loop-index.invariant.narrows c.requires.instances

pub choose_exclusive-chosen-requires-clause-room : goal.choose_exclusive-chosen-requires-clause-room
choose_exclusive-chosen-requires-clause-room g c =
    let p = c.args.parts.now in
    let ks = c.reach_targets.new.targets.reached in
    let linked = subst (λ (q : Parts). AreLinked q.tables q.interest) c.parts.view_is c.parts.invariant.linked in
    let roomy = narrows_roomy p c.args.step c.known.ensures.sound (is_positive c.args.step c.requires.step) linked (take c.loop-index.index ks) c.loop-index.parts c.args.reached.now c.loop-index.invariant.narrows c.requires.room in
    λ id x under. subst (λ (m : ℕ). x.instance.0 < m) (sym c.loop-index.invariant.room) (roomy id x under)

pub choose_exclusive-chosen-requires-clause-vain : goal.choose_exclusive-chosen-requires-clause-vain
choose_exclusive-chosen-requires-clause-vain g c = c.loop-index.invariant.vain (omega (arith, c.loop-index-test.true, c.count-index-end.ensures))

pub choose_exclusive-chosen-requires-clause-keys : goal.choose_exclusive-chosen-requires-clause-keys
choose_exclusive-chosen-requires-clause-keys g c =
    let p = c.args.parts.now in
    let ks = c.reach_targets.new.targets.reached in
    let linked = subst (λ (q : Parts). AreLinked q.tables q.interest) c.parts.view_is c.parts.invariant.linked in
    let has = narrows_keys p c.args.step c.known.ensures.sound (is_positive c.args.step c.requires.step) linked (take c.loop-index.index ks) c.loop-index.parts c.args.candidates.now.keys c.loop-index.invariant.narrows c.requires.keys in
    λ id x under exclusive. subst (λ (m : ℕ). id.0 < m) (sym c.loop-index.invariant.keys) (has id x under exclusive)

pub loop-index-preserved : goal.loop-index-preserved
loop-index-preserved g c =
    let p = c.args.parts.now in
    let n = c.args.step in
    let ks = c.reach_targets.new.targets.reached in
    let i = c.loop-index.index in
    let k = c.at.result in
    let mid = c.loop-index.parts in
    let new = c.keep.new.parts in
    let linked = subst (λ (q : Parts). AreLinked q.tables q.interest) c.parts.view_is c.parts.invariant.linked in
    let sound = subst (λ (q : Parts). AreTargets q.interest ks) c.parts.view_is c.reach_targets.ensures.sound in
    let lt : i < length ks = omega (arith, c.loop-index-test.true, c.count-index-end.ensures) in
    let at = sound k (among_place ks i k lt c.at.ensures) in
    let link = holds_under (IsLinked p.tables.keys) p.interest at.0 at.1 linked at.2 in
    let live = subst (λ (m : ℕ). IsSome (number_under p.tables (record { 0 = m }))) at.3 link.desc in
    let more : take (i + 1) ks ≡ take i ks ++ k ∷ [] = take_more ks i 0 lt ∙ ap (λ (m : ℕ). take i ks ++ m ∷ []) (at_place ks i k c.at.ensures) in
    record {
      narrows =
          subst (λ (ds : List ℕ). Narrows p n ds new) (sym more)
          (narrows_on p n c.known.ensures.sound (is_positive n c.requires.step) linked (take i ks) (record { 0 = k }) mid new c.choose_exclusive-chosen.result live c.loop-index.invariant.narrows c.choose_exclusive-chosen.ensures.exact
          c.keep.ensures.entries c.keep.ensures.keys c.keep.ensures.added c.keep.ensures.next c.keep.ensures.others);
      room = c.choose_exclusive-chosen.ensures.room ∙ c.loop-index.invariant.room;
      keys = c.choose_exclusive-chosen.ensures.keys ∙ c.loop-index.invariant.keys;
      vain = λ lt.
          vain_kept mid new (record { 0 = k }) c.choose_exclusive-chosen.result c.choose_exclusive-chosen.new.reached.reached c.keep.ensures.entries c.keep.ensures.keys c.keep.ensures.others
          c.choose_exclusive-chosen.ensures.vain;
      answers =
          subst (λ (q : Parts). AreAnswers q.tables q.clock new.interest q.parked c.choose_exclusive-chosen.new.candidates) (sym c.keep.ensures.others)
          (answers_kept mid.tables mid.clock mid.interest new.interest mid.parked (record { 0 = k }) c.choose_exclusive-chosen.result c.keep.ensures.entries c.choose_exclusive-chosen.new.candidates
          c.choose_exclusive-chosen.ensures.answers);
      idle = λ none. absurd (not_below_none i (subst (λ (m : ℕ). i < m) (ap length none) lt));
      knows =
          subst (λ (q : Parts). g.R.Readiness.knows c.choose_exclusive-chosen.new.ready q.tables q.clock new.interest) (sym c.keep.ensures.others)
          (c.requires.lasts c.choose_exclusive-chosen.new.ready mid.tables mid.clock mid.interest new.interest (record { 0 = k }) c.choose_exclusive-chosen.result c.keep.ensures.entries c.keep.ensures.keys c.keep.ensures.added c.keep.ensures.next
          c.choose_exclusive-chosen.ensures.knows);
    }

pub returns-clause-watches : goal.returns-clause-watches
returns-clause-watches g c =
    let p = c.args.parts.now in
    let ks = c.reach_targets.new.targets.reached in
    let linked = subst (λ (q : Parts). AreLinked q.tables q.interest) c.parts.view_is c.parts.invariant.linked in
    let sound_r = subst (λ (q : Parts). IsSound q.interest) c.parts.view_is c.known-2.ensures in
    let complete = subst (λ (q : Parts). HaveTargets q.interest ks) c.parts.view_is c.reach_targets.ensures.complete in
    let whole : take c.loop-index.index ks ≡ ks = take_all c.loop-index.index ks (omega (arith, c.loop-index-test.false, c.count-index-end.ensures)) in
    narrows_end p c.args.step c.known.ensures.sound (is_positive c.args.step c.requires.step) linked ks c.loop-index.parts
    (λ x m exclusive passes. let key = key_of p.interest sound_r x m in complete key.0 x key.1 exclusive passes)
    (subst (λ (ds : List ℕ). Narrows p c.args.step ds c.loop-index.parts) whole c.loop-index.invariant.narrows)

pub returns-clause-entries : goal.returns-clause-entries
returns-clause-entries g c =
    let p = c.args.parts.now in
    let linked = subst (λ (q : Parts). AreLinked q.tables q.interest) c.parts.view_is c.parts.invariant.linked in
    narrows_settled p c.args.step c.known.ensures.sound (is_positive c.args.step c.requires.step) linked (take c.loop-index.index c.reach_targets.new.targets.reached) c.loop-index.parts c.loop-index.invariant.narrows

pub returns-clause-candidates : goal.returns-clause-candidates
returns-clause-candidates g c = c.loop-index.invariant.keys

pub returns-clause-idle : goal.returns-clause-idle
returns-clause-idle g c = c.loop-index.invariant.idle
